-- A new child of what a name leads to.
use Rattle.std.proofs.Common.{◌≡◌, ◌≢◌, ℕ, ◌*◌, ◌/◌, ◌<◌, false, List, [], ◌∷◌, ◌++◌, length, Option, Some, None, Ok, inl, refl, sym, ap, subst, ◌∙◌, arith}
use Rattle.std.specs.List.{AllByRecursion}
use Rattle.std.specs.Str.{IsUtf8}
use Rattle.std.proofs.lemmas.List.{length-map}
use Rattle.std.proofs.lemmas.Option.{none-some}
use Rattle.store_model.specs.Folder.{Held, has_name}
use Rattle.vx_base.specs.declared.parts.Geometry.{Geometry}
use Rattle.vx_base.specs.Fields.{IsGuid}
use Rattle.vx_base.specs.Names.{IsName}
use Rattle.vhdx_format.specs.AllocationTables.{IsBlockSize}
use Rattle.vhdx_format.specs.Fields.{megabyte}
use Rattle.vhdx_format.specs.FileParts as format
use Rattle.vhdx_format.specs.Locators.{child_pairs, locator_bytes}
use Rattle.vhdx_format.specs.MadeFiles.{child_metadata}
use Rattle.vhdx_format.specs.MadeLaws.{IsMakeable, made_parts}
use Rattle.vhdx_format.proofs.ChildLocators.{children_name_parents}
use Rattle.vhdx_format.proofs.MadeOpen.{child_files_open}
use Rattle.guest_model.specs.Calls.{Disk}
use Rattle.chain_model.specs.Files.{Files, IsIn, IsLinked, OpensTo}
use Rattle.chain_model.specs.Members.{IsInUse, IsParentOf, Leads, Member, NoneTwice, Ties, disk_of}
use Rattle.chain_model.specs.Members as members
use Rattle.chain_model.proofs.Linking.{both_linked}
use Rattle.link_rules.specs.Chains.{Links, names_of}
use Rattle.link_rules.specs.Folders.{contents}
use Rattle.link_rules.specs.Laws.{AreMembers, IsMember, IsTheChain}
use Rattle.link_rules.specs.Lines.{BeginsWith}
use Rattle.link_rules.specs.declared.linked.Linked.{Linked}
use Rattle.link_rules.specs.declared.linked.LinkedFile.{LinkedFile}
use Rattle.link_rules.proofs.Chained.{links_are_chains, names_same}
use Rattle.make_file.specs.Makes.{HasMade}
use Rattle.command_base.specs.Folders.{files_of}
use Rattle.command_base.proofs.Followed.{last_in}
use Rattle.grown_chains.specs.Grown.{HasDisk, IsTyped, child_of}
use Rattle.grown_chains.proofs.Added.{KeepsChains, free_of, made_keeps, made_there}
use Rattle.grown_chains.proofs.Alone.{disk_above, linked_above, member_of, own_layer}
use Rattle.grown_chains.proofs.Sized.{IsSized, read_sized}

-- ---- retired leaves before a chain left out

once_last : (a b : List Member) → NoneTwice (members.names_of (a ++ b)) → NoneTwice (members.names_of b)
once_last [] b once = once
once_last (m ∷ a) b once = once_last a b once.1

leads_last : (retired chain : List Member) → Leads retired chain → IsInUse chain
leads_last [] chain leads = leads
leads_last (m ∷ retired) chain leads = leads_last retired chain leads.1

unretired : (files : Files) (leaf : List ℕ) (retired : List Member) (first : Member) (below : List Member) → IsLinked files leaf retired (first ∷ below) → IsLinked files first.name [] (first ∷ below)
unretired files leaf retired first below linked = record {
  there = last_in (IsIn files) retired (first ∷ below) linked.there;
  is = record {
    named = refl;
    leads = leads_last retired (first ∷ below) linked.is.leads;
    linked = linked.is.linked;
    once = once_last retired (first ∷ below) linked.is.once;
    few = linked.is.few;
  };
}

-- no file has a name that is free
all_apart : (files : Files) (name : List ℕ) (chain : List Member) → files name ≡ None → AllByRecursion (IsIn files) chain → AllByRecursion (λ other. other ≢ name) (members.names_of chain)
all_apart files name [] free there = tt
all_apart files name (m ∷ chain) free there = (λ same. none-some there.0.file (sym free ∙ ap files (sym same) ∙ there.0.there), all_apart files name chain free there.1)

-- ---- the first file of a chain

record IsFirst (chain : List Member) (leaf : LinkedFile) : Type 0 where
  first : Member
  below : List Member
  is : chain ≡ first ∷ below
  member : IsMember first leaf

first_of : (chain : List Member) (files : List LinkedFile) (leaf : LinkedFile) (rest : List LinkedFile) → files ≡ leaf ∷ rest → AreMembers chain files → IsFirst chain leaf
first_of chain files leaf rest is are = by_chain chain (subst (AreMembers chain) is are)
  where
    by_chain : (c : List Member) → AreMembers c (leaf ∷ rest) → IsFirst c leaf
    by_chain [] h = absurd h
    by_chain (m ∷ below) h = record { first = m; below = below; is = refl; member = h.0 }

whole_sectors : (g : Geometry) → g.sector ≡ 512 → g ≡ record { sector = 512; sectors = 512 * g.sectors / 512 }
whole_sectors g e =
    let whole : g.sectors ≡ 512 * g.sectors / 512 = omega arith in
    ap (λ (n : ℕ). record { sector = n; sectors = g.sectors }) e ∙ ap (λ (n : ℕ). record { sector = 512; sectors = n }) whole

-- ---- a child

names_its_parent : (name file_write data_write disk : List ℕ) (size block : ℕ) (id named file : List ℕ) (parent : Member) → parent.name ≡ named → parent.ties.id ≡ id
    → parent.ties.geometry ≡ record { sector = 512; sectors = size / 512 } → IsGuid id → IsName named → IsUtf8 named
    → IsParentOf (member_of name file (made_parts file_write data_write (child_metadata size block disk id named))) parent
unfolding format.parts_of
names_its_parent name file_write data_write disk size block id named file parent same_name same_id geometry guid is_name text =
    let n = children_name_parents id named guid is_name text in
    record {
      has = refl;
      item = locator_bytes (child_pairs id named);
      locator = refl;
      pairs = child_pairs id named;
      read = n.is_locator;
      named = n.named ∙ ap (λ x. Some x) (sym same_name);
      linked = inl (n.linked ∙ ap (λ x. Some x) (sym same_id));
      geometry = geometry;
    }

-- of a chain that a name leads to in a folder, where the child is added to a later one that keeps its chains
module _ (folder mid after : List Held) (name parent file_write data_write : List ℕ) (block : ℕ) (linked : Linked) (leaf : LinkedFile) (links : Links (contents folder) parent (Ok linked))
    (begins : BeginsWith leaf linked.files) (typed : IsTyped leaf) (few : length linked.files < 64) (keeps : KeepsChains (files_of folder) (files_of mid)) (free : has_name name mid ≡ false)
    (of_file : IsGuid file_write) (of_data : IsGuid data_write) (of_block : IsBlockSize (megabyte * block)) (made : HasMade name (child_of leaf file_write data_write block) mid (Some after)) where
  found : IsTheChain (contents folder) parent linked
  found = links_are_chains (contents folder) parent linked links

  top : IsFirst found.chain leaf
  top = first_of found.chain linked.files leaf begins.rest begins.is found.members

  in_folder : IsLinked (files_of folder) parent found.retired (top.first ∷ top.below)
  in_folder = subst (IsLinked (files_of folder) parent found.retired) top.is found.linked

  in_mid : IsLinked (files_of mid) top.first.name [] (top.first ∷ top.below)
  in_mid = unretired (files_of mid) parent found.retired top.first top.below (keeps parent found.retired (top.first ∷ top.below) in_folder)

  in_after : IsLinked (files_of after) top.first.name [] (top.first ∷ top.below)
  in_after = made_keeps name (child_of leaf file_write data_write block) mid after made top.first.name [] (top.first ∷ top.below) in_mid

  geometry_is : top.first.ties.geometry ≡ leaf.parts.geometry
  geometry_is = ap (λ (t : Ties). t.geometry) top.member.ties

  sized : IsSized leaf.parts.geometry
  sized =
      let m = in_mid.there.0 in
      subst IsSized (ap (λ (t : Ties). t.geometry) (sym m.ties) ∙ geometry_is) (read_sized m.reads.header m.held m.parts m.reads.numbers)

  names_are : members.names_of (top.first ∷ top.below) ≡ names_of linked.files
  names_are = ap members.names_of (sym top.is) ∙ names_same found.chain linked.files found.members

  few_below : length (top.first ∷ top.below) < 64
  few_below =
      let long : length (top.first ∷ top.below) ≡ length linked.files =
      sym (length-map (top.first ∷ top.below) (λ (m : Member). m.name)) ∙ ap length names_are ∙ length-map linked.files (λ (x : LinkedFile). x.name) in
      omega (arith, few, long)

  same_disk : (disk : Disk) → OpensTo (files_of folder) parent disk → disk_of (top.first ∷ top.below) ≡ disk
  same_disk disk o = ap disk_of (both_linked (files_of folder) parent found.retired o.retired (top.first ∷ top.below) o.chain in_folder o.linked).1 ∙ o.is

  makeable : IsMakeable file_write data_write leaf.parts.disk (512 * leaf.parts.geometry.sectors) (megabyte * block)
  makeable = record {
    of_file = of_file;
    of_data = of_data;
    of_disk = typed.disk;
    sectors = omega arith;
    one_sector = omega (arith, sized.some);
    most = omega (arith, sized.most);
    of_block = of_block;
  }

  pub child_has : (disk : Disk) → OpensTo (files_of folder) parent disk → HasDisk after name disk (name ∷ names_of linked.files)
  unfolding format.parts_of
  child_has disk o =
      let file = child_of leaf file_write data_write block in
      let id = leaf.parts.header.data_write in
      let size : ℕ = 512 * leaf.parts.geometry.sectors in
      let parts = made_parts file_write data_write (child_metadata size (megabyte * block) leaf.parts.disk id leaf.name) in
      let opens = child_files_open file_write data_write leaf.parts.disk size (megabyte * block) id leaf.name makeable typed.name typed.text in
      let there = made_there name file mid after made free in
      let geometry = geometry_is ∙ whole_sectors leaf.parts.geometry sized.sector in
      let is_parent =
      names_its_parent name file_write data_write leaf.parts.disk size (megabyte * block) id leaf.name file top.first top.member.name (ap (λ (t : Ties). t.id) top.member.ties) geometry typed.id typed.name
      typed.text in
      let apart = all_apart (files_of mid) name (top.first ∷ top.below) (free_of name mid free) in_mid.there in
      let chain = linked_above (files_of after) name file parts (λ s. None) opens there top.first top.below refl is_parent in_after apart few_below in
      let same = disk_above name file parts top.first top.below geometry (own_layer (files_of after) name file parts (λ s. None) opens there) ∙ same_disk disk o in
      record {
        opens = record { retired = []; chain = member_of name file parts ∷ top.first ∷ top.below; linked = chain; is = same };
        leads = record { retired = []; chain = member_of name file parts ∷ top.first ∷ top.below; linked = chain; are = ap (λ ns. name ∷ ns) names_are };
      }
