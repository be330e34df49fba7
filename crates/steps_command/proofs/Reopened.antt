-- A leaf's name leads to the chain behind the retired leaves that stand for it, whatever a crash leaves of a store that had its files.
use Rattle.std.proofs.Common.{◌≡◌, ◌≢◌, ℕ, Bool, true, List, [], ◌∷◌, ◌++◌, Option, Some, refl, sym, ap, subst, ◌∙◌}
use Rattle.std.specs.List.{AllByRecursion}
use Rattle.std.proofs.lemmas.List.{append_assoc}
use Rattle.store_model.specs.Folder.{Held, back_from, file_named, given_back, has_name, without}
use Rattle.store_model.specs.Trace.{NamedBytes, Trace}
use Rattle.guest_model.specs.Calls.{Disk}
use Rattle.chain_model.specs.Files.{Files, IsIn, IsLinked, IsWhole, files_in}
use Rattle.chain_model.specs.Members.{IsChainOf, Leads, Member, NoneTwice, first_name, Way}
use Rattle.chain_model.specs.Members as model
use Rattle.chain_model.specs.Moments.{EachOpens}
use Rattle.chain_model.proofs.Linking.{all_whole_in_more, more_files_link_alike, retired_may_lead, whole_by}
use Rattle.chain_model.proofs.Showing.{all_append}
use Rattle.link_rules.specs.Folders.{AllIdle, contents}
use Rattle.link_rules.specs.Laws.{at_rest_all}
use Rattle.chain_core.specs.Answering.{EachLinks}
use Rattle.steps_command.specs.Crashes.{EachImageOpens, IsCleanFolderImage}
use Rattle.command_base.specs.Folders.{LeadsTo}
use Rattle.command_base.proofs.Lent.{back_over, names_in}
use Rattle.steps_command.proofs.Returned.{AreBack, all_named, are_back, back_beside, clean_image, in_image, kept_in_image, of_names, restricted}

-- a way of this name
abbrev pub way_at : List ℕ → List (List ℕ) → Option (List ℕ) → Way
way_at name first drops = record { name = name; first = first; drops = drops }

-- ---- retired leaves before a chain

-- no file of a list has this name
abbrev AreApart : List ℕ → List Member → Type 0
AreApart name files = AllByRecursion (λ other. other ≢ name) (model.names_of files)

apart_both : (name : List ℕ) (a b : List Member) → AreApart name a → AreApart name b → AreApart name (a ++ b)
apart_both name [] b x y = y
apart_both name (m ∷ a) b x y = (x.0, apart_both name a b x.1 y)

-- each of some retired leaves has a name that no file has which they lead to
abbrev pub AllApart : List Member → List Member → Type 0
AllApart outer files = AllByRecursion (λ (m : Member). AreApart m.name files) outer

pub leads_on : (outer chain : List Member) (leaf : List ℕ) (retired later : List Member) → Leads outer chain → first_name chain ≡ leaf → NoneTwice (model.names_of outer) → AllApart outer (retired ++ later) → IsChainOf leaf retired later
    → IsChainOf (first_name (outer ++ chain)) (outer ++ retired) later
leads_on [] chain leaf retired later leads first once apart is = subst (λ n. IsChainOf n retired later) (sym first) is
leads_on (m ∷ outer) chain leaf retired later leads first once apart is =
    let rest = leads_on outer chain leaf retired later leads.1 first once.1 apart.1 is in
    retired_may_lead (first_name (outer ++ chain)) m (outer ++ retired) later rest leads.0 (names_apart outer once.0)
  where
    names_apart : (rest : List Member) → AreApart m.name rest → AllByRecursion (λ name. name ≢ m.name) (model.names_of ((rest ++ retired) ++ later))
    names_apart [] h = apart.0
    names_apart (x ∷ rest) h = (h.0, names_apart rest h.1)

-- each of some files is among more
all_in_more : (files more : Files) (members : List Member) → ((m : Member) → IsIn files m → IsIn more m) → AllByRecursion (IsIn files) members → AllByRecursion (IsIn more) members
all_in_more files more [] f h = tt
all_in_more files more (m ∷ members) f h = (f m h.0, all_in_more files more members f h.1)

in_more : (files more : Files) (m : Member) → ((file : _) → files m.name ≡ Some file → more m.name ≡ Some file) → IsIn files m → IsIn more m
in_more files more m f h = record { file = h.file; there = f h.file h.there; held = h.held; parts = h.parts; reads = h.reads; ties = h.ties; layer = h.layer }

both_in : (files : Files) (a b : List Member) → AllByRecursion (IsIn files) a → AllByRecursion (IsIn files) b → AllByRecursion (IsIn files) (a ++ b)
both_in files [] b x y = y
both_in files (m ∷ a) b x y = (x.0, both_in files a b x.1 y)

first_in : (files : Files) (a b : List Member) → AllByRecursion (IsIn files) (a ++ b) → AllByRecursion (IsIn files) a
first_in files [] b h = tt
first_in files (m ∷ a) b h = (h.0, first_in files a b h.1)

-- ---- what a crash leaves of the folder

-- no name of a store's files is one of these files'
abbrev pub OutOf : List (List ℕ) → List Member → Type 0
OutOf names outer = AllByRecursion (λ (m : Member). AllByRecursion (λ n. n ≢ m.name) names) outer

module _ (folder : List Held) (names : List (List ℕ)) (idle : AllIdle folder) (once : NoneTwice names) (there : AllByRecursion (λ name. has_name name folder ≡ true) names)
    (leaf : List ℕ) (outer chain : List Member) (linked : IsLinked (at_rest_all (contents folder)) leaf outer chain) (apart : OutOf names outer) (outer_once : NoneTwice (model.names_of outer))
    (trace : Trace) (same : names_in trace.attached ≡ names) where
  now : List Held
  now = given_back trace (without names folder)

  now_is : now ≡ back_from 0 trace.attached trace folder
  unfolding now
  now_is = ap (λ ns. back_from 0 trace.attached trace (without ns folder)) (sym same) ∙ back_over 0 trace.attached trace folder (subst NoneTwice (sym same) once)

  are_now : AreBack 0 trace.attached trace now
  are_now = subst (AreBack 0 trace.attached trace) (sym now_is)
      (are_back 0 trace.attached trace folder (subst NoneTwice (sym same) once) (subst (AllByRecursion (λ name. has_name name folder ≡ true)) (sym same) there))

  stays : (name : List ℕ) → AllByRecursion (λ n. n ≢ name) names → file_named name now ≡ file_named name folder
  stays name others = ap (file_named name) now_is ∙ back_beside name 0 trace.attached trace folder (subst (AllByRecursion (λ n. n ≢ name)) (sym same) others)

  module _ (image : List NamedBytes) (is : IsCleanFolderImage now image) where
    within : List NamedBytes
    within = restricted (names_in trace.attached) image

    more : (name : List ℕ) (file : _) → files_in within name ≡ Some file → files_in image name ≡ Some file
    unfolding within
    more = in_image image (names_in trace.attached) (all_named trace now image is.left is.whole 0 trace.attached are_now)

    -- what is linked among the store's files hasn't the name of a retired leaf
    not_outer : (m : Member) → AllByRecursion (λ n. n ≢ m.name) names → (files : List Member) → AllByRecursion (IsIn (files_in within)) files → AreApart m.name files
    unfolding within
    not_outer m others [] h = tt
    not_outer m others (x ∷ files) h = (
      of_names image m.name (names_in trace.attached) (subst (AllByRecursion (λ n. n ≢ m.name)) (sym same) others) x.name h.0.file h.0.there,
      not_outer m others files h.1,
    )

    all_apart : (rest : List Member) → OutOf names rest → (files : List Member) → AllByRecursion (IsIn (files_in within)) files → AllApart rest files
    all_apart [] out files h = tt
    all_apart (m ∷ rest) out files h = (not_outer m out.0 files h, all_apart rest out.1 files h)

    outer_in : (rest : List Member) → OutOf names rest → AllByRecursion (IsIn (at_rest_all (contents folder))) rest → AllByRecursion (IsIn (files_in image)) rest
    outer_in [] out h = tt
    outer_in (m ∷ rest) out h = (
      in_more (at_rest_all (contents folder)) (files_in image) m (λ file had. kept_in_image folder now m.name file image idle (stays m.name out.0) is.left is.whole had) h.0,
      outer_in rest out.1 h.1,
    )

    linked_behind : (retired later : List Member) → IsLinked (files_in within) (first_name chain) retired later → IsLinked (files_in image) leaf (outer ++ retired) later
    linked_behind retired later h = record {
      there = regroup (both_in (files_in image) outer (retired ++ later) (outer_in outer apart (first_in (at_rest_all (contents folder)) outer chain linked.there)) (more_files_link_alike (files_in within) (files_in image) (first_name chain) retired later more h).there);
      is = subst (λ n. IsChainOf n (outer ++ retired) later) linked.is.named
          (leads_on outer chain (first_name chain) retired later linked.is.leads refl outer_once (all_apart outer apart (retired ++ later) h.there) h.is);
    }
      where
        regroup : AllByRecursion (IsIn (files_in image)) (outer ++ (retired ++ later)) → AllByRecursion (IsIn (files_in image)) ((outer ++ retired) ++ later)
        regroup = by_list outer
          where
            by_list : (rest : List Member) → AllByRecursion (IsIn (files_in image)) (rest ++ (retired ++ later)) → AllByRecursion (IsIn (files_in image)) ((rest ++ retired) ++ later)
            by_list [] h = h
            by_list (m ∷ rest) h = (h.0, by_list rest h.1)

    -- and each retired leaf before them is as long
    outer_whole : (rest : List Member) → OutOf names rest → AllByRecursion (IsIn (at_rest_all (contents folder))) rest → AllByRecursion (IsWhole (at_rest_all (contents folder))) rest → AllByRecursion (IsWhole (files_in image)) rest
    outer_whole [] out h whole = tt
    outer_whole (m ∷ rest) out h whole = (
      whole_by (files_in image) m h.0.file h.0.held h.0.parts (kept_in_image folder now m.name h.0.file image idle (stays m.name out.0) is.left is.whole h.0.there) h.0.reads (whole.0 h.0.file h.0.there h.0.held h.0.parts h.0.reads),
      outer_whole rest out.1 h.1 whole.1,
    )

    whole_behind : AllByRecursion (IsWhole (at_rest_all (contents folder))) outer → (files : List Member) → AllByRecursion (IsIn (files_in within)) files → AllByRecursion (IsWhole (files_in within)) files → (rest later : List Member) → files ≡ rest ++ later
        → AllByRecursion (IsWhole (files_in image)) ((outer ++ rest) ++ later)
    whole_behind own files there whole rest later is_both =
        subst (AllByRecursion (IsWhole (files_in image))) (ap (λ f. outer ++ f) is_both ∙ sym (append_assoc outer rest later))
        (all_append (IsWhole (files_in image)) outer files (outer_whole outer apart (first_in (at_rest_all (contents folder)) outer chain linked.there) own) (all_whole_in_more (files_in within) (files_in image) more files there whole))

  -- what each image of the store is opened to each image of the folder is opened to
  pub images_reopen : AllByRecursion (IsWhole (at_rest_all (contents folder))) outer → (first : List (List ℕ)) (drops : Option (List ℕ)) (among : ℕ → Bool) (disk : Disk) → EachOpens (way_at (first_name chain) first drops) among disk trace
      → EachImageOpens (way_at leaf first drops) among disk (given_back trace (without names folder))
  unfolding now within
  images_reopen own first drops among disk opens image is =
      let o = opens (within image is) (clean_image trace now image is.left is.whole are_now) in
      record {
        retired = outer ++ o.retired;
        chain = o.chain;
        linked = linked_behind image is o.retired o.chain o.linked;
        by = o.by;
        whole = whole_behind image is own (o.retired ++ o.chain) o.linked.there o.whole o.retired o.chain refl;
        agrees = o.agrees;
      }

  -- and by the same files
  pub images_relink : (first : List (List ℕ)) (drops : Option (List ℕ)) (among : ℕ → Bool) (disk : Disk) (files : List (List ℕ)) → EachOpens (way_at (first_name chain) first drops) among disk trace → EachLinks (first_name chain) files trace → (image : List NamedBytes) → IsCleanFolderImage (given_back trace (without names folder)) image
      → LeadsTo (files_in image) leaf files
  unfolding now within
  images_relink first drops among disk files opens links image is =
      let clean = clean_image trace now image is.left is.whole are_now in
      let o = opens (within image is) clean in
      record { retired = outer ++ o.retired; chain = o.chain; linked = linked_behind image is o.retired o.chain o.linked; are = links (within image is) clean o.retired o.chain o.linked }

  -- so is the name of the chain's own first file
  pub images_link : (first : List (List ℕ)) (drops : Option (List ℕ)) (among : ℕ → Bool) (disk : Disk) (files : List (List ℕ)) → EachOpens (way_at (first_name chain) first drops) among disk trace → EachLinks (first_name chain) files trace → (image : List NamedBytes) → IsCleanFolderImage (given_back trace (without names folder)) image
      → LeadsTo (files_in image) (first_name chain) files
  unfolding now within
  images_link first drops among disk files opens links image is =
      let clean = clean_image trace now image is.left is.whole are_now in
      let o = opens (within image is) clean in
      record {
        retired = o.retired;
        chain = o.chain;
        linked = more_files_link_alike (files_in (within image is)) (files_in image) (first_name chain) o.retired o.chain (more image is) o.linked;
        are = links (within image is) clean o.retired o.chain o.linked;
      }
