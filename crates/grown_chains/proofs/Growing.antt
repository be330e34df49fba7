-- New disks and new children of a folder, and those that `make` made.
use Rattle.std.proofs.Common.{◌≡◌, ℕ, ◌*◌, ◌/◌, ◌<◌, false, List, [], ◌∷◌, ◌++◌, length, replicate, Option, Some, Ok, refl, sym, ap, subst, ◌∙◌, arith}
use Rattle.std.proofs.lemmas.List.{length-map}
use Rattle.store_model.specs.Folder.{Held, has_name}
use Rattle.vx_base.specs.Fields.{IsGuid, zeros}
use Rattle.vhdx_format.specs.Fields.{megabyte, sector_size}
use Rattle.vhdx_format.specs.FileParts as format
use Rattle.vhdx_format.specs.MadeFiles.{base_metadata, dynamic_file}
use Rattle.vhdx_format.specs.MadeLaws.{IsMakeable, made_parts}
use Rattle.vhdx_format.proofs.MadeOpen.{dynamic_files_open}
use Rattle.chain_model.specs.Files.{layer_in}
use Rattle.chain_model.specs.Members.{disk_of}
use Rattle.link_rules.specs.Chains.{names_of}
use Rattle.link_rules.specs.Folders.{contents}
use Rattle.link_rules.specs.Touches.{IsOnWay}
use Rattle.link_rules.specs.declared.linked.LinkedFile.{LinkedFile}
use Rattle.make_file.specs.Makes.{HasMade, held_as}
use Rattle.command_line.specs.Requests as new
use Rattle.command_base.specs.Commands.{IsNewFile}
use Rattle.command_base.specs.Folders.{files_of}
use Rattle.grown_chains.specs.Grown.{ChildrenOpen, HasDisk, MadeChildrenOpen, MadeDisksOpen, NewDisksOpen, child_of}
use Rattle.grown_chains.proofs.Added.{followed_keeps, keeps_disks, links_lead, made_keeps, made_there, names_stay, one_way}
use Rattle.grown_chains.proofs.Alone.{linked_alone, member_of, own_layer, zeros_disk}
use Rattle.grown_chains.proofs.Children.{child_has}

-- ---- a new disk

module _ (folder after : List Held) (name file_write data_write disk : List ℕ) (sectors block : ℕ) (is_new : IsNewFile (new.dynamic sectors block)) (of_file : IsGuid file_write) (of_data : IsGuid data_write)
    (of_disk : IsGuid disk) (free : has_name name folder ≡ false) (made : HasMade name (dynamic_file file_write data_write disk (512 * sectors) (megabyte * block)) folder (Some after)) where
  makeable : IsMakeable file_write data_write disk (512 * sectors) (megabyte * block)
  makeable = record {
    of_file = of_file;
    of_data = of_data;
    of_disk = of_disk;
    sectors = omega arith;
    one_sector = omega (arith, is_new.0);
    most = omega (arith, is_new.1);
    of_block = is_new.2;
  }

  disk_has : HasDisk after name (replicate sectors (zeros 512)) (name ∷ [])
  unfolding format.parts_of
  disk_has =
      let file = dynamic_file file_write data_write disk (512 * sectors) (megabyte * block) in
      let parts = made_parts file_write data_write (base_metadata (512 * sectors) (megabyte * block) false disk) in
      let opens = dynamic_files_open file_write data_write disk (512 * sectors) (megabyte * block) makeable in
      let there = made_there name file folder after made free in
      let chain = linked_alone (files_of after) name file parts (λ s. Some (zeros 512)) opens there refl refl in
      let whole : 512 * sectors / 512 ≡ sectors = omega arith in
      let is : disk_of (member_of name file parts ∷ []) ≡ replicate sectors (zeros 512) =
      zeros_disk 512 (512 * sectors / 512) (layer_in file parts) (own_layer (files_of after) name file parts (λ s. Some (zeros 512)) opens there) ∙ ap (λ (n : ℕ). replicate n (zeros 512)) whole in
      record {
        opens = record { retired = []; chain = member_of name file parts ∷ []; linked = chain; is = is };
        leads = record { retired = []; chain = member_of name file parts ∷ []; linked = chain; are = refl };
      }

pub new_disks_open : NewDisksOpen
new_disks_open = disk_has

pub children_open : ChildrenOpen
children_open folder after name parent file_write data_write block linked leaf disk links begins typed few opens of_file of_data of_block free made =
    child_has folder folder after name parent file_write data_write block linked leaf links begins typed few (λ other retired chain is. is) free of_file of_data of_block made disk opens

-- ---- what `make` made

-- the folder with the file at its end
as_made : (name bytes : List ℕ) (folder : List Held) (now : Option (List Held)) (made : HasMade name bytes folder now) → HasMade name bytes folder (Some (folder ++ held_as name made.file ∷ []))
as_made name bytes folder now made = record { file = made.file; folder_is = refl; bytes_are = made.bytes_are; synced = made.synced; unsealed = made.unsealed }

pub made_disks_open : MadeDisksOpen
made_disks_open name ids sectors block before now folder is_new told h =
    let bytes = dynamic_file ids.file_write ids.data_write ids.disk (512 * sectors) (megabyte * block) in
    let added : HasMade name bytes folder now.host.folder = h.added folder (h.looked ∙ told) in
    let after = folder ++ held_as name added.file ∷ [] in
    let made = as_made name bytes folder now.host.folder added in
    record {
      after = after;
      told = added.folder_is;
      has =
          disk_has folder after name ids.file_write ids.data_write ids.disk sectors block is_new (h.drawn.each 0 [] (omega arith)) (h.drawn.each 1 [] (omega arith)) (h.drawn.each 2 [] (omega arith))
          (h.free folder told) made;
      keeps = keeps_disks folder after (made_keeps name bytes folder after made);
    }

pub made_children_open : MadeChildrenOpen
made_children_open name parent ids leaf known block before now folder disk names is_new told is_parent typed has few h =
    let bytes = child_of leaf ids.file_write ids.data_write block in
    let f = h.looked folder told in
    let mid = f.0 in
    let added : HasMade name bytes mid now.host.folder = h.added mid f.1 in
    let after = mid ++ held_as name added.file ∷ [] in
    let made = as_made name bytes mid now.host.folder added in
    let keeps = followed_keeps (contents folder) (contents mid) f.2.alike in
    let linked = is_parent.linked in
    let same : names_of linked.files ≡ names = one_way (files_of folder) parent (names_of linked.files) names (links_lead folder parent linked is_parent.links) has.leads in
    let long : length linked.files ≡ length names = sym (length-map linked.files (λ (x : LinkedFile). x.name)) ∙ ap length same in
    record {
      after = after;
      told = added.folder_is;
      has =
          subst (λ ns. HasDisk after name disk (name ∷ ns)) same
          (child_has folder mid after name parent ids.file_write ids.data_write block linked leaf is_parent.links is_parent.begins typed (omega (arith, few, long)) keeps
          (names_stay (IsOnWay (contents folder) parent) name folder mid f.2.safe ∙ h.free folder told) (h.drawn.each 0 [] (omega arith)) (h.drawn.each 1 [] (omega arith)) is_new.1 made disk has.opens);
      keeps = keeps_disks folder after (λ other retired chain is. made_keeps name bytes mid after made other retired chain (keeps other retired chain is));
    }
