-- New files are opened, and show their disks.
use Rattle.std.proofs.Common.{◌≡◌, ℕ, ◌+◌, ◌*◌, ◌/◌, ◌<◌, ◌≤◌, true, false, List, [], ◌∷◌, length, Option, Some, None, Ok, Err, refl, sym, ap, subst, ◌∙◌, arith}
use Rattle.std.specs.Prelude.{option_map}
use Rattle.std.proofs.lemmas.Grind.{div_ceil_times}
use Rattle.store_model.proofs.Parts.{length-part}
use Rattle.vx_base.proofs.ByteLists.{length-zeros}
use Rattle.vx_base.specs.declared.parts.Parts.{Parts}
use Rattle.vx_base.specs.Fields.{zeros}
use Rattle.vhdx_format.specs.Fields.{bytes_at}
use Rattle.vhdx_format.specs.FileParts as format
use Rattle.vhdx_format.specs.FileParts.{shape_of}
use Rattle.vhdx_format.specs.MadeFiles.{base_metadata, dynamic_file, fixed_file_holding, fixed_len}
use Rattle.vhdx_format.specs.MadeLaws.{IsMakeable, OpensAs, made_parts}
use Rattle.vhdx_format.proofs.LayerLemmas.{layer_by_sector}
use Rattle.vhdx_format.proofs.MadeOpen.{dynamic_files_open, fixed_files_open, zeros_within}
use Rattle.vhdx_format.proofs.SizeLemmas.{block_least}
use Rattle.layer_session.proofs.Sectors.{bytes_in}
use Rattle.guest_model.specs.Calls.{Disk}
use Rattle.chain_model.specs.Files.{IsIn, OpensTo, at_rest, layer_in}
use Rattle.chain_model.specs.Layers.{flat}
use Rattle.chain_model.specs.Members.{Member, ties_of}
use Rattle.chain_model.proofs.Layering.{length-flat, one_file}
use Rattle.chain_model.proofs.NewFiles.{opened_parts}
use Rattle.link_rules.specs.Folders.{contents}
use Rattle.store_model.specs.Folder.{Held}
use Rattle.command_base.specs.Dump.{Finds, read_limit}
use Rattle.command_base.specs.Dump as dump
use Rattle.command_base.specs.Folders.{files_of}
use Rattle.folder_commands.specs.Laws.{MadeFilesShow, Shows}
use Rattle.command_base.specs.Refusals.{OfCall}
use Rattle.guest_model.specs.declared.refusal.ChainRefusal.TheVariants.{OutOfRange}
use Rattle.folder_commands.proofs.Ranges.{range_beyond, range_given}
use Rattle.folder_commands.proofs.Reading.{same_sectors}

-- the disk of a file by itself
abbrev disk_alone : List ℕ → Parts → Disk
disk_alone file parts = flat parts.geometry.sector parts.geometry.sectors (layer_in file parts ∷ [])

-- a file without a parent, which isn't retired, is opened to its own disk
opens_alone : (file : List ℕ) (parts : Parts) (sector : ℕ → Option (List ℕ)) → OpensAs file parts sector → parts.parent ≡ false → parts.retired ≡ None → (folder : List Held) (leaf : List ℕ) → contents folder leaf ≡ Some file
    → OpensTo (files_of folder) leaf (disk_alone file parts)
opens_alone file parts sector opens base used folder leaf had =
    let member : Member = record { name = leaf; ties = ties_of parts; layer = layer_in file parts } in
    let there : IsIn (files_of folder) member =
    record { file = at_rest file; there = ap (option_map at_rest) had; held = file; parts = parts; reads = opened_parts file file parts opens.opens opens.stands; ties = refl; layer = λ s. refl } in
    record {
      retired = [];
      chain = member ∷ [];
      linked = record { there = (there, tt); is = record { named = refl; leads = used; linked = base; once = (tt, tt); few = omega arith } };
      is = refl;
    }

shows : (file : List ℕ) (parts : Parts) (sector : ℕ → List ℕ) (bytes : ℕ → ℕ → List ℕ) → parts.geometry.sector ≡ 512 → OpensAs file parts (λ s. Some (sector s)) → parts.parent ≡ false → parts.retired ≡ None
    → ((first count : ℕ) → first + count ≤ parts.geometry.sectors → length (bytes first count) ≡ 512 * count)
    → ((first count i : ℕ) → i < count → bytes_at (bytes first count) (512 * i) 512 ≡ sector (first + i))
    → Shows file parts.geometry.sectors bytes
shows file parts sector bytes served opens base used len each =
    let z = parts.geometry.sector in
    let n = parts.geometry.sectors in
    let layers = layer_in file parts ∷ [] in
    let all : length (disk_alone file parts) ≡ n = length-flat z n layers in
    record {
      on_disk = λ folder leaf had first count some most within.
          let o = opens_alone file parts (λ s. Some (sector s)) opens base used folder leaf had in
          subst (λ b. Finds folder leaf first count (Ok b))
          (sym (same_sectors 512 count first (bytes first count) (disk_alone file parts) (len first count within) (omega (arith, within, all))
          (λ i below.
          let s_in : first + i < n = omega (arith, within, below) in
          each first count i below
          ∙ sym (one_file z n (layer_in file parts) (first + i) (sector (first + i)) s_in ((layer_by_sector (shape_of parts) file).at_sector (first + i) None s_in ∙ opens.layer (first + i) s_in)))))
          (dump.found (disk_alone file parts) o (range_given first count read_limit (length (disk_alone file parts)) some most (omega (arith, within, all))));
      beyond = λ folder leaf had first count some most past.
          let o = opens_alone file parts (λ s. Some (sector s)) opens base used folder leaf had in
          subst (λ k. Finds folder leaf first count (Err (OfCall (OutOfRange first count k)))) all
          (dump.refused_range (disk_alone file parts) (OutOfRange first count (length (disk_alone file parts))) o (range_beyond first count read_limit (length (disk_alone file parts)) some most (omega (arith, past, all))));
    }

pub made_show : (file_write data_write disk : List ℕ) (size block : ℕ) → IsMakeable file_write data_write disk size block → MadeFilesShow file_write data_write disk size block
unfolding format.parts_of
made_show fw dw disk size block ok = record {
  dynamic =
      let opens = dynamic_files_open fw dw disk size block ok in
      shows (dynamic_file fw dw disk size block) (made_parts fw dw (base_metadata size block false disk)) (λ s. zeros 512) (λ first count. zeros (512 * count)) refl opens refl refl
      (λ first count within. length-zeros (512 * count)) (λ first count i below. zeros_within (512 * count) (512 * i) 512 (omega (arith, below)));
  fixed = λ bytes len.
      let opens = fixed_files_open fw dw disk size block bytes ok len in
      shows (fixed_file_holding fw dw disk size block bytes) (made_parts fw dw (base_metadata size block true disk)) (λ s. bytes_at bytes (512 * s) 512) (λ first count. bytes_at bytes (512 * first) (512 * count)) refl opens refl refl
      (λ first count within. length-part bytes (512 * first) (512 * count) (room bytes len first count within))
      (λ first count i below. bytes_in bytes (512 * first) (512 * count) (512 * i) 512 (omega (arith, below)) ∙ ap (λ k. bytes_at bytes k 512) (let place : 512 * first + 512 * i ≡ 512 * (first + i) = omega arith in place));
} where
  room : (bytes : List ℕ) → length bytes ≡ fixed_len size block → (first count : ℕ) → first + count ≤ size / 512 → 512 * first + 512 * count ≤ length bytes
  room bytes len first count within = omega (arith, len, within, (div_ceil_times size block (omega (arith, block_least block ok.of_block))).0)
