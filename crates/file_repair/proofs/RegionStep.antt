-- The write of a copy of the region table that isn't valid.
use Rattle.std.proofs.Common.{◌≡◌, ℕ, ◌+◌, ◌-◌, ◌<◌, ◌≤◌, ◌⊎◌, true, false, List, [], length, take, drop, Some, None, Ok, refl, sym, ap, subst, ◌∙◌, arith, inl, inr, if◌then◌else◌, Bool}
use Rattle.std.proofs.lemmas.Bool.{cases_Bool}
use Rattle.std.proofs.lemmas.List.{drop-drop}
use Rattle.vx_base.proofs.ByteLists.{length-overwritten}
use Rattle.vx_base.specs.Fields.{bytes_at, written_over}
use Rattle.vx_base.specs.declared.parts.Header.{Header}
use Rattle.vx_base.specs.declared.parts.Parts.{Parts}
use Rattle.store_model.specs.File.{File, IsFileImage, Sync, Write, is_synced, seen, with_op}
use Rattle.store_model.proofs.Images.{AllImages, images-sync, images-synced, images-write}
use Rattle.store_model.proofs.Parts.{drop-overwritten, length-part, part-drop, part-overwritten, part-take, take-overwritten}
use Rattle.store_model.proofs.Plans.{EachPlanned, after_plan}
use Rattle.torn_match.specs.Laws.{IsLeftOfOne}
use Rattle.torn_match.specs.TornMatches.{EachUntorn, HasNoTornMatch, region_place}
use Rattle.torn_match.proofs.Copies.{copies_are_whole}
use Rattle.torn_match.proofs.Moments.{untorn_all}
use Rattle.check_repair.proofs.Meaning.{bytes_within}
use Rattle.vhdx_format.specs.Fields.{megabyte}
use Rattle.vhdx_format.specs.FileParts.{HasNumbers, read_head, read_parts, shape_of, taken_areas}
use Rattle.vhdx_format.specs.HeldBlocks.{IsSoundTable}
use Rattle.vhdx_format.specs.Layers.{layer_sector}
use Rattle.vhdx_format.specs.OpenedFiles.{OpensFile, by_parts, sound}
use Rattle.vhdx_format.specs.RegionTables.{is_valid_region_table, read_regions, region_copy, region_entries, region_table, regions_in}
use Rattle.std.specs.Prelude.{ok_or}
use Rattle.vhdx_format.specs.Rules.{NoRegionTable}
use Rattle.vhdx_format.proofs.FileLemmas.{next_ok, some_ok}
use Rattle.layer_session.proofs.Numbers.{is_read}
use Rattle.vhdx_format.specs.SettledFiles.{as_it_is, if_settled}
use Rattle.log_write.proofs.Entries.{megabytes}
use Rattle.log_write.proofs.Heads.{head_kept}
use Rattle.layer_session.proofs.Alike.{AreSizes}
use Rattle.layer_session.proofs.Under.{under}
use Rattle.vhdx_format.specs.Fields.{is_zero_id}
use Rattle.file_repair.specs.Repaired.{KeepsLayer, region_write, region_writes}
use Rattle.file_repair.proofs.Beyond.{layer_beyond, numbers_beyond, sound_beyond}

-- a file under a header that names no log, with the numbers and the layer that are to be kept
pub record IsUnder (parts : Parts) (bytes : List ℕ) (header : Header) (now : List ℕ) : Type 0 where
  pub data_write : header.data_write ≡ parts.header.data_write
  pub unnamed : is_zero_id header.log ≡ true
  pub log_at : header.log_at ≡ parts.header.log_at
  pub log_len : header.log_len ≡ parts.header.log_len
  pub head : read_head now ≡ Ok header
  pub read : read_parts header now ≡ Ok (under header parts)
  pub blocks : IsSoundTable (shape_of parts) (taken_areas (under header parts)) now
  pub layer : (s : ℕ) → s < (shape_of parts).sectors → layer_sector (shape_of parts) now s ≡ layer_sector (shape_of parts) bytes s
  pub long : 327680 ≤ length now

pub opens_under : (parts : Parts) (bytes : List ℕ) (header : Header) (now : List ℕ) → IsUnder parts bytes header now → OpensFile now (Ok (under header parts))
opens_under parts bytes header now u =
    sound (under header parts) now (by_parts header now (Ok (under header parts)) u.head (as_it_is (inl u.unnamed)) u.read) (if_settled header now u.head (as_it_is (inl u.unnamed))) u.blocks

pub keeps_under : (parts : Parts) (bytes : List ℕ) (header : Header) (now : List ℕ) → IsUnder parts bytes header now → KeepsLayer parts bytes now
keeps_under parts bytes header now u = record {
  header = header;
  data_write = u.data_write;
  opens = opens_under parts bytes header now u;
  settled = now;
  stands = if_settled header now u.head (as_it_is (inl u.unnamed));
  layer = u.layer;
}

copies_in : List ℕ → List ℕ
copies_in file = bytes_at file 196608 131072

-- of two tables the first valid one
table_of : (copies : List ℕ) (a b : Bool) → is_valid_region_table (region_copy copies 1) ≡ a → is_valid_region_table (region_copy copies 2) ≡ b
    → region_table copies ≡ (if a then Some (region_copy copies 1) else if b then Some (region_copy copies 2) else None)
unfolding region_table
table_of copies a b e f = rw (e, f) refl

module _ (parts : Parts) (numbers : HasNumbers parts) (bytes : List ℕ) (header : Header) (base : List ℕ) (u : IsUnder parts bytes header base) where
  -- a file with the same bytes but in the copies of the region table, of which the same is in use
  module _ (now : List ℕ) (as_long : length now ≡ length base) (front : bytes_at now 0 196608 ≡ bytes_at base 0 196608) (behind : drop 327680 now ≡ drop 327680 base)
      (tables : region_table (bytes_at now 196608 131072) ≡ region_table (bytes_at base 196608 131072)) where
    table_low : 327680 ≤ parts.bat_at
    table_low = let m = (megabytes parts.bat_at numbers.bat.at_megabyte).1 in omega (arith, m)

    meta_low : megabyte ≤ parts.meta_at
    meta_low = (megabytes parts.meta_at numbers.metadata.at_megabyte).1

    pub still_under : IsUnder parts bytes header now
    still_under = record {
      data_write = u.data_write;
      unnamed = u.unnamed;
      log_at = u.log_at;
      log_len = u.log_len;
      head = head_kept base now header front (omega (arith, as_long)) u.head;
      read = numbers_beyond base now as_long behind header (under header parts) tables u.read meta_low;
      blocks = sound_beyond base now as_long behind (shape_of parts) table_low (taken_areas (under header parts)) u.blocks;
      layer = λ s below. layer_beyond base now as_long behind (under header parts) (sizes_under numbers) u.read u.blocks table_low s below ∙ u.layer s below;
      long = omega (arith, as_long, u.long);
    }
      where
        sizes_under : HasNumbers parts → AreSizes (under header parts)
        sizes_under n = record { sector = n.sector; block = n.block; entries = n.entries }

writes_are : (copies : List ℕ) (v w : Bool) → is_valid_region_table (region_copy copies 1) ≡ v → is_valid_region_table (region_copy copies 2) ≡ w
    → region_writes copies ≡ (if v then (if w then [] else region_write 2 (region_copy copies 1)) else region_write 1 (region_copy copies 2))
writes_are copies v w e f = rw (e, f) refl

-- ---- copies

first_place : (file : List ℕ) → region_copy (bytes_at file 196608 131072) 1 ≡ bytes_at file (region_place 1) 65536
first_place file = bytes_within file 196608 131072 0 65536 (omega arith)

second_place : (file : List ℕ) → region_copy (bytes_at file 196608 131072) 2 ≡ bytes_at file (region_place 2) 65536
second_place file = bytes_within file 196608 131072 65536 65536 (omega arith)

module _ (base image : List ℕ) where
  tables_first : is_valid_region_table (region_copy (bytes_at base 196608 131072) 1) ≡ false → is_valid_region_table (region_copy (bytes_at base 196608 131072) 2) ≡ true
      → region_copy (bytes_at image 196608 131072) 2 ≡ region_copy (bytes_at base 196608 131072) 2
      → (is_valid_region_table (region_copy (bytes_at image 196608 131072) 1) ≡ true → region_copy (bytes_at image 196608 131072) 1 ≡ region_copy (bytes_at base 196608 131072) 2)
      → region_table (bytes_at image 196608 131072) ≡ region_table (bytes_at base 196608 131072)
  tables_first bad good second first = by_first (cases_Bool (is_valid_region_table (region_copy (bytes_at image 196608 131072) 1)))
    where
      before : region_table (bytes_at base 196608 131072) ≡ Some (region_copy (bytes_at base 196608 131072) 2)
      before = table_of (bytes_at base 196608 131072) false true bad good

      second_valid : is_valid_region_table (region_copy (bytes_at image 196608 131072) 2) ≡ true
      second_valid = ap is_valid_region_table second ∙ good

      by_first : (is_valid_region_table (region_copy (bytes_at image 196608 131072) 1) ≡ true) ⊎ (is_valid_region_table (region_copy (bytes_at image 196608 131072) 1) ≡ false)
          → region_table (bytes_at image 196608 131072) ≡ region_table (bytes_at base 196608 131072)
      by_first (inl v) = table_of (bytes_at image 196608 131072) true true v second_valid ∙ ap Some (first v) ∙ sym before
      by_first (inr v) = table_of (bytes_at image 196608 131072) false true v second_valid ∙ ap Some second ∙ sym before

  tables_second : is_valid_region_table (region_copy (bytes_at base 196608 131072) 1) ≡ true → region_copy (bytes_at image 196608 131072) 1 ≡ region_copy (bytes_at base 196608 131072) 1
      → region_table (bytes_at image 196608 131072) ≡ region_table (bytes_at base 196608 131072)
  tables_second good first =
      table_of (bytes_at image 196608 131072) true (is_valid_region_table (region_copy (bytes_at image 196608 131072) 2)) (ap is_valid_region_table first ∙ good) refl
      ∙ ap Some first ∙ sym (table_of (bytes_at base 196608 131072) true (is_valid_region_table (region_copy (bytes_at base 196608 131072) 2)) good refl)

-- what a write of n bytes leaves: all else
record LeavesPart (at n : ℕ) (old new : List ℕ) : Type 0 where
  as_long : length new ≡ length old
  before : take at new ≡ take at old
  after : drop (at + n) new ≡ drop (at + n) old

module _ (f : File) (synced : is_synced f ≡ true) (place : ℕ) (new : List ℕ) where
  leaves_image : AllImages (LeavesPart place (length new) (seen f)) (with_op (Write place new) f)
  leaves_image = images-write (λ (x : List ℕ). x ≡ seen f) (LeavesPart place (length new) (seen f)) f place new (images-synced (λ (x : List ℕ). x ≡ seen f) f synced refl)
      (λ old image e t. subst (λ (z : List ℕ). LeavesPart place (length new) z image) e (record { as_long = t.as_long; before = t.before; after = t.after }))

  leaves_written : place + length new ≤ length (seen f) → LeavesPart place (length new) (seen f) (written_over (seen f) place new)
  leaves_written inside = record {
    as_long = length-overwritten (seen f) new place inside;
    before = take-overwritten (seen f) new place (omega (arith, inside));
    after = drop-overwritten (seen f) new place (omega (arith, inside));
  }

  module _ (low : 196608 ≤ place) (high : place + length new ≤ 327680) (image : List ℕ) (t : LeavesPart place (length new) (seen f) image) where
    front_kept : bytes_at image 0 196608 ≡ bytes_at (seen f) 0 196608
    front_kept = part-take image (seen f) place 0 196608 low t.before

    behind_kept : drop 327680 image ≡ drop 327680 (seen f)
    behind_kept =
        let n : ℕ = place + length new in
        let e : n + (327680 - n) ≡ 327680 = omega (arith, high) in
        sym (drop-drop (327680 - n) n image ∙ ap (λ (k : ℕ). drop k image) e) ∙ ap (drop (327680 - n)) t.after ∙ (drop-drop (327680 - n) n (seen f) ∙ ap (λ (k : ℕ). drop k (seen f)) e)

-- what the file is behind it
pub record IsMended (parts : Parts) (bytes : List ℕ) (header : Header) (base : List ℕ) (g : File) : Type 0 where
  pub synced : is_synced g ≡ true
  pub under : IsUnder parts bytes header (seen g)
  pub first : is_valid_region_table (region_copy (bytes_at (seen g) 196608 131072) 1) ≡ true
  pub second : is_valid_region_table (region_copy (bytes_at (seen g) 196608 131072) 2) ≡ true
  pub front : bytes_at (seen g) 0 196608 ≡ bytes_at base 0 196608

module _ (parts : Parts) (numbers : HasNumbers parts) (bytes : List ℕ) (header : Header) (f : File) (synced : is_synced f ≡ true) (u : IsUnder parts bytes header (seen f)) where
  abbrev b : List ℕ
  b = seen f

  Q : File → Type 0
  Q = EachUntorn (KeepsLayer parts bytes)

  start : EachUntorn (KeepsLayer parts bytes) f
  start = untorn_all (KeepsLayer parts bytes) f (images-synced (KeepsLayer parts bytes) f synced (keeps_under parts bytes header b u))

  part_long : (at : ℕ) → at + 65536 ≤ 327680 → length (bytes_at b at 65536) ≡ 65536
  part_long at fits = length-part b at 65536 (omega (arith, fits, u.long))

  -- ---- the first copy

  module _ (bad : is_valid_region_table (region_copy (bytes_at b 196608 131072) 1) ≡ false) (good : is_valid_region_table (region_copy (bytes_at b 196608 131072) 2) ≡ true) where
    abbrev other : List ℕ
    other = region_copy (bytes_at b 196608 131072) 2

    other_long : length other ≡ 65536
    other_long = ap length (second_place b) ∙ part_long (region_place 2) (omega arith)

    second_kept : (image : List ℕ) → LeavesPart (region_place 1) (length other) b image → region_copy (bytes_at image 196608 131072) 2 ≡ region_copy (bytes_at b 196608 131072) 2
    second_kept image t =
        second_place image ∙ part-drop image b (region_place 1 + length other) (region_place 2) 65536 (omega (arith, other_long)) t.after ∙ sym (second_place b)

    under_first : (image : List ℕ) → LeavesPart (region_place 1) (length other) b image
        → (is_valid_region_table (region_copy (bytes_at image 196608 131072) 1) ≡ true → region_copy (bytes_at image 196608 131072) 1 ≡ region_copy (bytes_at b 196608 131072) 2)
        → IsUnder parts bytes header image
    under_first image t first =
        still_under parts numbers bytes header b u image t.as_long (front_kept f synced (region_place 1) other (omega arith) (omega (arith, other_long)) image t)
        (behind_kept f synced (region_place 1) other (omega arith) (omega (arith, other_long)) image t) (tables_first b image bad good (second_kept image t) first)

    first_written : region_copy (bytes_at (written_over b (region_place 1) other) 196608 131072) 1 ≡ other
    first_written = first_place (written_over b (region_place 1) other) ∙ part-overwritten b other (region_place 1) 65536 (omega (arith, u.long)) (sym other_long)

    whole_first : (image : List ℕ) → IsFileImage (with_op (Write (region_place 1) other) f) image → HasNoTornMatch (with_op (Write (region_place 1) other) f) image
        → is_valid_region_table (region_copy (bytes_at image 196608 131072) 1) ≡ true → region_copy (bytes_at image 196608 131072) 1 ≡ region_copy (bytes_at b 196608 131072) 2
    whole_first image here untorn valid =
        let left : IsLeftOfOne f (region_place 1) other image = record { synced = synced; left = here; whole = untorn } in
        let at_place : is_valid_region_table (bytes_at image (region_place 1) 65536) ≡ true = ap is_valid_region_table (sym (first_place image)) ∙ valid in
        elim (copies_are_whole.region f (region_place 1) other image left 1 (omega arith) (omega arith) at_place) [
          | inl e ↦ (let no : true ≡ false = sym at_place ∙ ap is_valid_region_table (e ∙ sym (first_place b)) ∙ bad in absurd cc)
          | inr e ↦ first_place image ∙ e ∙ part-overwritten b other (region_place 1) 65536 (omega (arith, u.long)) (sym other_long)
        ]

    written_first : LeavesPart (region_place 1) (length other) b (written_over b (region_place 1) other)
    written_first = leaves_written f synced (region_place 1) other (omega (arith, u.long, other_long))

    under_written : IsUnder parts bytes header (written_over b (region_place 1) other)
    under_written = under_first (written_over b (region_place 1) other) written_first (λ v. first_written)

    first_planned : EachPlanned (EachUntorn (KeepsLayer parts bytes)) f (region_write 1 other)
    first_planned = (
      start,
      (
        λ image here untorn. keeps_under parts bytes header image (under_first image (leaves_image f synced (region_place 1) other image here) (whole_first image here untorn)),
        untorn_all (KeepsLayer parts bytes) (with_op Sync (with_op (Write (region_place 1) other) f))
            (images-sync (KeepsLayer parts bytes) (with_op (Write (region_place 1) other) f) (keeps_under parts bytes header (written_over b (region_place 1) other) under_written)),
      ),
    )

    first_mended : IsMended parts bytes header b (after_plan (region_write 1 other) f)
    first_mended = record {
      synced = refl;
      under = under_written;
      first = ap is_valid_region_table first_written ∙ good;
      second = ap is_valid_region_table (second_kept (written_over b (region_place 1) other) written_first) ∙ good;
      front = front_kept f synced (region_place 1) other (omega arith) (omega (arith, other_long)) (written_over b (region_place 1) other) written_first;
    }

  -- ---- the second copy

  module _ (good : is_valid_region_table (region_copy (bytes_at b 196608 131072) 1) ≡ true) where
    abbrev model : List ℕ
    model = region_copy (bytes_at b 196608 131072) 1

    model_long : length model ≡ 65536
    model_long = ap length (first_place b) ∙ part_long (region_place 1) (omega arith)

    first_kept : (image : List ℕ) → LeavesPart (region_place 2) (length model) b image → region_copy (bytes_at image 196608 131072) 1 ≡ region_copy (bytes_at b 196608 131072) 1
    first_kept image t = first_place image ∙ part-take image b (region_place 2) (region_place 1) 65536 (omega arith) t.before ∙ sym (first_place b)

    under_second : (image : List ℕ) → LeavesPart (region_place 2) (length model) b image → IsUnder parts bytes header image
    under_second image t =
        still_under parts numbers bytes header b u image t.as_long (front_kept f synced (region_place 2) model (omega arith) (omega (arith, model_long)) image t)
        (behind_kept f synced (region_place 2) model (omega arith) (omega (arith, model_long)) image t) (tables_second b image good (first_kept image t))

    written_second : LeavesPart (region_place 2) (length model) b (written_over b (region_place 2) model)
    written_second = leaves_written f synced (region_place 2) model (omega (arith, u.long, model_long))

    second_is : region_copy (bytes_at (written_over b (region_place 2) model) 196608 131072) 2 ≡ model
    second_is = second_place (written_over b (region_place 2) model) ∙ part-overwritten b model (region_place 2) 65536 (omega (arith, u.long)) (sym model_long)

    second_planned : EachPlanned (EachUntorn (KeepsLayer parts bytes)) f (region_write 2 model)
    second_planned = (
      start,
      (
        λ image here untorn. keeps_under parts bytes header image (under_second image (leaves_image f synced (region_place 2) model image here)),
        untorn_all (KeepsLayer parts bytes) (with_op Sync (with_op (Write (region_place 2) model) f))
            (images-sync (KeepsLayer parts bytes) (with_op (Write (region_place 2) model) f) (keeps_under parts bytes header (written_over b (region_place 2) model) (under_second (written_over b (region_place 2) model) written_second))),
      ),
    )

    second_mended : IsMended parts bytes header b (after_plan (region_write 2 model) f)
    second_mended = record {
      synced = refl;
      under = under_second (written_over b (region_place 2) model) written_second;
      first = ap is_valid_region_table (first_kept (written_over b (region_place 2) model) written_second) ∙ good;
      second = ap is_valid_region_table second_is ∙ good;
      front = front_kept f synced (region_place 2) model (omega arith) (omega (arith, model_long)) (written_over b (region_place 2) model) written_second;
    }

  -- ---- either

  -- one of them is valid
  some_table : (table : List ℕ) × (region_table (bytes_at b 196608 131072) ≡ Some table)
  unfolding read_regions
  some_table =
      let d = is_read header b (under header parts) u.read in
      let n = next_ok (ok_or (region_table (bytes_at b 196608 131072)) NoRegionTable) (λ table. regions_in (region_entries table) (length b) header.log_at header.log_len) d.regions d.are in
      (n.0, some_ok (region_table (bytes_at b 196608 131072)) NoRegionTable n.0 n.1)

  pub regions_planned : EachPlanned (EachUntorn (KeepsLayer parts bytes)) f (region_writes (bytes_at (seen f) 196608 131072))
  regions_planned = by_copies (cases_Bool (is_valid_region_table (region_copy (bytes_at b 196608 131072) 1))) (cases_Bool (is_valid_region_table (region_copy (bytes_at b 196608 131072) 2)))
    where
      by_copies : (is_valid_region_table (region_copy (bytes_at b 196608 131072) 1) ≡ true) ⊎ (is_valid_region_table (region_copy (bytes_at b 196608 131072) 1) ≡ false)
          → (is_valid_region_table (region_copy (bytes_at b 196608 131072) 2) ≡ true) ⊎ (is_valid_region_table (region_copy (bytes_at b 196608 131072) 2) ≡ false)
          → EachPlanned (EachUntorn (KeepsLayer parts bytes)) f (region_writes (bytes_at b 196608 131072))
      by_copies (inl v) (inl w) = subst (EachPlanned (EachUntorn (KeepsLayer parts bytes)) f) (sym (writes_are (bytes_at b 196608 131072) true true v w)) start
      by_copies (inl v) (inr w) = subst (EachPlanned (EachUntorn (KeepsLayer parts bytes)) f) (sym (writes_are (bytes_at b 196608 131072) true false v w)) (second_planned v)
      by_copies (inr v) (inl w) = subst (EachPlanned (EachUntorn (KeepsLayer parts bytes)) f) (sym (writes_are (bytes_at b 196608 131072) false true v w)) (first_planned v w)
      by_copies (inr v) (inr w) = let no : None ≡ Some some_table.0 = sym (table_of (bytes_at b 196608 131072) false false v w) ∙ some_table.1 in absurd cc

  pub regions_mended : IsMended parts bytes header (seen f) (after_plan (region_writes (bytes_at (seen f) 196608 131072)) f)
  regions_mended = by_copies (cases_Bool (is_valid_region_table (region_copy (bytes_at b 196608 131072) 1))) (cases_Bool (is_valid_region_table (region_copy (bytes_at b 196608 131072) 2)))
    where
      by_copies : (is_valid_region_table (region_copy (bytes_at b 196608 131072) 1) ≡ true) ⊎ (is_valid_region_table (region_copy (bytes_at b 196608 131072) 1) ≡ false)
          → (is_valid_region_table (region_copy (bytes_at b 196608 131072) 2) ≡ true) ⊎ (is_valid_region_table (region_copy (bytes_at b 196608 131072) 2) ≡ false)
          → IsMended parts bytes header b (after_plan (region_writes (bytes_at b 196608 131072)) f)
      by_copies (inl v) (inl w) = subst (λ ops. IsMended parts bytes header b (after_plan ops f)) (sym (writes_are (bytes_at b 196608 131072) true true v w)) (record { synced = synced; under = u; first = v; second = w; front = refl })
      by_copies (inl v) (inr w) = subst (λ ops. IsMended parts bytes header b (after_plan ops f)) (sym (writes_are (bytes_at b 196608 131072) true false v w)) (second_mended v)
      by_copies (inr v) (inl w) = subst (λ ops. IsMended parts bytes header b (after_plan ops f)) (sym (writes_are (bytes_at b 196608 131072) false true v w)) (first_mended v w)
      by_copies (inr v) (inr w) = let no : None ≡ Some some_table.0 = sym (table_of (bytes_at b 196608 131072) false false v w) ∙ some_table.1 in absurd cc
