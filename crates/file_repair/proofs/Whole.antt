-- The whole of a repair, behind the opening.
use Rattle.std.proofs.Common.{◌≡◌, ℕ, ◌+◌, ◌≤◌, ◌⊎◌, Bool, true, false, List, [], ◌++◌, map, Some, Ok, refl, sym, ap, subst, ◌∙◌, arith, inl, inr}
use Rattle.std.specs.Prelude.{None}
use Rattle.std.proofs.lemmas.List.{append-nil}
use Rattle.vx_base.specs.Fields.{bytes_at, written_over}
use Rattle.vx_base.specs.declared.parts.Header.{Header}
use Rattle.vx_base.specs.declared.parts.Parts.{Parts}
use Rattle.store_model.specs.File.{File, seen}
use Rattle.store_model.proofs.Parts.{part-drop}
use Rattle.store_model.proofs.Plans.{EachPlanned, after_append, after_plan, planned_append}
use Rattle.torn_match.specs.TornMatches.{EachUntorn}
use Rattle.header_pair.specs.CopyWrites.{as_copy, held_in, other_copy}
use Rattle.header_pair.proofs.CopyLemmas.{copy_written}
use Rattle.vhdx_format.specs.Headers.{IsWritable, current_header, header_bytes, header_copy, header_place, held_header, is_valid_header}
use Rattle.vhdx_format.specs.OpenedFiles.{ReadsNumbers, by_parts}
use Rattle.vhdx_format.specs.SettledFiles.{as_it_is, if_settled, StandsFor}
use Rattle.log_write.specs.Writing.{header_writes}
use Rattle.log_write.proofs.Heads.{head_of, stands_in}
use Rattle.log_write.proofs.HeaderSteps.{IsNext, beside_copy}
use Rattle.layer_session.proofs.Under.{under}
use Rattle.check_repair.proofs.Soundness.{identified_by, lists_none, no_copies, pairs_none}
use Rattle.check_repair.specs.Findings.{Breaks, BreaksRules, Finding, Finds, known, locator_rules, names_log, numbered}
use Rattle.check_repair.specs.Laws.{HasGoodCopies}
use Rattle.table_faults.specs.Faults.{ListsFaults}
use Rattle.vhdx_format.specs.FileParts.{read_head, shape_of, taken_areas}
use Rattle.file_repair.specs.Repaired.{CanRepair, IsRepaired, KeepsLayer, region_writes, repair_plan, repaired_header}
use Rattle.file_repair.proofs.HeaderStep.{header_planned, near_written, next_of, written, written_leaves, written_read}
use Rattle.file_repair.proofs.Opened.{IsOpenedAs, long, near_layer, near_read, near_sound, opened}
use Rattle.file_repair.proofs.RegionStep.{IsMended, IsUnder, keeps_under, opens_under, regions_mended, regions_planned}

-- a copy that holds a header is valid
valid_copy : (zone : List ℕ) (copy : ℕ) (header : Header) → held_header zone copy ≡ Some header → is_valid_header (header_copy zone copy) ≡ true
unfolding held_header
valid_copy zone copy header e = by_test (is_valid_header (header_copy zone copy)) refl
  where
    by_test : (v : Bool) → is_valid_header (header_copy zone copy) ≡ v → is_valid_header (header_copy zone copy) ≡ true
    by_test true t = t
    by_test false t =
        let none : held_header zone copy ≡ None = rw t refl in
        let no : None ≡ Some header = sym none ∙ e in absurd cc

header_low : (header : Header) → (header.copy ≡ 1) ⊎ (header.copy ≡ 2) → header_place header.copy + 4096 ≤ 196608
header_low header (inl e) = omega (arith, e)
header_low header (inr e) = omega (arith, e)

-- the two copies of the header
copies_of_next : (parts : Parts) (id : List ℕ) (f : File) → CanRepair parts f → ((repaired_header parts.header id).copy ≡ 1) ⊎ ((repaired_header parts.header id).copy ≡ 2)
copies_of_next parts id f can =
    let o = opened parts f can in
    let s = stands_in (seen f) parts.header (head_of (seen f) parts.header o.head).current in
    (beside_copy parts.header.copy s.copies).0

-- what the two copies hold behind the write of the next header
step_copies : (base : List ℕ) (h next : Header) → read_head base ≡ Ok h → IsNext h next → IsWritable next
    → (held_in (written_over base (header_place next.copy) (header_bytes next)) next.copy ≡ Some (as_copy next.copy next))
    × (held_in (written_over base (header_place next.copy) (header_bytes next)) (other_copy next.copy) ≡ Some h)
step_copies base h next read is_next w =
    let head = head_of base h read in
    let stands = stands_in base h head.current in
    let two = beside_copy h.copy stands.copies in
    let copies : (next.copy ≡ 1) ⊎ (next.copy ≡ 2) = elim two.0 [ inl x ↦ inl (is_next.copy ∙ x) | inr x ↦ inr (is_next.copy ∙ x) ] in
    let least : 1 ≤ next.copy = elim copies [ inl x ↦ omega (arith, x) | inr x ↦ omega (arith, x) ] in
    let most : next.copy ≤ 2 = elim copies [ inl x ↦ omega (arith, x) | inr x ↦ omega (arith, x) ] in
    let done = copy_written next.copy next base least most w (omega (arith, head.long)) in
    let other : other_copy next.copy ≡ h.copy = ap other_copy is_next.copy ∙ two.1 in
    (done.held, done.other ∙ ap (held_in base) other ∙ stands.held)

module _ (parts : Parts) (id : List ℕ) (f : File) (can : CanRepair parts f) (w : IsWritable (repaired_header parts.header id)) where
  abbrev next : Header
  next = repaired_header parts.header id

  abbrev g : File
  g = after_plan (header_writes (repaired_header parts.header id)) f

  o : IsOpenedAs parts (seen f)
  o = opened parts f can

  under_written : IsUnder parts (seen f) next (seen g)
  under_written =
      let near = near_written parts id f can w in
      record {
        data_write = refl;
        unnamed = refl;
        log_at = refl;
        log_len = refl;
        head = written_read parts id f can w;
        read = near_read parts can.numbers (seen f) o next refl refl (written parts id f can w) near;
        blocks = near_sound parts can.numbers (seen f) o next refl refl (written parts id f can w) near;
        layer = near_layer parts can.numbers (seen f) o next refl refl (written parts id f can w) near;
        long = omega (arith, long parts can.numbers (seen f) o, (written_leaves parts id f can w).same_length);
      }

  -- the copies of the region table are those of before
  copies_same : bytes_at (seen g) 196608 131072 ≡ bytes_at (seen f) 196608 131072
  copies_same = part-drop (seen g) (seen f) (header_place next.copy + 4096) 196608 131072 (header_low next (copies_of_next parts id f can)) (written_leaves parts id f can w).behind

  pub planned : (copies : List ℕ) → copies ≡ bytes_at (seen f) 196608 131072 → EachPlanned (EachUntorn (KeepsLayer parts (seen f))) f (repair_plan (repaired_header parts.header id) copies)
  planned copies is =
      planned_append (EachUntorn (KeepsLayer parts (seen f))) f (header_writes next) (region_writes copies) (header_planned parts id f can w)
      (subst (λ (z : List ℕ). EachPlanned (EachUntorn (KeepsLayer parts (seen f))) g (region_writes z)) (copies_same ∙ sym is) (regions_planned parts can.numbers (seen f) next g refl under_written))

  pub mended : (copies : List ℕ) → copies ≡ bytes_at (seen f) 196608 131072 → IsMended parts (seen f) next (seen g) (after_plan (region_writes copies) g)
  mended copies is =
      subst (λ (z : List ℕ). IsMended parts (seen f) next (seen g) (after_plan (region_writes z) g)) (copies_same ∙ sym is) (regions_mended parts can.numbers (seen f) next g refl under_written)

  -- ---- what is found then

  -- the header's copies are valid, and the current one names no log
  headers_good : (zone : List ℕ) → zone ≡ bytes_at (seen g) 0 196608
      → (is_valid_header (header_copy zone 1) ≡ true) × (is_valid_header (header_copy zone 2) ≡ true) × (names_log (current_header zone) ≡ false)
  headers_good zone is =
      let base = seen f in
      let h = parts.header in
      let step = step_copies base h next o.head (next_of h id can.low) w in
      let of_zone : (copy : ℕ) → held_header zone copy ≡ held_in (seen g) copy = λ copy. ap (λ (z : List ℕ). held_header z copy) is in
      let current : current_header zone ≡ Some next = ap current_header is ∙ (head_of (seen g) next (written_read parts id f can w)).current in
      let unnamed : names_log (current_header zone) ≡ false = ap names_log current in
      elim (copies_of_next parts id f can) [
        | inl e ↦ (
          valid_copy zone 1 _ (of_zone 1 ∙ ap (held_in (seen g)) (sym e) ∙ step.0),
          valid_copy zone 2 _ (of_zone 2 ∙ ap (λ c. held_in (seen g) (other_copy c)) (sym e) ∙ step.1),
          unnamed,
        )
        | inr e ↦ (
          valid_copy zone 1 _ (of_zone 1 ∙ ap (λ c. held_in (seen g) (other_copy c)) (sym e) ∙ step.1),
          valid_copy zone 2 _ (of_zone 2 ∙ ap (held_in (seen g)) (sym e) ∙ step.0),
          unnamed,
        )
      ]

  found_then : (k : File) → IsMended parts (seen f) next (seen g) k → Finds (seen k) (map Breaks (locator_rules parts))
  found_then k m =
      let now = seen k in
      let u = m.under in
      let zone = headers_good (bytes_at now 0 196608) m.front in
      let good : HasGoodCopies now = record { first_header = zone.0; second_header = zone.1; first_regions = m.first; second_regions = m.second; unnamed = zone.2 } in
      let numbers : ReadsNumbers now (Ok (under next parts)) = by_parts next now (Ok (under next parts)) u.head (as_it_is (inl refl)) u.read in
      let stands : StandsFor now now = if_settled next now u.head (as_it_is (inl refl)) in
      let lists : ListsFaults (shape_of (under next parts)) (taken_areas (under next parts)) now [] [] [] [] = record {
        all_states = lists_none _ u.blocks.states;
        all_places = lists_none _ (λ i x. u.blocks.places i x.1);
        all_overlaps = pairs_none _ (λ i j x. u.blocks.apart i j x.2);
        all_bitmaps = lists_none _ (λ i x. u.blocks.bitmaps i x.1);
      } in
      let rules : BreaksRules now (locator_rules parts) = numbered (under next parts) now [] [] [] [] numbers stands lists in
      let id = identified_by now next u.head in
      subst (Finds now) (ap (λ (z : List Finding). map Breaks (locator_rules parts) ++ z) (no_copies now good) ∙ append-nil (map Breaks (locator_rules parts))) (known id.0 now (locator_rules parts) id.1 stands rules)

  pub repaired : (copies : List ℕ) → copies ≡ bytes_at (seen f) 196608 131072 → IsRepaired parts (seen f) id (after_plan (repair_plan (repaired_header parts.header id) copies) f)
  repaired copies is =
      let m = mended copies is in
      subst (IsRepaired parts (seen f) id) (sym (after_append (header_writes next) (region_writes copies) f))
      (record { synced = m.synced; opens = opens_under parts (seen f) next (seen (after_plan (region_writes copies) g)) m.under; layer = keeps_under parts (seen f) next (seen (after_plan (region_writes copies) g)) m.under; found = found_then (after_plan (region_writes copies) g) m })
