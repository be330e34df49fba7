-- One more step of a file in memory.
use Rattle.std.proofs.Common.{◌≡◌, ℕ, ◌+◌, List, [], ◌∷◌, ◌++◌, length, map, reverse, take, drop, refl, sym, ap, ◌∙◌, false, true}
use Rattle.std.proofs.lemmas.List.{append_assoc, map-append, reverse-append}
use Rattle.std.proofs.lemmas.List.Edits.{paste_all}
use Rattle.std.proofs.lemmas.Slice.{put_mid-paste}
use Rattle.store_model.specs.Bytes.{written_over}
use Rattle.store_model.specs.File.{Op, seen_after}
use Rattle.store_model.specs.Lawful.{is_lawful}
use Rattle.store_model.specs.Trace.{Change}
use Rattle.store_model.proofs.Lawfulness.{lawful-tear, lawful-write}
use Rattle.mem_file.specs.Picked.{redone}
use Rattle.mem_file.specs.declared.replay.Pick.TheVariants.{Everything}
use Rattle.mem_file.specs.Steps.{op_of, ops_done, change_of, changes_of, Fits, WritesBytes}
use Rattle.mem_file.specs.declared.file.Change.{Change as Noted}
use Rattle.mem_file.specs.declared.file.Step.{Step}
use Rattle.mem_file.specs.declared.file.Step.TheVariants.{Wrote, Tore, Grew, Synced, Sealed}
use borrow.Rule.Slice.PartMut.{put_mid}

pub ops_done-push : (steps : List Step) (step : Step) → ops_done (steps ++ step ∷ []) ≡ op_of step ∷ ops_done steps
ops_done-push steps step = ap reverse (map-append op_of steps (step ∷ [])) ∙ reverse-append (map op_of steps) (op_of step ∷ [])

pub changes-append : (first rest : List Noted) → changes_of (first ++ rest) ≡ changes_of rest ++ changes_of first
changes-append first rest = ap reverse (map-append change_of first rest) ∙ reverse-append (map change_of first) (map change_of rest)

pub changes-push : (old mid new : List Noted) (file : ℕ) (step noted : Step) → new ≡ mid ++ record { file = file; step = noted } ∷ [] → mid ≡ old → op_of noted ≡ op_of step → changes_of new ≡ record { file = file; op = op_of step } ∷ changes_of old
changes-push old mid new file step noted pushed same e =
    ap changes_of (pushed ∙ ap (λ o. o ++ record { file = file; step = noted } ∷ []) same) ∙ changes-append old (record { file = file; step = noted } ∷ [])
    ∙ ap (λ op. let made : Change = record { file = file; op = op } in made ∷ changes_of old) e

-- what is seen after one more step, and that it is lawful
pub seen_more : (attached : List ℕ) (older : List Op) (step : Step) → redone Everything false (op_of step) (seen_after attached older) ≡ seen_after attached (op_of step ∷ older)
seen_more attached older (Wrote at bytes) = refl
seen_more attached older (Tore at meant left) = refl
seen_more attached older (Grew len) = refl
seen_more attached older Synced = refl
seen_more attached older Sealed = refl

pub lawful_more : (attached : List ℕ) (older : List Op) (step : Step) → Fits (length (seen_after attached older)) step → WritesBytes step → is_lawful attached older ≡ true → is_lawful attached (op_of step ∷ older) ≡ true
lawful_more attached older (Wrote at bytes) fits are_bytes h = lawful-write attached older at bytes.items h are_bytes fits
lawful_more attached older (Tore at meant left) fits are h =
    lawful-tear attached at meant.items left.items older are.1 (lawful-write attached older at left.items h are.0 fits)
lawful_more attached older (Grew len) fits are_bytes h = h
lawful_more attached older Synced fits are_bytes h = h
lawful_more attached older Sealed fits are_bytes h = h

-- what `copy_from_slice` leaves of a slice
pub written_over-put_mid : (old new bytes : List ℕ) (at k : ℕ) → new ≡ bytes → length bytes ≡ k → put_mid at k old new ≡ written_over old at bytes
unfolding written_over
written_over-put_mid old new bytes at k e size =
    put_mid-paste at k old new bytes (length bytes) e size refl
    ∙ paste_all old at bytes (length bytes) refl
    ∙ sym (append_assoc (take at old) bytes (drop (at + length bytes) old))
