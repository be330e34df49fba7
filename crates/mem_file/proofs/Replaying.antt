-- What a crash after some steps may have left, by the last of them.
use Rattle.std.proofs.Common.{◌≡◌, ◌≤◌, ℕ, suc, zero, ◌+◌, Bool, true, List, [], ◌∷◌, ◌++◌, ◌∙◌, length, drop, refl, sym, ap, subst, arith}
use Rattle.store_model.specs.Bytes.{written_over, extended}
use Rattle.store_model.specs.File.{Op, Write, Tear, Grow, Sync, Seal, seen_after}
use Rattle.store_model.specs.Lawful.{is_lawful}
use Rattle.store_model.proofs.Lawfulness.{lawful_tear, lawful_write}
use Rattle.mem_file.specs.Picked.{is_second, takes_write, picked, pick_before, redone}
use Rattle.mem_file.specs.Steps.{op_of, ops_done, Fits}
use Rattle.mem_file.specs.declared.file.Step.{Step}
use Rattle.mem_file.specs.declared.file.Step.TheVariants.{Wrote, Tore, Grew, Synced, Sealed}
use Rattle.mem_file.specs.declared.replay.Pick.{Pick}
use Rattle.mem_file.specs.declared.replay.Pick.TheVariants.{Everything}
use Rattle.mem_file.proofs.PickedImages.{is_picked, growth_too}
use Rattle.mem_file.proofs.StepLemmas.{ops_done-push}

pub lawful_drop : (attached : List ℕ) (k : ℕ) (ops : List Op) → is_lawful attached ops ≡ true → is_lawful attached (drop k ops) ≡ true
lawful_drop attached zero ops h = h
lawful_drop attached (suc k) [] h = h
lawful_drop attached (suc k) (Write at bytes ∷ older) h = lawful_drop attached k older (lawful_write attached at bytes older h).before
lawful_drop attached (suc k) (Tear at meant left ∷ older) h = lawful_drop attached k older (lawful_write attached at left older (lawful_tear attached at meant left older h)).before
lawful_drop attached (suc k) (Grow len ∷ older) h = lawful_drop attached k older h
lawful_drop attached (suc k) (Sync ∷ older) h = lawful_drop attached k older h
lawful_drop attached (suc k) (Seal ∷ older) h = lawful_drop attached k older h

-- a write that is picked lies within the image
write_fits : (pick : Pick) (attached : List ℕ) (older : List Op) (at : ℕ) (bytes : List ℕ) → is_lawful attached (Write at bytes ∷ older) ≡ true → takes_write pick (is_second older) ≡ true → at + length bytes ≤ length (picked pick attached older)
write_fits pick attached older at bytes h takes =
    let it = lawful_write attached at bytes older h in
    let long = (is_picked pick attached older it.before).as_long (growth_too pick (is_second older) takes) in
    omega (arith, it.within, long)

-- an image that has everything is what reads give
everything_seen : (attached : List ℕ) (ops : List Op) → picked Everything attached ops ≡ seen_after attached ops
everything_seen attached [] = refl
everything_seen attached (Write at bytes ∷ older) = ap (λ b. written_over b at bytes) (everything_seen attached older)
everything_seen attached (Tear at meant left ∷ older) = ap (λ b. written_over b at left) (everything_seen attached older)
everything_seen attached (Grow len ∷ older) = ap (λ b. extended b len) (everything_seen attached older)
everything_seen attached (Sync ∷ older) = refl
everything_seen attached (Seal ∷ older) = everything_seen attached older

-- the image after one more change
picked_next : (pick : Pick) (attached : List ℕ) (older : List Op) (op : Op) → redone pick (is_second older) op (picked (pick_before pick op) attached older) ≡ picked pick attached (op ∷ older)
picked_next pick attached older (Write at bytes) = refl
picked_next pick attached older (Tear at meant left) = refl
picked_next pick attached older (Grow len) = refl
picked_next pick attached older Sync = everything_seen attached older
picked_next pick attached older Seal = refl

-- The last of some steps, and those before it.
module _ (attached : List ℕ) (steps older : List Step) (step : Step) (is : steps ≡ older ++ step ∷ []) where
  steps_are : ops_done steps ≡ op_of step ∷ ops_done older
  steps_are = ap ops_done is ∙ ops_done-push older step

  lawful_last : is_lawful attached (ops_done steps) ≡ true → is_lawful attached (op_of step ∷ ops_done older) ≡ true
  lawful_last h = sym (ap (is_lawful attached) steps_are) ∙ h

  pub lawful_before : is_lawful attached (ops_done steps) ≡ true → is_lawful attached (ops_done older) ≡ true
  lawful_before h = lawful_drop attached 1 (op_of step ∷ ops_done older) (lawful_last h)

  pub last_fits : (pick chosen : Pick) (second : Bool) (image : List ℕ) → chosen ≡ pick_before pick (op_of step) → second ≡ is_second (ops_done older) → image ≡ picked chosen attached (ops_done older)
      → is_lawful attached (ops_done steps) ≡ true → takes_write pick second ≡ true → Fits (length image) step
  last_fits pick chosen second image c s e h takes = fits_by step (lawful_last h) c where
    fits_by : (step : Step) → is_lawful attached (op_of step ∷ ops_done older) ≡ true → chosen ≡ pick_before pick (op_of step) → Fits (length image) step
    fits_by (Wrote at bytes) h c =
        subst (λ b. at + length bytes.items ≤ length b) (sym (e ∙ ap (λ p. picked p attached (ops_done older)) c))
        (write_fits pick attached (ops_done older) at bytes.items h (ap (takes_write pick) (sym s) ∙ takes))
    fits_by (Tore at meant left) h c =
        subst (λ b. at + length left.items ≤ length b) (sym (e ∙ ap (λ p. picked p attached (ops_done older)) c))
        (write_fits pick attached (ops_done older) at left.items (lawful_tear attached at meant.items left.items (ops_done older) h) (ap (takes_write pick) (sym s) ∙ takes))
    fits_by (Grew len) h c = tt
    fits_by Synced h c = tt
    fits_by Sealed h c = tt

  pub last_redone : (pick chosen : Pick) (second : Bool) (image result : List ℕ) → chosen ≡ pick_before pick (op_of step) → second ≡ is_second (ops_done older) → image ≡ picked chosen attached (ops_done older)
      → result ≡ redone pick second (op_of step) image → result ≡ picked pick attached (ops_done steps)
  last_redone pick chosen second image result c s e made =
      made ∙ ap (λ b. redone pick b (op_of step) image) s
      ∙ ap (redone pick (is_second (ops_done older)) (op_of step)) (e ∙ ap (λ p. picked p attached (ops_done older)) c)
      ∙ picked_next pick attached (ops_done older) (op_of step)
      ∙ sym (ap (picked pick attached) steps_are)
