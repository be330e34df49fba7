-- Plans that are filled later.
use Rattle.std.proofs.Common.{ℕ, zero, suc, ◌+◌, ◌*◌, ◌≤◌, List, [], ◌∷◌, length, get_or, Some, sym, ap, subst, ◌∙◌, arith}
use Rattle.std.specs.Prelude.{All}
use Rattle.std.specs.List.{AllByRecursion}
use Rattle.std.proofs.lemmas.Option.{same_Some}
use Rattle.store_model.specs.Disk.{Sealed}
use Rattle.store_model.specs.File.{seen}
use Rattle.store_model.specs.Trace.{Trace}
use Rattle.guest_model.specs.declared.call.Reply.TheVariants as replies
use Rattle.read_plan.specs.Plans.{LiesIn}
use Rattle.read_plan.specs.Reading.{HaveContents, LiesInFiles}
use Rattle.read_plan.specs.declared.plan.Extent.{Extent}
use Rattle.sealed_layer.specs.Planned.{files_in}
use Rattle.chain_core.specs.States.{LeavesOthers, State}
use Rattle.chain_core.specs.Planned.{AreReadersOf, PlansAnswer, PlansCanBeFilled}

-- the readers tell what the files have now
have_contents : (v : State) (trace : Trace) (readers : List Sealed) → LeavesOthers v trace → AreReadersOf v readers → HaveContents (files_in trace) readers
have_contents v trace readers still are k d below =
    let r = are k d below in
    r.1 ∙ ap (λ f. Some (seen f)) (sym (still (get_or readers k d).file r.0))

pub plans_answer : PlansAnswer
plans_answer layers v disk first count plan out new readers trace told serving are finds fills =
    finds trace told v serving ∙ ap (λ b. replies.Bytes b) (sym (fills (files_in trace) (have_contents v trace readers serving.still are)))

-- an extent lies in the readers' files
lies_so : (z : ℕ) (contents : ℕ → List ℕ) (readers : List Sealed) (e : Extent) → HaveContents contents readers → LiesIn z contents e → LiesInFiles z readers e
lies_so z contents readers e have lies k d below same bytes told =
    let number : ℕ = (get_or readers k d).file in
    subst (λ (x : List ℕ). e.place + z * e.count ≤ length x) (sym (same_Some bytes (contents number) (sym told ∙ have k d below)))
    (subst (λ (n : ℕ). e.place + z * e.count ≤ length (contents n)) (sym same) lies)

-- each of some has what all have
each_of : {X : Type 0} (P Q : X → Type 0) (xs : List X) → ((x : X) → P x → Q x) → AllByRecursion P xs → All Q xs
each_of P Q [] f h k d below = absurd (omega arith)
each_of P Q (x ∷ xs) f h zero d below = f x h.0
each_of P Q (x ∷ xs) f h (suc k) d below = each_of P Q xs f h.1 k d (omega arith)

pub plans_can_be_filled : PlansCanBeFilled
plans_can_be_filled layers v disk plan readers trace told serving are lie =
    each_of (LiesIn layers.geometry.sector (files_in trace)) (LiesInFiles layers.geometry.sector readers) plan
    (λ e. lies_so layers.geometry.sector (files_in trace) readers e (have_contents v trace readers serving.still are)) (lie trace told)
