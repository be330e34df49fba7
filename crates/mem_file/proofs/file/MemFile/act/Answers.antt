use Rattle.std.proofs.Common.{false, ◌≡◌, ◌∙◌, ◌++◌, ◌∷◌, [], ap, subst, sym, length}
use Rattle.store_model.specs.File.{seen_after}
use Rattle.store_model.specs.Lawful.{is_lawful}
use Rattle.mem_file.specs.Picked.{redone}
use Rattle.mem_file.specs.Steps.{op_of, ops_done, Fits}
use Rattle.mem_file.specs.declared.replay.Pick.TheVariants.{Everything}
use Rattle.mem_file.proofs.StepLemmas.{ops_done-push, seen_more, lawful_more}
use Rattle.mem_file.proofs.file.MemFile.act.Goals as goal

pub invariant_of-self-2 : goal.invariant_of-self-2
invariant_of-self-2 c =
    let f = c.args.self.now in
    let step = c.args.step in
    let pushed : ops_done c.push_reserved.new.self.items ≡ op_of step ∷ ops_done f.steps.items =
    ap ops_done (c.push_reserved.ensures.items ∙ ap (λ s. s ++ step ∷ []) c.try_reserve.ensures.items) ∙ ops_done-push f.steps.items step in
    record {
      current =
          c.in_ok-redo.ensures.ok ∙ ap (redone Everything false (op_of step)) f.current
          ∙ seen_more f.attached.items (ops_done f.steps.items) step ∙ sym (ap (seen_after f.attached.items) pushed);
      lawful =
          ap (is_lawful f.attached.items) pushed
          ∙ lawful_more f.attached.items (ops_done f.steps.items) step (subst (λ b. Fits (length b) step) f.current c.requires.fits) c.requires.bytes f.lawful;
    }
