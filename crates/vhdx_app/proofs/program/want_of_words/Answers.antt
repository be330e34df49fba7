use Rattle.std.proofs.Common.{subst, sym, ◌∙◌}
use Rattle.vhdx_app.specs.Runs.{IsWant}
use Rattle.vhdx_app.proofs.program.want_of_words.Goals as goal

pub returns-else-begins_nbd : goal.returns-else-begins_nbd
returns-else-begins_nbd g c =
    let written = g.K.Sink.written in
    let faults = g.K.Sink.faults in
    subst (λ b. IsWant b (written c.args.out.now) (faults c.args.out.now) (written c.out_of_memory.new.out) (faults c.out_of_memory.new.out) c.out_of_memory.result) (sym c.if-begins_nbd.false ∙ c.begins_nbd.ensures) c.out_of_memory.ensures
