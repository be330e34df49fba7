use Rattle.std.proofs.Common.{◌≡◌, ap, sym, subst, refl, inl, inr, arith}
use Rattle.guest_model.specs.declared.call.Call.TheVariants as calls
use Rattle.guest_model.specs.Calls.{apply, changes, reply}
use Rattle.script.specs.declared.form.Form.{Form}
use Rattle.load_calls.specs.Load.{call_of, sector_size}
use Rattle.load_calls.specs.OneThread.{AreFirsts}
use Rattle.load_calls.specs.Printed.{seen_in}
use Rattle.load_calls.proofs.Firsts.{trimmed, unchanged, wrote}
use Rattle.load_calls.proofs.one_thread.call.Goals as goal

pub returns-in-Read-clause-left : goal.returns-in-Read-clause-left
returns-in-Read-clause-left c disk are =
    subst (λ (form : Form). AreFirsts c.args.firsts.now (apply sector_size disk (call_of form))) (sym c.in-Read.is) (unchanged _ disk c.args.firsts.now refl are)

pub returns-in-Write-clause-left : goal.returns-in-Write-clause-left
returns-in-Write-clause-left c disk are =
    let e = c.fill.ensures in
    subst (λ (form : Form). AreFirsts c.fill.new.firsts (apply sector_size disk (call_of form))) (sym c.in-Write.is)
    (wrote c.in-Write.first c.in-Write.count c.in-Write.byte disk c.args.firsts.now c.fill.new.firsts e.len e.filled e.before e.behind are)

pub returns-in-Trim-clause-left : goal.returns-in-Trim-clause-left
returns-in-Trim-clause-left c disk are =
    let e = c.fill-in-Trim.ensures in
    subst (λ (form : Form). AreFirsts c.fill-in-Trim.new.firsts (apply sector_size disk (call_of form))) (sym c.in-Trim.is)
    (trimmed c.in-Trim.first c.in-Trim.count disk c.args.firsts.now c.fill-in-Trim.new.firsts e.len e.filled e.before e.behind are)

pub returns-in-Flush : goal.returns-in-Flush
returns-in-Flush c =
    let still : call_of c.args.form ≡ calls.Flush = elim c.in-Flush.is [
      | inl flush ↦ ap call_of flush
      | inr (inl fetch) ↦ ap call_of fetch.1
      | inr (inr (inl put)) ↦ ap call_of put
      | inr (inr (inr (inl copy))) ↦ ap call_of copy
      | inr (inr (inr (inr finish))) ↦ ap call_of finish
    ] in
    record {
      len = refl;
      left = λ disk are. unchanged (call_of c.args.form) disk c.args.firsts.now (ap changes still) are;
      saw = λ disk are. sym (ap (λ call. seen_in (reply disk call)) still);
      most = omega arith;
    }
