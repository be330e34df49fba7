use Rattle.std.proofs.Common.{subst, sym}
use Rattle.std.proofs.lemmas.Result.{on_ok_weaker}
use Rattle.store_model.specs.File.{File, seen}
use Rattle.store_model.specs.Trace.{Trace, file_of}
use Rattle.store_model.proofs.Plans.{EachPlanned, after_plan, both_of, of_told}
use Rattle.torn_match.specs.TornMatches.{EachUntorn}
use Rattle.torn_match.proofs.Moments.{untorn_by}
use Rattle.vhdx_format.specs.Headers.{IsWritable}
use Rattle.vx_base.specs.declared.parts.Header.{Header}
use Rattle.file_repair.specs.Repaired.{CanRepair, IsRepaired, KeepsLayer, repair_plan, repaired_header}
use Rattle.file_repair.proofs.Whole.{planned, repaired}
use Rattle.file_repair.proofs.rewriting.rewrite.Goals as goal

pub returns-clause-repaired : goal.returns-clause-repaired
returns-clause-repaired g c =
    let next : Header = repaired_header c.args.parts.now.header c.args.id in
    let w : IsWritable next = subst IsWritable c.repaired_header.ensures.is c.put_both.ensures.writable in
    on_ok_weaker c.put_both.result
    (λ e. both_of (λ (f after : File). CanRepair c.args.parts.now f → IsRepaired c.args.parts.now (seen f) c.args.id after) c.args.file (repair_plan c.repaired_header.result c.args.copies.now) (g.S.Store.disk c.args.store.now) (g.S.Store.disk c.put_both.new.store) e
    (λ t told can. subst (λ (h : Header). IsRepaired c.args.parts.now (seen (file_of t c.args.file)) c.args.id (after_plan (repair_plan h c.args.copies.now) (file_of t c.args.file))) (sym c.repaired_header.ensures.is)
    (repaired c.args.parts.now c.args.id (file_of t c.args.file) can w c.args.copies.now (c.requires.read t told)))) c.put_both.ensures.ok

pub returns-clause-moments : goal.returns-clause-moments
returns-clause-moments g c = λ t told can.
    let next : Header = repaired_header c.args.parts.now.header c.args.id in
    let w : IsWritable next = subst IsWritable c.repaired_header.ensures.is c.put_both.ensures.writable in
    untorn_by (KeepsLayer c.args.parts.now (seen (file_of t c.args.file))) c.args.file (repair_plan c.repaired_header.result c.args.copies.now) (g.S.Store.disk c.args.store.now) (g.S.Store.disk c.put_both.new.store) c.put_both.result
    c.put_both.ensures.ok c.put_both.ensures.err
    (of_told (λ (u : Trace). EachPlanned (EachUntorn (KeepsLayer c.args.parts.now (seen (file_of t c.args.file)))) (file_of u c.args.file) (repair_plan c.repaired_header.result c.args.copies.now)) (g.S.Store.disk c.args.store.now).told t told
    (subst (λ (h : Header). EachPlanned (EachUntorn (KeepsLayer c.args.parts.now (seen (file_of t c.args.file)))) (file_of t c.args.file) (repair_plan h c.args.copies.now)) (sym c.repaired_header.ensures.is)
    (planned c.args.parts.now c.args.id (file_of t c.args.file) can w c.args.copies.now (c.requires.read t told))))
