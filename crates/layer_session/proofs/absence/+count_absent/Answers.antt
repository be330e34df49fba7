use Rattle.std.proofs.Common.{◌+◌, ◌*◌, ◌%◌, ◌≤◌, ◌∙◌, subst, sym}
use Rattle.table_pages.specs.declared.tables.TableParts.{TableParts}
use Rattle.layer_session.specs.TablesRead.{HasRead}
use Rattle.layer_session.proofs.Absences.{absent_then}
use Rattle.layer_session.proofs.Planned.{read_then}
use Rattle.layer_session.proofs.absence.+count_absent.Goals as goal

pub returns-in_err-more-clause-reads : goal.returns-in_err-more-clause-reads
returns-in_err-more-clause-reads g t c =
    read_then c.args.tables.now c.is_absent.new.tables c.count_absent.new.tables (g.S.Store.disk c.args.store.now) c.is_absent.ensures.reads
    (subst (HasRead c.is_absent.new.tables c.count_absent.new.tables) c.in_ok-is_absent.ensures.stays c.count_absent.ensures.reads)

pub returns-clause-reads : goal.returns-clause-reads
returns-clause-reads g t c =
    read_then c.args.tables.now c.is_absent.new.tables c.count_absent.new.tables (g.S.Store.disk c.args.store.now) c.is_absent.ensures.reads
    (subst (HasRead c.is_absent.new.tables c.count_absent.new.tables) c.in_ok-is_absent.ensures.stays c.count_absent.ensures.reads)

pub returns-clause-absent : goal.returns-clause-absent
returns-clause-absent g t c =
    absent_then c.args.tables.now c.is_absent.new.tables (g.S.Store.disk c.args.store.now) (g.S.Store.disk c.is_absent.new.store) c.args.first c.run_in_block-len.result c.args.count c.in_ok-more.more c.requires.readable.sizes
    (subst (λ (p : TableParts). c.args.first * p.sector % p.block + c.run_in_block-len.result * p.sector ≤ p.block) c.is_absent.ensures.reads.as_held.parts_are c.run_in_block-len.ensures.inside)
    c.is_absent.ensures.reads c.in_ok-is_absent.ensures.stays c.run_in_block-len.ensures.most (λ trace told. sym c.if-not-branch.false ∙ c.in_ok-is_absent.ensures.absent trace told) c.in_ok-more.ensures.absent
