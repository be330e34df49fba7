use Rattle.std.proofs.lemmas.Bool.{not-false}
use Rattle.table_faults.proofs.Whole.{lists_faults, pairs_apart}
use Rattle.table_faults.proofs.entries.Found+Apart.faults_apart.Goals as goal

pub returns-clause-told : goal.returns-clause-told
returns-clause-told c = λ parts file h.
    lists_faults parts file h.count h.whole _ c.args.self h.told c.new.result.items
    (pairs_apart parts file h.count h.whole h.told.present.blocks c.new.result.items c.new.ensures.items h.told.present.are (h.told.present.known (not-false _ c.if-not-self.false)).apart)
