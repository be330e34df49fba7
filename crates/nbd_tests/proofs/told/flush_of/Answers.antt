use Rattle.std.proofs.Common.{refl}
use Rattle.nbd_tests.proofs.ToldLemmas.{still_holds, still_told}
use Rattle.nbd_tests.proofs.told.flush_of.Goals as goal

pub returns-clause-holds : goal.returns-clause-holds
returns-clause-holds c = still_holds _ _ _ _ c.note.result refl c.note.ensures.noted c.note.ensures.same c.requires.holds

pub returns-clause-told : goal.returns-clause-told
returns-clause-told c = still_told _ _ _ _ _ c.note.result c.note.ensures.noted c.note.ensures.place c.note.ensures.same refl
