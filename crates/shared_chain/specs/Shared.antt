-- What contracts see of a chain that threads share.
use Rattle.std.specs.Prelude.{ℕ, Bool, Option}
use Rattle.merge_core.specs.declared.marks.Marks.{Marks}
use Rattle.store_model.specs.declared.fault.StoreFault.{StoreFault}
use Rattle.shared_chain.specs.declared.basis.Breach.{Breach}

-- A chain as it is, and as it was when its session had begun; the greatest unit that a call was refused at for want of room, the call that
-- broke the session, and the last fault that one was refused by; the stripes that a step of the merge has copied, and whether the merge was
-- finished, or none was found, or its end was begun.
pub record Shared (C : Type 0) : Type 0 where
  pub chain : C
  pub first : C
  pub full : Option ℕ
  pub broke : Option Breach
  pub fault : Option StoreFault
  pub copied : Marks
  pub finished : Bool
