-- The steps of a walk over a value that only clauses see, and what such a value is to the machine: nothing.
pub use Rattle.std.proofs.Common.{◌≡◌, ◌-◌, List, [], ◌∷◌, ◌++◌, length, take, refl, ap, ◌∙◌}
pub use Rattle.std.proofs.raw_atomic.Walks.{proved_at}
pub use base.Fml.{Fml}
pub use mir.Val.{Val, vptr, vstruct, vcons, vnil, of_list}
pub use contract.Running.{tables}
pub use prog.Wp.{WpFn}
pub use types.Kit.{‵, raw, prop, ◌⊛◌, ◌$◌, ◌∵◌, !, qed, done, move, keep, use0, split, join, fsplit, fjoin, regoal, suffices}
pub use types.Run.{enter, of_opd, returns}
pub use types.ByLocal.{alloc_all, pass_all, free_all, look_at, get, sets}
pub use denote.RattleType.{RattleType, owns}
pub use denote.Builtin.{RefOf}
pub use denote.Exit.{yes}
pub use denote.Laws.{Is, shows}
pub use denote.Shadow.{makes_shadow}
pub use denote.Struct.Struct.{Struct}
pub use denote.Struct.Owning.{shape}
pub use denote.Signature.{plain, types_at}
pub use denote.Steps.{nothing, peeks}
pub use denote.Triple.Entry.{alive}
pub use denote.Triple.Walked.{Stays, walk_of, says, stay_dropped, Goes-dropped, ends_at}
use Rattle.std.specs.contracts.snapshot.Snapshot as Snapshot
use Rattle.guest_model.specs.contracts.recorder.KeepAll as KeepAll

-- what is told of a history, and its words
abbrev pub Seen : RattleType
Seen = Snapshot.the_row KeepAll.the_row

abbrev pub Words : RattleType
Words = Struct (shape (Snapshot.the_type KeepAll.the_row))

-- which are none
abbrev pub word : Val
word = vstruct (vcons (vstruct vnil) vnil)

pub is_word : (vs : List Val) → Is Words (tt, tt) vs → vs ≡ word ∷ []
is_word vs is = is.1.0 ∙ ap (λ (ws : List Val). vstruct (of_list (ws ++ [])) ∷ []) is.1.1.0.1.0
