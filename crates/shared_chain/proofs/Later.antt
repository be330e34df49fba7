-- States that a session comes to, one after the other.
use Rattle.std.proofs.Common.{◌≡◌, ◌++◌, ◌∷◌, ℕ, Bool, true, false, [], inl, refl, sym, ◌∙◌}
use Rattle.guest_model.specs.declared.call.Entry.{Entry}
use Rattle.guest_model.specs.History.{History}
use Rattle.chain_core.specs.States.{State, with_entry}
use Rattle.script_session.specs.Histories.{IsLater}
use Rattle.script_session.proofs.LeftFiles.{later_itself, later_same, later_writes}
use Rattle.script_session.proofs.Telling.{names_entry, numbers_entry}

pub later_through : (from v : State) (h k : History) (end : State) → IsLater from h v → IsLater v k end → IsLater from k end
later_through from v h k end c is = later_same from v k end c.leaf c.opening c.began c.left c.names c.goes c.whole c.source is

pub later_entry : (e : Entry) (v : State) → IsLater v (v.history ++ e ∷ []) (with_entry e v)
later_entry e v =
    later_same v (with_entry e v) (v.history ++ e ∷ []) (with_entry e v) refl refl refl (numbers_entry e v) (names_entry e v) (inl (record { number = refl; name = refl; retired = refl; writes = refl; since = refl; merges = refl })) (λ u. (u, refl)) (λ u. refl)
    (later_itself (with_entry e v))

-- what it may change it might before
pub written_before : (from : State) (h : History) (v : State) → IsLater from h v → (n : ℕ) → v.writes n ≡ true → from.writes n ≡ true
written_before from h v is n written = by_write (from.writes n) refl
  where
    by_write : (b : Bool) → from.writes n ≡ b → from.writes n ≡ true
    by_write true e = e
    by_write false e = let never : false ≡ true = sym (later_writes from v is.goes n e) ∙ written in cc
