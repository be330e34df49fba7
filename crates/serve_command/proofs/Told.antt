-- What is said of a script's guests, by what their session gave.
use Rattle.std.proofs.Common.{◌≡◌, ◌<◌, ◌≤◌, arith, ne_eqb, ℕ, List, Option, Some, None, Result, Ok, Err, sym, ap, subst, ◌∙◌}
use Rattle.std.specs.Prelude.{if◌then◌else◌, String, codes, string_bytes}
use Rattle.store_model.specs.declared.fault.StoreFault.{StoreFault}
use Rattle.vx_base.specs.declared.NoRoom.{NoRoom}
use Rattle.printing.specs.Answers.{fault_line}
use Rattle.printing.specs.Sent.{Sent}
use Rattle.steps_command.specs.Sessions.{lines_said}
use Rattle.serve_session.specs.declared.merging.MergeRun.{MergeRun}
use Rattle.serve_command.specs.Guests.{ReportsServed, none_served, served_of, served_said, unread_said, with_unread}
use Rattle.steps_command.specs.declared.refusal.StepsRefusal.{StepsRefusal}
use Rattle.printing.specs.declared.status.Status.{Status}
use Rattle.printing.specs.declared.status.Status.TheVariants.{Fault, NoMemory}
use Rattle.steps_command.proofs.Told.{IsSaid, said_by}

module _ (before after : Option (List ℕ)) (old new : ℕ) (status : Status) where
  -- a count that is none, or isn't
  pub unread_some : (unread : ℕ) → 0 < unread → Sent before after old new Fault (fault_line (codes "reader") unread) status → IsSaid before after old new status (unread_said unread)
  unread_some unread some h =
      said_by before after old new status (unread_said unread) (Fault, fault_line (codes "reader") unread) (ap (λ b. if b then (NoMemory, codes "no memory\n") else (Fault, fault_line (codes "reader") unread)) (ne_eqb unread 0 (λ none. absurd (omega (arith, some, none))))) h

  pub unread_none : (unread : ℕ) → unread ≤ 0 → Sent before after old new NoMemory (codes "no memory\n") status → IsSaid before after old new status (unread_said unread)
  unread_none unread none h = said_by before after old new status (unread_said unread) (NoMemory, codes "no memory\n") (ap unread_said {x = unread} {y = 0} (omega (arith, none))) h

  pub served_at_end : (unread : ℕ) (fault : Option StoreFault) (closed : Result (Unit {0}) StoreFault) (f : StoreFault) → closed ≡ Err f → Sent before after old new Fault (fault_line (codes "store") f.count) status → IsSaid before after old new status (none_served unread fault closed)
  served_at_end unread fault closed f b h = said_by before after old new status (none_served unread fault closed) (none_served unread fault (Err f)) (ap (none_served unread fault) b) h

  pub served_at_line : (unread : ℕ) (fault : Option StoreFault) (closed : Result (Unit {0}) StoreFault) (f : StoreFault) (u : Unit {0}) → fault ≡ Some f → closed ≡ Ok u → Sent before after old new Fault (fault_line (codes "store") f.count) status
      → IsSaid before after old new status (none_served unread fault closed)
  served_at_line unread fault closed f u a b h =
      said_by before after old new status (none_served unread fault closed) (none_served unread (Some f) (Ok u)) (ap (λ x. none_served unread x closed) a ∙ ap (none_served unread (Some f)) b) h

  pub served_at_all : (unread : ℕ) (fault : Option StoreFault) (closed : Result (Unit {0}) StoreFault) (u : Unit {0}) → fault ≡ None → closed ≡ Ok u → IsSaid before after old new status (unread_said unread) → IsSaid before after old new status (none_served unread fault closed)
  served_at_all unread fault closed u a b h = said_by before after old new status (none_served unread fault closed) (none_served unread None (Ok u)) (ap (λ x. none_served unread x closed) a ∙ ap (none_served unread None) b) h

  pub served_lines : {Z : Type 0} (end : Status) (unread : ℕ) (meant : Status) (t : Result (String Z) NoRoom) (fault : Option StoreFault) (closed : Result (Unit {0}) StoreFault) (text : String Z) (bytes : List ℕ) → t ≡ Ok text → bytes ≡ string_bytes text → meant ≡ with_unread end unread
      → IsSaid before after old new status (lines_said meant bytes fault closed) → IsSaid before after old new status (served_of end unread t fault closed)
  served_lines end unread meant t fault closed text bytes a b c h =
      said_by before after old new status (served_of end unread t fault closed) (lines_said (with_unread end unread) (string_bytes text) fault closed) (ap (λ x. served_of end unread x fault closed) a)
      (subst (λ e. IsSaid before after old new status (lines_said e (string_bytes text) fault closed)) c (subst (λ x. IsSaid before after old new status (lines_said meant x fault closed)) b h))

  pub served_none : {Z : Type 0} (end : Status) (unread : ℕ) (t : Result (String Z) NoRoom) (fault : Option StoreFault) (closed : Result (Unit {0}) StoreFault) (e : NoRoom) → t ≡ Err e → IsSaid before after old new status (none_served unread fault closed) → IsSaid before after old new status (served_of end unread t fault closed)
  served_none end unread t fault closed e a h = said_by before after old new status (served_of end unread t fault closed) (none_served unread fault closed) (ap (λ x. served_of end unread x fault closed) a) h

  pub served_told : (result : Result MergeRun StepsRefusal) (run : MergeRun) → result ≡ Ok run → IsSaid before after old new status (served_said run) → ReportsServed result before after old new status
  served_told result run is h = subst (λ r. ReportsServed r before after old new status) (sym is) h
