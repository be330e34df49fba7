-- What a session leaves that ended with status 0, and of which no call was refused.
use Rattle.std.proofs.Common.{◌≡◌, ◌≢◌, ◌+◌, ℕ, true, false, List, length, Option, Some, None, refl, sym, subst, ◌∙◌, arith}
use Rattle.std.specs.Prelude.{IfSome, sum_by}
use Rattle.store_model.specs.Folder.{Held}
use Rattle.store_model.specs.declared.fault.StoreFault.{StoreFault}
use Rattle.script.specs.declared.form.ScriptKind.TheVariants as kinds
use Rattle.script_session.specs.Told.{later_of}
use Rattle.serve_session.specs.Served.{all_unread, asked_by, guest_count}
use Rattle.serve_session.specs.Tallies.{AddsUp, all_outcomes, first_refused, seen_of}
use Rattle.serve_session.specs.declared.tally.Tally.{Tally}
use Rattle.load_served.specs.Complete.{AreAnswered}
use Rattle.command_base.specs.Worlds.{World}
use Rattle.printing.specs.Sent.{Sent, cut, whole}
use Rattle.printing.specs.declared.status.Status.{Status}
use Rattle.printing.specs.declared.status.Status.TheVariants.{Done, Fault, NoMemory}
use Rattle.serve_command.specs.Serves.{HasServedOut, HasTally, IsServeText, KeepsServed, ServesOver}
use Rattle.steps_command.specs.Steps.{IsUnopenedText, RunsUnopened}

-- a text that was sent with status 0 was meant so
pub done_meant : (before after : Option (List ℕ)) (old new : ℕ) (meant : Status) (text : List ℕ) → Sent before after old new meant text Done → meant ≡ Done
done_meant before after old new meant text (whole is sent same) = sym is
done_meant before after old new meant text (cut is n sent rose) = let never : Done ≡ Fault = is in cc

none_later : (a b : Option StoreFault) → later_of a b ≡ None → b ≡ None
none_later a None e = refl
none_later a (Some fault) e = let never : Some fault ≡ None = e in cc

none_more : (a b : ℕ) → a + b ≡ 0 → a ≡ 0
none_more a b e = omega (arith, e)

-- a session that isn't begun isn't told as done
pub unopened_undone : (leaf : List ℕ) (before now : World) → RunsUnopened kinds.Serve leaf before now Done → ⊥
unopened_undone leaf before now u = subst (λ m. IsUnopenedText leaf before now m u.printed.text) (done_meant _ _ _ _ u.printed.meant u.printed.text u.printed.sent) u.printed.said

module _ (leaf : List ℕ) (merge : Option (List ℕ)) (before now : World) (s : ServesOver leaf merge before now Done) where
  meant_is : s.meant ≡ Done
  meant_is = done_meant _ _ _ _ s.meant s.text s.sent

  said : IsServeText s.begun merge now s.service Done s.text
  said = subst (λ m. IsServeText s.begun merge now s.service m s.text) meant_is s.said

  no_fault : s.meant ≢ Fault
  no_fault e = let never : Done ≡ Fault = sym meant_is ∙ e in cc

  none_unread : length (all_unread s.service.guests) ≡ 0
  none_unread = none_more (length (all_unread s.service.guests)) s.service.unfetched (s.quiet no_fault).2

  pub has_begun : s.service.has_begun ≡ true
  has_begun = said.1

  pub none_stopped : s.service.stopped ≡ None
  none_stopped = said.2

  pub served_out : HasServedOut merge s.service Done
  served_out = record { sound = (none_later s.service.refused s.service.ended (s.quiet no_fault).1, λ e. absurd (let never : false ≡ true = sym e ∙ has_begun in cc)); begun = λ e. let never : Done ≡ NoMemory = e in cc }

  pub keeps : (f : List Held) → before.host.folder ≡ Some f → KeepsServed leaf s.begun.linked s.begun.disk merge (asked_by s.begun.lines) s.service Done s.session.opened now.host
  keeps f told = subst (λ m. KeepsServed leaf s.begun.linked s.begun.disk merge (asked_by s.begun.lines) s.service m s.session.opened now.host) meant_is (s.session.kept f told)

  -- what the calls came to that were all taken
  taken_adds : (heard : Option Tally) → HasTally s.service heard → IfSome heard (λ tally. tally.refused ≡ None) → (tally : Tally) × (heard ≡ Some tally) × AddsUp tally (all_outcomes s.service.guests) × (first_refused (all_outcomes s.service.guests) ≡ None)
  taken_adds None has taken = absurd (let never : true ≡ false = sym has_begun ∙ has.begun in cc)
  taken_adds (Some tally) has taken = (tally, refl, has.adds, sym has.adds.refused ∙ taken)

  pub tally_is : (heard : Option Tally) → HasTally s.service heard → IfSome heard (λ tally. tally.refused ≡ None) → (tally : Tally) × (heard ≡ Some tally) × (tally.seen ≡ sum_by seen_of (all_outcomes s.service.guests))
  tally_is heard has taken = let t = taken_adds heard has taken in (t.0, t.1, t.2.seen)

  pub answered : (heard : Option Tally) → HasTally s.service heard → IfSome heard (λ tally. tally.refused ≡ None) → AreAnswered s.begun.lines s.service.guests
  answered heard has taken = record { whole = said.0.transcript.whole; taken = (taken_adds heard has taken).3; read = none_unread }

  pub count : length s.service.guests ≡ guest_count s.begun.lines
  count = said.0.count
