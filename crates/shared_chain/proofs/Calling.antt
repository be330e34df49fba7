-- All that a call of a shared chain leaves.
use Rattle.std.proofs.Common.{Bool, List, ◌≡◌, ◌++◌, ◌∷◌, ℕ, [], Option, Some, None, Result, Ok, Err, refl, sym, ap, subst, ◌∙◌, arith}
use Rattle.std.specs.Prelude.{IfSome, OnOk, is_some}
use Rattle.store_model.specs.Disk.{Disk}
use Rattle.guest_model.specs.declared.call.Call.{Call}
use Rattle.guest_model.specs.declared.call.Caller.{Caller}
use Rattle.guest_model.specs.declared.call.Entry.{Entry}
use Rattle.ledger.specs.declared.ledger.Ledger.{Ledger}
use Rattle.guest_model.specs.declared.refusal.ChainRefusal.{ChainRefusal}
use Rattle.guest_model.specs.History.{History}
use Rattle.chain_core.specs.declared.chain.Chain.{Chain}
use Rattle.chain_core.specs.Answering.{AnswersTold, HasRoom, IsNoted, Notes}
use Rattle.chain_core.specs.Copying.{MergeFollows}
use Rattle.chain_core.specs.Refusing.{counted, misplaced, refused}
use Rattle.script_session.proofs.Moving.{counted_high}
use Rattle.chain_core.specs.Sessions.{IsSound, Session, leaf_number}
use Rattle.chain_core.specs.States.{entry}
use Rattle.layer_session.proofs.Equal.{ok_err, some_same}
use Rattle.store_model.specs.declared.fault.StoreFault.{StoreFault}
use Rattle.shared_chain.specs.declared.basis.Breach.{Breach}
use Rattle.shared_chain.specs.Faults.{fault_after}
use Rattle.shared_chain.specs.Steps.{breach_of, broke_after}
use Rattle.script_session.specs.Answers.{HasCauseOf}
use Rattle.shared_chain.specs.Answers.{Answered, IsBroke, IsCalled, IsCausedIn, IsEntered}
use Rattle.merge_core.specs.Copied.{marks_of}
use Rattle.merge_core.specs.declared.marks.Marks.{Marks}
use Rattle.shared_chain.specs.Bases.{marked_below, notes_in}
use Rattle.shared_chain.specs.Homes.{IsHome, session_of}
use Rattle.shared_chain.specs.Shared.{Shared}
use Rattle.shared_chain.specs.Notes.{NotesBy, full_after}
use Rattle.shared_chain.proofs.Causing.{early_caused, reached_caused, same_place}
use Rattle.shared_chain.proofs.Breaking.{none_broke}
use Rattle.shared_chain.proofs.Filling.{stops_over}
use Rattle.shared_chain.proofs.Homing.{still_home}
use Rattle.shared_chain.proofs.Noting.{IsChange, noted}
use Rattle.shared_chain.proofs.Reaching.{reached, reached_change_is}
use Rattle.shared_chain.proofs.Refusals.{early, early_change, not_early}

module _ {S T : Type 0} (disk : S → Disk) (old new : Chain S Ledger T) where
  abbrev before : Session
  before = session_of disk old

  abbrev after : Session
  after = session_of disk new

  early_seen : (o : Option ChainRefusal) (answer : Result ℕ ChainRefusal) → IfSome o (λ e. (answer ≡ Err e) × (new ≡ record old { events = new.events })) → new.events ≡ counted old.events
      → IfSome o (λ e. (answer ≡ Err e) × (after ≡ record before { events = counted before.events }))
  early_seen None answer h f = tt
  early_seen (Some e) answer h f = (h.0, ap (session_of disk) h.1 ∙ ap (λ n. record before { events = n }) f)

  -- the clauses of one call
  pub answered : (who : Caller) (call : Call) (answer : Result ℕ ChainRefusal) → IsSound after → new.events ≡ counted old.events → new.layers.geometry ≡ old.layers.geometry
      → is_some new.layers.leaf ≡ is_some old.layers.leaf → leaf_number new.layers ≡ leaf_number old.layers
      → IfSome (refused call before) (λ e. (answer ≡ Err e) × (new ≡ record old { events = new.events }))
      → Notes who call before after answer → HasCauseOf call before after answer → HasRoom call before answer → MergeFollows call old.layers new.layers answer → AnswersTold who call before after answer
      → Answered who call before after answer
  answered who call answer sound events geometry session leaf early_ notes cause room follows told = record {
    sound = sound;
    events = events;
    geometry = geometry;
    session = session;
    leaf = leaf;
    early = early_seen (refused call before) answer early_ events;
    notes = notes;
    cause = cause;
    room = room;
    merge = follows;
    told = told;
  }

  -- ---- the history

  kept_list : (h h' : History) → ◌≡◌ {A = Option History} (Some h') (Some h) → h' ≡ h
  kept_list h h' e = some_same {x = h'} {y = h} e

  noted_entry : (e : Entry) (answer : Result ℕ ChainRefusal) → IsNoted e before after answer → IsEntered e old.recorder new.recorder answer
  noted_entry e (Ok place) n = (kept_list (old.recorder ++ e ∷ []) new.recorder n.0, n.2)
  noted_entry e (Err x) n = kept_list old.recorder new.recorder n.0

  no_entry : (e : Entry) (answer : Result ℕ ChainRefusal) (x : ChainRefusal) → answer ≡ Err x → new.recorder ≡ old.recorder → IsEntered e old.recorder new.recorder answer
  no_entry e (Ok place) x is same = absurd (ok_err is)
  no_entry e (Err y) x is same = same

  module _ (who : Caller) (call : Call) (answer : Result ℕ ChainRefusal) (a : Answered who call before after answer) where
    pub entered : IsEntered (entry who call) old.recorder new.recorder answer
    entered = go (refused call before) refl
      where
        go : (o : Option ChainRefusal) → refused call before ≡ o → IsEntered (entry who call) old.recorder new.recorder answer
        go None is = noted_entry (entry who call) answer (a.notes is)
        go (Some x) is =
            let e = subst (λ o. IfSome o (λ x. (answer ≡ Err x) × (after ≡ record before { events = counted before.events }))) is a.early in
            no_entry (entry who call) answer x e.0 (kept_list old.recorder new.recorder (ap (λ (s : Session). s.told) e.1))

    module _ (first : Chain S Ledger T) (old_full : Option ℕ) (broke : Option Breach) (fault : Option StoreFault) (home : IsHome (session_of disk first) before old.recorder old_full broke fault) where
      pub home_after : IsHome (session_of disk first) after new.recorder (full_after old_full answer) (broke_after broke (breach_of who call) answer) (fault_after fault answer)
      home_after = still_home (session_of disk first) before after old.recorder new.recorder old_full broke fault who call answer home a refl entered

      pub home_as : (full' : Option ℕ) (broke' : Option Breach) (fault' : Option StoreFault) → full' ≡ full_after old_full answer → broke' ≡ broke_after broke (breach_of who call) answer → fault' ≡ fault_after fault answer
          → IsHome (session_of disk first) after new.recorder full' broke' fault'
      home_as full' broke' fault' full_is broke_is fault_is =
          subst (λ f. IsHome (session_of disk first) after new.recorder full' broke' f) (sym fault_is)
          (subst (λ b. IsHome (session_of disk first) after new.recorder full' b (fault_after fault answer)) (sym broke_is)
          (subst (λ n. IsHome (session_of disk first) after new.recorder n (broke_after broke (breach_of who call) answer) (fault_after fault answer)) (sym full_is) home_after))

      -- what has broken it
      is_broke : IsBroke (breach_of who call) broke (broke_after broke (breach_of who call) answer) answer
      is_broke = go (refused call before) refl answer refl
        where
          go : (o : Option ChainRefusal) → refused call before ≡ o → (r : Result ℕ ChainRefusal) → answer ≡ r → IsBroke (breach_of who call) broke (broke_after broke (breach_of who call) r) r
          go o is (Err x) same = refl
          go None is (Ok place) same = let none = none_broke broke old.broken home.breaks (not_early call before is).0 in (none, none)
          go (Some x) is (Ok place) same =
              let e = subst (λ o. IfSome o (λ x. (answer ≡ Err x) × (after ≡ record before { events = counted before.events }))) is a.early in
              absurd (ok_err (sym same ∙ e.0))

      -- what it notes
      changes : IsChange answer before.disk after.disk before.broken after.broken
      changes = go (refused call before) refl
        where
          go : (o : Option ChainRefusal) → refused call before ≡ o → IsChange answer before.disk after.disk before.broken after.broken
          go None is = reached_change_is before after answer (not_early call before is).0 (reached call before after answer home.sound is a.cause)
          go (Some x) is =
              let e = subst (λ o. IfSome o (λ x. (answer ≡ Err x) × (after ≡ record before { events = counted before.events }))) is a.early in
              subst (λ r. IsChange r before.disk after.disk before.broken after.broken) (sym e.0)
              (subst (λ (s : Session). IsChange (Err x) before.disk s.disk before.broken s.broken) (sym e.1) (early_change call before x (early call before x is)))

      module _ (full : Option ℕ) (copied : Marks) (finished : Bool) (is_full : full ≡ full_after old_full answer) where
        abbrev stripes : ℕ
        stripes = copied.stripes

        abbrev copied_list : List ℕ
        copied_list = marked_below (marks_of copied) copied.stripes

        notes_by : NotesBy answer (notes_in before.disk before.broken old_full) (notes_in after.disk after.broken full)
        notes_by =
            subst (λ f. NotesBy answer (notes_in before.disk before.broken old_full) (notes_in after.disk after.broken f)) (sym is_full)
            (noted before.disk after.disk before.broken after.broken old_full answer changes)

        caused : IsCausedIn disk call (record { first = Some first; notes = notes_in before.disk before.broken old_full; events = before.events; stripes = stripes; copied = copied_list; finished = finished }) (record { first = Some first; notes = notes_in after.disk after.broken full; events = after.events; stripes = stripes; copied = copied_list; finished = finished }) answer
        caused = go (refused call before) refl
          where
            place : misplaced call first.layers ≡ misplaced call old.layers
            place = same_place call old.layers first.layers home.geometry home.session

            go : (o : Option ChainRefusal) → refused call before ≡ o
                → IsCausedIn disk call (record { first = Some first; notes = notes_in before.disk before.broken old_full; events = before.events; stripes = stripes; copied = copied_list; finished = finished }) (record { first = Some first; notes = notes_in after.disk after.broken full; events = after.events; stripes = stripes; copied = copied_list; finished = finished }) answer
            go None is =
                reached_caused disk call first before after old_full full stripes copied_list finished place answer (not_early call before is).1 (reached call before after answer home.sound is a.cause) notes_by
                (λ next e. stops_over (session_of disk first) before after old.recorder old_full broke fault home who call answer a is next e)
            go (Some x) is =
                let e = subst (λ o. IfSome o (λ x. (answer ≡ Err x) × (after ≡ record before { events = counted before.events }))) is a.early in
                subst (IsCausedIn disk call (record { first = Some first; notes = notes_in before.disk before.broken old_full; events = before.events; stripes = stripes; copied = copied_list; finished = finished }) (record { first = Some first; notes = notes_in after.disk after.broken full; events = after.events; stripes = stripes; copied = copied_list; finished = finished })) (sym e.0)
                (early_caused disk call first before after old_full full stripes copied_list finished place x (omega (arith, a.events, counted_high before.events)) (early call before x is)
                (subst (λ r. NotesBy r (notes_in before.disk before.broken old_full) (notes_in after.disk after.broken full)) e.0 notes_by))

        abbrev was : Shared (Chain S Ledger T)
        was = record { chain = old; first = first; full = old_full; broke = broke; fault = fault; copied = copied; finished = finished }

        module _ (broke' : Option Breach) (fault' : Option StoreFault) (broke_is : broke' ≡ broke_after broke (breach_of who call) answer) (fault_is : fault' ≡ fault_after fault answer) where
          abbrev now : Shared (Chain S Ledger T)
          now = record { chain = new; first = first; full = full; broke = broke'; fault = fault'; copied = copied; finished = finished }

          pub called : IsCalled disk who call was now answer
          called = record { first = refl; entered = entered; broke = subst (λ b. IsBroke (breach_of who call) broke b answer) (sym broke_is) is_broke; fault = fault_is; copied = refl; finished = refl; noted = notes_by; cause = caused; answered = a }

          pub called_as : (seen : Shared (Chain S Ledger T)) → was ≡ seen → IsCalled disk who call seen now answer
          called_as seen is = subst (λ s. IsCalled disk who call s now answer) is called

      -- a call that was done found the session whole
      whole : (place : ℕ) → answer ≡ Ok place → old.broken ≡ None
      whole place is = by_cause (refused call before) refl
        where
          by_cause : (o : Option ChainRefusal) → refused call before ≡ o → old.broken ≡ None
          by_cause None fit = (not_early call before fit).0
          by_cause (Some x) never =
              let e = subst (λ o. IfSome o (λ x. (answer ≡ Err x) × (after ≡ record before { events = counted before.events }))) never a.early in
              absurd (ok_err (sym is ∙ e.0))

      -- and what is so of a whole session then is so where the call was done
      pub where_done : {P Q : Type 0} → (old.broken ≡ None → P → Q) → OnOk answer P → OnOk answer Q
      where_done {P} {Q} f h = go answer refl h
        where
          go : (r : Result ℕ ChainRefusal) → answer ≡ r → OnOk r P → OnOk r Q
          go (Ok place) is h = f (whole place is) h
          go (Err x) is h = tt
