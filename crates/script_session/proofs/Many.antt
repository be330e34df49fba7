-- Reads and writes of more sectors than one may name.
use Rattle.std.proofs.Common.{◌≡◌, ◌<◌, ◌*◌, ◌/◌, ◌%◌, ℕ, List, [], Option, Some, None, Result, Err, sym, ap, subst, ◌∙◌}
use Rattle.std.specs.Prelude.{IfSome, is_some, replicate}
use Rattle.store_model.specs.Disk.{Disk}
use Rattle.guest_model.specs.declared.call.Call.TheVariants as calls
use Rattle.guest_model.specs.declared.call.Caller.{Caller}
use Rattle.guest_model.specs.declared.call.Entry.{Entry}
use Rattle.guest_model.specs.declared.call.Reply.{Reply}
use Rattle.guest_model.specs.declared.refusal.ChainRefusal.{ChainRefusal}
use Rattle.guest_model.specs.declared.refusal.ChainRefusal.TheVariants.{EmptyRange, TooLong}
use Rattle.guest_model.specs.Ranges.{range_refusal}
use Rattle.chain_core.specs.declared.chain.Chain.{Chain}
use Rattle.chain_core.specs.Answering.{AnswersTold}
use Rattle.chain_core.specs.Refusing.{barred, counted, or_else, out_of, refused, unfit}
use Rattle.chain_core.specs.Sessions.{IsSound, Session, seen}
use Rattle.chain_core.specs.Copying.{MergeFollows}
use Rattle.script_session.specs.Answers.{Answers, too_long}
use Rattle.script_session.proofs.Long.{Refuses, long_early, long_follows, long_told, never_none, range_long, refused_no_ok, short_keeps}
use Rattle.script_session.proofs.Seen.{early_seen, written_length}

none_sectors : (sector : ℕ) → sector ≡ 512 → 0 / sector ≡ 0
none_sectors sector e = ap (λ s. 0 / s) e

pub none_left : (sector : ℕ) → sector ≡ 512 → 0 % sector ≡ 0
none_left sector e = ap (λ s. 0 % s) e

module _ {S R T : Type 0} (disk : S → Disk) (noted : R → ℕ) (told : R → Option (List Entry)) (old new : Chain S R T) where
  abbrev before : Session
  before = seen disk noted told old

  abbrev after : Session
  after = seen disk noted told new

  abbrev Alone : Type 0
  Alone = new ≡ record old { events = new.events }

  abbrev Stays : Type 0
  Stays = after ≡ record before { events = counted before.events }

  -- the cause of the call that is meant
  long_refused : (first count : ℕ) → 2048 < count → refused (calls.Read first count) before ≡ or_else (unfit before.events before.broken) (Some (TooLong count 2048))
  long_refused first count many =
      ap (λ r. or_else (unfit before.events before.broken) (out_of r (barred (calls.Read first count) (is_some before.layers.leaf)))) (range_long first count before.layers.geometry.sectors many)

  pub read_answers : (who want : Caller) (first count : ℕ) (answer result : Result ℕ ChainRefusal) (reply : Reply) → who ≡ want → result ≡ too_long count answer → IsSound before → 2048 < count
      → IfSome (refused (calls.Read first (0 / old.layers.geometry.sector)) before) (λ e. (answer ≡ Err e) × Alone) → new.events ≡ counted old.events → new.layers.geometry ≡ old.layers.geometry
      → is_some new.layers.leaf ≡ is_some old.layers.leaf → MergeFollows (calls.Read first (0 / old.layers.geometry.sector)) old.layers new.layers answer → AnswersTold who (calls.Read first (0 / old.layers.geometry.sector)) before after answer
      → Answers want (calls.Read first count) result reply before after
  read_answers who want first count answer result reply is too sound many early events geometry session follows told_ =
      let short : Refuses (or_else (unfit before.events before.broken) (Some EmptyRange)) answer Stays =
      early_seen disk noted told old new (refused (calls.Read first 0) before) answer (subst (λ n. IfSome (refused (calls.Read first n) before) (λ e. (answer ≡ Err e) × Alone)) (none_sectors old.layers.geometry.sector sound.sector) early) events in
      let long : Refuses (or_else (unfit before.events before.broken) (Some (TooLong count 2048))) (too_long count answer) Stays = long_early count before.events before.broken answer Stays short in
      let never : refused (calls.Read first count) before ≡ None → ⊥ = λ none. never_none (unfit before.events before.broken) (TooLong count 2048) (sym (long_refused first count many) ∙ none) in
      subst (λ (w : Caller). Answers w (calls.Read first count) result reply before after) is
      (subst (λ r. Answers who (calls.Read first count) r reply before after) (sym too) (record {
        sound = sound;
        early = subst (λ o. Refuses o (too_long count answer) Stays) (sym (long_refused first count many)) long;
        notes = λ none. absurd (never none);
        cause = λ none. absurd (never none);
        room = tt;
        replies = refused_no_ok (unfit before.events before.broken) (TooLong count 2048) (too_long count answer) Stays _ long;
        told = λ whole. long_told count who (calls.Read first 0) (calls.Read first count) before after answer Stays short
            (subst (λ n. AnswersTold who (calls.Read first n) before after answer) (none_sectors old.layers.geometry.sector sound.sector) told_) whole;
        geometry = geometry;
        session = session;
        merge = long_follows (unfit before.events before.broken) (TooLong count 2048) (too_long count answer) Stays _ old.layers new.layers (short_keeps (unfit before.events before.broken) EmptyRange answer Stays _ old.layers new.layers short follows) long;
        events = events;
      }))

  write_refused : (first count byte : ℕ) → old.layers.geometry.sector ≡ 512 → 2048 < count
      → refused (calls.Write first (replicate (512 * count) byte)) before ≡ or_else (unfit before.events before.broken) (Some (TooLong count 2048))
  write_refused first count byte sector many =
      ap (λ r. or_else (unfit before.events before.broken) (out_of r (barred (calls.Write first (replicate (512 * count) byte)) (is_some before.layers.leaf))))
      (ap (λ n. range_refusal first n 2048 before.layers.geometry.sectors) (written_length count byte old.layers.geometry.sector sector) ∙ range_long first count before.layers.geometry.sectors many)

  none_refused : (first : ℕ) → old.layers.geometry.sector ≡ 512 → refused (calls.Write first []) before ≡ or_else (unfit before.events before.broken) (Some EmptyRange)
  none_refused first sector =
      ap (λ n. or_else (unfit before.events before.broken) (out_of (range_refusal first n 2048 before.layers.geometry.sectors) (barred (calls.Write first []) (is_some before.layers.leaf))))
      (none_sectors old.layers.geometry.sector sector)

  pub write_answers : (who want : Caller) (first count byte : ℕ) (answer result : Result ℕ ChainRefusal) (reply : Reply) → who ≡ want → result ≡ too_long count answer → IsSound before → 2048 < count
      → IfSome (refused (calls.Write first []) before) (λ e. (answer ≡ Err e) × Alone) → new.events ≡ counted old.events → new.layers.geometry ≡ old.layers.geometry
      → is_some new.layers.leaf ≡ is_some old.layers.leaf → MergeFollows (calls.Write first []) old.layers new.layers answer → AnswersTold who (calls.Write first []) before after answer
      → Answers want (calls.Write first (replicate (512 * count) byte)) result reply before after
  write_answers who want first count byte answer result reply is too sound many early events geometry session follows told_ =
      let short : Refuses (or_else (unfit before.events before.broken) (Some EmptyRange)) answer Stays =
      subst (λ o. Refuses o answer Stays) (none_refused first sound.sector) (early_seen disk noted told old new (refused (calls.Write first []) before) answer early events) in
      let long : Refuses (or_else (unfit before.events before.broken) (Some (TooLong count 2048))) (too_long count answer) Stays = long_early count before.events before.broken answer Stays short in
      let never : refused (calls.Write first (replicate (512 * count) byte)) before ≡ None → ⊥ =
      λ none. never_none (unfit before.events before.broken) (TooLong count 2048) (sym (write_refused first count byte sound.sector many) ∙ none) in
      subst (λ (w : Caller). Answers w (calls.Write first (replicate (512 * count) byte)) result reply before after) is
      (subst (λ r. Answers who (calls.Write first (replicate (512 * count) byte)) r reply before after) (sym too) (record {
        sound = sound;
        early = subst (λ o. Refuses o (too_long count answer) Stays) (sym (write_refused first count byte sound.sector many)) long;
        notes = λ none. absurd (never none);
        cause = λ none. absurd (never none);
        room = λ none. absurd (never none);
        replies = refused_no_ok (unfit before.events before.broken) (TooLong count 2048) (too_long count answer) Stays _ long;
        told = λ whole. long_told count who (calls.Write first []) (calls.Write first (replicate (512 * count) byte)) before after answer Stays short told_ whole;
        geometry = geometry;
        session = session;
        merge = long_follows (unfit before.events before.broken) (TooLong count 2048) (too_long count answer) Stays _ old.layers new.layers (short_keeps (unfit before.events before.broken) EmptyRange answer Stays _ old.layers new.layers short follows) long;
        events = events;
      }))
