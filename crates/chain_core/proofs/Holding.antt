-- What a flush leaves, and the end of a session.
use Rattle.std.proofs.Common.{◌≡◌, ◌+◌, ℕ, false, length, refl, sym, subst}
use Rattle.std.specs.Prelude.{Option, Some, None, Result, Ok, Err, OnOk, is_some}
use Rattle.store_model.specs.Disk.{Disk, WhereBothTold}
use Rattle.store_model.specs.Trace.{Trace}
use Rattle.guest_model.specs.declared.call.Caller.{Caller}
use Rattle.guest_model.specs.declared.call.Call.TheVariants as calls
use Rattle.guest_model.specs.declared.refusal.ChainRefusal.{ChainRefusal}
use Rattle.guest_model.proofs.HistoryLaws.{replay_unchanged}
use Rattle.chain_model.specs.Moments.{EachOpens}
use Rattle.chain_core.specs.declared.layers.Layers.{Layers}
use Rattle.chain_core.specs.States.{State, IsNextPlace, IsServing, AreHeld, NextIn, Rest, dirty_now, disk_now, entry, files_of, merging, plain, retiring, sector_of, with_entry, others_of}
use Rattle.chain_core.proofs.Links.{served_links}
use Rattle.chain_core.specs.Answering.{Answers, HasClosed, HasEndedWhole}
use Rattle.chain_core.proofs.Steps.{at_rest}
use Rattle.chain_core.proofs.Concluding.{SessionTold, same_told}
use Rattle.chain_core.proofs.Rests.{new_top, opens_now}
use Rattle.layer_session.proofs.Equal.{false_true}

-- ---- once nothing is loose

all_durable : (v : State) (layers : Layers) (trace : Trace) → IsServing layers v trace → ((s : ℕ) → v.top.is_loose s ≡ false) → EachOpens v.leaf (λ s. false) (disk_now v) trace
all_durable v layers trace serving tight =
    opens_now (sector_of v) v.opening v.history v.leaf (λ s. false) v.retired v.top v.rest trace serving.once serving.served (new_top (dirty_now v) (λ s. false) v.top v.top v.rest refl serving.loose (λ s clean. tight s))

next_in : (rest : Rest) {P : Type 0} → P → NextIn rest P
next_in (plain others) p = tt
next_in (merging above source target below m) p = tt
next_in (retiring target below first before) p = p

-- a flush that was done makes all durable
pub flush_durable : (who : Caller) (old new : Layers) (before after : Disk) (result : Result ℕ ChainRefusal) → ((place : ℕ) → SessionTold place (entry who calls.Flush) old new before after result)
    → OnOk result (WhereBothTold (λ trace now. (v : State) → IsServing old v trace → EachOpens v.leaf (λ s. false) (disk_now v) now) before.told after.told)
flush_durable who old new before after (Err e) told = tt
flush_durable who old new before after (Ok place) told = each_told before.told after.told told
  where
    each_told : (a b : Option Trace) → ((n : ℕ) → WhereBothTold (λ trace now. (v : State) → IsServing old v trace → IsNextPlace n v → Answers (entry who calls.Flush) v new trace now (Ok place)) a b)
        → WhereBothTold (λ trace now. (v : State) → IsServing old v trace → EachOpens v.leaf (λ s. false) (disk_now v) now) a b
    each_told None None told = tt
    each_told None (Some y) told = told 0
    each_told (Some x) None told = told 0
    each_told (Some x) (Some y) told = λ v serving.
        subst (λ d. EachOpens v.leaf (λ s. false) d y) (replay_unchanged (sector_of v) v.opening v.history (entry who calls.Flush) refl)
        (all_durable (with_entry (entry who calls.Flush) v) new y (told (length v.history + 1) v serving (next_in v.rest refl)).serving (λ s. refl))

-- ---- the end

-- one with no session changes nothing
rests_whole : (v : State) (layers : Layers) (trace : Trace) → layers.leaf ≡ None → IsServing layers v trace → HasEndedWhole false v trace trace
rests_whole v layers trace is serving =
    let tight : (s : ℕ) → v.top.is_loose s ≡ false = (subst (λ o. AreHeld o layers.below.items trace v.top (others_of v.rest)) is serving.held).0 in
    record {
      ended = record { moments = (at_rest v layers trace serving).moments; still = serving.still; past = serving.past };
      all = all_durable v layers trace serving tight;
      links = served_links (sector_of v) v.opening v.history v.leaf v.retired (files_of v) trace serving.once serving.served;
      synced = λ session. absurd (false_true session);
      no_log = λ session. absurd (false_true session);
    }

pub rest_told : (layers : Layers) (disk : Disk) → layers.leaf ≡ None
    → WhereBothTold (λ trace now. (v : State) → IsServing layers v trace → HasClosed (is_some layers.leaf) v trace now (Ok tt)) disk.told disk.told
rest_told layers disk is =
    same_told (λ trace now. (v : State) → IsServing layers v trace → HasClosed (is_some layers.leaf) v trace now (Ok tt)) disk.told
    (λ trace v serving. subst (λ o. HasClosed (is_some o) v trace trace (Ok tt)) (sym is) (rests_whole v layers trace is serving))
