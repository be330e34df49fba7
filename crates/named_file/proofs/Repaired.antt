-- A file that was lent to be repaired.
use Rattle.std.proofs.Common.{◌≡◌, ℕ, Bool, true, false, List, [], ◌∷◌, Option, Some, None, Result, Ok, Err, refl, sym, ap, subst, ◌∙◌}
use Rattle.std.specs.Prelude.{option_map}
use Rattle.std.specs.Result.{IsErrAnd}
use Rattle.std.specs.Str.{bytes_eq}
use Rattle.std.proofs.lemmas.Option.{none-some, same_Some}
use Rattle.store_model.specs.Disk.{Disk, WhereTold, WhereBothTold}
use Rattle.store_model.specs.File.{seen}
use Rattle.store_model.specs.Folder.{Held, Hosted, HasFailed, KeepsStore, RoseWhere, attached_trace, file_named, given_back, has_name, seen_named}
use Rattle.store_model.specs.Trace.{Trace, file_of}
use Rattle.log_replay.specs.Replays.{OnlyChanges}
use Rattle.vhdx_format.specs.OpenedFiles.{OpensFile}
use Rattle.vhdx_format.specs.SettledFiles.{StandsFor}
use Rattle.file_open.specs.Causes.{Meaning, refuses, host_failed, store_failed, no_memory, meaning_of}
use Rattle.file_open.specs.Effects.{LeavesOpened}
use Rattle.file_open.specs.Opening.{Refusal}
use Rattle.file_open.specs.declared.refusal.OpenRefusal.{OpenRefusal}
use Rattle.link_rules.specs.Chains.{is_among}
use Rattle.link_rules.specs.Effects.{HasReplayed, untouched}
use Rattle.link_rules.specs.Folders.{AllIdle, Lends, LendsNone, contents}
use Rattle.link_rules.proofs.Lent.{among_one, lent_quiet, lent_replayed, missing_file, none_replayed, put_in, same_name, seen-attached, seen_there, stays_synced, store_fails, synced_attached, there_answers, unlent_leaves, unlent_opens}
use Rattle.file_repair.specs.Repairing.{HasRepaired, IsUnfitFor, LeavesRepaired, RepairsMoments}
use Rattle.file_repair.specs.Repairing as store
use Rattle.file_repair.specs.declared.refusal.RepairRefusal.{RepairRefusal}
use Rattle.file_repair.specs.declared.refusal.RepairRefusal.TheVariants.{Open, IdUnfit, Store, NoRoom}
use Rattle.named_file.specs.Repairs.{AnswersRepair, EndsQuietly, IsRepairedIn, LeavesRepair, LeavesUnopened}
use Rattle.named_file.proofs.Touched.{came_back, lent_told}

handed_on : {A E : Type 0} (P : Result A E → Type 0) (result : Result A E) (e : E) → IsErrAnd result (λ x. x ≡ e) → P (Err e) → P result
handed_on P (Ok x) e same h = absurd same
handed_on P (Err x) e same h = subst (λ r. P (Err r)) (sym same) h

-- ---- a file that isn't lent

-- a missing file has nothing to replay
apart : (name : List ℕ) (f : List Held) → has_name name f ≡ false → (other bytes : List ℕ) → contents f other ≡ Some bytes → is_among other (name ∷ []) ≡ false
apart name f none other bytes had = by_name (bytes_eq name other) refl where
  by_name : (b : Bool) → bytes_eq name other ≡ b → is_among other (name ∷ []) ≡ false
  by_name true e = absurd (none-some bytes (sym (ap (option_map seen) (missing_file name f none)) ∙ ap (contents f) (same_name name other e) ∙ had))
  by_name false e = among_one name other false e

missing_replayed : (name : List ℕ) (old : Hosted) → WhereTold old.folder AllIdle → WhereTold old.folder (λ f. has_name name f ≡ false) → HasReplayed (name ∷ []) old old
missing_replayed name old idle none =
    let still = none_replayed old idle in
    record {
      files = λ f told. (f, told, record { none = λ other gone. gone; each = λ other bytes had. (bytes, had, untouched (apart name f (none f told) other bytes had)) });
      untold = still.untold;
      idle = still.idle;
      quiet = still.quiet;
      healthy = still.healthy;
    }

unlent_left : (name : List ℕ) (old new : Hosted) (meaning : Meaning Refusal) → WhereTold old.folder AllIdle → LendsNone name old new meaning → LeavesUnopened name old new meaning
unlent_left name old new (refuses refusal) idle (is, none, same) = subst (HasReplayed (name ∷ []) old) (sym same) (missing_replayed name old idle none)
unlent_left name old new (host_failed fault) idle h = let m : Meaning Refusal = host_failed fault in unlent_leaves name old new m idle h
unlent_left name old new (store_failed fault) idle h = absurd h
unlent_left name old new no_memory idle h = let m : Meaning Refusal = no_memory in let left = unlent_leaves name old new m idle h in record { idle = left.idle; quiet = left.quiet }

pub unlent_leaves_repair : (name : List ℕ) (old new : Hosted) (result : Result (Unit {0}) RepairRefusal) (refusal : OpenRefusal) → IsErrAnd result (λ e. e ≡ Open refusal) → WhereTold old.folder AllIdle → LendsNone name old new (meaning_of refusal)
    → LeavesRepair name old new result
unlent_leaves_repair name old new result refusal is idle h = handed_on (LeavesRepair name old new) result (Open refusal) is (unlent_left name old new (meaning_of refusal) idle h)

pub unlent_answers_repair : (name : List ℕ) (drawn : Option (List (List ℕ))) (old new : Hosted) (result : Result (Unit {0}) RepairRefusal) (refusal : OpenRefusal) → IsErrAnd result (λ e. e ≡ Open refusal) → LendsNone name old new (meaning_of refusal)
    → AnswersRepair name drawn drawn old.folder new.folder result
unlent_answers_repair name drawn old new result refusal is h = handed_on (AnswersRepair name drawn drawn old.folder new.folder) result (Open refusal) is (refl, unlent_opens name old new (meaning_of refusal) h)

-- ---- a file that was lent, repaired and given back

module _ (name : List ℕ) (old mid new : Hosted) (lent disk : Disk) (idle : WhereTold old.folder AllIdle) (lends : Lends name old mid lent) (only : WhereBothTold (OnlyChanges 0) lent.told disk.told)
    (images : RepairsMoments 0 lent.told disk.told) (back_is : WhereTold disk.told (λ trace. new.folder ≡ option_map (given_back trace) mid.folder)) where
  at_first : (f : List Held) → old.folder ≡ Some f → lent.told ≡ Some (attached_trace (name ∷ []) f)
  at_first f told = lent_told name old mid new lent disk idle lends only images back_is f told

  had : (f : List Held) → old.folder ≡ Some f → contents f name ≡ Some (seen_named name f)
  had f told = seen_there name f (idle f told) (lends.there f told)

  repaired_in : (id : List ℕ) → WhereBothTold (HasRepaired 0 id) lent.told disk.told → (f : List Held) → old.folder ≡ Some f → (g : List Held) → new.folder ≡ Some g → IsRepairedIn name id f g
  repaired_in id done f told g also =
      let b = came_back name old mid new lent disk idle lends only images back_is f told in
      let u : Trace = b.0 in
      let r : HasRepaired 0 id (attached_trace (name ∷ []) f) u =
      subst (λ x. WhereBothTold (HasRepaired 0 id) x (Some u)) (at_first f told) (subst (WhereBothTold (HasRepaired 0 id) lent.told) b.1 done) in
      record {
        file = seen_named name f;
        parts = r.parts;
        bytes = r.bytes;
        there = had f told;
        opens = subst (λ (z : List ℕ). OpensFile z (Ok r.parts)) (seen-attached name f) r.opens;
        stands = subst (λ (z : List ℕ). StandsFor z r.bytes) (seen-attached name f) r.stands;
        fit = r.fit;
        after = file_of u 0;
        is = subst (λ (x : List Held). file_named name x ≡ Some (file_of u 0)) (same_Some _ g (sym (b.2).after_is ∙ also)) (put_in name f (file_of u 0) (lends.there f told));
        repaired = r.repaired (synced_attached name f);
      }

  pub answers_in : (before now : Option (List (List ℕ))) (result : Result (Unit {0}) RepairRefusal) → store.AnswersRepair 0 before now lent.told disk.told result → AnswersRepair name before now old.folder new.folder result
  answers_in before now (Ok done) (id, draws, repaired) = (id, draws, repaired_in id repaired)
  answers_in before now (Err (Open refusal)) (same, opens) =
      (same, λ f told. there_answers f name _ (Err refusal) (idle f told) (lends.there f told) (seen-attached name f) (opens (attached_trace (name ∷ []) f) (at_first f told)))
  answers_in before now (Err (IdUnfit id)) (draws, unfit) =
      (draws, λ f told. (seen_named name f, had f told, subst (λ (z : List ℕ). IsUnfitFor z id) (seen-attached name f) (unfit (attached_trace (name ∷ []) f) (at_first f told))))
  answers_in before now (Err (Store fault)) h = h
  answers_in before now (Err NoRoom) h = h

  module _ (untold_is : disk.told ≡ None → mid.folder ≡ None → new.folder ≡ None) (count : RoseWhere (HasFailed disk) mid.faults new.faults) (past_is : KeepsStore disk mid new) where
    unopened_in : (meaning : Meaning Refusal) → LeavesOpened 0 lent disk meaning → LeavesUnopened name old new meaning
    unopened_in (refuses refusal) h = lent_replayed name old mid new lent disk lends only idle back_is untold_is count past_is h
    unopened_in (host_failed fault) h = absurd h
    unopened_in (store_failed fault) h = store_fails name old mid new lent disk lends only idle back_is untold_is count past_is fault h
    unopened_in no_memory h = record {
      idle = stays_synced name old mid new lent disk lends only idle back_is untold_is count past_is h.told;
      quiet = lent_quiet name old mid new lent disk lends only idle back_is untold_is count past_is h.counts;
    }

    pub leaves_in : (result : Result (Unit {0}) RepairRefusal) → LeavesRepaired 0 lent disk result → LeavesRepair name old new result
    leaves_in (Ok done) h = record {
      idle = stays_synced name old mid new lent disk lends only idle back_is untold_is count past_is h.told;
      quiet = lent_quiet name old mid new lent disk lends only idle back_is untold_is count past_is h.counts;
    }
    leaves_in (Err (Open refusal)) h = unopened_in (meaning_of refusal) h
    leaves_in (Err (IdUnfit id)) h = lent_replayed name old mid new lent disk lends only idle back_is untold_is count past_is h
    leaves_in (Err (Store fault)) h = store_fails name old mid new lent disk lends only idle back_is untold_is count past_is fault h
    leaves_in (Err NoRoom) h = record {
      idle = stays_synced name old mid new lent disk lends only idle back_is untold_is count past_is h.told;
      quiet = lent_quiet name old mid new lent disk lends only idle back_is untold_is count past_is h.counts;
    }
