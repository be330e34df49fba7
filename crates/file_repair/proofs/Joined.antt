-- What is so of a repair, joined from its opening and its rewriting.
use Rattle.std.proofs.Common.{◌≡◌, ℕ, ◌-◌, ◌^◌, ◌<◌, ◌≤◌, ◌⊎◌, Bool, true, false, List, [], ◌∷◌, ◌++◌, Option, Some, None, Result, Ok, Err, refl, sym, ap, subst, ◌∙◌, arith, inl, inr}
use Rattle.std.specs.Prelude.{⊤, if◌then◌else◌, option_map}
use Rattle.std.specs.Result.{IsErrAnd}
use Rattle.std.specs.Prelude.{IfErr, OnOk}
use Rattle.std.proofs.lemmas.Bool.{cases_lt}
use Rattle.std.proofs.lemmas.List.Elements.{All-cons, All-nil}
use Rattle.std.proofs.lemmas.Option.{same_Some}
use Rattle.log_replay.proofs.Replaying.{weaker}
use Rattle.log_replay.specs.Replays.{OnlyChanges}
use Rattle.store_model.specs.Cause.{RoseAt}
use Rattle.store_model.specs.Disk.{Disk, LeavesStore, WhereTold, WhereBothTold}
use Rattle.store_model.specs.File.{File, Op, is_synced, seen}
use Rattle.store_model.specs.Plans.{FailsToChange, StopsIn, changed_all}
use Rattle.store_model.specs.Trace.{ChangesOnly, HasFile, HasImages, Trace, file_of}
use Rattle.store_model.specs.declared.fault.StoreFault.{StoreFault}
use Rattle.store_model.proofs.Plans.{after_append, after_plan, both_of, counts_planned, told_join}
use Rattle.store_model.proofs.Spans.{EachMoment-weaken, span-join}
use Rattle.torn_match.specs.TornMatches.{ChangesUntorn, EachUntorn}
use Rattle.vx_base.specs.Fields.{IsGuid}
use Rattle.vx_base.specs.declared.parts.Header.{Header}
use Rattle.vx_base.specs.declared.parts.Parts.{Parts}
use Rattle.vhdx_format.specs.Fields.{guid_bytes}
use Rattle.vhdx_format.specs.FileParts.{HasNumbers}
use Rattle.vhdx_format.specs.OpenedFiles.{OpensFile}
use Rattle.vhdx_format.specs.RegionTables.{is_valid_region_table, region_copy}
use Rattle.vhdx_format.specs.Rules.{BrokenRule}
use Rattle.vhdx_format.specs.SettledFiles.{StandsFor}
use Rattle.vhdx_format.proofs.FileLemmas.{stands_once}
use Rattle.vhdx_format.proofs.OpenedLemmas.{opens_file_once}
use Rattle.make_file.specs.Identifiers.{Draws, is_unfit}
use Rattle.file_open.specs.Causes.{AnswersOpening, no_memory, store_failed}
use Rattle.file_open.specs.Effects.{CallFailed, HasOpened, IsOpened, KeepsFile, KeepsMoments, OpensAlike, StaysLike, StaysSynced, of_change}
use Rattle.file_open.specs.Opening.{Opens}
use Rattle.file_open.specs.Opening as opening
use Rattle.file_open.proofs.Again.{opens_again}
use Rattle.file_open.proofs.Settling.{both_map}
use Rattle.log_write.specs.Writing.{header_writes}
use Rattle.log_write.proofs.Promises.{only_by}
use Rattle.file_open.proofs.Leaving.{after_opened, still_opened}
use Rattle.shown_ids.specs.Shown.{shown}
use Rattle.file_repair.specs.Faults.{fault_of}
use Rattle.file_repair.specs.Readying.{IsOfReady, JudgesHere}
use Rattle.file_repair.specs.Repaired.{CanRepair, IsRepaired, KeepsLayer, region_write, region_writes, repair_plan}
use Rattle.file_repair.specs.Repairing.{AnswersRepair, HasEnded, HasRepaired, IsUnfitFor, LeavesRepaired, RepairsAlike, RepairsMoments}
use Rattle.file_repair.specs.declared.refusal.RepairRefusal.{RepairRefusal}
use Rattle.file_repair.specs.declared.refusal.RepairRefusal.TheVariants.{Open, IdUnfit, Store, NoRoom}

pub handed_on : {A E : Type 0} (P : Result A E → Type 0) (result : Result A E) (e : E) → IsErrAnd result (λ x. x ≡ e) → P (Err e) → P result
handed_on P (Ok x) e same h = absurd same
handed_on P (Err x) e same h = subst (λ r. P (Err r)) (sym same) h

-- ---- what is drawn

pub draws_one : (id : List ℕ) (before now : Option (List (List ℕ))) → IsGuid id → now ≡ option_map (λ drawn. drawn ++ guid_bytes id ∷ []) before → Draws (id ∷ []) before now
draws_one id before now is told = record { each = All-cons IsGuid id [] is (All-nil IsGuid); told = told }

-- ---- files

opens_back : (file : List ℕ) (parts : Parts) → Opens file (Ok parts) → OpensFile file (Ok parts)
opens_back file parts (opening.opened _ h) = h

untorn_only : (P : List ℕ → Type 0) (file : ℕ) (old new : Option Trace) → WhereBothTold (ChangesOnly file P) old new → WhereBothTold (ChangesUntorn file P) old new
untorn_only P file None None h = tt
untorn_only P file None (Some b) h = absurd h
untorn_only P file (Some a) None h = absurd h
untorn_only P file (Some a) (Some b) h = EachMoment-weaken (HasImages file P a) (HasFile file (EachUntorn P) a) a b (λ t has. record { has = λ image here whole. has.images image here; others = has.others }) h

untorn_weaker : (P Q : List ℕ → Type 0) (file : ℕ) (old new : Option Trace) → ((image : List ℕ) → P image → Q image) → WhereBothTold (ChangesUntorn file P) old new → WhereBothTold (ChangesUntorn file Q) old new
untorn_weaker P Q file None None f h = tt
untorn_weaker P Q file None (Some b) f h = absurd h
untorn_weaker P Q file (Some a) None f h = absurd h
untorn_weaker P Q file (Some a) (Some b) f h =
    EachMoment-weaken (HasFile file (EachUntorn P) a) (HasFile file (EachUntorn Q) a) a b (λ t has. record { has = λ image here whole. f image (has.has image here whole); others = has.others }) h

alike_keeps : (file image : List ℕ) → OpensAlike file image → RepairsAlike file image
alike_keeps file image alike = record {
  keeps = λ parts bytes opens stands low. record {
    header = parts.header;
    data_write = refl;
    opens = opens_back image parts (alike.opens (Ok parts) (opening.opened parts opens));
    settled = bytes;
    stands = alike.stands bytes stands;
    layer = λ s below. refl;
  };
  refused = λ rule opens. alike;
}

same_parts : (a b : Parts) → (let r : Result Parts BrokenRule = Ok a in r) ≡ Ok b → a ≡ b
same_parts a b e = cc

-- a file that is opened breaks no rule
no_rule : (P : Type 0) (file : List ℕ) (parts : Parts) → OpensFile file (Ok parts) → (rule : BrokenRule) → OpensFile file (Err rule) → P
no_rule P file parts opens rule broken = let e = opens_file_once file (Ok parts) (Err rule) opens broken in absurd (cc)

keeps_alike : (file base : List ℕ) (parts : Parts) → OpensFile file (Ok parts) → StandsFor file base → (image : List ℕ) → KeepsLayer parts base image → RepairsAlike file image
keeps_alike file base parts opens stands image k = record {
  keeps = λ other bytes o s low.
      let same : parts ≡ other = same_parts parts other (opens_file_once file (Ok parts) (Ok other) opens o) in
      let here : base ≡ bytes = stands_once file base bytes stands s in
      subst (λ (p : Parts). KeepsLayer p bytes image) same (subst (λ (z : List ℕ). KeepsLayer parts z image) here k);
  refused = no_rule (OpensAlike file image) file parts opens;
}

high_alike : (file : List ℕ) (parts : Parts) → OpensFile file (Ok parts) → 2 ^ 64 - 2 ^ 32 < parts.header.number → (image : List ℕ) → ⊤ → RepairsAlike file image
high_alike file parts opens high image any = record {
  keeps = λ other bytes o s low.
      let same : parts ≡ other = same_parts parts other (opens_file_once file (Ok parts) (Ok other) opens o) in
      let n : parts.header.number ≡ other.header.number = ap (λ (p : Parts). p.header.number) same in
      absurd (omega (arith, high, low, n));
  refused = no_rule (OpensAlike file image) file parts opens;
}

can_of : (file : ℕ) (x y : Trace) (parts : Parts) → IsOpened file x y → OpensFile (seen (file_of x file)) (Ok parts) → HasNumbers parts → is_synced (file_of x file) ≡ true → parts.header.number ≤ 2 ^ 64 - 2 ^ 32
    → CanRepair parts (file_of y file)
can_of file x y parts o opens numbers synced low =
    let again = opens_again (seen (file_of x file)) (seen (file_of y file)) o.bytes in
    record { synced = o.synced synced; numbers = numbers; opens = opens_back (seen (file_of y file)) parts (again.alike.opens (Ok parts) (opening.opened parts opens)); stands = again.stays; low = low }

-- ---- moments

pub open_moments : (file : ℕ) (old mid : Option Trace) → KeepsMoments OpensAlike file old mid → RepairsMoments file old mid
open_moments file old mid h t is synced long =
    untorn_only (RepairsAlike (seen (file_of t file))) file old mid
    (weaker file (StaysLike OpensAlike (seen (file_of t file))) (RepairsAlike (seen (file_of t file))) old mid (λ image k. alike_keeps (seen (file_of t file)) image k.0) (h t is synced long))

pub moments_same : (file : ℕ) (old mid new : Option Trace) → new ≡ mid → RepairsMoments file old mid → RepairsMoments file old new
moments_same file old mid new e h = subst (RepairsMoments file old) (sym e) h

pub joined_moments : (file : ℕ) (old mid new : Option Trace) (parts : Parts) → WhereBothTold (IsOpened file) old mid → WhereTold old (λ t. Opens (seen (file_of t file)) (Ok parts)) → HasNumbers parts
    → RepairsMoments file old mid → WhereTold mid (λ t. CanRepair parts (file_of t file) → WhereBothTold (ChangesUntorn file (KeepsLayer parts (seen (file_of t file)))) mid new)
    → WhereBothTold (OnlyChanges file) mid new → RepairsMoments file old new
joined_moments file None mid new parts opened opens numbers before after only t is synced long = cc
joined_moments file (Some x) None new parts opened opens numbers before after only t is synced long = absurd opened
joined_moments file (Some x) (Some y) new parts opened opens numbers before after only t is synced long =
    let same : x ≡ t = same_Some x t is in
    told_join (EachUntorn (RepairsAlike (seen (file_of t file)))) file (Some x) (Some y) new (before t is synced long)
    (subst (λ (s : Trace). WhereBothTold (ChangesUntorn file (RepairsAlike (seen (file_of s file)))) (Some y) new) same
    (by_number (subst (λ (s : Trace). is_synced (file_of s file) ≡ true) (sym same) synced) (cases_lt (2 ^ 64 - 2 ^ 32) parts.header.number)))
  where
    opens_x : OpensFile (seen (file_of x file)) (Ok parts)
    opens_x = opens_back (seen (file_of x file)) parts (opens x refl)

    by_number : is_synced (file_of x file) ≡ true → (2 ^ 64 - 2 ^ 32 < parts.header.number) ⊎ (parts.header.number ≤ 2 ^ 64 - 2 ^ 32)
        → WhereBothTold (ChangesUntorn file (RepairsAlike (seen (file_of x file)))) (Some y) new
    by_number still (inl high) =
        untorn_only (RepairsAlike (seen (file_of x file))) file (Some y) new
        (weaker file (λ image. ⊤) (RepairsAlike (seen (file_of x file))) (Some y) new (high_alike (seen (file_of x file)) parts opens_x high) only)
    by_number still (inr low) =
        untorn_weaker (KeepsLayer parts (seen (file_of y file))) (RepairsAlike (seen (file_of x file))) file (Some y) new
        (keeps_alike (seen (file_of x file)) (seen (file_of y file)) parts opens_x opened.bytes) (after y refl (can_of file x y parts opened opens_x numbers still low))

-- ---- the file behind it

pub has_repaired : (file : ℕ) (id : List ℕ) (old mid new : Option Trace) (parts : Parts) → WhereBothTold (IsOpened file) old mid → WhereTold old (λ t. Opens (seen (file_of t file)) (Ok parts)) → HasNumbers parts
    → WhereTold mid (λ t. is_unfit (shown parts (seen (file_of t file))) id ≡ false)
    → WhereBothTold (λ before after. CanRepair parts (file_of before file) → IsRepaired parts (seen (file_of before file)) id (file_of after file)) mid new → WhereBothTold (HasRepaired file id) old new
has_repaired file id None None None parts opened opens numbers fit done = tt
has_repaired file id None None (Some z) parts opened opens numbers fit done = absurd done
has_repaired file id None (Some y) new parts opened opens numbers fit done = absurd opened
has_repaired file id (Some x) None new parts opened opens numbers fit done = absurd opened
has_repaired file id (Some x) (Some y) None parts opened opens numbers fit done = absurd done
has_repaired file id (Some x) (Some y) (Some z) parts opened opens numbers fit done =
    let opens_x = opens_back (seen (file_of x file)) parts (opens x refl) in
    record {
      parts = parts;
      bytes = seen (file_of y file);
      opens = opens_x;
      stands = opened.bytes;
      fit = fit y refl;
      repaired = λ synced low. done (can_of file x y parts opened opens_x numbers synced low);
    }

-- ---- the answer

unfit_for : (file : ℕ) (id unfit : List ℕ) (old mid : Option Trace) (parts : Parts) → WhereBothTold (IsOpened file) old mid → WhereTold old (λ t. Opens (seen (file_of t file)) (Ok parts))
    → WhereTold mid (λ t. (unfit ≡ id) × (is_unfit (shown parts (seen (file_of t file))) id ≡ true)) → WhereTold old (λ t. IsUnfitFor (seen (file_of t file)) unfit)
unfit_for file id unfit None mid parts opened opens judged t is = cc
unfit_for file id unfit (Some x) None parts opened opens judged t is = absurd opened
unfit_for file id unfit (Some x) (Some y) parts opened opens judged t is =
    let j = judged y refl in
    subst (λ (s : Trace). IsUnfitFor (seen (file_of s file)) unfit) (same_Some x t is) (record {
      parts = parts;
      bytes = seen (file_of y file);
      opens = opens_back (seen (file_of x file)) parts (opens x refl);
      stands = opened.bytes;
      unfit = subst (λ (i : List ℕ). is_unfit (shown parts (seen (file_of y file))) i ≡ true) (sym j.0) j.1;
    })

-- of a file that was opened, where what was read of it then is answered
pub answers_ready : (A : Type 0) (file : ℕ) (id : List ℕ) (before now : Option (List (List ℕ))) (old mid new : Option Trace) (parts : Parts) (e : RepairRefusal) → WhereBothTold (IsOpened file) old mid
    → WhereTold old (λ t. Opens (seen (file_of t file)) (Ok parts)) → WhereTold mid (λ t. JudgesHere {A = A} parts (seen (file_of t file)) id (Err e)) → IsOfReady id e → Draws (id ∷ []) before now
    → AnswersRepair file before now old new (Err e)
answers_ready A file id before now old mid new parts (Open refusal) opened opens judged of drawn = absurd of
answers_ready A file id before now old mid new parts (Store fault) opened opens judged of drawn = (id, drawn)
answers_ready A file id before now old mid new parts NoRoom opened opens judged of drawn = (id, drawn)
answers_ready A file id before now old mid new parts (IdUnfit unfit) opened opens judged of drawn =
    (subst (λ (i : List ℕ). Draws (i ∷ []) before now) (sym of) drawn, unfit_for file id unfit old mid parts opened opens judged)

-- ---- the store

pub ready_leaves : (A : Type 0) (file : ℕ) (old mid new : Disk) (id : List ℕ) (e : RepairRefusal) → HasOpened file old mid → IsOfReady id e → LeavesStore {A = A} fault_of file mid new (Err e) → LeavesRepaired file old new (Err e)
ready_leaves A file old mid new id (Open refusal) opened of h = absurd of
ready_leaves A file old mid new id (IdUnfit unfit) opened of h = still_opened file old mid new opened h
ready_leaves A file old mid new id (Store fault) opened of h = after_opened file old mid new opened {R = ℕ} (store_failed fault) h
ready_leaves A file old mid new id NoRoom opened of h = after_opened file old mid new opened {R = ℕ} no_memory h

pub ready_told : (A : Type 0) (file : ℕ) (mid new : Disk) (e : RepairRefusal) → LeavesStore {A = A} fault_of file mid new (Err e) → new.told ≡ mid.told
ready_told A file mid new (Open refusal) h = ap (λ (d : Disk). d.told) h
ready_told A file mid new (IdUnfit unfit) h = ap (λ (d : Disk). d.told) h
ready_told A file mid new (Store fault) h = ap (λ (d : Disk). d.told) h.stays
ready_told A file mid new NoRoom h = ap (λ (d : Disk). d.told) h

pub change_leaves : (file : ℕ) (old mid new : Disk) (fault : StoreFault) → HasOpened file old mid → FailsToChange file mid new fault → CallFailed file old new fault
change_leaves file old mid new fault opened h =
    of_change (h.stays ∙ ap (λ (d : Disk). let made : Disk = record d { told = new.told; failed_changes = new.failed_changes } in made) opened.counts) h.of_file
    (subst (λ c. RoseAt file fault.count c new.failed_changes) (ap (λ (d : Disk). d.failed_changes) opened.counts) h.count)

pub only_join : (file : ℕ) (old mid new : Option Trace) → WhereBothTold (OnlyChanges file) old mid → WhereBothTold (OnlyChanges file) mid new → WhereBothTold (OnlyChanges file) old new
only_join file old mid new a b = span-join (λ image. ⊤) file old mid new a b

-- the changes of a repair end with a sync
region_synced : (f : File) → is_synced f ≡ true → (a b : Bool) (x y : List ℕ) → is_synced (after_plan (if a then (if b then [] else region_write 2 x) else region_write 1 y) f) ≡ true
region_synced f synced true true x y = synced
region_synced f synced true false x y = refl
region_synced f synced false b x y = refl

plan_synced : (header : Header) (copies : List ℕ) (f : File) → is_synced (after_plan (repair_plan header copies) f) ≡ true
plan_synced header copies f =
    ap is_synced (after_append (header_writes header) (region_writes copies) f)
    ∙ region_synced (after_plan (header_writes header) f) refl (is_valid_region_table (region_copy copies 1)) (is_valid_region_table (region_copy copies 2)) (region_copy copies 1) (region_copy copies 2)

counts_done : (file : ℕ) (ops : List Op) (old new : Disk) → new ≡ changed_all file ops old → new ≡ record old { told = new.told }
counts_done file ops old new e = e ∙ counts_planned file ops old ∙ ap (λ o. let made : Disk = record old { told = o } in made) (sym (ap (λ (d : Disk). d.told) e))

synced_join : (file : ℕ) (old mid new : Option Trace) → WhereBothTold (IsOpened file) old mid → WhereBothTold (λ s t. is_synced (file_of t file) ≡ true) mid new → WhereBothTold (StaysSynced file) old new
synced_join file None None None opened synced = tt
synced_join file None None (Some z) opened synced = absurd synced
synced_join file None (Some y) new opened synced = absurd opened
synced_join file (Some x) None new opened synced = absurd opened
synced_join file (Some x) (Some y) None opened synced = absurd synced
synced_join file (Some x) (Some y) (Some z) opened synced = λ before. synced

-- ---- opened, read and written

pub only_of : (file : ℕ) (old mid new : Option Trace) → new ≡ mid → WhereBothTold (KeepsFile file) old mid → WhereBothTold (OnlyChanges file) old new
only_of file old mid new e h = subst (WhereBothTold (OnlyChanges file) old) (sym e) (both_map (KeepsFile file) (OnlyChanges file) old mid (λ a b is k. k.only) h)

module _ (file : ℕ) (old opened read new : Disk) (same : read ≡ opened) where
  pub only_after : WhereBothTold (KeepsFile file) old.told opened.told → (ops : List Op) (result : Result (Unit {0}) StoreFault) → OnOk result (new ≡ changed_all file ops read) → IfErr result (λ fault. StopsIn file new fault ops read)
      → WhereBothTold (OnlyChanges file) old.told new.told
  only_after kept ops result ok err =
      only_join file old.told read.told new.told (only_of file old.told opened.told read.told (ap (λ (d : Disk). d.told) same) kept) (only_by file ops read new result ok err)

  pub ended_after : HasOpened file old opened → (header : Header) (copies : List ℕ) → new ≡ changed_all file (repair_plan header copies) read → HasEnded file old new
  ended_after has header copies e =
      let first = still_opened file old opened read has same in
      record {
        counts = counts_done file (repair_plan header copies) read new e ∙ ap (λ (d : Disk). let made : Disk = record d { told = new.told } in made) first.counts;
        told =
            synced_join file old.told read.told new.told first.told
            (both_of (λ (s t : File). is_synced t ≡ true) file (repair_plan header copies) read new e (λ t told. plan_synced header copies (file_of t file)));
      }

  module _ (parts : Parts) (has : HasOpened file old opened) (opens : WhereTold old.told (λ t. AnswersOpening (seen (file_of t file)) (Ok parts))) (numbers : HasNumbers parts) where
    here : HasOpened file old read
    here = still_opened file old opened read has same

    pub moments_after : KeepsMoments OpensAlike file old.told opened.told → (ops : List Op) (result : Result (Unit {0}) StoreFault) → OnOk result (new ≡ changed_all file ops read) → IfErr result (λ fault. StopsIn file new fault ops read)
        → WhereTold read.told (λ t. CanRepair parts (file_of t file) → WhereBothTold (ChangesUntorn file (KeepsLayer parts (seen (file_of t file)))) read.told new.told) → RepairsMoments file old.told new.told
    moments_after before ops result ok err after =
        joined_moments file old.told read.told new.told parts here.told opens numbers
        (moments_same file old.told opened.told read.told (ap (λ (d : Disk). d.told) same) (open_moments file old.told opened.told before)) after (only_by file ops read new result ok err)

    pub repaired_after : (id : List ℕ) → WhereTold opened.told (λ t. is_unfit (shown parts (seen (file_of t file))) id ≡ false)
        → WhereBothTold (λ before after. CanRepair parts (file_of before file) → IsRepaired parts (seen (file_of before file)) id (file_of after file)) read.told new.told → WhereBothTold (HasRepaired file id) old.told new.told
    repaired_after id fit done =
        has_repaired file id old.told read.told new.told parts here.told opens numbers
        (subst (λ (d : Disk). WhereTold d.told (λ t. is_unfit (shown parts (seen (file_of t file))) id ≡ false)) (sym same) fit) done
