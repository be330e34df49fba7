-- A store that tells nothing.
use Rattle.std.proofs.Common.{◌≡◌, ◌<◌, ℕ, List, [], All, refl, sym, ap, subst, ◌∙◌}
use Rattle.std.specs.Prelude.{Option, Some, None, Result, Ok, Err, IfErr, OnErr, OnOk}
use Rattle.store_model.specs.Disk.{ChangeFailed, Disk, LeavesTorn, WhereBothTold, WriteFailed, changed, nothing, told_after, torn}
use Rattle.store_model.specs.File.{Op}
use Rattle.store_model.specs.Plans.{FailsToChange, at_sync}
use Rattle.store_model.specs.Trace.{Trace}
use Rattle.store_model.specs.declared.fault.StoreFault.{StoreFault}
use Rattle.store_model.proofs.Plans.{fails}
use Rattle.table_pages.specs.Held.{HasTables}
use Rattle.table_pages.specs.declared.tables.TableParts.{TableParts}
use Rattle.log_write.specs.Writing.{CanCommit}
use Rattle.layer_session.specs.declared.file.Layer.{Layer}
use Rattle.layer_session.specs.ByLayers.{ReadsOn}
use Rattle.layer_session.specs.Calls.{HoldsRest}
use Rattle.layer_session.specs.Keeping.{IsReadable, IsReady}
use Rattle.layer_session.proofs.Equal.{none_some}

pub no_told : (told : Option Trace) → ((t : Trace) → told ≡ Some t → ⊥) → told ≡ None
no_told None no_way = refl
no_told (Some t) no_way = absurd (no_way t refl)

-- a change leaves it as it was
pub untold_same : (file : ℕ) (op : Op) (d : Disk) → d.told ≡ None → changed file op d ≡ d
untold_same file op d none =
    ap (λ (o : Option Trace). (let made : Disk = record d { told = told_after file op o } in made)) none ∙ ap (λ (o : Option Trace). (let made : Disk = record d { told = o } in made)) (sym none)

pub changed_untold : (file : ℕ) (op : Op) (d e : Disk) → d.told ≡ None → e ≡ changed file op d → e ≡ d
changed_untold file op d e none is = is ∙ untold_same file op d none

-- and so does one that failed, but for its count
pub change_fails : (file : ℕ) (d e : Disk) (fault : StoreFault) → ChangeFailed file d e fault → FailsToChange file d e fault
change_fails file d e fault failed = fails file e fault (at_sync d [] failed)

pub change_untold : (file : ℕ) (d e : Disk) (fault : StoreFault) → d.told ≡ None → ChangeFailed file d e fault → e.told ≡ None
change_untold file d e fault none failed = ap (λ (x : Disk). x.told) failed.stays ∙ none

torn_none : (file at : ℕ) (meant : List ℕ) (old new : Option Trace) → LeavesTorn file at meant old new → old ≡ None → new ≡ None
torn_none file at meant old _ nothing none = none
torn_none file at meant old _ (torn left long bytes) none = ap (told_after file _) none

pub write_untold : (file at : ℕ) (meant : List ℕ) (d e : Disk) (fault : StoreFault) → d.told ≡ None → WriteFailed file at meant d e fault → e.told ≡ None
write_untold file at meant d e fault none failed = torn_none file at meant d.told e.told failed.left none

-- whatever is said of what both tell
pub both_none : (R : Trace → Trace → Type 0) (a b : Option Trace) → a ≡ None → b ≡ None → WhereBothTold R a b
both_none R None None e f = tt
both_none R None (Some t) e f = absurd (let never : ◌≡◌ {A = Option Trace} (Some t) None = f in cc)
both_none R (Some t) b e f = absurd (let never : ◌≡◌ {A = Option Trace} (Some t) None = e in cc)

pub on_two : {A B C : Type 0} (r : Result (Unit {0}) StoreFault) → (A → B → C) → OnOk r A → OnOk r B → OnOk r C
on_two (Ok x) f a b = f a b
on_two (Err fault) f a b = tt

-- ---- a layer over it

-- where a changed page can't be committed the store tells nothing
pub untold_at : (l : Layer) (disk : Disk) → IsReady l disk → (All (CanCommit l.log) l.tables.pending → ⊥) → disk.told ≡ None
untold_at l disk ready no_way = no_told disk.told (λ t e. no_way (ready.told t e).1.can)

-- where a change fails it is read on
pub reads_plainly : (l new : Layer) (old after : Disk) (r : Result (Unit {0}) StoreFault) → IsReady l old → new.tables.parts ≡ l.tables.parts → old.told ≡ None → after.told ≡ None
    → IfErr r (FailsToChange l.tables.parts.file old after) → OnErr r (ReadsOn l new 0 0 old after)
reads_plainly l new old after (Ok done) ready parts none then fails = tt
reads_plainly l new old after (Err fault) ready parts none then fails = (readable, both_none (HoldsRest l new 0 0) old.told after.told none then)
  where
    readable : IsReadable new after
    readable = record {
      there = subst (λ (p : TableParts). p.file < after.files) (sym parts) (subst (λ n. l.tables.parts.file < n) (sym (ap (λ (d : Disk). d.files) fails.stays)) ready.readable.there);
      sizes = subst HasTables (sym parts) ready.readable.sizes;
      told = λ t e. absurd (none_some (sym then ∙ e));
    }
