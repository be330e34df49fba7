-- Changes of one file one after another: what is told of them, and what holds at each moment.
use Rattle.std.proofs.Common.{◌≡◌, ◌≢◌, ℕ, List, [], ◌∷◌, ◌++◌, length, Option, Some, None, refl, sym, ap, subst, ◌∙◌, arith}
use Rattle.std.specs.Prelude.{Result, Ok, Err, OnOk, IfErr}
use Rattle.std.specs.Result.{IsErrAnd}
use Rattle.std.proofs.lemmas.Option.{same_Some}
use Rattle.store_model.specs.Bytes.{Torn}
use Rattle.store_model.specs.Disk.{Disk, WhereTold, WhereBothTold, LeavesTorn, nothing, torn, changed, told_after}
use Rattle.store_model.specs.File.{Op, Write, Tear, Grow, Sync, Seal, File, seen, with_op}
use Rattle.store_model.specs.Plans.{StopsIn, at_write, at_grow, at_sync, later, changed_all, bytes_after, FailsToChange}
use Rattle.store_model.specs.Trace.{Trace, ChangesOnly, ChangesFile, HasFile, HasImages, moment, file_of, with_change}
use Rattle.store_model.specs.declared.fault.StoreFault.{StoreFault}
use Rattle.store_model.proofs.Images.{AllImages}
use Rattle.store_model.proofs.Spans.{EachMoment-join, EachMoment-next, EachMoment-now, EachMoment-weaken, at_moment-now, file_of-with_change, file_of-with_change_other}

-- the file after these changes, the first of them first
abbrev pub after_plan : List Op → File → File
after_plan [] f = f
after_plan (op ∷ ops) f = after_plan ops (with_op op f)

-- what is told then
abbrev pub told_planned : ℕ → List Op → Option Trace → Option Trace
told_planned file [] o = o
told_planned file (op ∷ ops) o = told_planned file ops (told_after file op o)

-- the file has Q, now and after each of the changes
abbrev pub EachPlanned : (File → Type 0) → File → List Op → Type 0
EachPlanned Q f [] = Q f
EachPlanned Q f (op ∷ ops) = Q f × EachPlanned Q (with_op op f) ops

pub planned_now : (Q : File → Type 0) (f : File) (ops : List Op) → EachPlanned Q f ops → Q f
planned_now Q f [] h = h
planned_now Q f (op ∷ ops) h = h.0

pub planned_end : (Q : File → Type 0) (f : File) (ops : List Op) → EachPlanned Q f ops → Q (after_plan ops f)
planned_end Q f [] h = h
planned_end Q f (op ∷ ops) h = planned_end Q (with_op op f) ops h.1

pub planned_append : (Q : File → Type 0) (f : File) (xs ys : List Op) → EachPlanned Q f xs → EachPlanned Q (after_plan xs f) ys → EachPlanned Q f (xs ++ ys)
planned_append Q f [] ys h k = k
planned_append Q f (x ∷ xs) ys h k = (h.0, planned_append Q (with_op x f) xs ys h.1 k)

pub planned_weaker : (Q R : File → Type 0) (f : File) (ops : List Op) → ((g : File) → Q g → R g) → EachPlanned Q f ops → EachPlanned R f ops
planned_weaker Q R f [] w h = w f h
planned_weaker Q R f (op ∷ ops) w h = (w f h.0, planned_weaker Q R (with_op op f) ops w h.1)

pub planned_with : (Q R S : File → Type 0) (f : File) (ops : List Op) → ((g : File) → Q g → R g → S g) → EachPlanned Q f ops → EachPlanned R f ops → EachPlanned S f ops
planned_with Q R S f [] both h k = both f h k
planned_with Q R S f (op ∷ ops) both h k = (both f h.0 k.0, planned_with Q R S (with_op op f) ops both h.1 k.1)

pub after_append : (xs ys : List Op) (f : File) → after_plan (xs ++ ys) f ≡ after_plan ys (after_plan xs f)
after_append [] ys f = refl
after_append (x ∷ xs) ys f = after_append xs ys (with_op x f)

pub changed_append : (file : ℕ) (xs ys : List Op) (d : Disk) → changed_all file (xs ++ ys) d ≡ changed_all file ys (changed_all file xs d)
changed_append file [] ys d = refl
changed_append file (x ∷ xs) ys d = changed_append file xs ys (changed file x d)

pub bytes_append : (xs ys : List Op) (bytes : List ℕ) → bytes_after (xs ++ ys) bytes ≡ bytes_after ys (bytes_after xs bytes)
bytes_append [] ys bytes = refl
bytes_append (Write at new ∷ xs) ys bytes = bytes_append xs ys _
bytes_append (Tear at meant left ∷ xs) ys bytes = bytes_append xs ys _
bytes_append (Grow len ∷ xs) ys bytes = bytes_append xs ys _
bytes_append (Sync ∷ xs) ys bytes = bytes_append xs ys bytes
bytes_append (Seal ∷ xs) ys bytes = bytes_append xs ys bytes

-- what a read gives then
pub seen_planned : (ops : List Op) (f : File) → seen (after_plan ops f) ≡ bytes_after ops (seen f)
seen_planned [] f = refl
seen_planned (Write at new ∷ ops) f = seen_planned ops (with_op (Write at new) f)
seen_planned (Tear at meant left ∷ ops) f = seen_planned ops (with_op (Tear at meant left) f)
seen_planned (Grow len ∷ ops) f = seen_planned ops (with_op (Grow len) f)
seen_planned (Sync ∷ ops) f = seen_planned ops (with_op Sync f)
seen_planned (Seal ∷ ops) f = seen_planned ops (with_op Seal f)

-- counts stay
pub counts_planned : (file : ℕ) (ops : List Op) (d : Disk) → changed_all file ops d ≡ record d { told = (changed_all file ops d).told }
counts_planned file [] d = refl
counts_planned file (op ∷ ops) d = counts_planned file ops (changed file op d)

pub told_changed : (file : ℕ) (ops : List Op) (d : Disk) → (changed_all file ops d).told ≡ told_planned file ops d.told
told_changed file [] d = refl
told_changed file (op ∷ ops) d = told_changed file ops (changed file op d)

-- ---- what is told of the file

next_told : (Q : File → Type 0) (file : ℕ) (op : Op) (o : Option Trace) → WhereTold o (λ t. Q (with_op op (file_of t file))) → WhereTold (told_after file op o) (λ t. Q (file_of t file))
next_told Q file op None h t e = cc
next_told Q file op (Some u) h t e =
    subst (λ (x : Trace). Q (file_of x file)) (same_Some (with_change file op u) t e) (subst Q (sym (file_of-with_change file op u)) (h u refl))

pub planned_told : (Q : File → Type 0) (file : ℕ) (ops : List Op) (o : Option Trace) → WhereTold o (λ t. Q (after_plan ops (file_of t file))) → WhereTold (told_planned file ops o) (λ t. Q (file_of t file))
planned_told Q file [] o h = h
planned_told Q file (op ∷ ops) o h = planned_told Q file ops (told_after file op o) (next_told (λ f. Q (after_plan ops f)) file op o h)

-- of disks
pub planned_of : (Q : File → Type 0) (file : ℕ) (ops : List Op) (old new : Disk) → new ≡ changed_all file ops old → WhereTold old.told (λ t. Q (after_plan ops (file_of t file))) → WhereTold new.told (λ t. Q (file_of t file))
planned_of Q file ops old new e h =
    subst (λ o. WhereTold o (λ t. Q (file_of t file))) (sym (ap (λ (d : Disk). d.told) e ∙ told_changed file ops old)) (planned_told Q file ops old.told h)

-- what is told before and after
pub both_told : (R : File → File → Type 0) (file : ℕ) (ops : List Op) (o : Option Trace) → WhereTold o (λ t. R (file_of t file) (after_plan ops (file_of t file))) → WhereBothTold (λ s t. R (file_of s file) (file_of t file)) o (told_planned file ops o)
both_told R file ops None h = none ops
  where
    none : (ops : List Op) → WhereBothTold (λ s t. R (file_of s file) (file_of t file)) None (told_planned file ops None)
    none [] = tt
    none (op ∷ ops) = none ops
both_told R file ops (Some u) h = some (told_planned file ops (Some u)) (is_some ops u) (planned_told (λ f. R (file_of u file) f) file ops (Some u) (λ t e. subst (λ (x : Trace). R (file_of u file) (after_plan ops (file_of x file))) (same_Some u t e) (h u refl)))
  where
    is_some : (ops : List Op) (u : Trace) → (v : Trace) × (told_planned file ops (Some u) ≡ Some v)
    is_some [] u = (u, refl)
    is_some (op ∷ ops) u = is_some ops (with_change file op u)

    some : (p : Option Trace) → (v : Trace) × (p ≡ Some v) → WhereTold p (λ t. R (file_of u file) (file_of t file)) → WhereBothTold (λ s t. R (file_of s file) (file_of t file)) (Some u) p
    some None k r = let never = k.1 in cc
    some (Some v) k r = r v refl

pub both_of : (R : File → File → Type 0) (file : ℕ) (ops : List Op) (old new : Disk) → new ≡ changed_all file ops old → WhereTold old.told (λ t. R (file_of t file) (after_plan ops (file_of t file)))
    → WhereBothTold (λ s t. R (file_of s file) (file_of t file)) old.told new.told
both_of R file ops old new e h =
    subst (WhereBothTold (λ s t. R (file_of s file) (file_of t file)) old.told) (sym (ap (λ (d : Disk). d.told) e ∙ told_changed file ops old)) (both_told R file ops old.told h)

-- where one trace is told, of that trace
pub of_told : (Q : Trace → Type 0) (o : Option Trace) (t : Trace) → o ≡ Some t → Q t → WhereTold o Q
of_told Q o t e q s is = subst Q (same_Some t s (sym e ∙ is)) q

-- ---- moments

file_join : (Q : File → Type 0) (file : ℕ) (old mid new : Trace) → ChangesFile file Q old mid → ChangesFile file Q mid new → ChangesFile file Q old new
file_join Q file old mid new first second =
    let at_mid = first.each (moment mid) first.later (omega arith) in
    let others : (other : ℕ) → other ≢ file → file_of mid other ≡ file_of old other = λ other ne. subst (λ t. file_of t other ≡ file_of old other) (at_moment-now mid) (at_mid.others other ne) in
    EachMoment-join _ old mid new first
    (EachMoment-weaken (HasFile file Q mid) (HasFile file Q old) mid new (λ t h. record { has = h.has; others = λ other ne. h.others other ne ∙ others other ne }) second)

pub told_join : (Q : File → Type 0) (file : ℕ) (old mid new : Option Trace) → WhereBothTold (ChangesFile file Q) old mid → WhereBothTold (ChangesFile file Q) mid new → WhereBothTold (ChangesFile file Q) old new
told_join Q file None None None first second = tt
told_join Q file None None (Some t) first second = absurd second
told_join Q file None (Some t) new first second = absurd first
told_join Q file (Some t) None new first second = absurd first
told_join Q file (Some t) (Some u) None first second = absurd second
told_join Q file (Some t) (Some u) (Some v) first second = file_join Q file t u v first second

pub told_still : (Q : File → Type 0) (file : ℕ) (o : Option Trace) → WhereTold o (λ t. Q (file_of t file)) → WhereBothTold (ChangesFile file Q) o o
told_still Q file None a = tt
told_still Q file (Some t) a = EachMoment-now (HasFile file Q t) t (record { has = a t refl; others = λ other ne. refl })

step_moments : (Q : File → Type 0) (file : ℕ) (op : Op) (o : Option Trace) → WhereTold o (λ t. Q (file_of t file)) → WhereTold o (λ t. Q (with_op op (file_of t file))) → WhereBothTold (ChangesFile file Q) o (told_after file op o)
step_moments Q file op None a b = tt
step_moments Q file op (Some t) a b =
    EachMoment-next (HasFile file Q t) t t file op (EachMoment-now (HasFile file Q t) t (record { has = a t refl; others = λ other ne. refl }))
    (record { has = subst Q (sym (file_of-with_change file op t)) (b t refl); others = λ other ne. file_of-with_change_other file other op t ne })

-- after all changes
pub planned_done : (Q : File → Type 0) (file : ℕ) (ops : List Op) (o : Option Trace) → WhereTold o (λ t. EachPlanned Q (file_of t file) ops) → WhereBothTold (ChangesFile file Q) o (told_planned file ops o)
planned_done Q file [] o h = told_still Q file o h
planned_done Q file (op ∷ ops) o h =
    told_join Q file o (told_after file op o) (told_planned file (op ∷ ops) o)
    (step_moments Q file op o (λ t e. (h t e).0) (λ t e. planned_now Q (with_op op (file_of t file)) ops (h t e).1))
    (planned_done Q file ops (told_after file op o) (next_told (λ f. EachPlanned Q f ops) file op o (λ t e. (h t e).1)))

pub file_done : (Q : File → Type 0) (file : ℕ) (ops : List Op) (old new : Disk) → new ≡ changed_all file ops old → WhereTold old.told (λ t. EachPlanned Q (file_of t file) ops) → WhereBothTold (ChangesFile file Q) old.told new.told
file_done Q file ops old new e h =
    subst (WhereBothTold (ChangesFile file Q) old.told) (sym (ap (λ (d : Disk). d.told) e ∙ told_changed file ops old)) (planned_done Q file ops old.told h)

-- What holds once a write is done holds where it failed.
abbrev pub HoldsTorn : (File → Type 0) → Type 0
HoldsTorn Q = (f : File) (at : ℕ) (meant left : List ℕ) → length left ≡ length meant → Q (with_op (Write at meant) f) → Q (with_op (Tear at meant left) f)

torn_step : (Q : File → Type 0) → HoldsTorn Q → (file at : ℕ) (meant : List ℕ) {o p : Option Trace} → LeavesTorn file at meant o p → WhereTold o (λ t. Q (file_of t file))
    → WhereTold o (λ t. Q (with_op (Write at meant) (file_of t file))) → WhereBothTold (ChangesFile file Q) o p
torn_step Q holds file at meant {o} nothing a b = told_still Q file o a
torn_step Q holds file at meant {o} (torn left as_many are_bytes) a b = step_moments Q file (Tear at meant left) o a (λ t e. holds (file_of t file) at meant left as_many (b t e))

unchanged : (Q : File → Type 0) (file : ℕ) (old new : Disk) → new ≡ record old { failed_changes = new.failed_changes } → WhereTold old.told (λ t. Q (file_of t file)) → WhereBothTold (ChangesFile file Q) old.told new.told
unchanged Q file old new e h = subst (WhereBothTold (ChangesFile file Q) old.told) (sym (ap (λ (d : Disk). d.told) e)) (told_still Q file old.told h)

-- where one of them failed
pub file_stopped : (Q : File → Type 0) → HoldsTorn Q → (file : ℕ) (new : Disk) (fault : StoreFault) {ops : List Op} {old : Disk} → StopsIn file new fault ops old → WhereTold old.told (λ t. EachPlanned Q (file_of t file) ops) → WhereBothTold (ChangesFile file Q) old.told new.told
file_stopped Q holds file new fault (at_write old at bytes rest failed) h =
    torn_step Q holds file at bytes failed.left (λ t e. (h t e).0) (λ t e. planned_now Q (with_op (Write at bytes) (file_of t file)) rest (h t e).1)
file_stopped Q holds file new fault (at_grow old len rest failed) h = unchanged Q file old new failed.stays (λ t e. (h t e).0)
file_stopped Q holds file new fault (at_sync old rest failed) h = unchanged Q file old new failed.stays (λ t e. (h t e).0)
file_stopped Q holds file new fault (later old op rest s) h =
    told_join Q file old.told (told_after file op old.told) new.told
    (step_moments Q file op old.told (λ t e. (h t e).0) (λ t e. planned_now Q (with_op op (file_of t file)) rest (h t e).1))
    (file_stopped Q holds file new fault s (next_told (λ f. EachPlanned Q f rest) file op old.told (λ t e. (h t e).1)))

-- by an answer
pub file_by : (Q : File → Type 0) → HoldsTorn Q → (file : ℕ) (ops : List Op) (old new : Disk) (result : Result (Unit {0}) StoreFault) → OnOk result (new ≡ changed_all file ops old) → IfErr result (λ fault. StopsIn file new fault ops old)
    → WhereTold old.told (λ t. EachPlanned Q (file_of t file) ops) → WhereBothTold (ChangesFile file Q) old.told new.told
file_by Q holds file ops old new (Ok _) ok err h = file_done Q file ops old new ok h
file_by Q holds file ops old new (Err fault) ok err h = file_stopped Q holds file new fault err h

-- ---- the same of images

pub images_torn : (P : List ℕ → Type 0) → HoldsTorn (AllImages P)
images_torn P f at meant left e all image here = all image (here.0, here.1, subst (λ (n : ℕ). Torn at n here.0 image) e here.2)

images_of : (P : List ℕ → Type 0) (file : ℕ) (old new : Option Trace) → WhereBothTold (ChangesFile file (AllImages P)) old new → WhereBothTold (ChangesOnly file P) old new
images_of P file None None h = tt
images_of P file None (Some t) h = absurd h
images_of P file (Some t) None h = absurd h
images_of P file (Some t) (Some u) h = EachMoment-weaken (HasFile file (AllImages P) t) (HasImages file P t) t u (λ v k. record { images = k.has; others = k.others }) h

pub moments_done : (P : List ℕ → Type 0) (file : ℕ) (ops : List Op) (old new : Disk) → new ≡ changed_all file ops old → WhereTold old.told (λ t. EachPlanned (AllImages P) (file_of t file) ops) → WhereBothTold (ChangesOnly file P) old.told new.told
moments_done P file ops old new e h = images_of P file old.told new.told (file_done (AllImages P) file ops old new e h)

pub moments_stopped : (P : List ℕ → Type 0) (file : ℕ) (new : Disk) (fault : StoreFault) {ops : List Op} {old : Disk} → StopsIn file new fault ops old → WhereTold old.told (λ t. EachPlanned (AllImages P) (file_of t file) ops) → WhereBothTold (ChangesOnly file P) old.told new.told
moments_stopped P file new fault {ops} {old} s h = images_of P file old.told new.told (file_stopped (AllImages P) (images_torn P) file new fault s h)

pub moments_by : (P : List ℕ → Type 0) (file : ℕ) (ops : List Op) (old new : Disk) (result : Result (Unit {0}) StoreFault) → OnOk result (new ≡ changed_all file ops old) → IfErr result (λ fault. StopsIn file new fault ops old)
    → WhereTold old.told (λ t. EachPlanned (AllImages P) (file_of t file) ops) → WhereBothTold (ChangesOnly file P) old.told new.told
moments_by P file ops old new (Ok _) ok err h = moments_done P file ops old new ok h
moments_by P file ops old new (Err fault) ok err h = moments_stopped P file new fault err h

-- ---- failures

pub stops_first : (file : ℕ) (new : Disk) (fault : StoreFault) (more : List Op) {ops : List Op} {old : Disk} → StopsIn file new fault ops old → StopsIn file new fault (ops ++ more) old
stops_first file new fault more (at_write old at bytes rest failed) = at_write old at bytes (rest ++ more) failed
stops_first file new fault more (at_grow old len rest failed) = at_grow old len (rest ++ more) failed
stops_first file new fault more (at_sync old rest failed) = at_sync old (rest ++ more) failed
stops_first file new fault more (later old op rest s) = later old op (rest ++ more) (stops_first file new fault more s)

pub stops_later : (file : ℕ) (new : Disk) (fault : StoreFault) (ops more : List Op) (old : Disk) → StopsIn file new fault more (changed_all file ops old) → StopsIn file new fault (ops ++ more) old
stops_later file new fault [] more old s = s
stops_later file new fault (op ∷ ops) more old s = later old op (ops ++ more) (stops_later file new fault ops more (changed file op old) s)

-- after others that were made
pub stops_after : (file : ℕ) (new : Disk) (fault : StoreFault) (ops more : List Op) (old mid : Disk) → mid ≡ changed_all file ops old → StopsIn file new fault more mid → StopsIn file new fault (ops ++ more) old
stops_after file new fault ops more old mid e s = stops_later file new fault ops more old (subst (StopsIn file new fault more) e s)

pub fails : (file : ℕ) (new : Disk) (fault : StoreFault) {ops : List Op} {old : Disk} → StopsIn file new fault ops old → FailsToChange file old new fault
fails file new fault (at_write old at bytes rest failed) = record { stays = failed.stays; of_file = failed.of_file; count = failed.count }
fails file new fault (at_grow old len rest failed) = record { stays = stays_same old new failed.stays; of_file = failed.of_file; count = failed.count }
  where
    stays_same : (old new : Disk) → new ≡ record old { failed_changes = new.failed_changes } → new ≡ record old { told = new.told; failed_changes = new.failed_changes }
    stays_same old new e = e ∙ ap (λ t. let made : Disk = record old { told = t; failed_changes = new.failed_changes } in made) (sym (ap (λ (d : Disk). d.told) e))
fails file new fault (at_sync old rest failed) = record { stays = stays_same old new failed.stays; of_file = failed.of_file; count = failed.count }
  where
    stays_same : (old new : Disk) → new ≡ record old { failed_changes = new.failed_changes } → new ≡ record old { told = new.told; failed_changes = new.failed_changes }
    stays_same old new e = e ∙ ap (λ t. let made : Disk = record old { told = t; failed_changes = new.failed_changes } in made) (sym (ap (λ (d : Disk). d.told) e))
fails file new fault (later old op rest s) =
    let f = fails file new fault s in
    record { stays = f.stays; of_file = f.of_file; count = f.count }

pub fails_by : (file : ℕ) (ops : List Op) (old new : Disk) (result : Result (Unit {0}) StoreFault) → IfErr result (λ fault. StopsIn file new fault ops old) → IfErr result (FailsToChange file old new)
fails_by file ops old new (Ok _) h = tt
fails_by file ops old new (Err fault) h = fails file new fault h

-- a fault that is handed on
pub handed : (P : StoreFault → Type 0) (result : Result (Unit {0}) StoreFault) (fault : StoreFault) → IsErrAnd result (λ e. e ≡ fault) → P fault → IfErr result P
handed P (Ok x) fault is h = tt
handed P (Err e) fault is h = subst P (sym is) h
