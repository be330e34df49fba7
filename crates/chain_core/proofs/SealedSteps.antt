-- Files that are sealed one after another, and the readers of them.
use Rattle.std.proofs.Common.{◌≡◌, ◌≢◌, ℕ, ◌==◌, ◌||◌, Bool, true, false, is_some, get_or, List, [], ◌∷◌, ◌++◌, length, map, replicate, refl, sym, ap, subst, ◌∙◌, suc, zero, arith}
use Rattle.std.specs.Prelude.{if◌then◌else◌, Option, Some, None, option_map, IfErr, IfOk, IfSome, OnOk, Result, Ok, Err}
use Rattle.std.specs.List.{AllByRecursion}
use Rattle.std.proofs.lemmas.Bool.{eqb-true}
use Rattle.std.proofs.lemmas.List.{append-nil, append_assoc, length-map, map-append}
use Rattle.std.proofs.lemmas.List.Elements.{All-from_recursion}
use Rattle.store_model.specs.Disk.{Disk, Sealed, WhereBothTold, changed, reader_of, told_after}
use Rattle.store_model.specs.File.{File, Seal, is_synced, seen}
use Rattle.store_model.specs.Trace.{Trace, file_of}
use Rattle.store_model.specs.declared.fault.SealFault.{SealFault}
use Rattle.store_model.specs.declared.fault.SealFault.TheVariants.{NoRoom, Store}
use Rattle.store_model.proofs.Spans.{file_of-with_change_other}
use Rattle.layer_session.specs.FileLayers.{HaveFiles}
use Rattle.layer_session.specs.declared.file.Layer.{Layer}
use Rattle.layer_session.specs.declared.file_layer.FileLayer.{FileLayer}
use Rattle.layer_session.specs.declared.file_layer.FileLayer.TheVariants.{Read, Session}
use Rattle.layer_session.proofs.Equal.{false_true}
use Rattle.read_plan.specs.Reading.{is_among}
use Rattle.sealed_layer.specs.Planned.{files_in}
use Rattle.chain_model.specs.Images.{Placed}
use Rattle.chain_model.proofs.Showing.{all_left, all_right}
use Rattle.chain_core.specs.Laws.{AllLeftBehind, IsLeftBehind}
use Rattle.chain_core.specs.Planned.{AreReadersOf}
use Rattle.chain_core.specs.Sealed.{AreSynced, CanSeal, GoesOnSealed, IsKept, as_it_was, sealed, ReadFilesAreSynced, ReadForSession, ReadersOfSession, ReadersSucceed, SessionsWriteTheirs, StopsAt, StopsSealing, read_numbers, readers_of, sealed_in}
use Rattle.chain_core.specs.Sessions.{AreReady}
use Rattle.chain_core.specs.States.{AreHeld, AreWritten, State, WasSynced, files_of, others_of}
use Rattle.chain_core.specs.declared.layers.Layers.{Layers}
use Rattle.chain_core.proofs.SealedReady.{all_both, all_can, read_by, ready_resting, ready_sealed}
use Rattle.chain_core.proofs.SealedServing.{IsReadBy, serving_now, serving_sealed}
use Rattle.chain_core.proofs.SealedTraces.{either_file, sealed_at, seen_still, synced_still}

-- ---- one after another

pub sealed_both : (a b : List ℕ) (disk : Disk) → sealed_in (a ++ b) disk ≡ sealed_in b (sealed_in a disk)
sealed_both [] b disk = refl
sealed_both (n ∷ a) b disk = sealed_both a b (changed n Seal disk)

abbrev sealed_trace : List ℕ → Trace → Trace
sealed_trace [] t = t
sealed_trace (n ∷ ns) t = sealed_trace ns (sealed_at n t)

-- what holds of each step holds of all
pub told_all : (R : Trace → Trace → Type 0) (ns : List ℕ) (disk : Disk) → ((t : Trace) → R t t) → ((a b c : Trace) → R a b → R b c → R a c) → AllByRecursion (λ n. (t : Trace) → R t (sealed_at n t)) ns
    → WhereBothTold R disk.told (sealed_in ns disk).told
told_all R ns disk same join steps = by_told disk.told ns steps
  where
    trace_steps : (ns : List ℕ) (t : Trace) → AllByRecursion (λ n. (t : Trace) → R t (sealed_at n t)) ns → R t (sealed_trace ns t)
    trace_steps [] t h = same t
    trace_steps (n ∷ ns) t h = join t (sealed_at n t) (sealed_trace ns (sealed_at n t)) (h.0 t) (trace_steps ns (sealed_at n t) h.1)

    by_told : (o : Option Trace) (ns : List ℕ) → AllByRecursion (λ n. (t : Trace) → R t (sealed_at n t)) ns → WhereBothTold R o (sealed_in ns (record disk { told = o })).told
    by_told None [] h = tt
    by_told None (n ∷ ns) h = by_told None ns h.1
    by_told (Some t) ns h = subst (WhereBothTold R (Some t)) (sym (some_trace ns t)) (trace_steps ns t h)
      where
        some_trace : (ns : List ℕ) (t : Trace) → (sealed_in ns (record disk { told = Some t })).told ≡ Some (sealed_trace ns t)
        some_trace [] t = refl
        some_trace (n ∷ ns) t = some_trace ns (sealed_at n t)

pub ready_all : (layers : Layers) (ns : List ℕ) (disk : Disk) → AllByRecursion (IsReadBy layers) ns → AreReady layers disk → AreReady layers (sealed_in ns disk)
ready_all layers [] disk read ready = ready
ready_all layers (n ∷ ns) disk read ready = ready_all layers ns (changed n Seal disk) read.1 (ready_sealed layers n disk read.0 ready)

can_later : (a : List ℕ) (disk : Disk) (ns : List ℕ) → AllByRecursion (CanSeal disk) ns → AllByRecursion (CanSeal (sealed_in a disk)) ns
can_later [] disk ns can = can
can_later (n ∷ a) disk ns can = can_later a (changed n Seal disk) ns (all_can n disk ns can)

pub files_all : (ns : List ℕ) (disk : Disk) → (sealed_in ns disk).files ≡ disk.files
files_all [] disk = refl
files_all (n ∷ ns) disk = files_all ns (changed n Seal disk)

-- ---- what stays

-- the file is one of these
abbrev IsAmong : List ℕ → ℕ → Type 0
IsAmong numbers n = (m : ℕ) → AllByRecursion (λ read. read ≢ m) numbers → n ≢ m

all_among : (numbers : List ℕ) → AllByRecursion (IsAmong numbers) numbers
all_among [] = tt
all_among (n ∷ numbers) = (λ m h. h.0, longer numbers (all_among numbers))
  where
    longer : (ns : List ℕ) → AllByRecursion (IsAmong numbers) ns → AllByRecursion (IsAmong (n ∷ numbers)) ns
    longer [] h = tt
    longer (k ∷ ns) h = (λ m others. h.0 m others.1, longer ns h.1)

-- what was left behind is synced now
left_now : (v : State) (now : Trace) → ((file : Placed) → v.writes file.number ≡ false → is_synced (file_of v.since file.number) ≡ true → is_synced (file_of now file.number) ≡ true)
    → AllLeftBehind v → AllLeftBehind (record v { since = now })
left_now v now still left = each v.retired left
  where
    each : (files : List Placed) → AllByRecursion (IsLeftBehind v) files → AllByRecursion (IsLeftBehind (record v { since = now })) files
    each [] h = tt
    each (file ∷ files) h = (record { unwritten = h.0.unwritten; synced = still file h.0.unwritten h.0.synced; tight = h.0.tight }, each files h.1)

-- readers of what the session doesn't change tell what it has now
readers_now : (v : State) (writes : ℕ → Bool) (now : Trace) (set : List Sealed) → ((n : ℕ) → v.writes n ≡ false → (writes n ≡ false) × (seen (file_of now n) ≡ seen (file_of v.since n))) → AreReadersOf v set
    → AreReadersOf (record v { writes = writes; since = now }) set
readers_now v writes now set same are k d within =
    let r = are k d within in
    let n = (get_or set k d).file in
    let h = same n r.0 in
    (h.0, r.1 ∙ ap (λ (bytes : List ℕ). Some bytes) (sym h.1))

pub readers_succeed : ReadersSucceed
readers_succeed id v target below layers now readers are done =
    readers_now v (λ n. if n == v.top.number then false else v.writes n) now readers (λ n unwritten. (by_test n unwritten (n == v.top.number), ap seen (done.still n unwritten))) are
  where
    by_test : (n : ℕ) → v.writes n ≡ false → (b : Bool) → (if b then false else v.writes n) ≡ false
    by_test n unwritten true = refl
    by_test n unwritten false = unwritten

kept_both : (a b c : File) → IsKept a b → IsKept b c → IsKept a c
kept_both a b _ first as_it_was = first
kept_both a b _ first (sealed file second) = sealed file (kept_both a b file first second)

goes_still : (layers : Layers) (t : Trace) → GoesOnSealed layers t t
goes_still layers t = record {
  serves = λ v s. serving_now layers v t s;
  left = λ v s. left_now v t (λ file unwritten synced. ap is_synced (s.still file.number unwritten) ∙ synced);
  readers = λ v set s. readers_now v v.writes t set (λ n unwritten. (unwritten, ap seen (s.still n unwritten)));
  bytes = λ n. refl;
  synced = λ n. refl;
  kept = λ n. as_it_was;
  others = λ n h. refl;
}

goes_both : (layers : Layers) (a b c : Trace) → GoesOnSealed layers a b → GoesOnSealed layers b c → GoesOnSealed layers a c
goes_both layers a b c first second = record {
  serves = λ v s. second.serves (record v { since = b }) (first.serves v s);
  left = λ v s behind. second.left (record v { since = b }) (first.serves v s) (first.left v s behind);
  readers = λ v set s are. second.readers (record v { since = b }) set (first.serves v s) (first.readers v set s are);
  bytes = λ n. second.bytes n ∙ first.bytes n;
  synced = λ n. second.synced n ∙ first.synced n;
  kept = λ n. kept_both (file_of a n) (file_of b n) (file_of c n) (first.kept n) (second.kept n);
  others = λ n h. second.others n h ∙ first.others n h;
}

goes_sealed : (layers : Layers) (n : ℕ) (t : Trace) → IsReadBy layers n → IsAmong (read_numbers layers.below.items) n → GoesOnSealed layers t (sealed_at n t)
goes_sealed layers n t read among = record {
  serves = λ v s. serving_sealed layers n v t read s;
  left = λ v s. left_now v (sealed_at n t) (λ file unwritten synced. synced_still n file.number t ∙ ap is_synced (s.still file.number unwritten) ∙ synced);
  readers = λ v set s. readers_now v v.writes (sealed_at n t) set (λ m unwritten. (unwritten, seen_still n m t ∙ ap seen (s.still m unwritten)));
  bytes = λ m. seen_still n m t;
  synced = λ m. synced_still n m t;
  kept = λ m. either_file (IsKept (file_of t m)) n m t as_it_was (sealed (file_of t m) as_it_was);
  others = λ m h. file_of-with_change_other n m Seal t (λ e. among m h (sym e));
}

-- Of the files that are only read the first ones were sealed, and nothing else was changed.
pub record EndsSealed (numbers : List ℕ) (old new : Disk) : Type 0 where
  pub sealed : List ℕ
  pub left : List ℕ
  pub each : numbers ≡ sealed ++ left
  pub files : new.files ≡ old.files
  pub told : new.told ≡ (sealed_in sealed old).told

ends_stopped : (numbers : List ℕ) (old new : Disk) (fault : SealFault) → StopsSealing numbers old new fault → EndsSealed numbers old new
ends_stopped numbers old new fault s =
    let same = by_fault s.left (sealed_in s.sealed old) fault s.stops in
    record { sealed = s.sealed; left = s.left; each = s.each; files = same.0 ∙ files_all s.sealed old; told = same.1 }
  where
    by_fault : (left : List ℕ) (mid : Disk) (fault : SealFault) → StopsAt left mid new fault → (new.files ≡ mid.files) × (new.told ≡ mid.told)
    by_fault left mid NoRoom h = (ap (λ (d : Disk). d.files) h, ap (λ (d : Disk). d.told) h)
    by_fault [] mid (Store fault) h = absurd h
    by_fault (n ∷ left) mid (Store fault) h = (ap (λ (d : Disk). d.files) h.stays, ap (λ (d : Disk). d.told) h.stays)

pub ends_sealed : {T : Type 0} (numbers : List ℕ) (old new : Disk) (result : Result T SealFault) → OnOk result (new ≡ sealed_in numbers old) → IfErr result (StopsSealing numbers old new) → EndsSealed numbers old new
ends_sealed numbers old new (Ok x) done stops =
    record { sealed = numbers; left = []; each = sym (append-nil numbers); files = ap (λ (d : Disk). d.files) done ∙ files_all numbers old; told = ap (λ (d : Disk). d.told) done }
ends_sealed numbers old new (Err fault) done stops = ends_stopped numbers old new fault stops

module _ (layers : Layers) (old new : Disk) (ready : AreReady layers old) (ends : EndsSealed (read_numbers layers.below.items) old new) where
  read_first : AllByRecursion (IsReadBy layers) ends.sealed
  read_first = all_left (IsReadBy layers) ends.sealed ends.left (subst (AllByRecursion (IsReadBy layers)) ends.each (read_by layers old ready))

  among_first : AllByRecursion (IsAmong (read_numbers layers.below.items)) ends.sealed
  among_first = all_left (IsAmong (read_numbers layers.below.items)) ends.sealed ends.left (subst (AllByRecursion (IsAmong (read_numbers layers.below.items))) ends.each (all_among (read_numbers layers.below.items)))

  pub goes_on : WhereBothTold (GoesOnSealed layers) old.told new.told
  goes_on =
      subst (WhereBothTold (GoesOnSealed layers) old.told) (sym ends.told)
      (told_all (GoesOnSealed layers) ends.sealed old (goes_still layers) (goes_both layers)
      (all_both (IsReadBy layers) (IsAmong (read_numbers layers.below.items)) (λ n. (t : Trace) → GoesOnSealed layers t (sealed_at n t)) ends.sealed (λ n read among t. goes_sealed layers n t read among) read_first among_first))

  pub ready_on : AreReady layers new
  ready_on = ready_resting layers (sealed_in ends.sealed old) new (ends.files ∙ sym (files_all ends.sealed old)) ends.told (ready_all layers ends.sealed old read_first ready)

-- ---- readers

-- one reader of each of these files as what is told has them
abbrev read_in : List ℕ → Option Trace → List Sealed
read_in numbers told = map (λ n. record { file = n; content = option_map (λ trace. seen (file_of trace n)) told; failed = 0 }) numbers

reader_still : (n m : ℕ) (disk : Disk) → reader_of m (changed n Seal disk) ≡ reader_of m disk
reader_still n m disk = ap (λ (c : Option (List ℕ)). let made : Sealed = record { file = m; content = c; failed = 0 } in made) (by_told disk.told)
  where
    by_told : (o : Option Trace) → option_map (λ trace. seen (file_of trace m)) (told_after n Seal o) ≡ option_map (λ trace. seen (file_of trace m)) o
    by_told None = refl
    by_told (Some t) = ap (λ (bytes : List ℕ). Some bytes) (seen_still n m t)

readers_still : (n : ℕ) (numbers : List ℕ) (disk : Disk) → readers_of numbers (changed n Seal disk) ≡ readers_of numbers disk
readers_still n [] disk = refl
readers_still n (m ∷ numbers) disk = ap (λ (r : Sealed). r ∷ readers_of numbers (changed n Seal disk)) (reader_still n m disk) ∙ ap (λ (rs : List Sealed). reader_of m disk ∷ rs) (readers_still n numbers disk)

pub readers_later : (a b : List ℕ) (disk : Disk) → readers_of b (sealed_in a disk) ≡ readers_of b disk
readers_later [] b disk = refl
readers_later (n ∷ a) b disk = readers_later a b (changed n Seal disk) ∙ readers_still n b disk

-- each set gets those of the first files, and then those of the others
pub readers_both : (a b : List ℕ) (disk : Disk) (sets : List (List Sealed)) → map (λ set. set ++ readers_of b (sealed_in a disk)) (map (λ set. set ++ readers_of a disk) sets) ≡ map (λ set. set ++ readers_of (a ++ b) disk) sets
readers_both a b disk [] = refl
readers_both a b disk (set ∷ sets) =
    let one : (set ++ readers_of a disk) ++ readers_of b (sealed_in a disk) ≡ set ++ readers_of (a ++ b) disk =
    ap (λ (rs : List Sealed). (set ++ readers_of a disk) ++ rs) (readers_later a b disk) ∙ append_assoc set (readers_of a disk) (readers_of b disk)
    ∙ ap (λ (rs : List Sealed). set ++ rs) (sym (map-append (λ n. reader_of n disk) a b)) in
    ap (λ (first : List Sealed). first ∷ map (λ set. set ++ readers_of b (sealed_in a disk)) (map (λ set. set ++ readers_of a disk) sets)) one
    ∙ ap (λ (others : List (List Sealed)). (set ++ readers_of (a ++ b) disk) ∷ others) (readers_both a b disk sets)

pub none_added : (sets : List (List Sealed)) → sets ≡ map (λ set. set ++ []) sets
none_added [] = refl
none_added (set ∷ sets) = ap (λ (first : List Sealed). first ∷ sets) (sym (append-nil set)) ∙ ap (λ (others : List (List Sealed)). (set ++ []) ∷ others) (none_added sets)

pub from_none : (count : ℕ) (readers : List Sealed) → map (λ set. set ++ readers) (replicate count []) ≡ replicate count readers
from_none zero readers = refl
from_none (suc count) readers = ap (λ (others : List (List Sealed)). readers ∷ others) (from_none count readers)

-- ---- one file, and then the others

pub split_first : (upper : FileLayer) (below : List FileLayer) → read_numbers (upper ∷ below) ≡ read_numbers (upper ∷ []) ++ read_numbers below
split_first (Session l) below = refl
split_first (Read l) below = refl

-- it stopped at the first of them, or among the others
stops_longer : (left more : List ℕ) (old new : Disk) (fault : SealFault) → StopsAt left old new fault → StopsAt (left ++ more) old new fault
stops_longer left more old new NoRoom h = h
stops_longer [] more old new (Store fault) h = absurd h
stops_longer (n ∷ left) more old new (Store fault) h = h

pub stops_first : (a b : List ℕ) (old new : Disk) (fault : SealFault) → StopsSealing a old new fault → StopsSealing (a ++ b) old new fault
stops_first a b old new fault s = record {
  sealed = s.sealed;
  left = s.left ++ b;
  each = ap (λ (ns : List ℕ). ns ++ b) s.each ∙ append_assoc s.sealed s.left b;
  stops = stops_longer s.left b (sealed_in s.sealed old) new fault s.stops;
}

pub stops_later : (a b : List ℕ) (old new : Disk) (fault : SealFault) → StopsSealing b (sealed_in a old) new fault → StopsSealing (a ++ b) old new fault
stops_later a b old new fault s = record {
  sealed = a ++ s.sealed;
  left = s.left;
  each = ap (λ (ns : List ℕ). a ++ ns) s.each ∙ sym (append_assoc a s.sealed s.left);
  stops = subst (λ (d : Disk). StopsAt s.left d new fault) (sym (sealed_both a s.sealed old)) s.stops;
}

-- what follows of an answer that is an error
pub err_then : {T : Type 0} (P Q : SealFault → Type 0) (result : Result T SealFault) → ((fault : SealFault) → P fault → Q fault) → IfErr result P → IfErr result Q
err_then P Q (Ok x) f h = h
err_then P Q (Err fault) f h = f fault h

-- layers of which these are the first and the others
module _ (layers : List FileLayer) (upper : FileLayer) (below : List FileLayer) (is : layers ≡ upper ∷ below) where
  split : read_numbers layers ≡ read_numbers (upper ∷ []) ++ read_numbers below
  split = ap read_numbers is ∙ split_first upper below

  pub can_below : (old mid : Disk) → mid ≡ sealed_in (read_numbers (upper ∷ [])) old → AllByRecursion (CanSeal old) (read_numbers layers) → AllByRecursion (CanSeal mid) (read_numbers below)
  can_below old mid done can =
      subst (λ (d : Disk). AllByRecursion (CanSeal d) (read_numbers below)) (sym done)
      (can_later (read_numbers (upper ∷ [])) old (read_numbers below) (all_right (CanSeal old) (read_numbers (upper ∷ [])) (read_numbers below) (subst (AllByRecursion (CanSeal old)) split can)))

  pub readers_more : (old mid : Disk) (first second third : List (List Sealed)) → mid ≡ sealed_in (read_numbers (upper ∷ [])) old → second ≡ map (λ set. set ++ readers_of (read_numbers (upper ∷ [])) old) first
      → third ≡ map (λ set. set ++ readers_of (read_numbers below) mid) second → third ≡ map (λ set. set ++ readers_of (read_numbers layers) old) first
  readers_more old mid first second third done one two =
      two ∙ ap (λ (d : Disk). map (λ set. set ++ readers_of (read_numbers below) d) second) done
      ∙ ap (λ (sets : List (List Sealed)). map (λ set. set ++ readers_of (read_numbers below) (sealed_in (read_numbers (upper ∷ [])) old)) sets) one
      ∙ readers_both (read_numbers (upper ∷ [])) (read_numbers below) old first ∙ ap (λ (ns : List ℕ). map (λ set. set ++ readers_of ns old) first) (sym split)

  pub stops_here : (old new : Disk) (fault : SealFault) → StopsSealing (read_numbers (upper ∷ [])) old new fault → StopsSealing (read_numbers layers) old new fault
  stops_here old new fault s = subst (λ (ns : List ℕ). StopsSealing ns old new fault) (sym split) (stops_first (read_numbers (upper ∷ [])) (read_numbers below) old new fault s)

  pub stops_below : (old mid new : Disk) (fault : SealFault) → mid ≡ sealed_in (read_numbers (upper ∷ [])) old → StopsSealing (read_numbers below) mid new fault → StopsSealing (read_numbers layers) old new fault
  stops_below old mid new fault done s =
      subst (λ (ns : List ℕ). StopsSealing ns old new fault) (sym split)
      (stops_later (read_numbers (upper ∷ [])) (read_numbers below) old new fault (subst (λ (d : Disk). StopsSealing (read_numbers below) d new fault) done s))

-- no layers
pub none_read : (layers : List FileLayer) → length layers ≡ 0 → read_numbers layers ≡ []
none_read [] none = refl
none_read (l ∷ layers) none = absurd (omega (arith, none))

pub as_many : (sets made : List (List Sealed)) (readers : List Sealed) → made ≡ map (λ set. set ++ readers) sets → length made ≡ length sets
as_many sets made readers is = ap length is ∙ length-map sets (λ set. set ++ readers)

-- ---- for a session

of_read : (writes : ℕ → Bool) (below : List FileLayer) → AreWritten writes below → AllByRecursion (λ n. writes n ≡ false) (read_numbers below)
of_read writes [] w = tt
of_read writes (Session l ∷ below) w = of_read writes below w.1
of_read writes (Read l ∷ below) w = (w.0, of_read writes below w.1)

-- the readers tell what the files have now
reads_now : (v : State) (old new : Trace) (numbers : List ℕ) → ((n : ℕ) → seen (file_of new n) ≡ seen (file_of old n)) → AllByRecursion (λ n. v.writes n ≡ false) numbers
    → AllByRecursion (λ (s : Sealed). (v.writes s.file ≡ false) × (s.content ≡ Some (files_in new s.file))) (read_in numbers (Some old))
reads_now v old new [] bytes unwritten = tt
reads_now v old new (n ∷ numbers) bytes unwritten = ((unwritten.0, ap (λ (x : List ℕ). Some x) (sym (bytes n))), reads_now v old new numbers bytes unwritten.1)

in_each : {A : Type 0} (P : A → Type 0) (count : ℕ) (x : A) → P x → AllByRecursion P (replicate count x)
in_each P zero x p = tt
in_each P (suc count) x p = (p, in_each P count x p)

pub for_session : (layers : Layers) (count : ℕ) (old new : Option Trace) → WhereBothTold (GoesOnSealed layers) old new → WhereBothTold (ReadForSession layers (replicate count (read_in (read_numbers layers.below.items) old))) old new
for_session layers count None None h = tt
for_session layers count None (Some b) h = h
for_session layers count (Some a) None h = h
for_session layers count (Some a) (Some b) h = record {
  readers = λ v serving written.
      let now : State = record v { since = b } in
      All-from_recursion (AreReadersOf now) (replicate count (read_in (read_numbers layers.below.items) (Some a)))
      (in_each (AreReadersOf now) count (read_in (read_numbers layers.below.items) (Some a))
      (All-from_recursion (λ (s : Sealed). (v.writes s.file ≡ false) × (s.content ≡ Some (files_in b s.file))) (read_in (read_numbers layers.below.items) (Some a))
      (reads_now v a b (read_numbers layers.below.items) h.bytes (of_read v.writes layers.below.items written))));
}

pub made_for_session : {E : Type 0} (layers : Layers) (count : ℕ) (old new : Disk) (result : Result (List (List Sealed)) E) → WhereBothTold (GoesOnSealed layers) old.told new.told
    → IfOk result (λ sets. sets ≡ replicate count (readers_of (read_numbers layers.below.items) old)) → IfOk result (λ sets. WhereBothTold (ReadForSession layers sets) old.told new.told)
made_for_session layers count old new (Ok sets) goes made = subst (λ (s : List (List Sealed)). WhereBothTold (ReadForSession layers s) old.told new.told) (sym made) (for_session layers count old.told new.told goes)
made_for_session layers count old new (Err fault) goes made = tt

-- ---- what can be sealed

pub sessions_write_theirs : SessionsWriteTheirs
sessions_write_theirs layers v trace serving some = by_leaf layers.leaf some serving.written
  where
    by_leaf : (o : Option Layer) → is_some o ≡ true → IfSome o (λ leaf. (v.writes v.top.number ≡ true) × AreWritten v.writes layers.below.items) → AreWritten v.writes layers.below.items
    by_leaf None some h = absurd (false_true some)
    by_leaf (Some l) some h = h.1

pub read_files_are_synced : ReadFilesAreSynced
read_files_are_synced layers v trace serving written = by_leaf layers.leaf serving.held
  where
    each : (below : List FileLayer) (files : List Placed) → HaveFiles below trace files → AllByRecursion (WasSynced v.writes v.since) files → AreWritten v.writes below → AreSynced (read_numbers below) trace
    each [] files have synced w = tt
    each (l ∷ below) [] have synced w = absurd have
    each (Session l ∷ below) (file ∷ files) have synced w = each below files have.1 synced.1 w.1
    each (Read l ∷ below) (file ∷ files) have synced w =
        let unwritten : v.writes file.number ≡ false = ap v.writes have.0.number ∙ w.0 in
        (subst (λ (n : ℕ). is_synced (file_of trace n) ≡ true) have.0.number (ap is_synced (serving.still file.number unwritten) ∙ synced.0 unwritten), each below files have.1 synced.1 w.1)

    by_leaf : (o : Option Layer) → AreHeld o layers.below.items trace v.top (others_of v.rest) → AreSynced (read_numbers layers.below.items) trace
    by_leaf None held = each layers.below.items (files_of v) held.1 serving.synced written
    by_leaf (Some l) held = each layers.below.items (others_of v.rest) held.1 serving.synced.1 written

-- ---- other readers

among_unwritten : (writes : ℕ → Bool) (numbers : List ℕ) (n : ℕ) → AllByRecursion (λ m. writes m ≡ false) numbers → is_among numbers n ≡ true → writes n ≡ false
among_unwritten writes [] n unwritten among = absurd (false_true among)
among_unwritten writes (m ∷ numbers) n unwritten among = by_test (among_unwritten writes numbers n unwritten.1) (m == n) refl among
  where
    by_test : (is_among numbers n ≡ true → writes n ≡ false) → (b : Bool) → (m == n) ≡ b → (b || is_among numbers n) ≡ true → writes n ≡ false
    by_test rest true is among = subst (λ k. writes k ≡ false) (eqb-true m n is) unwritten.0
    by_test rest false is among = rest among

pub readers_of_session : ReadersOfSession
readers_of_session layers v trace readers serving some are k d within =
    let reader = get_or readers k d in
    let told = are k d within in
    let unwritten = among_unwritten v.writes (read_numbers layers.below.items) reader.file (of_read v.writes layers.below.items (sessions_write_theirs layers v trace serving some)) told.0 in
    (unwritten, told.1 ∙ ap (λ (f : File). Some (seen f)) (serving.still reader.file unwritten))
