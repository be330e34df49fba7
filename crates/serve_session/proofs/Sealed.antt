-- Sealing what a session only reads, and the readers that each of its guests gets.
use Rattle.std.proofs.Common.{◌≡◌, ◌≢◌, ◌==◌, ◌||◌, ◌<◌, ◌++◌, ℕ, Bool, true, false, List, [], ◌∷◌, map, replicate, Option, Some, None, refl, sym, ap, subst, ◌∙◌, arith}
use Rattle.std.specs.Prelude.{All, IfSome, is_some}
use Rattle.std.specs.List.{AllByRecursion}
use Rattle.std.proofs.lemmas.Bool.{eq-eqb}
use Rattle.std.proofs.lemmas.List.Elements.{All-from_recursion, All-map, All-replicate}
use Rattle.store_model.specs.Disk.{Disk, Sealed, WhereBothTold, WhereTold, changed, fault_in, reader_of}
use Rattle.store_model.specs.File.{Seal}
use Rattle.store_model.specs.Trace.{Trace}
use Rattle.store_model.specs.declared.fault.SealFault.{SealFault}
use Rattle.store_model.specs.declared.fault.SealFault.TheVariants.{NoRoom, Store}
use Rattle.store_model.specs.declared.fault.StoreFault.{StoreFault}
use Rattle.layer_session.proofs.Equal.{none_some, some_same}
use Rattle.ledger.specs.declared.ledger.Ledger.{Ledger}
use Rattle.read_plan.specs.Reading.{has_failed, is_among}
use Rattle.chain_core.specs.declared.chain.Chain.{Chain}
use Rattle.chain_core.specs.Sealed.{AreSynced, CanSeal, GoesOnSealed, StopsAt, StopsSealing, read_numbers, readers_of, sealed_in}
use Rattle.chain_core.specs.Sessions.{AreApart, IsSound}
use Rattle.layer_session.specs.FileLayers.{file_numbers}
use Rattle.layer_session.specs.declared.file_layer.FileLayer.{FileLayer}
use Rattle.layer_session.specs.declared.file_layer.FileLayer.TheVariants.{Read, Session}
use Rattle.chain_core.specs.States.{IsServing, State}
use Rattle.chain_core.specs.declared.layers.Layers.{Layers}
use Rattle.chain_core.proofs.SealedReady.{can_seal}
use Rattle.chain_core.proofs.SealedSteps.{files_all, read_files_are_synced, readers_later, sessions_write_theirs}
use Rattle.shared_chain.specs.Faults.{CountsRead}
use Rattle.shared_chain.specs.Homes.{session_of}
use Rattle.shared_chain.specs.Planned.{IsReaderFor}
use Rattle.serve_session.specs.Served.{counts_behind, none_failed}
use Rattle.serve_session.specs.Sealing.{IsSealing, IsSetFor, ServesFirst}

-- ---- the store

-- only what it tells is another once files were sealed
only_told : (numbers : List ℕ) (disk : Disk) → sealed_in numbers disk ≡ record disk { told = (sealed_in numbers disk).told }
only_told [] disk = refl
only_told (n ∷ numbers) disk = only_told numbers (changed n Seal disk)

-- what a seal of files leaves of the store, whether a read failed meanwhile, or memory ran out
record LeavesStore (old new : Disk) (met : Option StoreFault) : Type 0 where
  pub files : new.files ≡ old.files
  pub changes : new.failed_changes ≡ old.failed_changes
  pub quiet : met ≡ None → new ≡ record old { told = new.told }
  pub counted : IfSome met (CountsRead new)

all_sealed : (numbers : List ℕ) (old new : Disk) → new ≡ sealed_in numbers old → LeavesStore old new None
all_sealed numbers old new is =
    let same : new ≡ record old { told = new.told } = is ∙ only_told numbers old ∙ ap (λ (d : Disk). record old { told = d.told }) (sym is) in
    record { files = ap (λ (d : Disk). d.files) same; changes = ap (λ (d : Disk). d.failed_changes) same; quiet = λ none. same; counted = tt }

some_none : (f : StoreFault) → ◌≡◌ {A = Option StoreFault} (Some f) None → ⊥
some_none f e = none_some (sym e)

stopped : (numbers : List ℕ) (old new : Disk) (fault : SealFault) → AllByRecursion (λ n. n < old.files) numbers → StopsSealing numbers old new fault → LeavesStore old new (fault_in fault)
stopped numbers old new fault there s = go fault s.left (there_behind s.sealed (subst (AllByRecursion (λ n. n < old.files)) s.each there)) s.stops
  where
    there_behind : (sealed : List ℕ) → AllByRecursion (λ n. n < old.files) (sealed ++ s.left) → AllByRecursion (λ n. n < old.files) s.left
    there_behind [] h = h
    there_behind (n ∷ sealed) h = there_behind sealed h.1

    mid : Disk
    mid = sealed_in s.sealed old

    before : LeavesStore old mid None
    before = all_sealed s.sealed old mid refl

    go : (fault : SealFault) (left : List ℕ) → AllByRecursion (λ n. n < old.files) left → StopsAt left mid new fault → LeavesStore old new (fault_in fault)
    go NoRoom left within same = all_sealed s.sealed old new same
    go (Store f) [] within h = absurd h
    go (Store f) (n ∷ left) within h = record {
      files = ap (λ (d : Disk). d.files) h.stays ∙ before.files;
      changes = ap (λ (d : Disk). d.failed_changes) h.stays ∙ before.changes;
      quiet = λ none. absurd (some_none f none);
      counted = (
        subst (λ m. m < new.files) (sym h.of_file) (subst (λ k. n < k) (sym (ap (λ (d : Disk). d.files) h.stays ∙ before.files)) within.0),
        (let r = h.count.rose.risen in let e = h.count.told in omega (arith, r, e)),
        h.count.told ∙ ap new.failed_reads (sym h.of_file),
      );
    }

-- ---- what can be sealed

pub synced_for : {S T : Type 0} (disk : S → Disk) (chain : Chain S Ledger T) → is_some chain.layers.leaf ≡ true → ServesFirst disk chain → WhereTold (disk chain.store).told (AreSynced (read_numbers chain.layers.below.items))
synced_for disk chain session serves trace told =
    let s = serves trace told in
    read_files_are_synced chain.layers s.0 trace s.1 (sessions_write_theirs chain.layers s.0 trace s.1 session)

-- those files are in the store
there_of : (disk : Disk) (numbers : List ℕ) → AllByRecursion (CanSeal disk) numbers → AllByRecursion (λ n. n < disk.files) numbers
there_of disk [] h = tt
there_of disk (n ∷ numbers) h = (h.0.there, there_of disk numbers h.1)

pub read_there : {S T : Type 0} (disk : S → Disk) (chain : Chain S Ledger T) → IsSound (session_of disk chain) → chain.broken ≡ None → WhereTold (disk chain.store).told (AreSynced (read_numbers chain.layers.below.items))
    → AllByRecursion (λ n. n < (disk chain.store).files) (read_numbers chain.layers.below.items)
read_there disk chain sound whole synced = there_of (disk chain.store) (read_numbers chain.layers.below.items) (can_seal chain.layers.geometry (disk chain.store) chain.layers.below.items (sound.ready whole).below synced)

-- and each has a number of its own
others_apart : (m : ℕ) (layers : List FileLayer) → AllByRecursion (λ other. other ≢ m) (file_numbers layers) → AllByRecursion (λ other. other ≢ m) (read_numbers layers)
others_apart m [] h = tt
others_apart m (Session l ∷ layers) h = others_apart m layers h.1
others_apart m (Read l ∷ layers) h = (h.0, others_apart m layers h.1)

read_apart : (layers : List FileLayer) → AreApart (file_numbers layers) → AreApart (read_numbers layers)
read_apart [] apart = tt
read_apart (Session l ∷ layers) apart = read_apart layers apart.1
read_apart (Read l ∷ layers) apart = (others_apart l.tables.parts.file layers apart.0, read_apart layers apart.1)

pub apart_in : {S T : Type 0} (disk : S → Disk) (chain : Chain S Ledger T) → IsSound (session_of disk chain) → chain.broken ≡ None → AreApart (read_numbers chain.layers.below.items)
apart_in disk chain sound whole = read_apart chain.layers.below.items (sound.ready whole).apart

-- ---- what is left

module _ {S T : Type 0} (disk : S → Disk) (old new : Chain S Ledger T) (only : new ≡ record old { store = new.store }) (sound : IsSound (session_of disk new)) (goes : WhereBothTold (GoesOnSealed old.layers) (disk old.store).told (disk new.store).told) where
  sealing_with : (met : Option StoreFault) → LeavesStore (disk old.store) (disk new.store) met → IsSealing disk old new met
  sealing_with met s = record { only = only; sound = sound; goes = goes; files = s.files; changes = s.changes; quiet = s.quiet }

  abbrev numbers : List ℕ
  numbers = read_numbers old.layers.below.items

  pub sealed_all : disk new.store ≡ sealed_in numbers (disk old.store) → IsSealing disk old new None
  sealed_all is = sealing_with None (all_sealed numbers (disk old.store) (disk new.store) is)

  module _ (fault : SealFault) (there : AllByRecursion (λ n. n < (disk old.store).files) numbers) (s : StopsSealing numbers (disk old.store) (disk new.store) fault) where
    leaves : LeavesStore (disk old.store) (disk new.store) (fault_in fault)
    leaves = stopped numbers (disk old.store) (disk new.store) fault there s

    pub sealed_part : IsSealing disk old new (fault_in fault)
    sealed_part = sealing_with (fault_in fault) leaves

    pub met_counted : IfSome (fault_in fault) (CountsRead (disk new.store))
    met_counted = leaves.counted

  -- ---- readers
  layers_are : new.layers ≡ old.layers
  layers_are = ap (λ (c : Chain S Ledger T). c.layers) only

  serves_now : ServesFirst disk old → ServesFirst disk new
  serves_now serves = go (disk old.store).told refl (disk new.store).told goes
    where
      go : (a : Option Trace) → (disk old.store).told ≡ a → (b : Option Trace) → WhereBothTold (GoesOnSealed old.layers) a b → WhereTold b (λ trace. (from : State) × IsServing new.layers from trace × (from.history ≡ []))
      go None is None g = λ t e. absurd (none_some e)
      go None is (Some b) g = absurd g
      go (Some a) is None g = absurd g
      go (Some a) is (Some b) g = λ t e.
          let s = serves a is in
          let k : (from : State) × IsServing new.layers from b × (from.history ≡ []) = (record (s.0) { since = b }, subst (λ (l : Layers). IsServing l (record (s.0) { since = b }) b) (sym layers_are) (g.serves s.0 s.1), s.2) in
          subst (λ (w : Trace). (from : State) × IsServing new.layers from w × (from.history ≡ [])) (some_same {x = b} {y = t} e) k

  each_among : (ns : List ℕ) → AllByRecursion (λ n. is_among ns n ≡ true) ns
  each_among [] = tt
  each_among (m ∷ ns) = (ap (λ b. b || is_among ns m) (eq-eqb m m refl), longer ns (each_among ns))
    where
      or_true : (b : Bool) → (b || true) ≡ true
      or_true true = refl
      or_true false = refl

      longer : (ks : List ℕ) → AllByRecursion (λ n. is_among ns n ≡ true) ks → AllByRecursion (λ n. is_among (m ∷ ns) n ≡ true) ks
      longer [] h = tt
      longer (n ∷ ks) h = (ap (λ b. (m == n) || b) h.0 ∙ or_true (m == n), longer ks h.1)

  pub sets_for : (count : ℕ) (sets : List (List Sealed)) → is_some old.layers.leaf ≡ true → ServesFirst disk old → disk new.store ≡ sealed_in numbers (disk old.store) → AllByRecursion (λ n. n < (disk old.store).files) numbers → AreApart numbers
      → sets ≡ replicate count (readers_of numbers (disk old.store)) → All (IsSetFor disk new) sets
  sets_for count sets session serves is there apart made =
      subst (All (IsSetFor disk new)) (sym made) (All-replicate (IsSetFor disk new) count (readers_of numbers (disk old.store)) (subst (IsSetFor disk new) (sym readers_are) own))
    where
      readers_are : readers_of numbers (disk old.store) ≡ readers_of numbers (disk new.store)
      readers_are = sym (ap (readers_of numbers) is ∙ readers_later numbers numbers (disk old.store))

      one : (n : ℕ) → is_among numbers n ≡ true → IsReaderFor disk new (reader_of n (disk new.store))
      one n among = record {
        only_read = subst (λ (l : Layers). is_among (read_numbers l.below.items) n ≡ true) (sym layers_are) among;
        content = refl;
        session = subst (λ (l : Layers). is_some l.leaf ≡ true) (sym layers_are) session;
        served = serves_now serves;
      }

      each : (ns : List ℕ) → AllByRecursion (λ n. is_among numbers n ≡ true) ns → AllByRecursion (λ n. IsReaderFor disk new (reader_of n (disk new.store))) ns
      each [] h = tt
      each (n ∷ ns) h = (one n h.0, each ns h.1)

      numbers_are : (ns : List ℕ) → map (λ (s : Sealed). s.file) (readers_of ns (disk new.store)) ≡ ns
      numbers_are [] = refl
      numbers_are (n ∷ ns) = ap (λ (ks : List ℕ). n ∷ ks) (numbers_are ns)

      none_failed_yet : (ns : List ℕ) → has_failed (readers_of ns (disk new.store)) ≡ false
      none_failed_yet [] = refl
      none_failed_yet (n ∷ ns) = none_failed_yet ns

      own : IsSetFor disk new (readers_of numbers (disk new.store))
      own = record {
        own = All-map (IsReaderFor disk new) (λ n. reader_of n (disk new.store)) numbers (All-from_recursion (λ n. IsReaderFor disk new (reader_of n (disk new.store))) numbers (each numbers (each_among numbers)));
        there = All-map (λ (s : Sealed). s.file < (disk new.store).files) (λ n. reader_of n (disk new.store)) numbers
            (All-from_recursion (λ n. n < (disk new.store).files) numbers (subst (λ k. AllByRecursion (λ n. n < k) numbers) (sym (ap (λ (d : Disk). d.files) is ∙ files_all numbers (disk old.store))) there));
        apart = subst AreApart (sym (numbers_are numbers)) apart;
        counts = All-map (λ (s : Sealed). s.failed ≡ counts_behind none_failed [] s.file) (λ n. reader_of n (disk new.store)) numbers (λ k d below. refl);
        failed = none_failed_yet numbers;
      }
