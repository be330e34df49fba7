-- The write of sectors to their places, of a store.
use Rattle.std.proofs.Common.{◌≡◌, ℕ, ◌+◌, ◌*◌, ◌<◌, ◌≤◌, ◌||◌, Bool, true, false, List, length, Option, Some, None, refl, sym, ap, subst, ◌∙◌, arith}
use Rattle.std.specs.Prelude.{Result, Ok, Err, OnOk, IfErr}
use Rattle.store_model.specs.Bytes.{Torn}
use Rattle.store_model.specs.Disk.{ChangeFailed, Disk, LeavesTorn, WhereBothTold, WhereTold, WriteFailed, changed, nothing, told_after, torn}
use Rattle.store_model.specs.File.{File, Grow, IsFileImage, Op, Tear, Write, seen, with_op}
use Rattle.store_model.specs.Trace.{Trace, file_of, with_change}
use Rattle.store_model.specs.declared.fault.StoreFault.{StoreFault}
use Rattle.store_model.proofs.Spans.{EachMoment-next, EachMoment-now, file_of-with_change, file_of-with_change_other}
use Rattle.chain_model.specs.Images.{Placed}
use Rattle.torn_match.specs.TornMatches.{EachUntorn}
use Rattle.chain_model.specs.Layers as chain
use Rattle.chain_model.specs.Moments.{HasWholeImages, IsPhase}
use Rattle.chain_model.specs.PhaseLaws.{loosened}
use Rattle.chain_model.specs.Sessions.{IsKept, ShowsFile}
use Rattle.chain_model.proofs.Calling.{loosened_is_kept}
use Rattle.vx_base.specs.declared.parts.Parts.{Parts}
use Rattle.layer_session.specs.declared.file.Layer.{Layer}
use Rattle.layer_session.specs.Calls.{HasPut, HoldsRest, KeepsOver, PutsInto, is_among, loose_or_named, placed_with, with_bytes}
use Rattle.layer_session.specs.Keeping.{IsHeld, IsReadable, IsReady, Serves}
use Rattle.layer_session.specs.Steps.{StandFrom}
use Rattle.layer_session.proofs.Allocating.{grown_shows}
use Rattle.layer_session.proofs.Crashes.{layers_are_kept}
use Rattle.layer_session.proofs.Equal.{none_some, some_same, true_false}
use Rattle.layer_session.proofs.Payload.{inside}
use Rattle.layer_session.proofs.Written.{whole_of, writes_are_served}
use Rattle.store_model.specs.Plans.{FailsToChange}
use Rattle.log_write.specs.Sessions.{IsOpenFor}

-- one change, at each moment of which each image has P
pub phase_of : (n : ℕ) (P : List ℕ → Type 0) (t : Trace) (op : Op) → EachUntorn P (file_of t n) → EachUntorn P (file_of (with_change n op t) n) → IsPhase n P t (with_change n op t)
phase_of n P t op before after =
    EachMoment-next (HasWholeImages n P t) t t n op (EachMoment-now (HasWholeImages n P t) t (record { images = before; others = λ o ne. refl }))
    (record { images = after; others = λ o ne. file_of-with_change_other n o op t ne })

module _ (l : Layer) (first count place : ℕ) (bytes : List ℕ) (whole : length bytes ≡ l.tables.parts.sector * count) (on_disk : first + count ≤ l.tables.parts.sectors) where
  abbrev layer_of : List ℕ → chain.Layer → chain.Layer
  layer_of b layer s = with_bytes l.tables.parts.sector first count b layer s

  more : (file : Placed) (s : ℕ) → loose_or_named first count file s ≡ false → file.is_loose s ≡ false
  more file s h = by_test (file.is_loose s) h
    where
      by_test : (b : Bool) → (b || is_among first count s) ≡ false → b ≡ false
      by_test true e = absurd (true_false e)
      by_test false e = refl

  abbrev wide : Placed → Placed
  wide file = loosened (loose_or_named first count file) file

  kept : (t : Trace) (file : Placed) → Serves l t file → IsKept t (wide file)
  kept t file serves = loosened_is_kept (loose_or_named first count file) file t (more file) (layers_are_kept l t file serves)

  -- the write, done or failed, leaves no more than the write that was meant
  goes : (t : Trace) (file : Placed) → Serves l t file → StandFrom l first count place t → (op : Op)
      → ((image : List ℕ) → IsFileImage (with_op op (file_of t file.number)) image → IsFileImage (with_op (Write place bytes) (file_of t file.number)) image)
      → IsPhase file.number (ShowsFile (loosened (loose_or_named first count file) file)) t (with_change file.number op t)
  goes t file serves from op no_more =
      phase_of file.number (ShowsFile (loosened (loose_or_named first count file) file)) t op (λ image here clean. (kept t file serves).shows image here clean)
      (λ image here clean.
      writes_are_served.images l t file first count place bytes serves from whole on_disk image
      (subst (λ (f : File). IsFileImage f image) (sym (file_of-with_change file.number (Write place bytes) t)) (no_more image (subst (λ (f : File). IsFileImage f image) (file_of-with_change file.number op t) here))))

  stays : (t : Trace) (file : Placed) → Serves l t file → IsPhase file.number (ShowsFile (loosened (loose_or_named first count file) file)) t t
  stays t file serves = EachMoment-now (HasWholeImages file.number (ShowsFile (loosened (loose_or_named first count file) file)) t) t (record { images = λ image here clean. (kept t file serves).shows image here clean; others = λ o ne. refl })

  module _ (old new : Disk) (n : ℕ) (one_file : n ≡ l.tables.parts.file) (stand : WhereTold old.told (λ t. StandFrom l first count place t)) where
    number : (t : Trace) (file : Placed) → Serves l t file → file.number ≡ n
    number t file serves = serves.number ∙ sym one_file

    puts_torn : (t : Trace) → old.told ≡ Some t → (op : Op)
        → ((file : Placed) (image : List ℕ) → IsFileImage (with_op op (file_of t file.number)) image → IsFileImage (with_op (Write place bytes) (file_of t file.number)) image) → PutsInto l first count t (with_change n op t)
    puts_torn t e op no_more = record {
      over = λ file serves.
          subst (λ k. IsPhase file.number (ShowsFile (loosened (loose_or_named first count file) file)) t (with_change k op t)) (number t file serves)
          (goes t file serves (stand t e) op (no_more file));
    }

    after_ok : (a : Option Trace) → old.told ≡ a → WhereBothTold (PutsInto l first count) a (told_after n (Write place bytes) a)
    after_ok None e = tt
    after_ok (Some t) e = puts_torn t e (Write place bytes) (λ file image here. here)

    after_err : (a b : Option Trace) → old.told ≡ a → LeavesTorn n place bytes a b → WhereBothTold (PutsInto l first count) a b
    after_err None _ e nothing = tt
    after_err (Some t) _ e nothing = record { over = λ file serves. stays t file serves }
    after_err None _ e (torn b long are) = tt
    after_err (Some t) _ e (torn b long are) = puts_torn t e (Tear place bytes b) (λ file image here. (here.0, here.1, subst (λ k. Torn place k here.0 image) long here.2))

    -- at each moment of it
    pub write_moments : (result : Result (Unit {0}) StoreFault) → OnOk result (new ≡ changed n (Write place bytes) old) → IfErr result (WriteFailed n place bytes old new)
        → WhereBothTold (PutsInto l first count) old.told new.told
    write_moments (Ok x) ok err = subst (λ (d : Disk). WhereBothTold (PutsInto l first count) old.told d.told) (sym ok) (after_ok old.told refl)
    write_moments (Err fault) ok err = after_err old.told new.told refl err.left

    has_put : (a : Option Trace) → old.told ≡ a → WhereBothTold (HasPut l l first count (layer_of bytes)) a (told_after n (Write place bytes) a)
    has_put None e = tt
    has_put (Some t) e = record {
      serves = λ file serves.
          subst (λ k. Serves l (with_change k (Write place bytes) t) (placed_with (λ s. layer_of bytes file.member.layer s) (loose_or_named first count file) file)) (number t file serves)
          (writes_are_served.serves l t file first count place bytes serves (stand t e) whole on_disk);
    }

    -- and behind it
    pub write_put : (result : Result (Unit {0}) StoreFault) → OnOk result (new ≡ changed n (Write place bytes) old) → OnOk result (WhereBothTold (HasPut l l first count (layer_of bytes)) old.told new.told)
    write_put (Ok x) ok = subst (λ (d : Disk). WhereBothTold (HasPut l l first count (layer_of bytes)) old.told d.told) (sym ok) (has_put old.told refl)
    write_put (Err fault) ok = tt

-- the log is open for the file that is served
pub open_for : (l : Layer) (disk : Disk) → IsReady l disk → WhereTold disk.told (λ t. IsOpenFor l.log (file_of t l.log.file))
open_for l disk ready t e =
    let s = ready.told t e in
    let n : s.0.number ≡ l.log.file = s.1.number ∙ sym ready.one_file in
    subst (λ k. IsOpenFor l.log (file_of t k)) n s.1.running.state

-- and a run that stands in it lies in it
pub within_log : (l : Layer) (disk : Disk) (first count place : ℕ) (bytes : List ℕ) → IsReady l disk → length bytes ≡ l.tables.parts.sector * count → first + count ≤ l.tables.parts.sectors
    → WhereTold disk.told (λ t. StandFrom l first count place t) → WhereTold disk.told (λ t. place + length bytes ≤ l.log.len)
within_log l disk first count place bytes ready whole on_disk stand t e =
    let s = ready.told t e in
    let fits = inside l t s.0 s.1 first count place (stand t e) on_disk bytes (whole_of l t s.0 s.1 count (length bytes) whole) in
    let long = s.1.running.state.long in
    omega (arith, fits, long)

pub write_fails : (file place : ℕ) (meant : List ℕ) (old new : Disk) (fault : StoreFault) → WriteFailed file place meant old new fault → FailsToChange file old new fault
write_fails file place meant old new fault w = record { stays = w.stays; of_file = w.of_file; count = w.count }

-- ---- growth

module _ (l : Layer) (len : ℕ) (longer : l.log.len ≤ len) (old new : Disk) (n : ℕ) (one_file : n ≡ l.tables.parts.file) where
  grows_over : (t : Trace) → KeepsOver l t (with_change n (Grow len) t)
  grows_over t = record {
    over = λ file serves.
        subst (λ k. IsPhase file.number (ShowsFile file) t (with_change k (Grow len) t)) (serves.number ∙ sym one_file)
        (phase_of file.number (ShowsFile file) t (Grow len) (λ image here clean. (layers_are_kept l t file serves).shows image here clean) (λ image here clean. grown_shows l t file serves len longer image here));
  }

  keeps_over : (t : Trace) → KeepsOver l t t
  keeps_over t = record {
    over = λ file serves.
        EachMoment-now (HasWholeImages file.number (ShowsFile file) t) t (record { images = λ image here clean. (layers_are_kept l t file serves).shows image here clean; others = λ o ne. refl });
  }

  after_growth : (a : Option Trace) → WhereBothTold (KeepsOver l) a (told_after n (Grow len) a)
  after_growth None = tt
  after_growth (Some t) = grows_over t

  after_none : (a : Option Trace) → WhereBothTold (KeepsOver l) a a
  after_none None = tt
  after_none (Some t) = keeps_over t

  pub grow_moments : (result : Result (Unit {0}) StoreFault) → OnOk result (new ≡ changed n (Grow len) old) → IfErr result (ChangeFailed n old new) → WhereBothTold (KeepsOver l) old.told new.told
  grow_moments (Ok x) ok err = subst (λ (d : Disk). WhereBothTold (KeepsOver l) old.told d.told) (sym ok) (after_growth old.told)
  grow_moments (Err fault) ok err = subst (λ (d : Disk). WhereBothTold (KeepsOver l) old.told d.told) (sym err.stays) (after_none old.told)

-- ---- what is held after a fault

-- what a layer serves it holds
serves_held : (l : Layer) (t : Trace) (file : Placed) (first count : ℕ) → Serves l t file
    → (parts : Parts) × ((layer : chain.Layer) × IsHeld l parts layer (seen (file_of t l.tables.parts.file)) × ((s : ℕ) → is_among first count s ≡ false → layer s ≡ file.member.layer s))
serves_held l t file first count s = (s.parts, (file.member.layer, subst (λ n. IsHeld l s.parts file.member.layer (seen (file_of t n))) s.number s.as_held, λ i e. refl))

pub still_holds : (l : Layer) (first count : ℕ) (o : Option Trace) → WhereBothTold (HoldsRest l l first count) o o
still_holds l first count None = tt
still_holds l first count (Some t) = record { holds = λ file s. serves_held l t file first count s }

-- of a growth
pub grow_broken : (l : Layer) (old new : Disk) (n : ℕ) (fault : StoreFault) → IsReady l old → ChangeFailed n old new fault → IsReadable l new × WhereBothTold (HoldsRest l l 0 0) old.told new.told
grow_broken l old new n fault ready fails = (
  record {
    there = subst (λ (d : Disk). l.tables.parts.file < d.files) (sym fails.stays) ready.readable.there;
    sizes = ready.readable.sizes;
    told = subst (λ (d : Disk). WhereTold d.told (λ t. (parts : Parts) × ((layer : chain.Layer) × IsHeld l parts layer (seen (file_of t l.tables.parts.file))))) (sym fails.stays) ready.readable.told;
  },
  subst (λ (d : Disk). WhereBothTold (HoldsRest l l 0 0) old.told d.told) (sym fails.stays) (still_holds l 0 0 old.told),
)

-- of a write of sectors
module _ (l : Layer) (first count place : ℕ) (bytes : List ℕ) (whole : length bytes ≡ l.tables.parts.sector * count) (on_disk : first + count ≤ l.tables.parts.sectors) where
  -- whatever it left there
  torn_held : (t : Trace) (file : Placed) → Serves l t file → StandFrom l first count place t → (left : List ℕ) → length left ≡ length bytes
      → (parts : Parts) × ((layer : chain.Layer) × IsHeld l parts layer (seen (file_of (with_change l.tables.parts.file (Tear place bytes left) t) l.tables.parts.file)) × ((s : ℕ) → is_among first count s ≡ false → layer s ≡ file.member.layer s))
  torn_held t file s from left long =
      let then : Serves l (with_change file.number (Write place left) t) (placed_with (λ x. with_bytes l.tables.parts.sector first count left file.member.layer x) (loose_or_named first count file) file) =
      writes_are_served.serves l t file first count place left s from (long ∙ whole) on_disk in
      let same : seen (file_of (with_change file.number (Write place left) t) file.number) ≡ seen (file_of (with_change file.number (Tear place bytes left) t) file.number) =
      ap seen (file_of-with_change file.number (Write place left) t) ∙ sym (ap seen (file_of-with_change file.number (Tear place bytes left) t)) in (
        then.parts,
        (
          λ x. with_bytes l.tables.parts.sector first count left file.member.layer x,
          subst (λ n. IsHeld l then.parts (λ x. with_bytes l.tables.parts.sector first count left file.member.layer x) (seen (file_of (with_change n (Tear place bytes left) t) n))) s.number
              (subst (IsHeld l then.parts (λ x. with_bytes l.tables.parts.sector first count left file.member.layer x)) same then.as_held),
          λ x e. rw e refl,
        ),
      )

  module _ (old new : Disk) (n : ℕ) (one_file : n ≡ l.tables.parts.file) (ready : IsReady l old) (stand : WhereTold old.told (λ t. StandFrom l first count place t)) (fault : StoreFault) (fails : WriteFailed n place bytes old new fault) where
    left_holds : (a b : Option Trace) → WhereTold a (λ t. StandFrom l first count place t) → LeavesTorn n place bytes a b → WhereBothTold (HoldsRest l l first count) a b
    left_holds a _ from nothing = still_holds l first count a
    left_holds None _ from (torn left long are) = tt
    left_holds (Some t) _ from (torn left long are) =
        subst (λ k. HoldsRest l l first count t (with_change k (Tear place bytes left) t)) (sym one_file) (record { holds = λ file s. torn_held t file s (from t refl) left long })

    on_told : (a b : Option Trace) → WhereTold a (λ t. (file : Placed) × Serves l t file) → WhereBothTold (HoldsRest l l first count) a b → WhereTold b (λ t. (parts : Parts) × ((layer : chain.Layer) × IsHeld l parts layer (seen (file_of t l.tables.parts.file))))
    on_told None None r h u e = absurd (none_some e)
    on_told None (Some v) r h u e = absurd h
    on_told (Some t) None r h u e = absurd (none_some e)
    on_told (Some t) (Some v) r h u e =
        let s = r t refl in
        let k = h.holds s.0 s.1 in
        subst (λ (x : Trace). (parts : Parts) × ((layer : chain.Layer) × IsHeld l parts layer (seen (file_of x l.tables.parts.file)))) (some_same e) (k.0, (k.1.0, k.1.1))

    pub write_broken : IsReadable l new × WhereBothTold (HoldsRest l l first count) old.told new.told
    write_broken =
        let holds = left_holds old.told new.told stand fails.left in (
          record {
            there = subst (λ n. l.tables.parts.file < n) (sym (ap (λ (d : Disk). d.files) fails.stays)) ready.readable.there;
            sizes = ready.readable.sizes;
            told = on_told old.told new.told ready.told holds;
          },
          holds,
        )
