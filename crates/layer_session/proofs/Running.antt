-- A block is ready, and its sectors are put.
use Rattle.std.proofs.Common.{◌≡◌, ℕ, ◌-◌, ◌*◌, ◌/◌, ◌<◌, ◌⊎◌, ◌==◌, ◌&&◌, Bool, true, false, List, length, Option, Some, refl, sym, ap, subst, ◌∙◌, arith, inl, inr, mul_comm, if◌then◌else◌}
use Rattle.std.proofs.Math.Nat.{mul-div_cancel}
use Rattle.vx_base.specs.Fields.{bytes_at, zeros}
use Rattle.vhdx_format.specs.AllocationTables.{IsSectorSize, state_of}
use Rattle.vhdx_format.specs.Layers.{entry_of, table_entry}
use Rattle.vhdx_format.proofs.SizeLemmas.{sector_least}
use Rattle.store_model.specs.Disk.{Disk, WhereBothTold, WhereTold}
use Rattle.store_model.specs.Trace.{Trace}
use Rattle.table_pages.specs.Held as table_words
use Rattle.table_pages.specs.declared.tables.TableParts.{TableParts}
use Rattle.chain_model.specs.Layers as chain
use Rattle.layer_session.specs.declared.file.Layer.{Layer}
use Rattle.layer_session.specs.declared.file.LayerFault.{LayerFault}
use Rattle.layer_session.specs.declared.planning.Plan.{Plan}
use Rattle.layer_session.specs.declared.planning.Step.TheVariants.{Drop, Leave, Make, MakePart, Mark, Write}
use Rattle.layer_session.specs.Calls.{HasPut, KeepsOver, PutsInto, is_among, sectors_in, with_bytes, with_zeros}
use Rattle.layer_session.specs.Planning.{are_marked, step_by}
use Rattle.layer_session.specs.Steps.{IsMade, IsToDo, StandFrom, held_by}
use Rattle.layer_session.specs.Taking.{IsBroken, IsDone, IsTrimming, KeepsEntries, KeepsOthers}
use Rattle.layer_session.proofs.Joining.{Moves, broken_after, keeps_puts, made_moves, part_outside, put_made, puts_after}
use Rattle.layer_session.proofs.Resting.{others_entries}
use Rattle.layer_session.proofs.Told.{both_end, both_map, both_then}

-- sectors that are put hang on nothing that stood there
pub bytes_all : (z first count : ℕ) (bytes : List ℕ) (one other : chain.Layer) → ((s : ℕ) → is_among first count s ≡ false → one s ≡ other s) → (s : ℕ) → with_bytes z first count bytes one s ≡ with_bytes z first count bytes other s
bytes_all z first count bytes one other same s = by_name (is_among first count s) (same s)
  where
    by_name : (b : Bool) → (b ≡ false → one s ≡ other s) → (if b then Some (bytes_at bytes (z * (s - first)) z) else one s) ≡ (if b then Some (bytes_at bytes (z * (s - first)) z) else other s)
    by_name true f = refl
    by_name false f = f refl

pub zeros_all : (z first count : ℕ) (one other : chain.Layer) → ((s : ℕ) → is_among first count s ≡ false → one s ≡ other s) → (s : ℕ) → with_zeros z first count one s ≡ with_zeros z first count other s
zeros_all z first count one other same s = by_name (is_among first count s) (same s)
  where
    by_name : (b : Bool) → (b ≡ false → one s ≡ other s) → (if b then Some (zeros z) else one s) ≡ (if b then Some (zeros z) else other s)
    by_name true f = refl
    by_name false f = f refl

-- ---- the block is ready

module _ (l mid : Layer) (old behind new : Disk) (first count place : ℕ) (made : WhereBothTold (IsMade l mid first count place) old.told behind.told) (parts : mid.tables.parts ≡ l.tables.parts) (same_log : (mid.log.number ≡ l.log.number) × (mid.log.header ≡ l.log.header))
    (counts : behind ≡ record old { told = behind.told }) where
  moves : WhereBothTold (Moves l mid first count) old.told behind.told
  moves = both_map (IsMade l mid first count place) (Moves l mid first count) old.told behind.told made (λ t u a b m. made_moves l mid first count place t u m)

  pub run_moments : WhereBothTold (KeepsOver l) old.told behind.told → WhereBothTold (PutsInto mid first count) behind.told new.told → WhereBothTold (PutsInto l first count) old.told new.told
  run_moments keeps puts =
      puts_after l mid first count first count first count (part_outside first count first count (omega arith) (omega arith)) (part_outside first count first count (omega arith) (omega arith)) old.told behind.told new.told
      (keeps_puts l first count old.told behind.told keeps) moves puts

  pub run_done : (f : ℕ → chain.Layer → chain.Layer) → ((z : ℕ) (one other : chain.Layer) → ((s : ℕ) → is_among first count s ≡ false → one s ≡ other s) → (s : ℕ) → f z one s ≡ f z other s)
      → IsDone mid mid first count (f mid.tables.parts.sector) behind new → IsDone l mid first count (f l.tables.parts.sector) old new
  run_done f all done =
      let z : mid.tables.parts.sector ≡ l.tables.parts.sector = ap (λ (p : TableParts). p.sector) parts in
      record {
        put = put_made l mid mid first count (f l.tables.parts.sector) (all l.tables.parts.sector) old.told behind.told new.told moves (subst (λ n. WhereBothTold (HasPut mid mid first count (f n)) behind.told new.told) z done.put);
        ready = done.ready;
        counts = done.counts ∙ ap (λ (d : Disk). (let x : Disk = record d { told = new.told } in x)) counts;
        parts = parts;
        number = same_log.0;
        header = same_log.1;
      }

  pub run_others : WhereBothTold (KeepsOthers l mid first) old.told behind.told → WhereBothTold (KeepsEntries mid mid) behind.told new.told → WhereBothTold (KeepsOthers l mid first) old.told new.told
  run_others others same = both_then (KeepsOthers l mid first) (KeepsEntries mid mid) (KeepsOthers l mid first) old.told behind.told new.told others same (λ t u v a b k e. others_entries l mid mid first t u v parts k e)

  pub run_broken : (fault : LayerFault) → IsBroken mid mid first count behind new fault → IsBroken l mid first count old new fault
  run_broken fault br =
      broken_after l mid mid first count first count first count (part_outside first count first count (omega arith) (omega arith)) (part_outside first count first count (omega arith) (omega arith)) old behind new fault parts same_log counts moves br

-- ---- it has no place

step_never : (marked parent : Bool) (word : ℕ) → (step_by false marked parent word ≡ Drop) ⊎ (step_by false marked parent word ≡ Leave) → ⊥
step_never marked parent word h = by_tests (state_of word == 7) marked (state_of word == 0) parent (state_of word == 6) h
  where
    by_tests : (a b c d e : Bool) → ((if a then (if b then Write else Mark) else (if c && d then MakePart else (if e then Write else Make))) ≡ Drop) ⊎ ((if a then (if b then Write else Mark) else (if c && d then MakePart else (if e then Write else Make))) ≡ Leave) → ⊥
    by_tests true true c d e (inl x) = cc
    by_tests true true c d e (inr x) = cc
    by_tests true false c d e (inl x) = cc
    by_tests true false c d e (inr x) = cc
    by_tests false b true true e (inl x) = cc
    by_tests false b true true e (inr x) = cc
    by_tests false b true false true (inl x) = cc
    by_tests false b true false true (inr x) = cc
    by_tests false b true false false (inl x) = cc
    by_tests false b true false false (inr x) = cc
    by_tests false b false d true (inl x) = cc
    by_tests false b false d true (inr x) = cc
    by_tests false b false d false (inl x) = cc
    by_tests false b false d false (inr x) = cc

-- a call that doesn't trim leaves no block without a place
pub never_trimmed : (l : Layer) (old : Disk) (plan : Plan) (first count : ℕ) → WhereTold old.told (λ t. IsToDo (table_words.shape_of l.tables.parts) (held_by l t) false first count plan) → IsTrimming plan.step → WhereTold old.told (λ t. ⊥)
never_trimmed l old plan first count todo trimmed t told = by_step trimmed
  where
    by_step : (plan.step ≡ Drop) ⊎ (plan.step ≡ Leave) → ⊥
    by_step x = by_says x (todo t told)
      where
        by_says : (plan.step ≡ Drop) ⊎ (plan.step ≡ Leave) → IsToDo (table_words.shape_of l.tables.parts) (held_by l t) false first count plan → ⊥
        by_says (inl e) d = step_never (are_marked (table_words.shape_of l.tables.parts) (held_by l t) first count) l.tables.parts.parent (table_entry (table_words.shape_of l.tables.parts) (held_by l t) (entry_of (table_words.shape_of l.tables.parts) first)) (inl (sym d.step ∙ e))
        by_says (inr e) d = step_never (are_marked (table_words.shape_of l.tables.parts) (held_by l t) first count) l.tables.parts.parent (table_entry (table_words.shape_of l.tables.parts) (held_by l t) (entry_of (table_words.shape_of l.tables.parts) first)) (inr (sym d.step ∙ e))

pub none_put : (l mid : Layer) (first count : ℕ) (f g : chain.Layer → chain.Layer) (a b : Option Trace) → WhereTold a (λ t. ⊥) → WhereBothTold (HasPut l mid first count f) a b → WhereBothTold (HasPut l mid first count g) a b
none_put l mid first count f g a b never put = both_map (HasPut l mid first count f) (HasPut l mid first count g) a b put (λ t u told then_ h. absurd (never t told))

-- ---- bytes and sectors

-- so many bytes are so many sectors, by the sizes of either
pub sectors_of : (l mid : Layer) (count : ℕ) (bytes : List ℕ) → mid.tables.parts ≡ l.tables.parts → IsSectorSize l.tables.parts.sector → length bytes ≡ l.tables.parts.sector * count → sectors_in mid bytes ≡ count
sectors_of l mid count bytes parts size whole =
    let some : 0 < l.tables.parts.sector = let m = sector_least l.tables.parts.sector size in omega (arith, m) in
    ap (λ (p : TableParts). length bytes / p.sector) parts ∙ ap (λ n. n / l.tables.parts.sector) (whole ∙ mul_comm l.tables.parts.sector count) ∙ mul-div_cancel count some

pub whole_in : (l mid : Layer) (count : ℕ) (bytes : List ℕ) → mid.tables.parts ≡ l.tables.parts → IsSectorSize l.tables.parts.sector → length bytes ≡ l.tables.parts.sector * count → length bytes ≡ mid.tables.parts.sector * sectors_in mid bytes
whole_in l mid count bytes parts size whole =
    whole ∙ ap (λ (p : TableParts). p.sector * count) (sym parts) ∙ ap (λ n. mid.tables.parts.sector * n) (sym (sectors_of l mid count bytes parts size whole))

-- where they stand
pub stands_in : (l mid : Layer) (first count place : ℕ) (a b : Option Trace) → WhereBothTold (IsMade l mid first count place) a b → WhereTold b (λ t. StandFrom mid first count place t)
stands_in l mid first count place a b made = both_end (IsMade l mid first count place) (λ t. StandFrom mid first count place t) a b made (λ t u m. m.stand)
