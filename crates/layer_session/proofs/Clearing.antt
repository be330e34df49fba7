-- A part of an unused place is made zeros, piece by piece.
use Rattle.std.proofs.Common.{◌≡◌, ℕ, ◌+◌, ◌-◌, ◌^◌, ◌<◌, ◌≤◌, ◌⊎◌, List, length, take, min, get_or, Option, Some, None, refl, sym, ap, subst, ◌∙◌, arith, inl, inr}
use Rattle.std.proofs.lemmas.Bool.{cases_lt}
use Rattle.std.proofs.lemmas.List.{get_or-take, length-take-le}
use Rattle.vx_base.specs.Fields.{zeros}
use Rattle.vx_base.specs.declared.parts.Parts.{Parts}
use Rattle.vhdx_format.specs.Fields.{megabyte}
use Rattle.vhdx_format.specs.HeldBlocks.{Area}
use Rattle.store_model.specs.Bytes.{Torn}
use Rattle.store_model.specs.Disk.{Disk, LeavesTorn, WhereBothTold, WhereTold, WriteFailed, changed, nothing, torn}
use Rattle.store_model.specs.File.{File, IsFileImage, Op, Tear, Write, seen, with_op}
use Rattle.store_model.specs.Trace.{Trace, file_of, with_change}
use Rattle.store_model.proofs.Spans.{EachMoment-now, file_of-with_change}
use Rattle.table_pages.specs.Held.{held}
use Rattle.chain_model.specs.Images.{Placed}
use Rattle.chain_model.specs.Moments.{HasWholeImages, IsPhase}
use Rattle.chain_model.specs.Sessions.{ShowsFile}
use Rattle.layer_session.specs.declared.file.Layer.{Layer}
use Rattle.layer_session.specs.Calls.{own_bytes}
use Rattle.layer_session.specs.Keeping.{IsHeld, IsReadable, Serves}
use Rattle.layer_session.specs.Steps.{held_by}
use Rattle.layer_session.specs.Taking.{ClearsOver, HasCleared, HasUnused, HoldsBeside, IsCleared, IsPartOf}
use Rattle.layer_session.proofs.Allocating.{taken_shows}
use Rattle.layer_session.proofs.Cleared.{cleared_in, cleared_out, cleared_serves, cleared_unused, file_new, held_len, part_committed, part_held, part_placed}
use Rattle.layer_session.proofs.Crashes.{layers_are_kept}
use Rattle.layer_session.proofs.Ending.{phases_join}
use Rattle.layer_session.proofs.Placing.{zero_at, zeros_len}
use Rattle.layer_session.proofs.SameEntries.{held_here}
use Rattle.layer_session.proofs.WriteSteps.{phase_of}
use Rattle.layer_session.proofs.Told.{both_and, both_changed, both_then, told_from, told_on}
use Rattle.store_model.specs.declared.fault.StoreFault.{StoreFault}

-- nothing is done
pub clears_now : (l : Layer) (place count : ℕ) (t : Trace) → ClearsOver l place count t t
clears_now l place count t = record {
  over = λ file range h part.
      EachMoment-now (HasWholeImages file.number (ShowsFile file) t) t (record { images = λ image here clean. (layers_are_kept l t file h.serves).shows image here clean; others = λ o ne. refl });
}

pub clears_none : (l : Layer) (place count : ℕ) (o : Option Trace) → WhereBothTold (ClearsOver l place count) o o
clears_none l place count None = tt
clears_none l place count (Some t) = clears_now l place count t

-- ---- one piece

module _ (l : Layer) (place : ℕ) (bytes : List ℕ) (some : 0 < length bytes) where
  module _ (t : Trace) (file : Placed) (range : Area) (h : HasUnused l t range file) (part : IsPartOf range place (length bytes)) where
    -- whatever it leaves, and whether it succeeds or fails
    pub piece_over : (op : Op) → ((image : List ℕ) → IsFileImage (with_op op (file_of t file.number)) image → IsFileImage (with_op (Write place bytes) (file_of t file.number)) image)
        → IsPhase file.number (ShowsFile file) t (with_change file.number op t)
    piece_over op no_more =
        phase_of file.number (ShowsFile file) t op (λ image here clean. (layers_are_kept l t file h.serves).shows image here clean)
        (λ image here clean.
        taken_shows l t file h.serves place bytes (part_placed l t file h.serves range h.unused place bytes some part.low part.high) (part_committed l t file h.serves range h.unused place bytes some part.low part.high)
        (part_held l t file h.serves range h.unused place bytes some part.low part.high) image
        (subst (λ (f : File). IsFileImage f image) (sym (file_of-with_change file.number (Write place bytes) t)) (no_more image (subst (λ (f : File). IsFileImage f image) (file_of-with_change file.number op t) here))))

    pub piece_unused : HasUnused l (with_change file.number (Write place bytes) t) range file
    piece_unused = record { serves = cleared_serves l t file h.serves range h.unused place bytes some part.low part.high; unused = cleared_unused l t file h.serves range h.unused place bytes some part.low part.high }

    new_here : held l.tables.pending (seen (file_of (with_change file.number (Write place bytes) t) file.number)) ≡ held_by l (with_change file.number (Write place bytes) t)
    new_here = held_here l (with_change file.number (Write place bytes) t) file piece_unused.serves

    old_here : held l.tables.pending (seen (file_of t file.number)) ≡ held_by l t
    old_here = held_here l t file h.serves

    pub piece_held : ((i : ℕ) → i < length bytes → get_or bytes i 0 ≡ 0) → IsCleared place (length bytes) (held_by l t) (held_by l (with_change file.number (Write place bytes) t))
    piece_held all_zeros = record {
      as_long = ap length (sym new_here) ∙ ap (λ z. length (held l.tables.pending z)) (file_new l t file h.serves range h.unused place bytes some part.low part.high) ∙ held_len l t file h.serves range h.unused place bytes some part.low part.high ∙ ap length old_here;
      clear = λ i a b. ap (λ z. get_or z i 0) (sym new_here) ∙ cleared_in l t file h.serves range h.unused place bytes some part.low part.high i a b ∙ all_zeros (i - place) (omega (arith, a, b));
      others = λ i side. ap (λ z. get_or z i 0) (sym new_here) ∙ cleared_out l t file h.serves range h.unused place bytes some part.low part.high i side ∙ ap (λ z. get_or z i 0) old_here;
    }

  -- ---- of a store

  module _ (count : ℕ) (fits : length bytes ≤ count) (old new : Disk) (n : ℕ) (one_file : n ≡ l.tables.parts.file) where
    number : (t : Trace) (file : Placed) (range : Area) → HasUnused l t range file → file.number ≡ n
    number t file range h = h.serves.number ∙ sym one_file

    first_part : (range : Area) → IsPartOf range place count → IsPartOf range place (length bytes)
    first_part range part = let a = part.high in record { low = part.low; high = omega (arith, a, fits) }

    one_over : (t : Trace) (op : Op) → ((file : Placed) (image : List ℕ) → IsFileImage (with_op op (file_of t file.number)) image → IsFileImage (with_op (Write place bytes) (file_of t file.number)) image)
        → ClearsOver l place count t (with_change n op t)
    one_over t op no_more = record {
      over = λ file range h part. subst (λ k. IsPhase file.number (ShowsFile file) t (with_change k op t)) (number t file range h) (piece_over t file range h (first_part range part) op (no_more file));
    }

    pub piece_ok : new ≡ changed n (Write place bytes) old → WhereBothTold (ClearsOver l place count) old.told new.told
    piece_ok ok = subst (λ (d : Disk). WhereBothTold (ClearsOver l place count) old.told d.told) (sym ok) (both_changed (ClearsOver l place count) n (Write place bytes) old.told (λ t told. one_over t (Write place bytes) (λ file image here. here)))

    over_left : (a b : Option Trace) → LeavesTorn n place bytes a b → WhereBothTold (ClearsOver l place count) a b
    over_left a _ nothing = clears_none l place count a
    over_left a _ (torn b long are) =
        both_changed (ClearsOver l place count) n (Tear place bytes b) a (λ t told. one_over t (Tear place bytes b) (λ file image here. (here.0, here.1, subst (λ k. Torn place k here.0 image) long here.2)))

    pub piece_err : (fault : StoreFault) → WriteFailed n place bytes old new fault → WhereBothTold (ClearsOver l place count) old.told new.told
    piece_err fault err = over_left old.told new.told err.left

    one_cleared : ((i : ℕ) → i < length bytes → get_or bytes i 0 ≡ 0) → (t : Trace) → HasCleared l place (length bytes) t (with_change n (Write place bytes) t)
    one_cleared all_zeros t = record {
      unused = λ file range h part. subst (λ k. HasUnused l (with_change k (Write place bytes) t) range file) (number t file range h) (piece_unused t file range h part);
      held = λ file range h part. subst (λ k. IsCleared place (length bytes) (held_by l t) (held_by l (with_change k (Write place bytes) t))) (number t file range h) (piece_held t file range h part all_zeros);
    }

    pub piece_cleared : ((i : ℕ) → i < length bytes → get_or bytes i 0 ≡ 0) → new ≡ changed n (Write place bytes) old → WhereBothTold (HasCleared l place (length bytes)) old.told new.told
    piece_cleared all_zeros ok =
        subst (λ (d : Disk). WhereBothTold (HasCleared l place (length bytes)) old.told d.told) (sym ok) (both_changed (HasCleared l place (length bytes)) n (Write place bytes) old.told (λ t told. one_cleared all_zeros t))

    abbrev Holds : Placed → Trace → Type 0
    Holds file u = (parts : Parts) × IsHeld l parts file.member.layer (own_bytes l u)

    -- whatever a write that failed left there
    one_held : (t : Trace) (left : List ℕ) → length left ≡ length bytes → HoldsBeside l place count t (with_change n (Tear place bytes left) t)
    one_held t left long = record {
      holds = λ file range h part. subst (λ k. Holds file (with_change k (Tear place bytes left) t)) (number t file range h) (holds file range h (first_part range part));
    }
      where
        holds : (file : Placed) (range : Area) → HasUnused l t range file → IsPartOf range place (length bytes) → Holds file (with_change file.number (Tear place bytes left) t)
        holds file range h part =
            let then : Serves l (with_change file.number (Write place left) t) file =
            cleared_serves l t file h.serves range h.unused place left (omega (arith, long, some)) part.low (let a = part.high in omega (arith, a, long)) in
            let same : seen (file_of (with_change file.number (Write place left) t) file.number) ≡ seen (file_of (with_change file.number (Tear place bytes left) t) file.number) =
            ap seen (file_of-with_change file.number (Write place left) t) ∙ sym (ap seen (file_of-with_change file.number (Tear place bytes left) t)) in
            (then.parts, subst (λ k. IsHeld l then.parts file.member.layer (seen (file_of (with_change file.number (Tear place bytes left) t) k))) then.number (subst (IsHeld l then.parts file.member.layer) same then.as_held))

    held_left : (a b : Option Trace) → LeavesTorn n place bytes a b → WhereBothTold (HoldsBeside l place count) a b
    held_left None _ nothing = tt
    held_left (Some t) _ nothing = record { holds = λ file range h part. (h.serves.parts, subst (λ k. IsHeld l h.serves.parts file.member.layer (seen (file_of t k))) h.serves.number h.serves.as_held) }
    held_left a _ (torn left long are) = both_changed (HoldsBeside l place count) n (Tear place bytes left) a (λ t told. one_held t left long)

    pub piece_broken : (fault : StoreFault) → IsReadable l old → WhereTold old.told (λ t. (range : Area) × ((file : Placed) × (HasUnused l t range file × IsPartOf range place count))) → WriteFailed n place bytes old new fault
        → IsReadable l new × WhereBothTold (HoldsBeside l place count) old.told new.told
    piece_broken fault readable unused err =
        let holds = held_left old.told new.told err.left in (
          record {
            there = subst (λ k. l.tables.parts.file < k) (sym (ap (λ (d : Disk). d.files) err.stays)) readable.there;
            sizes = readable.sizes;
            told = told_on (HoldsBeside l place count) _ _ old.told new.told unused holds (λ t u r p. let h = r.holds p.1.0 p.0 p.1.1.0 p.1.1.1 in (h.0, (p.1.0.member.layer, h.1)));
          },
          holds,
        )

-- ---- the rest behind it

module _ (l : Layer) (place len count next : ℕ) (fits : len ≤ count) (a b c : Option Trace) (next_is : WhereTold a (λ t. next ≡ place + len)) where
  first_of : (range : Area) → IsPartOf range place count → IsPartOf range place len
  first_of range part = let x = part.high in record { low = part.low; high = omega (arith, x, fits) }

  rest_of : (range : Area) → next ≡ place + len → IsPartOf range place count → IsPartOf range next (count - len)
  rest_of range e part = let x = part.low in let y = part.high in record { low = omega (arith, x, e); high = omega (arith, y, e, fits) }

  pub clears_join : WhereBothTold (ClearsOver l place count) a b → WhereBothTold (HasCleared l place len) a b → WhereBothTold (ClearsOver l next (count - len)) b c → WhereBothTold (ClearsOver l place count) a c
  clears_join over cleared rest =
      both_then (λ t u. ClearsOver l place count t u × HasCleared l place len t u) (ClearsOver l next (count - len)) (ClearsOver l place count) a b c (both_and (ClearsOver l place count) (HasCleared l place len) a b over cleared) rest
      (λ t u v told then r s. record {
        over = λ file range h part. phases_join file.number (ShowsFile file) t u v (r.0.over file range h part) (s.over file range (r.1.unused file range h (first_of range part)) (rest_of range (next_is t told) part));
      })

  pub cleared_join : WhereBothTold (HasCleared l place len) a b → WhereBothTold (HasCleared l next (count - len)) b c → WhereBothTold (HasCleared l place count) a c
  cleared_join first rest =
      both_then (HasCleared l place len) (HasCleared l next (count - len)) (HasCleared l place count) a b c first rest
      (λ t u v told then r s. record {
        unused = λ file range h part. s.unused file range (r.unused file range h (first_of range part)) (rest_of range (next_is t told) part);
        held = λ file range h part. both_cleared t u v (next_is t told) (r.held file range h (first_of range part)) (s.held file range (r.unused file range h (first_of range part)) (rest_of range (next_is t told) part));
      })
    where
      both_cleared : (t u v : Trace) → next ≡ place + len → IsCleared place len (held_by l t) (held_by l u) → IsCleared next (count - len) (held_by l u) (held_by l v) → IsCleared place count (held_by l t) (held_by l v)
      both_cleared t u v e x y = record {
        as_long = y.as_long ∙ x.as_long;
        clear = λ i from to. by_place i from to (cases_lt i next);
        others = λ i side. y.others i (rest_side i side) ∙ x.others i (first_side i side);
      }
        where
          by_place : (i : ℕ) → place ≤ i → i < place + count → (i < next) ⊎ (next ≤ i) → get_or (held_by l v) i 0 ≡ 0
          by_place i from to (inl low) = y.others i (inl low) ∙ x.clear i from (omega (arith, low, e))
          by_place i from to (inr high) = y.clear i high (omega (arith, to, e, fits))

          rest_side : (i : ℕ) → (i < place) ⊎ (place + count ≤ i) → (i < next) ⊎ (next + (count - len) ≤ i)
          rest_side i (inl k) = inl (omega (arith, k, e))
          rest_side i (inr k) = inr (omega (arith, k, e, fits))

          first_side : (i : ℕ) → (i < place) ⊎ (place + count ≤ i) → (i < place) ⊎ (place + len ≤ i)
          first_side i (inl k) = inl k
          first_side i (inr k) = inr (omega (arith, k, fits))

  pub broken_join : WhereBothTold (HasCleared l place len) a b → WhereBothTold (HoldsBeside l next (count - len)) b c → WhereBothTold (HoldsBeside l place count) a c
  broken_join first rest =
      both_then (HasCleared l place len) (HoldsBeside l next (count - len)) (HoldsBeside l place count) a b c first rest
      (λ t u v told then r s. record { holds = λ file range h part. s.holds file range (r.unused file range h (first_of range part)) (rest_of range (next_is t told) part) })

  -- what the rest asks for
  pub rest_unused : WhereTold a (λ t. (range : Area) × ((file : Placed) × (HasUnused l t range file × IsPartOf range place count))) → WhereBothTold (HasCleared l place len) a b
      → WhereTold b (λ t. (range : Area) × ((file : Placed) × (HasUnused l t range file × IsPartOf range next (count - len))))
  rest_unused unused cleared = told_from (HasCleared l place len) _ _ a b unused cleared (λ t u told r p. (p.0, (p.1.0, (r.unused p.1.0 p.0 p.1.1.0 (first_of p.0 p.1.1.1), rest_of p.0 (next_is t told) p.1.1.1))))

-- where the place goes on, no number is too large
pub goes_on : (l : Layer) (place len count : ℕ) (o : Option Trace) → len ≤ count → WhereTold o (λ t. (range : Area) × ((file : Placed) × (HasUnused l t range file × IsPartOf range place count))) → WhereTold o (λ t. place + len < 2 ^ 64)
goes_on l place len count o fits unused t told =
    let p = unused t told in
    let a = p.1.1.1.high in
    let b = p.1.1.0.unused.placed.within in
    let c = p.1.1.0.serves.as_held.most in
    omega (arith, a, b, c, fits)

-- zeros, as many as there are at hand
pub some_zeros : (m k : ℕ) → k ≤ m → (length (take k (zeros m)) ≡ k) × ((i : ℕ) → i < k → get_or (take k (zeros m)) i 0 ≡ 0)
unfolding zeros
some_zeros m k l = (length-take-le k (zeros m) (let e : length (zeros m) ≡ m = zeros_len m in omega (arith, l, e)), λ i b. get_or-take k (zeros m) i 0 b ∙ zero_at m i (omega (arith, b, l)))

pub piece_readable : (l : Layer) (old new : Disk) (place len count : ℕ) → len ≤ count → IsReadable l old → new.files ≡ old.files
    → WhereTold old.told (λ t. (range : Area) × ((file : Placed) × (HasUnused l t range file × IsPartOf range place count))) → WhereBothTold (HasCleared l place len) old.told new.told → IsReadable l new
piece_readable l old new place len count fits readable files unused cleared = record {
  there = subst (λ k. l.tables.parts.file < k) (sym files) readable.there;
  sizes = readable.sizes;
  told = told_on (HasCleared l place len) _ _ old.told new.told unused cleared (λ t u r p.
      let s = (r.unused p.1.0 p.0 p.1.1.0 (let x = p.1.1.1.high in record { low = p.1.1.1.low; high = omega (arith, x, fits) })).serves in
      (s.parts, (p.1.0.member.layer, subst (λ k. IsHeld l s.parts p.1.0.member.layer (seen (file_of u k))) s.number s.as_held)));
}

-- the same of what is at hand
pub taken_zeros : (k : ℕ) (hand : List ℕ) → hand ≡ zeros megabyte → k ≤ megabyte → (length (take k hand) ≡ k) × ((i : ℕ) → i < k → get_or (take k hand) i 0 ≡ 0)
taken_zeros k hand is l = subst (λ z. (length (take k z) ≡ k) × ((i : ℕ) → i < k → get_or (take k z) i 0 ≡ 0)) (sym is) (some_zeros megabyte k l)

-- the first piece is made zeros, and the rest begins behind it
pub record FirstPiece (l : Layer) (place len next : ℕ) (old new : Disk) : Type 0 where
  pub cleared : WhereBothTold (HasCleared l place len) old.told new.told
  pub next_is : WhereTold old.told (λ t. next ≡ place + len)

pub first_piece : (l : Layer) (place len count next : ℕ) (bytes : List ℕ) (old new : Disk) → l.log.file ≡ l.tables.parts.file → 0 < len → len ≤ count → (length bytes ≡ len) × ((i : ℕ) → i < len → get_or bytes i 0 ≡ 0)
    → WhereTold old.told (λ t. (range : Area) × ((file : Placed) × (HasUnused l t range file × IsPartOf range place count))) → next ≡ min (place + len) (2 ^ 64 - 1) → new ≡ changed l.log.file (Write place bytes) old → FirstPiece l place len next old new
first_piece l place len count next bytes old new one_file some fits long unused next_is ok = record {
  cleared = subst (λ n. WhereBothTold (HasCleared l place n) old.told new.told) long.0
      (piece_cleared l place bytes (omega (arith, long.0, some)) count (omega (arith, long.0, fits)) old new l.log.file one_file (λ i h. long.1 i (omega (arith, h, long.0))) ok);
  next_is = λ t told. let small = goes_on l place len count old.told fits unused t told in omega (arith, small, next_is);
}
