-- What the slots of a list of events hold, and what an exchange in one of them leaves.
use Rattle.std.proofs.Common.{◌≡◌, ◌≢◌, ◌<◌, ◌==◌, ℕ, zero, suc, Bool, true, false, List, [], ◌∷◌, All, Option, Some, None, refl, sym, ap, subst, ◌∙◌}
use Rattle.std.specs.Prelude.{⊤, if◌then◌else◌, slice_get, slice_set}
use Rattle.std.proofs.lemmas.Bool.{eq-eqb, eqb-true}
use Rattle.std.proofs.lemmas.List.Elements.{All-get_or}
use Rattle.std.proofs.lemmas.Option.{get_or_from_slice_get, same_Some, slice_get_within}
use Rattle.vx_base.specs.declared.parts.Geometry.{Geometry}
use Rattle.chain_model.specs.Merges as merges
use Rattle.chain_model.specs.Stripes.{stripe_count}
use Rattle.merge_core.specs.Pieces.{piece_of}
use Rattle.merge_core.specs.declared.piece.Piece.{Piece}
use Rattle.chain_core.specs.Copying.{IsOfStripe}
use Rattle.chain_core.specs.Merging.{IsTrueOf, IsTruePiece, put_on, with_put}
use Rattle.chain_core.specs.States.{Rest, State, merging, plain, retiring, sector_of}
use Rattle.script_session.specs.Histories.{HoldsWaiting, Waiting}
use Rattle.event_list.specs.Answered.{Exchanges}
use Rattle.event_list.specs.Histories.{Stage, emptied, no_merge, under_way, with_slot}

-- ---- an element of a list is another

get_same : {X : Type 0} (xs : List X) (i : ℕ) (x y : X) → slice_get xs i ≡ Some x → slice_get (slice_set xs i y) i ≡ Some y
get_same {X} [] i x y h = let bad : ◌≡◌ {A = Option X} None (Some x) = h in absurd (cc)
get_same (a ∷ xs) zero x y h = refl
get_same (a ∷ xs) (suc i) x y h = get_same xs i x y h

get_other : {X : Type 0} (xs : List X) (i n : ℕ) (y : X) → n ≢ i → slice_get (slice_set xs i y) n ≡ slice_get xs n
get_other [] i n y apart = refl
get_other (a ∷ xs) zero zero y apart = absurd (apart refl)
get_other (a ∷ xs) zero (suc n) y apart = refl
get_other (a ∷ xs) (suc i) zero y apart = refl
get_other (a ∷ xs) (suc i) (suc n) y apart = get_other xs i n y (λ e. apart (ap suc e))

pub all_get : {X : Type 0} (P : X → Type 0) (xs : List X) (i : ℕ) (x : X) → All P xs → slice_get xs i ≡ Some x → P x
all_get P xs i x all h = subst P (get_or_from_slice_get xs i x x h) (All-get_or P xs i x (slice_get_within xs i x h) all)

-- ---- what waits in the slots

-- each slot has the piece that waits there, if one does
abbrev pub HoldsAll : State → Geometry → List Piece → (ℕ → Option Waiting) → Type 0
HoldsAll v g pieces waits = (slot : ℕ) (piece : Piece) → slice_get pieces slot ≡ Some piece → HoldsWaiting v g piece (waits slot)

abbrev pub HoldsEach : State → Geometry → List Piece → Stage → Type 0
HoldsEach v g pieces no_merge = ⊤
HoldsEach v g pieces (under_way l copied waits) = HoldsAll v g pieces waits

-- in another state, of which what was true of the first is true too
pub waits_still : (v state : State) (g h : Geometry) → h ≡ g → ((p : merges.Piece) → IsTruePiece v p → IsTruePiece state p) → (piece : Piece) (o : Option Waiting) → HoldsWaiting v g piece o → HoldsWaiting state h piece o
waits_still v state g h same more piece None is = is
waits_still v state g h same more piece (Some w) is = record {
  there = subst (λ (k : Geometry). w.stripe < stripe_count k.sector k.sectors) (sym same) is.there;
  taken = subst (λ k. IsOfStripe k w.stripe w.stamp piece) (sym same) is.taken;
  is_true = more (piece_of piece) is.is_true;
}

pub holds_exchanged : (v state : State) (g h : Geometry) (slot : ℕ) (was now : Piece) (pieces left : List Piece) (w : Option Waiting) (waits : ℕ → Option Waiting) → Exchanges slot was now pieces left → HoldsWaiting state h now w
    → ((piece : Piece) (o : Option Waiting) → HoldsWaiting v g piece o → HoldsWaiting state h piece o) → HoldsAll v g pieces waits → HoldsAll state h left (with_slot slot w waits)
holds_exchanged v state g h slot was now pieces left w waits x held move all n piece is = by_test (n == slot) refl
  where
    at : slice_get (slice_set pieces slot now) n ≡ Some piece
    at = ap (λ ps. slice_get ps n) (sym x.only) ∙ is

    by_test : (b : Bool) → (n == slot) ≡ b → HoldsWaiting state h piece (if b then w else waits n)
    by_test true e =
        let here : slot ≡ n = sym (eqb-true n slot e) in
        let same : now ≡ piece = same_Some now piece (sym (get_same pieces slot was now x.there) ∙ ap (slice_get (slice_set pieces slot now)) here ∙ at) in
        subst (λ q. HoldsWaiting state h q w) same held
    by_test false e =
        let apart : n ≢ slot = λ same. let bad : true ≡ false = sym (eq-eqb n slot same) ∙ e in cc in
        move piece (waits n) (all n piece (sym (get_other pieces slot n now apart) ∙ at))

-- a slot is emptied
pub holds_emptied : (v : State) (g : Geometry) (slot : ℕ) (was now : Piece) (pieces left : List Piece) (stage : Stage) → Exchanges slot was now pieces left → now.filled ≡ false → HoldsEach v g pieces stage → HoldsEach v g left (emptied slot stage)
holds_emptied v g slot was now pieces left no_merge x empty all = tt
holds_emptied v g slot was now pieces left (under_way l copied waits) x empty all = holds_exchanged v v g g slot was now pieces left None waits x empty (λ piece o is. is) all

-- ---- what is true of the source stays so when a piece is put

pub true_put : (q : merges.Piece) (v : State) (p : merges.Piece) → IsTruePiece v p → IsTruePiece (with_put q v) p
true_put q v p = by_rest v.rest
  where
    by_rest : (rest : Rest) → IsTrueOf (sector_of v) v.history rest p → IsTrueOf (sector_of v) v.history (put_on q rest) p
    by_rest (plain others) is = tt
    by_rest (merging above source target below m) is = is
    by_rest (retiring target below first before) is = is
