-- The end of a seat's turn.
use Rattle.std.proofs.Common.{◌≡◌, ℕ, ◌+◌, ◌-◌, ◌≤◌, List, [], ◌∷◌, length, refl, sym, ap, subst, ◌∙◌, arith, Some, None}
use Rattle.std.specs.Prelude.{Option}
use Rattle.atomic_table.specs.Table.{Me}
use Rattle.seats.specs.declared.Family.{Family}
use Rattle.turn_lock.specs.declared.rule.View.{View}
use Rattle.turn_lock.specs.declared.rule.Stage.TheVariants.{Idle, Served}
use Rattle.turn_lock.specs.Histories.{StartsWith}
use Rattle.turn_lock.specs.Seats.{IsSeated, Known, MayUnlock, TableId, Turn, after_turn, growth, turn_of}
use Rattle.turn_lock.specs.Steps.{after_value, places_after, with_stage}
use Rattle.turn_lock.proofs.Fronts.{starts-length}
use Rattle.turn_lock.proofs.Resting.{Turned, resting-turn}

module _ {V E G : Type 0} (history : V → List E) (basis : V → G) (contains : G → G → Type 0) (work : G → ℕ) where
  -- what is seen of a seat
  abbrev pub shown : TableId → Me (Option V) (View E G) → Family → Option ℕ → Known E G
  shown lock me family refused = record {
    lock = lock;
    seen = me.0.seen;
    mine = me.0.mine;
    known = me.0.known;
    basis = me.0.basis;
    turn = turn_of me.0.stage;
    refused = refused;
    family = family;
    first_ticket = me.0.first_ticket;
    drawn = me.0.drawn;
    refusals = me.0.refusals;
  }

  module _ (lock : TableId) (me : Me (Option V) (View E G)) (family : Family) (refused : Option ℕ) (count len : ℕ) (value : V) (k locked : Known E G) (now : List E) (g : G)
      (seated : IsSeated me family refused count) (is : shown lock me family refused ≡ k) (may : MayUnlock contains work k locked now g) (now_is : history value ≡ now) (g_is : basis value ≡ g) (len_is : len ≡ length (history value)) where
    has : turn_of me.0.stage ≡ Some may.turn
    has = ap (λ (k : Known E G). k.turn) is ∙ may.has_turn

    turned : Turned me.1 refused count me.0.stage may.turn
    turned = resting-turn me.1 refused count me.0.stage may.turn seated.resting has

    len_now : len ≡ length now
    len_now = len_is ∙ ap length now_is

    pub counts : count ≤ len
    counts = omega (arith, len_now, turned.counted, starts-length now may.turn.history may.history)

    pub served : ((t : ℕ) × (h : List E) × (f : G) × (me.0.stage ≡ Served t h f) × (length (history value) ≡ length h + (len - count)) × StartsWith (history value) h × contains (basis value) f × (work (basis value) ≤ work f + 2)) × (len - count ≤ 1) × (me.1 ≡ (0, None) ∷ [])
    served = (
      (
        may.turn.ticket,
        may.turn.history,
        may.turn.basis,
        turned.served,
        omega (arith, len_is, turned.counted, counts),
        subst (λ (xs : List E). StartsWith xs may.turn.history) (sym now_is) may.history,
        subst (λ (f : G). contains f may.turn.basis) (sym g_is) may.basis_kept,
        subst (λ (f : G). work f ≤ work may.turn.basis + 2) (sym g_is) may.little_work,
      ),
      omega (arith, len_now, turned.counted, may.one_entry),
      turned.slot,
    )

    module _ (new_lock : TableId) (new : Me (Option V) (View E G)) (same : new_lock ≡ lock) (given : new ≡ (with_stage (after_value history basis me.0 (len - count) (Some value)) Idle, [])) where
      pub still : IsSeated new family refused count
      still = subst (λ (m : Me (Option V) (View E G)). IsSeated m family refused count) (sym given) (record { resting = (refl, turned.not_refused); live = seated.live; family_same = seated.family_same; counted = seated.counted })

      grown : len - count ≡ growth (turn_of me.0.stage) (history value)
      grown = (let e : len - count ≡ length (history value) - length may.turn.history = omega (arith, len_is, turned.counted) in e) ∙ ap (λ (t : Option (Turn E G)). growth t (history value)) (sym has)

      pub ended : shown new_lock new family refused ≡ after_turn k now g
      ended =
          ap (λ (l : TableId). shown l new family refused) same ∙ ap (λ (m : Me (Option V) (View E G)). shown lock m family refused) given
          ∙ ap (λ n. record (after_turn (shown lock me family refused) (history value) (basis value)) { mine = places_after me.0.mine n (length (history value)) }) grown
          ∙ ap (λ (s : Known E G). after_turn s (history value) (basis value)) is ∙ ap (λ (xs : List E). after_turn k xs (basis value)) now_is ∙ ap (after_turn k now) g_is
