-- Bytes written over others, place by place.
use Rattle.std.proofs.Common.{◌≡◌, ℕ, ◌+◌, ◌-◌, ◌<◌, ◌≤◌, ◌⊎◌, List, [], ◌∷◌, ◌++◌, length, take, drop, get_or, sym, ◌∙◌, ap, inl, inr, arith, add-zero, length-append}
use Rattle.std.proofs.lemmas.Bool.{cases_lt}
use Rattle.std.proofs.lemmas.List.{ext_get_or, get_or-take, get_or-drop, get_or_append_left, get_or-append_right, length-take-le, append-nil, take-append-drop}
use Rattle.std.proofs.Math.Seq.{take-add, take-append_seam}
use Rattle.vx_base.proofs.ByteLists.{length-overwritten}
use Rattle.store_model.proofs.Parts.{length-part}
use Rattle.vhdx_format.proofs.TextLemmas.{over_behind}
use Rattle.vx_base.specs.Fields.{bytes_at, written_over}
use Rattle.meta_edit.specs.Steps.{Shows}

pub part_at : (f : List ℕ) (at n i : ℕ) → i < n → get_or (bytes_at f at n) i 0 ≡ get_or f (at + i) 0
unfolding bytes_at
part_at f at n i h = get_or-take n (drop at f) i 0 h ∙ get_or-drop at f i 0

length-front : (f : List ℕ) (at : ℕ) → at ≤ length f → length (take at f) ≡ at
length-front f at h = length-take-le at f h

pub over_in : (f b : List ℕ) (at i : ℕ) → at ≤ length f → at ≤ i → i < at + length b → get_or (written_over f at b) i 0 ≡ get_or b (i - at) 0
unfolding written_over
over_in f b at i w h l =
    get_or_append_left (take at f ++ b) (drop (at + length b) f) 0 i (omega (arith, length-append (take at f) b, length-front f at w))
    ∙ get_or-append_right (take at f) b at i 0 (length-front f at w) h

pub over_out : (f b : List ℕ) (at i : ℕ) → at ≤ length f → (i < at) ⊎ (at + length b ≤ i) → get_or (written_over f at b) i 0 ≡ get_or f i 0
unfolding written_over
over_out f b at i w (inl h) =
    get_or_append_left (take at f ++ b) (drop (at + length b) f) 0 i (omega (arith, length-append (take at f) b, length-front f at w))
    ∙ get_or_append_left (take at f) b 0 i (omega (arith, length-front f at w))
    ∙ get_or-take at f i 0 h
over_out f b at i w (inr h) =
    let behind : at + length b + (i - (at + length b)) ≡ i = omega arith in
    get_or-append_right (take at f ++ b) (drop (at + length b) f) (at + length b) i 0 (length-append (take at f) b ∙ ap (λ n. n + length b) (length-front f at w)) h
    ∙ get_or-drop (at + length b) f (i - (at + length b)) 0
    ∙ ap (λ j. get_or f j 0) behind

-- a place is in what is written, or it isn't
pub cases_in : (at n i : ℕ) → ((at ≤ i) × (i < at + n)) ⊎ ((i < at) ⊎ (at + n ≤ i))
cases_in at n i = by_first (cases_lt i at) (cases_lt i (at + n))
  where
    by_first : (i < at) ⊎ (at ≤ i) → (i < at + n) ⊎ (at + n ≤ i) → ((at ≤ i) × (i < at + n)) ⊎ ((i < at) ⊎ (at + n ≤ i))
    by_first (inl h) l = inr (inl h)
    by_first (inr h) (inl l) = inl (h, l)
    by_first (inr h) (inr l) = inr (inr l)

-- a part in which something is written
pub part-over_in : (f b : List ℕ) (at n p k : ℕ) → p ≡ at + k → k + length b ≤ n → at + n ≤ length f
    → bytes_at (written_over f p b) at n ≡ written_over (bytes_at f at n) k b
part-over_in f b at n p k e h w =
    ext_get_or 0 _ _ (l1 ∙ sym (length-overwritten (bytes_at f at n) b k (omega (arith, l2)) ∙ l2))
    (λ i lt. each i (omega (arith, lt, l1)) (cases_in k (length b) i))
  where
    l0 : length (written_over f p b) ≡ length f
    l0 = length-overwritten f b p (omega (arith, e))

    l1 : length (bytes_at (written_over f p b) at n) ≡ n
    l1 = length-part (written_over f p b) at n (omega (arith, l0))

    l2 : length (bytes_at f at n) ≡ n
    l2 = length-part f at n w

    each : (i : ℕ) → i < n → ((k ≤ i) × (i < k + length b)) ⊎ ((i < k) ⊎ (k + length b ≤ i))
        → get_or (bytes_at (written_over f p b) at n) i 0 ≡ get_or (written_over (bytes_at f at n) k b) i 0
    each i lt (inl c) =
        let same : at + i - p ≡ i - k = omega (arith, e, c.0) in
        part_at (written_over f p b) at n i lt
        ∙ over_in f b p (at + i) (omega (arith, e)) (omega (arith, e, c.0)) (omega (arith, e, c.1))
        ∙ ap (λ j. get_or b j 0) same
        ∙ sym (over_in (bytes_at f at n) b k i (omega (arith, l2)) c.0 c.1)
    each i lt (inr c) =
        part_at (written_over f p b) at n i lt
        ∙ over_out f b p (at + i) (omega (arith, e)) (moved i c)
        ∙ sym (part_at f at n i lt)
        ∙ sym (over_out (bytes_at f at n) b k i (omega (arith, l2)) c)
      where
        moved : (j : ℕ) → (j < k) ⊎ (k + length b ≤ j) → (at + j < p) ⊎ (p + length b ≤ at + j)
        moved j (inl a) = inl (omega (arith, a, e))
        moved j (inr a) = inr (omega (arith, a, e))

-- what is written into something that was written
pub over-over_in : (f r b : List ℕ) (at p k : ℕ) → p ≡ at + k → k + length b ≤ length r → at + length r ≤ length f
    → written_over (written_over f at r) p b ≡ written_over f at (written_over r k b)
over-over_in f r b at p k e h w =
    ext_get_or 0 _ _ (l1 ∙ sym l2) (λ i lt. each i (cases_in at (length r) i) (cases_in p (length b) i))
  where
    l0 : length (written_over f at r) ≡ length f
    l0 = length-overwritten f r at w

    l1 : length (written_over (written_over f at r) p b) ≡ length f
    l1 = length-overwritten (written_over f at r) b p (omega (arith, l0, e)) ∙ l0

    l3 : length (written_over r k b) ≡ length r
    l3 = length-overwritten r b k h

    l2 : length (written_over f at (written_over r k b)) ≡ length f
    l2 = length-overwritten f (written_over r k b) at (omega (arith, l3))

    moved : (i : ℕ) → at ≤ i → (i < p) ⊎ (p + length b ≤ i) → (i - at < k) ⊎ (k + length b ≤ i - at)
    moved i a (inl c) = inl (omega (arith, a, c, e))
    moved i a (inr c) = inr (omega (arith, a, c, e))

    apart : (i : ℕ) → (i < at) ⊎ (at + length r ≤ i) → (i < p) ⊎ (p + length b ≤ i)
    apart i (inl c) = inl (omega (arith, c, e))
    apart i (inr c) = inr (omega (arith, c, e))

    longer : (i : ℕ) → (i < at) ⊎ (at + length r ≤ i) → (i < at) ⊎ (at + length (written_over r k b) ≤ i)
    longer i (inl c) = inl c
    longer i (inr c) = inr (omega (arith, c, l3))

    each : (i : ℕ) → ((at ≤ i) × (i < at + length r)) ⊎ ((i < at) ⊎ (at + length r ≤ i)) → ((p ≤ i) × (i < p + length b)) ⊎ ((i < p) ⊎ (p + length b ≤ i))
        → get_or (written_over (written_over f at r) p b) i 0 ≡ get_or (written_over f at (written_over r k b)) i 0
    each i (inl a) (inl c) =
        let same : i - p ≡ i - at - k = omega (arith, e) in
        over_in (written_over f at r) b p i (omega (arith, l0, e)) c.0 c.1
        ∙ ap (λ j. get_or b j 0) same
        ∙ sym (over_in r b k (i - at) (omega (arith, h)) (omega (arith, a.0, c.0, e)) (omega (arith, a.0, c.1, e)))
        ∙ sym (over_in f (written_over r k b) at i (omega (arith, w)) a.0 (omega (arith, a.1, l3)))
    each i (inl a) (inr c) =
        over_out (written_over f at r) b p i (omega (arith, l0, e)) c
        ∙ over_in f r at i (omega (arith, w)) a.0 a.1
        ∙ sym (over_out r b k (i - at) (omega (arith, h)) (moved i a.0 c))
        ∙ sym (over_in f (written_over r k b) at i (omega (arith, w)) a.0 (omega (arith, a.1, l3)))
    each i (inr a) c =
        over_out (written_over f at r) b p i (omega (arith, l0, e)) (apart i a)
        ∙ over_out f r at i (omega (arith, w)) a
        ∙ sym (over_out f (written_over r k b) at i (omega (arith, w)) (longer i a))

-- two things written in places apart
pub over-over_apart : (f a b : List ℕ) (p q : ℕ) → (q + length b ≤ p) ⊎ (p + length a ≤ q) → p + length a ≤ length f → q + length b ≤ length f
    → written_over (written_over f p a) q b ≡ written_over (written_over f q b) p a
over-over_apart f a b p q h wa wb =
    ext_get_or 0 _ _ (l1 ∙ sym l2) (λ i lt. each i (cases_in p (length a) i) (cases_in q (length b) i))
  where
    la : length (written_over f p a) ≡ length f
    la = length-overwritten f a p wa

    lb : length (written_over f q b) ≡ length f
    lb = length-overwritten f b q wb

    l1 : length (written_over (written_over f p a) q b) ≡ length f
    l1 = length-overwritten (written_over f p a) b q (omega (arith, la, wb)) ∙ la

    l2 : length (written_over (written_over f q b) p a) ≡ length f
    l2 = length-overwritten (written_over f q b) a p (omega (arith, lb, wa)) ∙ lb

    none : (i : ℕ) → (q + length b ≤ p) ⊎ (p + length a ≤ q) → p ≤ i → i < p + length a → (i < q) ⊎ (q + length b ≤ i)
    none i (inl g) x y = inr (omega (arith, g, x))
    none i (inr g) x y = inl (omega (arith, g, y))

    each : (i : ℕ) → ((p ≤ i) × (i < p + length a)) ⊎ ((i < p) ⊎ (p + length a ≤ i)) → ((q ≤ i) × (i < q + length b)) ⊎ ((i < q) ⊎ (q + length b ≤ i))
        → get_or (written_over (written_over f p a) q b) i 0 ≡ get_or (written_over (written_over f q b) p a) i 0
    each i (inl x) y =
        let out : (i < q) ⊎ (q + length b ≤ i) = none i h x.0 x.1 in
        over_out (written_over f p a) b q i (omega (arith, la, wb)) out
        ∙ over_in f a p i (omega (arith, wa)) x.0 x.1
        ∙ sym (over_in (written_over f q b) a p i (omega (arith, lb, wa)) x.0 x.1)
    each i (inr x) (inl y) =
        over_in (written_over f p a) b q i (omega (arith, la, wb)) y.0 y.1
        ∙ sym (over_in f b q i (omega (arith, wb)) y.0 y.1)
        ∙ sym (over_out (written_over f q b) a p i (omega (arith, lb, wa)) x)
    each i (inr x) (inr y) =
        over_out (written_over f p a) b q i (omega (arith, la, wb)) y
        ∙ over_out f a p i (omega (arith, wa)) x
        ∙ sym (over_out f b q i (omega (arith, wb)) y)
        ∙ sym (over_out (written_over f q b) a p i (omega (arith, lb, wa)) x)

-- a part written over itself
pub over_itself : (f : List ℕ) (at n : ℕ) → at + n ≤ length f → written_over f at (bytes_at f at n) ≡ f
over_itself f at n w =
    ext_get_or 0 _ _ (length-overwritten f (bytes_at f at n) at (omega (arith, long))) (λ i lt. each i (cases_in at (length (bytes_at f at n)) i))
  where
    long : length (bytes_at f at n) ≡ n
    long = length-part f at n w

    each : (i : ℕ) → ((at ≤ i) × (i < at + length (bytes_at f at n))) ⊎ ((i < at) ⊎ (at + length (bytes_at f at n) ≤ i))
        → get_or (written_over f at (bytes_at f at n)) i 0 ≡ get_or f i 0
    each i (inl c) =
        let same : at + (i - at) ≡ i = omega (arith, c.0) in
        over_in f (bytes_at f at n) at i (omega (arith, w)) c.0 c.1 ∙ part_at f at n (i - at) (omega (arith, c.0, c.1, long)) ∙ ap (λ j. get_or f j 0) same
    each i (inr c) = over_out f (bytes_at f at n) at i (omega (arith, w)) c

-- what is written piece by piece
pub over_more : (f v : List ℕ) (at p d k : ℕ) (piece : List ℕ) → p ≡ at + d → d + k ≤ length v → piece ≡ take k (drop d v) → at + length v ≤ length f
    → written_over (written_over f at (take d v)) p piece ≡ written_over f at (take (d + k) v)
over_more f v at p d k piece e h is w =
    let front : length (take d v) ≡ d = length-take-le d v (omega (arith, h)) in
    let place : p ≡ at + length (take d v) = omega (arith, e, front) in
    ap (λ (z : List ℕ). written_over (written_over f at (take d v)) p z) is
    ∙ ap (λ (q : ℕ). written_over (written_over f at (take d v)) q (take k (drop d v))) place
    ∙ over_behind f (take d v) (take k (drop d v)) at (omega (arith, front, w, h))
    ∙ ap (written_over f at) (sym (take-add d k v))

-- nothing is written
over_nil : (f : List ℕ) (at : ℕ) → f ≡ take at f ++ [] ++ drop at f
over_nil f at = sym (ap (λ (z : List ℕ). z ++ drop at f) (append-nil (take at f)) ∙ take-append-drop at f)

pub over_nothing : (f : List ℕ) (at : ℕ) → f ≡ written_over f at []
unfolding written_over
over_nothing f at = rw add-zero (over_nil f at)

pub over_empty : (f b : List ℕ) (at : ℕ) → length b ≡ 0 → f ≡ written_over f at b
over_empty f [] at e = over_nothing f at
over_empty f (x ∷ xs) at e = absurd (omega (arith, e))

-- the file with this region
pub shows_first : (m n : ℕ) (f s : List ℕ) → m + n ≤ length f → s ≡ f → Shows m n f s (bytes_at f m n)
shows_first m n f s w e = record { is = e ∙ sym (over_itself f m n w); len = length-part f m n w }

pub shows_next : (m n : ℕ) (f s r t : List ℕ) (p o : ℕ) (b c : List ℕ) → m + n ≤ length f → Shows m n f s r → t ≡ written_over s p b
    → p ≡ m + o → b ≡ c → (0 < length c → o + length c ≤ n) → Shows m n f t (written_over r o c)
shows_next m n f s r t p o b [] w h e i j l =
    record {
      is = e ∙ ap (written_over s p) j ∙ sym (over_nothing s p) ∙ h.is ∙ ap (written_over f m) (over_nothing r o);
      len = sym (ap length (over_nothing r o)) ∙ h.len;
    }
shows_next m n f s r t p o b (x ∷ xs) w h e i j l =
    let fits : o + length (x ∷ xs) ≤ n = l (omega arith) in
    record {
      is = e ∙ ap (written_over s p) j ∙ ap (λ (z : List ℕ). written_over z p (x ∷ xs)) h.is
          ∙ over-over_in f r (x ∷ xs) m p o i (omega (arith, fits, h.len)) (omega (arith, w, h.len));
      len = length-overwritten r (x ∷ xs) o (omega (arith, fits, h.len)) ∙ h.len;
    }

-- what is written at the front
pub front_written : (old new : List ℕ) (n : ℕ) → n ≡ length new → take n (written_over old 0 new) ≡ new
unfolding written_over
front_written old new n e = rw e (take-append_seam new (drop (0 + length new) old))
