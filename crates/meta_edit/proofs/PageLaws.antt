-- Pages laid over a file, one after another.
use Rattle.std.proofs.Common.{◌≡◌, ℕ, suc, ◌+◌, ◌-◌, ◌%◌, ◌<◌, ◌≤◌, ◌⊎◌, ◌==◌, nat_le, Bool, true, false, cond, List, [], ◌∷◌, ◌++◌, length, drop, replicate, get_or, set, refl, sym, ◌∙◌, ap, inl, inr, arith}
use Rattle.std.specs.Prelude.{All}
use Rattle.std.proofs.lemmas.Bool.{cases_lt, cases_eq, eq-eqb, ne_eqb, le-leb, lt-leb, or_parts}
use Rattle.std.proofs.lemmas.List.{at_drop_more, at_drop_all, drop_all, append-nil}
use Rattle.std.proofs.lemmas.List.Elements.{All-head, All-tail, All-cons, All-nil}
use Rattle.vx_base.proofs.ByteLists.{length-overwritten}
use Rattle.store_model.proofs.Parts.{length-part, part-overwritten, part-overwritten_apart}
use Rattle.vx_base.specs.Fields.{bytes_at, extended, written_over}
use Rattle.vhdx_format.specs.SettledFiles.{with_bytes, with_updates}
use Rattle.vhdx_format.specs.declared.log_entry.Page.{Page}
use Rattle.log_format.specs.PendingPages.{has_place, HasOnePageEach, with_page, place_of}
use Rattle.meta_edit.specs.Pages.{with_pages, IsPageIn}
use Rattle.meta_edit.specs.Steps.{Shows, part_with, part_with_all}
use Rattle.meta_edit.proofs.ByteLaws.{part-over_in, over-over_in, over-over_apart, over_itself, shows_first, shows_next}

-- the file with pages written over it, one after another
laid_over : List Page → List ℕ → List ℕ
laid_over [] file = file
laid_over (p ∷ ps) file = laid_over ps (written_over file p.at p.bytes)

-- pages keep the file's length
length-laid_over : (m n : ℕ) (pages : List Page) (file : List ℕ) → All (IsPageIn m n) pages → m + n ≤ length file → length (laid_over pages file) ≡ length file
unfolding laid_over
length-laid_over m n [] file h w = refl
length-laid_over m n (p ∷ ps) file h w =
    let head : IsPageIn m n p = All-head (IsPageIn m n) p ps h in
    let l : length (written_over file p.at p.bytes) ≡ length file = length-overwritten file p.bytes p.at (omega (arith, head.whole, head.last)) in
    length-laid_over m n ps (written_over file p.at p.bytes) (All-tail (IsPageIn m n) p ps h) (omega (arith, l)) ∙ l

-- a part of the file with one page laid over it
part_with-is : (m n : ℕ) (p : Page) (file : List ℕ) (at k : ℕ) → IsPageIn m n p → m + n ≤ length file → at % 4096 ≡ 0 → k % 4096 ≡ 0 → at + k ≤ length file
    → part_with at (bytes_at file at k) p ≡ bytes_at (written_over file p.at p.bytes) at k
part_with-is m n p file at k h w a b e = by_place (cases_lt p.at at) (cases_lt p.at (at + k))
  where
    long : length (bytes_at file at k) ≡ k
    long = length-part file at k e

    in_file : p.at ≤ length file
    in_file = omega (arith, h.last)

    by_place : (p.at < at) ⊎ (at ≤ p.at) → (p.at < at + k) ⊎ (at + k ≤ p.at) → part_with at (bytes_at file at k) p ≡ bytes_at (written_over file p.at p.bytes) at k
    by_place (inl before) y =
        let no : nat_le at p.at ≡ false = lt-leb at p.at before in
        rw no (sym (part-overwritten_apart file p.bytes p.at at k in_file (inr (omega (arith, before, h.aligned, h.whole, a)))))
    by_place (inr from) (inr behind) =
        let no : nat_le (p.at + 4096) (at + length (bytes_at file at k)) ≡ false = lt-leb (p.at + 4096) (at + length (bytes_at file at k)) (omega (arith, behind, long)) in
        let yes : nat_le at p.at ≡ true = le-leb at p.at from in
        rw (yes, no) (sym (part-overwritten_apart file p.bytes p.at at k in_file (inl behind)))
    by_place (inr from) (inl before) =
        let end : p.at + 4096 ≤ at + k = omega (arith, from, before, h.aligned, a, b) in
        let yes : nat_le at p.at ≡ true = le-leb at p.at from in
        let also : nat_le (p.at + 4096) (at + length (bytes_at file at k)) ≡ true = le-leb (p.at + 4096) (at + length (bytes_at file at k)) (omega (arith, end, long)) in
        rw (yes, also) (sym (part-over_in file p.bytes at k p.at (p.at - at) (omega (arith, from)) (omega (arith, from, end, h.whole)) e))

-- a part of the file with pages laid over it
part_laid : (m n : ℕ) (pages : List Page) (file : List ℕ) (at k : ℕ) → All (IsPageIn m n) pages → m + n ≤ length file → at % 4096 ≡ 0 → k % 4096 ≡ 0 → at + k ≤ length file
    → part_with_all at (bytes_at file at k) pages ≡ bytes_at (laid_over pages file) at k
unfolding laid_over part_with_all
part_laid m n [] file at k h w a b e = refl
part_laid m n (p ∷ ps) file at k h w a b e =
    let head : IsPageIn m n p = All-head (IsPageIn m n) p ps h in
    let l : length (written_over file p.at p.bytes) ≡ length file = length-overwritten file p.bytes p.at (omega (arith, head.whole, head.last)) in
    ap (λ (part : List ℕ). part_with_all at part ps) (part_with-is m n p file at k head w a b e)
    ∙ part_laid m n ps (written_over file p.at p.bytes) at k (All-tail (IsPageIn m n) p ps h) (omega (arith, l)) a b (omega (arith, l))

-- the pages are laid one after another
pub next_laid : (at : ℕ) (part : List ℕ) (pages : List Page) (i : ℕ) (d : Page) → i < length pages
    → part_with_all at part (drop i pages) ≡ part_with_all at (part_with at part (get_or pages i d)) (drop (i + 1) pages)
unfolding part_with_all
next_laid at part pages i d h = at_drop_more (part_with_all at part) pages i d h

pub none_laid : (at : ℕ) (part : List ℕ) (pages : List Page) (i : ℕ) → length pages ≤ i → part_with_all at part (drop i pages) ≡ part
unfolding part_with_all
none_laid at part pages i h = at_drop_all (part_with_all at part) pages i h

-- a page that is put in another's stead, or behind all
pub put_in_stead : (pages : List Page) (i : ℕ) (new : Page) → i ≡ place_of new.at pages → i < length pages → set pages i new ≡ with_page pages new
unfolding place_of with_page
put_in_stead [] i new e l = absurd (omega (arith, l))
put_in_stead (p ∷ ps) i new e l = by_place (p.at == new.at) e (λ j f g. put_in_stead ps j new f g)
  where
    by_place : (b : Bool) → i ≡ cond b 0 (1 + place_of new.at ps) → ((j : ℕ) → j ≡ place_of new.at ps → j < length ps → set ps j new ≡ with_page ps new)
        → set (p ∷ ps) i new ≡ cond b (new ∷ ps) (p ∷ with_page ps new)
    by_place true f rest = rw f refl
    by_place false f rest =
        let next : i ≡ suc (place_of new.at ps) = omega (arith, f) in
        rw next (ap (λ (z : List Page). p ∷ z) (rest (place_of new.at ps) refl (omega (arith, l, next))))

pub put_behind : (pages : List Page) (i : ℕ) (new : Page) → i ≡ place_of new.at pages → length pages ≤ i → pages ++ new ∷ [] ≡ with_page pages new
unfolding place_of with_page
put_behind [] i new e l = refl
put_behind (p ∷ ps) i new e l = by_place (p.at == new.at) e (λ j f g. put_behind ps j new f g)
  where
    by_place : (b : Bool) → i ≡ cond b 0 (1 + place_of new.at ps) → ((j : ℕ) → j ≡ place_of new.at ps → length ps ≤ j → ps ++ new ∷ [] ≡ with_page ps new)
        → (p ∷ ps) ++ new ∷ [] ≡ cond b (new ∷ ps) (p ∷ with_page ps new)
    by_place true f rest = absurd (omega (arith, f, l))
    by_place false f rest =
        let next : i ≡ suc (place_of new.at ps) = omega (arith, f) in
        ap (λ (z : List Page). p ∷ z) (rest (place_of new.at ps) refl (omega (arith, l, next)))

pub length-with_page : (pages : List Page) (new : Page) → length (with_page pages new) ≤ length pages + 1
unfolding with_page
length-with_page [] new = omega arith
length-with_page (p ∷ ps) new = by_place (p.at == new.at) (length-with_page ps new)
  where
    by_place : (b : Bool) → length (with_page ps new) ≤ length ps + 1 → length (cond b (new ∷ ps) (p ∷ with_page ps new)) ≤ suc (length ps) + 1
    by_place true r = omega arith
    by_place false r = omega (arith, r)

pub All-with_page : (m n : ℕ) (pages : List Page) (new : Page) → All (IsPageIn m n) pages → IsPageIn m n new → All (IsPageIn m n) (with_page pages new)
unfolding with_page
All-with_page m n [] new h k = All-cons (IsPageIn m n) new [] k (All-nil (IsPageIn m n))
All-with_page m n (p ∷ ps) new h k = by_place (p.at == new.at) (All-with_page m n ps new (All-tail (IsPageIn m n) p ps h) k)
  where
    by_place : (b : Bool) → All (IsPageIn m n) (with_page ps new) → All (IsPageIn m n) (cond b (new ∷ ps) (p ∷ with_page ps new))
    by_place true r = All-cons (IsPageIn m n) new ps k (All-tail (IsPageIn m n) p ps h)
    by_place false r = All-cons (IsPageIn m n) p (with_page ps new) (All-head (IsPageIn m n) p ps h) r

-- what is written where no page lies may be written first
over-laid_over : (m n : ℕ) (pages : List Page) (file b : List ℕ) (at : ℕ) → All (IsPageIn m n) pages → m + n ≤ length file
    → at % 4096 ≡ 0 → length b ≡ 4096 → at + 4096 ≤ length file → has_place at pages ≡ false
    → laid_over pages (written_over file at b) ≡ written_over (laid_over pages file) at b
unfolding laid_over has_place
over-laid_over m n [] file b at h w a l e none = refl
over-laid_over m n (p ∷ ps) file b at h w a l e none =
    go (or_parts (p.at == at) (has_place at ps) none) (λ f g i j. over-laid_over m n ps f b at (All-tail (IsPageIn m n) p ps h) g a l i j)
  where
    head : IsPageIn m n p
    head = All-head (IsPageIn m n) p ps h

    apart : (p.at ≡ at → ⊥) → (p.at + length p.bytes ≤ at) ⊎ (at + length b ≤ p.at)
    apart ne = sides (cases_lt p.at at)
      where
        sides : (p.at < at) ⊎ (at ≤ p.at) → (p.at + length p.bytes ≤ at) ⊎ (at + length b ≤ p.at)
        sides (inl x) = inl (omega (arith, x, head.aligned, head.whole, a))
        sides (inr x) = inr (omega (arith, x, ne, head.aligned, a, l))

    go : ((p.at == at) ≡ false) × (has_place at ps ≡ false)
        → ((f : List ℕ) → m + n ≤ length f → at + 4096 ≤ length f → has_place at ps ≡ false → laid_over ps (written_over f at b) ≡ written_over (laid_over ps f) at b)
        → laid_over ps (written_over (written_over file at b) p.at p.bytes) ≡ written_over (laid_over ps (written_over file p.at p.bytes)) at b
    go t rest =
        let ne : p.at ≡ at → ⊥ = λ same. cc (t.0, eq-eqb p.at at same) in
        let long : length (written_over file p.at p.bytes) ≡ length file = length-overwritten file p.bytes p.at (omega (arith, head.whole, head.last)) in
        ap (laid_over ps) (over-over_apart file b p.bytes at p.at (apart ne) (omega (arith, l, e)) (omega (arith, head.whole, head.last)))
        ∙ rest (written_over file p.at p.bytes) (omega (arith, long)) (omega (arith, long)) t.1

-- what is written over all
over_all : (x y : List ℕ) → length x ≡ length y → written_over x 0 y ≡ y
unfolding written_over
over_all x y e =
    let none : drop (0 + length y) x ≡ [] = drop_all (0 + length y) x (omega (arith, e)) in
    rw none (append-nil y)

-- what is written over what was written there
same_place : (file a b : List ℕ) (at : ℕ) → length a ≡ length b → at + length a ≤ length file → written_over (written_over file at a) at b ≡ written_over file at b
same_place file a b at e w =
    over-over_in file a b at at 0 (omega arith) (omega (arith, e)) w ∙ ap (written_over file at) (over_all a b e)

-- the pages with one put are as if it were written last
laid_over-with_page : (m n : ℕ) (pages : List Page) (new : Page) (file : List ℕ) → All (IsPageIn m n) pages → IsPageIn m n new → HasOnePageEach pages → m + n ≤ length file
    → laid_over (with_page pages new) file ≡ written_over (laid_over pages file) new.at new.bytes
unfolding laid_over with_page HasOnePageEach
laid_over-with_page m n [] new file h k o w = refl
laid_over-with_page m n (p ∷ ps) new file h k o w = by_place (cases_eq p.at new.at) (λ f g. laid_over-with_page m n ps new f (All-tail (IsPageIn m n) p ps h) k o.1 g)
  where
    head : IsPageIn m n p
    head = All-head (IsPageIn m n) p ps h

    rest : All (IsPageIn m n) ps
    rest = All-tail (IsPageIn m n) p ps h

    long : length (written_over file p.at p.bytes) ≡ length file
    long = length-overwritten file p.bytes p.at (omega (arith, head.whole, head.last))

    by_place : (p.at ≡ new.at) ⊎ (p.at ≡ new.at → ⊥)
        → ((f : List ℕ) → m + n ≤ length f → laid_over (with_page ps new) f ≡ written_over (laid_over ps f) new.at new.bytes)
        → laid_over (cond (p.at == new.at) (new ∷ ps) (p ∷ with_page ps new)) file ≡ written_over (laid_over ps (written_over file p.at p.bytes)) new.at new.bytes
    by_place (inl e) behind =
        let same : (p.at == new.at) ≡ true = eq-eqb p.at new.at e in
        let alone : has_place new.at ps ≡ false = ap (λ (x : ℕ). has_place x ps) (sym e) ∙ o.0 in
        let over : written_over (written_over file p.at p.bytes) new.at new.bytes ≡ written_over file new.at new.bytes =
        ap (λ (x : ℕ). written_over (written_over file x p.bytes) new.at new.bytes) e ∙ same_place file p.bytes new.bytes new.at (omega (arith, head.whole, k.whole)) (omega (arith, k.last, head.whole)) in
        rw same (ap (laid_over ps) (sym over) ∙ over-laid_over m n ps (written_over file p.at p.bytes) new.bytes new.at rest (omega (arith, long)) k.aligned k.whole (omega (arith, long, k.last)) alone)
    by_place (inr ne) behind =
        let other : (p.at == new.at) ≡ false = ne_eqb p.at new.at ne in
        rw other (behind (written_over file p.at p.bytes) (omega (arith, long)))

-- a page of the file with bytes changed in it, put among the pages, changes these bytes of the file
piece_laid : (m n : ℕ) (pages : List Page) (file old bytes : List ℕ) (at start k : ℕ) (page : Page)
    → All (IsPageIn m n) pages → HasOnePageEach pages → m + n ≤ length file → IsPageIn m n page
    → page.at ≡ start → at ≡ start + k → k + length bytes ≤ 4096 → old ≡ bytes_at (laid_over pages file) start 4096 → page.bytes ≡ written_over old k bytes
    → laid_over (with_page pages page) file ≡ written_over (laid_over pages file) at bytes
piece_laid m n pages file old bytes at start k page h o w is s e l was now =
    let shown : List ℕ = laid_over pages file in
    let long : length shown ≡ length file = length-laid_over m n pages file h w in
    let inside : start + 4096 ≤ length shown = omega (arith, long, is.last, w, s) in
    let whole : length (bytes_at shown start 4096) ≡ 4096 = length-part shown start 4096 inside in
    laid_over-with_page m n pages page file h is o w
    ∙ ap (λ (x : ℕ). written_over shown x page.bytes) s
    ∙ ap (written_over shown start) (now ∙ ap (λ (z : List ℕ). written_over z k bytes) was)
    ∙ sym (over-over_in shown (bytes_at shown start 4096) bytes start at k e (omega (arith, l, whole)) (omega (arith, whole, inside)))
    ∙ ap (λ (z : List ℕ). written_over z at bytes) (over_itself shown start 4096 inside)

-- ---- the same of the updates that a log makes of the pages, which lie within the file

extended_within : (file : List ℕ) (len : ℕ) → len ≤ length file → extended file len ≡ file
unfolding extended
extended_within file len h = ap (λ (n : ℕ). file ++ replicate n 0) (let e : len - length file ≡ 0 = omega (arith, h) in e) ∙ append-nil file

written_within : (file bytes : List ℕ) (at : ℕ) → at ≤ length file → with_bytes at bytes file ≡ written_over file at bytes
unfolding with_bytes
written_within file bytes at h = ap (λ (z : List ℕ). written_over z at bytes) (extended_within file at h)

is_laid : (m n : ℕ) (pages : List Page) (file : List ℕ) → All (IsPageIn m n) pages → m + n ≤ length file → with_pages pages file ≡ laid_over pages file
unfolding with_updates laid_over
is_laid m n [] file h w = refl
is_laid m n (p ∷ ps) file h w =
    let head : IsPageIn m n p = All-head (IsPageIn m n) p ps h in
    let l : length (written_over file p.at p.bytes) ≡ length file = length-overwritten file p.bytes p.at (omega (arith, head.whole, head.last)) in
    ap (with_pages ps) (written_within file p.bytes p.at (omega (arith, head.last, w))) ∙ is_laid m n ps (written_over file p.at p.bytes) (All-tail (IsPageIn m n) p ps h) (omega (arith, l, w))

pub length-with_pages : (m n : ℕ) (pages : List Page) (file : List ℕ) → All (IsPageIn m n) pages → m + n ≤ length file → length (with_pages pages file) ≡ length file
length-with_pages m n pages file h w = ap length (is_laid m n pages file h w) ∙ length-laid_over m n pages file h w

pub part_with_all-is : (m n : ℕ) (pages : List Page) (file : List ℕ) (at k : ℕ) → All (IsPageIn m n) pages → m + n ≤ length file → at % 4096 ≡ 0 → k % 4096 ≡ 0 → at + k ≤ length file
    → part_with_all at (bytes_at file at k) pages ≡ bytes_at (with_pages pages file) at k
part_with_all-is m n pages file at k h w a b e =
    part_laid m n pages file at k h w a b e ∙ ap (λ (z : List ℕ). bytes_at z at k) (sym (is_laid m n pages file h w))

pub piece_put : (m n : ℕ) (pages : List Page) (file old bytes : List ℕ) (at start k : ℕ) (page : Page)
    → All (IsPageIn m n) pages → HasOnePageEach pages → m + n ≤ length file → IsPageIn m n page
    → page.at ≡ start → at ≡ start + k → k + length bytes ≤ 4096 → old ≡ bytes_at (with_pages pages file) start 4096 → page.bytes ≡ written_over old k bytes
    → with_pages (with_page pages page) file ≡ written_over (with_pages pages file) at bytes
piece_put m n pages file old bytes at start k page h o w is s e l was now =
    is_laid m n (with_page pages page) file (All-with_page m n pages page h is) w
    ∙ piece_laid m n pages file old bytes at start k page h o w is s e l (was ∙ ap (λ (z : List ℕ). bytes_at z start 4096) (is_laid m n pages file h w)) now
    ∙ ap (λ (z : List ℕ). written_over z at bytes) (sym (is_laid m n pages file h w))

-- no pages change nothing; pages joined are laid one list over the other
pub none_over : (file : List ℕ) → with_pages [] file ≡ file
unfolding with_updates
none_over file = refl

pub pages_joined : (pages more : List Page) (file : List ℕ) → with_pages (pages ++ more) file ≡ with_pages more (with_pages pages file)
unfolding with_updates
pages_joined [] more file = refl
pages_joined (p ∷ ps) more file = pages_joined ps more (with_bytes p.at p.bytes file)

-- ---- they change a region alone, and by what stands there alone

laid_shows : (m n : ℕ) (pages : List Page) (file shown r : List ℕ) → All (IsPageIn m n) pages → m + n ≤ length file → Shows m n file shown r
    → (t : List ℕ) × Shows m n file (laid_over pages shown) t
unfolding laid_over
laid_shows m n [] file shown r h w s = (r, s)
laid_shows m n (p ∷ ps) file shown r h w s =
    let head : IsPageIn m n p = All-head (IsPageIn m n) p ps h in
    let place : p.at ≡ m + (p.at - m) = omega (arith, head.first) in
    let fits : 0 < length p.bytes → p.at - m + length p.bytes ≤ n = λ some. omega (arith, head.first, head.last, head.whole) in
    laid_shows m n ps file (written_over shown p.at p.bytes) (written_over r (p.at - m) p.bytes) (All-tail (IsPageIn m n) p ps h) w
    (shows_next m n file shown r (written_over shown p.at p.bytes) p.at (p.at - m) p.bytes p.bytes w s refl place refl fits)

pub turns_alike : (m n : ℕ) (pages : List Page) (file other new : List ℕ) → All (IsPageIn m n) pages → m % 4096 ≡ 0 → n % 4096 ≡ 0 → m + n ≤ length file → m + n ≤ length other
    → bytes_at other m n ≡ bytes_at file m n → with_pages pages file ≡ written_over file m new → length new ≡ n → with_pages pages other ≡ written_over other m new
turns_alike m n pages file other new h a b w x same is l =
    let first = laid_shows m n pages other other (bytes_at other m n) h x (shows_first m n other other x refl) in
    let shows : with_pages pages other ≡ written_over other m first.0 = is_laid m n pages other h x ∙ first.1.is in
    let region : first.0 ≡ new =
    sym (part-overwritten other first.0 m n (omega (arith, x)) (sym first.1.len))
    ∙ ap (λ (z : List ℕ). bytes_at z m n) (sym shows)
    ∙ sym (part_with_all-is m n pages other m n h x a b x)
    ∙ ap (λ (part : List ℕ). part_with_all m part pages) same
    ∙ part_with_all-is m n pages file m n h w a b w
    ∙ ap (λ (z : List ℕ). bytes_at z m n) is
    ∙ part-overwritten file new m n (omega (arith, w)) (sym l) in
    shows ∙ ap (written_over other m) region
