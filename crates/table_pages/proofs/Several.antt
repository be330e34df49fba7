-- Pages put among the changed ones, one after another.
use Rattle.std.proofs.Common.{◌≡◌, ◌≢◌, ℕ, zero, suc, ◌+◌, ◌<◌, ◌==◌, ◌||◌, Bool, true, false, List, [], ◌∷◌, length, take, get_or, refl, sym, ap, ◌∙◌, arith}
use Rattle.std.proofs.lemmas.Bool.{eq-eqb, ne_eqb}
use Rattle.vhdx_format.specs.declared.log_entry.Page.{Page}
use Rattle.log_format.specs.PendingPages.{HasOnePageEach, has_place, with_page}

-- no page has this place
not_there : (at : ℕ) (pages : List Page) (k : ℕ) (d : Page) → has_place at pages ≡ false → k < length pages → (get_or pages k d).at ≢ at
unfolding has_place
not_there at [] k d h l = absurd (omega (arith, l))
not_there at (page ∷ pages) zero d h l = λ e. (let t : (true || has_place at pages) ≡ false = rw (eq-eqb page.at at e) at h in cc)
not_there at (page ∷ pages) (suc k) d h l = not_there at pages k d (rest (page.at == at) h) (omega (arith, l))
  where
    rest : (b : Bool) → (b || has_place at pages) ≡ false → has_place at pages ≡ false
    rest true g = cc
    rest false g = g

put_suc : (pages : List Page) (k : ℕ) (d : Page) → HasOnePageEach pages → k < length pages → with_page (take k pages) (get_or pages k d) ≡ take (suc k) pages
unfolding with_page HasOnePageEach
put_suc [] k d h l = absurd (omega (arith, l))
put_suc (page ∷ pages) zero d h l = refl
put_suc (page ∷ pages) (suc k) d h l =
    let other : (page.at == (get_or pages k d).at) ≡ false = ne_eqb page.at (get_or pages k d).at (λ e. not_there page.at pages k d h.0 (omega (arith, l)) (sym e)) in
    rw other (ap (λ (z : List Page). page ∷ z) (put_suc pages k d h.1 (omega (arith, l))))

-- the next of pages that have different places goes behind those before it
pub put_next : (pages : List Page) (k : ℕ) (d : Page) → HasOnePageEach pages → k < length pages → with_page (take k pages) (get_or pages k d) ≡ take (k + 1) pages
put_next pages k d h l = put_suc pages k d h l ∙ ap (λ n. take n pages) (let e : suc k ≡ k + 1 = omega arith in e)

pub put_after : (pages old new : List Page) (k : ℕ) (d : Page) → HasOnePageEach pages → k < length pages → old ≡ take k pages → new ≡ with_page old (get_or pages k d) → new ≡ take (k + 1) pages
put_after pages old new k d h l before put = put ∙ ap (λ (z : List Page). with_page z (get_or pages k d)) before ∙ put_next pages k d h l
