-- Sums over sectors, by their bytes.
use Rattle.std.proofs.Common.{◌≡◌, ℕ, ◌+◌, ◌*◌, ◌/◌, ◌^◌, ◌≤◌, List, [], ◌∷◌, ◌++◌, length, map, get_or, refl, sym, ap, ◌∙◌, arith}
use Rattle.std.specs.List.{enumerate_from, range_with_len, sum, sum_by}
use Rattle.std.proofs.lemmas.List.{append_assoc, get_or-append_right, get_or_append_left, length-append}
use Rattle.std.proofs.lemmas.List.Elements.{All-head, All-tail}
use Rattle.std.proofs.lemmas.List.FromFn.{sum_by-map-range_with_len_more}
use Rattle.std.proofs.lemmas.List.Sums.{sum_by-append, sum_by-cons}
use Rattle.std.proofs.Math.Nat.{mul-le-mul}
use Rattle.guest_model.specs.Calls.{Disk, bytes_of}
use Rattle.guest_model.specs.History.{IsSized}
use Rattle.load_calls.specs.Printed.{first_bytes, page_sum, sectors_sum, weighed_bytes}

-- ---- one sector more

pub first_none : (bytes : List ℕ) → first_bytes bytes 0 ≡ 0
unfolding first_bytes
first_none bytes = refl

pub first_more : (bytes : List ℕ) (i : ℕ) → first_bytes bytes (i + 1) ≡ first_bytes bytes i + get_or bytes (512 * i) 0
unfolding first_bytes
first_more bytes i = sum_by-map-range_with_len_more (λ (x : ℕ). x) (λ k. get_or bytes (512 * k) 0) 0 i i (omega arith)

pub weighed_none : (first : ℕ) (bytes : List ℕ) → weighed_bytes first bytes 0 ≡ 0
unfolding weighed_bytes
weighed_none first bytes = refl

pub weighed_more : (first : ℕ) (bytes : List ℕ) (i : ℕ) → weighed_bytes first bytes (i + 1) ≡ weighed_bytes first bytes i + (first + i + 1) * get_or bytes (512 * i) 0
unfolding weighed_bytes
weighed_more first bytes i = sum_by-map-range_with_len_more (λ (x : ℕ). x) (λ k. (first + k + 1) * get_or bytes (512 * k) 0) 0 i i (omega arith)

-- a product of a place below 2 ^ 33 and a byte
pub weight_fits : (n b : ℕ) → n ≤ 2 ^ 33 → b ≤ 255 → n * b ≤ 2 ^ 41
weight_fits n b few byte = let most : n * b ≤ 2 ^ 33 * 255 = mul-le-mul few byte in omega arith

-- ---- all of them

length_bytes : (sectors : Disk) → IsSized 512 sectors → length (bytes_of sectors) ≡ 512 * length sectors
length_bytes [] sized = refl
length_bytes (s ∷ sectors) sized =
    let here : length s ≡ 512 = All-head (λ s. length s ≡ 512) s sectors sized in
    let rest : length (bytes_of sectors) ≡ 512 * length sectors = length_bytes sectors (All-tail (λ s. length s ≡ 512) s sectors sized) in
    length-append s (bytes_of sectors) ∙ (omega arith)

-- the first byte of a sector stands behind the bytes of those before it
first_behind : (a : ℕ) (front s rest : List ℕ) → length front ≡ 512 * a → length s ≡ 512 → get_or (front ++ (s ++ rest)) (512 * a) 0 ≡ get_or s 0 0
first_behind a front s rest long sized =
    get_or-append_right front (s ++ rest) (512 * a) (512 * a) 0 long (omega arith)
    ∙ ap (λ n. get_or (s ++ rest) n 0) (omega arith)
    ∙ get_or_append_left s rest 0 0 (omega arith)

-- a sum over sectors, each weighed by its number
weighed : (w : ℕ → ℕ → ℕ) (first a : ℕ) (front : List ℕ) (sectors : Disk) → IsSized 512 sectors → length front ≡ 512 * a
    → sum (map (λ k. w (first + k) (get_or (front ++ bytes_of sectors) (512 * k) 0)) (range_with_len a (length sectors))) ≡ sum_by (λ (s : ℕ × List ℕ). w s.0 (get_or s.1 0 0)) (enumerate_from (first + a) sectors)
weighed w first a front [] sized long = refl
weighed w first a front (s ∷ sectors) sized long =
    let here : length s ≡ 512 = All-head (λ s. length s ≡ 512) s sectors sized in
    let longer : length (front ++ s) ≡ 512 * (a + 1) = length-append front s ∙ (omega arith) in
    let rest = weighed w first (a + 1) (front ++ s) sectors (All-tail (λ s. length s ≡ 512) s sectors sized) longer in
    let place : first + (a + 1) ≡ first + a + 1 = omega arith in
    let f : ℕ → ℕ = λ k. w (first + k) (get_or (front ++ (s ++ bytes_of sectors)) (512 * k) 0) in
    sum_by-cons (λ (x : ℕ). x) (f a) (map f (range_with_len (a + 1) (length sectors)))
    ∙ ap (λ x. w (first + a) x + sum (map f (range_with_len (a + 1) (length sectors)))) (first_behind a front s (bytes_of sectors) long here)
    ∙ ap (λ (bytes : List ℕ). w (first + a) (get_or s 0 0) + sum (map (λ k. w (first + k) (get_or bytes (512 * k) 0)) (range_with_len (a + 1) (length sectors)))) (sym (append_assoc front s (bytes_of sectors)))
    ∙ ap (λ n. w (first + a) (get_or s 0 0) + n) (rest ∙ ap (λ n. sum_by (λ (s : ℕ × List ℕ). w s.0 (get_or s.1 0 0)) (enumerate_from n sectors)) place)
    ∙ sym (sum_by-cons (λ (s : ℕ × List ℕ). w s.0 (get_or s.1 0 0)) (first + a, s) (enumerate_from (first + a + 1) sectors))

pub whole : (w : ℕ → ℕ → ℕ) (first : ℕ) (sectors : Disk) → IsSized 512 sectors
    → sum (map (λ k. w (first + k) (get_or (bytes_of sectors) (512 * k) 0)) (range_with_len 0 (length (bytes_of sectors) / 512))) ≡ sum_by (λ (s : ℕ × List ℕ). w s.0 (get_or s.1 0 0)) (enumerate_from first sectors)
whole w first sectors sized =
    let long : length (bytes_of sectors) ≡ 512 * length sectors = length_bytes sectors sized in
    let count : length (bytes_of sectors) / 512 ≡ length sectors = omega arith in
    let start : first + 0 ≡ first = omega arith in
    ap (λ n. sum (map (λ k. w (first + k) (get_or (bytes_of sectors) (512 * k) 0)) (range_with_len 0 n))) count
    ∙ weighed w first 0 [] sectors sized refl
    ∙ ap (λ n. sum_by (λ (s : ℕ × List ℕ). w s.0 (get_or s.1 0 0)) (enumerate_from n sectors)) start

pub pages_are_sectors : (first : ℕ) (sectors : Disk) → IsSized 512 sectors → page_sum first (bytes_of sectors) ≡ sectors_sum first sectors
unfolding weighed_bytes
pages_are_sectors first sectors sized = whole (λ n x. (n + 1) * x) first sectors sized

enumerate_append : (n : ℕ) (a b : Disk) → enumerate_from n (a ++ b) ≡ enumerate_from n a ++ enumerate_from (n + length a) b
enumerate_append n [] b = let start : n ≡ n + 0 = omega arith in ap (λ m. enumerate_from m b) start
enumerate_append n (s ∷ a) b =
    let place : n + 1 + length a ≡ n + length (s ∷ a) = omega arith in
    ap (λ l. (n, s) ∷ l) (enumerate_append (n + 1) a b ∙ ap (λ m. enumerate_from (n + 1) a ++ enumerate_from m b) place)

pub pages_add_up : (first : ℕ) (a b : Disk) → sectors_sum first (a ++ b) ≡ sectors_sum first a + sectors_sum (first + length a) b
pages_add_up first a b =
    ap (sum_by (λ (s : ℕ × List ℕ). (s.0 + 1) * get_or s.1 0 0)) (enumerate_append first a b)
    ∙ sum_by-append (λ (s : ℕ × List ℕ). (s.0 + 1) * get_or s.1 0 0) (enumerate_from first a) (enumerate_from (first + length a) b)
