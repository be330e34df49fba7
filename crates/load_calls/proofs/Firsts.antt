-- The first bytes of a disk's sectors.
use Rattle.std.proofs.Common.{◌≡◌, ℕ, ◌+◌, ◌-◌, ◌*◌, ◌/◌, ◌^◌, ◌<◌, ◌≤◌, ◌&&◌, Bool, true, false, cond, leb, ltb, List, [], ◌∷◌, ◌++◌, length, map, get_or, take, drop, replicate, refl, sym, ap, ◌∙◌, subst, inl, inr, arith}
use Rattle.std.specs.List.{enumerate_from, range_with_len, sum, sum_by}
use Rattle.std.proofs.lemmas.Bool.{and_from, and_left, and_right, cases_lt, le-leb, lt-leb, lt-ltb, le-ltb}
use Rattle.std.proofs.Math.Nat.{mul-le-mul}
use Rattle.std.proofs.lemmas.Grind.{same_number_lists}
use Rattle.std.proofs.lemmas.List.{append_assoc, drop-map, get_or-append_right, get_or-drop, get_or-map, get_or-replicate, get_or-take, length-append, length-map, length-replicate, take-map, take_more}
use Rattle.std.proofs.lemmas.List.Elements.{All-drop, All-take}
use Rattle.std.proofs.lemmas.List.FromFn.{sum_by-map-range_with_len_more}
use Rattle.std.proofs.lemmas.List.Sums.{sum_by-cons}
use Rattle.vx_base.specs.Fields.{zeros}
use Rattle.guest_model.specs.declared.call.Call.{Call}
use Rattle.guest_model.specs.declared.call.Call.TheVariants.{Read, Write, Trim}
use Rattle.guest_model.specs.Calls.{Disk, apply, changes, content, is_named, reply}
use Rattle.guest_model.specs.History.{IsSized, sector_at}
use Rattle.guest_model.proofs.HistoryLaws.{IsSized-apply, apply_unchanged, length-apply, sector_at-apply}
use Rattle.script.specs.declared.form.Line.{Line}
use Rattle.load_calls.specs.Load.{call_of}
use Rattle.load_calls.specs.OneThread.{AreFirsts, Leaves, disk_behind, firsts_of, seen_behind, weighed_firsts}
use Rattle.load_calls.specs.Printed.{disk_sum, first_bytes, seen_in}
use Rattle.load_calls.proofs.Pages.{whole}

length-firsts : (disk : Disk) → length (firsts_of disk) ≡ length disk
unfolding firsts_of
length-firsts disk = length-map disk (λ s. get_or s 0 0)

get_or-firsts : (disk : Disk) (i : ℕ) → i < length disk → get_or (firsts_of disk) i 0 ≡ get_or (sector_at disk i) 0 0
unfolding firsts_of
get_or-firsts disk i below = get_or-map (λ s. get_or s 0 0) disk i [] 0 below

-- ---- a call that changes sectors

-- bytes of which a range was filled are the first bytes of the disk behind a call that names it and gives each sector of it this first byte
filled_are : (call : Call) (first count byte : ℕ) (disk : Disk) (old new : List ℕ) → ((i : ℕ) → is_named 512 call i ≡ (leb first i && ltb i (first + count)))
    → ((i : ℕ) → first ≤ i → i < first + count → get_or (content 512 call i) 0 0 ≡ byte) → AreFirsts old disk → length new ≡ length old
    → ((k : ℕ) → first ≤ k → k < first + count → k < length old → get_or new k 0 ≡ byte) → ((k : ℕ) → k < first → get_or new k 0 ≡ get_or old k 0)
    → ((k : ℕ) → first + count ≤ k → get_or new k 0 ≡ get_or old k 0) → AreFirsts new (apply 512 disk call)
filled_are call first count byte disk old new names gives were long filled before behind = record {
  sized = IsSized-apply 512 disk call (omega arith) were.sized;
  are = same_number_lists new (firsts_of (apply 512 disk call)) lengths at;
} where
  lengths : length new ≡ length (firsts_of (apply 512 disk call))
  lengths = long ∙ ap length were.are ∙ length-firsts disk ∙ sym (length-firsts (apply 512 disk call) ∙ length-apply 512 disk call)

  old_long : length old ≡ length disk
  old_long = ap length were.are ∙ length-firsts disk

  behind_call : (k : ℕ) (b : Bool) → k < length disk → is_named 512 call k ≡ b → get_or (firsts_of (apply 512 disk call)) k 0 ≡ get_or (cond b (content 512 call k) (sector_at disk k)) 0 0
  behind_call k b below named =
      let inside : k < length (apply 512 disk call) = omega (arith, length-apply 512 disk call) in
      get_or-firsts (apply 512 disk call) k inside ∙ ap (λ s. get_or s 0 0) (sector_at-apply 512 disk call k below ∙ ap (λ b. cond b (content 512 call k) (sector_at disk k)) named)

  kept : (k : ℕ) → k < length disk → (leb first k && ltb k (first + count)) ≡ false → get_or new k 0 ≡ get_or old k 0 → get_or new k 0 ≡ get_or (firsts_of (apply 512 disk call)) k 0
  kept k below apart same = same ∙ ap (λ l. get_or l k 0) were.are ∙ get_or-firsts disk k below ∙ sym (behind_call k false below (names k ∙ apart))

  at : (k : ℕ) → k < length new → get_or new k 0 ≡ get_or (firsts_of (apply 512 disk call)) k 0
  at k inside =
      let below : k < length disk = omega (arith, long, old_long) in
      let fits : k < length old = omega (arith, long) in
      elim (cases_lt k first) [
        | inl low ↦ kept k below (and_left _ _ (lt-leb first k low)) (before k low)
        | inr from ↦ elim (cases_lt k (first + count)) [
          | inl to ↦ filled k from to fits ∙ sym (behind_call k true below (names k ∙ and_from _ _ (le-leb first k from) (lt-ltb k (first + count) to)) ∙ gives k from to)
          | inr past ↦ kept k below (and_right _ _ (le-ltb k (first + count) past)) (behind k past)
        ]
      ]

pub wrote : (first count byte : ℕ) (disk : Disk) (old new : List ℕ) → length new ≡ length old → ((k : ℕ) → first ≤ k → k < first + count → k < length old → get_or new k 0 ≡ byte)
    → ((k : ℕ) → k < first → get_or new k 0 ≡ get_or old k 0) → ((k : ℕ) → first + count ≤ k → get_or new k 0 ≡ get_or old k 0)
    → AreFirsts old disk → AreFirsts new (apply 512 disk (Write first (replicate (512 * count) byte)))
wrote first count byte disk old new long filled before behind were =
    let sectors : length (replicate (512 * count) byte) / 512 ≡ count = ap (λ n. n / 512) (length-replicate (512 * count) byte) ∙ (omega arith) in
    filled_are (Write first (replicate (512 * count) byte)) first count byte disk old new (λ i. ap (λ n. leb first i && ltb i (first + n)) sectors) (λ i from to.
    let start : 0 < 512 = omega arith in
    let place : (i - first) * 512 + 0 < 512 * count = omega arith in
    get_or-take 512 (drop ((i - first) * 512) (replicate (512 * count) byte)) 0 0 start
    ∙ get_or-drop ((i - first) * 512) (replicate (512 * count) byte) 0 0
    ∙ get_or-replicate (512 * count) ((i - first) * 512 + 0) byte 0 place) were long filled before behind

pub trimmed : (first count : ℕ) (disk : Disk) (old new : List ℕ) → length new ≡ length old → ((k : ℕ) → first ≤ k → k < first + count → k < length old → get_or new k 0 ≡ 0)
    → ((k : ℕ) → k < first → get_or new k 0 ≡ get_or old k 0) → ((k : ℕ) → first + count ≤ k → get_or new k 0 ≡ get_or old k 0)
    → AreFirsts old disk → AreFirsts new (apply 512 disk (Trim first count))
unfolding zeros
trimmed first count disk old new long filled before behind were =
    filled_are (Trim first count) first count 0 disk old new (λ i. refl) (λ i from to. get_or-replicate 512 0 0 0 (omega arith)) were long filled before behind

-- a call that changes nothing
pub unchanged : (call : Call) (disk : Disk) (firsts : List ℕ) → changes call ≡ false → AreFirsts firsts disk → AreFirsts firsts (apply 512 disk call)
unchanged call disk firsts still are = let same : disk ≡ apply 512 disk call = sym (apply_unchanged 512 disk call still) in subst (AreFirsts firsts) same are

-- ---- what a read sees

sum_firsts : (n : ℕ) (sectors : Disk) → sum_by (λ (s : ℕ × List ℕ). get_or s.1 0 0) (enumerate_from n sectors) ≡ sum (map (λ (s : List ℕ). get_or s 0 0) sectors)
sum_firsts n [] = refl
sum_firsts n (s ∷ sectors) =
    sum_by-cons (λ (s : ℕ × List ℕ). get_or s.1 0 0) (n, s) (enumerate_from (n + 1) sectors)
    ∙ ap (λ m. get_or s 0 0 + m) (sum_firsts (n + 1) sectors)
    ∙ sym (sum_by-cons (λ (x : ℕ). x) (get_or s 0 0) (map (λ (s : List ℕ). get_or s 0 0) sectors))

pub saw : (first count : ℕ) (disk : Disk) (firsts : List ℕ) → AreFirsts firsts disk → sum (take count (drop first firsts)) ≡ seen_in (reply disk (Read first count))
unfolding firsts_of first_bytes
saw first count disk firsts are =
    let part : Disk = take count (drop first disk) in
    let sized : IsSized 512 part = All-take (λ s. length s ≡ 512) count (drop first disk) (All-drop (λ s. length s ≡ 512) first disk are.sized) in
    ap (λ l. sum (take count (drop first l))) are.are
    ∙ ap (λ l. sum (take count l)) (drop-map (λ (s : List ℕ). get_or s 0 0) first disk)
    ∙ ap sum (take-map (λ (s : List ℕ). get_or s 0 0) count (drop first disk))
    ∙ sym (whole (λ n x. x) 0 part sized ∙ sum_firsts 0 part)

-- ---- lines

behind_push : (disk : Disk) (lines : List Line) (l : Line) → disk_behind disk (lines ++ l ∷ []) ≡ apply 512 (disk_behind disk lines) (call_of l.form)
unfolding disk_behind
behind_push disk [] l = refl
behind_push disk (x ∷ lines) l = behind_push (apply 512 disk (call_of x.form)) lines l

seen_push : (disk : Disk) (lines : List Line) (l : Line) → seen_behind disk (lines ++ l ∷ []) ≡ seen_behind disk lines + seen_in (reply (disk_behind disk lines) (call_of l.form))
unfolding disk_behind seen_behind
seen_push disk [] l = omega arith
seen_push disk (x ∷ lines) l = let rest = seen_push (apply 512 disk (call_of x.form)) lines l in omega arith

pub no_lines : (firsts : List ℕ) (disk : Disk) → AreFirsts firsts disk → Leaves [] firsts 0 disk
unfolding disk_behind seen_behind
no_lines firsts disk are = record { left = are; saw = refl }

pub one_more_line : (lines : List Line) (i : ℕ) (d : Line) (old new : List ℕ) (seen more : ℕ) (disk : Disk) → i < length lines → Leaves (take i lines) old seen disk
    → ((disk : Disk) → AreFirsts old disk → AreFirsts new (apply 512 disk (call_of (get_or lines i d).form)))
    → ((disk : Disk) → AreFirsts old disk → more ≡ seen_in (reply disk (call_of (get_or lines i d).form))) → Leaves (take (i + 1) lines) new (seen + more) disk
one_more_line lines i d old new seen more disk below before left saw =
    let l : Line = get_or lines i d in
    let longer : take (i + 1) lines ≡ take i lines ++ l ∷ [] = take_more lines i d below in
    let so_far : Disk = disk_behind disk (take i lines) in
    record {
      left = subst (AreFirsts new) (sym (ap (disk_behind disk) longer ∙ behind_push disk (take i lines) l)) (left so_far before.left);
      saw =
          ap (λ n. n + more) before.saw
          ∙ ap (λ n. seen_behind disk (take i lines) + n) (saw so_far before.left)
          ∙ sym (ap (seen_behind disk) longer ∙ seen_push disk (take i lines) l);
    }

-- ---- the sum of a disk

pub no_weight : (firsts : List ℕ) → weighed_firsts firsts 0 ≡ 0
unfolding weighed_firsts
no_weight firsts = refl

pub more_weight : (firsts : List ℕ) (i : ℕ) → weighed_firsts firsts (i + 1) ≡ weighed_firsts firsts i + (i + 1) * get_or firsts i 0
unfolding weighed_firsts
more_weight firsts i = sum_by-map-range_with_len_more (λ (x : ℕ). x) (λ k. (k + 1) * get_or firsts k 0) 0 i i (omega arith)

pub weight_fits : (n b : ℕ) → n ≤ 2 ^ 17 → b ≤ 255 → n * b ≤ 2 ^ 26
weight_fits n b few byte = let most : n * b ≤ 2 ^ 17 * 255 = mul-le-mul few byte in omega arith

weighed_from : (a : ℕ) (front : List ℕ) (sectors : Disk) → length front ≡ a
    → sum (map (λ k. (k + 1) * get_or (front ++ map (λ (s : List ℕ). get_or s 0 0) sectors) k 0) (range_with_len a (length sectors))) ≡ sum_by (λ (s : ℕ × List ℕ). (s.0 + 1) * get_or s.1 0 0) (enumerate_from a sectors)
weighed_from a front [] long = refl
weighed_from a front (s ∷ sectors) long =
    let b : ℕ = get_or s 0 0 in
    let others : List ℕ = map (λ (s : List ℕ). get_or s 0 0) sectors in
    let longer : length (front ++ b ∷ []) ≡ a + 1 = length-append front (b ∷ []) ∙ (omega arith) in
    let rest = weighed_from (a + 1) (front ++ b ∷ []) sectors longer in
    let start : a - a ≡ 0 = omega arith in
    let here : get_or (front ++ b ∷ others) a 0 ≡ b = get_or-append_right front (b ∷ others) a a 0 long (omega arith) ∙ ap (λ n. get_or (b ∷ others) n 0) start in
    sum_by-cons (λ (x : ℕ). x) ((a + 1) * get_or (front ++ b ∷ others) a 0) (map (λ k. (k + 1) * get_or (front ++ b ∷ others) k 0) (range_with_len (a + 1) (length sectors)))
    ∙ ap (λ x. (a + 1) * x + sum (map (λ k. (k + 1) * get_or (front ++ b ∷ others) k 0) (range_with_len (a + 1) (length sectors)))) here
    ∙ ap (λ (l : List ℕ). (a + 1) * b + sum (map (λ k. (k + 1) * get_or l k 0) (range_with_len (a + 1) (length sectors)))) (sym (append_assoc front (b ∷ []) others))
    ∙ ap (λ n. (a + 1) * b + n) rest
    ∙ sym (sum_by-cons (λ (s : ℕ × List ℕ). (s.0 + 1) * get_or s.1 0 0) (a, s) (enumerate_from (a + 1) sectors))

pub disk_weight : (firsts : List ℕ) (disk : Disk) (n sum : ℕ) → n ≡ length firsts → sum ≡ weighed_firsts firsts n → AreFirsts firsts disk → sum ≡ disk_sum disk
unfolding firsts_of weighed_firsts
disk_weight firsts disk n total count is are =
    is
    ∙ ap (weighed_firsts firsts) (count ∙ ap length are.are ∙ length-map disk (λ (s : List ℕ). get_or s 0 0))
    ∙ ap (λ l. weighed_firsts l (length disk)) are.are
    ∙ weighed_from 0 [] disk refl
