-- The calls of a load end alike in every order.
use Rattle.std.proofs.Common.{◌≡◌, ℕ, ◌+◌, ◌-◌, ◌*◌, ◌≤◌, Bool, cond, List, [], ◌∷◌, ◌++◌, length, refl, sym, ap, ◌∙◌, arith}
use Rattle.std.specs.List.{AllByRecursion, count_by, sum_by}
use Rattle.std.specs.List.Sorted.{IsPermutation}
use Rattle.std.proofs.lemmas.List.{length-append}
use Rattle.std.proofs.lemmas.List.FromFn.{length-map-range_with_len}
use Rattle.std.proofs.lemmas.List.Sorted.{length_permutation, sum_by-IsPermutation}
use Rattle.std.proofs.lemmas.List.Sums.{sum_by-append, sum_by-cons}
use Rattle.guest_model.specs.declared.call.Call.{Call}
use Rattle.guest_model.specs.declared.call.Entry.{Entry}
use Rattle.guest_model.specs.Calls.{Disk}
use Rattle.guest_model.specs.History.{History, is_flush}
use Rattle.script.specs.declared.form.Form.{Form}
use Rattle.script.specs.declared.form.Line.{Line}
use Rattle.load_calls.specs.Histories.{EndAlike, HaveSameCalls, KeepsToOwn, Told, told_in}
use Rattle.load_calls.specs.Laws.{IsPlaced, owner_of}
use Rattle.load_calls.specs.Load.{IsHistoryOf, call_by, call_of, calls_of, drawn_at, entries_from, forms_from, guest_history, lines_of, load_lines, one_thread, prepared_disk, sector_size}
use Rattle.load_calls.specs.Printed.{disk_sum, history_text, is_read, is_trim, is_write, lines_that, lines_text, load_text, seen_in}
use Rattle.load_calls.proofs.FourGuests.{loads_run_alone}
use Rattle.load_calls.proofs.Keyed.{permuted_by_key}
use Rattle.load_calls.proofs.OwnCalls.{guest_keeps, guest_placed}
use Rattle.load_calls.proofs.OwnSectors.{end_alike}

all_both : (P : Entry → Type 0) (h k : History) → AllByRecursion P h → AllByRecursion P k → AllByRecursion P (h ++ k)
all_both P [] k p q = q
all_both P (e ∷ h) k p q = (p.0, all_both P h k p.1 q)

of_each : (P : Entry → Type 0) (seed : ℕ) → ((g : ℕ) → 1 ≤ g → g ≤ 4 → AllByRecursion P (guest_history seed g)) → AllByRecursion P (one_thread seed)
of_each P seed each =
    all_both P _ _ (all_both P _ _ (all_both P _ _ (each 1 (omega arith) (omega arith)) (each 2 (omega arith) (omega arith))) (each 3 (omega arith) (omega arith))) (each 4 (omega arith) (omega arith))

pub loads_are_placed : (seed : ℕ) → AllByRecursion (λ e. IsPlaced e.call) (one_thread seed)
loads_are_placed seed = of_each (λ e. IsPlaced e.call) seed (guest_placed seed)

pub loads_keep : (seed : ℕ) → AllByRecursion (KeepsToOwn sector_size owner_of) (one_thread seed)
loads_keep seed = of_each (KeepsToOwn sector_size owner_of) seed (guest_keeps seed)

as_alone : (seed : ℕ) (h : History) → IsHistoryOf (load_lines seed) h → HaveSameCalls h (one_thread seed)
as_alone seed h is g = is g ∙ sym (loads_run_alone seed g)

pub loads_end_alike : (seed : ℕ) (disk : Disk) (h : History) → IsHistoryOf (load_lines seed) h → EndAlike sector_size disk h (one_thread seed)
loads_end_alike seed disk h is = end_alike sector_size owner_of disk h (one_thread seed) (loads_keep seed) (as_alone seed h is)

-- ---- what is printed of them

pub same_lines : (a b c d e f g p q r s t u v : ℕ) → a ≡ p → b ≡ q → c ≡ r → d ≡ s → e ≡ t → f ≡ u → g ≡ v → lines_text a b c d e f g ≡ lines_text p q r s t u v
same_lines a b c d e f g p q r s t u v h i j k l m n =
    ap (λ x. lines_text x b c d e f g) h ∙ ap (λ x. lines_text p x c d e f g) i ∙ ap (λ x. lines_text p q x d e f g) j ∙ ap (λ x. lines_text p q r x e f g) k
    ∙ ap (λ x. lines_text p q r s x f g) l ∙ ap (λ x. lines_text p q r s t x g) m ∙ ap (λ x. lines_text p q r s t u x) n

same_calls : (h k : History) → HaveSameCalls h k → IsPermutation h k
same_calls h k same = permuted_by_key (λ (e : Entry). e.guest) h k same

same_count : (p : Entry → Bool) (h k : History) → IsPermutation h k → count_by p h ≡ count_by p k
same_count p h k moved = sym (sum_by-IsPermutation (λ e. cond (p e) 1 0) h k moved)

pub same_text : (disk : Disk) (h k : History) → HaveSameCalls h k → EndAlike sector_size disk h k → history_text disk h ≡ history_text disk k
same_text disk h k same ends =
    let moved = same_calls h k same in
    same_lines _ _ _ _ _ _ _ _ _ _ _ _ _ _
    (sym (length_permutation h k moved))
    (same_count (λ e. is_write e.call) h k moved)
    (same_count (λ e. is_trim e.call) h k moved)
    (same_count (λ e. is_read e.call) h k moved)
    (same_count (λ e. is_flush e.call) h k moved)
    (ap disk_sum ends.left)
    (sym (sum_by-IsPermutation (λ (t : Told). seen_in t.told) (told_in sector_size disk h) (told_in sector_size disk k) ends.all))

pub loads_print_alike : (seed : ℕ) (h : History) → IsHistoryOf (load_lines seed) h → history_text (prepared_disk seed) h ≡ load_text seed
loads_print_alike seed h is = same_text (prepared_disk seed) h (one_thread seed) (as_alone seed h is) (loads_end_alike seed (prepared_disk seed) h is)

length_entries : (g number : ℕ) (forms : List Form) → length (entries_from g number forms) ≡ length forms
length_entries g number [] = refl
length_entries g number (form ∷ forms) = let rest = length_entries g (number + 1) forms in omega arith

length_guest : (seed g : ℕ) → length (guest_history seed g) ≡ 256
unfolding forms_from
length_guest seed g = length_entries g 1 (calls_of seed g) ∙ length-map-range_with_len (λ k. drawn_at (call_by g) seed k) (128 + 256 * (g - 1)) 256

pub length_load : (seed : ℕ) → length (one_thread seed) ≡ 1024
length_load seed =
    let a : History = guest_history seed 1 in
    let b : History = guest_history seed 2 in
    let c : History = guest_history seed 3 in
    let d : History = guest_history seed 4 in
    let whole : length (one_thread seed) ≡ length a + length b + length c + length d =
    length-append (a ++ b ++ c) d ∙ ap (λ n. n + length d) (length-append (a ++ b) c ∙ ap (λ n. n + length c) (length-append a b)) in
    let first : length a ≡ 256 = length_guest seed 1 in
    let second : length b ≡ 256 = length_guest seed 2 in
    let third : length c ≡ 256 = length_guest seed 3 in
    let fourth : length d ≡ 256 = length_guest seed 4 in
    whole ∙ (omega arith)

pub loads_are_counted : (seed : ℕ) (h : History) → IsHistoryOf (load_lines seed) h → length h ≡ 1024
loads_are_counted seed h is = sym (length_permutation h (one_thread seed) (same_calls h (one_thread seed) (as_alone seed h is))) ∙ length_load seed

-- ---- their lines

count_lines : (is : Call → Bool) (g number : ℕ) (forms : List Form) → lines_that is (lines_of g forms) ≡ count_by (λ e. is e.call) (entries_from g number forms)
count_lines is g number [] = refl
count_lines is g number (form ∷ forms) =
    let l : Line = record { guest = g; form = form } in
    let e : Entry = record { guest = g; no = number; call = call_of form } in
    sum_by-cons (λ (l : Line). cond (is (call_of l.form)) 1 0) l (lines_of g forms)
    ∙ ap (λ n. cond (is (call_of form)) 1 0 + n) (count_lines is g (number + 1) forms)
    ∙ sym (sum_by-cons (λ (e : Entry). cond (is e.call) 1 0) e (entries_from g (number + 1) forms))

pub four_lists : {X : Type 0} (f : X → ℕ) (a b c d : List X) → sum_by f (a ++ b ++ c ++ d) ≡ sum_by f a + sum_by f b + sum_by f c + sum_by f d
four_lists f a b c d = sum_by-append f (a ++ b ++ c) d ∙ ap (λ n. n + sum_by f d) (sum_by-append f (a ++ b) c ∙ ap (λ n. n + sum_by f c) (sum_by-append f a b))

pub lines_are_counted : (seed : ℕ) (is : Call → Bool) → lines_that is (load_lines seed) ≡ count_by (λ e. is e.call) (one_thread seed)
lines_are_counted seed is =
    let first : lines_that is (lines_of 1 (calls_of seed 1)) ≡ count_by (λ e. is e.call) (guest_history seed 1) = count_lines is 1 1 (calls_of seed 1) in
    let second : lines_that is (lines_of 2 (calls_of seed 2)) ≡ count_by (λ e. is e.call) (guest_history seed 2) = count_lines is 2 1 (calls_of seed 2) in
    let third : lines_that is (lines_of 3 (calls_of seed 3)) ≡ count_by (λ e. is e.call) (guest_history seed 3) = count_lines is 3 1 (calls_of seed 3) in
    let fourth : lines_that is (lines_of 4 (calls_of seed 4)) ≡ count_by (λ e. is e.call) (guest_history seed 4) = count_lines is 4 1 (calls_of seed 4) in
    four_lists (λ (l : Line). cond (is (call_of l.form)) 1 0) (lines_of 1 (calls_of seed 1)) (lines_of 2 (calls_of seed 2)) (lines_of 3 (calls_of seed 3)) (lines_of 4 (calls_of seed 4))
    ∙ (cc)
    ∙ sym (four_lists (λ (e : Entry). cond (is e.call) 1 0) (guest_history seed 1) (guest_history seed 2) (guest_history seed 3) (guest_history seed 4))
