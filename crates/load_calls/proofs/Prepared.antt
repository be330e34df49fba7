-- The disk that a load's guests find, and what is printed behind their calls.
use Rattle.std.proofs.Common.{◌≡◌, ℕ, zero, suc, ◌+◌, ◌-◌, ◌*◌, ◌^◌, ◌<◌, ◌≤◌, ◌&&◌, Bool, true, nat_eq, List, [], ◌∷◌, ◌++◌, length, map, get_or, replicate, refl, sym, ap, ◌∙◌, subst, arith}
use Rattle.std.specs.List.{AllByRecursion, filter}
use Rattle.std.proofs.lemmas.Bool.{and_from, cond-true, eq-eqb}
use Rattle.std.proofs.lemmas.List.{get_or-replicate, length-append, length-map, length-replicate, map-append}
use Rattle.std.proofs.lemmas.List.Elements.{All-from_get_or}
use Rattle.std.proofs.lemmas.List.FromFn.{length-map-range_with_len}
use Rattle.std.proofs.lemmas.List.Sums.{sum_by-cons}
use Rattle.vx_base.specs.Fields.{zeros}
use Rattle.guest_model.specs.declared.call.Entry.{Entry}
use Rattle.guest_model.specs.Calls.{Disk, apply, reply}
use Rattle.guest_model.specs.History.{History, is_flush, replay}
use Rattle.script.specs.Grammar.{is_call}
use Rattle.script.specs.declared.form.Form.{Form}
use Rattle.script.specs.declared.form.Form.TheVariants.{Flush}
use Rattle.script.specs.declared.form.Line.{Line}
use Rattle.load_calls.specs.declared.text.Counts.{Counts}
use Rattle.load_calls.specs.Histories.{Told, told_in}
use Rattle.load_calls.specs.Laws.{HasLines}
use Rattle.load_calls.specs.Load.{call_by, call_of, calls_of, drawn_at, entries_from, forms_from, forms_of, guest_history, lines_of, load_lines, new_disk, one_thread, prepared_disk, preparing_lines, with_writes, write_by, writes_to, zero_sectors}
use Rattle.load_calls.specs.OneThread.{AreFirsts, Leaves, disk_behind, firsts_of, seen_behind}
use Rattle.load_calls.specs.Printed.{AreCounted, disk_sum, is_read, is_trim, is_write, lines_text, load_text, seen_in, seen_sum}
use Rattle.load_calls.proofs.FourGuests.{forms_picked}
use Rattle.load_calls.proofs.Loads.{length_load, lines_are_counted, same_lines}

-- ---- a new disk

first_zeros : (n : ℕ) → map (λ (s : List ℕ). get_or s 0 0) (replicate n (zeros 512)) ≡ replicate n 0
unfolding zeros
first_zeros zero = refl
first_zeros (suc n) = ap (λ l. 0 ∷ l) (first_zeros n)

length_zeros : (z : ℕ) → length (zeros z) ≡ z
unfolding zeros
length_zeros z = length-replicate z 0

pub zero_firsts : (n : ℕ) → AreFirsts (zeros n) (zero_sectors n)
unfolding zeros zero_sectors firsts_of
zero_firsts n = record {
  sized = All-from_get_or (λ s. length s ≡ 512) (replicate n (zeros 512)) [] (λ i below.
      let inside : i < n = omega (arith, length-replicate n (zeros 512)) in
      ap length (get_or-replicate n i (zeros 512) [] inside) ∙ length_zeros 512);
  are = sym (first_zeros n);
}

pub new_firsts : (firsts : List ℕ) → firsts ≡ zeros 131072 → AreFirsts firsts new_disk
new_firsts firsts is = subst (λ l. AreFirsts l new_disk) (sym is) (zero_firsts 131072)

-- ---- lines and entries of the same calls

abbrev AreSame : List Line → History → Type 0
AreSame lines h = map (λ (l : Line). call_of l.form) lines ≡ map (λ (e : Entry). e.call) h

same_forms : (g k number : ℕ) (forms : List Form) → AreSame (lines_of g forms) (entries_from k number forms)
same_forms g k number [] = refl
same_forms g k number (form ∷ forms) = ap (λ l. call_of form ∷ l) (same_forms g k (number + 1) forms)

same_both : (a b : List Line) (h k : History) → AreSame a h → AreSame b k → AreSame (a ++ b) (h ++ k)
same_both a b h k p q =
    map-append (λ (l : Line). call_of l.form) a b ∙ ap (λ l. l ++ map (λ (l : Line). call_of l.form) b) p ∙ ap (λ l. map (λ (e : Entry). e.call) h ++ l) q
    ∙ sym (map-append (λ (e : Entry). e.call) h k)

same_disk : (disk : Disk) (lines : List Line) (h : History) → AreSame lines h → disk_behind disk lines ≡ replay 512 disk h
unfolding disk_behind
same_disk disk [] [] same = refl
same_disk disk [] (e ∷ h) same = cc
same_disk disk (l ∷ lines) [] same = cc
same_disk disk (l ∷ lines) (e ∷ h) same =
    let call : call_of l.form ≡ e.call = cc in
    let others : AreSame lines h = cc in
    ap (λ c. disk_behind (apply 512 disk c) lines) call ∙ same_disk (apply 512 disk e.call) lines h others

same_seen : (disk : Disk) (lines : List Line) (h : History) → AreSame lines h → seen_behind disk lines ≡ seen_sum disk h
unfolding seen_behind
same_seen disk [] [] same = refl
same_seen disk [] (e ∷ h) same = cc
same_seen disk (l ∷ lines) [] same = cc
same_seen disk (l ∷ lines) (e ∷ h) same =
    let call : call_of l.form ≡ e.call = cc in
    let others : AreSame lines h = cc in
    ap (λ c. seen_in (reply disk c) + seen_behind (apply 512 disk c) lines) call
    ∙ ap (λ n. seen_in (reply disk e.call) + n) (same_seen (apply 512 disk e.call) lines h others)
    ∙ sym (sum_by-cons (λ (t : Told). seen_in t.told) (record { entry = e; told = reply disk e.call }) (told_in 512 (apply 512 disk e.call) h))

same_load : (seed : ℕ) → AreSame (load_lines seed) (one_thread seed)
same_load seed =
    same_both _ _ (guest_history seed 1 ++ guest_history seed 2 ++ guest_history seed 3) (guest_history seed 4)
    (same_both _ _ (guest_history seed 1 ++ guest_history seed 2) (guest_history seed 3)
    (same_both _ _ (guest_history seed 1) (guest_history seed 2) (same_forms 1 1 1 (calls_of seed 1)) (same_forms 2 2 1 (calls_of seed 2))) (same_forms 3 3 1 (calls_of seed 3)))
    (same_forms 4 4 1 (calls_of seed 4))

-- ---- before the guests

length_preparing : (seed file : ℕ) → length (preparing_lines seed file) ≡ 33
unfolding forms_from
length_preparing seed file =
    let count : length (writes_to seed file) ≡ 32 = length-map-range_with_len (λ k. drawn_at write_by seed k) (32 * file) 32 in
    simp (length-map, length-append) (omega (arith, count))

pub few_preparing : (seed file : ℕ) → length (preparing_lines seed file) ≤ 2 ^ 20
few_preparing seed file = omega (arith, length_preparing seed file)

pub with_writes_left : (seed file : ℕ) (lines : List Line) (firsts : List ℕ) (seen : ℕ) (disk : Disk) → lines ≡ preparing_lines seed file → Leaves lines firsts seen disk → AreFirsts firsts (with_writes seed file disk)
with_writes_left seed file lines firsts seen disk is left =
    subst (AreFirsts firsts) (ap (disk_behind disk) is ∙ same_disk disk (preparing_lines seed file) _ (same_forms 1 1 1 _)) left.left

-- ---- the text

length_lines : (seed : ℕ) → length (load_lines seed) ≡ length (one_thread seed)
length_lines seed = sym (length-map (load_lines seed) (λ (l : Line). call_of l.form)) ∙ ap length (same_load seed) ∙ length-map (one_thread seed) (λ (e : Entry). e.call)

pub few_lines : (seed : ℕ) → length (load_lines seed) ≤ 2 ^ 20
few_lines seed = omega (arith, length_lines seed, length_load seed)

text_of : (seed : ℕ) (counts : Counts) (firsts : List ℕ) (disk seen : ℕ) → AreCounted (load_lines seed) counts → Leaves (load_lines seed) firsts seen (prepared_disk seed)
    → ((d : Disk) → AreFirsts firsts d → disk ≡ disk_sum d) → lines_text counts.calls counts.writes counts.trims counts.reads counts.flushes disk seen ≡ load_text seed
text_of seed counts firsts disk seen are left sum =
    same_lines _ _ _ _ _ _ _ _ _ _ _ _ _ _
    (are.calls ∙ length_lines seed)
    (are.writes ∙ lines_are_counted seed is_write)
    (are.trims ∙ lines_are_counted seed is_trim)
    (are.reads ∙ lines_are_counted seed is_read)
    (are.flushes ∙ lines_are_counted seed is_flush)
    (sum _ left.left ∙ ap disk_sum (same_disk (prepared_disk seed) (load_lines seed) (one_thread seed) (same_load seed)))
    (left.saw ∙ same_seen (prepared_disk seed) (load_lines seed) (one_thread seed) (same_load seed))

-- the same of lines and bytes under other names
pub text_is : (seed : ℕ) (counts : Counts) (run counted : List Line) (before behind : List ℕ) (disk seen : ℕ) → run ≡ load_lines seed → counted ≡ load_lines seed → AreFirsts before (prepared_disk seed)
    → AreCounted counted counts → ((d : Disk) → AreFirsts before d → Leaves run behind seen d) → ((d : Disk) → AreFirsts behind d → disk ≡ disk_sum d)
    → lines_text counts.calls counts.writes counts.trims counts.reads counts.flushes disk seen ≡ load_text seed
text_is seed counts run counted before behind disk seen ran count prepared are left sum =
    text_of seed counts behind disk seen
    (subst (λ l. AreCounted l counts) count are)
    (subst (λ l. Leaves l behind seen (prepared_disk seed)) ran (left (prepared_disk seed) prepared))
    sum

-- ---- how many lines there are, and whose

length_calls : (seed g : ℕ) → length (calls_of seed g) ≡ 256
unfolding forms_from
length_calls seed g = length-map-range_with_len (λ k. drawn_at (call_by g) seed k) (128 + 256 * (g - 1)) 256

all_lines : (P : Line → Type 0) (a b : List Line) → AllByRecursion P a → AllByRecursion P b → AllByRecursion P (a ++ b)
all_lines P [] b p q = q
all_lines P (l ∷ a) b p q = (p.0, all_lines P a b p.1 q)

guests_of : (g : ℕ) (forms : List Form) → 1 ≤ g → g ≤ 4 → AllByRecursion (λ (l : Line). (1 ≤ l.guest) × (l.guest ≤ 4)) (lines_of g forms)
guests_of g [] some few = tt
guests_of g (form ∷ forms) some few = ((some, few), guests_of g forms some few)

-- lines that are all of one guest's calls have these for it
own_forms : (g : ℕ) (forms : List Form) → AllByRecursion (λ form. is_call form ≡ true) forms → forms_of g (lines_of g forms) ≡ forms
own_forms g [] calls = refl
own_forms g (form ∷ forms) calls =
    let l : Line = record { guest = g; form = form } in
    let own : (nat_eq g g && is_call form) ≡ true = and_from (nat_eq g g) (is_call form) (eq-eqb g g refl) calls.0 in
    ap (map (λ (l : Line). l.form)) (cond-true (nat_eq g g && is_call form) (l ∷ filter (λ l. nat_eq l.guest g && is_call l.form) (lines_of g forms)) (filter (λ l. nat_eq l.guest g && is_call l.form) (lines_of g forms)) own)
    ∙ ap (λ fs. form ∷ fs) (own_forms g forms calls.1)

writes_are_calls : (seed k n : ℕ) → AllByRecursion (λ form. is_call form ≡ true) (forms_from write_by seed k n ++ Flush ∷ [])
unfolding forms_from
writes_are_calls seed k zero = (refl, tt)
writes_are_calls seed k (suc n) = (refl, writes_are_calls seed (k + 1) n)

pub preparing_forms : (seed file : ℕ) → forms_of 1 (preparing_lines seed file) ≡ writes_to seed file ++ Flush ∷ []
preparing_forms seed file = own_forms 1 (writes_to seed file ++ Flush ∷ []) (writes_are_calls seed (32 * file) 32)

pub loads_have_lines : (seed : ℕ) → HasLines seed
loads_have_lines seed = record {
  forms = forms_picked seed;
  each = length_calls seed;
  guests =
      let P : Line → Type 0 = λ l. (1 ≤ l.guest) × (l.guest ≤ 4) in
      all_lines P _ _ (all_lines P _ _ (all_lines P _ _ (guests_of 1 (calls_of seed 1) (omega arith) (omega arith)) (guests_of 2 (calls_of seed 2) (omega arith) (omega arith)))
      (guests_of 3 (calls_of seed 3) (omega arith) (omega arith))) (guests_of 4 (calls_of seed 4) (omega arith) (omega arith));
  all = length_lines seed ∙ length_load seed;
  preparing = length_preparing seed;
  prepared = preparing_forms seed;
}
