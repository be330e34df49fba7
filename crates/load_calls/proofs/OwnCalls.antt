-- The calls of a load's guests are of their own sectors, and lie on the disk.
use Rattle.std.proofs.Common.{◌≡◌, ℕ, ◌+◌, ◌-◌, ◌*◌, ◌/◌, ◌%◌, ◌<◌, ◌≤◌, ◌&&◌, Bool, true, false, cond, leb, ltb, nat_eq, List, [], ◌∷◌, length, map, replicate, refl, sym, ap, ◌∙◌, subst, arith}
use Rattle.std.specs.List.{AllByRecursion, range_with_len}
use Rattle.std.proofs.lemmas.Bool.{and_parts, leb-true, ltb-true}
use Rattle.std.proofs.lemmas.List.{length-replicate}
use Rattle.script.specs.Grammar.{is_call}
use Rattle.script.specs.declared.form.Form.{Form}
use Rattle.script.specs.declared.form.Form.TheVariants.{Read, Write, Trim, Flush}
use Rattle.load_calls.specs.Draws.{draw}
use Rattle.load_calls.specs.Histories.{KeepsToOwn, speaks_of}
use Rattle.load_calls.specs.Laws.{IsPlaced, WritesArePlaced, owner_of}
use Rattle.load_calls.specs.Load.{byte_by, call_by, call_of, calls_of, drawn_at, entries_from, forms_from, guest_history, sector_size, sectors_by, write_by}

-- ---- a range of sectors

in_own : (g first count i : ℕ) → 1 ≤ g → (g - 1) * 32768 ≤ first → first + count ≤ (g - 1) * 32768 + 32768 → first ≤ i → i < first + count → owner_of i ≡ g
in_own g first count i some low high from to = omega arith

-- one that a guest draws is in the guest's own sectors
ranged : (g a b i : ℕ) → 1 ≤ g → ((leb ((g - 1) * 32768 + b % 32753) i && ltb i ((g - 1) * 32768 + b % 32753 + sectors_by a)) ≡ true) → owner_of i ≡ g
ranged g a b i some spoken =
    let parts = and_parts _ _ spoken in
    let from : (g - 1) * 32768 + b % 32753 ≤ i = leb-true _ _ parts.0 in
    let to : i < (g - 1) * 32768 + b % 32753 + sectors_by a = ltb-true _ _ parts.1 in
    let few : sectors_by a ≤ 16 = omega arith in
    let inside : b % 32753 ≤ 32752 = omega arith in
    in_own g ((g - 1) * 32768 + b % 32753) (sectors_by a) i some (omega arith) (omega arith) from to

abbrev FitsDisk : ℕ → ℕ → Type 0
FitsDisk first count = (1 ≤ count) × (count ≤ 16) × (first + count ≤ 131072)

fits : (g a b : ℕ) → g ≤ 4 → FitsDisk ((g - 1) * 32768 + b % 32753) (sectors_by a)
fits g a b few =
    let most : sectors_by a ≤ 16 = omega arith in
    let inside : b % 32753 ≤ 32752 = omega arith in
    let front : (g - 1) * 32768 ≤ 98304 = omega arith in
    (omega arith, most, omega arith)

whole_sectors : (count byte : ℕ) → length (replicate (512 * count) byte) / 512 ≡ count
whole_sectors count byte = ap (λ n. n / 512) (length-replicate (512 * count) byte) ∙ (omega arith)

write_placed : (first count byte : ℕ) → FitsDisk first count → IsPlaced (call_of (Write first count byte))
write_placed first count byte h changed = subst (FitsDisk first) (sym (whole_sectors count byte)) h

-- ---- a call

-- a form's call is of guest g's own sectors, and on the disk
pub record IsOwnForm (g : ℕ) (form : Form) : Type 0 where
  pub own : (i : ℕ) → speaks_of sector_size (call_of form) i ≡ true → owner_of i ≡ g
  pub placed : IsPlaced (call_of form)
  pub asks : is_call form ≡ true

own_write : (g a b : ℕ) → 1 ≤ g → g ≤ 4 → IsOwnForm g (Write ((g - 1) * 32768 + b % 32753) (sectors_by a) (byte_by b))
own_write g a b some few = record {
  own = λ i spoken.
      ranged g a b i some (ap (λ n. leb ((g - 1) * 32768 + b % 32753) i && ltb i ((g - 1) * 32768 + b % 32753 + n)) (sym (whole_sectors (sectors_by a) (byte_by b))) ∙ spoken);
  placed = write_placed ((g - 1) * 32768 + b % 32753) (sectors_by a) (byte_by b) (fits g a b few);
  asks = refl;
}

own_trim : (g a b : ℕ) → 1 ≤ g → g ≤ 4 → IsOwnForm g (Trim ((g - 1) * 32768 + b % 32753) (sectors_by a))
own_trim g a b some few = record { own = λ i spoken. ranged g a b i some spoken; placed = λ changed. fits g a b few; asks = refl }

own_read : (g a b : ℕ) → 1 ≤ g → g ≤ 4 → IsOwnForm g (Read ((g - 1) * 32768 + b % 32753) (sectors_by a))
own_read g a b some few = record { own = λ i spoken. ranged g a b i some spoken; placed = λ changed. fits g a b few; asks = refl }

own_flush : (g : ℕ) → IsOwnForm g Flush
own_flush g = record { own = λ i spoken. absurd (none i (and_parts (leb 0 i) (ltb i 0) spoken).1); placed = λ changed. cc; asks = refl } where
  none : (i : ℕ) → ltb i 0 ≡ true → ⊥
  none i h = let high : i < 0 = ltb-true i 0 h in omega arith

own_cond : (g : ℕ) (b : Bool) (x y : Form) → IsOwnForm g x → IsOwnForm g y → IsOwnForm g (cond b x y)
own_cond g true x y p q = p
own_cond g false x y p q = q

own_call : (g a b : ℕ) → 1 ≤ g → g ≤ 4 → IsOwnForm g (call_by g a b)
own_call g a b some few =
    own_cond g (ltb (a % 8) 4) _ _ (own_write g a b some few)
    (own_cond g (nat_eq (a % 8) 4) _ _ (own_trim g a b some few) (own_cond g (ltb (a % 8) 7) _ _ (own_read g a b some few) (own_flush g)))

-- ---- all of a guest's

own_forms : (g seed : ℕ) (xs : List ℕ) → 1 ≤ g → g ≤ 4 → AllByRecursion (IsOwnForm g) (map (λ k. drawn_at (call_by g) seed k) xs)
own_forms g seed [] some few = tt
own_forms g seed (k ∷ xs) some few = (own_call g (draw seed (2 * k + 1)) (draw seed (2 * k + 2)) some few, own_forms g seed xs some few)

own_entries : (g number : ℕ) (forms : List Form) → AllByRecursion (IsOwnForm g) forms → AllByRecursion (KeepsToOwn sector_size owner_of) (entries_from g number forms)
own_entries g number [] own = tt
own_entries g number (form ∷ forms) own = (own.0.own, own_entries g (number + 1) forms own.1)

placed_entries : (g number : ℕ) (forms : List Form) → AllByRecursion (IsOwnForm g) forms → AllByRecursion (λ e. IsPlaced e.call) (entries_from g number forms)
placed_entries g number [] own = tt
placed_entries g number (form ∷ forms) own = (own.0.placed, placed_entries g (number + 1) forms own.1)

pub guest_forms : (seed g : ℕ) → 1 ≤ g → g ≤ 4 → AllByRecursion (IsOwnForm g) (calls_of seed g)
unfolding forms_from
guest_forms seed g some few = own_forms g seed (range_with_len (128 + 256 * (g - 1)) 256) some few

pub guest_keeps : (seed g : ℕ) → 1 ≤ g → g ≤ 4 → AllByRecursion (KeepsToOwn sector_size owner_of) (guest_history seed g)
guest_keeps seed g some few = own_entries g 1 (calls_of seed g) (guest_forms seed g some few)

pub guest_placed : (seed g : ℕ) → 1 ≤ g → g ≤ 4 → AllByRecursion (λ e. IsPlaced e.call) (guest_history seed g)
guest_placed seed g some few = placed_entries g 1 (calls_of seed g) (guest_forms seed g some few)

-- ---- the writes before them

placed_writes : (seed : ℕ) (xs : List ℕ) → AllByRecursion (λ form. IsPlaced (call_of form)) (map (λ k. drawn_at write_by seed k) xs)
placed_writes seed [] = tt
placed_writes seed (k ∷ xs) =
    let a : ℕ = draw seed (2 * k + 1) in
    let b : ℕ = draw seed (2 * k + 2) in
    let most : sectors_by a ≤ 16 = omega arith in
    let inside : b % 131057 ≤ 131056 = omega arith in
    (write_placed (b % 131057) (sectors_by a) (byte_by b) (omega arith, most, omega arith), placed_writes seed xs)

pub writes_are_placed : WritesArePlaced
unfolding forms_from
writes_are_placed seed file = placed_writes seed (range_with_len (32 * file) 32)
