-- Numbers that differ, and bounds and sums that the other files need, over plain variables: `omega` reads all that stands around it.
use Rattle.std.proofs.Common.{◌≡◌, ◌≢◌, ◌<◌, ◌≤◌, ◌+◌, ◌-◌, ◌*◌, ◌^◌, ℕ, suc, min, length, subst, arith, rules, ◌/◌, ◌%◌, sym}
use Rattle.std.proofs.lemmas.List.{places}
use Rattle.std.specs.Prelude.{Vec}
use Rattle.chain_model.specs.Stripes.{per_stripe}

-- ---- numbers that differ

pub next_not_zero : (n : ℕ) → n + 1 ≢ 0
next_not_zero n e = absurd (omega (arith, e))

pub zero_not_next : (n : ℕ) → 0 ≢ n + 1
zero_not_next n e = absurd (omega (arith, e))

pub suc_not_zero : (n : ℕ) → suc n ≢ 0
suc_not_zero n e = absurd (omega (arith, e))

pub zero_not_suc : (n : ℕ) → 0 ≢ suc n
zero_not_suc n e = absurd (omega (arith, e))

pub two_more_not_zero : (n : ℕ) → n + 2 ≢ 0
two_more_not_zero n e = absurd (omega (arith, e))

pub next_not_same : (n : ℕ) → n + 1 ≢ n
next_not_same n e = absurd (omega (arith, e))

pub same_not_next : (n : ℕ) → n ≢ n + 1
same_not_next n e = absurd (omega (arith, e))

pub second_not_same : (n : ℕ) → n + 1 + 1 ≢ n
second_not_same n e = absurd (omega (arith, e))

pub same_not_second : (n : ℕ) → n ≢ n + 1 + 1
same_not_second n e = absurd (omega (arith, e))

pub some_not_zero : (n : ℕ) → 0 < n → n ≢ 0
some_not_zero n some e = absurd (omega (arith, some, e))

pub zero_and_next : (s n : ℕ) → s ≡ 0 → s ≡ n + 1 → ⊥
zero_and_next s n none some = absurd (omega (arith, none, some))

-- a number that is 1 at least, or 2
pub from_one : (k : ℕ) → 1 ≤ k → k ≢ 0
from_one k from e = absurd (omega (arith, from, e))

pub from_two_first : (k : ℕ) → 2 ≤ k → k ≢ 0
from_two_first k from e = absurd (omega (arith, from, e))

pub from_two_second : (k : ℕ) → 2 ≤ k → k ≢ 1
from_two_second k from e = absurd (omega (arith, from, e))

-- one that is below a place and those behind it
pub up_to_last : (k n : ℕ) → k < 1 + n → k ≢ suc n
up_to_last k n to e = absurd (omega (arith, to, e))

pub up_to_next : (k n : ℕ) → k < 1 + n → k ≢ suc n + 1
up_to_next k n to e = absurd (omega (arith, to, e))

pub up_to_second : (k n : ℕ) → k < 1 + n → k ≢ suc n + 1 + 1
up_to_second k n to e = absurd (omega (arith, to, e))

-- one behind three places
pub from_third_zero : (k n : ℕ) → n + 1 + 1 + 1 ≤ k → k ≢ 0
from_third_zero k n from e = absurd (omega (arith, from, e))

pub from_third_first : (k n : ℕ) → n + 1 + 1 + 1 ≤ k → k ≢ n
from_third_first k n from e = absurd (omega (arith, from, e))

pub from_third_second : (k n : ℕ) → n + 1 + 1 + 1 ≤ k → k ≢ n + 1
from_third_second k n from e = absurd (omega (arith, from, e))

pub from_third_last : (k n : ℕ) → n + 1 + 1 + 1 ≤ k → k ≢ n + 1 + 1
from_third_last k n from e = absurd (omega (arith, from, e))

-- ---- sums

pub next_is : (n : ℕ) → n + 1 ≡ 1 + n
next_is n = omega arith

pub second_is : (n : ℕ) → n + 1 + 1 ≡ 1 + n + 1
second_is n = omega arith

pub third_is : (n : ℕ) → n + 1 + 1 + 1 ≡ 1 + n + 1 + 1
third_is n = omega arith

pub three_more : (n : ℕ) → n + 1 + 1 + 1 ≡ n + 3
three_more n = omega arith

pub suc_next : (n : ℕ) → suc n ≡ n + 1
suc_next n = omega arith

pub suc_is : (k n : ℕ) → k ≡ n → suc n ≡ 1 + k
suc_is k n same = omega (arith, same)

pub next_suc : (k n : ℕ) → k ≡ n → k + 1 ≡ suc n
next_suc k n same = omega (arith, same)

pub before_suc : (k n : ℕ) → k ≡ n → suc n - 1 ≡ k
before_suc k n same = omega (arith, same)

pub same_before : (s a b : ℕ) → s ≡ a + 1 → s ≡ b + 1 → a ≡ b
same_before s a b first second = omega (arith, first, second)

pub suc_place : (s n k : ℕ) → s ≡ suc n → k ≡ n → s ≡ k + 1
suc_place s n k first second = omega (arith, first, second)

pub second_place : (s at a b : ℕ) → s + 2 ≡ at + 1 → a ≡ at → s ≡ b → a ≡ b + 1
second_place s at a b e place source = omega (arith, e, place, source)

pub next_long : (s p a l : ℕ) → s ≡ p + 1 → a ≡ p → l ≡ a + 1 → s ≡ l
next_long s p a l place before long = omega (arith, place, before, long)

-- ---- bounds

pub zero_one : 0 < 1
zero_one = omega arith

pub zero_suc : (n : ℕ) → 0 < suc n
zero_suc n = omega arith

pub one_up : (n : ℕ) → n ≤ n + 1
one_up n = omega arith

pub one_low : (n : ℕ) → n ≡ 1 → n ≤ 1
one_low n one = omega (arith, one)

pub one_low_two : (n : ℕ) → n ≡ 1 → n ≤ 2
one_low_two n one = omega (arith, one)

pub two_low : (a b : ℕ) → a ≡ 1 → b ≤ a + 1 → b ≤ 2
two_low a b first next = omega (arith, first, next)

pub same_low : (was now most : ℕ) → was ≤ most + 3 → now ≡ was → now ≤ most + 3
same_low was now most low same = omega (arith, low, same)

pub few_pages : (a b : ℕ) → a ≤ 22 → b ≡ a → b ≤ 120
few_pages a b few same = omega (arith, few, same)

pub before_next : (s n : ℕ) → s + 1 < n → s < n
before_next s n room = omega (arith, room)

pub some_room : (s n : ℕ) → s + 1 < n → 0 < n
some_room s n room = omega (arith, room)

pub within_same : (s n k : ℕ) → s + 1 < n → k ≡ n → s < k
within_same s n k room long = omega (arith, room, long)

pub room_behind : (s n a b p : ℕ) → s + 1 < n → n ≡ a + suc b → a ≡ p → s ≡ p + 1 → 0 < b
room_behind s n a b p room count before place = omega (arith, room, count, before, place)

pub next_within : (k n : ℕ) → k < n → suc k < suc n
next_within k n below = omega (arith, below)

pub back_one : (n : ℕ) → 0 < n → n ≡ n - 1 + 1
back_one n some = omega (arith, some)

pub none_below : (n : ℕ) → n ≤ 0 → n ≡ 0
none_below n none = omega (arith, none)

pub two_up : (a b : ℕ) → b ≡ a → a + 2 ≡ b + 1 + 1
two_up a b same = omega (arith, same)

pub same_up : (a b : ℕ) → a ≡ b → a ≤ b + 1
same_up a b same = omega (arith, same)

pub within_len : (s n k l : ℕ) → s + 1 < n → k ≡ n → k ≡ l → s < l
within_len s n k l room long len = omega (arith, room, long, len)

-- so few files that their count fits
pub fits_below : (n b : ℕ) → n + b ≤ 64 → n < 2 ^ 32
fits_below n b few = omega (arith, few)

pub fits_most : (n b : ℕ) → n + b ≤ 64 → n ≤ 2 ^ 32 - 1
fits_most n b few = omega (arith, few)

-- how much a call writes or trims at most
pub few_bytes : (n z : ℕ) → 512 ≡ z → n % z ≡ 0 → n / z ≤ 2048 → n ≤ 2 ^ 20
few_bytes n z is whole few =
    let w : n % 512 ≡ 0 = subst (λ (k : ℕ). n % k ≡ 0) (sym is) whole in
    let f : n / 512 ≤ 2048 = subst (λ (k : ℕ). n / k ≤ 2048) (sym is) few in
    omega (arith, w, f)

pub few_zeros : (z count : ℕ) → 512 ≡ z → count ≤ 524288 → z * count ≤ 2 ^ 28
few_zeros z count is few = subst (λ (k : ℕ). k * count ≤ 2 ^ 28) is (let own : 512 * count ≤ 2 ^ 28 = omega (arith, few) in own)

-- as many bits as a mask of 256 bytes has
pub mask_holds : (n l : ℕ) → n ≤ 2048 → l ≡ 256 → n ≤ 8 * l
mask_holds n l few len = omega (arith, few, len)

pub some_512 : 0 < 512
some_512 = omega arith

-- the length of a vector
pub length_items : {X Z : Type 0} (v : Vec X Z) → length v.items ≡ v.len
length_items v = search (rules, places)

-- files that stand in the store: two and those below them, or three between those above and those below
pub two_there : (b d e : ℕ) → suc (suc b) ≤ d → e ≡ d → 2 + b ≤ e
two_there b d e there same = omega (arith, there, same)

pub three_between : (l a b n : ℕ) → l ≡ a + suc (suc (suc b)) → l ≤ n → a + 3 + b ≤ n
three_between l a b n long there = omega (arith, long, there)

pub some_files : (a b n : ℕ) → a + 3 + b ≤ n → 0 < n
some_files a b n there = omega (arith, there)

pub three_above : (a b d e : ℕ) → a + 3 + b ≤ d → e ≡ d → a + 3 ≤ e
three_above a b d e there same = omega (arith, there, same)

pub all_there : (a b d e : ℕ) → a + 3 + b ≤ d → e ≡ d → a + 1 + 1 + 1 + b ≤ e
all_there a b d e there same = omega (arith, there, same)

pub some_there : (n : ℕ) → 3 ≤ n → 1 ≤ n
some_there n there = omega (arith, there)

pub less_there : (k n : ℕ) → suc k + 3 ≤ n → 1 + k ≤ n
less_there k n there = omega (arith, there)

-- numbers of logs and headers
pub three_of_five : 2 ^ 63 + 3 ≤ 2 ^ 63 + 5
three_of_five = omega arith

pub four_of_five : 2 ^ 63 + 3 + 1 ≤ 2 ^ 63 + 5
four_of_five = omega arith

pub five_of_five : 2 ^ 63 + 3 + 1 + 1 ≤ 2 ^ 63 + 5
five_of_five = omega arith

pub far_below : (n : ℕ) → n ≤ 2 ^ 63 + 6 → n ≤ 2 ^ 63 + 8
far_below n low = omega (arith, low)

pub one_far_below : (a b c : ℕ) → a ≤ 2 ^ 63 + 6 → a ≡ b → c ≤ b + 1 → c ≤ 2 ^ 63 + 8
one_far_below a b c low same next = omega (arith, low, same, next)

pub far_next : (n : ℕ) → n ≤ 2 ^ 63 + 4 → n + 1 ≤ 2 ^ 64 - 2 ^ 32
far_next n low = omega (arith, low)

pub first_low : (n : ℕ) → n ≡ 1 → n ≤ 2 ^ 64 - 2 ^ 32
first_low n first = omega (arith, first)

pub next_fits : (n : ℕ) → n ≤ 2 ^ 64 - 2 ^ 32 → min (min (n + 1) (2 ^ 64 - 1) + 1) (2 ^ 64 - 1) < 2 ^ 64 - 2 ^ 31
next_fits n low = omega (arith, low)

-- ---- stripes

pub stripe_of_512 : (z : ℕ) → 512 ≡ z → 0 < per_stripe z
stripe_of_512 z is = subst (λ (n : ℕ). 0 < per_stripe n) is (omega arith)
