-- A disk in memory that tells its history.
use Rattle.std.proofs.Common.{◌≡◌, ◌≤◌, ◌<◌, ℕ, zero, suc, ◌+◌, ◌-◌, ◌*◌, ◌/◌, ◌%◌, ◌++◌, ◌&&◌, Bool, true, false, cond, leb, ltb, List, [], ◌∷◌, length, take, drop, replicate, Ok, Err, Result, refl, sym, ap, subst, ◌∙◌, arith, append_assoc, length-append, length-drop, length-take-le, inl, inr}
use Rattle.std.proofs.lemmas.Bool.{cases_lt, and_parts, and_from, lt-ltb, le-leb, ltb-true, leb-true}
use Rattle.std.proofs.lemmas.List.{append-nil, take-append-le, take-append-drop, drop-append-le, drop-take, drop-drop, drop_more, take-replicate, drop-replicate, length-replicate, take-take, get_or-replicate}
use Rattle.std.specs.Prelude.{IfOk, OnErr, IsErr}
use lib.Seq.{drop_at}
use Rattle.vx_base.specs.Fields.{bytes_at, written_over, zeros}
use Rattle.vx_base.proofs.ByteLists.{length-overwritten}
use Rattle.guest_model.specs.declared.call.Call.{Call}
use Rattle.guest_model.specs.declared.call.Call.TheVariants.{Flush, Read, Trim, Write}
use Rattle.guest_model.specs.declared.call.Reply.{Reply}
use Rattle.guest_model.specs.declared.call.Reply.TheVariants as replies
use Rattle.guest_model.specs.declared.call.Entry.{Entry}
use Rattle.guest_model.specs.declared.refusal.ChainRefusal.{ChainRefusal}
use Rattle.guest_model.specs.Calls.{Disk, changes, content, is_named, reply, bytes_of}
use Rattle.guest_model.specs.History.{History, replay, sector_at}
use Rattle.guest_model.proofs.HistoryLaws.{length-replay, replay_unchanged, sector_at-replay_push}
use Rattle.disk_calls.specs.Disks.{IsNoted, IsTrueOf, Known, plain, through, told, was_done, was_flushed, was_refused, was_unflushed}
use Rattle.nbd_tests.specs.Told.{Holds, blank, known_of, places_to}

-- ---- what is told

abbrev pub entry : Call → Entry
entry call = record { guest = 1; no = 0; call = call }

push_len : (h : History) (e : Entry) → length (h ++ e ∷ []) ≡ suc (length h)
push_len h e = omega (arith, length-append h (e ∷ []))

-- a call that was done and noted
pub is_done : (bytes now : List ℕ) (h h' : History) (call : Call) (place : ℕ) (said : Reply) → length now ≡ length bytes
    → h' ≡ h ++ entry call ∷ [] → place ≡ length h' → said ≡ reply (replay 512 (blank (length bytes / 512)) h) call
    → IsTrueOf 512 (known_of bytes h) (known_of now h') (plain call) (Ok (place, said))
is_done bytes now h h' call place said len e at answer =
    let whole : (h ++ []) ++ entry call ∷ [] ≡ h' = ap (λ (l : History). l ++ entry call ∷ []) (append-nil h) ∙ sym e in
    let count : length h' ≡ suc (length h) = ap length e ∙ push_len h (entry call) in
    let places : places_to (length h') ≡ places_to (length h) ++ place ∷ [] = ap places_to count ∙ ap (λ (n : ℕ). places_to (length h) ++ n ∷ []) (sym (at ∙ count)) in
    let n : IsNoted call place (known_of bytes h) (known_of now h') = record {
      others = [];
      number = 0;
      is = ap (λ n. record (known_of bytes h) { opening = blank (n / 512); seen = h'; mine = places_to (length h') }) len
          ∙ ap (λ l. record (known_of bytes h) { seen = l; mine = places_to (length h') }) (sym whole)
          ∙ ap (λ l. record (known_of bytes h) { seen = (h ++ []) ++ entry call ∷ []; mine = l }) places;
      last = at;
    } in
    was_done n (answer ∙ ap (λ l. reply (replay 512 (blank (length bytes / 512)) l) call) (sym (append-nil h)))

-- one that was refused
pub is_refused : (bytes now : List ℕ) (h h' : History) (call : Call) (refusal : ChainRefusal) → now ≡ bytes → h' ≡ h
    → IsTrueOf 512 (known_of bytes h) (known_of now h') (plain call) (Err refusal)
is_refused bytes now h h' call refusal same e =
    was_refused [] (ap (λ (b : List ℕ). known_of b h') same ∙ ap (known_of bytes) e ∙ ap (λ l. record (known_of bytes h) { seen = l }) (sym (append-nil h)))

-- ---- what the bytes hold

-- a call that changes nothing
pub holds_still : (h : History) (call : Call) (bytes : List ℕ) → changes call ≡ false → Holds h bytes → Holds (h ++ entry call ∷ []) bytes
holds_still h call bytes still holds = record {
  each = λ i below. holds.each i below ∙ ap (λ d. sector_at d i) (sym (replay_unchanged 512 (blank (length bytes / 512)) h (entry call) still));
}

-- ---- parts of what was written

part_before : (s w : List ℕ) (at place n : ℕ) → at ≤ length s → place + n ≤ at → bytes_at (written_over s at w) place n ≡ bytes_at s place n
unfolding bytes_at written_over
part_before s w at place n inside before =
    let front : length (take at s) ≡ at = length-take-le at s inside in
    let rest : place + (at - place) ≡ at = omega arith in
    let part : drop place (take at s) ≡ take (at - place) (drop place s) = ap (λ k. drop place (take k s)) (sym rest) ∙ drop-take place (at - place) s in
    ap (take n) (drop-append-le place (take at s ++ w) (drop (at + length w) s) (omega (arith, front, length-append (take at s) w)))
    ∙ ap (λ l. take n (l ++ drop (at + length w) s)) (drop-append-le place (take at s) w (omega (arith, front)))
    ∙ take-append-le n (drop place (take at s) ++ w) (drop (at + length w) s) (omega (arith, front, length-append (drop place (take at s)) w, length-drop place (take at s)))
    ∙ take-append-le n (drop place (take at s)) w (omega (arith, front, length-drop place (take at s)))
    ∙ ap (take n) part ∙ take-take n (at - place) (drop place s) (omega arith)

part_behind : (s w : List ℕ) (at place n : ℕ) → at ≤ length s → at + length w ≤ place → bytes_at (written_over s at w) place n ≡ bytes_at s place n
unfolding bytes_at written_over
part_behind s w at place n inside behind =
    let front : length (take at s ++ w) ≡ at + length w = length-append (take at s) w ∙ ap (λ k. k + length w) (length-take-le at s inside) in
    let rest : (at + length w) + (place - (at + length w)) ≡ place = omega arith in
    ap (λ k. take n (drop k ((take at s ++ w) ++ drop (at + length w) s))) (sym rest)
    ∙ ap (take n) (sym (drop-drop (place - (at + length w)) (at + length w) ((take at s ++ w) ++ drop (at + length w) s)))
    ∙ ap (λ l. take n (drop (place - (at + length w)) l)) (drop_at (take at s ++ w) (drop (at + length w) s) (at + length w) front)
    ∙ ap (take n) (drop-drop (place - (at + length w)) (at + length w) s)
    ∙ ap (λ k. take n (drop k s)) rest

part_there : (s w : List ℕ) (at place k n : ℕ) → at ≤ length s → place ≡ at + k → k + n ≤ length w → bytes_at (written_over s at w) place n ≡ bytes_at w k n
unfolding bytes_at written_over
part_there s w at place k n inside e within =
    let front : length (take at s) ≡ at = length-take-le at s inside in
    ap (λ p. take n (drop p ((take at s ++ w) ++ drop (at + length w) s))) e
    ∙ ap (take n) (sym (drop-drop k at ((take at s ++ w) ++ drop (at + length w) s)))
    ∙ ap (λ l. take n (drop k (drop at l))) (append_assoc (take at s) w (drop (at + length w) s))
    ∙ ap (λ l. take n (drop k l)) (drop_at (take at s) (w ++ drop (at + length w) s) at front)
    ∙ ap (take n) (drop-append-le k w (drop (at + length w) s) (omega arith))
    ∙ take-append-le n (drop k w) (drop (at + length w) s) (omega (arith, length-drop k w))

-- ---- a call that changes sectors

-- a call names so many sectors from the first on, and these bytes are what it leaves in them
pub record Fills (call : Call) (first count : ℕ) (w : List ℕ) : Type 0 where
  pub len : length w ≡ 512 * count
  pub named : (i : ℕ) → is_named 512 call i ≡ (leb first i && ltb i (first + count))
  pub content_is : (k : ℕ) → k < count → content 512 call (first + k) ≡ bytes_at w (512 * k) 512

pub holds_over : (h : History) (call : Call) (bytes w : List ℕ) (first count : ℕ) → Fills call first count w → first + count ≤ length bytes / 512
    → Holds h bytes → Holds (h ++ entry call ∷ []) (written_over bytes (512 * first) w)
holds_over h call bytes w first count fills inside holds =
    let room : 512 * first + length w ≤ length bytes = omega (arith, fills.len) in
    let len = length-overwritten bytes w (512 * first) room in
    record {
      each = λ i below.
          let here : i < length bytes / 512 = subst (λ n. i < n / 512) len below in
          let there : i < length (blank (length bytes / 512)) = omega (arith, length-replicate (length bytes / 512) (zeros 512)) in
          sector i here room ∙ sym (sector_at-replay_push 512 (blank (length bytes / 512)) h (entry call) i there)
          ∙ ap (λ n. sector_at (replay 512 (blank (n / 512)) (h ++ entry call ∷ [])) i) (sym len);
    }
  where
    changed : (i : ℕ) → 512 * first + length w ≤ length bytes → first ≤ i → i < first + count → bytes_at (written_over bytes (512 * first) w) (512 * i) 512 ≡ content 512 call i
    changed i room low high =
        let place : 512 * i ≡ 512 * first + 512 * (i - first) = omega arith in
        let number : first + (i - first) ≡ i = omega arith in
        part_there bytes w (512 * first) (512 * i) (512 * (i - first)) 512 (omega arith) place (omega (arith, fills.len))
        ∙ sym (fills.content_is (i - first) (omega arith)) ∙ ap (content 512 call) number

    sector : (i : ℕ) → i < length bytes / 512 → 512 * first + length w ≤ length bytes
        → bytes_at (written_over bytes (512 * first) w) (512 * i) 512 ≡ cond (is_named 512 call i) (content 512 call i) (sector_at (replay 512 (blank (length bytes / 512)) h) i)
    sector i below room = by_test (leb first i && ltb i (first + count)) refl
      where
        named : (b : Bool) → (leb first i && ltb i (first + count)) ≡ b
            → cond b (content 512 call i) (sector_at (replay 512 (blank (length bytes / 512)) h) i) ≡ cond (is_named 512 call i) (content 512 call i) (sector_at (replay 512 (blank (length bytes / 512)) h) i)
        named b e = ap (λ t. cond t (content 512 call i) (sector_at (replay 512 (blank (length bytes / 512)) h) i)) (sym (fills.named i ∙ e))

        by_test : (b : Bool) → (leb first i && ltb i (first + count)) ≡ b
            → bytes_at (written_over bytes (512 * first) w) (512 * i) 512 ≡ cond (is_named 512 call i) (content 512 call i) (sector_at (replay 512 (blank (length bytes / 512)) h) i)
        by_test true e =
            let both = and_parts _ _ e in
            changed i room (leb-true _ _ both.0) (ltb-true _ _ both.1) ∙ named true e
        by_test false e = elim (cases_lt i first) [
          | inl low ↦ part_before bytes w (512 * first) (512 * i) 512 (omega arith) (omega arith) ∙ holds.each i below ∙ named false e
          | inr past ↦ elim (cases_lt i (first + count)) [
            | inl high ↦ absurd (let t : (leb first i && ltb i (first + count)) ≡ true = and_from _ _ (le-leb _ _ past) (lt-ltb _ _ high) in let f : true ≡ false = sym t ∙ e in cc)
            | inr high ↦ part_behind bytes w (512 * first) (512 * i) 512 (omega arith) (omega (arith, fills.len)) ∙ holds.each i below ∙ named false e
          ]
        ]

pub write_fills : (first : ℕ) (w : List ℕ) → length w % 512 ≡ 0 → Fills (Write first w) first (length w / 512) w
unfolding bytes_at
write_fills first w whole = record {
  len = omega arith;
  named = λ i. refl;
  content_is = λ k below.
      let place : first + k - first ≡ k = omega arith in
      let times : k * 512 ≡ 512 * k = omega arith in
      ap (λ m. take 512 (drop (m * 512) w)) place ∙ ap (λ m. take 512 (drop m w)) times;
}

pub trim_fills : (first count : ℕ) → Fills (Trim first count) first count (replicate (512 * count) 0)
unfolding bytes_at zeros
trim_fills first count = record {
  len = length-replicate (512 * count) 0;
  named = λ i. refl;
  content_is = λ k below.
      sym (ap (take 512) (drop-replicate (512 * k) (512 * count) 0) ∙ take-replicate 512 (512 * count - 512 * k) 0 (omega arith));
}

-- ---- reads

-- bytes of which each piece is a sector of a disk are those of its sectors
same_sectors : (n first : ℕ) (bytes : List ℕ) (disk : Disk) → length bytes ≡ 512 * n → first + n ≤ length disk
    → ((i : ℕ) → i < n → take 512 (drop (512 * i) bytes) ≡ sector_at disk (first + i)) → bytes ≡ bytes_of (take n (drop first disk))
same_sectors zero first bytes disk len within each = empty bytes (omega (arith, len))
  where
    empty : (xs : List ℕ) → length xs ≡ 0 → xs ≡ []
    empty [] h = refl
    empty (x ∷ xs) h = absurd (omega (arith, h))
same_sectors (suc n) first bytes disk len within each =
    let here : take 512 bytes ≡ sector_at disk first = each 0 (omega arith) ∙ ap (sector_at disk) (same first) in
    let rest : drop 512 bytes ≡ bytes_of (take n (drop (first + 1) disk)) =
    same_sectors n (first + 1) (drop 512 bytes) disk (length-drop 512 bytes ∙ omega (arith, len)) (omega (arith, within))
    (λ i h.
    let place : 512 + 512 * i ≡ 512 * (i + 1) = omega arith in
    let number : first + (i + 1) ≡ first + 1 + i = omega arith in
    ap (take 512) (drop-drop (512 * i) 512 bytes ∙ ap (λ k. drop k bytes) place) ∙ each (i + 1) (omega (arith, h)) ∙ ap (sector_at disk) number) in
    let first_is : drop first disk ≡ sector_at disk first ∷ drop (first + 1) disk = drop_more disk first [] (omega (arith, within)) in
    sym (take-append-drop 512 bytes) ∙ ap (λ x. x ++ drop 512 bytes) here ∙ ap (λ x. sector_at disk first ++ x) rest
    ∙ ap (λ d. bytes_of (take (suc n) d)) (sym first_is)
  where
    same : (n : ℕ) → n + 0 ≡ n
    same n = omega arith

-- what stands in the bytes is what a read is answered
pub reads_back : (h : History) (bytes buf : List ℕ) (first count at : ℕ) → Holds h bytes → first + count ≤ length bytes / 512 → at ≡ 512 * first
    → buf ≡ take (512 * count) (drop at bytes) → replies.Bytes buf ≡ reply (replay 512 (blank (length bytes / 512)) h) (Read first count)
unfolding bytes_at
reads_back h bytes buf first count at holds inside place same =
    let whole : length buf ≡ 512 * count = ap length same ∙ length-take-le (512 * count) (drop at bytes) (omega (arith, length-drop at bytes)) in
    let sectors : length (replay 512 (blank (length bytes / 512)) h) ≡ length bytes / 512 = length-replay 512 (blank (length bytes / 512)) h ∙ length-replicate (length bytes / 512) (zeros 512) in
    ap replies.Bytes (same_sectors count first buf (replay 512 (blank (length bytes / 512)) h) whole (omega (arith, sectors)) (λ i below.
    let sum : 512 * i + (512 * count - 512 * i) ≡ 512 * count = omega arith in
    let there : at + 512 * i ≡ 512 * (first + i) = omega arith in
    ap (λ (l : List ℕ). take 512 (drop (512 * i) l)) same
    ∙ ap (λ k. take 512 (drop (512 * i) (take k (drop at bytes)))) (sym sum)
    ∙ ap (take 512) (drop-take (512 * i) (512 * count - 512 * i) (drop at bytes))
    ∙ take-take 512 (512 * count - 512 * i) (drop (512 * i) (drop at bytes)) (omega arith)
    ∙ ap (take 512) (drop-drop (512 * i) at bytes)
    ∙ ap (λ k. take 512 (drop k bytes)) there
    ∙ holds.each (first + i) (omega arith)))

-- ---- a blank disk

pub holds_blank : (n : ℕ) → Holds [] (zeros n)
unfolding bytes_at zeros
holds_blank n = record {
  each = λ i below.
      let len = length-replicate n 0 in
      let inside : i < n / 512 = subst (λ k. i < k / 512) len below in
      ap (take 512) (drop-replicate (512 * i) n 0) ∙ take-replicate 512 (n - 512 * i) 0 (omega arith)
      ∙ sym (get_or-replicate (n / 512) i (replicate 512 0) [] inside) ∙ ap (λ k. sector_at (blank (k / 512)) i) (sym len);
}

-- ---- by the answer

-- a call that wasn't noted
pub not_done : (bytes now : List ℕ) (h h' : History) (call : Call) (said : Reply) (r : Result ℕ ChainRefusal) → IsErr r → now ≡ bytes → h' ≡ h
    → IsTrueOf 512 (known_of bytes h) (known_of now h') (plain call) (told said r)
not_done bytes now h h' call said (Ok place) err same e = cc
not_done bytes now h h' call said (Err refusal) err same e = is_refused bytes now h h' call refusal same e

-- a call that changes nothing
pub still_told : (bytes : List ℕ) (h h' : History) (call : Call) (said : Reply) (r : Result ℕ ChainRefusal)
    → IfOk r (λ place. h' ≡ h ++ entry call ∷ []) → IfOk r (λ place. place ≡ length h') → OnErr r (h' ≡ h) → said ≡ reply (replay 512 (blank (length bytes / 512)) h) call
    → IsTrueOf 512 (known_of bytes h) (known_of bytes h') (plain call) (told said r)
still_told bytes h h' call said (Ok place) noted at same answer = is_done bytes bytes h h' call place said refl noted at answer
still_told bytes h h' call said (Err refusal) noted at same answer = is_refused bytes bytes h h' call refusal refl same

pub still_holds : (bytes : List ℕ) (h h' : History) (call : Call) (r : Result ℕ ChainRefusal) → changes call ≡ false
    → IfOk r (λ place. h' ≡ h ++ entry call ∷ []) → OnErr r (h' ≡ h) → Holds h bytes → Holds h' bytes
still_holds bytes h h' call (Ok place) still noted same holds = subst (λ k. Holds k bytes) (sym noted) (holds_still h call bytes still holds)
still_holds bytes h h' call (Err refusal) still noted same holds = subst (λ k. Holds k bytes) (sym same) holds

-- ---- a write that is flushed before it is told

-- the Write was refused
pub write_refused : (old new : Known) (first : ℕ) (with : List ℕ) (e : ChainRefusal) (r : Result ℕ ChainRefusal) → IsErr r → IsTrueOf 512 old new (plain (Write first with)) (told replies.Done (Err e))
    → IsTrueOf 512 old new (through first with) (told replies.Done r)
write_refused old new first with e (Ok place) err h = cc
write_refused old new first with e (Err refusal) err (was_refused others is) = was_refused others is

-- it was done, and the Flush was refused
pub flush_refused : (old mid new : Known) (first : ℕ) (with : List ℕ) (place : ℕ) (e : ChainRefusal) (r : Result ℕ ChainRefusal) → IsErr r → IsTrueOf 512 old mid (plain (Write first with)) (told replies.Done (Ok place))
    → IsTrueOf 512 mid new (plain Flush) (told replies.Done (Err e)) → IsTrueOf 512 old new (through first with) (told replies.Done r)
flush_refused old mid new first with place e (Ok p) err w h = cc
flush_refused old mid new first with place e (Err refusal) err (was_done noted said) (was_refused others is) = was_unflushed mid noted others is

-- both were done
pub both_done : (old mid new : Known) (first : ℕ) (with : List ℕ) (place flushed : ℕ) → IsTrueOf 512 old mid (plain (Write first with)) (told replies.Done (Ok place)) → IsTrueOf 512 mid new (plain Flush) (told replies.Done (Ok flushed))
    → IsTrueOf 512 old new (through first with) (told replies.Done (Ok place))
both_done old mid new first with place flushed (was_done noted said) (was_done flush done) = was_flushed mid noted flush
