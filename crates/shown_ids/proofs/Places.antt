-- A place of the log by its first bytes, and places one behind the other.
use Rattle.std.proofs.Common.{◌≡◌, ℕ, zero, suc, ◌+◌, ◌-◌, ◌*◌, ◌≤◌, List, ◌++◌, take, drop, sym, ap, ◌∙◌, arith}
use Rattle.std.specs.Prelude.{Option, Some, None, if◌then◌else◌, codes}
use Rattle.std.specs.Str.{bytes_eq}
use Rattle.std.proofs.lemmas.List.{append_assoc, append-nil, drop-drop, drop-take, take-take}
use Rattle.uuid.specs.Parts.{swap_fields}
use Rattle.vx_base.specs.Fields.{bytes_at, guid_at}
use Rattle.shown_ids.specs.Shown.{listed, place_id, place_ids}

-- a part of n bytes at a place
pub part_at : (file : List ℕ) (at len from n : ℕ) → from + n ≤ len → take n (drop from (take len (drop at file))) ≡ take n (drop (at + from) file)
part_at file at len from n h =
    let cut : len ≡ from + (len - from) = omega arith in
    ap (λ (k : ℕ). take n (drop from (take k (drop at file)))) cut
    ∙ ap (take n) (drop-take from (len - from) (drop at file))
    ∙ take-take n (len - from) (drop from (drop at file)) (omega arith)
    ∙ ap (take n) (drop-drop from at file)

-- the first 48 bytes of a place say what it shows
pub by_head : (file : List ℕ) (at : ℕ) → place_id (bytes_at file at 48) 0 ≡ place_id file at
unfolding place_id bytes_at guid_at
by_head file at =
    let same : at + 0 ≡ at = omega arith in
    let head : List ℕ = take 48 (drop at file) in
    let four : take 4 (drop 0 head) ≡ take 4 (drop at file) = part_at file at 48 0 4 (omega arith) ∙ ap (λ (k : ℕ). take 4 (drop k file)) same in
    let id : take 16 (drop 32 head) ≡ take 16 (drop (at + 32) file) = part_at file at 48 32 16 (omega arith) in
    ap (λ (f : List ℕ). if bytes_eq f (codes "loge") then Some (swap_fields (take 16 (drop 32 head))) else None) four
    ∙ ap (λ (g : List ℕ). if bytes_eq (take 4 (drop at file)) (codes "loge") then Some (swap_fields g) else None) id

last_place : (file : List ℕ) (at n : ℕ) → place_ids file at (suc n) ≡ place_ids file at n ++ listed (place_id file (at + 4096 * n))
unfolding place_ids
last_place file at zero =
    let same : at ≡ at + 4096 * 0 = omega arith in
    append-nil (listed (place_id file at)) ∙ ap (λ (k : ℕ). listed (place_id file k)) same
last_place file at (suc n) =
    let same : at + 4096 + 4096 * n ≡ at + 4096 * suc n = omega arith in
    ap (λ (ids : List (List ℕ)). listed (place_id file at) ++ ids) (last_place file (at + 4096) n)
    ∙ sym (append_assoc (listed (place_id file at)) (place_ids file (at + 4096) n) (listed (place_id file (at + 4096 + 4096 * n))))
    ∙ ap (λ (k : ℕ). (listed (place_id file at) ++ place_ids file (at + 4096) n) ++ listed (place_id file k)) same

-- one more place is added
pub one_more : (file : List ℕ) (at k : ℕ) (before ids after : List (List ℕ)) (id : Option (List ℕ)) → ids ≡ before ++ place_ids file at k → id ≡ place_id file (at + 4096 * k) → after ≡ ids ++ listed id
    → after ≡ before ++ place_ids file at (k + 1)
one_more file at k before ids after id so_far is added =
    let next : suc k ≡ k + 1 = omega arith in
    added ∙ ap (λ (x : List (List ℕ)). x ++ listed id) so_far ∙ ap (λ (o : Option (List ℕ)). (before ++ place_ids file at k) ++ listed o) is
    ∙ append_assoc before (place_ids file at k) (listed (place_id file (at + 4096 * k)))
    ∙ ap (λ (x : List (List ℕ)). before ++ x) (sym (last_place file at k) ∙ ap (place_ids file at) next)

-- no place is added yet
pub none_yet : (file : List ℕ) (at : ℕ) (ids : List (List ℕ)) → ids ≡ ids ++ place_ids file at 0
unfolding place_ids
none_yet file at ids = sym (append-nil ids)
