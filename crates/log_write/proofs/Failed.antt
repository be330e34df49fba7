-- What a read gives after changes of which one failed.
use Rattle.std.proofs.Common.{◌≡◌, ℕ, ◌+◌, ◌-◌, ◌<◌, ◌≤◌, ◌⊎◌, All, List, [], ◌∷◌, ◌++◌, Option, Some, None, length, take, drop, get_or, refl, sym, subst, ◌∙◌, arith, inl, inr, length-drop, suc}
use Rattle.std.specs.Prelude.{⊤, Err, Ok, OnErr, Result}
use Rattle.std.proofs.lemmas.Bool.{cases_lt}
use Rattle.std.proofs.lemmas.List.{length-take-le}
use Rattle.vx_base.proofs.ByteLists.{length-overwritten}
use Rattle.store_model.specs.Bytes.{written_over}
use Rattle.store_model.specs.Disk.{Disk, LeavesTorn, WhereBothTold, WhereTold, changed, nothing, told_after, torn}
use Rattle.store_model.specs.File.{File, Grow, Op, Seal, Sync, Tear, Write, seen, with_op}
use Rattle.store_model.specs.Plans.{OnlyChanges, StopsIn, at_grow, at_sync, at_write, later}
use Rattle.store_model.specs.Trace.{Trace, file_of}
use Rattle.store_model.specs.declared.fault.StoreFault.{StoreFault}
use Rattle.store_model.proofs.Spans.{file_of-with_change}
use Rattle.vhdx_format.specs.Crashes.{IsOutside}
use Rattle.vhdx_format.specs.WrittenEntries.{IsWritableEntry}
use Rattle.vhdx_format.specs.declared.log_entry.Page.{Page}
use Rattle.log_write.specs.Sessions.{IsOpenFor, IsSoundState, LogState}
use Rattle.log_write.specs.Writing.{CanCommit, KeepsBeside, commit_plan, entry_writes, next_entry, next_head, page_writes, ring_writes}
use Rattle.log_write.proofs.Phases.{length-entry}
use Rattle.log_write.proofs.Places.{written_same}
use Rattle.log_write.proofs.Rings.{ring_split, ring_whole}

-- places that stay as they are while others change, in a file of n bytes
module _ (P : ℕ → Type 0) (n : ℕ) where
  -- the n bytes from `at` on hold none of them
  abbrev IsBeside : ℕ → ℕ → Type 0
  IsBeside at m = (at + m ≤ n) × ((i : ℕ) → P i → (i < at) ⊎ (at + m ≤ i))

  -- nor does any of these changes touch one
  abbrev pub AreBeside : List Op → Type 0
  AreBeside [] = ⊤
  AreBeside (Write at bytes ∷ ops) = IsBeside at (length bytes) × AreBeside ops
  AreBeside (Tear at meant left ∷ ops) = ⊥
  AreBeside (Grow len ∷ ops) = ⊥
  AreBeside (Sync ∷ ops) = AreBeside ops
  AreBeside (Seal ∷ ops) = AreBeside ops

  pub beside_append : (xs ys : List Op) → AreBeside xs → AreBeside ys → AreBeside (xs ++ ys)
  beside_append [] ys h k = k
  beside_append (Write at bytes ∷ xs) ys h k = (h.0, beside_append xs ys h.1 k)
  beside_append (Tear at meant left ∷ xs) ys h k = absurd h
  beside_append (Grow len ∷ xs) ys h k = absurd h
  beside_append (Sync ∷ xs) ys h k = beside_append xs ys h k
  beside_append (Seal ∷ xs) ys h k = beside_append xs ys h k

  -- the new bytes are as long, and the same at those places
  pub record Keeps (before after : List ℕ) : Type 0 where
    pub long : length after ≡ length before
    pub same : (i : ℕ) → P i → get_or after i 0 ≡ get_or before i 0

  over_keeps : (before : List ℕ) (at : ℕ) (bytes : List ℕ) → length before ≡ n → IsBeside at (length bytes) → Keeps before (written_over before at bytes)
  over_keeps before at bytes long b = record {
    long = length-overwritten before bytes at (omega (arith, long, b.0));
    same = λ i p. written_same before bytes at (omega (arith, long, b.0)) i (b.1 i p);
  }

  module _ (file : ℕ) where
    abbrev pub KeepsFile : Trace → Trace → Type 0
    KeepsFile t u = Keeps (seen (file_of t file)) (seen (file_of u file))

    abbrev IsLong : Trace → Type 0
    IsLong t = length (seen (file_of t file)) ≡ n

    still : (o : Option Trace) → WhereBothTold KeepsFile o o
    still None = tt
    still (Some t) = record { long = refl; same = λ i p. refl }

    then_still : (a b c : Option Trace) → WhereBothTold KeepsFile a b → WhereBothTold KeepsFile b c → WhereBothTold KeepsFile a c
    then_still None None None h k = tt
    then_still None None (Some u) h k = absurd k
    then_still None (Some t) c h k = absurd h
    then_still (Some s) None c h k = absurd h
    then_still (Some s) (Some t) None h k = absurd k
    then_still (Some s) (Some t) (Some u) h k = record { long = k.long ∙ h.long; same = λ i p. k.same i p ∙ h.same i p }

    -- what a change of these bytes in the file leaves
    one_change : (op : Op) → ((f : File) → length (seen f) ≡ n → Keeps (seen f) (seen (with_op op f))) → (o : Option Trace) → WhereTold o IsLong → WhereBothTold KeepsFile o (told_after file op o)
    one_change op keeps None long = tt
    one_change op keeps (Some t) long = subst (λ (f : File). Keeps (seen (file_of t file)) (seen f)) (sym (file_of-with_change file op t)) (keeps (file_of t file) (long t refl))

    long_then : (a b : Option Trace) → WhereBothTold KeepsFile a b → WhereTold a IsLong → WhereTold b IsLong
    long_then None None h k u e = cc
    long_then None (Some t) h k u e = absurd h
    long_then (Some s) None h k u e = cc
    long_then (Some s) (Some t) h k u e = subst (λ (x : Trace). length (seen (file_of x file)) ≡ n) (let same : t ≡ u = cc in same) (h.long ∙ k s refl)

    by_left : (at : ℕ) (bytes : List ℕ) → IsBeside at (length bytes) → (a b : Option Trace) → WhereTold a IsLong → LeavesTorn file at bytes a b → WhereBothTold KeepsFile a b
    by_left at bytes beside a _ long nothing = still a
    by_left at bytes beside a _ long (torn left as_many are) =
        one_change (Tear at bytes left) (λ f l. over_keeps (seen f) at left l (omega (arith, beside.0, as_many), λ i p. elim (beside.1 i p) [ inl x ↦ inl x | inr x ↦ inr (omega (arith, x, as_many)) ])) a long

    step : (op : Op) (ops : List Op) → AreBeside (op ∷ ops) → (o : Option Trace) → WhereTold o IsLong → WhereBothTold KeepsFile o (told_after file op o)
    step (Write at bytes) ops b o long = one_change (Write at bytes) (λ f l. over_keeps (seen f) at bytes l b.0) o long
    step (Tear at meant left) ops b o long = absurd b
    step (Grow len) ops b o long = absurd b
    step Sync ops b o long = one_change Sync (λ f l. record { long = refl; same = λ i p. refl }) o long
    step Seal ops b o long = one_change Seal (λ f l. record { long = refl; same = λ i p. refl }) o long

    rest_of : (op : Op) (ops : List Op) → AreBeside (op ∷ ops) → AreBeside ops
    rest_of (Write at bytes) ops b = b.1
    rest_of (Tear at meant left) ops b = absurd b
    rest_of (Grow len) ops b = absurd b
    rest_of Sync ops b = b
    rest_of Seal ops b = b

    -- a change that failed leaves all those places
    pub stopped_keeps : (new : Disk) (fault : StoreFault) (ops : List Op) (old : Disk) → StopsIn file new fault ops old → AreBeside ops → WhereTold old.told IsLong → WhereBothTold KeepsFile old.told new.told
    stopped_keeps new fault _ old (at_write _ at bytes rest w) b long = by_left at bytes b.0 old.told new.told long w.left
    stopped_keeps new fault _ old (at_grow _ len rest w) b long = absurd b
    stopped_keeps new fault _ old (at_sync _ rest w) b long = subst (λ (d : Disk). WhereBothTold KeepsFile old.told d.told) (sym w.stays) (still old.told)
    stopped_keeps new fault _ old (later _ op rest s) b long =
        let first = step op rest b old.told long in
        let next = stopped_keeps new fault rest (changed file op old) s (rest_of op rest b) (long_then old.told (told_after file op old.told) first long) in
        then_still old.told (told_after file op old.told) new.told first next

-- ---- a commit

module _ (s : LogState) (pages : List Page) (w : IsWritableEntry s.header.log_at s.header.log_len (next_head s) pages) (sound : IsSoundState s) (can : All (CanCommit s) pages) (within : s.header.log_at + s.header.log_len ≤ s.len) where
  abbrev Stays : ℕ → Type 0
  Stays i = IsOutside s.header.log_at s.header.log_len i × All (λ (page : Page). IsOutside page.at 4096 i) pages

  ring_beside : (bytes : List ℕ) → length bytes ≤ s.header.log_len → AreBeside Stays s.len (ring_writes s.header.log_at s.header.log_len s.place bytes)
  ring_beside bytes fits = by_end (cases_lt s.header.log_len (s.place + length bytes))
    where
      in_ring : (at n : ℕ) → s.header.log_at ≤ at → at + n ≤ s.header.log_at + s.header.log_len → (at + n ≤ s.len) × ((i : ℕ) → Stays i → (i < at) ⊎ (at + n ≤ i))
      in_ring at n low high = (omega (arith, high, within), λ i p. elim p.0 [ inl x ↦ inl (omega (arith, x, low)) | inr x ↦ inr (omega (arith, x, high)) ])

      by_end : (s.header.log_len < s.place + length bytes) ⊎ (s.place + length bytes ≤ s.header.log_len) → AreBeside Stays s.len (ring_writes s.header.log_at s.header.log_len s.place bytes)
      by_end (inr h) = subst (AreBeside Stays s.len) (sym (ring_whole s.header.log_at s.header.log_len s.place bytes h)) (in_ring (s.header.log_at + s.place) (length bytes) (omega arith) (omega (arith, h)), tt)
      by_end (inl h) =
          let at = sound.within in
          let front : length (take (s.header.log_len - s.place) bytes) ≡ s.header.log_len - s.place = length-take-le (s.header.log_len - s.place) bytes (omega (arith, h, at)) in
          let back : length (drop (s.header.log_len - s.place) bytes) ≡ length bytes - (s.header.log_len - s.place) = length-drop (s.header.log_len - s.place) bytes in
          subst (AreBeside Stays s.len) (sym (ring_split s.header.log_at s.header.log_len s.place bytes h))
          (in_ring s.header.log_at (length (drop (s.header.log_len - s.place) bytes)) (omega arith) (omega (arith, back, fits)), (in_ring (s.header.log_at + s.place) (length (take (s.header.log_len - s.place) bytes)) (omega arith) (omega (arith, front, at)), tt))

  pages_beside : (some : List Page) → ((i : ℕ) → Stays i → All (λ (page : Page). IsOutside page.at 4096 i) some) → All (CanCommit s) some → All (λ (page : Page). length page.bytes ≡ 4096) some → AreBeside Stays s.len (page_writes some)
  pages_beside [] stays may whole = tt
  pages_beside (page ∷ others) stays may whole =
      let long : length page.bytes ≡ 4096 = whole 0 page (omega arith) in
      let fits : page.at + 4096 ≤ s.len = (may 0 page (omega arith)).within in (
        (omega (arith, long, fits), λ i p. elim (stays i p 0 page (omega arith)) [ inl x ↦ inl x | inr x ↦ inr (omega (arith, x, long)) ]),
        pages_beside others (λ i p k d l. stays i p (suc k) d (omega (arith, l))) (λ k d l. may (suc k) d (omega (arith, l))) (λ k d l. whole (suc k) d (omega (arith, l))),
      )

  entry_beside : AreBeside Stays s.len (entry_writes s pages)
  entry_beside = ring_beside (next_entry s pages) (let n = length-entry s pages w in omega (arith, n, w.fits))

  plan_beside : AreBeside Stays s.len (commit_plan s pages)
  plan_beside = by_pages pages refl
    where
      by_pages : (some : List Page) → pages ≡ some → AreBeside Stays s.len (commit_plan s some)
      by_pages [] e = tt
      by_pages (page ∷ others) e =
          subst (λ (x : List Page). AreBeside Stays s.len ((entry_writes s x ++ (Sync ∷ [])) ++ page_writes x)) e
          (beside_append Stays s.len (entry_writes s pages ++ (Sync ∷ [])) (page_writes pages) (beside_append Stays s.len (entry_writes s pages) (Sync ∷ []) entry_beside tt) (pages_beside pages (λ i p. p.1) can w.whole))

  told : (a b : Option Trace) → WhereBothTold (KeepsFile Stays s.len s.file) a b → WhereBothTold (λ before after. KeepsBeside s pages (seen (file_of before s.file)) (seen (file_of after s.file))) a b
  told None None h = tt
  told None (Some u) h = absurd h
  told (Some t) None h = absurd h
  told (Some t) (Some u) h = record { long = h.long; same = λ i out beside. h.same i (out, beside) }

  pub kept_within : (new : Disk) (fault : StoreFault) (old : Disk) → StopsIn s.file new fault (commit_plan s pages) old → WhereTold old.told (λ t. IsOpenFor s (file_of t s.file))
      → WhereBothTold (λ before after. KeepsBeside s pages (seen (file_of before s.file)) (seen (file_of after s.file))) old.told new.told
  kept_within new fault old stops is_open = told old.told new.told (stopped_keeps Stays s.len s.file new fault (commit_plan s pages) old stops plan_beside (λ t e. (is_open t e).long))

pub failed_keeps : (s : LogState) (pages : List Page) → IsWritableEntry s.header.log_at s.header.log_len (next_head s) pages → IsSoundState s → All (CanCommit s) pages
    → (new : Disk) (fault : StoreFault) (old : Disk) → StopsIn s.file new fault (commit_plan s pages) old → WhereTold old.told (λ t. IsOpenFor s (file_of t s.file))
    → WhereBothTold (OnlyChanges s.file) old.told new.told → WhereBothTold (λ before after. KeepsBeside s pages (seen (file_of before s.file)) (seen (file_of after s.file))) old.told new.told
failed_keeps s pages w sound can new fault old stops is_open only = by_told old.told refl
  where
    untold : (b : Option Trace) → WhereBothTold (OnlyChanges s.file) None b → WhereBothTold (λ before after. KeepsBeside s pages (seen (file_of before s.file)) (seen (file_of after s.file))) None b
    untold None h = tt
    untold (Some u) h = absurd h

    by_told : (a : Option Trace) → old.told ≡ a → WhereBothTold (λ before after. KeepsBeside s pages (seen (file_of before s.file)) (seen (file_of after s.file))) old.told new.told
    by_told None e =
        subst (λ x. WhereBothTold (λ before after. KeepsBeside s pages (seen (file_of before s.file)) (seen (file_of after s.file))) x new.told) (sym e)
        (untold new.told (subst (λ x. WhereBothTold (OnlyChanges s.file) x new.told) e only))
    by_told (Some t) e = kept_within s pages w sound can (is_open t e).within new fault old stops is_open

-- what holds of a failure, of an answer that is one
pub on_err : {X : Type 0} (result : Result (Unit {0}) StoreFault) → X → OnErr result X
on_err (Ok x) h = tt
on_err (Err fault) h = h
