-- What is taken of a source, and what is read of it.
use Rattle.std.proofs.Common.{◌≡◌, ◌≤◌, ◌<◌, ℕ, ◌+◌, ◌++◌, Bool, true, false, ltb, List, [], length, take, drop, Option, Some, None, Err, refl, sym, ap, ap₂, subst, ◌∙◌, ◌==◌, ◌&&◌, arith}
use Rattle.std.specs.Prelude.{IfSome}
use Rattle.std.specs.Io.KnownBytes.{Consumes, IsAtEnd}
use Rattle.std.proofs.Math.Seq.{drop-append_seam, take-append_seam}
use Rattle.std.proofs.lemmas.Bool.{lt-ltb, ltb-false, ltb-true}
use Rattle.std.proofs.lemmas.List.{append-nil, drop_all, length-take, take_all}
use Rattle.script.specs.declared.form.Line.{Line}
use Rattle.script.specs.declared.form.ScriptKind.{ScriptKind}
use Rattle.script.specs.declared.refusal.ScriptRefusal.{ScriptRefusal}
use Rattle.script.specs.declared.refusal.ScriptRefusal.TheVariants as text
use Rattle.script.specs.declared.refusal.SourceRefusal.{SourceRefusal}
use Rattle.script.specs.declared.refusal.SourceRefusal.TheVariants as refusals
use Rattle.script.specs.Grammar.{Answers, Breaks, BreaksLine, IsFirstBroken, IsScript, OnLine, line_at, lines_of, most_bytes, seen}
use Rattle.script.specs.Sources.{AnswersFrom, IsPartTaken, IsTaken, IsUnread, LeavesOf, ReadsScript, of_text}

-- ---- what is taken

-- the text is what may be looked at of the bytes, and what is behind it is left
pub record IsSeen (bytes text : List ℕ) (left : Option (List ℕ)) : Type 0 where
  pub text_is : text ≡ seen bytes
  pub taken : IsTaken bytes left

seen_by : (bytes text rest : List ℕ) → bytes ≡ text ++ rest → length text ≤ most_bytes + 1 → (length text ≤ most_bytes → rest ≡ []) → IsSeen bytes text (Some rest)
seen_by bytes text rest e most end = go (ltb most_bytes (length text)) refl
  where
    go : (b : Bool) → ltb most_bytes (length text) ≡ b → IsSeen bytes text (Some rest)
    go true f =
        let long : most_bytes + 1 ≡ length text = let more : most_bytes < length text = ltb-true _ _ f in omega arith in
        record {
          text_is = sym (ap (λ n. take n bytes) long ∙ ap (take (length text)) e ∙ take-append_seam text rest);
          taken = ap Some (sym (ap (λ n. drop n bytes) long ∙ ap (drop (length text)) e ∙ drop-append_seam text rest));
        }
    go false f =
        let none : rest ≡ [] = end (ltb-false _ _ f) in
        let whole : bytes ≡ text = e ∙ ap (λ r. text ++ r) none ∙ append-nil text in
        let few : length bytes ≤ most_bytes + 1 = subst (λ t. length t ≤ most_bytes + 1) (sym whole) most in
        record {
          text_is = sym whole ∙ sym (take_all (most_bytes + 1) bytes few);
          taken = ap Some (none ∙ sym (drop_all (most_bytes + 1) bytes few));
        }

pub is_seen : (before now : Option (List ℕ)) (text : List ℕ) → Consumes before now text → length text ≤ most_bytes + 1 → (length text ≤ most_bytes → IsAtEnd now) → IfSome before (λ bytes. IsSeen bytes text now)
is_seen None now text e most end = tt
is_seen (Some bytes) None text e most end = absurd e
is_seen (Some bytes) (Some rest) text e most end = seen_by bytes text rest e most end

-- a part was taken
pub part_taken : (before now : Option (List ℕ)) (part : List ℕ) → Consumes before now part → IfSome before (λ bytes. IsPartTaken bytes now)
part_taken None now part e = tt
part_taken (Some bytes) None part e = absurd e
part_taken (Some bytes) (Some rest) part e = (length part, ap Some (sym (ap (drop (length part)) e ∙ drop-append_seam part rest)))

pub leaves_part : (bytes : List ℕ) (now : Option (List ℕ)) (e : SourceRefusal) → IsUnread e → IsPartTaken bytes now → LeavesOf bytes now (Err e)
leaves_part bytes now (refusals.Line n) is part = absurd is
leaves_part bytes now (refusals.Source fault) is part = part
leaves_part bytes now refusals.NoRoom is part = part

pub unread_left : (before now : Option (List ℕ)) (part : List ℕ) (e : SourceRefusal) → Consumes before now part → IsUnread e → IfSome before (λ bytes. LeavesOf bytes now (Err e))
unread_left None now part e c is = tt
unread_left (Some bytes) now part e c is = leaves_part bytes now e is (part_taken (Some bytes) now part c)

-- the whole was taken, and so a part too
leaves_all : (bytes : List ℕ) (now : Option (List ℕ)) (e : ScriptRefusal) → IsTaken bytes now → LeavesOf bytes now (Err (of_text e))
leaves_all bytes now (text.Line n) taken = taken
leaves_all bytes now text.NoRoom taken = (most_bytes + 1, taken)

-- ---- what is read

-- what may be looked at of what may be looked at is all of it
seen_twice : (bytes : List ℕ) → seen (seen bytes) ≡ seen bytes
seen_twice bytes = take_all (most_bytes + 1) (seen bytes) (omega (arith, length-take (most_bytes + 1) bytes))

-- bytes within the limit are looked at whole
within : (bytes : List ℕ) → length bytes ≤ most_bytes → seen bytes ≡ bytes
within bytes h = take_all (most_bytes + 1) bytes (omega (arith, h))

past_same : (bytes : List ℕ) → ltb most_bytes (length (seen bytes)) ≡ ltb most_bytes (length bytes)
past_same bytes = go (ltb most_bytes (length bytes)) refl
  where
    go : (b : Bool) → ltb most_bytes (length bytes) ≡ b → ltb most_bytes (length (seen bytes)) ≡ ltb most_bytes (length bytes)
    go true e =
        let more : most_bytes < length bytes = ltb-true _ _ e in
        lt-ltb most_bytes (length (seen bytes)) (omega (arith, length-take (most_bytes + 1) bytes)) ∙ sym e
    go false e = ap (λ (t : List ℕ). ltb most_bytes (length t)) (within bytes (ltb-false _ _ e))

script_seen : (kind : ScriptKind) (bytes : List ℕ) (script : List Line) → IsScript kind bytes script → IsScript kind (seen bytes) script
script_seen kind bytes script is = subst (λ t. IsScript kind t script) (sym (within bytes is.bytes)) is

broken_whole : (kind : ScriptKind) (bytes : List ℕ) (n : ℕ) → IsFirstBroken kind (seen bytes) n → IsFirstBroken kind bytes n
broken_whole kind bytes n is = record {
  lowest = is.lowest;
  highest = subst (λ t. n ≤ length (lines_of t)) (seen_twice bytes) is.highest;
  breaks = subst (λ (T : Type 0). T) (same n) is.breaks;
  first = λ k low less b. is.first k low less (subst (λ (T : Type 0). T) (sym (same k)) b);
}
  where
    same : (k : ℕ) → Breaks kind (seen bytes) k ≡ Breaks kind bytes k
    same k = ap₂ (λ (t : List ℕ) (b : Bool). BreaksLine kind k (line_at t k) (b && (k == length (lines_of t)))) (seen_twice bytes) (past_same bytes)

-- a broken line, or want of memory
pub refused_read : (kind : ScriptKind) (bytes : List ℕ) (e : ScriptRefusal) → OnLine (IsFirstBroken kind (seen bytes)) e → ReadsScript kind bytes (Err (of_text e))
refused_read kind bytes (text.Line n) is = broken_whole kind bytes n is
refused_read kind bytes text.NoRoom is = tt

refused_only : (script : List Line) (e : ScriptRefusal) → Answers script (Err e) → AnswersFrom script (Err (of_text e))
refused_only script (text.Line n) is = is
refused_only script text.NoRoom is = tt

-- ---- what is read of a source, by what is read of the text that was taken

module _ (kind : ScriptKind) (read : List ℕ) (now : Option (List ℕ)) where
  pub read_refused : (before : Option (List ℕ)) (e : ScriptRefusal) → IfSome before (λ bytes. IsSeen bytes read now) → OnLine (IsFirstBroken kind read) e → IfSome before (λ bytes. ReadsScript kind bytes (Err (of_text e)))
  read_refused None e h broken = tt
  read_refused (Some bytes) e h broken = refused_read kind bytes e (subst (λ t. OnLine (IsFirstBroken kind t) e) h.text_is broken)

  pub only_refused : (before : Option (List ℕ)) (e : ScriptRefusal) → IfSome before (λ bytes. IsSeen bytes read now) → ((script : List Line) → IsScript kind read script → Answers script (Err e))
      → IfSome before (λ bytes. (script : List Line) → IsScript kind bytes script → AnswersFrom script (Err (of_text e)))
  only_refused None e h only = tt
  only_refused (Some bytes) e h only = λ script is. refused_only script e (only script (subst (λ t. IsScript kind t script) (sym h.text_is) (script_seen kind bytes script is)))

  pub left_refused : (before : Option (List ℕ)) (e : ScriptRefusal) → IfSome before (λ bytes. IsSeen bytes read now) → IfSome before (λ bytes. LeavesOf bytes now (Err (of_text e)))
  left_refused None e h = tt
  left_refused (Some bytes) e h = leaves_all bytes now e h.taken

  pub left_found : (before : Option (List ℕ)) → IfSome before (λ bytes. IsSeen bytes read now) → IfSome before (λ bytes. IsTaken bytes now)
  left_found None h = tt
  left_found (Some bytes) h = h.taken
