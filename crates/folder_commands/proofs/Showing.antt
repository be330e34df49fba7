-- The identifiers that the files of a chain show.
use Rattle.std.proofs.Common.{◌≡◌, ℕ, zero, suc, ◌+◌, ◌<◌, ◌≤◌, ◌^◌, ◌||◌, Bool, true, false, not, List, [], ◌∷◌, ◌++◌, length, drop, get_or, Result, Ok, refl, sym, ap, subst, ◌∙◌, arith, add-zero, append_assoc, zero-add}
use Rattle.std.specs.Prelude.{nat_lt}
use Rattle.std.specs.Option.{ok_or}
use Rattle.std.proofs.lemmas.Bool.{leb-true}
use Rattle.std.proofs.lemmas.List.{drop_more}
use Rattle.vx_base.specs.Fields.{bytes_at}
use Rattle.vx_base.specs.declared.parts.Header.{Header}
use Rattle.vx_base.specs.declared.parts.Parts.{Parts}
use Rattle.vhdx_format.specs.Fields.{megabyte}
use Rattle.vhdx_format.specs.FileParts.{LieWithin, read_head}
use Rattle.vhdx_format.specs.Headers.{current_header, has_bad_log_place, has_bad_version, read_headers}
use Rattle.vhdx_format.specs.Identifiers.{has_signature, identified}
use Rattle.vhdx_format.specs.Rules.{BadLogPlace, BadVersion, BrokenRule, NoHeader, NotVhdx, TooShort, unless}
use Rattle.chain_model.specs.Files.{HasParts, at_rest}
use Rattle.layer_session.proofs.Numbers.{are_numbers, of_bind}
use Rattle.link_rules.specs.declared.linked.LinkedFile.{LinkedFile}
use Rattle.shown_ids.specs.Shown.{shown}
use Rattle.store_model.specs.File.{seen}
use Rattle.store_model.specs.Trace.{Trace, file_of}
use Rattle.command_base.specs.Commands.{AreOpenedFrom, AreShort, IsOpenedAt, shown_from}

-- ---- the numbers of an opened file lie within it

unless_ok : {A : Type 0} (c : Bool) (rule : BrokenRule) (r : Result A BrokenRule) (y : A) → unless c rule r ≡ Ok y → (c ≡ false) × (r ≡ Ok y)
unless_ok true rule r y e = cc
unless_ok false rule r y e = (refl, e)

length_is : (file : List ℕ) (n : ℕ) → identified file ≡ Ok n → n ≡ length file
unfolding identified
length_is file n e =
    let first = unless_ok (not (has_signature file)) NotVhdx (unless (nat_lt (length file) megabyte) (TooShort (length file)) (Ok (length file))) n e in
    let second = unless_ok (nat_lt (length file) megabyte) (TooShort (length file)) (Ok (length file)) n first.1 in
    same second.1
  where
    same : ◌≡◌ {A = Result ℕ BrokenRule} (Ok (length file)) (Ok n) → n ≡ length file
    same h = cc

good_place : (zone : List ℕ) (n : ℕ) (header : Header) → read_headers zone n ≡ Ok header → has_bad_log_place header n ≡ false
unfolding read_headers
good_place zone n header e =
    let b = of_bind (ok_or (current_header zone) NoHeader) (λ (x : Header). unless (has_bad_version x) (BadVersion x.version x.log_version) (unless (has_bad_log_place x n) (BadLogPlace x.log_at x.log_len) (Ok x))) header e in
    let first = unless_ok (has_bad_version b.0) (BadVersion b.0.version b.0.log_version) (unless (has_bad_log_place b.0 n) (BadLogPlace b.0.log_at b.0.log_len) (Ok b.0)) header b.2 in
    let second = unless_ok (has_bad_log_place b.0 n) (BadLogPlace b.0.log_at b.0.log_len) (Ok b.0) header first.1 in
    subst (λ (x : Header). has_bad_log_place x n ≡ false) (same b.0 second.1) second.0
  where
    same : (x : Header) → ◌≡◌ {A = Result Header BrokenRule} (Ok x) (Ok header) → x ≡ header
    same x h = cc

or_last : (x y : Bool) → (x || y) ≡ false → y ≡ false
or_last false y h = h
or_last true y h = cc

not_false : (x : Bool) → not x ≡ false → x ≡ true
not_false true h = refl
not_false false h = cc

log_within : (file : List ℕ) (header : Header) → read_head file ≡ Ok header → header.log_at + header.log_len ≤ length file
unfolding read_head
log_within file header e =
    let b = of_bind (identified file) (λ len. read_headers (bytes_at file 0 196608) len) header e in
    let place : has_bad_log_place header b.0 ≡ false = good_place (bytes_at file 0 196608) b.0 header b.2 in
    let within : header.log_at + header.log_len ≤ b.0 = leb-true (header.log_at + header.log_len) b.0 (not_false _ (or_last _ _ place)) in
    omega (arith, within, length_is file b.0 b.1)

pub lies_within : (bytes : List ℕ) (parts : Parts) → HasParts (at_rest bytes) bytes parts → length bytes ≤ 2 ^ 63 → LieWithin parts (length bytes)
lies_within bytes parts has short =
    let n = are_numbers has.header bytes parts has.numbers in
    record {
      log = subst (λ (h : Header). h.log_at + h.log_len ≤ length bytes) (sym n.1) (log_within bytes has.header has.head);
      bat = n.0.table.within;
      metadata = n.0.metadata.within;
      most = omega (arith, short);
    }

-- ---- file by file

opened_at : (number k : ℕ) (files : List LinkedFile) (d : LinkedFile) (t : Trace) → k < length files → AreOpenedFrom number files t → IsOpenedAt t (number + k) (get_or files k d)
opened_at number k [] d t below h = absurd (omega (arith, below))
opened_at number zero (f ∷ files) d t below h = subst (λ n. IsOpenedAt t n f) (sym (add-zero number)) h.0
opened_at number (suc k) (f ∷ files) d t below h = subst (λ n. IsOpenedAt t n (get_or files k d)) (let e : number + 1 + k ≡ number + suc k = omega arith in e) (opened_at (number + 1) k files d t (omega (arith, below)) h.1)

pub file_within : (k : ℕ) (files : List LinkedFile) (file : LinkedFile) (t : Trace) → k < length files → file ≡ get_or files k file → AreOpenedFrom 0 files t → AreShort (length files) t
    → LieWithin file.parts (length (seen (file_of t k)))
file_within k files file t below is opened short =
    let o : IsOpenedAt t k file = subst (λ f. IsOpenedAt t k f) (sym is) (subst (λ n. IsOpenedAt t n (get_or files k file)) (zero-add k) (opened_at 0 k files file t below opened)) in
    lies_within (seen (file_of t k)) file.parts o.reads (short k below)

-- one more file
pub shown_more : (k number : ℕ) (files : List LinkedFile) (file : LinkedFile) (t : Trace) (known ids now whole : List (List ℕ)) → k < length files → file ≡ get_or files k file → known ++ shown_from number (drop k files) t ≡ whole
    → ids ≡ shown file.parts (seen (file_of t number)) → now ≡ known ++ ids → now ++ shown_from (number + 1) (drop (k + 1) files) t ≡ whole
shown_more k number files file t known ids now whole below is before ids_are now_is =
    let rest = shown_from (number + 1) (drop (k + 1) files) t in
    let next : shown_from number (drop k files) t ≡ shown file.parts (seen (file_of t number)) ++ rest =
    ap (λ fs. shown_from number fs t) (drop_more files k file below ∙ ap (λ f. f ∷ drop (k + 1) files) (sym is)) in
    ap (λ x. x ++ rest) (now_is ∙ ap (λ x. known ++ x) ids_are) ∙ append_assoc known (shown file.parts (seen (file_of t number))) rest ∙ ap (λ x. known ++ x) (sym next) ∙ before
