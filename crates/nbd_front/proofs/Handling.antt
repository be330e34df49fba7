-- Requests that were handled.
use Rattle.std.proofs.Common.{◌≡◌, ◌≢◌, ◌≤◌, ℕ, ◌+◌, ◌-◌, ◌++◌, Bool, true, false, ◌==◌, ◌&&◌, List, [], ◌∷◌, length, take, drop, Option, Some, None, refl, sym, ap, ap₂, subst, ◌∙◌, arith, length-take-le}
use Rattle.std.specs.Prelude.{if◌then◌else◌, not, replicate, ◌*◌}
use Rattle.std.proofs.lemmas.List.{append-nil}
use Rattle.std.proofs.Math.Seq.{take-append-add, take-append_seam}
use Rattle.std.proofs.lemmas.Bool.{eqb-true, ne_eqb}
use lib.Seq.{take_at, drop_at}
use borrow.Rule.Slice.PartMut.{put_mid, post_of}
use Rattle.vx_base.specs.declared.parts.Geometry.{Geometry}
use Rattle.guest_model.specs.declared.refusal.ChainRefusal.{ChainRefusal}
use Rattle.guest_model.specs.declared.refusal.ChainRefusal.TheVariants as refusals
use Rattle.guest_model.specs.declared.call.Call.TheVariants as calls
use Rattle.disk_calls.specs.Disks.{Asked, plain, Telling}
use Rattle.nbd_front.specs.declared.request.Request.{Request}
use Rattle.nbd_front.specs.declared.export.Export.{Export}
use Rattle.nbd_front.specs.Wire.{export_reply, reply_head, number_bytes, read_kind, transmission_flags, wants_no_zeros}
use Rattle.nbd_front.specs.Calls.{AreMade, judged, calls_if, calls_by_kind, calls_of, read_calls, write_calls, trim_calls, flush_behind, is_forced, first_refusal}
use Rattle.nbd_front.specs.Replies.{answer, error_of, error_among, error_in, bytes_given}
use Rattle.nbd_front.specs.Parts.{Asks, IsHandled, read_part, reply_len, reply_text}

-- every refusal has an error
pub error_not_0 : (refusal : ChainRefusal) → error_of refusal ≢ 0
error_not_0 refusals.EmptyRange e = omega arith
error_not_0 (refusals.OutOfRange first count sectors) e = omega arith
error_not_0 (refusals.TooLong count limit) e = omega arith
error_not_0 refusals.ReadOnly e = omega arith
error_not_0 (refusals.Broken file count) e = omega arith
error_not_0 (refusals.Spent t) e = omega arith
error_not_0 (refusals.FileFull next) e = omega arith
error_not_0 (refusals.ReadFault file count) e = omega arith
error_not_0 refusals.NoMerge e = omega arith
error_not_0 (refusals.Stale taken now) e = omega arith
error_not_0 (refusals.NotYet stripe) e = omega arith
error_not_0 (refusals.Abandoned file count) e = omega arith
error_not_0 (refusals.NoStripe stripe stripes) e = omega arith
error_not_0 refusals.NoPiece e = omega arith
error_not_0 refusals.NoRoom e = omega arith

no_error : (refused : Option ChainRefusal) → error_among refused ≡ 0 → refused ≡ None
no_error None e = refl
no_error (Some refusal) e = absurd (error_not_0 refusal e)

-- by its calls
pub handled_by : {D : Type 0} (tells : Telling D) (g : Geometry) (r : Request) (bytes : List ℕ) (wanted : List Asked) (old new : D) (refused : Option ChainRefusal) (given : List ℕ)
    → judged g r ≡ 0 → calls_by_kind g.sector r 1 bytes ≡ wanted → Asks tells wanted old new refused given
    → IsHandled tells g r bytes old new (error_among refused) given
unfolding calls_of error_in
handled_by tells g r bytes wanted old new refused given valid same asks = record {
  calls = asks.calls;
  made = subst (λ l. AreMade l asks.calls) (sym (ap (λ k. calls_if (k == 0) (calls_by_kind g.sector r 1 bytes)) valid ∙ same)) asks.made;
  runs = asks.runs;
  says = sym (ap (λ k. if k == 0 then error_among (first_refusal asks.calls) else k) valid ∙ ap error_among asks.refusal);
  gave = λ kind ok. sym (asks.bytes (no_error refused ok));
}

-- by itself
pub handled_alone : {D : Type 0} (tells : Telling D) (g : Geometry) (r : Request) (bytes : List ℕ) (error : ℕ) (disk : D) (given : List ℕ)
    → error ≡ judged g r → error ≢ 0 → IsHandled tells g r bytes disk disk error given
unfolding calls_of error_in
handled_alone tells g r bytes error disk given e wrong =
    let test : (judged g r == 0) ≡ false = ap (λ k. k == 0) (sym e) ∙ ne_eqb error 0 wrong in
    record {
      calls = [];
      made = subst (λ b. AreMade (calls_if b (calls_by_kind g.sector r 1 bytes)) []) (sym test) tt;
      runs = refl;
      says = e ∙ sym (ap (λ b. if b then error_among (first_refusal []) else judged g r) test);
      gave = λ kind ok. absurd (wrong ok);
    }

-- ---- the calls of each kind

pub read_by_kind : (z least : ℕ) (r : Request) (bytes : List ℕ) → r.kind ≡ 0 → calls_by_kind z r least bytes ≡ read_calls z r.offset r.len
unfolding calls_by_kind
read_by_kind z least r bytes e =
    ap (λ k. if k == 0 then read_calls z r.offset r.len else if k == 1 then write_calls z (is_forced r) least r.offset bytes
    else if k == 4 then trim_calls z r.offset r.len ++ flush_behind r else plain calls.Flush ∷ []) e

pub write_by_kind : (z least : ℕ) (r : Request) (bytes : List ℕ) → r.kind ≡ 1 → calls_by_kind z r least bytes ≡ write_calls z (is_forced r) least r.offset bytes
unfolding calls_by_kind
write_by_kind z least r bytes e =
    ap (λ k. if k == 0 then read_calls z r.offset r.len else if k == 1 then write_calls z (is_forced r) least r.offset bytes
    else if k == 4 then trim_calls z r.offset r.len ++ flush_behind r else plain calls.Flush ∷ []) e

pub trim_by_kind : (z least : ℕ) (r : Request) (bytes : List ℕ) → r.kind ≡ 4 → calls_by_kind z r least bytes ≡ trim_calls z r.offset r.len ++ flush_behind r
unfolding calls_by_kind
trim_by_kind z least r bytes e =
    ap (λ k. if k == 0 then read_calls z r.offset r.len else if k == 1 then write_calls z (is_forced r) least r.offset bytes
    else if k == 4 then trim_calls z r.offset r.len ++ flush_behind r else plain calls.Flush ∷ []) e

pub flush_by_kind : (z least : ℕ) (r : Request) (bytes : List ℕ) → r.kind ≢ 0 → r.kind ≢ 1 → r.kind ≢ 4 → calls_by_kind z r least bytes ≡ plain calls.Flush ∷ []
unfolding calls_by_kind
flush_by_kind z least r bytes a b c =
    ap (λ t. if t then read_calls z r.offset r.len else if r.kind == 1 then write_calls z (is_forced r) least r.offset bytes
    else if r.kind == 4 then trim_calls z r.offset r.len ++ flush_behind r else plain calls.Flush ∷ []) (ne_eqb r.kind 0 a)
    ∙ ap (λ t. if t then write_calls z (is_forced r) least r.offset bytes
    else if r.kind == 4 then trim_calls z r.offset r.len ++ flush_behind r else plain calls.Flush ∷ []) (ne_eqb r.kind 1 b)
    ∙ ap (λ t. if t then trim_calls z r.offset r.len ++ flush_behind r else plain calls.Flush ∷ []) (ne_eqb r.kind 4 c)

-- ---- the flush behind a trim

pub forced_flush : (r : Request) → r.flags ≡ 1 → r.len ≢ 0 → flush_behind r ≡ plain calls.Flush ∷ []
forced_flush r e some =
    ap₂ (λ (a b : Bool). if a && not b then plain calls.Flush ∷ [] else []) (ap (λ k. k == 1) e) (ne_eqb r.len 0 some)

pub no_flush : (r : Request) → r.flags ≢ 1 → flush_behind r ≡ []
no_flush r e = ap (λ b. if b && not (r.len == 0) then plain calls.Flush ∷ [] else []) (ne_eqb r.flags 1 e)

pub empty_flush : (r : Request) → r.len ≡ 0 → flush_behind r ≡ []
empty_flush r e = ap (λ k. if is_forced r && not (k == 0) then plain calls.Flush ∷ [] else []) e ∙ go (is_forced r)
  where
    go : (b : Bool) → (if b && false then plain calls.Flush ∷ [] else []) ≡ []
    go true = refl
    go false = refl

-- ---- the reply as it is sent

pub reply_cut : (r : Request) (error : ℕ) (page : List ℕ)
    → take (reply_len r error) (reply_head error r.cookie ++ drop 16 page) ≡ reply_text r error (read_part r page)
unfolding reply_text reply_head number_bytes
reply_cut r error page = go ((r.kind == read_kind) && (error == 0))
  where
    go : (b : Bool) → take (if b then 16 + r.len else 16) (reply_head error r.cookie ++ drop 16 page) ≡ reply_head error r.cookie ++ (if b then take r.len (drop 16 page) else [])
    go true = take-append-add (reply_head error r.cookie) (drop 16 page) r.len
    go false = take-append_seam (reply_head error r.cookie) (drop 16 page) ∙ sym (append-nil (reply_head error r.cookie))

-- the same error, and other bytes where it isn't a read
pub handled_as : {D : Type 0} {tells : Telling D} {g : Geometry} {r : Request} {bytes : List ℕ} {old new : D} {error other : ℕ} {given : List ℕ} → error ≡ other
    → IsHandled tells g r bytes old new error given → IsHandled tells g r bytes old new other given
handled_as {tells = tells} {g = g} {r = r} {bytes = bytes} {old = old} {new = new} {given = given} e h = subst (λ k. IsHandled tells g r bytes old new k given) e h

pub handled_gives : {D : Type 0} {tells : Telling D} {g : Geometry} {r : Request} {bytes : List ℕ} {old new : D} {error : ℕ} {given : List ℕ} (other : List ℕ) → (r.kind ≡ 0 → given ≡ other)
    → IsHandled tells g r bytes old new error given → IsHandled tells g r bytes old new error other
handled_gives {tells = tells} other e h = record {
  calls = h.calls;
  made = h.made;
  runs = h.runs;
  says = h.says;
  gave = λ kind ok. sym (e kind) ∙ h.gave kind ok;
}

-- what was read is the part of the page that it was read into
pub part_put : (n : ℕ) (page buf : List ℕ) → 16 ≤ length page → length buf ≡ n → take n (drop 16 (put_mid 16 (16 + n - 16) page buf)) ≡ buf
part_put n page buf room e =
    let front : length (take 16 page) ≡ 16 = length-take-le 16 page room in
    let rest = buf ++ post_of 16 (16 + n - 16) page in
    ap (take n) (drop_at (take 16 page) rest 16 front) ∙ take_at buf (post_of 16 (16 + n - 16) page) n e

-- a page has room for the reply
pub room_for : (r : Request) (error n : ℕ) → 16 ≤ n → (r.kind ≡ 0 → error ≡ 0 → 16 + r.len ≤ n) → reply_len r error ≤ n
room_for r error n head longer = go (r.kind == 0) (error == 0) refl refl
  where
    go : (a b : Bool) → (r.kind == 0) ≡ a → (error == 0) ≡ b → (if a && b then 16 + r.len else 16) ≤ n
    go true true e f = longer (eqb-true r.kind 0 e) (eqb-true error 0 f)
    go true false e f = head
    go false b e f = head

-- what is sent is the answer
pub answer_is : {D : Type 0} (tells : Telling D) (g : Geometry) (r : Request) (bytes : List ℕ) (old new : D) (error : ℕ) (given : List ℕ) (h : IsHandled tells g r bytes old new error given)
    → reply_text r error given ≡ answer g r h.calls
unfolding reply_text answer
answer_is tells g r bytes old new error given h =
    go (r.kind == 0) (error == 0) refl refl
    ∙ ap (λ k. reply_head k r.cookie ++ (if (r.kind == read_kind) && (k == 0) then bytes_given h.calls else [])) h.says
  where
    go : (a b : Bool) → (r.kind == 0) ≡ a → (error == 0) ≡ b
        → reply_head error r.cookie ++ (if (r.kind == read_kind) && (error == 0) then given else []) ≡ reply_head error r.cookie ++ (if (r.kind == read_kind) && (error == 0) then bytes_given h.calls else [])
    go true true e f = ap (λ l. reply_head error r.cookie ++ (if (r.kind == read_kind) && (error == 0) then l else [])) (h.gave (eqb-true r.kind 0 e) (eqb-true error 0 f))
    go true false e f = ap (λ t. reply_head error r.cookie ++ (if (r.kind == read_kind) && t then given else [])) f ∙ ap (λ t. reply_head error r.cookie ++ (if t && false then given else [])) e
        ∙ sym (ap (λ t. reply_head error r.cookie ++ (if (r.kind == read_kind) && t then bytes_given h.calls else [])) f ∙ ap (λ t. reply_head error r.cookie ++ (if t && false then bytes_given h.calls else [])) e)
    go false b e f = ap (λ t. reply_head error r.cookie ++ (if t && (error == 0) then given else [])) e
        ∙ sym (ap (λ t. reply_head error r.cookie ++ (if t && (error == 0) then bytes_given h.calls else [])) e)

-- what is sent of an export
pub export_cut : (e : Export) (flags : ℕ)
    → take (if wants_no_zeros flags then 10 else 134) (number_bytes 8 (e.geometry.sectors * e.geometry.sector) ++ number_bytes 2 (transmission_flags e.is_read_only) ++ replicate 124 0) ≡ export_reply e flags
unfolding export_reply number_bytes
export_cut e flags = go (wants_no_zeros flags)
  where
    go : (b : Bool) → take (if b then 10 else 134) (number_bytes 8 (e.geometry.sectors * e.geometry.sector) ++ number_bytes 2 (transmission_flags e.is_read_only) ++ replicate 124 0)
        ≡ number_bytes 8 (e.geometry.sectors * e.geometry.sector) ++ number_bytes 2 (transmission_flags e.is_read_only) ++ (if b then [] else replicate 124 0)
    go true = refl
    go false = refl
