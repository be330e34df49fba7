use Rattle.std.proofs.Common.{◌≡◌, ◌≤◌, ◌<◌, ◌+◌, ◌-◌, ◌++◌, [], ℕ, arith, ap, length, take, length-append, length-take-le, ◌∙◌}
use Rattle.std.specs.Prelude.{min}
use Rattle.std.proofs.KnownBytes.{Consumes-kept, Consumes-nil}
use Rattle.std.proofs.lemmas.List.{take-append-le}
use Rattle.std.proofs.lemmas.Result.{err_from_is_err_and}
use borrow.Author.Tests.{ltb-false, ltb-true}
use Rattle.script.proofs.from_source.take_piece.Given as given
use Rattle.script.proofs.Appended.{none_read, not_written}
use Rattle.script.proofs.from_source.take_piece.Goals as goal

-- what is asked for at once, where so many bytes are there: some, and no more than the limit leaves
asked : (len room : ℕ) → len ≤ 16777216 → room ≡ min 65536 (16777217 - len) → (0 < room) × (room ≤ 65536) × (len + room ≤ 16777217)
asked len room few e = (omega arith, omega arith, omega arith)

within : (len room n longer : ℕ) → len + room ≤ 16777217 → n ≤ room → longer ≡ len + n → longer ≤ 16777217
within len room n longer h k e = omega arith

wider : (len n longer : ℕ) → 0 < n → longer ≡ len + n → len < longer
wider len n longer h e = omega arith

module _ (g : given.Over) (c : goal.In_ok-extend_from_slice g) where
  abbrev room : ℕ
  room = c.min-room.result

  room_asked : (0 < room) × (room ≤ 65536) × (length c.args.text.now.items + room ≤ 16777217)
  room_asked = asked (length c.args.text.now.items) room c.requires.few (c.min-room.ensures ∙ ap (λ n. min 65536 (16777217 - n)) (c.len.ensures ∙ c.args.text.now.ok.0))

  out_len : length c.read.new.out ≡ room
  out_len = c.read.auto.out ∙ length-take-le room c.args.piece.now (rw c.requires.room room_asked.1)

  -- the text has what was read behind it
  grown : c.extend_from_slice.new.self.items ≡ c.args.text.now.items ++ take c.in_ok-taken.taken c.read.new.out
  grown = c.in_ok-extend_from_slice.ensures.items ∙ ap (λ l. c.args.text.now.items ++ l) (take-append-le c.in_ok-taken.taken c.read.new.out _ c.in_ok-taken.ensures.bound)

  longer : length c.extend_from_slice.new.self.items ≡ length c.args.text.now.items + c.in_ok-taken.taken
  longer = ap length grown ∙ length-append _ _ ∙ ap (λ n. length c.args.text.now.items + n) (length-take-le _ _ c.in_ok-taken.ensures.bound)

pub returns-clause-taken : goal.returns-clause-taken
returns-clause-taken g c = (take c.in_ok-taken.taken c.read.new.out, grown g c, c.in_ok-taken.ensures.bytes.0)

pub returns-clause-most : goal.returns-clause-most
returns-clause-most g c = within _ (room g c) _ _ (room_asked g c).2 (rw (out_len g c) at c.in_ok-taken.ensures.bound) (longer g c)

pub returns-clause-more : goal.returns-clause-more
returns-clause-more g c = λ e. wider _ _ _ (ltb-true 0 c.in_ok-taken.taken e) (longer g c)

none : (n : ℕ) → n ≤ 0 → n ≡ 0
none n h = omega arith

pub returns-clause-end : goal.returns-clause-end
returns-clause-end g c = λ e. c.in_ok-taken.ensures.bytes.1 (none _ (ltb-false 0 c.in_ok-taken.taken e)) (rw (out_len g c) (room_asked g c).0)

pub returns-in_err-taken-clause-part : goal.returns-in_err-taken-clause-part
returns-in_err-taken-clause-part g c =
    let p = err_from_is_err_and c.from_residual.result c.from_residual.ensures.1 in
    rw p.1 ([], Consumes-kept _ _ _ [] (Consumes-nil _) c.in_err-taken.ensures.bytes)

pub returns-in_err-taken-clause-unread : goal.returns-in_err-taken-clause-unread
returns-in_err-taken-clause-unread g c =
    let p = err_from_is_err_and c.from_residual.result c.from_residual.ensures.1 in
    rw (p.1, p.2) tt

pub returns-in_err-extend_from_slice-clause-part : goal.returns-in_err-extend_from_slice-clause-part
returns-in_err-extend_from_slice-clause-part g c =
    let p = err_from_is_err_and c.from_residual-in_err-extend_from_slice.result c.from_residual-in_err-extend_from_slice.ensures.1 in
    rw p.1 (take c.in_ok-taken.taken c.read.new.out, c.in_ok-taken.ensures.bytes.0)

pub returns-in_err-extend_from_slice-clause-unread : goal.returns-in_err-extend_from_slice-clause-unread
returns-in_err-extend_from_slice-clause-unread g c =
    let p = err_from_is_err_and c.from_residual-in_err-extend_from_slice.result c.from_residual-in_err-extend_from_slice.ensures.1 in
    rw (p.1, p.2) tt

pub returns-in_err-taken-clause-taken : goal.returns-in_err-taken-clause-taken
returns-in_err-taken-clause-taken g c = not_written c.from_residual.result c.from_residual.ensures.0 _

pub returns-in_err-taken-clause-most : goal.returns-in_err-taken-clause-most
returns-in_err-taken-clause-most g c = not_written c.from_residual.result c.from_residual.ensures.0 _

pub returns-in_err-taken-clause-more : goal.returns-in_err-taken-clause-more
returns-in_err-taken-clause-more g c = none_read c.from_residual.result c.from_residual.ensures.0 _

pub returns-in_err-taken-clause-end : goal.returns-in_err-taken-clause-end
returns-in_err-taken-clause-end g c = none_read c.from_residual.result c.from_residual.ensures.0 _

pub returns-in_err-extend_from_slice-clause-taken : goal.returns-in_err-extend_from_slice-clause-taken
returns-in_err-extend_from_slice-clause-taken g c = not_written c.from_residual-in_err-extend_from_slice.result c.from_residual-in_err-extend_from_slice.ensures.0 _

pub returns-in_err-extend_from_slice-clause-most : goal.returns-in_err-extend_from_slice-clause-most
returns-in_err-extend_from_slice-clause-most g c = not_written c.from_residual-in_err-extend_from_slice.result c.from_residual-in_err-extend_from_slice.ensures.0 _

pub returns-in_err-extend_from_slice-clause-more : goal.returns-in_err-extend_from_slice-clause-more
returns-in_err-extend_from_slice-clause-more g c = none_read c.from_residual-in_err-extend_from_slice.result c.from_residual-in_err-extend_from_slice.ensures.0 _

pub returns-in_err-extend_from_slice-clause-end : goal.returns-in_err-extend_from_slice-clause-end
returns-in_err-extend_from_slice-clause-end g c = none_read c.from_residual-in_err-extend_from_slice.result c.from_residual-in_err-extend_from_slice.ensures.0 _
