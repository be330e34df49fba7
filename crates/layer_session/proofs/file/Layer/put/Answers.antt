use Rattle.std.proofs.Common.{false, subst, ap, ◌≡◌, ◌∙◌, sym, ◌+◌, ◌≤◌}
use Rattle.store_model.specs.Disk.{WhereBothTold}
use Rattle.table_pages.specs.declared.tables.TableParts.{TableParts}
use Rattle.layer_session.specs.Calls.{Fails, HasPut, sectors_in, with_bytes}
use Rattle.layer_session.proofs.Calling.{broken_call, broken_err, call_moments, call_put}
use Rattle.layer_session.proofs.Joining.{fails_from, keeps_puts}
use Rattle.layer_session.specs.Steps.{Begins, Wants}
use Rattle.layer_session.specs.Taking.{IsBroken}
use Rattle.layer_session.proofs.Exits.{either_way, full_off, refused_for, refused_off, room_for, room_off}
use Rattle.layer_session.proofs.Known.{of_parts}
use Rattle.layer_session.proofs.Told.{both_end, if_err_map, ok_map}
use Rattle.store_model.proofs.Told.{counts_join}
use Rattle.std.specs.Prelude.{Err}
use Rattle.vx_base.proofs.Handed.{err_is, failed_for, not_ok}
use Rattle.layer_session.proofs.file.Layer.put.Goals as goal

pub returns-in_err-prepare-clause-moments : goal.returns-in_err-prepare-clause-moments
returns-in_err-prepare-clause-moments g c =
    keeps_puts c.args.self.now c.args.first (sectors_in c.args.self.now c.args.bytes.now) (g.S.Store.disk c.args.store.now).told (g.S.Store.disk c.prepare.new.store).told c.prepare.ensures.moments

pub returns-in_err-prepare-clause-broken : goal.returns-in_err-prepare-clause-broken
returns-in_err-prepare-clause-broken g c =
    broken_err c.from_residual.result c.in_err-prepare.field-0.0 c.args.self.now c.prepare.new.self c.args.first (sectors_in c.args.self.now c.args.bytes.now) (g.S.Store.disk c.args.store.now) (g.S.Store.disk c.prepare.new.store) (err_is c.from_residual.result _ c.from_residual.ensures.1) c.in_err-prepare.ensures.broken

pub returns-clause-moments : goal.returns-clause-moments
returns-clause-moments g c =
    call_moments c.args.self.now c.prepare.new.self c.args.first (sectors_in c.args.self.now c.args.bytes.now) false (g.S.Store.disk c.args.store.now).told (g.S.Store.disk c.prepare.new.store).told (g.S.Store.disk c.put_blocks.new.store).told c.in_ok-prepare.ensures.done c.prepare.ensures.moments c.put_blocks.ensures.moments

pub returns-clause-put : goal.returns-clause-put
returns-clause-put g c =
    ok_map c.put_blocks.result _ _ c.put_blocks.ensures.done
    (λ d. call_put c.args.self.now c.prepare.new.self c.args.first (sectors_in c.args.self.now c.args.bytes.now) false (g.S.Store.disk c.args.store.now).told (g.S.Store.disk c.prepare.new.store).told (g.S.Store.disk c.put_blocks.new.store).told c.in_ok-prepare.ensures.done c.put_blocks.new.self (with_bytes c.args.self.now.tables.parts.sector c.args.first (sectors_in c.args.self.now c.args.bytes.now) c.args.bytes.now)
    (subst (λ z. WhereBothTold (HasPut c.prepare.new.self c.put_blocks.new.self c.args.first (sectors_in c.args.self.now c.args.bytes.now) (with_bytes z c.args.first (sectors_in c.args.self.now c.args.bytes.now) c.args.bytes.now)) (g.S.Store.disk c.prepare.new.store).told (g.S.Store.disk c.put_blocks.new.store).told) (ap (λ (p : TableParts). p.sector) c.prepare.ensures.parts) d.put))

pub returns-clause-broken : goal.returns-clause-broken
returns-clause-broken g c =
    broken_call c.put_blocks.result c.args.self.now c.prepare.new.self c.put_blocks.new.self c.args.first (sectors_in c.args.self.now c.args.bytes.now) false (g.S.Store.disk c.args.store.now) (g.S.Store.disk c.prepare.new.store) (g.S.Store.disk c.put_blocks.new.store) c.in_ok-prepare.ensures.done c.put_blocks.ensures.broken

pub returns-in_err-prepare-clause-full : goal.returns-in_err-prepare-clause-full
returns-in_err-prepare-clause-full g c next e =
    let told : c.from_residual.result ≡ Err c.in_err-prepare.field-0.0 = err_is c.from_residual.result _ c.from_residual.ensures.1 in c.in_err-prepare.ensures.full next (sym told ∙ e)

pub prepare-requires-clause-ready : goal.prepare-requires-clause-ready
prepare-requires-clause-ready g c = c.requires.ready

pub returns-in_err-prepare-clause-put : goal.returns-in_err-prepare-clause-put
returns-in_err-prepare-clause-put g c = not_ok c.from_residual.result _ c.from_residual.ensures.1 _

pub returns-in_err-prepare-clause-ready : goal.returns-in_err-prepare-clause-ready
returns-in_err-prepare-clause-ready g c = not_ok c.from_residual.result _ c.from_residual.ensures.1 _

pub returns-in_err-prepare-clause-counts : goal.returns-in_err-prepare-clause-counts
returns-in_err-prepare-clause-counts g c = not_ok c.from_residual.result _ c.from_residual.ensures.1 _

pub returns-in_err-prepare-clause-parts : goal.returns-in_err-prepare-clause-parts
returns-in_err-prepare-clause-parts g c = c.prepare.ensures.parts

pub returns-in_err-prepare-clause-number : goal.returns-in_err-prepare-clause-number
returns-in_err-prepare-clause-number g c = c.prepare.ensures.number

pub returns-in_err-prepare-clause-header : goal.returns-in_err-prepare-clause-header
returns-in_err-prepare-clause-header g c = c.prepare.ensures.header

pub returns-in_err-prepare-clause-err : goal.returns-in_err-prepare-clause-err
returns-in_err-prepare-clause-err g c = failed_for c.from_residual.result _ c.from_residual.ensures.1 _ c.in_err-prepare.ensures.err

pub returns-in_err-prepare-clause-refused : goal.returns-in_err-prepare-clause-refused
returns-in_err-prepare-clause-refused g c = refused_for c.from_residual.result c.in_err-prepare.field-0.0 c.from_residual.ensures.1 _ _ (λ s. s.0) c.in_err-prepare.ensures.refused

pub returns-in_err-prepare-clause-kept : goal.returns-in_err-prepare-clause-kept
returns-in_err-prepare-clause-kept g c = refused_for c.from_residual.result c.in_err-prepare.field-0.0 c.from_residual.ensures.1 _ _ (λ s. s.1) c.in_err-prepare.ensures.refused

pub returns-in_err-prepare-clause-quiet : goal.returns-in_err-prepare-clause-quiet
returns-in_err-prepare-clause-quiet g c = refused_for c.from_residual.result c.in_err-prepare.field-0.0 c.from_residual.ensures.1 _ _ (λ s. c.prepare.ensures.moments) c.in_err-prepare.ensures.refused

pub returns-in_err-prepare-clause-room : goal.returns-in_err-prepare-clause-room
returns-in_err-prepare-clause-room g c = room_for c.from_residual.result c.in_err-prepare.field-0.0 c.from_residual.ensures.1 _ _ (λ p. p) c.in_err-prepare.ensures.room

pub returns-clause-ready : goal.returns-clause-ready
returns-clause-ready g c = ok_map c.put_blocks.result _ _ c.put_blocks.ensures.done (λ d. d.ready)

pub returns-clause-refused : goal.returns-clause-refused
returns-clause-refused g c = refused_off c.put_blocks.result (IsBroken c.prepare.new.self c.put_blocks.new.self c.args.first (sectors_in c.args.self.now c.args.bytes.now) (g.S.Store.disk c.prepare.new.store) (g.S.Store.disk c.put_blocks.new.store)) c.put_blocks.ensures.broken (λ e b. (b.cause, b.written)) _

pub returns-clause-kept : goal.returns-clause-kept
returns-clause-kept g c = refused_off c.put_blocks.result (IsBroken c.prepare.new.self c.put_blocks.new.self c.args.first (sectors_in c.args.self.now c.args.bytes.now) (g.S.Store.disk c.prepare.new.store) (g.S.Store.disk c.put_blocks.new.store)) c.put_blocks.ensures.broken (λ e b. (b.cause, b.written)) _

pub returns-clause-quiet : goal.returns-clause-quiet
returns-clause-quiet g c = refused_off c.put_blocks.result (IsBroken c.prepare.new.self c.put_blocks.new.self c.args.first (sectors_in c.args.self.now c.args.bytes.now) (g.S.Store.disk c.prepare.new.store) (g.S.Store.disk c.put_blocks.new.store)) c.put_blocks.ensures.broken (λ e b. (b.cause, b.written)) _

pub returns-clause-parts : goal.returns-clause-parts
returns-clause-parts g c = either_way c.put_blocks.result _ _ (IsBroken c.prepare.new.self c.put_blocks.new.self c.args.first (sectors_in c.args.self.now c.args.bytes.now) (g.S.Store.disk c.prepare.new.store) (g.S.Store.disk c.put_blocks.new.store)) c.put_blocks.ensures.done c.put_blocks.ensures.broken (λ d. d.parts) (λ e b. b.parts) ∙ c.prepare.ensures.parts

pub returns-clause-header : goal.returns-clause-header
returns-clause-header g c = either_way c.put_blocks.result _ _ (IsBroken c.prepare.new.self c.put_blocks.new.self c.args.first (sectors_in c.args.self.now c.args.bytes.now) (g.S.Store.disk c.prepare.new.store) (g.S.Store.disk c.put_blocks.new.store)) c.put_blocks.ensures.done c.put_blocks.ensures.broken (λ d. d.header) (λ e b. b.header) ∙ c.prepare.ensures.header

pub returns-clause-number : goal.returns-clause-number
returns-clause-number g c = subst (λ n. n ≤ c.args.self.now.log.number + 1) (sym (either_way c.put_blocks.result _ _ (IsBroken c.prepare.new.self c.put_blocks.new.self c.args.first (sectors_in c.args.self.now c.args.bytes.now) (g.S.Store.disk c.prepare.new.store) (g.S.Store.disk c.put_blocks.new.store)) c.put_blocks.ensures.done c.put_blocks.ensures.broken (λ d. d.number) (λ e b. b.number))) c.prepare.ensures.number

pub returns-clause-counts : goal.returns-clause-counts
returns-clause-counts g c = ok_map c.put_blocks.result _ _ c.put_blocks.ensures.done (λ d. counts_join (g.S.Store.disk c.args.store.now) (g.S.Store.disk c.prepare.new.store) (g.S.Store.disk c.put_blocks.new.store) c.in_ok-prepare.ensures.counts d.counts)

pub returns-clause-err : goal.returns-clause-err
returns-clause-err g c = if_err_map c.put_blocks.result (IsBroken c.prepare.new.self c.put_blocks.new.self c.args.first (sectors_in c.args.self.now c.args.bytes.now) (g.S.Store.disk c.prepare.new.store) (g.S.Store.disk c.put_blocks.new.store)) (Fails c.args.self.now.tables.parts.file (g.S.Store.disk c.args.store.now) (g.S.Store.disk c.put_blocks.new.store)) c.put_blocks.ensures.broken (λ e b. fails_from c.args.self.now.tables.parts.file (g.S.Store.disk c.args.store.now) (g.S.Store.disk c.prepare.new.store) (g.S.Store.disk c.put_blocks.new.store) e b.cause b.written c.in_ok-prepare.ensures.counts (subst (λ n. Fails n (g.S.Store.disk c.prepare.new.store) (g.S.Store.disk c.put_blocks.new.store) e) (ap (λ (p : TableParts). p.file) c.prepare.ensures.parts) b.fails))

pub returns-clause-full : goal.returns-clause-full
returns-clause-full g c next e = absurd (full_off c.put_blocks.result (IsBroken c.prepare.new.self c.put_blocks.new.self c.args.first (sectors_in c.args.self.now c.args.bytes.now) (g.S.Store.disk c.prepare.new.store) (g.S.Store.disk c.put_blocks.new.store)) c.put_blocks.ensures.broken (λ e b. (b.cause, b.written)) next e)

pub returns-clause-room : goal.returns-clause-room
returns-clause-room g c = room_off c.put_blocks.result (IsBroken c.prepare.new.self c.put_blocks.new.self c.args.first (sectors_in c.args.self.now c.args.bytes.now) (g.S.Store.disk c.prepare.new.store) (g.S.Store.disk c.put_blocks.new.store)) c.put_blocks.ensures.broken (λ e b. (b.cause, b.written)) _ c.in_ok-prepare.ensures.room

pub prepare-requires-clause-on_disk : goal.prepare-requires-clause-on_disk
prepare-requires-clause-on_disk g c = c.requires.on_disk

pub prepare-requires-clause-numbers : goal.prepare-requires-clause-numbers
prepare-requires-clause-numbers g c = c.requires.numbers

pub put_blocks-requires-clause-ready : goal.put_blocks-requires-clause-ready
put_blocks-requires-clause-ready g c = c.in_ok-prepare.ensures.ready

pub put_blocks-requires-clause-prepared : goal.put_blocks-requires-clause-prepared
put_blocks-requires-clause-prepared g c = c.in_ok-prepare.ensures.prepared

pub put_blocks-requires-clause-on_disk : goal.put_blocks-requires-clause-on_disk
put_blocks-requires-clause-on_disk g c = of_parts (λ p. c.args.first + (sectors_in c.args.self.now c.args.bytes.now) ≤ p.sectors) _ _ c.prepare.ensures.parts c.requires.on_disk

pub put_blocks-requires-clause-wants : goal.put_blocks-requires-clause-wants
put_blocks-requires-clause-wants g c = both_end (Begins c.args.self.now c.prepare.new.self c.args.first (sectors_in c.args.self.now c.args.bytes.now) false) (Wants c.prepare.new.self 0 c.args.first (sectors_in c.args.self.now c.args.bytes.now) false) (g.S.Store.disk c.args.store.now).told (g.S.Store.disk c.prepare.new.store).told c.in_ok-prepare.ensures.done (λ t u k. k.wants)
