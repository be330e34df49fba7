use Rattle.std.proofs.Common.{◌≡◌, ◌+◌, ◌*◌, ◌-◌, ◌^◌, ◌<◌, ◌≤◌, true, refl, sym, subst}
use Rattle.vhdx_format.specs.Fields.{megabyte}
use Rattle.block_alloc.specs.Spaces.{can_take}
use Rattle.layer_session.proofs.Exits.{less_le}
use Rattle.layer_session.proofs.Known.{counts_changed}
use Rattle.std.specs.Prelude.{Ok, Err, min}
use Rattle.store_model.specs.Disk.{WhereBothTold}
use Rattle.log_write.specs.Sessions.{LogState}
use Rattle.layer_session.specs.declared.file.Layer.{Layer}
use Rattle.layer_session.specs.Keeping.{IsReady}
use Rattle.layer_session.specs.Taking.{HasTaken}
use Rattle.layer_session.proofs.Taken.{from_take, grown_all, grown_ready, left_holds, left_over, left_ready, left_taken, left_unused, other_len, taken_only, unit_small}
use Rattle.layer_session.proofs.WriteSteps.{grow_moments, open_for}
use Rattle.layer_session.proofs.file.Layer.take_block.Goals as goal

pub returns-in-Ok-grow-clause-moments : goal.returns-in-Ok-grow-clause-moments
returns-in-Ok-grow-clause-moments g c =
    grow_moments c.args.self.now c.place_in-end.result (less_le _ _ (subst (λ n. n < c.place_in-end.result) c.file_len.ensures c.if-end-file_len.true)) (g.S.Store.disk c.args.store.now) (g.S.Store.disk c.grow.new.store) c.args.self.now.log.file c.requires.ready.one_file (Ok tt) c.in-Ok-grow.ensures.ok tt

pub returns-in-Err-grow-clause-moments : goal.returns-in-Err-grow-clause-moments
returns-in-Err-grow-clause-moments g c =
    grow_moments c.args.self.now c.place_in-end.result (less_le _ _ (subst (λ n. n < c.place_in-end.result) c.file_len.ensures c.if-end-file_len.true)) (g.S.Store.disk c.args.store.now) (g.S.Store.disk c.grow.new.store) c.args.self.now.log.file c.requires.ready.one_file (Err c.in-Err-grow.fault) tt c.in-Err-grow.ensures.err

pub returns-in-Ok-grow-clause-taken : goal.returns-in-Ok-grow-clause-taken
returns-in-Ok-grow-clause-taken g c =
    let from = from_take c.args.self.now.space c.take.new.self c.block_units-units.result c.in-Ok.unit c.in-Ok.ensures.given c.in-Ok.ensures.taken c.in-Ok.ensures.within c.in-Ok.ensures.apart in
    let l : Layer = c.args.self.now in
    subst (λ (log : LogState). WhereBothTold (HasTaken l (record l { log = log; space = c.take.new.self }) c.in-Ok.unit) (g.S.Store.disk c.args.store.now).told (g.S.Store.disk c.grow.new.store).told) (sym c.in-Ok-grow.ensures.log)
    (grown_all c.args.self.now (g.S.Store.disk c.args.store.now) (g.S.Store.disk c.grow.new.store) c.requires.ready c.block_units-units.result c.in-Ok.unit c.block_units-units.ensures.is c.block_units-units.ensures.some c.take.new.self from c.place_in-end.result (subst (λ n. c.place_in-end.result ≡ min (c.in-Ok.unit * megabyte + n) (2 ^ 64 - 1)) c.from-bytes.ensures c.place_in-end.ensures) (subst (λ n. n < c.place_in-end.result) c.file_len.ensures c.if-end-file_len.true) c.in-Ok-grow.ensures.ok)

pub returns-in-Ok-grow-clause-ready : goal.returns-in-Ok-grow-clause-ready
returns-in-Ok-grow-clause-ready g c =
    let from = from_take c.args.self.now.space c.take.new.self c.block_units-units.result c.in-Ok.unit c.in-Ok.ensures.given c.in-Ok.ensures.taken c.in-Ok.ensures.within c.in-Ok.ensures.apart in
    let l : Layer = c.args.self.now in
    subst (λ (log : LogState). (let then : Layer = record l { log = log; space = c.take.new.self } in IsReady then (g.S.Store.disk c.grow.new.store))) (sym c.in-Ok-grow.ensures.log)
    (grown_ready c.args.self.now (g.S.Store.disk c.args.store.now) (g.S.Store.disk c.grow.new.store) c.requires.ready c.block_units-units.result c.in-Ok.unit c.block_units-units.ensures.is c.block_units-units.ensures.some c.take.new.self from c.place_in-end.result (subst (λ n. c.place_in-end.result ≡ min (c.in-Ok.unit * megabyte + n) (2 ^ 64 - 1)) c.from-bytes.ensures c.place_in-end.ensures) (subst (λ n. n < c.place_in-end.result) c.file_len.ensures c.if-end-file_len.true) c.in-Ok-grow.ensures.ok)

pub write_zeros-requires-clause-unused : goal.write_zeros-requires-clause-unused
write_zeros-requires-clause-unused g c t told =
    let from = from_take c.args.self.now.space c.take.new.self c.block_units-units.result c.in-Ok.unit c.in-Ok.ensures.given c.in-Ok.ensures.taken c.in-Ok.ensures.within c.in-Ok.ensures.apart in
    left_unused c.args.self.now (g.S.Store.disk c.args.store.now) (g.S.Store.disk c.args.store.now) c.requires.ready c.block_units-units.result c.in-Ok.unit c.block_units-units.ensures.is c.block_units-units.ensures.some c.take.new.self from c.place_in-end.result (subst (λ n. c.place_in-end.result ≡ min (c.in-Ok.unit * megabyte + n) (2 ^ 64 - 1)) c.from-bytes.ensures c.place_in-end.ensures) (subst (λ n. c.place_in-end.result ≤ n) c.file_len.ensures c.if-end-file_len.false) c.place_in.result c.place_in.ensures c.from-bytes.result c.from-bytes.ensures t told

pub returns-in-Ok-write_zeros-clause-moments : goal.returns-in-Ok-write_zeros-clause-moments
returns-in-Ok-write_zeros-clause-moments g c =
    let from = from_take c.args.self.now.space c.take.new.self c.block_units-units.result c.in-Ok.unit c.in-Ok.ensures.given c.in-Ok.ensures.taken c.in-Ok.ensures.within c.in-Ok.ensures.apart in
    left_over c.args.self.now (g.S.Store.disk c.args.store.now) (g.S.Store.disk c.write_zeros.new.store) c.requires.ready c.block_units-units.result c.in-Ok.unit c.block_units-units.ensures.is c.block_units-units.ensures.some c.take.new.self from c.place_in-end.result (subst (λ n. c.place_in-end.result ≡ min (c.in-Ok.unit * megabyte + n) (2 ^ 64 - 1)) c.from-bytes.ensures c.place_in-end.ensures) (subst (λ n. c.place_in-end.result ≤ n) c.file_len.ensures c.if-end-file_len.false) c.place_in.result c.place_in.ensures c.from-bytes.result c.from-bytes.ensures c.write_zeros.ensures.moments

pub returns-in-Err-write_zeros-clause-moments : goal.returns-in-Err-write_zeros-clause-moments
returns-in-Err-write_zeros-clause-moments g c =
    let from = from_take c.args.self.now.space c.take.new.self c.block_units-units.result c.in-Ok.unit c.in-Ok.ensures.given c.in-Ok.ensures.taken c.in-Ok.ensures.within c.in-Ok.ensures.apart in
    left_over c.args.self.now (g.S.Store.disk c.args.store.now) (g.S.Store.disk c.write_zeros.new.store) c.requires.ready c.block_units-units.result c.in-Ok.unit c.block_units-units.ensures.is c.block_units-units.ensures.some c.take.new.self from c.place_in-end.result (subst (λ n. c.place_in-end.result ≡ min (c.in-Ok.unit * megabyte + n) (2 ^ 64 - 1)) c.from-bytes.ensures c.place_in-end.ensures) (subst (λ n. c.place_in-end.result ≤ n) c.file_len.ensures c.if-end-file_len.false) c.place_in.result c.place_in.ensures c.from-bytes.result c.from-bytes.ensures c.write_zeros.ensures.moments

pub returns-in-Ok-write_zeros-clause-taken : goal.returns-in-Ok-write_zeros-clause-taken
returns-in-Ok-write_zeros-clause-taken g c =
    let from = from_take c.args.self.now.space c.take.new.self c.block_units-units.result c.in-Ok.unit c.in-Ok.ensures.given c.in-Ok.ensures.taken c.in-Ok.ensures.within c.in-Ok.ensures.apart in
    left_taken c.args.self.now (g.S.Store.disk c.args.store.now) (g.S.Store.disk c.write_zeros.new.store) c.requires.ready c.block_units-units.result c.in-Ok.unit c.block_units-units.ensures.is c.block_units-units.ensures.some c.take.new.self from c.place_in-end.result (subst (λ n. c.place_in-end.result ≡ min (c.in-Ok.unit * megabyte + n) (2 ^ 64 - 1)) c.from-bytes.ensures c.place_in-end.ensures) (subst (λ n. c.place_in-end.result ≤ n) c.file_len.ensures c.if-end-file_len.false) c.place_in.result c.place_in.ensures c.from-bytes.result c.from-bytes.ensures c.in-Ok-write_zeros.ensures.cleared

pub returns-in-Ok-write_zeros-clause-ready : goal.returns-in-Ok-write_zeros-clause-ready
returns-in-Ok-write_zeros-clause-ready g c =
    let from = from_take c.args.self.now.space c.take.new.self c.block_units-units.result c.in-Ok.unit c.in-Ok.ensures.given c.in-Ok.ensures.taken c.in-Ok.ensures.within c.in-Ok.ensures.apart in
    left_ready c.args.self.now (g.S.Store.disk c.args.store.now) (g.S.Store.disk c.write_zeros.new.store) c.requires.ready c.block_units-units.result c.in-Ok.unit c.block_units-units.ensures.is c.block_units-units.ensures.some c.take.new.self from c.place_in-end.result (subst (λ n. c.place_in-end.result ≡ min (c.in-Ok.unit * megabyte + n) (2 ^ 64 - 1)) c.from-bytes.ensures c.place_in-end.ensures) (subst (λ n. c.place_in-end.result ≤ n) c.file_len.ensures c.if-end-file_len.false) c.place_in.result c.place_in.ensures c.from-bytes.result c.from-bytes.ensures c.in-Ok-write_zeros.ensures.counts c.in-Ok-write_zeros.ensures.cleared

pub returns-in-Err-write_zeros-clause-broken : goal.returns-in-Err-write_zeros-clause-broken
returns-in-Err-write_zeros-clause-broken g c =
    let from = from_take c.args.self.now.space c.take.new.self c.block_units-units.result c.in-Ok.unit c.in-Ok.ensures.given c.in-Ok.ensures.taken c.in-Ok.ensures.within c.in-Ok.ensures.apart in
    let readable = c.in-Err-write_zeros.ensures.broken.0 in
    record {
      cause = c.in-Err-write_zeros.fault;
      written = refl;
      fails = c.in-Err-write_zeros.ensures.err;
      readable = record { there = readable.there; sizes = readable.sizes; told = readable.told };
      holds = left_holds c.args.self.now (g.S.Store.disk c.args.store.now) (g.S.Store.disk c.write_zeros.new.store) c.requires.ready c.block_units-units.result c.in-Ok.unit c.block_units-units.ensures.is c.block_units-units.ensures.some c.take.new.self from c.place_in-end.result (subst (λ n. c.place_in-end.result ≡ min (c.in-Ok.unit * megabyte + n) (2 ^ 64 - 1)) c.from-bytes.ensures c.place_in-end.ensures) (subst (λ n. c.place_in-end.result ≤ n) c.file_len.ensures c.if-end-file_len.false) c.place_in.result c.place_in.ensures c.from-bytes.result c.from-bytes.ensures c.in-Err-write_zeros.ensures.broken.1;
      parts = refl;
      number = refl;
      header = refl;
    }

pub block_units-units-requires : goal.block_units-units-requires
block_units-units-requires g c = record { parts = c.requires.ready.readable.sizes }

pub returns-in-Err-clause-moments : goal.returns-in-Err-clause-moments
returns-in-Err-clause-moments g c =
    absurd (c.in-Err.ensures.given (subst (λ n. can_take n c.args.self.now.space ≡ true) (sym c.block_units-units.ensures.is) c.requires.room))

pub returns-in-Err-clause-only : goal.returns-in-Err-clause-only
returns-in-Err-clause-only g c =
    absurd (c.in-Err.ensures.given (subst (λ n. can_take n c.args.self.now.space ≡ true) (sym c.block_units-units.ensures.is) c.requires.room))

pub returns-in-Err-clause-broken : goal.returns-in-Err-clause-broken
returns-in-Err-clause-broken g c =
    absurd (c.in-Err.ensures.given (subst (λ n. can_take n c.args.self.now.space ≡ true) (sym c.block_units-units.ensures.is) c.requires.room))

pub place_in-end-requires : goal.place_in-end-requires
place_in-end-requires g c =
    unit_small c.args.self.now.space c.take.new.self c.block_units-units.result c.in-Ok.unit (from_take c.args.self.now.space c.take.new.self c.block_units-units.result c.in-Ok.unit c.in-Ok.ensures.given c.in-Ok.ensures.taken c.in-Ok.ensures.within c.in-Ok.ensures.apart) c.requires.ready.most c.block_units-units.ensures.some

pub returns-in-Ok-grow-clause-unit : goal.returns-in-Ok-grow-clause-unit
returns-in-Ok-grow-clause-unit g c =
    unit_small c.args.self.now.space c.take.new.self c.block_units-units.result c.in-Ok.unit (from_take c.args.self.now.space c.take.new.self c.block_units-units.result c.in-Ok.unit c.in-Ok.ensures.given c.in-Ok.ensures.taken c.in-Ok.ensures.within c.in-Ok.ensures.apart) c.requires.ready.most c.block_units-units.ensures.some

pub place_in-requires : goal.place_in-requires
place_in-requires g c =
    unit_small c.args.self.now.space c.take.new.self c.block_units-units.result c.in-Ok.unit (from_take c.args.self.now.space c.take.new.self c.block_units-units.result c.in-Ok.unit c.in-Ok.ensures.given c.in-Ok.ensures.taken c.in-Ok.ensures.within c.in-Ok.ensures.apart) c.requires.ready.most c.block_units-units.ensures.some

pub returns-in-Ok-write_zeros-clause-unit : goal.returns-in-Ok-write_zeros-clause-unit
returns-in-Ok-write_zeros-clause-unit g c =
    unit_small c.args.self.now.space c.take.new.self c.block_units-units.result c.in-Ok.unit (from_take c.args.self.now.space c.take.new.self c.block_units-units.result c.in-Ok.unit c.in-Ok.ensures.given c.in-Ok.ensures.taken c.in-Ok.ensures.within c.in-Ok.ensures.apart) c.requires.ready.most c.block_units-units.ensures.some

pub grow-requires-clause-there : goal.grow-requires-clause-there
grow-requires-clause-there g c = subst (λ f. f < (g.S.Store.disk c.args.store.now).files) (sym c.requires.ready.one_file) c.requires.ready.readable.there

pub grow-requires-clause-longer : goal.grow-requires-clause-longer
grow-requires-clause-longer g c = less_le _ _ (subst (λ n. n < c.place_in-end.result) c.file_len.ensures c.if-end-file_len.true)

pub grow-requires-clause-open : goal.grow-requires-clause-open
grow-requires-clause-open g c = open_for c.args.self.now (g.S.Store.disk c.args.store.now) c.requires.ready

pub returns-in-Ok-grow-clause-only : goal.returns-in-Ok-grow-clause-only
returns-in-Ok-grow-clause-only g c =
    taken_only c.args.self.now c.grow.new.self c.take.new.self c.block_units-units.result (other_len c.args.self.now.log c.grow.new.self c.place_in-end.result c.in-Ok-grow.ensures.log) c.in-Ok.ensures.taken c.block_units-units.ensures.is

pub returns-in-Err-grow-clause-only : goal.returns-in-Err-grow-clause-only
returns-in-Err-grow-clause-only g c =
    taken_only c.args.self.now c.grow.new.self c.take.new.self c.block_units-units.result (other_len c.args.self.now.log c.grow.new.self c.args.self.now.log.len c.in-Err-grow.ensures.kept) c.in-Ok.ensures.taken c.block_units-units.ensures.is

pub returns-in-Ok-write_zeros-clause-only : goal.returns-in-Ok-write_zeros-clause-only
returns-in-Ok-write_zeros-clause-only g c =
    taken_only c.args.self.now c.args.self.now.log c.take.new.self c.block_units-units.result refl c.in-Ok.ensures.taken c.block_units-units.ensures.is

pub returns-in-Err-write_zeros-clause-only : goal.returns-in-Err-write_zeros-clause-only
returns-in-Err-write_zeros-clause-only g c =
    taken_only c.args.self.now c.args.self.now.log c.take.new.self c.block_units-units.result refl c.in-Ok.ensures.taken c.block_units-units.ensures.is

pub returns-in-Ok-grow-clause-counts : goal.returns-in-Ok-grow-clause-counts
returns-in-Ok-grow-clause-counts g c = counts_changed (g.S.Store.disk c.args.store.now) (g.S.Store.disk c.grow.new.store) _ c.in-Ok-grow.ensures.ok

pub write_zeros-requires-clause-readable : goal.write_zeros-requires-clause-readable
write_zeros-requires-clause-readable g c = let r = c.requires.ready.readable in record { there = r.there; sizes = r.sizes; told = r.told }

pub write_zeros-requires-clause-one_file : goal.write_zeros-requires-clause-one_file
write_zeros-requires-clause-one_file g c = c.requires.ready.one_file

pub write_zeros-requires-clause-clear : goal.write_zeros-requires-clause-clear
write_zeros-requires-clause-clear g c = c.requires.ready.clear

pub returns-in-Ok-write_zeros-clause-counts : goal.returns-in-Ok-write_zeros-clause-counts
returns-in-Ok-write_zeros-clause-counts g c = c.in-Ok-write_zeros.ensures.counts

pub returns-in-Err-clause-counts : goal.returns-in-Err-clause-counts
returns-in-Err-clause-counts g c = tt

pub returns-in-Err-clause-ready : goal.returns-in-Err-clause-ready
returns-in-Err-clause-ready g c = tt

pub returns-in-Err-clause-taken : goal.returns-in-Err-clause-taken
returns-in-Err-clause-taken g c = tt

pub returns-in-Err-clause-unit : goal.returns-in-Err-clause-unit
returns-in-Err-clause-unit g c = tt

pub returns-in-Err-grow-clause-counts : goal.returns-in-Err-grow-clause-counts
returns-in-Err-grow-clause-counts g c = tt

pub returns-in-Err-grow-clause-ready : goal.returns-in-Err-grow-clause-ready
returns-in-Err-grow-clause-ready g c = tt

pub returns-in-Err-grow-clause-taken : goal.returns-in-Err-grow-clause-taken
returns-in-Err-grow-clause-taken g c = tt

pub returns-in-Err-grow-clause-unit : goal.returns-in-Err-grow-clause-unit
returns-in-Err-grow-clause-unit g c = tt

pub returns-in-Err-write_zeros-clause-counts : goal.returns-in-Err-write_zeros-clause-counts
returns-in-Err-write_zeros-clause-counts g c = tt

pub returns-in-Err-write_zeros-clause-ready : goal.returns-in-Err-write_zeros-clause-ready
returns-in-Err-write_zeros-clause-ready g c = tt

pub returns-in-Err-write_zeros-clause-taken : goal.returns-in-Err-write_zeros-clause-taken
returns-in-Err-write_zeros-clause-taken g c = tt

pub returns-in-Err-write_zeros-clause-unit : goal.returns-in-Err-write_zeros-clause-unit
returns-in-Err-write_zeros-clause-unit g c = tt

pub returns-in-Ok-grow-clause-broken : goal.returns-in-Ok-grow-clause-broken
returns-in-Ok-grow-clause-broken g c = tt

pub returns-in-Ok-write_zeros-clause-broken : goal.returns-in-Ok-write_zeros-clause-broken
returns-in-Ok-write_zeros-clause-broken g c = tt
