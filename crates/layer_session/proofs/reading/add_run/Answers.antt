use Rattle.std.proofs.Common.{◌∙◌, ap, refl}
use Rattle.vx_base.proofs.Handed.{ok_then}
use Rattle.vhdx_format.specs.SectorBitmaps.{bit_value}
use Rattle.layer_session.specs.Reading.{layer_by}
use Rattle.layer_session.proofs.Owned.{adds_found, adds_owned}
use Rattle.layer_session.proofs.Planned.{read_none}
use Rattle.layer_session.proofs.Finding.{found_missing, found_none}
use Rattle.layer_session.proofs.reading.add_run.Goals as goal

pub returns-then-found-clause-added : goal.returns-then-found-clause-added
returns-then-found-clause-added g c t told =
    let tables = c.args.tables.now in
    adds_found (layer_by tables t) tables.parts.sector c.args.first c.args.count c.args.at c.args.mask.now c.args.out.now (λ i a b. c.requires.all i a b ∙ ap bit_value c.if-found.true)

pub returns-clause-added : goal.returns-clause-added
returns-clause-added g c =
    ok_then c.own_all.result
    (λ owned t told.
    let tables = c.args.tables.now in
    adds_owned (layer_by tables t) tables.parts.sector c.args.first c.args.count c.args.at c.args.mask.now c.own_all.new.mask c.args.out.now c.own_all.new.out (λ i a b. c.requires.all i a b ∙ ap bit_value c.if-found.false)
    (owned t told))
    c.own_all.ensures.owned

pub own_all-requires-clause-readable : goal.own_all-requires-clause-readable
own_all-requires-clause-readable g c = c.requires.readable

pub own_all-requires-clause-on_disk : goal.own_all-requires-clause-on_disk
own_all-requires-clause-on_disk g c = c.requires.on_disk

pub own_all-requires-clause-room : goal.own_all-requires-clause-room
own_all-requires-clause-room g c = c.requires.room

pub returns-clause-reads : goal.returns-clause-reads
returns-clause-reads g c = c.own_all.ensures.reads

pub returns-clause-stays : goal.returns-clause-stays
returns-clause-stays g c = c.own_all.ensures.stays

pub returns-clause-err : goal.returns-clause-err
returns-clause-err g c = c.own_all.ensures.err

pub returns-then-found-clause-reads : goal.returns-then-found-clause-reads
returns-then-found-clause-reads g c = read_none _ _ c.requires.readable.tables

pub returns-then-found-clause-stays : goal.returns-then-found-clause-stays
returns-then-found-clause-stays g c = refl

pub returns-then-found-clause-err : goal.returns-then-found-clause-err
returns-then-found-clause-err g c = tt

pub returns-clause-found : goal.returns-clause-found
returns-clause-found g c = found_missing c.args.at c.args.count c.args.mask.now c.own_all.new.mask (λ i a b. c.requires.all i a b ∙ ap bit_value c.if-found.false) c.own_all.ensures.others

pub returns-then-found-clause-found : goal.returns-then-found-clause-found
returns-then-found-clause-found g c = found_none c.args.mask.now
