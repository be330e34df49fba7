use Rattle.std.proofs.Common.{◌+◌, ◌-◌, ◌*◌, ◌≤◌, ap, length, inl, refl, subst, sym, ◌∙◌, arith}
use Rattle.store_model.specs.Disk.{ReadFailed}
use Rattle.vhdx_format.specs.Fields.{megabyte}
use Rattle.vx_base.proofs.Handed.{failed_for, not_ok}
use Rattle.table_pages.specs.Held.{AreTablesIn}
use Rattle.table_pages.proofs.AsHeld.{keeps_all}
use Rattle.table_pages.proofs.Known.{failed_then, held_then, inside_still, keeps_page, keeps_page_then, next_changed, none_changed, puts_itself, puts_one, puts_same, puts_then, there_still}
use Rattle.table_pages.proofs.tables.Tables.+bring_pages.Goals as goal

-- of no page

pub returns-then-count-eq0-clause-parts : goal.returns-then-count-eq0-clause-parts
returns-then-count-eq0-clause-parts g t c = refl

pub returns-then-count-eq0-clause-few : goal.returns-then-count-eq0-clause-few
returns-then-count-eq0-clause-few g t c = omega arith

pub returns-then-count-eq0-clause-changed : goal.returns-then-count-eq0-clause-changed
returns-then-count-eq0-clause-changed g t c = none_changed c.args.place c.args.first c.args.count c.args.self.now.pending c.if-count-eq0.true

pub returns-then-count-eq0-clause-within : goal.returns-then-count-eq0-clause-within
returns-then-count-eq0-clause-within g t c = puts_itself c.args.place c.args.self.now.pending

pub returns-then-count-eq0-clause-tables : goal.returns-then-count-eq0-clause-tables
returns-then-count-eq0-clause-tables g t c = c.requires.tables

pub returns-then-count-eq0-clause-held : goal.returns-then-count-eq0-clause-held
returns-then-count-eq0-clause-held g t c = λ trace told. refl

pub returns-then-count-eq0-clause-stays : goal.returns-then-count-eq0-clause-stays
returns-then-count-eq0-clause-stays g t c = refl

pub returns-then-count-eq0-clause-places : goal.returns-then-count-eq0-clause-places
returns-then-count-eq0-clause-places g t c = keeps_all c.args.place (c.args.place + megabyte) c.args.self.now

-- the first page

pub overflow_mul-first : goal.overflow_mul-first
overflow_mul-first g t c = omega (arith, c.requires.within)

pub overflow_add-place : goal.overflow_add-place
overflow_add-place g t c = omega (arith, c.requires.within, c.requires.end, c.if-count-eq0.false)

pub bring-requires-clause-there : goal.bring-requires-clause-there
bring-requires-clause-there g t c = c.requires.there

pub bring-requires-clause-aligned : goal.bring-requires-clause-aligned
bring-requires-clause-aligned g t c = omega (arith, c.requires.aligned)

pub bring-requires-clause-room : goal.bring-requires-clause-room
bring-requires-clause-room g t c = inl (omega (arith, c.requires.room, c.if-count-eq0.false))

pub bring-requires-clause-tables : goal.bring-requires-clause-tables
bring-requires-clause-tables g t c = c.requires.tables

pub bring-requires-clause-inside : goal.bring-requires-clause-inside
bring-requires-clause-inside g t c = λ trace told. omega (arith, c.requires.inside trace told, c.requires.within, c.if-count-eq0.false)

-- it can't be read

pub returns-in_err-bring-clause-parts : goal.returns-in_err-bring-clause-parts
returns-in_err-bring-clause-parts g t c = c.in_err-bring.ensures.parts

pub returns-in_err-bring-clause-few : goal.returns-in_err-bring-clause-few
returns-in_err-bring-clause-few g t c = omega (arith, ap length c.in_err-bring.ensures.unchanged)

pub returns-in_err-bring-clause-changed : goal.returns-in_err-bring-clause-changed
returns-in_err-bring-clause-changed g t c = not_ok c.from_residual.result c.in_err-bring.field-0.0 c.from_residual.ensures.1 _

pub returns-in_err-bring-clause-within : goal.returns-in_err-bring-clause-within
returns-in_err-bring-clause-within g t c = puts_same c.args.place c.args.self.now.pending c.bring.new.self.pending c.in_err-bring.ensures.unchanged

pub returns-in_err-bring-clause-tables : goal.returns-in_err-bring-clause-tables
returns-in_err-bring-clause-tables g t c = c.in_err-bring.ensures.tables

pub returns-in_err-bring-clause-held : goal.returns-in_err-bring-clause-held
returns-in_err-bring-clause-held g t c = c.in_err-bring.ensures.held

pub returns-in_err-bring-clause-stays : goal.returns-in_err-bring-clause-stays
returns-in_err-bring-clause-stays g t c = not_ok c.from_residual.result c.in_err-bring.field-0.0 c.from_residual.ensures.1 _

pub returns-in_err-bring-clause-err : goal.returns-in_err-bring-clause-err
returns-in_err-bring-clause-err g t c = failed_for c.from_residual.result c.in_err-bring.field-0.0 c.from_residual.ensures.1 (ReadFailed c.args.self.now.parts.file (g.S.Store.disk c.args.store.now) (g.S.Store.disk c.bring.new.store)) c.in_err-bring.ensures.err

pub returns-in_err-bring-clause-places : goal.returns-in_err-bring-clause-places
returns-in_err-bring-clause-places g t c =
    keeps_page c.args.place (c.args.place + 4096 * c.args.first) c.args.self.now c.bring.new.self (omega arith) (omega (arith, c.requires.within, c.if-count-eq0.false)) c.in_err-bring.ensures.places

-- the others

pub overflow_add-first : goal.overflow_add-first
overflow_add-first g t c = omega (arith, c.requires.within)

pub overflow_sub-count : goal.overflow_sub-count
overflow_sub-count g t c = omega (arith, c.if-count-eq0.false)

pub bring_pages-requires : goal.bring_pages-requires
bring_pages-requires g t c κs within =
    let old = c.args.self.now in
    let mid = c.bring.new.self in
    let disk = g.S.Store.disk c.args.store.now in
    let later = g.S.Store.disk c.bring.new.store in
    let done = c.in_ok-bring.ensures in
    let there = there_still old mid disk later done.parts done.stays c.requires.there in
    let few : c.args.first + 1 + (c.args.count - 1) ≤ 256 = omega (arith, c.requires.within, c.if-count-eq0.false) in
    let room : length mid.pending + (c.args.count - 1) ≤ 120 = omega (arith, c.requires.room, done.adds.few, c.if-count-eq0.false) in
    let tables = subst (AreTablesIn mid) (sym done.stays) done.tables in
    let inside = inside_still old mid disk later (c.args.place + megabyte) done.parts done.stays c.requires.inside in
    (omega arith, (within.0, (within.1, (there, (c.requires.aligned, (c.requires.end, (few, (room, (tables, inside)))))))))

-- one of them can't be read

pub returns-in_err-bring_pages-clause-parts : goal.returns-in_err-bring_pages-clause-parts
returns-in_err-bring_pages-clause-parts g t c = c.in_err-bring_pages.ensures.parts ∙ c.in_ok-bring.ensures.parts

pub returns-in_err-bring_pages-clause-few : goal.returns-in_err-bring_pages-clause-few
returns-in_err-bring_pages-clause-few g t c = omega (arith, c.in_err-bring_pages.ensures.few, c.in_ok-bring.ensures.adds.few, c.if-count-eq0.false)

pub returns-in_err-bring_pages-clause-changed : goal.returns-in_err-bring_pages-clause-changed
returns-in_err-bring_pages-clause-changed g t c = not_ok c.from_residual-in_err-bring_pages.result c.in_err-bring_pages.field-0.0 c.from_residual-in_err-bring_pages.ensures.1 _

pub returns-in_err-bring_pages-clause-within : goal.returns-in_err-bring_pages-clause-within
returns-in_err-bring_pages-clause-within g t c =
    puts_then c.args.place c.args.self.now.pending c.bring.new.self.pending c.bring_pages.new.self.pending
    (puts_one c.args.place (c.args.place + 4096 * c.args.first) c.args.self.now.pending c.bring.new.self.pending (omega arith) (omega (arith, c.requires.within, c.if-count-eq0.false)) c.in_ok-bring.ensures.adds)
    c.in_err-bring_pages.ensures.within

pub returns-in_err-bring_pages-clause-tables : goal.returns-in_err-bring_pages-clause-tables
returns-in_err-bring_pages-clause-tables g t c = subst (AreTablesIn c.bring_pages.new.self) c.in_ok-bring.ensures.stays c.in_err-bring_pages.ensures.tables

pub returns-in_err-bring_pages-clause-held : goal.returns-in_err-bring_pages-clause-held
returns-in_err-bring_pages-clause-held g t c =
    held_then c.args.self.now c.bring.new.self c.bring_pages.new.self (g.S.Store.disk c.args.store.now) (g.S.Store.disk c.bring.new.store) c.in_ok-bring.ensures.stays c.in_ok-bring.ensures.held c.in_err-bring_pages.ensures.held

pub returns-in_err-bring_pages-clause-stays : goal.returns-in_err-bring_pages-clause-stays
returns-in_err-bring_pages-clause-stays g t c = not_ok c.from_residual-in_err-bring_pages.result c.in_err-bring_pages.field-0.0 c.from_residual-in_err-bring_pages.ensures.1 _

pub returns-in_err-bring_pages-clause-err : goal.returns-in_err-bring_pages-clause-err
returns-in_err-bring_pages-clause-err g t c =
    let fault = c.in_err-bring_pages.field-0.0 in
    failed_for c.from_residual-in_err-bring_pages.result fault c.from_residual-in_err-bring_pages.ensures.1 (ReadFailed c.args.self.now.parts.file (g.S.Store.disk c.args.store.now) (g.S.Store.disk c.bring_pages.new.store))
    (failed_then c.args.self.now.parts.file c.bring.new.self.parts.file (g.S.Store.disk c.args.store.now) (g.S.Store.disk c.bring.new.store) (g.S.Store.disk c.bring_pages.new.store) fault
    (ap (λ p. p.file) c.in_ok-bring.ensures.parts) c.in_ok-bring.ensures.stays c.in_err-bring_pages.ensures.err)

pub returns-in_err-bring_pages-clause-places : goal.returns-in_err-bring_pages-clause-places
returns-in_err-bring_pages-clause-places g t c =
    keeps_page_then c.args.place (c.args.place + 4096 * c.args.first) c.args.self.now c.bring.new.self c.bring_pages.new.self (omega arith) (omega (arith, c.requires.within, c.if-count-eq0.false)) c.in_ok-bring.ensures.places
    c.in_err-bring_pages.ensures.places

-- all of them are there

pub returns-clause-parts : goal.returns-clause-parts
returns-clause-parts g t c = c.in_ok-bring_pages.ensures.parts ∙ c.in_ok-bring.ensures.parts

pub returns-clause-few : goal.returns-clause-few
returns-clause-few g t c = omega (arith, c.in_ok-bring_pages.ensures.few, c.in_ok-bring.ensures.adds.few, c.if-count-eq0.false)

pub returns-clause-changed : goal.returns-clause-changed
returns-clause-changed g t c =
    next_changed c.args.place c.args.first c.args.count c.args.self.now.pending c.bring.new.self.pending c.bring_pages.new.self.pending c.in_ok-bring.ensures.adds c.in_ok-bring_pages.ensures.within c.in_ok-bring_pages.ensures.changed

pub returns-clause-within : goal.returns-clause-within
returns-clause-within g t c =
    puts_then c.args.place c.args.self.now.pending c.bring.new.self.pending c.bring_pages.new.self.pending
    (puts_one c.args.place (c.args.place + 4096 * c.args.first) c.args.self.now.pending c.bring.new.self.pending (omega arith) (omega (arith, c.requires.within, c.if-count-eq0.false)) c.in_ok-bring.ensures.adds)
    c.in_ok-bring_pages.ensures.within

pub returns-clause-tables : goal.returns-clause-tables
returns-clause-tables g t c = subst (AreTablesIn c.bring_pages.new.self) c.in_ok-bring.ensures.stays c.in_ok-bring_pages.ensures.tables

pub returns-clause-held : goal.returns-clause-held
returns-clause-held g t c =
    held_then c.args.self.now c.bring.new.self c.bring_pages.new.self (g.S.Store.disk c.args.store.now) (g.S.Store.disk c.bring.new.store) c.in_ok-bring.ensures.stays c.in_ok-bring.ensures.held c.in_ok-bring_pages.ensures.held

pub returns-clause-stays : goal.returns-clause-stays
returns-clause-stays g t c = c.in_ok-bring_pages.ensures.stays ∙ c.in_ok-bring.ensures.stays

pub returns-clause-places : goal.returns-clause-places
returns-clause-places g t c =
    keeps_page_then c.args.place (c.args.place + 4096 * c.args.first) c.args.self.now c.bring.new.self c.bring_pages.new.self (omega arith) (omega (arith, c.requires.within, c.if-count-eq0.false)) c.in_ok-bring.ensures.places
    c.in_ok-bring_pages.ensures.places
