use Rattle.std.proofs.Common.{◌≡◌, ◌∙◌, ap, sym, List, ℕ, length, arith}
use Rattle.vx_base.specs.Fields.{zeros, written_over}
use Rattle.table_pages.specs.Held.{held, held_page}
use Rattle.table_pages.proofs.Knowing.{adds_place}
use Rattle.table_pages.proofs.Setting.{over_same}
use Rattle.table_pages.proofs.Words.{held_long}
use Rattle.table_pages.proofs.tables.Tables.bring_zero.Goals as goal

pub returns-clause-adds : goal.returns-clause-adds
returns-clause-adds c = adds_place c.args.at c.clear.new.page (c.args.self.now).pending (c.put.new.self).pending c.put.ensures.pending

pub returns-clause-tables : goal.returns-clause-tables
returns-clause-tables c = λ file t w.
    let whole : length c.clear.new.page ≡ 4096 = c.clear.auto.page in
    (c.put.ensures.put file t (record { aligned = c.requires.aligned; whole = whole; within = w; bytes = c.are_bytes.ensures })).tables

pub returns-clause-held : goal.returns-clause-held
returns-clause-held c = λ file t w z.
    let F : List ℕ = held (c.args.self.now).pending file in
    let long : length F ≡ length file = held_long (c.args.self.now).parts file (c.args.self.now).pending (c.args.self.now).cache t in
    let whole : length c.clear.new.page ≡ 4096 = c.clear.auto.page in
    let blank : c.clear.new.page ≡ zeros 4096 = c.clear.ensures in
    let same : c.clear.new.page ≡ held_page c.args.at c.args.self.now file = blank ∙ sym z in
    (c.put.ensures.put file t (record { aligned = c.requires.aligned; whole = whole; within = w; bytes = c.are_bytes.ensures })).held ∙ ap (λ (p : List ℕ). written_over F c.args.at p) same ∙ over_same F c.args.at 4096 (omega (arith, long, w))
