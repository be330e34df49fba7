-- What steps leave for those behind them.
use Rattle.std.proofs.Common.{◌≡◌, ◌≢◌, ℕ, ◌+◌, ◌/◌, ◌<◌, true, List, sym, ap, subst, ◌∙◌, arith}
use Rattle.vhdx_format.specs.AllocationTables.{state_of}
use Rattle.vhdx_format.specs.Fields.{megabyte}
use Rattle.vhdx_format.specs.Layers.{Shape, entry_of}
use Rattle.store_model.specs.Trace.{Trace}
use Rattle.log_format.specs.PendingPages.{has_place}
use Rattle.log_write.specs.Sessions.{LogState}
use Rattle.table_pages.specs.Held.{shape_of}
use Rattle.table_pages.specs.declared.tables.TableParts.{TableParts}
use Rattle.block_alloc.specs.Spaces.{taken}
use Rattle.layer_session.specs.declared.file.Layer.{Layer}
use Rattle.layer_session.specs.Steps.{HasRoomFor, held_by}
use Rattle.layer_session.proofs.Rooms.{room_taken}
use Rattle.layer_session.specs.Taking.{HasSameBits, HasSameEntries, KeepsEntries, KeepsOthers, LeavesRest}

-- only tables, log and space change
pub only_then : (l mid new : Layer) → mid ≡ record l { tables = mid.tables; log = mid.log; space = mid.space } → new ≡ record mid { tables = new.tables; log = new.log; space = new.space } → new ≡ record l { tables = new.tables; log = new.log; space = new.space }
only_then l mid new a b =
    let f : Layer → Layer = λ (x : Layer). record x { tables = new.tables; log = new.log; space = new.space } in
    ap f b ∙ ap f a

-- one step behind another
pub rest_then : (l mid new : Layer) (a b : ℕ) → LeavesRest l mid a → LeavesRest mid new b → LeavesRest l new (a + b)
rest_then l mid new a b first second = record {
  only = only_then l mid new first.only second.only;
  parts = second.parts ∙ first.parts;
  log = second.log ∙ ap (λ (g : LogState). (let x : LogState = record g { len = new.log.len } in x)) first.log;
  pages = λ at h. second.pages at (first.pages at h);
  room = λ blocks h.
      let units : mid.tables.parts.block / megabyte ≡ l.tables.parts.block / megabyte = ap (λ (p : TableParts). p.block / megabyte) first.parts in
      let e : a + b + blocks ≡ a + (b + blocks) = omega arith in
      subst (λ u. HasRoomFor u blocks 0 new.space) units
      (second.room blocks (subst (λ u. HasRoomFor u (b + blocks) 0 mid.space) (sym units) (first.room (b + blocks) (subst (λ n. HasRoomFor (l.tables.parts.block / megabyte) n 0 l.space) e h))));
}

-- only the tables change
pub rest_tables : (l new : Layer) → new ≡ record l { tables = new.tables } → new.tables.parts ≡ l.tables.parts → ((at : ℕ) → has_place at l.tables.pending ≡ true → has_place at new.tables.pending ≡ true) → LeavesRest l new 0
rest_tables l new only parts pages =
    let log : new.log ≡ l.log = ap (λ (x : Layer). x.log) only in
    let space : new.space ≡ l.space = ap (λ (x : Layer). x.space) only in
    record {
      only = ap (λ (x : Layer). (let y : Layer = record x { tables = new.tables; log = new.log; space = new.space } in y)) only;
      parts = parts;
      log = log ∙ ap (λ n. (let x : LogState = record (l.log) { len = n } in x)) (sym (ap (λ (g : LogState). g.len) log));
      pages = pages;
      room = λ blocks h. subst (HasRoomFor (l.tables.parts.block / megabyte) blocks 0) (sym space) (subst (λ n. HasRoomFor (l.tables.parts.block / megabyte) n 0 l.space) (let e : 0 + blocks ≡ blocks = omega arith in e) h);
    }

-- ---- the tables' words, one step behind another

pub bits_then : (p : Shape) (a b c : List ℕ) (s : ℕ) → HasSameBits p a b s → HasSameBits p b c s → HasSameBits p a c s
bits_then p a b c s h k = record {
  bitmap = λ parent. k.bitmap parent ∙ h.bitmap parent;
  bit = λ parent six. k.bit parent (ap state_of (h.bitmap parent) ∙ six) ∙ h.bit parent six;
}

pub entries_then : (p : Shape) (a b c : List ℕ) (s : ℕ) → HasSameEntries p a b s → HasSameEntries p b c s → HasSameEntries p a c s
entries_then p a b c s h k = record { entry = k.entry ∙ h.entry; bits = bits_then p a b c s h.bits k.bits }

pub entries_others : (l mid new : Layer) (first : ℕ) (t u v : Trace) → mid.tables.parts ≡ l.tables.parts → KeepsEntries l mid t u → KeepsOthers mid new first u v → KeepsOthers l new first t v
entries_others l mid new first t u v parts all others = record {
  others = λ s below ne.
      entries_then (shape_of l.tables.parts) (held_by l t) (held_by mid u) (held_by new v) s (all.all s below)
      (subst (λ (p : TableParts). (s : ℕ) → s < p.sectors → entry_of (shape_of p) s ≢ entry_of (shape_of p) first → HasSameEntries (shape_of p) (held_by mid u) (held_by new v) s) parts others.others s below ne);
}

pub others_entries : (l mid new : Layer) (first : ℕ) (t u v : Trace) → mid.tables.parts ≡ l.tables.parts → KeepsOthers l mid first t u → KeepsEntries mid new u v → KeepsOthers l new first t v
others_entries l mid new first t u v parts others all = record {
  others = λ s below ne.
      entries_then (shape_of l.tables.parts) (held_by l t) (held_by mid u) (held_by new v) s (others.others s below ne)
      (subst (λ (p : TableParts). (s : ℕ) → s < p.sectors → HasSameEntries (shape_of p) (held_by mid u) (held_by new v) s) parts all.all s below);
}

pub others_then : (l mid new : Layer) (first : ℕ) (t u v : Trace) → mid.tables.parts ≡ l.tables.parts → KeepsOthers l mid first t u → KeepsOthers mid new first u v → KeepsOthers l new first t v
others_then l mid new first t u v parts one two = record {
  others = λ s below ne.
      entries_then (shape_of l.tables.parts) (held_by l t) (held_by mid u) (held_by new v) s (one.others s below ne)
      (subst (λ (p : TableParts). (s : ℕ) → s < p.sectors → entry_of (shape_of p) s ≢ entry_of (shape_of p) first → HasSameEntries (shape_of p) (held_by mid u) (held_by new v) s) parts two.others s below ne);
}

-- a place is taken
pub rest_taken : (l new : Layer) (len : ℕ) → new ≡ record l { log = record (l.log) { len = len }; space = taken (l.tables.parts.block / megabyte) l.space } → LeavesRest l new 1
rest_taken l new len only = record {
  only = ap (λ (x : Layer). (let y : Layer = record x { tables = new.tables; log = new.log; space = new.space } in y)) only;
  parts = ap (λ (x : Layer). x.tables.parts) only;
  log = log;
  pages = λ at h. subst (λ (x : Layer). has_place at x.tables.pending ≡ true) (sym only) h;
  room = λ blocks h. subst (λ (x : Layer). HasRoomFor (l.tables.parts.block / megabyte) blocks 0 x.space) (sym only) (room_taken (l.tables.parts.block / megabyte) blocks 0 l.space h).1;
}
  where
    log : new.log ≡ record (l.log) { len = new.log.len }
    log = ap (λ (x : Layer). x.log) only ∙ ap (λ n. (let g : LogState = record (l.log) { len = n } in g)) (sym (ap (λ (x : Layer). x.log.len) only))
