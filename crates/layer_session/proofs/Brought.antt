-- Pages that are put among the changed ones before the steps of a call.
use Rattle.std.proofs.Common.{◌≡◌, ◌≢◌, ℕ, ◌+◌, ◌-◌, ◌*◌, ◌/◌, ◌%◌, ◌^◌, ◌<◌, ◌≤◌, ◌⊎◌, Bool, true, false, List, refl, sym, ap, subst, ◌∙◌, arith, inl, inr, if◌then◌else◌}
use Rattle.std.specs.Prelude.{Option, Some, None}
use Rattle.std.proofs.lemmas.Bool.{cases_Bool, cases_eq}
use Rattle.std.proofs.Math.Nat.{add-mul, add-mul-div_right, div-mul-le_self, mul-le-mul_right, mul_comm}
use Rattle.std.proofs.lemmas.Nat.{le-div}
use Rattle.vhdx_format.specs.AllocationTables.{payload_index_of}
use Rattle.vhdx_format.specs.Fields.{megabyte}
use Rattle.vhdx_format.specs.declared.log_entry.Page.{Page}
use Rattle.vhdx_format.specs.Layers.{Shape, bitmap_entry_of, block_of, chunk_ratio_of, entry_of, place_at, state_at, table_entry}
use Rattle.vhdx_format.proofs.LayerLemmas.{sector_entries}
use Rattle.vhdx_format.proofs.SizeLemmas.{block_least, ratio_in_range}
use Rattle.store_model.specs.Disk.{Disk, WhereBothTold, WhereTold}
use Rattle.layer_session.specs.declared.file.Layer.{Layer}
use Rattle.store_model.specs.Trace.{Trace}
use Rattle.log_format.specs.PendingPages.{has_place}
use Rattle.table_pages.specs.Held.{Adds, AreChanged, AreTablesIn, HasTables, KeepsWithin, PutsWithin, bit_pages, entry_place, held_file, shape_of}
use Rattle.table_pages.specs.Pages.{page_place}
use Rattle.table_pages.specs.declared.tables.TableParts.{TableParts}
use Rattle.table_pages.specs.declared.tables.Tables.{Tables}
use Rattle.layer_session.specs.Blocks.{run_in_block}
use Rattle.layer_session.specs.Bringing.{AreNamed, HasBits, HasBrought, HasMade, HasWord, InChunk, IsSpanned, NamesBitmap, SpansBits, more as named_more, none as named_none}
use Rattle.layer_session.specs.Planning.{EachRun, is_marking, more, none}
use Rattle.layer_session.specs.Steps.{first_in_block, held_by}
use Rattle.layer_session.specs.TablesRead.{AreReadable, IsTablePage, bitmap}
use Rattle.layer_session.specs.declared.planning.Plan.{Plan}
use Rattle.layer_session.specs.declared.preparing.Bits.{Bits}
use Rattle.layer_session.proofs.BitRuns.{each_map, each_named, each_two}

-- ---- entries

div_up : (a b n : ℕ) → 0 < n → a ≤ b → a / n ≤ b / n
div_up a b n some h = le-div (a / n) b n some (let x : a / n * n ≤ a = div-mul-le_self a n in omega (arith, x, h))

div_near : (a b d n : ℕ) → 0 < n → a ≤ b + d * n → a / n ≤ b / n + d
div_near a b d n some h = let up = div_up a (b + d * n) n some h in let e : (b + d * n) / n ≡ b / n + d = add-mul-div_right b d some in omega (arith, up, e)

-- blocks of so few bytes have their entries in two pages
module _ (parts : TableParts) (sizes : HasTables parts) (first count s : ℕ) (low : first ≤ s) (high : s < first + count) (few : parts.sector * count ≤ 2 ^ 28) where
  abbrev p : Shape
  p = shape_of parts

  pages_two : (i j k : ℕ) → i ≤ k → k ≤ j → j ≤ i + 512 → (page_place (entry_place parts k) ≡ page_place (entry_place parts i)) ⊎ (page_place (entry_place parts k) ≡ page_place (entry_place parts j))
  pages_two i j k a b c = by_page (cases_eq ((parts.bat_at + 8 * k) / 4096) ((parts.bat_at + 8 * i) / 4096))
    where
      by_page : ((parts.bat_at + 8 * k) / 4096 ≡ (parts.bat_at + 8 * i) / 4096) ⊎ ((parts.bat_at + 8 * k) / 4096 ≢ (parts.bat_at + 8 * i) / 4096)
          → (page_place (entry_place parts k) ≡ page_place (entry_place parts i)) ⊎ (page_place (entry_place parts k) ≡ page_place (entry_place parts j))
      by_page (inl e) = inl (omega (arith, e))
      by_page (inr ne) = inr (omega (arith, ne, a, b, c))

  ratio_some : 0 < chunk_ratio_of p
  ratio_some = (ratio_in_range parts.sector parts.block sizes.sector sizes.block).0

  block_some : 2 ^ 20 ≤ parts.block
  block_some = block_least parts.block sizes.block

  some : 0 < parts.block
  some = let b = block_some in omega (arith, b)

  index_up : (a b : ℕ) → a ≤ b → payload_index_of a (chunk_ratio_of p) ≤ payload_index_of b (chunk_ratio_of p)
  index_up a b h = let x = div_up a b (chunk_ratio_of p) ratio_some h in omega (arith, x, h)

  block_up : (a b : ℕ) → a ≤ b → block_of p a ≤ block_of p b
  block_up a b h = div_up (a * parts.sector) (b * parts.sector) parts.block some (mul-le-mul_right parts.sector h)

  entry_near : entry_of p (first + count - 1) ≤ entry_of p first + 512
  entry_near =
      let last = first + count - 1 in
      let split : last * parts.sector ≡ first * parts.sector + (count - 1) * parts.sector = ap (λ n. n * parts.sector) (let e : last ≡ first + (count - 1) = omega (arith, low, high) in e) ∙ add-mul first (count - 1) parts.sector in
      let fewer : (count - 1) * parts.sector ≤ count * parts.sector = mul-le-mul_right parts.sector (omega arith) in
      let turn : count * parts.sector ≡ parts.sector * count = mul_comm count parts.sector in
      let blocks : 256 * 2 ^ 20 ≤ 256 * parts.block = let b = block_some in omega (arith, b) in
      let near : block_of p last ≤ block_of p first + 256 = div_near (last * parts.sector) (first * parts.sector) 256 parts.block some (omega (arith, split, fewer, turn, few, blocks)) in
      let one : 256 * 1 ≤ 256 * chunk_ratio_of p = let r = ratio_some in omega (arith, r) in
      let rows : block_of p last / chunk_ratio_of p ≤ block_of p first / chunk_ratio_of p + 256 = div_near (block_of p last) (block_of p first) 256 (chunk_ratio_of p) ratio_some (omega (arith, near, one)) in
      omega (arith, near, rows)

  pub entry_pages : (page_place (entry_place parts (entry_of p s)) ≡ page_place (entry_place parts (entry_of p first))) ⊎ (page_place (entry_place parts (entry_of p s)) ≡ page_place (entry_place parts (entry_of p (first + count - 1))))
  entry_pages = pages_two (entry_of p first) (entry_of p (first + count - 1)) (entry_of p s) (index_up _ _ (block_up first s low)) (index_up _ _ (block_up s (first + count - 1) (omega (arith, high)))) entry_near

-- with both pages among the changed ones, all of these entries' are
pub entries_at_hand : (parts : TableParts) → HasTables parts → (first count : ℕ) → parts.sector * count ≤ 2 ^ 28 → (old mid new : List Page) → Adds (page_place (entry_place parts (entry_of (shape_of parts) first))) old mid
    → Adds (page_place (entry_place parts (entry_of (shape_of parts) (first + count - 1)))) mid new
    → (s : ℕ) → first ≤ s → s < first + count → has_place (page_place (entry_place parts (entry_of (shape_of parts) s))) new ≡ true
entries_at_hand parts sizes first count few old mid new one two s low high = by_page (entry_pages parts sizes first count s low high few)
  where
    by_page : (page_place (entry_place parts (entry_of (shape_of parts) s)) ≡ page_place (entry_place parts (entry_of (shape_of parts) first)))
        ⊎ (page_place (entry_place parts (entry_of (shape_of parts) s)) ≡ page_place (entry_place parts (entry_of (shape_of parts) (first + count - 1)))) → has_place (page_place (entry_place parts (entry_of (shape_of parts) s))) new ≡ true
    by_page (inl e) = ap (λ n. has_place n new) e ∙ two.keeps _ one.there
    by_page (inr e) = ap (λ n. has_place n new) e ∙ two.there

-- ---- plans that stay

pub named_same : (p : Shape) (chunk : ℕ) (plans : List Plan) (P : ℕ → ℕ → Plan → Type 0) (k first count : ℕ) → EachRun p plans P k first count → AreNamed p chunk plans plans k first count
named_same p chunk plans P k first count (none _ _ _ e) = named_none k first count e
named_same p chunk plans P k first count (more _ _ _ plan s at h rest) =
    named_more k first count plan.bitmap plan s at at (inr refl) (named_same p chunk plans P (k + 1) (first + run_in_block p first count) (count - run_in_block p first count) rest)

-- ---- bits

module _ (p : Shape) (file : List ℕ) (plans : List Plan) (sector first count : ℕ) (bits : Bits) (spans : SpansBits p plans (sector / 2 ^ 23) 0 first count bits)
    (there : EachRun p plans (InChunk (sector / 2 ^ 23) (NamesBitmap p file)) 0 first count) where
  abbrev word : ℕ
  word = table_entry p file (bitmap_entry_of p sector)

  same_entry : (s : ℕ) → s / 2 ^ 23 ≡ sector / 2 ^ 23 → table_entry p file (bitmap_entry_of p s) ≡ word
  same_entry s e = ap (λ c. table_entry p file (c * (chunk_ratio_of p + 1) + chunk_ratio_of p)) e

  told : (bits.word ≡ word) × (word % 8 ≡ (if p.parent then 6 else 8))
  told = spans.word word (if p.parent then 6 else 8)
      (each_map p plans (InChunk (sector / 2 ^ 23) (NamesBitmap p file)) (InChunk (sector / 2 ^ 23) (HasWord word (if p.parent then 6 else 8)))
      (λ s n plan h e. let x = h e in record {
        is = λ m. x.is m ∙ same_entry s e;
        state_is = λ m. ap (λ w. w % 8) (sym (x.is m ∙ same_entry s e)) ∙ (x.six m ∙ sym (ap (λ (b : Bool). if b then 6 else 8) (x.parent m)));
      }) 0 first count there)

  pub parent_is : p.parent ≡ true
  parent_is = by_parent (cases_Bool p.parent)
    where
      by_parent : (p.parent ≡ true) ⊎ (p.parent ≡ false) → p.parent ≡ true
      by_parent (inl e) = e
      by_parent (inr e) = let h : word % 8 ≡ 8 = told.1 ∙ ap (λ b. if b then 6 else 8) e in absurd (omega (arith, h))

  pub word_is : bits.word ≡ word
  word_is = told.0

  pub word_six : word % 8 ≡ 6
  word_six = told.1 ∙ ap (λ b. if b then 6 else 8) parent_is

  -- the plans name it still
  pub names_still : (new : List Plan) → AreNamed p (sector / 2 ^ 23) plans new 0 first count → EachRun p new (InChunk (sector / 2 ^ 23) (λ s n plan. plan.bitmap ≡ bits.word)) 0 first count
      → EachRun p new (InChunk (sector / 2 ^ 23) (NamesBitmap p file)) 0 first count
  names_still new named words =
      each_map p new (InChunk (sector / 2 ^ 23) (λ s n plan. plan.bitmap ≡ bits.word)) (InChunk (sector / 2 ^ 23) (NamesBitmap p file))
      (λ s n plan h e. record { parent = λ m. parent_is; six = λ m. ap (λ w. w % 8) (h e ∙ word_is) ∙ word_six; is = λ m. h e ∙ (word_is ∙ sym (same_entry s e)) }) 0 first count words

-- bits between others lie in their pages
pub pages_between : (chunk a b s n place : ℕ) (pending : List Page) → chunk * 2 ^ 23 ≤ a → b ≤ chunk * 2 ^ 23 + 2 ^ 23 → a ≤ s → s + n ≤ b → AreChanged place (a % 2 ^ 23 / 32768) (bit_pages (a % 2 ^ 23) (b - a)) pending
    → AreChanged place (s % 2 ^ 23 / 32768) (bit_pages (s % 2 ^ 23) n) pending
pages_between chunk a b s n place pending from to low high changed k l h = changed k (omega (arith, from, to, low, high, l)) (omega (arith, from, to, low, high, h, l))

-- so they are at hand for each step
pub bits_at_hand : (t : Tables) → HasTables t.parts → (old new : List Plan) (chunk first count word : ℕ) (bits : Bits) → SpansBits (shape_of t.parts) old chunk 0 first count bits → AreNamed (shape_of t.parts) chunk old new 0 first count
    → EachRun (shape_of t.parts) new (InChunk chunk (λ s n plan. plan.bitmap ≡ word)) 0 first count
    → AreChanged (word / 2 ^ 20 * megabyte) (bits.first % 2 ^ 23 / 32768) (bit_pages (bits.first % 2 ^ 23) (bits.end - bits.first)) t.pending
    → EachRun (shape_of t.parts) new (InChunk chunk (HasBits t)) 0 first count
bits_at_hand t sizes old new chunk first count word bits spans named words changed =
    each_map p new (λ s n plan. InChunk chunk (IsSpanned p bits) s n plan × InChunk chunk (λ s n plan. plan.bitmap ≡ word) s n plan) (InChunk chunk (HasBits t)) hand 0 first count
    (each_two p new (InChunk chunk (IsSpanned p bits)) (InChunk chunk (λ s n plan. plan.bitmap ≡ word)) 0 first count
    (each_named p chunk old new (InChunk chunk (IsSpanned p bits)) (InChunk chunk (IsSpanned p bits)) (λ s n word plan side h e. record { mark = (h e).mark; part = (h e).part }) 0 first count named spans.spans) words)
  where
    p : Shape
    p = shape_of t.parts

    on_word : (plan : Plan) (a n : ℕ) → plan.bitmap ≡ word → bits.first ≤ a → a + n ≤ bits.end → AreChanged (plan.bitmap / 2 ^ 20 * megabyte) (a % 2 ^ 23 / 32768) (bit_pages (a % 2 ^ 23) n) t.pending
    on_word plan a n e low high =
        subst (λ w. AreChanged (w / 2 ^ 20 * megabyte) (a % 2 ^ 23 / 32768) (bit_pages (a % 2 ^ 23) n) t.pending) (sym e)
        (pages_between chunk bits.first bits.end a n (word / 2 ^ 20 * megabyte) t.pending spans.span.from spans.span.to low high changed)

    hand : (s n : ℕ) (plan : Plan) → (InChunk chunk (IsSpanned p bits) s n plan × InChunk chunk (λ s n plan. plan.bitmap ≡ word) s n plan) → InChunk chunk (HasBits t) s n plan
    hand s n plan (h, w) e = record {
      bits = λ m. let x = (h e).mark m in on_word plan s n (w e) x.0 x.1;
      all_bits = λ m. let x = (h e).part m in on_word plan (first_in_block p s) (t.parts.block / t.parts.sector) (w e) x.0 x.1;
    }

-- ---- pages of a sector bitmap block

pub pages_brought : (old new : Tables) (disk : Disk) (place sector : ℕ) → AreReadable old disk → sector < old.parts.sectors → new.parts ≡ old.parts → PutsWithin place old.pending new.pending → AreTablesIn new disk
    → WhereTold disk.told (λ trace. held_file new trace ≡ held_file old trace) → KeepsWithin place (place + megabyte) old new
    → WhereTold disk.told (λ trace. (old.parts.parent ≡ true) × (state_at (shape_of old.parts) (held_file old trace) (bitmap_entry_of (shape_of old.parts) sector) ≡ 6) × (place ≡ place_at (shape_of old.parts) (held_file old trace) (bitmap_entry_of (shape_of old.parts) sector)))
    → HasBrought old new disk
pages_brought old new disk place sector readable below parts within tables same keeps there = record {
  parts_are = parts;
  tables = tables;
  held = same;
  keeps = within.keeps;
  puts = λ trace told. record { only = λ at h. by_place trace told at (within.only at h) };
  cached = λ trace told. record { only = λ at aligned h. by_place trace told at (keeps.only at aligned h) };
}
  where
    by_place : {old_way : Type 0} (trace : Trace) → disk.told ≡ Some trace → (at : ℕ) → old_way ⊎ ((place ≤ at) × (at + 4096 ≤ place + megabyte)) → old_way ⊎ IsTablePage old.parts (held_file old trace) at
    by_place trace told at (inl before) = inl before
    by_place trace told at (inr (low, high)) =
        let t = there trace told in
        let is = t.2 in
        inr (bitmap (bitmap_entry_of (shape_of old.parts) sector) ((sector_entries (shape_of old.parts) (record { sector = readable.sizes.sector; block = readable.sizes.block })).bitmap sector t.0 below) t.1 (omega (arith, low, is)) (omega (arith, high, is)))

-- the same by the numbers that the tables had before
pub hand_then : (parts : TableParts) (t : Tables) → t.parts ≡ parts → HasTables parts → (old new : List Plan) (chunk first count word : ℕ) (bits : Bits) → SpansBits (shape_of parts) old chunk 0 first count bits
    → AreNamed (shape_of parts) chunk old new 0 first count → EachRun (shape_of parts) new (InChunk chunk (λ s n plan. plan.bitmap ≡ word)) 0 first count
    → AreChanged (word / 2 ^ 20 * megabyte) (bits.first % 2 ^ 23 / 32768) (bit_pages (bits.first % 2 ^ 23) (bits.end - bits.first)) t.pending
    → EachRun (shape_of parts) new (InChunk chunk (HasBits t)) 0 first count
hand_then parts t e sizes old new chunk first count word bits =
    subst (λ (x : TableParts). SpansBits (shape_of x) old chunk 0 first count bits → AreNamed (shape_of x) chunk old new 0 first count → EachRun (shape_of x) new (InChunk chunk (λ s n plan. plan.bitmap ≡ word)) 0 first count
    → AreChanged (word / 2 ^ 20 * megabyte) (bits.first % 2 ^ 23 / 32768) (bit_pages (bits.first % 2 ^ 23) (bits.end - bits.first)) t.pending → EachRun (shape_of x) new (InChunk chunk (HasBits t)) 0 first count) e
    (bits_at_hand t (subst HasTables (sym e) sizes) old new chunk first count word bits)

-- where the block is there
pub block_there : (p : Shape) (file : List ℕ) (plans : List Plan) (sector first count : ℕ) (bits : Bits) → SpansBits p plans (sector / 2 ^ 23) 0 first count bits
    → EachRun p plans (InChunk (sector / 2 ^ 23) (NamesBitmap p file)) 0 first count
    → (p.parent ≡ true) × (state_at p file (bitmap_entry_of p sector) ≡ 6) × (bits.word / 2 ^ 20 * megabyte ≡ place_at p file (bitmap_entry_of p sector))
block_there p file plans sector first count bits spans there =
    (parent_is p file plans sector first count bits spans there, word_six p file plans sector first count bits spans there, ap (λ w. w / 2 ^ 20 * megabyte) (word_is p file plans sector first count bits spans there))

-- what is said of all of a chunk where no step marks sectors
pub none_marks : (p : Shape) (plans : List Plan) (chunk first count : ℕ) (P : ℕ → ℕ → Plan → Type 0) → ((s n : ℕ) (plan : Plan) → (is_marking plan.step ≡ true → ⊥) → P s n plan)
    → EachRun p plans (InChunk chunk (λ s n plan. is_marking plan.step ≡ true → ⊥)) 0 first count → EachRun p plans (InChunk chunk P) 0 first count
none_marks p plans chunk first count P f h = each_map p plans (InChunk chunk (λ s n plan. is_marking plan.step ≡ true → ⊥)) (InChunk chunk P) (λ s n plan off e. f s n plan (off e)) 0 first count h

pub no_bits : (t : Tables) (s n : ℕ) (plan : Plan) → (is_marking plan.step ≡ true → ⊥) → HasBits t s n plan
no_bits t s n plan off = record { bits = λ m. absurd (off (ap is_marking m)); all_bits = λ m. absurd (off (ap is_marking m)) }

pub no_names : (p : Shape) (file : List ℕ) (s n : ℕ) (plan : Plan) → (is_marking plan.step ≡ true → ⊥) → NamesBitmap p file s n plan
no_names p file s n plan off = record { parent = λ m. absurd (off m); six = λ m. absurd (off m); is = λ m. absurd (off m) }

-- the plans name a new block
pub names_new : (p : Shape) (file : List ℕ) (plans : List Plan) (sector first count word : ℕ) → p.parent ≡ true → word % 8 ≡ 6 → table_entry p file (bitmap_entry_of p sector) ≡ word
    → EachRun p plans (InChunk (sector / 2 ^ 23) (λ s n plan. plan.bitmap ≡ word)) 0 first count → EachRun p plans (InChunk (sector / 2 ^ 23) (NamesBitmap p file)) 0 first count
names_new p file plans sector first count word parent six is words =
    each_map p plans (InChunk (sector / 2 ^ 23) (λ s n plan. plan.bitmap ≡ word)) (InChunk (sector / 2 ^ 23) (NamesBitmap p file))
    (λ s n plan h e. record {
      parent = λ m. parent;
      six = λ m. ap (λ w. w % 8) (h e) ∙ six;
      is = λ m. h e ∙ (sym is ∙ sym (ap (λ c. table_entry p file (c * (chunk_ratio_of p + 1) + chunk_ratio_of p)) e));
    }) 0 first count words

pub made_told : (l m : Layer) (sector word : ℕ) (a b : Option Trace) (u : Trace) → WhereBothTold (HasMade l m sector word) a b → b ≡ Some u → table_entry (shape_of l.tables.parts) (held_by m u) (bitmap_entry_of (shape_of l.tables.parts) sector) ≡ word
made_told l m sector word None None u h e = cc
made_told l m sector word None (Some v) u h e = absurd h
made_told l m sector word (Some t) None u h e = absurd h
made_told l m sector word (Some t) (Some v) u h e = subst (λ (x : Trace). table_entry (shape_of l.tables.parts) (held_by m x) (bitmap_entry_of (shape_of l.tables.parts) sector) ≡ word) (let same : v ≡ u = cc in same) h.is
