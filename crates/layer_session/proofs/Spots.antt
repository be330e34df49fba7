-- Where sectors of one block are to be written, once the block has a place.
use Rattle.std.proofs.Common.{◌≡◌, ℕ, ◌+◌, ◌-◌, ◌*◌, ◌/◌, ◌%◌, ◌^◌, ◌<◌, ◌≤◌, ◌⊎◌, Bool, true, false, List, length, Option, Some, refl, sym, ap, subst, ◌∙◌, arith, inl, inr, mul_comm}
use Rattle.std.proofs.Math.Nat.{add-mul, mul-le-mul_right}
use Rattle.std.proofs.lemmas.Bool.{cases_lt}
use Rattle.std.proofs.lemmas.Nat.{le-div, mod_below}
use Rattle.vx_base.specs.Fields.{zeros}
use Rattle.vhdx_format.specs.AllocationTables.{state_of, unit_of}
use Rattle.vhdx_format.specs.Fields.{megabyte}
use Rattle.vhdx_format.specs.FileParts.{shape_of}
use Rattle.vhdx_format.specs.HeldBlocks.{payload}
use Rattle.vhdx_format.specs.Layers.{HasSizes, Shape, chunk_ratio_of, entry_of, place_at, state_at, table_entry}
use Rattle.vhdx_format.proofs.LayerLemmas.{same_chunk, sector_entries}
use Rattle.vhdx_format.proofs.SizeLemmas.{block_least, sector_least}
use Rattle.store_model.specs.Disk.{Disk, WhereBothTold, WhereTold}
use Rattle.store_model.specs.File.{seen}
use Rattle.store_model.specs.Trace.{Trace, file_of}
use Rattle.table_pages.specs.Held.{AreChanged, bit_pages, held}
use Rattle.table_pages.specs.Held as table_words
use Rattle.table_pages.specs.declared.tables.TableParts.{TableParts}
use Rattle.table_pages.specs.declared.tables.Tables.{Tables}
use Rattle.log_format.specs.PendingPages.{has_place}
use Rattle.chain_model.specs.Images.{Placed}
use Rattle.layer_session.specs.declared.file.Layer.{Layer}
use Rattle.layer_session.specs.declared.masked.Spot.{Spot}
use Rattle.layer_session.specs.Blocks.{run_in_block}
use Rattle.layer_session.specs.Calls.{loose_or_named, placed_with}
use Rattle.layer_session.specs.Keeping.{IsReady, IsRunAt, Serves}
use Rattle.layer_session.specs.Masked.{HasMarkPages, IsSpot, KeepsSpots, StandsInPart}
use Rattle.layer_session.specs.Steps.{IsMade, held_by}
use Rattle.layer_session.specs.Taking.{KeepsEntries}
use Rattle.layer_session.proofs.Alike.{block_in_file}
use Rattle.layer_session.proofs.Beside.{among}
use Rattle.layer_session.proofs.Brought.{pages_between}
use Rattle.layer_session.proofs.Entered.{held_as_long, sizes}
use Rattle.layer_session.proofs.Going.{ready_next}
use Rattle.layer_session.proofs.Marks.{Marks, marks_bits, marks_bitmap, marks_serves, marks_state}
use Rattle.layer_session.proofs.Parting.{one_bitmap, run_in_one, same_block}
use Rattle.layer_session.proofs.Places.{in_run}
use Rattle.layer_session.proofs.SameEntries.{held_here}
use Rattle.layer_session.proofs.Told.{both_map, both_self, both_then, told_on}
use Rattle.layer_session.proofs.Zeroing.{stand_still, sub_run}

-- ---- a part of the sectors

-- all lie in one block
pub all_in_block : (p : Shape) → HasSizes p → (first count : ℕ) → first * p.sector % p.block + count * p.sector ≤ p.block → count ≡ run_in_block p first count
all_in_block p sized first count run =
    let least = sector_least p.sector sized.sector in
    let fits : count ≤ (p.block - first * p.sector % p.block) / p.sector = le-div count (p.block - first * p.sector % p.block) p.sector (omega (arith, least)) (omega (arith, run)) in
    omega (arith, fits)

-- the rest of them lies in the block too
pub rest_run : (p : Shape) → HasSizes p → (first len count : ℕ) → len ≤ count → first * p.sector % p.block + count * p.sector ≤ p.block → len < count → (first + len) * p.sector % p.block + (count - len) * p.sector ≤ p.block
rest_run p sized first len count fits run less =
    let least = sector_least p.sector sized.sector in
    let rows : count * p.sector ≡ len * p.sector + (count - len) * p.sector = ap (λ n. n * p.sector) (let e : count ≡ len + (count - len) = omega (arith, fits) in e) ∙ add-mul len (count - len) p.sector in
    let more : (count - len) * p.sector ≡ 1 * p.sector + (count - len - 1) * p.sector = ap (λ n. n * p.sector) (let e : count - len ≡ 1 + (count - len - 1) = omega (arith, less) in e) ∙ add-mul 1 (count - len - 1) p.sector in
    let step = in_run p.sector first len p.block (omega (arith, run, rows, more, least)) in
    let place = step.place_is in
    omega (arith, run, rows, place)

pub first_fits : (z block first len count : ℕ) → len ≤ count → first * z % block + count * z ≤ block → first * z % block + len * z ≤ block
first_fits z block first len count fits run =
    let rows : count * z ≡ len * z + (count - len) * z = ap (λ n. n * z) (let e : count ≡ len + (count - len) = omega (arith, fits) in e) ∙ add-mul len (count - len) z in
    omega (arith, run, rows)

-- or there is no rest
pub rest_fits : (p : Shape) → HasSizes p → (first len count : ℕ) → len ≤ count → first * p.sector % p.block + count * p.sector ≤ p.block → (first + len) * p.sector % p.block + (count - len) * p.sector ≤ p.block
rest_fits p sized first len count fits run = by_place (cases_lt len count)
  where
    by_place : (len < count) ⊎ (count ≤ len) → (first + len) * p.sector % p.block + (count - len) * p.sector ≤ p.block
    by_place (inl less) = rest_run p sized first len count fits run less
    by_place (inr all) =
        let none : (count - len) * p.sector ≡ 0 = ap (λ n. n * p.sector) (let e : count - len ≡ 0 = omega (arith, all) in e) ∙ (let e : 0 * p.sector ≡ 0 = omega arith in e) in
        let some : 0 < p.block = let m = block_least p.block sized.block in omega (arith, m) in
        omega (arith, none, mod_below ((first + len) * p.sector) p.block some)

-- they lie in one chunk
pub in_chunk : (p : Shape) → HasSizes p → (first count : ℕ) → 0 < count → first * p.sector % p.block + count * p.sector ≤ p.block → first % 2 ^ 23 + count ≤ 2 ^ 23
in_chunk p sized first count some run =
    let last = first + count - 1 in
    let e = run_in_one p sized first count run last (among first count last (omega (arith, some)) (omega (arith, some))) in
    let chunks : last / 2 ^ 23 ≡ first / 2 ^ 23 = sym (same_chunk p sized last) ∙ ap (λ b. b / chunk_ratio_of p) (same_block p sized last first e) ∙ same_chunk p sized first in
    omega (arith, chunks, some)

-- the first of them stand so too
pub first_spot : (p : Shape) (file : List ℕ) (first len count : ℕ) (spot : Spot) → 0 < len → len ≤ count → first * p.sector % p.block + count * p.sector ≤ p.block → IsSpot p file first count spot → IsSpot p file first len spot
first_spot p file first len count spot some fits run is = record {
  whole = λ w. let s = is.whole w in record { some = some; run = first_fits p.sector p.block first len count fits run; there = s.there; place_is = s.place_is; marked = λ i from to seven. s.marked i from (omega (arith, to, fits)) seven };
  part = is.part;
}

-- and the rest of them behind these
pub rest_spot : (p : Shape) (file : List ℕ) (first len count : ℕ) (spot next : Spot) → HasSizes p → len < count → first * p.sector % p.block + count * p.sector ≤ p.block → next.place ≡ spot.place + p.sector * len → next.bitmap ≡ spot.bitmap → next.marks ≡ spot.marks
    → IsSpot p file first count spot → IsSpot p file (first + len) (count - len) next
rest_spot p file first len count spot next sized fits run place bitmap marks is = record {
  whole = λ w. subst (IsRunAt p file (first + len) (count - len)) (sym place) (sub_run p file first len count spot.place sized fits (is.whole (sym marks ∙ w)));
  part = λ m. let s = is.part (sym marks ∙ m) in subst (λ b. StandsInPart p file (first + len) next.place b) (sym bitmap) (subst (λ n. StandsInPart p file (first + len) n spot.bitmap) (sym place) (moved s));
}
  where
    moved : StandsInPart p file first spot.place spot.bitmap → StandsInPart p file (first + len) (spot.place + p.sector * len) spot.bitmap
    moved s =
        let least = sector_least p.sector sized.sector in
        let rows : count * p.sector ≡ len * p.sector + (count - len) * p.sector = ap (λ n. n * p.sector) (let e : count ≡ len + (count - len) = omega (arith, fits) in e) ∙ add-mul len (count - len) p.sector in
        let more : (count - len) * p.sector ≡ 1 * p.sector + (count - len - 1) * p.sector = ap (λ n. n * p.sector) (let e : count - len ≡ 1 + (count - len - 1) = omega (arith, fits) in e) ∙ add-mul 1 (count - len - 1) p.sector in
        let step = in_run p.sector first len p.block (omega (arith, run, rows, more, least)) in
        let offset_same = step.place_is in
        let entry_same : entry_of p (first + len) ≡ entry_of p first = ap (λ b. b + b / chunk_ratio_of p) step.block_is in
        let swap = mul_comm p.sector len in
        let at = s.place_is in
        record {
          seven = ap (state_at p file) entry_same ∙ s.seven;
          place_is = omega (arith, at, swap, offset_same, ap (λ i. place_at p file i) entry_same);
          parent = s.parent;
          there = s.there;
          bitmap_is = s.bitmap_is ∙ ap (table_entry p file) (sym (one_bitmap p sized (first + len) first entry_same));
        }

-- their pages are among the pages of all
pub pages_of : (t : Tables) (first count a n : ℕ) (spot next : Spot) → next.bitmap ≡ spot.bitmap → next.marks ≡ spot.marks → first % 2 ^ 23 + count ≤ 2 ^ 23 → first ≤ a → a + n ≤ first + count → HasMarkPages t first count spot → HasMarkPages t a n next
pages_of t first count a n spot next bitmap marks room low high h = record {
  bits = λ m. subst (λ w. AreChanged (w / 2 ^ 20 * megabyte) (a % 2 ^ 23 / 32768) (bit_pages (a % 2 ^ 23) n) t.pending) (sym bitmap)
      (pages_between (first / 2 ^ 23) first (first + count) a n (spot.bitmap / 2 ^ 20 * megabyte) t.pending (omega arith) (omega (arith, room)) low high
      (subst (λ k. AreChanged (spot.bitmap / 2 ^ 20 * megabyte) (first % 2 ^ 23 / 32768) (bit_pages (first % 2 ^ 23) k) t.pending) (let e : count ≡ first + count - first = omega arith in e) (h.bits (sym marks ∙ m))));
}

-- so are those of the first of them
pub pages_less : (t : Tables) (first count n : ℕ) (spot : Spot) → n ≤ count → first % 2 ^ 23 + count ≤ 2 ^ 23 → HasMarkPages t first count spot → HasMarkPages t first n spot
pages_less t first count n spot fits room h = pages_of t first count first n spot spot refl refl room (omega arith) (omega (arith, fits)) h

-- and pages that are changed stay so
pub pages_stay : (old new : Tables) (first count : ℕ) (spot : Spot) → ((at : ℕ) → has_place at old.pending ≡ true → has_place at new.pending ≡ true) → HasMarkPages old first count spot → HasMarkPages new first count spot
pages_stay old new first count spot keeps h = record { bits = λ m k a b. keeps _ (h.bits m k a b) }

-- ---- where a block stands, all of it is below the greatest number

pub block_low : (l : Layer) (t : Trace) (file : Placed) (serves : Serves l t file) (first : ℕ) → first < l.tables.parts.sectors
    → (state_at (table_words.shape_of l.tables.parts) (held_by l t) (entry_of (table_words.shape_of l.tables.parts) first) ≡ 6) ⊎ (state_at (table_words.shape_of l.tables.parts) (held_by l t) (entry_of (table_words.shape_of l.tables.parts) first) ≡ 7)
    → place_at (table_words.shape_of l.tables.parts) (held_by l t) (entry_of (table_words.shape_of l.tables.parts) first) + l.tables.parts.block ≤ 2 ^ 63
block_low l t file serves first below there =
    let most = serves.as_held.most in
    let H = held l.tables.pending (seen (file_of t file.number)) in
    let q = shape_of serves.parts in
    let there_q : (state_at q H (entry_of q first) ≡ 6) ⊎ (state_at q H (entry_of q first) ≡ 7) = subst (λ z. (state_at q z (entry_of q first) ≡ 6) ⊎ (state_at q z (entry_of q first) ≡ 7)) (sym (held_here l t file serves))
    (subst (λ (x : Shape). (state_at x (held_by l t) (entry_of x first) ≡ 6) ⊎ (state_at x (held_by l t) (entry_of x first) ≡ 7)) serves.as_held.shape there) in
    let below_q : first < q.sectors = subst (λ (x : Shape). first < x.sectors) serves.as_held.shape below in
    let b = block_in_file serves.parts H H (omega arith) (sizes l t file serves) serves.as_held.numbers serves.as_held.sound (entry_of q first) (record { at = place_at q H (entry_of q first); len = q.block })
    (payload ((sector_entries q (record { sector = (sizes l t file serves).sector; block = (sizes l t file serves).block })).payload first below_q) there_q) in
    let w = b.within in
    let at : place_at q H (entry_of q first) ≡ place_at (table_words.shape_of l.tables.parts) (held_by l t) (entry_of (table_words.shape_of l.tables.parts) first) = ap (λ z. place_at q z (entry_of q first)) (held_here l t file serves)
    ∙ ap (λ (x : Shape). place_at x (held_by l t) (entry_of x first)) (sym serves.as_held.shape) in
    let size : q.block ≡ l.tables.parts.block = ap (λ (x : Shape). x.block) (sym serves.as_held.shape) in
    omega (arith, w, at, size, most, held_as_long l t file serves)

-- ---- sectors at a spot are marked

module _ (l : Layer) (old : Disk) (ready : IsReady l old) (spot : Spot) (first count : ℕ) (some : 0 < count) (on_disk : first + count ≤ l.tables.parts.sectors)
    (run : first * l.tables.parts.sector % l.tables.parts.block + count * l.tables.parts.sector ≤ l.tables.parts.block) (stands : WhereTold old.told (λ t. IsSpot (table_words.shape_of l.tables.parts) (held_by l t) first count spot)) where
  abbrev p : Shape
  p = table_words.shape_of l.tables.parts

  sized : HasSizes p
  sized = record { sector = ready.readable.sizes.sector; block = ready.readable.sizes.block }

  below : first < l.tables.parts.sectors
  below = omega (arith, some, on_disk)

  there : (t : Trace) → old.told ≡ Some t → (marks : Bool) → spot.marks ≡ marks → ((state_at p (held_by l t) (entry_of p first) ≡ 6) ⊎ (state_at p (held_by l t) (entry_of p first) ≡ 7)) × (spot.place ≡ place_at p (held_by l t) (entry_of p first) + first * l.tables.parts.sector % l.tables.parts.block)
  there t told true e = let s = (stands t told).part e in (inr s.seven, s.place_is)
  there t told false e = let s = (stands t told).whole e in (s.there, s.place_is)

  -- no place is beyond all numbers
  pub spot_low : WhereTold old.told (λ t. spot.place + l.tables.parts.sector * count ≤ 2 ^ 63)
  spot_low t told =
      let one = ready.told t told in
      let s = there t told spot.marks refl in
      let at = s.1 in
      let low = block_low l t one.0 one.1 first below s.0 in
      let swap = mul_comm l.tables.parts.sector count in
      omega (arith, at, low, swap, run)

  pub spot_low_part : (len : ℕ) → len ≤ count → WhereTold old.told (λ t. spot.place + l.tables.parts.sector * len ≤ 2 ^ 63)
  spot_low_part len fits t told =
      let all = spot_low t told in
      let rows : l.tables.parts.sector * count ≡ l.tables.parts.sector * len + l.tables.parts.sector * (count - len) = mul_comm l.tables.parts.sector count ∙ ap (λ n. n * l.tables.parts.sector) (let e : count ≡ len + (count - len) = omega (arith, fits) in e) ∙ add-mul len (count - len) l.tables.parts.sector
      ∙ (let a = mul_comm l.tables.parts.sector len in let b = mul_comm l.tables.parts.sector (count - len) in omega (arith, a, b)) in
      omega (arith, all, rows)

  -- the rest stand behind the first of them
  pub next_spot : (len : ℕ) (next : Spot) → len < count → WhereTold old.told (λ t. next.place ≡ spot.place + l.tables.parts.sector * len) → next.bitmap ≡ spot.bitmap → next.marks ≡ spot.marks → WhereTold old.told (λ t. IsSpot p (held_by l t) (first + len) (count - len) next)
  next_spot len next fits place bitmap marks t told = rest_spot p (held_by l t) first len count spot next sized fits run (place t told) bitmap marks (stands t told)

  -- and so they do once the first are put
  pub next_kept : (mid : Layer) (behind : Disk) (len : ℕ) (next : Spot) → mid.tables.parts ≡ l.tables.parts → len < count → WhereTold old.told (λ t. next.place ≡ spot.place + l.tables.parts.sector * len) → next.bitmap ≡ spot.bitmap → next.marks ≡ spot.marks
      → WhereBothTold (KeepsSpots l mid spot.marks) old.told behind.told → WhereTold behind.told (λ t. IsSpot (table_words.shape_of mid.tables.parts) (held_by mid t) (first + len) (count - len) next)
  next_kept mid behind len next parts fits place bitmap marks kept =
      subst (λ (q : TableParts). WhereTold behind.told (λ t. IsSpot (table_words.shape_of q) (held_by mid t) (first + len) (count - len) next)) (sym parts)
      (told_on (KeepsSpots l mid spot.marks) (λ t. IsSpot p (held_by l t) (first + len) (count - len) next) (λ t. IsSpot p (held_by mid t) (first + len) (count - len) next) old.told behind.told (next_spot len next fits place bitmap marks) kept
      (λ t u k is. k.spots (first + len) (count - len) next marks (omega (arith, fits)) (omega (arith, on_disk, fits)) is))

  module _ (marks : spot.marks ≡ true) (new : Layer) (m : Marks l new spot.bitmap first count true) (room : first % 2 ^ 23 + count ≤ 2 ^ 23) where
    part : (t : Trace) → old.told ≡ Some t → StandsInPart p (held_by l t) first spot.place spot.bitmap
    part t told = (stands t told).part marks

    same : (t : Trace) → old.told ≡ Some t → (s : ℕ) → s < l.tables.parts.sectors → table_entry p (held_by new t) (entry_of p s) ≡ table_entry p (held_by l t) (entry_of p s)
    same t told = let one = ready.told t told in marks_state l new spot.bitmap first count true m t one.0 one.1 below (part t told).parent (part t told).there (part t told).bitmap_is room

    one_made : (t : Trace) → old.told ≡ Some t → IsMade l new first count spot.place t t
    one_made t told =
        let one = ready.told t told in
        let s = part t told in
        record {
          stand = subst (λ (x : TableParts). IsRunAt (table_words.shape_of x) (held_by new t) first count spot.place) (sym m.parts) (record {
            some = some;
            run = run;
            there = inr (ap state_of (same t told first below) ∙ s.seven);
            place_is = s.place_is ∙ ap (λ n. unit_of n * megabyte + first * l.tables.parts.sector % l.tables.parts.block) (sym (same t told first below));
            marked = λ i from to h. marks_bits l new spot.bitmap first count true m t one.0 one.1 below s.parent s.there s.bitmap_is room i (omega (arith, to, on_disk)) (among first count i from to);
          });
          serves = λ file serves. let x = marks_serves l new spot.bitmap first count true m t file serves below s.parent s.there s.bitmap_is room in (x.0, x.1.0, x.1.1);
        }

    pub spot_made : WhereBothTold (IsMade l new first count spot.place) old.told old.told
    spot_made = both_self (IsMade l new first count spot.place) old.told one_made

    pub spot_ready : IsReady new old
    spot_ready =
        ready_next l new old old ready refl m.parts (ap (λ (x : Layer). x.log.file) m.only) (subst (λ (x : Layer). x.log.len ≤ x.space.next * megabyte) (sym m.only) ready.next) (subst (λ (x : Layer). x.space.next ≤ 2 ^ 44) (sym m.only) ready.most)
        (subst (λ (x : Layer). x.zeros.items ≡ zeros megabyte) (sym m.only) ready.clear) (subst (λ (x : Layer). length x.plans.items ≡ 257) (sym m.only) ready.plans)
        (both_map (IsMade l new first count spot.place) _ old.told old.told spot_made (λ t u b c h file serves. let x = h.serves file serves in (placed_with x.0 (loose_or_named first count file) file, x.1)))

    pub spot_kept : WhereBothTold (KeepsSpots l new true) old.told old.told
    spot_kept = both_self (KeepsSpots l new true) old.told (λ t told. record {
      spots = λ a n other e any high is. let one = ready.told t told in
          let s = is.part e in
          let low : a < l.tables.parts.sectors = omega (arith, any, high) in
          record {
            whole = λ w. let wrong : true ≡ false = sym e ∙ w in cc;
            part = λ k. record {
              seven = ap state_of (same t told a low) ∙ s.seven;
              place_is = s.place_is ∙ ap (λ w. unit_of w * megabyte + a * l.tables.parts.sector % l.tables.parts.block) (sym (same t told a low));
              parent = s.parent;
              there = s.there;
              bitmap_is = s.bitmap_is ∙ sym (marks_bitmap l new spot.bitmap first count true m t one.0 one.1 below (part t told).parent (part t told).there (part t told).bitmap_is room a low);
            };
          };
    })

-- ---- and written

-- where no table changes
pub entries_spots : (l : Layer) (marks : Bool) (old new : Disk) → IsReady l old → WhereBothTold (KeepsEntries l l) old.told new.told → WhereBothTold (KeepsSpots l l marks) old.told new.told
entries_spots l marks old new ready same = both_map (KeepsEntries l l) (KeepsSpots l l marks) old.told new.told same (λ t u told then k. record {
  spots = λ a n spot e any high is.
      let one = ready.told t told in
      let low : a < l.tables.parts.sectors = omega (arith, any, high) in
      let word = (k.all a low).entry in
      record {
        whole = λ w. stand_still l t u one.0 a n spot.place one.1 high (record { sector = ready.readable.sizes.sector; block = ready.readable.sizes.block }) k (is.whole w);
        part = λ m. let s = is.part m in record {
          seven = ap state_of word ∙ s.seven;
          place_is = s.place_is ∙ ap (λ w. unit_of w * megabyte + a * l.tables.parts.sector % l.tables.parts.block) (sym word);
          parent = s.parent;
          there = s.there;
          bitmap_is = s.bitmap_is ∙ sym ((k.all a low).bits.bitmap s.parent);
        };
      };
})

-- where nothing changes
pub spots_self : (l : Layer) (marks : Bool) (a : Option Trace) → WhereBothTold (KeepsSpots l l marks) a a
spots_self l marks a = both_self (KeepsSpots l l marks) a (λ t told. record { spots = λ first n spot m any high is. is })

-- one step behind another
pub spots_then : (l mid new : Layer) (marks : Bool) (a b c : Option Trace) → mid.tables.parts ≡ l.tables.parts → WhereBothTold (KeepsSpots l mid marks) a b → WhereBothTold (KeepsSpots mid new marks) b c → WhereBothTold (KeepsSpots l new marks) a c
spots_then l mid new marks a b c parts one two = both_then (KeepsSpots l mid marks) (KeepsSpots mid new marks) (KeepsSpots l new marks) a b c one two (λ t u v e f k r. record {
  spots = λ first n spot m any high is. subst (λ (p : TableParts). IsSpot (table_words.shape_of p) (held_by new v) first n spot) parts
      (r.spots first n spot m any (subst (λ (p : TableParts). first + n ≤ p.sectors) (sym parts) high) (subst (λ (p : TableParts). IsSpot (table_words.shape_of p) (held_by mid u) first n spot) (sym parts) (k.spots first n spot m any high is)));
})

-- fewer sectors of a spot stand there too
pub spot_less : (p : Shape) (file : List ℕ) (first count n : ℕ) (spot : Spot) → 0 < n → n ≤ count → IsSpot p file first count spot → IsSpot p file first n spot
spot_less p file first count n spot some fits is = record {
  whole = λ off.
      let run = is.whole off in
      let less : n * p.sector ≤ count * p.sector = mul-le-mul_right p.sector fits in
      record {
        some = some;
        run = omega (arith, less, run.run);
        there = run.there;
        place_is = run.place_is;
        marked = λ s from to. run.marked s from (omega (arith, to, fits));
      };
  part = is.part;
}
