-- A block gets a place, and has no sector yet.
use Rattle.std.proofs.Common.{◌≡◌, ℕ, ◌+◌, ◌-◌, ◌*◌, ◌/◌, ◌%◌, ◌^◌, ◌<◌, ◌≤◌, true, false, Some, sym, ap, subst, ◌∙◌}
use Rattle.std.specs.Prelude.{Err, IfOk, Ok, Result}
use Rattle.vhdx_format.specs.Layers.{Shape, bitmap_entry_of, entry_of, place_at, state_at, table_entry}
use Rattle.store_model.specs.Disk.{Disk, WhereBothTold, WhereTold}
use Rattle.store_model.specs.Trace.{Trace}
use Rattle.table_pages.specs.Held.{AreChanged, bit_pages, held}
use Rattle.table_pages.specs.Held as table_words
use Rattle.table_pages.specs.declared.tables.TableParts.{TableParts}
use Rattle.layer_session.specs.declared.file.Layer.{Layer}
use Rattle.layer_session.specs.declared.file.LayerFault.{LayerFault}
use Rattle.layer_session.specs.Calls.{Fails, HoldsRest}
use Rattle.layer_session.specs.Keeping.{IsReady}
use Rattle.layer_session.specs.Masked.{HasEmpty}
use Rattle.layer_session.specs.Steps.{held_by}
use Rattle.layer_session.specs.Taking.{HasMade, IsAbsent, IsBroken}
use Rattle.layer_session.proofs.Marks.{Marks}
use Rattle.layer_session.proofs.Parting.{part_bitmap, part_served}
use Rattle.layer_session.proofs.Told.{both_map}

-- ---- a block gets a place, with no sector yet

pub if_ok_map : {T E : Type 0} (r : Result T E) (P Q : T → Type 0) → IfOk r P → ((x : T) → P x → Q x) → IfOk r Q
if_ok_map (Ok x) P Q p f = f x p
if_ok_map (Err e) P Q p f = tt

module _ (l mid : Layer) (old : Disk) (ready : IsReady l old) (word first start per : ℕ) (on_disk : first < l.tables.parts.sectors) (m : Marks l mid word start per false)
    (start_at : start ≡ first - first * l.tables.parts.sector % l.tables.parts.block / l.tables.parts.sector) (per_is : per ≡ l.tables.parts.block / l.tables.parts.sector) (room : start % 2 ^ 23 + per ≤ 2 ^ 23)
    (absent : WhereTold old.told (λ t. IsAbsent (table_words.shape_of l.tables.parts) (held_by l t) first word)) where
  abbrev p : Shape
  p = table_words.shape_of l.tables.parts

  pub empty_made : (left : Layer) (behind : Disk) (place : ℕ) → WhereBothTold (HasMade mid left first 7 place) old.told behind.told → WhereBothTold (HasEmpty l left first place word) old.told behind.told
  empty_made left behind place made = both_map (HasMade mid left first 7 place) (HasEmpty l left first place word) old.told behind.told made one
    where
      one : (t u : Trace) → old.told ≡ Some t → behind.told ≡ Some u → HasMade mid left first 7 place t u → HasEmpty l left first place word t u
      one t u told after h =
          let a = absent t told in
          let by_bits : p.parent ≡ true → table_entry p (held_by left u) (bitmap_entry_of p first) ≡ table_entry p (held_by mid t) (bitmap_entry_of p first) =
          subst (λ (q : TableParts). first < q.sectors → q.parent ≡ true → table_entry (table_words.shape_of q) (held_by left u) (bitmap_entry_of (table_words.shape_of q) first) ≡ table_entry (table_words.shape_of q) (held_by mid t) (bitmap_entry_of (table_words.shape_of q) first)) m.parts
          (λ b. (h.bits first b).bitmap) on_disk in
          record {
            serves = λ file serves. h.serves file (part_served l mid old ready word first start per on_disk m start_at per_is room absent t told file serves);
            stands = record {
              seven = subst (λ (q : TableParts). state_at (table_words.shape_of q) (held_by left u) (entry_of (table_words.shape_of q) first) ≡ 7) m.parts h.state_is;
              place_is = subst (λ (q : TableParts). place ≡ place_at (table_words.shape_of q) (held_by left u) (entry_of (table_words.shape_of q) first) + first * q.sector % q.block) m.parts h.place_is;
              parent = a.parent;
              there = a.there;
              bitmap_is = a.word_is ∙ sym (part_bitmap l mid old ready word first start per on_disk m start_at per_is room absent t told first on_disk) ∙ sym (by_bits a.parent);
            };
          }

  pub empty_broken : (left : Layer) (new : Disk) (fault : LayerFault) → IsBroken mid left 0 0 old new fault → IsBroken l left 0 0 old new fault
  empty_broken left new fault b = record {
    cause = b.cause;
    written = b.written;
    fails = subst (λ (q : TableParts). Fails q.file old new fault) m.parts b.fails;
    readable = b.readable;
    holds = both_map (HoldsRest mid left 0 0) (HoldsRest l left 0 0) old.told new.told b.holds
        (λ t u told after k. record { holds = λ file serves. k.holds file (part_served l mid old ready word first start per on_disk m start_at per_is room absent t told file serves) });
    parts = b.parts ∙ m.parts;
    number = b.number ∙ ap (λ (x : Layer). x.log.number) m.only;
    header = b.header ∙ ap (λ (x : Layer). x.log.header) m.only;
  }
