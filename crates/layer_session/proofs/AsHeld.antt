-- What a layer holds, in the words of chains.
use Rattle.std.proofs.Common.{◌≡◌, ℕ, ◌<◌, ◌≤◌, ◌⊎◌, List, length, map, get_or, refl, sym, ap, subst, ◌∙◌, arith, inl, inr}
use Rattle.std.proofs.lemmas.Bool.{cases_lt}
use Rattle.vx_base.specs.declared.parts.Header.{Header}
use Rattle.vhdx_format.specs.FileParts.{shape_of}
use Rattle.vhdx_format.specs.Layers.{Shape}
use Rattle.vhdx_format.specs.SettledFiles.{byte_after, length_after}
use Rattle.vhdx_format.specs.WrittenEntries.{page_update}
use Rattle.vhdx_format.proofs.SettledBytes.{get_or-with_updates, length-with_updates}
use Rattle.store_model.specs.File.{seen}
use Rattle.store_model.specs.Trace.{Trace, file_of}
use Rattle.table_pages.specs.Held.{held}
use Rattle.table_pages.proofs.Laying.{held_len}
use Rattle.log_write.specs.Sessions.{IsKept, SettlesNear, nowhere}
use Rattle.log_write.proofs.Running.{reads_stand}
use Rattle.chain_model.specs.Files.{HasParts, layer_in, with_pages}
use Rattle.chain_model.specs.Images.{Placed}
use Rattle.layer_session.specs.declared.file.Layer.{Layer}
use Rattle.layer_session.specs.Calls.{HoldsMember}
use Rattle.layer_session.specs.Keeping.{IsTablePlace, Serves}
use Rattle.layer_session.proofs.Alike.{layer_alike, numbers_alike, sector_kept, sound_alike}
use Rattle.layer_session.proofs.Crashes.{IsSafe, in_layer, off_layer, safe_of}

module _ (l : Layer) (t : Trace) (file : Placed) (serves : Serves l t file) where
  abbrev F : List ℕ
  F = seen (file_of t file.number)

  abbrev h : List ℕ
  h = held l.tables.pending F

  abbrev q : Shape
  q = shape_of serves.parts

  sf : IsSafe serves.parts serves.tables serves.written file.is_loose file.member.layer serves.bytes F
  sf = safe_of l t file serves

  near : SettlesNear serves.parts.header F (length F) nowhere F
  near = subst (λ (k : Header). SettlesNear k F (length F) nowhere F) (sym serves.header) (reads_stand l.log serves.tables (length serves.bytes) serves.written (file_of t file.number) serves.running)

  -- the file with its log replayed, and the changed pages over that
  now : List ℕ
  now = held l.tables.pending near.settled

  settled_long : length near.settled ≡ length F
  settled_long = let a = near.long in let b = near.short in omega (arith, a, b)

  same_long : length now ≡ length h
  unfolding now held
  same_long = length-with_updates (map page_update l.tables.pending) near.settled ∙ ap (length_after (map page_update l.tables.pending)) settled_long ∙ sym (length-with_updates (map page_update l.tables.pending) F)

  longer : length h ≤ length now
  longer = let e = same_long in omega (arith, e)

  long_held : length h ≡ length F
  long_held = held_len (length F) l.tables.pending F serves.as_held.pages.changed refl

  byte_same : (i : ℕ) → i < length h → IsKept serves.parts.header i → get_or now i 0 ≡ get_or h i 0
  unfolding now held
  byte_same i below kept =
      get_or-with_updates (map page_update l.tables.pending) near.settled i
      ∙ ap (byte_after (map page_update l.tables.pending) i) (elim (near.same i (omega (arith, below, long_held)) kept) [ inl never ↦ cc | inr e ↦ e ])
      ∙ sym (get_or-with_updates (map page_update l.tables.pending) F i)

  table_same : (i : ℕ) → IsTablePlace serves.parts h i → i < length h → get_or now i 0 ≡ get_or h i 0
  table_same i p below = byte_same i below (serves.covered_held.beside i p)

  long : 327680 ≤ length h
  long = let a = sf.long in let b = serves.committed.long in omega (arith, a, b, long_held)

  layer_same : (s : ℕ) → (s < serves.parts.geometry.sectors) ⊎ (serves.parts.geometry.sectors ≤ s) → file.member.layer s ≡ layer_in now serves.parts s
  layer_same s (inr above) = serves.as_held.has.off_disk s above ∙ sym (off_layer serves.parts now s above)
  layer_same s (inl below) =
      serves.as_held.has.on_disk s below
      ∙ sym (layer_alike serves.parts h now longer sf.sizes serves.as_held.numbers serves.as_held.sound table_same long s below (λ i st. (let k = sector_kept serves.parts h now longer sf.sizes serves.as_held.numbers serves.as_held.sound s below i st in byte_same i k.1 k.0)))
      ∙ sym (in_layer serves.parts now s below)

  is_over : now ≡ with_pages l.tables.pending near.settled
  unfolding now held with_pages
  is_over = refl

  pub holds_member : HoldsMember l t file.member
  holds_member = record {
    held = now;
    parts = serves.parts;
    reads = subst (λ n. HasParts (record { bytes = seen (file_of t n); pages = l.tables.pending }) now serves.parts) serves.number (record {
      header = serves.parts.header;
      head = near.head;
      settled = near.settled;
      settles = near.opens;
      is = is_over;
      numbers = numbers_alike serves.parts h now longer sf.sizes serves.as_held.numbers serves.as_held.sound table_same long;
      blocks = sound_alike serves.parts h now longer sf.sizes serves.as_held.numbers serves.as_held.sound table_same long;
    });
    ties = serves.ties;
    layer = λ s. layer_same s (cases_lt s serves.parts.geometry.sectors);
  }
