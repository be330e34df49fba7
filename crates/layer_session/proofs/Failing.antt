-- What a layer holds after a commit that failed.
use Rattle.std.proofs.Common.{◌≡◌, ℕ, zero, suc, ◌+◌, ◌%◌, ◌<◌, ◌≤◌, ◌⊎◌, Bool, true, All, List, [], ◌∷◌, length, map, get_or, Option, Some, None, refl, sym, ap, subst, ◌∙◌, arith, inl, inr}
use Rattle.std.proofs.lemmas.Bool.{cases_lt}
use Rattle.vx_base.specs.Fields.{bytes_at}
use Rattle.vx_base.specs.declared.parts.Header.{Header}
use Rattle.vx_base.specs.declared.parts.Parts.{Parts}
use Rattle.vhdx_format.specs.Crashes.{IsOutside}
use Rattle.vhdx_format.specs.FileParts.{shape_of}
use Rattle.vhdx_format.specs.Layers.{Shape}
use Rattle.vhdx_format.specs.SettledFiles.{AnyNames}
use Rattle.vhdx_format.specs.WrittenEntries.{page_update}
use Rattle.vhdx_format.specs.declared.log_entry.Page.{Page}
use Rattle.vhdx_format.proofs.SettledBytes.{updated_same}
use Rattle.store_model.specs.Disk.{Disk, WhereBothTold, WhereTold}
use Rattle.store_model.specs.File.{seen}
use Rattle.store_model.specs.Plans.{FailsToChange}
use Rattle.store_model.specs.Trace.{Trace, file_of}
use Rattle.store_model.specs.declared.fault.StoreFault.{StoreFault}
use Rattle.table_pages.specs.Held.{IsPageIn, held}
use Rattle.table_pages.specs.Pages.{is_kept}
use Rattle.table_pages.proofs.Changing.{stand_beside_writes}
use Rattle.table_pages.proofs.Laying.{held_len, held_unchanged_any, part_same}
use Rattle.log_write.specs.Sessions.{LogState}
use Rattle.log_write.specs.Writing.{KeepsBeside}
use Rattle.chain_model.specs.Images.{Placed}
use Rattle.chain_model.specs.Layers as chain
use Rattle.layer_session.specs.declared.file.Layer.{Layer}
use Rattle.layer_session.specs.Calls.{HoldsRest}
use Rattle.layer_session.specs.Keeping.{IsHeld, IsReadable, IsReady, IsTablePlace, Serves, StandsAt}
use Rattle.layer_session.proofs.Alike.{layer_alike, numbers_alike, places_stay, sector_kept, sound_alike}
use Rattle.layer_session.proofs.Committed.{IsWhole, whole_of}
use Rattle.layer_session.proofs.Equal.{none_some, some_same}

-- a place is in one of the pages or outside all of them
in_or_out : (n : ℕ) (pages : List Page) (i : ℕ) → All (IsPageIn n) pages → AnyNames (map page_update pages) i ⊎ All (λ (page : Page). IsOutside page.at 4096 i) pages
unfolding AnyNames
in_or_out n [] i pages = inr (λ k d l. absurd (omega (arith, l)))
in_or_out n (page ∷ others) i pages = by_place (cases_lt i page.at) (cases_lt i (page.at + length page.bytes)) (in_or_out n others i (λ k d l. pages (suc k) d (omega (arith, l))))
  where
    whole : length page.bytes ≡ 4096
    whole = (pages 0 page (omega arith)).whole

    outside_all : IsOutside page.at 4096 i → All (λ (p : Page). IsOutside p.at 4096 i) others → All (λ (p : Page). IsOutside p.at 4096 i) (page ∷ others)
    outside_all here rest zero d l = here
    outside_all here rest (suc k) d l = rest k d (omega (arith, l))

    by_place : (i < page.at) ⊎ (page.at ≤ i) → (i < page.at + length page.bytes) ⊎ (page.at + length page.bytes ≤ i)
        → AnyNames (map page_update others) i ⊎ All (λ (p : Page). IsOutside p.at 4096 i) others → AnyNames (map page_update (page ∷ others)) i ⊎ All (λ (p : Page). IsOutside p.at 4096 i) (page ∷ others)
    by_place (inr a) (inl b) rest = inl (inl (a, b))
    by_place (inl a) b (inl x) = inl (inr x)
    by_place (inr a) (inr b) (inl x) = inl (inr x)
    by_place (inl a) b (inr o) = inr (outside_all (inl a) o)
    by_place (inr a) (inr b) (inr o) = inr (outside_all (inr (omega (arith, b, whole))) o)

module _ (l : Layer) (t : Trace) (file : Placed) (parts : Parts) (tables : ℕ → Bool) (is_whole : IsWhole l t file parts tables) (X : List ℕ) (keeps : KeepsBeside l.log l.tables.pending (seen (file_of t file.number)) X) where
  abbrev F : List ℕ
  F = seen (file_of t file.number)

  abbrev h : List ℕ
  h = held l.tables.pending F

  abbrev now : List ℕ
  now = held l.tables.pending X

  abbrev q : Shape
  q = shape_of parts

  pages_in : All (IsPageIn (length X)) l.tables.pending
  pages_in k d b = let p = is_whole.as_held.pages.changed k d b in record { aligned = p.aligned; whole = p.whole; within = omega (arith, p.within, keeps.long); bytes = p.bytes }

  byte_same : (i : ℕ) → IsOutside l.log.header.log_at l.log.header.log_len i → get_or now i 0 ≡ get_or h i 0
  unfolding held
  byte_same i out = updated_same (map page_update l.tables.pending) F X i (elim (in_or_out (length F) l.tables.pending i is_whole.as_held.pages.changed) [ inl x ↦ inl x | inr o ↦ inr (keeps.same i out o) ])

  table_out : (i : ℕ) → IsTablePlace parts h i → IsOutside l.log.header.log_at l.log.header.log_len i
  table_out i p = subst (λ (k : Header). IsOutside k.log_at k.log_len i) is_whole.header (is_whole.covered_held.beside i p).log

  same_long : length now ≡ length h
  same_long =
      let one : length now ≡ length X = held_len (length X) l.tables.pending X pages_in refl in
      let two : length h ≡ length F = held_len (length F) l.tables.pending F is_whole.as_held.pages.changed refl in
      let three = keeps.long in
      omega (arith, one, two, three)

  kept_same : (at : ℕ) → at % 4096 ≡ 0 → is_kept at l.tables.cache ≡ true → bytes_at X at 4096 ≡ bytes_at F at 4096
  kept_same at aligned k =
      let out = (is_whole.as_held.pages.unchanged at aligned k).1 in
      sym (held_unchanged_any l.tables.pending X at pages_in out aligned)
      ∙ part_same now h at 4096 same_long (λ i b. byte_same (at + i) (table_out (at + i) (is_whole.only (at + i) (is_whole.kept at (at + i) aligned k (omega arith) (omega (arith, b))))))
      ∙ held_unchanged_any l.tables.pending F at is_whole.as_held.pages.changed out aligned

  longer : length h ≤ length now
  longer = let e = same_long in omega (arith, e)

  table_same : (i : ℕ) → IsTablePlace parts h i → i < length h → get_or now i 0 ≡ get_or h i 0
  table_same i p below = byte_same i (table_out i p)

  sector_out : (s : ℕ) → s < q.sectors → (i : ℕ) → StandsAt q h s i → IsOutside l.log.header.log_at l.log.header.log_len i
  sector_out s below i st = subst (λ (k : Header). IsOutside k.log_at k.log_len i) is_whole.header (sector_kept parts h now longer is_whole.sizes is_whole.as_held.numbers is_whole.as_held.sound s below i st).0.log

  -- it holds what it held
  pub held_still : IsHeld l parts file.member.layer X
  held_still = record {
    sizes = is_whole.as_held.sizes;
    shape = is_whole.as_held.shape;
    region = is_whole.as_held.region;
    most = let m = is_whole.as_held.most in let e = keeps.long in omega (arith, e, m);
    pages = stand_beside_writes l.tables.parts F X l.tables.pending l.tables.cache is_whole.as_held.pages (let e = keeps.long in omega (arith, e)) kept_same;
    numbers = numbers_alike parts h now longer is_whole.sizes is_whole.as_held.numbers is_whole.as_held.sound table_same is_whole.long;
    sound = sound_alike parts h now longer is_whole.sizes is_whole.as_held.numbers is_whole.as_held.sound table_same is_whole.long;
    of_tables = λ k d b i a c. places_stay parts h now longer is_whole.sizes is_whole.as_held.numbers is_whole.as_held.sound table_same is_whole.long i (is_whole.as_held.of_tables k d b i a c);
    has = record {
      on_disk = λ s below. is_whole.as_held.has.on_disk s below
          ∙ sym (layer_alike parts h now longer is_whole.sizes is_whole.as_held.numbers is_whole.as_held.sound table_same is_whole.long s below (λ i st. byte_same i (sector_out s below i st)));
      off_disk = is_whole.as_held.has.off_disk;
    };
  }

-- the layer with another log
abbrev pub with_log : Layer → LogState → Layer
with_log l log = record l { log = log }

pub same_log : (l : Layer) (log : LogState) (parts : Parts) (layer : chain.Layer) (bytes : List ℕ) → IsHeld l parts layer bytes → IsHeld (with_log l log) parts layer bytes
same_log l log parts layer bytes h = record { sizes = h.sizes; shape = h.shape; region = h.region; most = h.most; pages = h.pages; numbers = h.numbers; sound = h.sound; of_tables = h.of_tables; has = h.has }

module _ (l : Layer) (log : LogState) (old new : Disk) (ready : IsReady l old) (fault : StoreFault) (fails : FailsToChange l.log.file old new fault)
    (keeps : WhereBothTold (λ before after. KeepsBeside l.log l.tables.pending (seen (file_of before l.log.file)) (seen (file_of after l.log.file))) old.told new.told) where
  one_held : (t u : Trace) (file : Placed) → Serves l t file → KeepsBeside l.log l.tables.pending (seen (file_of t l.log.file)) (seen (file_of u l.log.file))
      → (parts : Parts) × (IsHeld (with_log l log) parts file.member.layer (seen (file_of u l.tables.parts.file)))
  one_held t u file s k =
      let n : l.log.file ≡ file.number = ready.one_file ∙ sym s.number in
      let here : KeepsBeside l.log l.tables.pending (seen (file_of t file.number)) (seen (file_of u file.number)) = subst (λ i. KeepsBeside l.log l.tables.pending (seen (file_of t i)) (seen (file_of u i))) n k in
      (s.parts, subst (λ i. IsHeld (with_log l log) s.parts file.member.layer (seen (file_of u i))) s.number (same_log l log s.parts file.member.layer (seen (file_of u file.number)) (held_still l t file s.parts s.tables (whole_of l t file s) (seen (file_of u file.number)) here)))

  rest_held : (t u : Trace) → KeepsBeside l.log l.tables.pending (seen (file_of t l.log.file)) (seen (file_of u l.log.file)) → HoldsRest l (with_log l log) 0 0 t u
  rest_held t u k = record { holds = λ file s. let h = one_held t u file s k in (h.0, (file.member.layer, h.1, λ i e. refl)) }

  pub holds_rest : WhereBothTold (HoldsRest l (with_log l log) 0 0) old.told new.told
  holds_rest = by_told old.told new.told keeps
    where
      by_told : (a b : Option Trace) → WhereBothTold (λ before after. KeepsBeside l.log l.tables.pending (seen (file_of before l.log.file)) (seen (file_of after l.log.file))) a b → WhereBothTold (HoldsRest l (with_log l log) 0 0) a b
      by_told None None k = tt
      by_told None (Some u) k = absurd k
      by_told (Some t) None k = absurd k
      by_told (Some t) (Some u) k = rest_held t u k

  pub readable_still : IsReadable (with_log l log) new
  readable_still = record {
    there = subst (λ n. l.tables.parts.file < n) (sym (ap (λ (d : Disk). d.files) fails.stays)) ready.readable.there;
    sizes = ready.readable.sizes;
    told = by_told old.told new.told ready.told keeps;
  } where
    by_told : (a b : Option Trace) → WhereTold a (λ trace. (file : Placed) × Serves l trace file)
        → WhereBothTold (λ before after. KeepsBeside l.log l.tables.pending (seen (file_of before l.log.file)) (seen (file_of after l.log.file))) a b
        → WhereTold b (λ trace. (parts : Parts) × ((layer : chain.Layer) × IsHeld (with_log l log) parts layer (seen (file_of trace l.tables.parts.file))))
    by_told None None r k u e = absurd (none_some e)
    by_told None (Some v) r k u e = absurd k
    by_told (Some t) None r k u e = absurd (none_some e)
    by_told (Some t) (Some v) r k u e =
        let s = r t refl in
        let h = one_held t v s.0 s.1 k in
        subst (λ (x : Trace). (parts : Parts) × ((layer : chain.Layer) × IsHeld (with_log l log) parts layer (seen (file_of x l.tables.parts.file)))) (some_same e) (h.0, (s.0.member.layer, h.1))
