-- What is brought for a call, part by part.
use Rattle.std.proofs.Common.{◌≡◌, ℕ, ◌+◌, ◌-◌, ◌*◌, ◌/◌, ◌%◌, ◌^◌, ◌<◌, ◌≤◌, ◌⊎◌, Bool, true, false, List, length, refl, sym, subst, ◌∙◌, arith, inl, inr}
use Rattle.std.specs.Prelude.{Some, Result, Ok, Err, OnOk}
use Rattle.vhdx_format.specs.HeldBlocks.{HasGoodStates}
use Rattle.vhdx_format.specs.Layers.{Shape, bitmap_entry_of, entry_of}
use Rattle.vhdx_format.specs.declared.log_entry.Page.{Page}
use Rattle.store_model.specs.Disk.{Disk}
use Rattle.store_model.specs.File.{seen}
use Rattle.store_model.specs.Trace.{Trace, file_of}
use Rattle.log_format.specs.PendingPages.{has_place}
use Rattle.vhdx_format.specs.Fields.{megabyte}
use Rattle.layer_session.specs.Steps.{first_in_block}
use Rattle.layer_session.specs.declared.planning.Step.TheVariants.{MakePart}
use Rattle.table_pages.specs.Held.{Adds, AreChanged, HasTables, bit_pages, entry_place, held_file, shape_of}
use Rattle.table_pages.specs.Pages.{page_place}
use Rattle.table_pages.specs.declared.tables.TableParts.{TableParts}
use Rattle.table_pages.specs.declared.tables.Tables.{Tables}
use Rattle.layer_session.specs.Bringing.{AreNamed, Brings, GoesOn, HasBits, HasBrought, HasEntry, InChunk, NamesBitmap, SetsEntry}
use Rattle.layer_session.specs.Planning.{EachRun}
use Rattle.layer_session.specs.TablesRead.{AreReadable, HasBitmaps, IsTablePage}
use Rattle.layer_session.specs.declared.planning.Plan.{Plan}
use Rattle.layer_session.proofs.BitRuns.{LiesIn, each_map, each_named, each_within}
use Rattle.layer_session.specs.declared.preparing.Missing.{Missing}
use Rattle.layer_session.proofs.Brought.{entries_at_hand, named_same}

-- ---- one bringing behind another

pub brought_then : (a b c : Tables) (disk : Disk) → HasBrought a b disk → HasBrought b c disk → HasBrought a c disk
brought_then a b c disk h k = record {
  parts_are = k.parts_are ∙ h.parts_are;
  tables = k.tables;
  held = λ trace told. k.held trace told ∙ h.held trace told;
  keeps = λ at x. k.keeps at (h.keeps at x);
  puts = λ trace told. record { only = λ at x. by_place trace told at ((k.puts trace told).only at x) ((h.puts trace told).only at) };
  cached = λ trace told. record { only = λ at aligned x. by_place trace told at ((k.cached trace told).only at aligned x) ((h.cached trace told).only at aligned) };
}
  where
    by_place : {one two : Type 0} (trace : Trace) → disk.told ≡ Some trace → (at : ℕ) → two ⊎ IsTablePage b.parts (held_file b trace) at → (two → one ⊎ IsTablePage a.parts (held_file a trace) at) → one ⊎ IsTablePage a.parts (held_file a trace) at
    by_place trace told at (inl x) rest = rest x
    by_place trace told at (inr page) rest =
        inr (subst (λ (p : TableParts). IsTablePage p (held_file a trace) at) h.parts_are (subst (λ file. IsTablePage b.parts file at) (h.held trace told) page))

pub readable_brought : (old new : Tables) (disk : Disk) → AreReadable old disk → HasBrought old new disk → AreReadable new disk
readable_brought old new disk h b = record {
  there = subst (λ (p : TableParts). p.file < disk.files) (sym b.parts_are) h.there;
  sizes = subst HasTables (sym b.parts_are) h.sizes;
  tables = b.tables;
  states = λ trace told. subst (λ (p : TableParts). HasGoodStates (shape_of p) (held_file new trace)) (sym b.parts_are) (subst (HasGoodStates (shape_of old.parts)) (sym (b.held trace told)) (h.states trace told));
  bitmaps = λ trace told. subst (λ (p : TableParts). HasBitmaps p (held_file new trace) (length (seen (file_of trace p.file)))) (sym b.parts_are)
      (subst (λ file. HasBitmaps old.parts file (length (seen (file_of trace old.parts.file)))) (sym (b.held trace told)) (h.bitmaps trace told));
}

-- ---- what is at hand stays so

-- the same numbers, and no fewer changed pages
pub record KeepsPending (old new : Tables) : Type 0 where
  pub parts_are : new.parts ≡ old.parts
  pub keeps : (at : ℕ) → has_place at old.pending ≡ true → has_place at new.pending ≡ true

pub bits_kept : (old new : Tables) → KeepsPending old new → (first count : ℕ) (plan : Plan) → HasBits old first count plan → HasBits new first count plan
bits_kept old new k first count plan h = record {
  bits = λ m i low high. k.keeps _ (h.bits m i low high);
  all_bits = subst (λ (p : TableParts). all_of p) (sym k.parts_are) (λ m i low high. k.keeps _ (h.all_bits m i low high));
}
  where
    all_of : TableParts → Type 0
    all_of p = plan.step ≡ MakePart → AreChanged (plan.bitmap / 2 ^ 20 * megabyte) (first_in_block (shape_of p) first % 2 ^ 23 / 32768) (bit_pages (first_in_block (shape_of p) first % 2 ^ 23) (p.block / p.sector)) new.pending

pub entry_kept : (old new : Tables) → KeepsPending old new → (first count : ℕ) (plan : Plan) → HasEntry old first count plan → HasEntry new first count plan
entry_kept old new k first count plan h =
    record { entry = subst (λ (p : TableParts). SetsEntry plan → has_place (page_place (entry_place p (entry_of (shape_of p) first))) new.pending ≡ true) (sym k.parts_are) (λ s. k.keeps _ (h.entry s)) }

-- ---- entries

pub entries_unset : (p : TableParts) (t : Tables) (plans : List Plan) (first count : ℕ) → EachRun (shape_of p) plans (λ s n plan. SetsEntry plan → ⊥) 0 first count → EachRun (shape_of p) plans (HasEntry t) 0 first count
entries_unset p t plans first count h = each_map (shape_of p) plans (λ s n plan. SetsEntry plan → ⊥) (HasEntry t) (λ s n plan off. record { entry = λ x. absurd (off x) }) 0 first count h

pub entries_set : (p : TableParts) (t : Tables) → t.parts ≡ p → HasTables p → (plans : List Plan) (first count : ℕ) → p.sector * count ≤ 2 ^ 28 → EachRun (shape_of p) plans (λ s n plan. Unit {0}) 0 first count → (old mid : List Page)
    → Adds (page_place (entry_place p (entry_of (shape_of p) first))) old mid → Adds (page_place (entry_place p (entry_of (shape_of p) (first + count - 1)))) mid t.pending
    → EachRun (shape_of p) plans (HasEntry t) 0 first count
entries_set p t e sizes plans first count few there old mid one two =
    each_map (shape_of p) plans (λ s n plan. LiesIn (shape_of p) first (first + count) s n × Unit {0}) (HasEntry t)
    (λ s n plan h. let lies = h.0 in record {
      entry = λ x. subst (λ (q : TableParts). has_place (page_place (entry_place q (entry_of (shape_of q) s))) t.pending ≡ true) (sym e)
          (entries_at_hand p sizes first count few old mid t.pending one two s lies.low (let a = lies.some in let b = lies.high in omega (arith, a, b)));
    }) 0 first count
    (each_within (shape_of p) (record { sector = sizes.sector; block = sizes.block }) plans (λ s n plan. Unit {0}) first (first + count) 0 first count (omega arith) (omega arith) there)

-- ---- plans

-- what answers of no fault tell together
pub two_if : {T E A P B Q R : Type 0} (result : Result T E) → ((A → P) → (B → Q) → R) → (A → OnOk result P) → (B → OnOk result Q) → OnOk result R
two_if (Ok x) f h k = f h k
two_if (Err e) f h k = tt

pub named_by : (missing : Bool) (p : Shape) (chunk : ℕ) (old new : List Plan) (P : ℕ → ℕ → Plan → Type 0) (first count : ℕ) → (missing ≡ true → new ≡ old) → (missing ≡ false → AreNamed p chunk old new 0 first count)
    → EachRun p old P 0 first count → AreNamed p chunk old new 0 first count
named_by true p chunk old new P first count same named all = subst (λ (z : List Plan). AreNamed p chunk old z 0 first count) (sym (same refl)) (named_same p chunk old P 0 first count all)
named_by false p chunk old new P first count same named all = named refl

-- the plans of other chunks stay
pub other_chunk : (p : Shape) (chunk other : ℕ) (old new : List Plan) (P : ℕ → ℕ → Plan → Type 0) (first count : ℕ) → (other ≡ chunk → ⊥) → AreNamed p other old new 0 first count
    → EachRun p old (InChunk chunk P) 0 first count → EachRun p new (InChunk chunk P) 0 first count
other_chunk p chunk other old new P first count ne named all =
    each_named p other old new (InChunk chunk P) (InChunk chunk P) (λ s n word plan side h e. by_side s n word plan side (h e) e) 0 first count named all
  where
    by_side : (s n word : ℕ) (plan : Plan) → (s / 2 ^ 23 ≡ other) ⊎ (word ≡ plan.bitmap) → P s n plan → s / 2 ^ 23 ≡ chunk → P s n (record plan { bitmap = word })
    by_side s n word plan (inl o) h e = absurd (ne (sym o ∙ e))
    by_side s n word plan (inr same) h e = subst (λ w. P s n (record plan { bitmap = w })) (sym same) h

pub entries_named : (p : Shape) (chunk : ℕ) (old new : List Plan) (t : Tables) (first count : ℕ) → AreNamed p chunk old new 0 first count → EachRun p old (HasEntry t) 0 first count → EachRun p new (HasEntry t) 0 first count
entries_named p chunk old new t first count named all = each_named p chunk old new (HasEntry t) (HasEntry t) (λ s n word plan side h. record { entry = h.entry }) 0 first count named all

-- ---- both chunks

module _ (parts : TableParts) (missing : Missing) (first count : ℕ) (t1 t2 : Tables) (p0 p1 : List Plan) (same1 : t1.parts ≡ parts) (keeps2 : KeepsPending t1 t2) (entries : EachRun (shape_of parts) p0 (HasEntry t1) 0 first count)
    (same : missing.near ≡ true → p1 ≡ p0) (named : missing.near ≡ false → AreNamed (shape_of t1.parts) (first / 2 ^ 23) p0 p1 0 first count)
    (hand : missing.near ≡ false → EachRun (shape_of t1.parts) p1 (InChunk (first / 2 ^ 23) (HasBits t2)) 0 first count)
    (entry : missing.near ≡ true → has_place (page_place (entry_place t1.parts (bitmap_entry_of (shape_of t1.parts) first))) t2.pending ≡ true) where
  abbrev p : Shape
  p = shape_of parts

  named_one : AreNamed p (first / 2 ^ 23) p0 p1 0 first count
  named_one = named_by missing.near p (first / 2 ^ 23) p0 p1 (HasEntry t1) first count same (λ e. subst (λ (x : TableParts). AreNamed (shape_of x) (first / 2 ^ 23) p0 p1 0 first count) same1 (named e)) entries

  entries_one : EachRun p p1 (HasEntry t2) 0 first count
  entries_one = each_map p p1 (HasEntry t1) (HasEntry t2) (entry_kept t1 t2 keeps2) 0 first count (entries_named p (first / 2 ^ 23) p0 p1 t1 first count named_one entries)

  hand_one : missing.near ≡ false → EachRun p p1 (InChunk (first / 2 ^ 23) (HasBits t2)) 0 first count
  hand_one e = subst (λ (x : TableParts). EachRun (shape_of x) p1 (InChunk (first / 2 ^ 23) (HasBits t2)) 0 first count) same1 (hand e)

  entry_one : missing.near ≡ true → has_place (page_place (entry_place parts (bitmap_entry_of p first))) t2.pending ≡ true
  entry_one e = subst (λ (x : TableParts). has_place (page_place (entry_place x (bitmap_entry_of (shape_of x) first))) t2.pending ≡ true) same1 (entry e)

  pub brings_one : (first + count - 1) / 2 ^ 23 ≡ first / 2 ^ 23 → Brings parts missing first count t2 p0 p1
  brings_one one = record {
    entries = entries_one;
    near = hand_one;
    far = λ on e. absurd (on one);
    near_entry = entry_one;
    far_entry = λ on e. absurd (on one);
    mid = p1;
    first_named = named_one;
    then_named = named_same p ((first + count - 1) / 2 ^ 23) p1 (HasEntry t2) 0 first count entries_one;
  }

  module _ (t3 : Tables) (p2 : List Plan) (same2 : t2.parts ≡ parts) (keeps3 : KeepsPending t2 t3) (then_same : missing.far ≡ true → p2 ≡ p1)
      (then_named : missing.far ≡ false → AreNamed (shape_of t2.parts) ((first + count - 1) / 2 ^ 23) p1 p2 0 first count) where
    named_two : AreNamed p ((first + count - 1) / 2 ^ 23) p1 p2 0 first count
    named_two = named_by missing.far p ((first + count - 1) / 2 ^ 23) p1 p2 (HasEntry t2) first count then_same (λ e. subst (λ (x : TableParts). AreNamed (shape_of x) ((first + count - 1) / 2 ^ 23) p1 p2 0 first count) same2 (then_named e)) entries_one

    pub names_two : (file : List ℕ) → GoesOn first count → EachRun p p1 (InChunk (first / 2 ^ 23) (NamesBitmap p file)) 0 first count → EachRun p p2 (InChunk (first / 2 ^ 23) (NamesBitmap p file)) 0 first count
    names_two file on h = other_chunk p (first / 2 ^ 23) ((first + count - 1) / 2 ^ 23) p1 p2 (NamesBitmap p file) first count on named_two h

    pub brings_two : GoesOn first count → (missing.far ≡ false → EachRun (shape_of t2.parts) p2 (InChunk ((first + count - 1) / 2 ^ 23) (HasBits t3)) 0 first count)
        → (missing.far ≡ true → has_place (page_place (entry_place t2.parts (bitmap_entry_of (shape_of t2.parts) (first + count - 1)))) t3.pending ≡ true) → Brings parts missing first count t3 p0 p2
    brings_two on far far_entry = record {
      entries = each_map p p2 (HasEntry t2) (HasEntry t3) (entry_kept t2 t3 keeps3) 0 first count (entries_named p ((first + count - 1) / 2 ^ 23) p1 p2 t2 first count named_two entries_one);
      near = λ e. other_chunk p (first / 2 ^ 23) ((first + count - 1) / 2 ^ 23) p1 p2 (HasBits t3) first count on named_two
          (each_map p p1 (InChunk (first / 2 ^ 23) (HasBits t2)) (InChunk (first / 2 ^ 23) (HasBits t3)) (λ s n plan h c. bits_kept t2 t3 keeps3 s n plan (h c)) 0 first count (hand_one e));
      far = λ o e. subst (λ (x : TableParts). EachRun (shape_of x) p2 (InChunk ((first + count - 1) / 2 ^ 23) (HasBits t3)) 0 first count) same2 (far e);
      near_entry = λ e. keeps3.keeps _ (entry_one e);
      far_entry = λ o e. subst (λ (x : TableParts). has_place (page_place (entry_place x (bitmap_entry_of (shape_of x) (first + count - 1)))) t3.pending ≡ true) same2 (far_entry e);
      mid = p1;
      first_named = named_one;
      then_named = named_two;
    }

  -- the names of the other chunk's bitmap blocks stay through the first one's
  pub names_on : (file : List ℕ) → GoesOn first count → EachRun p p0 (InChunk ((first + count - 1) / 2 ^ 23) (NamesBitmap p file)) 0 first count → EachRun p p1 (InChunk ((first + count - 1) / 2 ^ 23) (NamesBitmap p file)) 0 first count
  names_on file on h = other_chunk p ((first + count - 1) / 2 ^ 23) (first / 2 ^ 23) p0 p1 (NamesBitmap p file) first count (λ e. on (sym e)) named_one h

-- the same of tables that hold the same
pub names_of : (parts other : TableParts) (plans : List Plan) (chunk : ℕ) (file now : List ℕ) (first count : ℕ) → other ≡ parts → now ≡ file
    → EachRun (shape_of parts) plans (InChunk chunk (NamesBitmap (shape_of parts) file)) 0 first count → EachRun (shape_of other) plans (InChunk chunk (NamesBitmap (shape_of other) now)) 0 first count
names_of parts other plans chunk file now first count e f h =
    subst (λ (x : TableParts). EachRun (shape_of x) plans (InChunk chunk (NamesBitmap (shape_of x) now)) 0 first count) (sym e) (subst (λ z. EachRun (shape_of parts) plans (InChunk chunk (NamesBitmap (shape_of parts) z)) 0 first count) (sym f) h)

pub keeps_of : (old new : Tables) (disk : Disk) → HasBrought old new disk → KeepsPending old new
keeps_of old new disk h = record { parts_are = h.parts_are; keeps = h.keeps }
