-- A place that was left, and whose leaving was committed, is taken again: it is nobody's.
use Rattle.std.proofs.Common.{◌≡◌, ℕ, zero, suc, ◌+◌, ◌*◌, ◌<◌, ◌≤◌, ◌⊎◌, true, All, List, [], ◌∷◌, ◌++◌, length, get_or, refl, sym, subst, arith, inl, inr}
use Rattle.std.proofs.Math.Nat.{add-mul, mul-le-mul_right}
use Rattle.vhdx_format.specs.Fields.{megabyte}
use Rattle.vhdx_format.specs.HeldBlocks.{Area}
use Rattle.store_model.specs.File.{seen}
use Rattle.store_model.specs.Trace.{Trace, file_of}
use Rattle.table_pages.specs.Held.{held}
use Rattle.block_alloc.specs.declared.freed.Freed.{Freed}
use Rattle.block_alloc.specs.Spaces.{IsApart, IsApartFrom, Space}
use Rattle.chain_model.specs.Images.{Placed}
use Rattle.layer_session.specs.declared.file.Layer.{Layer}
use Rattle.layer_session.specs.Keeping.{HasSpace, IsNobodys, IsPlaced, Serves, area_of}
use Rattle.layer_session.specs.Taking.{IsUnused}

-- the layer with another space
abbrev pub with_space : Layer → Space → Layer
with_space l space = record l { space = space }

unfoldable pub spaced_serves : (l : Layer) (trace : Trace) (file : Placed) (space : Space) (serves : Serves l trace file) → HasSpace (with_space l space) serves.parts serves.bytes (seen (file_of trace file.number)) → Serves (with_space l space) trace file
spaced_serves l trace file space serves h = record {
  within = serves.within;
  number = serves.number;
  name = serves.name;
  parts = serves.parts;
  header = serves.header;
  ties = serves.ties;
  metadata = serves.metadata;
  as_held = record {
    sizes = serves.as_held.sizes;
    shape = serves.as_held.shape;
    region = serves.as_held.region;
    most = serves.as_held.most;
    pages = serves.as_held.pages;
    numbers = serves.as_held.numbers;
    sound = serves.as_held.sound;
    of_tables = serves.as_held.of_tables;
    has = serves.as_held.has;
  };
  bytes = serves.bytes;
  tables = serves.tables;
  written = serves.written;
  running = serves.running;
  committed = serves.committed;
  covered = serves.covered;
  clean = serves.clean;
  covered_held = serves.covered_held;
  only = serves.only;
  changed = serves.changed;
  kept = serves.kept;
  can = serves.can;
  beside = serves.beside;
  space = h;
}

-- ranges of units that stand apart do so in bytes
in_bytes : (at units : ℕ) (f : Freed) → IsApart at units f → ((area_of f).at + (area_of f).len ≤ at * megabyte) ⊎ (at * megabyte + units * megabyte ≤ (area_of f).at)
in_bytes at units f (inl l) =
    let e : (at + units) * megabyte ≡ at * megabyte + units * megabyte = add-mul at units megabyte in
    let m : (at + units) * megabyte ≤ f.at * megabyte = mul-le-mul_right megabyte l in inr (omega (arith, e, m))
in_bytes at units f (inr l) =
    let e : (f.at + f.units) * megabyte ≡ f.at * megabyte + f.units * megabyte = add-mul f.at f.units megabyte in
    let m : (f.at + f.units) * megabyte ≤ at * megabyte = mul-le-mul_right megabyte l in inl (omega (arith, e, m))

pub all_apart : (at units : ℕ) (fs : List Freed) → IsApartFrom at units fs → All (λ (f : Freed). ((area_of f).at + (area_of f).len ≤ at * megabyte) ⊎ (at * megabyte + units * megabyte ≤ (area_of f).at)) fs
unfolding IsApartFrom
all_apart at units [] h zero d b = absurd (omega (arith, b))
all_apart at units [] h (suc k) d b = absurd (omega (arith, b))
all_apart at units (f ∷ fs) h zero d b = in_bytes at units f h.0
all_apart at units (f ∷ fs) h (suc k) d b = all_apart at units fs h.1 k d (omega (arith, b))

-- what holds of all holds without one, and of that one
all_less : (P : Freed → Type 0) (before after : List Freed) (f : Freed) → All P (before ++ (f ∷ after)) → All P (before ++ after) × P f
all_less P [] after f h = (λ k d b. h (suc k) d (omega (arith, b)), h zero f (omega arith))
all_less P (g ∷ before) after f h = by_rest (all_less P before after f (λ k d b. h (suc k) d (omega (arith, b))))
  where
    by_place : All P (before ++ after) → (k : ℕ) (d : Freed) → k < length ((g ∷ before) ++ after) → P (get_or ((g ∷ before) ++ after) k d)
    by_place rest zero d b = h zero d (omega arith)
    by_place rest (suc k) d b = rest k d (omega (arith, b))

    by_rest : All P (before ++ after) × P f → All P ((g ∷ before) ++ after) × P f
    by_rest x = (by_place x.0, x.1)

module _ (l : Layer) (trace : Trace) (file : Placed) (serves : Serves l trace file) (at units : ℕ) (before after : List Freed) (space : Space)
    (freed : l.space.freed ≡ before ++ (record { at = at; units = units; committed = true } ∷ after)) (space_freed : space.freed ≡ before ++ after) (next : space.next ≡ l.space.next)
    (apart : IsApartFrom at units space.freed) where
  abbrev F : List ℕ
  F = seen (file_of trace file.number)

  abbrev f : Freed
  f = record { at = at; units = units; committed = true }

  abbrev range : Area
  range = record { at = at * megabyte; len = units * megabyte }

  sp : HasSpace l serves.parts serves.bytes F
  sp = serves.space

  split : (P : Freed → Type 0) → All P l.space.freed → All P space.freed × P f
  split P h = let x = all_less P before after f (subst (All P) freed h) in (subst (All P) (sym space_freed) x.0, x.1)

  space_then : HasSpace (with_space l space) serves.parts serves.bytes F
  space_then = record {
    next = subst (λ n. length F ≤ n * megabyte) (sym next) sp.next;
    tight = subst (λ n. n * megabyte < length F + megabyte) (sym next) sp.tight;
    placed = (split (λ (x : Freed). IsPlaced serves.parts (length F) (area_of x)) sp.placed).0;
    freed = (split (λ (x : Freed). IsNobodys serves.parts (held l.tables.pending F) (area_of x)) sp.freed).0;
    committed = (split (λ (x : Freed). x.committed ≡ true → IsNobodys serves.parts serves.bytes (area_of x)) sp.committed).0;
  }

  pub reused_serves : Serves (with_space l space) trace file
  reused_serves = spaced_serves l trace file space serves space_then

  pub reused_unused : IsUnused (with_space l space) trace file reused_serves range
  unfolding reused_serves spaced_serves
  reused_unused = record {
    placed = (split (λ (x : Freed). IsPlaced serves.parts (length F) (area_of x)) sp.placed).1;
    held = (split (λ (x : Freed). IsNobodys serves.parts (held l.tables.pending F) (area_of x)) sp.freed).1;
    committed = (split (λ (x : Freed). x.committed ≡ true → IsNobodys serves.parts serves.bytes (area_of x)) sp.committed).1 refl;
    spare = all_apart at units space.freed apart;
  }
