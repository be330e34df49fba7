-- Sectors that are read through the layers of a chain's files.
use Rattle.std.proofs.Common.{◌≡◌, ℕ, zero, suc, ◌+◌, ◌*◌, ◌/◌, ◌%◌, ◌<◌, ◌≤◌, List, [], ◌∷◌, ◌++◌, take, drop, length, Result, Ok, Err, refl, sym, ap, subst, ◌∙◌, arith, add-zero}
use Rattle.std.specs.Int.{bit_at}
use Rattle.std.specs.Prelude.{All, Contains, replicate, slice_index, unwrap_or}
use Rattle.std.specs.List.{AllByRecursion}
use Rattle.std.proofs.lemmas.List.{append-nil, drop-drop, drop_more, length-drop, length-take-le, take_all, length-replicate, take-append-drop}
use Rattle.std.proofs.lemmas.List.Elements.{All-contains}
use Rattle.std.proofs.lemmas.Nat.Bits.{bit_at-zero}
use Rattle.std.proofs.Math.Nat.{mul-le-mul_left}
use Rattle.vx_base.specs.Fields.{bytes_at, zeros}
use Rattle.vx_base.specs.declared.parts.Geometry.{Geometry}
use Rattle.vhdx_format.specs.SectorBitmaps.{bit_of}
use Rattle.vhdx_format.proofs.MadeOpen.{zeros_within}
use Rattle.store_model.specs.Disk.{Disk, ReadFailed, WhereTold}
use Rattle.store_model.specs.declared.fault.StoreFault.{StoreFault}
use Rattle.std.specs.Result.{IsErrAnd}
use Rattle.store_model.specs.Trace.{Trace}
use Rattle.guest_model.specs.Calls.{bytes_of}
use Rattle.guest_model.specs.Calls as guest
use Rattle.guest_model.specs.History.{IsSized, sector_at}
use Rattle.chain_model.specs.Images.{members_of}
use Rattle.chain_model.specs.Layers.{Layer, flat, through}
use Rattle.chain_model.specs.Members.{disk_of, layers_of}
use Rattle.chain_model.proofs.Layering.{length-flat, sector_at-flat}
use Rattle.layer_session.specs.Calls.{AddsOwned}
use Rattle.layer_session.specs.ReadOnly.{AreRead, AreReadable, CanRead, IsReadOf, numbers_of}
use Rattle.layer_session.specs.declared.read_layer.ReadLayer.{ReadLayer}
use Rattle.layer_session.proofs.Owned.{layers_are_added}
use Rattle.link_rules.specs.Effects.{IsServed}
use Rattle.link_rules.specs.Lines.{IsLine}
use Rattle.link_rules.specs.declared.linked.LinkedFile.{LinkedFile}
use Rattle.command_base.specs.Causes.{LeavesStore, LeavesStoreBy, meaning_of_chain}
use Rattle.command_base.specs.declared.refusal.ChainRefusal.{ChainRefusal}
use Rattle.command_base.specs.declared.refusal.ChainRefusal.TheVariants as chain
use Rattle.command_base.specs.Commands.{AreLayersFrom, AreOpenedFrom, AreShort, HasGeometry, placed_from}

-- ---- layers

-- one more layer
pub more_layers : (number n : ℕ) (files : List LinkedFile) (layers : List ReadLayer) (file : LinkedFile) (layer : ReadLayer) → n ≡ number + length files
    → AreLayersFrom number files layers → IsReadOf file.parts n layer → AreLayersFrom number (files ++ file ∷ []) (layers ++ layer ∷ [])
more_layers number n [] [] file layer same h r = (subst (λ k. IsReadOf file.parts k layer) (same ∙ add-zero number) r, tt)
more_layers number n [] (l ∷ layers) file layer same h r = absurd h
more_layers number n (f ∷ files) [] file layer same h r = absurd h
more_layers number n (f ∷ files) (l ∷ layers) file layer same h r = (h.0, more_layers (number + 1) n files layers file layer (omega (arith, same)) h.1 r)

-- the files of a line have one geometry
pub one_geometry : (files : List LinkedFile) (geometry : Geometry) → IsLine files → HasGeometry files geometry → AllByRecursion (λ f. f.parts.geometry ≡ geometry) files
one_geometry [] geometry line has = tt
one_geometry (file ∷ []) geometry line has = (has, tt)
one_geometry (file ∷ parent ∷ others) geometry line has = (has, one_geometry (parent ∷ others) geometry line.1 (line.0.geometry ∙ has))

module _ (disk : Disk) (geometry : Geometry) where
  -- they can be read
  pub are_readable : (number total : ℕ) (files : List LinkedFile) (layers : List ReadLayer) → number + length files ≤ total → total ≤ disk.files → AreLayersFrom number files layers
      → WhereTold disk.told (AreOpenedFrom number files) → WhereTold disk.told (AreShort total) → AllByRecursion (λ f. f.parts.geometry ≡ geometry) files → AreReadable geometry disk layers
  are_readable number total [] [] few all h opened short same = tt
  are_readable number total [] (l ∷ layers) few all h opened short same = absurd h
  are_readable number total (f ∷ files) [] few all h opened short same = absurd h
  are_readable number total (f ∷ files) (l ∷ layers) few all h opened short same =
      let can : CanRead l disk = record {
        there = omega (arith, few, all, h.0.number);
        sizes = h.0.sizes;
        told = λ t told. let o = opened t told in (_, h.0.reads t o.0.within (short t told number (omega (arith, few))) o.0.reads);
      } in (
        record { can = can; sector = h.0.sector ∙ ap (λ (g : Geometry). g.sector) same.0; sectors = h.0.sectors ∙ ap (λ (g : Geometry). g.sectors) same.0 },
        are_readable (number + 1) total files layers (omega (arith, few)) all h.1 (λ t told. (opened t told).1) short same.1,
      )

-- and are, where the store tells its content
pub are_read : (trace : Trace) (number total : ℕ) (files : List LinkedFile) (layers : List ReadLayer) → number + length files ≤ total → AreLayersFrom number files layers → AreOpenedFrom number files trace → AreShort total trace
    → AreRead layers trace (placed_from number files trace)
are_read trace number total [] [] few h opened short = tt
are_read trace number total [] (l ∷ layers) few h opened short = absurd h
are_read trace number total (f ∷ files) [] few h opened short = absurd h
are_read trace number total (f ∷ files) (l ∷ layers) few h opened short =
    (h.0.reads trace opened.0.within (short number (omega (arith, few))) opened.0.reads, are_read trace (number + 1) total files layers (omega (arith, few)) h.1 opened.1 short)

-- the file whose read failed is one of the store's
pub failed_there : (geometry : Geometry) (disk : Disk) (layers : List ReadLayer) (file : ℕ) → AreReadable geometry disk layers → Contains (numbers_of layers) file → file < disk.files
failed_there geometry disk layers file readable contains = All-contains (λ n. n < disk.files) (numbers_of layers) file (below layers readable) contains
  where
    below : (layers : List ReadLayer) → AreReadable geometry disk layers → All (λ n. n < disk.files) (numbers_of layers)
    below [] h k d within = absurd (omega (arith, within))
    below (l ∷ layers) h zero d within = h.0.can.there
    below (l ∷ layers) h (suc k) d within = below layers h.1 k d (omega (arith, within))

-- ---- bytes

-- bytes of which each piece is a sector of a disk are those of its sectors
pub same_sectors : (z n first : ℕ) (bytes : List ℕ) (disk : guest.Disk) → length bytes ≡ z * n → first + n ≤ length disk
    → ((i : ℕ) → i < n → bytes_at bytes (z * i) z ≡ sector_at disk (first + i)) → bytes ≡ bytes_of (take n (drop first disk))
unfolding bytes_at
same_sectors z zero first bytes disk len within each = empty bytes (omega (arith, len))
  where
    empty : (xs : List ℕ) → length xs ≡ 0 → xs ≡ []
    empty [] h = refl
    empty (x ∷ xs) h = absurd (omega (arith, h))
same_sectors z (suc n) first bytes disk len within each =
    let start : 0 ≡ z * 0 = omega arith in
    let whole : length bytes ≡ z * (n + 1) = omega (arith, len) in
    let here : take z bytes ≡ sector_at disk first = ap (λ k. take z (drop k bytes)) start ∙ each 0 (omega arith) ∙ ap (sector_at disk) (add-zero first) in
    let rest : drop z bytes ≡ bytes_of (take n (drop (first + 1) disk)) =
    same_sectors z n (first + 1) (drop z bytes) disk (length-drop z bytes ∙ omega (arith, whole)) (omega (arith, within))
    (λ i h.
    let place : z + z * i ≡ z * (i + 1) = omega arith in
    let number : first + (i + 1) ≡ first + 1 + i = omega arith in
    ap (take z) (drop-drop (z * i) z bytes ∙ ap (λ k. drop k bytes) place) ∙ each (i + 1) (omega (arith, h)) ∙ ap (sector_at disk) number) in
    let first_is : drop first disk ≡ sector_at disk first ∷ drop (first + 1) disk = drop_more disk first [] (omega (arith, within)) in
    sym (take-append-drop z bytes) ∙ ap (λ x. x ++ drop z bytes) here ∙ ap (λ x. sector_at disk first ++ x) rest
    ∙ ap (λ d. bytes_of (take (suc n) d)) (sym first_is)

-- a mask of zeros has no bit
none_found : (n i : ℕ) → bit_of (replicate n 0) i ≡ 0
none_found n i = ap (λ b. bit_at b (i % 8)) (zero_at n (i / 8)) ∙ bit_at-zero (i % 8)
  where
    zero_at : (n k : ℕ) → slice_index (replicate n 0) k ≡ 0
    zero_at zero k = refl
    zero_at (suc n) zero = refl
    zero_at (suc n) (suc k) = zero_at n k

zeros_len : (n : ℕ) → length (zeros n) ≡ n
unfolding zeros
zeros_len n = length-replicate n 0

-- sectors of which each has z bytes
sized_from : (z n first : ℕ) (disk : guest.Disk) → first + n ≤ length disk → ((i : ℕ) → i < n → length (sector_at disk (first + i)) ≡ z) → IsSized z (take n (drop first disk))
sized_from z zero first disk within each = λ k d low. absurd (omega (arith, low))
sized_from z (suc n) first disk within each =
    let first_is : drop first disk ≡ sector_at disk first ∷ drop (first + 1) disk = drop_more disk first [] (omega (arith, within)) in
    let here : length (sector_at disk first) ≡ z = ap (λ k. length (sector_at disk k)) (sym (add-zero first)) ∙ each 0 (omega arith) in
    let rest : IsSized z (take n (drop (first + 1) disk)) =
    sized_from z n (first + 1) disk (omega (arith, within))
    (λ i low. let number : first + 1 + i ≡ first + (i + 1) = omega arith in ap (λ k. length (sector_at disk k)) number ∙ each (i + 1) (omega (arith, low))) in
    subst (λ xs. IsSized z (take (suc n) xs)) (sym first_is) (both (sector_at disk first) (take n (drop (first + 1) disk)) here rest)
  where
    both : (s : List ℕ) (xs : guest.Disk) → length s ≡ z → IsSized z xs → IsSized z (s ∷ xs)
    both s xs here rest zero d low = here
    both s xs here rest (suc k) d low = rest k d (omega (arith, low))

-- What was read through all layers into zeros is the disk that is seen through them.
pub found_sectors : (z sectors first count m : ℕ) (layers : List Layer) (mask out : List ℕ) → first + count ≤ sectors
    → AddsOwned (through layers) z first count 0 (replicate m 0) mask (zeros (z * count)) out → out ≡ bytes_of (take count (drop first (flat z sectors layers)))
found_sectors z sectors first count m layers mask out within adds =
    same_sectors z count first out (flat z sectors layers) (adds.len ∙ zeros_len (z * count)) (omega (arith, within, length-flat z sectors layers))
    (λ i below.
    let room : z * (i + 1) ≤ z * count = mul-le-mul_left z (omega (arith, below)) in
    layers_are_added.bytes (through layers) z first count 0 (replicate m 0) mask (zeros (z * count)) out (λ k h. none_found m (0 + k)) adds i below
    ∙ ap (unwrap_or (through layers (first + i))) (zeros_within (z * count) (z * i) z (omega (arith, room))) ∙ sym (sector_at-flat z sectors layers (first + i) (omega (arith, within, below))))

-- and each sector of it has z bytes
found_sized : (z sectors first count m : ℕ) (layers : List Layer) (mask out : List ℕ) → first + count ≤ sectors
    → AddsOwned (through layers) z first count 0 (replicate m 0) mask (zeros (z * count)) out → IsSized z (take count (drop first (flat z sectors layers)))
unfolding bytes_at
found_sized z sectors first count m layers mask out within adds =
    sized_from z count first (flat z sectors layers) (omega (arith, within, length-flat z sectors layers))
    (λ i below.
    let room : z * (i + 1) ≤ z * count = mul-le-mul_left z (omega (arith, below)) in
    let long : length out ≡ z * count = adds.len ∙ zeros_len (z * count) in
    ap (λ (s : List ℕ). length s) (sym
    (layers_are_added.bytes (through layers) z first count 0 (replicate m 0) mask (zeros (z * count)) out (λ k h. none_found m (0 + k)) adds i below
    ∙ ap (unwrap_or (through layers (first + i))) (zeros_within (z * count) (z * i) z (omega (arith, room))) ∙ sym (sector_at-flat z sectors layers (first + i) (omega (arith, within, below)))))
    ∙ length-take-le z (drop (z * i) out) (omega (arith, length-drop (z * i) out, long, room)))

-- the same of a store's files
pub sectors_read : (files : List LinkedFile) (geometry : Geometry) (t : Trace) (first count m : ℕ) (mask old out : List ℕ) → HasGeometry files geometry → first + count ≤ geometry.sectors → old ≡ zeros (geometry.sector * count)
    → AddsOwned (through (layers_of (members_of (placed_from 0 files t)))) geometry.sector first count 0 (replicate m 0) mask old out → out ≡ bytes_of (take count (drop first (disk_of (members_of (placed_from 0 files t)))))
sectors_read [] geometry t first count m mask old out has within zeroed adds = absurd has
sectors_read (f ∷ files) geometry t first count m mask old out has within zeroed adds =
    let layers = layers_of (members_of (placed_from 0 (f ∷ files) t)) in
    found_sectors geometry.sector geometry.sectors first count m layers mask out within (subst (λ o. AddsOwned (through layers) geometry.sector first count 0 (replicate m 0) mask o out) zeroed adds)
    ∙ ap (λ (g : Geometry). bytes_of (take count (drop first (flat g.sector g.sectors layers)))) (sym has)

pub sectors_sized : (files : List LinkedFile) (geometry : Geometry) (t : Trace) (first count m : ℕ) (mask old out : List ℕ) → HasGeometry files geometry → geometry.sector ≡ 512 → first + count ≤ geometry.sectors → old ≡ zeros (geometry.sector * count)
    → AddsOwned (through (layers_of (members_of (placed_from 0 files t)))) geometry.sector first count 0 (replicate m 0) mask old out → IsSized 512 (take count (drop first (disk_of (members_of (placed_from 0 files t)))))
sectors_sized [] geometry t first count m mask old out has sector within zeroed adds = absurd has
sectors_sized (f ∷ files) geometry t first count m mask old out has sector within zeroed adds =
    let layers = layers_of (members_of (placed_from 0 (f ∷ files) t)) in
    let sized = found_sized geometry.sector geometry.sectors first count m layers mask out within (subst (λ o. AddsOwned (through layers) geometry.sector first count 0 (replicate m 0) mask o out) zeroed adds) in
    subst (λ z. IsSized z (take count (drop first (disk_of (members_of (placed_from 0 (f ∷ files) t)))))) sector
    (subst (λ (g : Geometry). IsSized geometry.sector (take count (drop first (flat g.sector g.sectors layers)))) (sym has) sized)

pub served_sector : (files : List LinkedFile) (geometry : Geometry) → All IsServed files → HasGeometry files geometry → geometry.sector ≡ 512
served_sector [] geometry served has = absurd has
served_sector (f ∷ files) geometry served has = sym (ap (λ (g : Geometry). g.sector) has) ∙ (served zero f (omega arith)).sector

-- a read failed
pub read_failed : {A : Type 0} (old new : Disk) (result : Result A ChainRefusal) (fault : StoreFault) → IsErrAnd result (λ e. e ≡ chain.Store fault) → fault.file < old.files → ReadFailed fault.file old new fault → LeavesStore old new result
read_failed old new (Ok x) fault is there failed = absurd is
read_failed old new (Err e) fault is there failed = subst (λ e. LeavesStoreBy old new (meaning_of_chain e)) (sym is) (there, failed)

-- what is left of a list that was lent whole and came back as long
pub lent_whole : (n : ℕ) (out items : List ℕ) → n ≡ length items → length out ≡ length items → take n (out ++ drop (length out) items) ≡ out
lent_whole n out items whole same =
    ap (λ k. take n (out ++ drop k items)) same ∙ ap (λ rest. take n (out ++ rest)) (drop_end items) ∙ ap (take n) (append-nil out) ∙ take_all n out (omega (arith, whole, same))
  where
    drop_end : (xs : List ℕ) → drop (length xs) xs ≡ []
    drop_end [] = refl
    drop_end (x ∷ xs) = drop_end xs

-- the layers of a chain's files can be read, whose lengths were looked at
pub readable_then : (old mid : Disk) (geometry : Geometry) (files : List LinkedFile) (layers lent : List ReadLayer) → mid ≡ old → lent ≡ layers → old.files ≡ length files → AreLayersFrom 0 files layers
    → WhereTold old.told (AreOpenedFrom 0 files) → WhereTold old.told (AreShort (length files)) → IsLine files → HasGeometry files geometry → AreReadable geometry mid lent
readable_then old mid geometry files layers lent same is all h opened short line has =
    subst (λ (d : Disk). AreReadable geometry d lent) (sym same) (subst (AreReadable geometry old) (sym is)
    (are_readable old geometry 0 (length files) files layers (omega arith) (omega (arith, all)) h opened short (one_geometry files geometry line has)))
