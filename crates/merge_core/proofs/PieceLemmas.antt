-- Pieces as sectors.
use Rattle.std.proofs.Common.{◌≡◌, ℕ, ◌+◌, ◌-◌, ◌*◌, ◌^◌, ◌/◌, ◌%◌, ◌<◌, ◌≤◌, ◌⊎◌, ◌==◌, ◌&&◌, Bool, true, false, List, length, take, drop, ◌++◌, Option, Some, None, refl, sym, ap, subst, ◌∙◌, arith, inl, inr, mul_comm, if◌then◌else◌}
use Rattle.std.specs.Prelude.{Err, Ok, OnErr, OnOk, Result, is_ok, is_some, nat_le, nat_lt}
use Rattle.std.specs.Option.{option_or}
use Rattle.std.proofs.Math.Nat.{add-mul, div-eq_of_lt-le}
use Rattle.std.proofs.lemmas.Bool.{and_from, cases_lt, le-leb, lt-ltb}
use Rattle.std.proofs.lemmas.Nat.{div-add-mod', mod_below, pow-add}
use Rattle.std.proofs.lemmas.List.{drop-take, take-take}
use Rattle.vhdx_format.proofs.Placed.{bytes_within}
use Rattle.vx_base.specs.Fields.{bytes_at}
use Rattle.vhdx_format.specs.SectorBitmaps.{HasRunSet, bit_of, is_within}
use Rattle.vx_base.specs.declared.parts.Geometry.{Geometry}
use Rattle.vhdx_format.specs.AllocationTables.{IsBlockSize, IsSectorSize}
use Rattle.vhdx_format.specs.Layers.{Shape}
use Rattle.vhdx_format.proofs.SizeLemmas.{block_least, block_power, sector_cases}
use Rattle.store_model.specs.Disk.{Disk, WhereBothTold}
use Rattle.store_model.specs.Trace.{Trace}
use Rattle.chain_model.specs.Layers as chain
use Rattle.chain_model.specs.Layers.{over}
use Rattle.layer_session.specs.Calls.{OnBroken, is_among}
use Rattle.chain_model.specs.Stripes.{per_stripe}
use Rattle.layer_session.specs.FileLayers.{FileCanBeRead, Holds, IsReadableFile, table_parts}
use Rattle.layer_session.specs.Laws.{NoneFound, told_sector}
use Rattle.layer_session.specs.Masked.{HasPutNamed, HoldsUnnamed, PutsNamed, is_masked, with_masked}
use Rattle.layer_session.specs.declared.file.Layer.{Layer}
use Rattle.layer_session.proofs.Alike.{not_true}
use Rattle.layer_session.proofs.Beside.{among}
use Rattle.layer_session.proofs.BlockRuns.{rest_of}
use Rattle.layer_session.proofs.Payload.{within}
use Rattle.layer_session.specs.declared.file.LayerFault.{LayerFault}
use Rattle.layer_session.specs.declared.file.LayerFault.TheVariants.{FileFull, Write, Read as ReadFault}
use Rattle.layer_session.specs.declared.file_layer.FileLayer.{FileLayer}
use Rattle.layer_session.specs.declared.file_layer.FileLayer.TheVariants.{Session, Read}
use Rattle.merge_core.specs.Pieces.{HasPutPiece, HoldsBesidePiece, IsTaken, PutsPiece, Tells, has_sector, sectors_of}
use Rattle.merge_core.specs.Ranges.{range_count}
use Rattle.merge_core.specs.declared.piece.Piece.{Piece}

-- the one for the other, where both are told
told_map : (R Q : Trace → Trace → Type 0) (a b : Option Trace) → WhereBothTold R a b → ((t u : Trace) → R t u → Q t u) → WhereBothTold Q a b
told_map R Q None None r f = tt
told_map R Q None (Some v) r f = absurd r
told_map R Q (Some t) None r f = absurd r
told_map R Q (Some t) (Some v) r f = f t v r

-- ---- bytes

-- the first bytes of more
pub bytes_of_first : (bytes : List ℕ) (m at n : ℕ) → at + n ≤ m → bytes_at (take m bytes) at n ≡ bytes_at bytes at n
unfolding bytes_at
bytes_of_first bytes m at n fits =
    ap (λ k. take n (drop at (take k bytes))) (let e : m ≡ at + (m - at) = omega (arith, fits) in e) ∙ ap (take n) (drop-take at (m - at) bytes) ∙ take-take n (m - at) (drop at bytes) (omega (arith, fits))

-- a sector of so many lies within their bytes
pub row_fits : (z n count : ℕ) → n < count → z * n + z ≤ z * count
row_fits z n count l =
    let split : z * count ≡ z * n + z + (count - (n + 1)) * z = mul_comm z count ∙ ap (λ k. k * z) (let e : count ≡ n + 1 + (count - (n + 1)) = omega (arith, l) in e) ∙ add-mul (n + 1) (count - (n + 1)) z
    ∙ ap (λ k. k + (count - (n + 1)) * z) (add-mul n 1 z ∙ (let e : n * z + 1 * z ≡ z * n + z = let c = mul_comm n z in omega (arith, c) in e)) in
    omega (arith, split)

-- none was found where bits are cleared
pub none_found : (count : ℕ) (old new : List ℕ) → count ≤ 8 * length old → HasRunSet old new 0 count false → NoneFound count 0 new
none_found count old new fits run i below =
    let e : is_within 0 count (0 + i) ≡ true = and_from (nat_le 0 (0 + i)) (nat_lt (0 + i) (0 + count)) (le-leb 0 (0 + i) (omega arith)) (lt-ltb (0 + i) (0 + count) (omega (arith, below))) in
    run (0 + i) (omega (arith, below, fits)) ∙ rw e refl

-- what mask and bytes tell hangs on the sectors' bytes alone
pub told_more : (z i : ℕ) (mask bytes rest : List ℕ) → z * i + z ≤ length bytes → told_sector z 0 mask bytes i ≡ told_sector z 0 mask (bytes ++ rest) i
told_more z i mask bytes rest fits = ap (λ b. if bit_of mask (0 + i) == 1 then Some b else None) (sym (bytes_within bytes rest (z * i) z fits))

-- ---- what is taken

-- a sector is one of a stripe's exactly where it lies in its range
in_stripe : (per stripe s : ℕ) → 0 < per → stripe * per ≤ s → s < stripe * per + per → s / per ≡ stripe
in_stripe per stripe s some from to = div-eq_of_lt-le per from (let e : (stripe + 1) * per ≡ stripe * per + per = add-mul stripe 1 per ∙ (let k : stripe * per + 1 * per ≡ stripe * per + per = omega arith in k) in omega (arith, e, to))

of_stripe : (per stripe s : ℕ) → 0 < per → s / per ≡ stripe → (stripe * per ≤ s) × (s < stripe * per + per)
of_stripe per stripe s some e =
    let all : s / per * per + s % per ≡ s = div-add-mod' s per in
    let less : s % per < per = mod_below s per some in
    let row : s / per * per ≡ stripe * per = ap (λ n. n * per) e in
    (omega (arith, all, row), omega (arith, all, row, less))

pub is_taken : (z sectors stripe stamp first count : ℕ) (mask bytes : List ℕ) (layer : chain.Layer) → 0 < per_stripe z → first ≡ stripe * per_stripe z → count ≡ range_count stripe z sectors → first + count ≤ sectors
    → ((s : ℕ) → sectors ≤ s → layer s ≡ None) → Tells z first count layer mask bytes
    → IsTaken z layer (record { stripe = stripe; stamp = stamp; sectors = λ s. if is_among first count s then told_sector z 0 mask bytes (s - first) else None })
is_taken z sectors stripe stamp first count mask bytes layer some first_is count_is within_disk off tells = record {
  within = λ s ne. let out : is_among first count s ≡ false = not_true _ (λ among. let v = within first count s among in let from = v.0 in let to = v.1 in ne (in_stripe (per_stripe z) stripe s some (omega (arith, from, first_is)) (omega (arith, to, first_is, count_is)))) in rw out refl;
  taken = λ s e. by_place s (of_stripe (per_stripe z) stripe s some e) (cases_lt s sectors);
}
  where
    by_place : (s : ℕ) → (stripe * per_stripe z ≤ s) × (s < stripe * per_stripe z + per_stripe z) → (s < sectors) ⊎ (sectors ≤ s) → (if is_among first count s then told_sector z 0 mask bytes (s - first) else None) ≡ layer s
    by_place s (from, to) (inl below) =
        let here : is_among first count s ≡ true = among first count s (omega (arith, from, first_is)) (omega (arith, to, below, first_is, count_is)) in
        let place : first + (s - first) ≡ s = omega (arith, from, first_is) in
        let told : layer (first + (s - first)) ≡ told_sector z 0 mask bytes (s - first) = tells.tells (s - first) (omega (arith, from, to, below, first_is, count_is)) in
        let left : (if is_among first count s then told_sector z 0 mask bytes (s - first) else None) ≡ told_sector z 0 mask bytes (s - first) = rw here refl in
        left ∙ sym told ∙ ap layer place
    by_place s (from, to) (inr above) =
        let out : is_among first count s ≡ false = not_true _ (λ among. let v = within first count s among in let last = v.1 in omega (arith, last, above, within_disk)) in
        let left : (if is_among first count s then told_sector z 0 mask bytes (s - first) else None) ≡ None = rw out refl in
        left ∙ sym (off s above)

-- what a file holds lies on its disk
pub holds_off : (l : FileLayer) (trace : Trace) (layer : chain.Layer) → Holds l trace layer → (s : ℕ) → (table_parts l).sectors ≤ s → layer s ≡ None
holds_off (Session l) trace layer h s above = h.1.has.off_disk s (subst (λ (p : Shape). p.sectors ≤ s) h.1.shape above)
holds_off (Read l) trace layer h s above = ap (λ (f : chain.Layer). f s) (sym h.1.1) ∙ h.1.0.as_held.has.off_disk s (subst (λ (p : Shape). p.sectors ≤ s) h.1.0.as_held.shape above)

-- the sectors of a file that can be read
pub sector_size : (l : FileLayer) (disk : Disk) (geometry : Geometry) → IsReadableFile geometry disk l → IsSectorSize geometry.sector
sector_size l disk geometry r = subst IsSectorSize r.sector (has_size l r.can)
  where
    has_size : (l : FileLayer) → FileCanBeRead l disk → IsSectorSize (table_parts l).sector
    has_size (Session l) can = can.sizes.sector
    has_size (Read l) can = can.sizes.sector

-- and all of its disk's bytes
pub disk_size : (l : FileLayer) (disk : Disk) (geometry : Geometry) → IsReadableFile geometry disk l → geometry.sectors * geometry.sector ≤ 2 ^ 46
disk_size l disk geometry r = subst (λ n. n * geometry.sector ≤ 2 ^ 46) r.sectors (subst (λ z. (table_parts l).sectors * z ≤ 2 ^ 46) r.sector (has_most l r.can))
  where
    has_most : (l : FileLayer) → FileCanBeRead l disk → (table_parts l).sectors * (table_parts l).sector ≤ 2 ^ 46
    has_most (Session l) can = can.sizes.most
    has_most (Read l) can = can.sizes.most

-- a stripe has some sectors
pub some_sectors : (l : FileLayer) (disk : Disk) (geometry : Geometry) → IsReadableFile geometry disk l → 0 < per_stripe geometry.sector
some_sectors l disk geometry r = by_size (sector_cases geometry.sector (sector_size l disk geometry r))
  where
    by_size : (geometry.sector ≡ 512) ⊎ (geometry.sector ≡ 4096) → 0 < per_stripe geometry.sector
    by_size (inl e) = subst (λ z. 0 < per_stripe z) (sym e) (omega arith)
    by_size (inr e) = subst (λ z. 0 < per_stripe z) (sym e) (omega arith)

-- and a mask has a bit for each of them
pub few_sectors : (z : ℕ) → IsSectorSize z → per_stripe z ≤ 2048
few_sectors z size = by_size (sector_cases z size)
  where
    by_size : (z ≡ 512) ⊎ (z ≡ 4096) → per_stripe z ≤ 2048
    by_size (inl e) = subst (λ z. per_stripe z ≤ 2048) (sym e) (omega arith)
    by_size (inr e) = subst (λ z. per_stripe z ≤ 2048) (sym e) (omega arith)

-- ---- what is put

-- the piece's sectors are those that its mask names
pub same_named : (piece : Piece) → is_masked piece.first piece.count 0 piece.mask.items ≡ has_sector piece
same_named piece = λ i s. by_tests (is_among piece.first piece.count s) (bit_of piece.mask.items (0 + (s - piece.first)) == 1) (bytes_at piece.bytes.items (piece.sector * (s - piece.first)) piece.sector) i
  where
    by_tests : (a b : Bool) (x : List ℕ) → (a && b) ≡ is_some (if a then (if b then Some x else None) else None)
    by_tests true true x = refl
    by_tests true false x = refl
    by_tests false b x = refl

-- and what is put is the piece on top of the layer
pub same_over : (piece : Piece) (z : ℕ) (bytes : List ℕ) → piece.sector ≡ z → bytes ≡ take (z * piece.count) piece.bytes.items → with_masked z piece.first piece.count 0 piece.mask.items bytes ≡ over (sectors_of piece)
same_over piece z bytes size is = λ i layer s. one layer s i
  where
    here : (s : ℕ) → is_among piece.first piece.count s ≡ true → bytes_at bytes (z * (s - piece.first)) z ≡ bytes_at piece.bytes.items (piece.sector * (s - piece.first)) piece.sector
    here s among =
        let v = within piece.first piece.count s among in
        let from = v.0 in
        let to = v.1 in
        ap (λ b. bytes_at b (z * (s - piece.first)) z) is ∙ bytes_of_first piece.bytes.items (z * piece.count) (z * (s - piece.first)) z (row_fits z (s - piece.first) piece.count (omega (arith, from, to)))
        ∙ ap (λ k. bytes_at piece.bytes.items (k * (s - piece.first)) k) (sym size)

    by_tests : (a b : Bool) (x y : List ℕ) (o : Option (List ℕ)) → (a ≡ true → x ≡ y) → (if (a && b) then Some x else o) ≡ option_or (if a then (if b then Some y else None) else None) o
    by_tests true true x y o f = ap Some (f refl)
    by_tests true false x y o f = refl
    by_tests false b x y o f = refl

    one : (layer : chain.Layer) (s : ℕ) → with_masked z piece.first piece.count 0 piece.mask.items bytes layer s ≡ over (sectors_of piece) layer s
    one layer s = by_tests (is_among piece.first piece.count s) (bit_of piece.mask.items (0 + (s - piece.first)) == 1) (bytes_at bytes (z * (s - piece.first)) z) (bytes_at piece.bytes.items (piece.sector * (s - piece.first)) piece.sector) (layer s) (here s)

pub piece_moments : (l : Layer) (piece : Piece) (a b : Option Trace) → WhereBothTold (PutsNamed l (is_masked piece.first piece.count 0 piece.mask.items)) a b → WhereBothTold (PutsPiece l piece) a b
piece_moments l piece a b h =
    told_map (PutsNamed l (has_sector piece)) (PutsPiece l piece) a b (subst (λ (n : ℕ → Bool). WhereBothTold (PutsNamed l n) a b) (same_named piece) h) (λ t u k. record { over = k.over })

pub piece_put : (l new : Layer) (piece : Piece) (z : ℕ) (bytes : List ℕ) → piece.sector ≡ z → bytes ≡ take (z * piece.count) piece.bytes.items → (a b : Option Trace)
    → WhereBothTold (HasPutNamed l new (is_masked piece.first piece.count 0 piece.mask.items) (with_masked z piece.first piece.count 0 piece.mask.items bytes)) a b → WhereBothTold (HasPutPiece l new piece) a b
piece_put l new piece z bytes size is a b h =
    told_map (HasPutNamed l new (has_sector piece) (over (sectors_of piece))) (HasPutPiece l new piece) a b
    (subst (λ (n : ℕ → Bool). WhereBothTold (HasPutNamed l new n (over (sectors_of piece))) a b) (same_named piece)
    (subst (λ (f : chain.Layer → chain.Layer). WhereBothTold (HasPutNamed l new (is_masked piece.first piece.count 0 piece.mask.items) f) a b) (same_over piece z bytes size is) h)) (λ t u k. record { serves = k.serves })

pub piece_rest : (l new : Layer) (piece : Piece) (a b : Option Trace) → WhereBothTold (HoldsUnnamed l new (is_masked piece.first piece.count 0 piece.mask.items)) a b → WhereBothTold (HoldsBesidePiece l new piece) a b
piece_rest l new piece a b h =
    told_map (HoldsUnnamed l new (has_sector piece)) (HoldsBesidePiece l new piece) a b (subst (λ (n : ℕ → Bool). WhereBothTold (HoldsUnnamed l new n) a b) (same_named piece) h)
    (λ t u k. record { holds = λ file serves. let h = k.holds file serves in (h.0, (h.1.0, h.1.1, λ s none. h.1.2 s (ap is_some none))) })

-- ---- answers

pub on_ok : {T E : Type 0} (r : Result T E) (P Q : Type 0) → (P → Q) → OnOk r P → OnOk r Q
on_ok (Ok x) P Q f p = f p
on_ok (Err e) P Q f p = tt

pub on_broken : {T : Type 0} (r : Result T LayerFault) (P Q : Type 0) → (P → Q) → OnBroken r P → OnBroken r Q
on_broken (Ok x) P Q f p = tt
on_broken (Err (ReadFault fault)) P Q f p = tt
on_broken (Err (Write fault)) P Q f p = f p
on_broken (Err (FileFull next)) P Q f p = tt

-- whether it was read whole
pub ok_filled : {T E : Type 0} (r : Result T E) (filled : Bool) → filled ≡ is_ok r → OnOk r (filled ≡ true)
ok_filled (Ok x) filled e = e
ok_filled (Err x) filled e = tt

pub err_empty : {T E : Type 0} (r : Result T E) (filled : Bool) → filled ≡ is_ok r → OnErr r (filled ≡ false)
err_empty (Ok x) filled e = tt
err_empty (Err x) filled e = e

-- a piece's sectors lie in one block, which has some stripes whole
pub piece_in_block : (z block stripe first count : ℕ) → IsBlockSize block → first * z ≡ stripe * 2 ^ 20 → z * count ≤ 2 ^ 20 → first * z % block + count * z ≤ block
piece_in_block z block stripe first count sized place few =
    let b = block_power block sized in
    let per : ℕ = 2 ^ b.power in
    let is : block ≡ per * 2 ^ 20 = b.is ∙ pow-add 2 20 b.power ∙ mul_comm (2 ^ 20) per in
    let any : 0 < per = omega (arith, is, block_least block sized) in
    let rest : stripe * 2 ^ 20 % block ≡ stripe % per * 2 ^ 20 = rest_of (2 ^ 20) block per (record { block_is = is; some = omega arith; any = any }) stripe in
    let begins : first * z % block ≡ stripe % per * 2 ^ 20 = ap (λ n. n % block) place ∙ rest in
    let below : stripe % per < per = mod_below stripe per any in
    let swap : z * count ≡ count * z = mul_comm z count in
    omega (arith, begins, below, is, swap, few)
