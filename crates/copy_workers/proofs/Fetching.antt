-- A worker fetches stripes of the source by a reader of it.
use Rattle.std.proofs.Common.{◌≡◌, ◌∙◌, ◌<◌, ◌+◌, ◌-◌, ◌^◌, ◌≤◌, ℕ, true, false, List, [], length, map, set, get_or, slice_index, Option, Some, None, refl, sym, ap, subst, arith}
use Rattle.std.specs.Prelude.{⊤, All, Err, IfErr, IfSome, Ok, OnOk, Result, is_some, min, nat_lt, option_map, slice_index_or}
use Rattle.std.proofs.Math.Nat.{le-min}
use Rattle.std.proofs.lemmas.List.{get_or-map, get_or-set_same, length-map, length-set, map-set, set-get_or}
use Rattle.std.proofs.lemmas.Simd.{map-map}
use Rattle.store_model.specs.Disk.{Disk, Sealed, SealedReadFailed, WhereTold, reader_of}
use Rattle.store_model.specs.File.{seen}
use Rattle.store_model.specs.Trace.{Trace, file_of}
use Rattle.ledger.specs.declared.ledger.Ledger.{Ledger}
use Rattle.vx_base.specs.declared.parts.Geometry.{Geometry}
use Rattle.chain_model.specs.Layers as chain
use Rattle.chain_model.specs.Stripes.{stripe_count}
use Rattle.table_pages.specs.declared.tables.TableParts.{TableParts}
use Rattle.merge_core.specs.Pieces.{IsTaken, piece_of}
use Rattle.merge_core.specs.declared.piece.Piece.{Piece}
use Rattle.store_model.specs.declared.fault.ReadFault.{ReadFault}
use Rattle.read_plan.specs.Reading.{ReaderFailed, has_failed}
use Rattle.read_plan.proofs.Failing.{has_now, some_lt}
use Rattle.sealed_layer.specs.Planned.{files_in}
use Rattle.sealed_layer.specs.Sealed.{HoldsSealed}
use Rattle.chain_core.specs.Copying.{FitsDisk, Takes}
use Rattle.chain_core.specs.Merging.{IsTrueOf}
use Rattle.chain_core.specs.States.{sector_of}
use Rattle.chain_core.specs.declared.layers.Retiring.{Retiring}
use Rattle.chain_core.specs.Sealed.{IsSealedSource}
use Rattle.chain_core.specs.declared.chain.Chain.{Chain}
use Rattle.chain_core.specs.declared.layers.Layers.{Layers}
use Rattle.chain_core.specs.declared.sealing.SealedSource.{SealedSource}
use Rattle.shared_chain.specs.declared.basis.Basis.{Basis}
use Rattle.shared_chain.specs.declared.basis.Step.{Step}
use Rattle.shared_chain.specs.Stamped.{stamp_behind}
use Rattle.turn_lock.specs.Seats.{Known}
use Rattle.turn_lock.proofs.Fronts.{starts-nothing}
use Rattle.shared_chain.specs.Planned.{IsReaderFor}
use Rattle.copy_workers.proofs.Sealed.{same_self}
use Rattle.copy_workers.specs.Readings.{Reading}
use Rattle.copy_workers.specs.Sources.{AreSameIn, AreSameSources, CanFetch, CanReadStripe, Fetches, HasFetched, HasSource, IsHeld, IsPlaced, IsSameAt, IsSameSource, ReadsSource, TakesBy, TakesFrom, reader_at}
use Rattle.copy_workers.specs.declared.source.Source.{Source}

-- what a reader tells that tells what the file has
told_so : (file : ℕ) (disk : Disk) (content : Option (List ℕ)) (trace : Trace) → content ≡ (reader_of file disk).content → disk.told ≡ Some trace → content ≡ Some (files_in trace file)
told_so file disk content trace same told = same ∙ ap (option_map (λ t. seen (file_of t file))) told

-- ---- the source stays what it is

module _ (layers : Layers) (disk : Disk) (reader : Sealed) (old new : SealedSource) (is : IsSealedSource layers disk old) (same : IsSameSource reader old new) (tells : reader.content ≡ (reader_of old.file disk).content) where
  pub source_on : IsSealedSource layers disk new
  source_on = record {
    file = ap (λ (s : SealedSource). s.file) same.only ∙ is.file;
    geometry = ap (λ (s : SealedSource). s.geometry) same.only ∙ is.geometry;
    stripes = ap (λ (s : SealedSource). s.stripes) same.only ∙ is.stripes;
    alone = is.alone;
    sector = ap (λ (p : TableParts). p.sector) same.sizes ∙ is.sector;
    sectors = ap (λ (p : TableParts). p.sectors) same.sizes ∙ is.sectors;
    can = λ other content. same.can other (content ∙ ap (λ (s : SealedSource). (reader_of s.file disk).content) same.only ∙ sym tells);
    finds = λ piece stamp taken. is.finds piece stamp
        (λ trace told layer h.
        taken trace told layer
        (subst (λ n. HoldsSealed new.layer (files_in trace n) layer) (sym (ap (λ (s : SealedSource). s.file) same.only)) (same.holds layer (files_in trace old.file) (told_so old.file disk reader.content trace tells told) h)));
  }

-- ---- by a worker's readers

module _ {S T : Type 0} (disk : S → Disk) where
  module _ (basis : Basis S T) (readers : List Sealed) (s : Source) (r : ReadsSource disk basis readers s) where
    can_read : CanFetch readers s
    can_read = record {
      there = r.there;
      can = λ d. record {
        can = r.source.can (reader_at readers s d) (r.tells d);
        sector = r.source.sector ∙ ap (λ (g : Geometry). g.sector) (sym r.source.geometry);
        sectors = r.source.sectors ∙ ap (λ (g : Geometry). g.sectors) (sym r.source.geometry);
      };
      stripes = r.source.stripes ∙ ap (λ (g : Geometry). stripe_count g.sector g.sectors) (sym r.source.geometry);
    }

    -- it can be read so after a read
    reads_on : (new : List Sealed) (t : Source) → IsSameAt readers new s t → ReadsSource disk basis new t
    reads_on new t same =
        let one = reader_of s.read.file (disk r.first.store) in
        let only = (same.same one).only in
        record {
          first = r.first;
          began = r.began;
          there = (let at = same.at in let low = same.there in omega (arith, at, low));
          tells = λ d.
              ap (λ i. (slice_index_or new i d).content) same.at ∙ same.tells d ∙ r.tells d
              ∙ ap (λ (x : SealedSource). (reader_of x.file (disk r.first.store)).content) (sym only);
          source = source_on r.first.layers (disk r.first.store) (reader_at readers s one) s.read t.read r.source (same.same one) (r.tells one);
        }

    -- what was read of a stripe is a piece of the session, in which the leaf isn't merged
    held : (seat : Known Step (Basis S T)) (stripe : ℕ) (piece : Piece) → piece.filled ≡ true → TakesBy readers s stripe piece → IsHeld disk seat r.first piece
    held seat stripe piece filled t =
        let one = reader_of s.read.file (disk r.first.store) in
        let taken : Takes r.first.layers (disk r.first.store) (piece_of piece) = r.source.finds (piece_of piece) t.stamp
        (λ trace told layer h.
        subst (λ (g : Geometry). IsTaken g.sector layer (piece_of piece)) r.source.geometry
        (t.taken one layer (files_in trace s.read.file) (told_so s.read.file (disk r.first.store) (reader_at readers s one).content trace (r.tells one) told) h)) in
        record {
          before = [];
          begins = starts-nothing seat.seen;
          recent = λ some. absurd (let never : false ≡ true = sym (ap (λ (o : Option Retiring). is_some o) r.source.alone) ∙ some in cc);
          fetched = record {
            filled = filled;
            fits = subst (λ (g : Geometry). FitsDisk g piece) r.source.geometry t.fits;
            stamp = t.stamp ∙ ap (λ o. stamp_behind o [] piece.stripe) (sym r.source.alone);
            is_true = λ trace told from serving empty. subst (λ h. IsTrueOf (sector_of from) h from.rest (piece_of piece)) empty (taken trace told from serving);
          };
        }

    fetched : (seat : Known Step (Basis S T)) → seat.basis ≡ basis → (stripe : ℕ) (piece : Piece) → (piece.filled ≡ true → TakesBy readers s stripe piece) → HasFetched disk seat stripe piece
    fetched seat same stripe piece takes filled =
        let t = takes filled in
        (t.stripe_is, subst (λ o. IfSome o (λ first. IsHeld disk seat first piece)) (sym (ap (λ (b : Basis S T). b.first) same ∙ r.began)) (held seat stripe piece filled t))

  can_from : (basis : Basis S T) (readers : List Sealed) (source : Option Source) → IfSome source (ReadsSource disk basis readers) → IfSome source (CanFetch readers)
  can_from basis readers None h = tt
  can_from basis readers (Some s) h = can_read basis readers s h

  -- stripes can be fetched by a worker's readers, where one is of the source
  pub can_fetch : (basis : Basis S T) (r : Reading) → HasSource disk basis r → IfSome r.source (CanFetch r.readers)
  can_fetch basis r h = can_from basis r.readers r.source h

  kept_from : (basis : Basis S T) (old new : List Sealed) (source next : Option Source) → IfSome source (ReadsSource disk basis old) → AreSameIn old new source next → IfSome next (ReadsSource disk basis new)
  kept_from basis old new None None h same = tt
  kept_from basis old new None (Some t) h same = absurd same
  kept_from basis old new (Some s) None h same = absurd same
  kept_from basis old new (Some s) (Some t) h same = reads_on basis old s h new t same

  pub source_kept : (basis : Basis S T) (old new : Reading) → HasSource disk basis old → AreSameSources old new → HasSource disk basis new
  source_kept basis old new h same = kept_from basis old.readers new.readers old.source new.source h same

  fetched_from : (seat : Known Step (Basis S T)) (readers : List Sealed) (source : Option Source) (stripe : ℕ) (piece : Piece) → IfSome source (ReadsSource disk seat.basis readers) → (piece.filled ≡ true → TakesFrom readers source stripe piece) → HasFetched disk seat stripe piece
  fetched_from seat readers None stripe piece h takes filled = absurd (takes filled)
  fetched_from seat readers (Some s) stripe piece h takes filled = fetched seat.basis readers s h seat refl stripe piece takes filled

  -- what they fetched of a stripe is a piece of the session
  pub fetched_by : (seat : Known Step (Basis S T)) (r : Reading) (stripe : ℕ) (piece : Piece) → HasSource disk seat.basis r → Fetches stripe r piece → HasFetched disk seat stripe piece
  fetched_by seat r stripe piece h takes = fetched_from seat r.readers r.source stripe piece h takes

  later_from : (old new : Basis S T) (readers : List Sealed) (source : Option Source) → new.first ≡ old.first → IfSome source (ReadsSource disk old readers) → IfSome source (ReadsSource disk new readers)
  later_from old new readers None same h = tt
  later_from old new readers (Some s) same h = record { first = h.first; began = same ∙ h.began; there = h.there; tells = h.tells; source = h.source }

  -- of the session that a seat goes on knowing of
  pub source_later : (old new : Basis S T) (r : Reading) → new.first ≡ old.first → HasSource disk old r → HasSource disk new r
  source_later old new r same h = later_from old new r.readers r.source same h

  placed_from : (first : Chain S Ledger T) (basis : Basis S T) (readers : List Sealed) (given : Option SealedSource) (source : Option Source) → IsPlaced readers given source → basis.first ≡ Some first
      → All (IsReaderFor disk first) readers → IfSome given (IsSealedSource first.layers (disk first.store)) → IfSome source (ReadsSource disk basis readers)
  placed_from first basis readers given None placed began own of = tt
  placed_from first basis readers None (Some s) placed began own of = absurd placed
  placed_from first basis readers (Some x) (Some s) placed began own of = record {
    first = first;
    began = began;
    there = placed.there;
    tells = λ d.
        let one : IsReaderFor disk first (reader_at readers s d) = own s.at d placed.there in
        one.content ∙ ap (λ n. (reader_of n (disk first.store)).content) (placed.file d ∙ ap (λ (y : SealedSource). y.file) (sym placed.read));
    source = subst (IsSealedSource first.layers (disk first.store)) (sym placed.read) of;
  }

  -- a worker's source where it has a reader of that
  pub placed_source : (first : Chain S Ledger T) (basis : Basis S T) (readers : List Sealed) (given : Option SealedSource) (r : Reading) → r.readers ≡ readers → IsPlaced readers given r.source → basis.first ≡ Some first
      → All (IsReaderFor disk first) readers → IfSome given (IsSealedSource first.layers (disk first.store)) → HasSource disk basis r
  placed_source first basis readers given r same placed began own of =
      subst (λ (V : List Sealed). IfSome r.source (ReadsSource disk basis V)) (sym same) (placed_from first basis readers given r.source placed began own of)

-- ---- a reader at its place

-- it tells the same after a read, done or failed
same_content : (old new : Sealed) (result : Result ⊤ ReadFault) → OnOk result (new ≡ old) → IfErr result (SealedReadFailed old new) → new.content ≡ old.content
same_content old new (Ok x) ok err = ap (λ (y : Sealed). y.content) ok
same_content old new (Err e) ok err = ap (λ (y : Sealed). y.content) err.stays

module _ {X : Type 0} (F : X → Sealed) (items : List X) (V : List Sealed) (view : map F items ≡ V) (i : ℕ) where
  -- of this number
  pub is_of : (number : ℕ) → i < length items → slice_index (map (λ x. (F x).file) items) i ≡ number → (i < length V) × ((d : Sealed) → (slice_index_or V i d).file ≡ number)
  is_of number inside found =
      let within : i < length V = subst (λ (v : List Sealed). i < length v) view (let l = length-map items F in omega (arith, inside, l)) in
      let numbers : map (λ (s : Sealed). s.file) V ≡ map (λ x. (F x).file) items = ap (map (λ (s : Sealed). s.file)) (sym view) ∙ map-map (λ (s : Sealed). s.file) F items in
      (within, λ d. sym (get_or-map (λ (s : Sealed). s.file) V i d 0 within) ∙ ap (λ v. get_or v i 0) numbers ∙ found)

  module _ (x : X) (there : i < length V) (at : x ≡ get_or items i x) where
    pub lies_in : i < length items
    lies_in = let size : length V ≡ length items = ap length (sym view) ∙ length-map items F in omega (arith, there, size)

    pub stands : (d : Sealed) → get_or V i d ≡ F x
    stands d = ap (λ v. get_or v i d) (sym view) ∙ get_or-map F items i x d lies_in ∙ ap F (sym at)

    pub as_before : (w : X) → F w ≡ F x → map F (set items i w) ≡ V
    as_before w same = map-set F items i w ∙ ap (λ v. set v i (F w)) view ∙ ap (set V i) (same ∙ sym (stands (F x))) ∙ set-get_or V i (F x)

    pub one_failed : (w : X) (fault : ReadFault) → SealedReadFailed (F x) (F w) fault → ReaderFailed V (map F (set items i w)) fault
    one_failed w fault h = record { i = i; within = there; was = F x; now = F w; is_was = stands (F x); only = map-set F items i w ∙ ap (λ v. set v i (F w)) view; failed = h }

    pub reads_by : (s : Source) → s.at ≡ i → CanFetch V s → CanReadStripe (F x) s.read
    reads_by s is can = subst (λ (y : Sealed). CanReadStripe y s.read) (ap (λ k. get_or V k (F x)) is ∙ stands (F x)) (can.can (F x))

    -- what was taken was by it
    pub takes_here : (s : Source) (stripe : ℕ) (piece : Piece) → s.at ≡ i → piece.stripe ≡ stripe → piece.stamp ≡ 0 → FitsDisk s.read.geometry piece
        → ((layer : chain.Layer) → WhereTold (F x).content (λ bytes. HoldsSealed s.read.layer bytes layer → IsTaken s.read.geometry.sector layer (piece_of piece))) → TakesBy V s stripe piece
    takes_here s stripe piece is stripe_is stamp fits taken = record {
      stripe_is = stripe_is;
      stamp = stamp;
      fits = fits;
      taken = λ d layer. subst (λ (y : Sealed). WhereTold y.content (λ bytes. HoldsSealed s.read.layer bytes layer → IsTaken s.read.geometry.sector layer (piece_of piece))) (sym (ap (λ k. get_or V k d) is ∙ stands d)) (taken layer);
    }

    -- and it is the same source by the same one
    pub same_here : (w : X) (s : Source) (read : SealedSource) → s.at ≡ i → (F w).content ≡ (F x).content → IsSameSource (F x) s.read read → IsSameAt V (map F (set items i w)) s (record s { read = read })
    same_here w s read is content same =
        let W = map F (set items i w) in
        let only : W ≡ set V i (F w) = map-set F items i w ∙ ap (λ v. set v i (F w)) view in
        record {
          at = refl;
          there = (let size : length W ≡ length V = ap length only ∙ length-set V i (F w) in omega (arith, there, size, is));
          tells = λ d. ap (λ k. (get_or W k d).content) is ∙ ap (λ v. (get_or v i d).content) only ∙ ap (λ (y : Sealed). y.content) (get_or-set_same V i (F w) d there) ∙ content ∙ ap (λ (y : Sealed). y.content) (sym (ap (λ k. get_or V k d) is ∙ stands d));
          same = λ d. subst (λ (y : Sealed). IsSameSource y s.read read) (sym (ap (λ k. get_or V k d) is ∙ stands d)) same;
        }

-- what follows of an answer that is an error
pub err_then : {P Q : ReadFault → Type 0} (result : Result ⊤ ReadFault) → ((fault : ReadFault) → P fault → Q fault) → IfErr result P → IfErr result Q
err_then (Ok x) f h = tt
err_then (Err e) f h = f e h

-- ---- the one of a source that was found

pub none_placed : (readers : List Sealed) (given : Option SealedSource) (source : Option Source) → source ≡ None → IsPlaced readers given source
none_placed readers given source none = subst (IsPlaced readers given) (sym none) tt

pub one_placed : (readers : List Sealed) (given : Option SealedSource) (source : Option Source) (s : Source) → given ≡ Some s.read → source ≡ Some s → (s.at < length readers) × ((d : Sealed) → (slice_index_or readers s.at d).file ≡ s.read.file) → IsPlaced readers given source
one_placed readers given source s given_is source_is there =
    subst (λ o. IsPlaced readers o source) (sym given_is) (subst (IsPlaced readers (Some s.read)) (sym source_is) (record { read = refl; there = there.0; file = there.1 }))

-- ---- reading by it

module _ {X : Type 0} (F : X → Sealed) (items : List X) (r : Reading) (source : Option Source) (s : Source) (view : record { readers = map F items; source = source } ≡ r) (is : source ≡ Some s) (can : IfSome r.source (CanFetch r.readers)) where
  readers_are : map F items ≡ r.readers
  readers_are = ap (λ (x : Reading). x.readers) view

  source_is : r.source ≡ Some s
  source_is = ap (λ (x : Reading). x.source) (sym view) ∙ is

  can_here : CanFetch r.readers s
  can_here = subst (λ o. IfSome o (CanFetch r.readers)) source_is can

  same_one : (V : List Sealed) (read : SealedSource) → IsSameAt r.readers V s (record s { read = read }) → (x : Reading) → x ≡ record { readers = V; source = Some (record s { read = read }) } → AreSameSources r x
  same_one V read same x x_is = subst (AreSameSources r) (sym x_is) (subst (λ o. AreSameIn r.readers V o (Some (record s { read = read }))) (sym source_is) same)

  -- nothing was read
  pub not_read : (x : Reading) → x ≡ record { readers = map F items; source = Some s } → AreSameSources r x
  not_read = same_one (map F items) s.read
      (subst (λ (V : List Sealed). IsSameAt r.readers V s s) (sym readers_are)
      (record { at = refl; there = can_here.there; tells = λ d. refl; same = λ d. same_self (reader_at r.readers s d) s.read (can_here.can d) }))

  module _ (x : X) (at : x ≡ get_or items s.at x) where
    pub can_by : CanReadStripe (F x) s.read
    can_by = reads_by F items r.readers readers_are s.at x can_here.there at s refl can_here

    pub stripe_of : (stripe : ℕ) → stripe < s.read.stripes → stripe < stripe_count s.read.geometry.sector s.read.geometry.sectors
    stripe_of stripe low = subst (λ n. stripe < n) can_here.stripes low

    pub as_it_was : (w : X) → F w ≡ F x → map F (set items s.at w) ≡ r.readers
    as_it_was = as_before F items r.readers readers_are s.at x can_here.there at

    pub failed_there : (w : X) (fault : ReadFault) → SealedReadFailed (F x) (F w) fault → ReaderFailed r.readers (map F (set items s.at w)) fault
    failed_there = one_failed F items r.readers readers_are s.at x can_here.there at

    pub taken_by : (stripe : ℕ) (piece : Piece) → piece.stripe ≡ stripe → piece.stamp ≡ 0 → FitsDisk s.read.geometry piece
        → ((layer : chain.Layer) → WhereTold (F x).content (λ bytes. HoldsSealed s.read.layer bytes layer → IsTaken s.read.geometry.sector layer (piece_of piece))) → Fetches stripe r piece
    taken_by stripe piece stripe_is stamp fits taken filled =
        subst (λ o. TakesFrom r.readers o stripe piece) (sym source_is) (takes_here F items r.readers readers_are s.at x can_here.there at s stripe piece refl stripe_is stamp fits taken)

    pub read_by : (w : X) (read : SealedSource) (result : Result ⊤ ReadFault) → OnOk result (F w ≡ F x) → IfErr result (SealedReadFailed (F x) (F w)) → IsSameSource (F x) s.read read
        → (y : Reading) → y ≡ record { readers = map F (set items s.at w); source = Some (record s { read = read }) } → AreSameSources r y
    read_by w read result ok err same =
        same_one (map F (set items s.at w)) read (same_here F items r.readers readers_are s.at x can_here.there at w s read refl (same_content (F x) (F w) result ok err) same)

-- ---- readers that failed

-- a stripe more that couldn't be fetched
pub failed_on : (old new : List Sealed) (fault : ReadFault) (unfetched more : ℕ) → ReaderFailed old new fault → more ≡ min (unfetched + 1) (2 ^ 64 - 1) → (has_failed new ≡ nat_lt 0 more) × (0 < more)
failed_on old new fault unfetched more failed is =
    let least : 1 ≤ min (unfetched + 1) (2 ^ 64 - 1) = le-min (omega arith) (omega arith) in
    let some : 0 < more = omega (arith, least, is) in
    (has_now old new fault failed ∙ sym (some_lt more some), some)
