-- Layers stay ready once files that are only read were sealed, and where a read of one fails.
use Rattle.std.proofs.Common.{◌≡◌, ◌≢◌, ◌<◌, ℕ, true, List, [], ◌∷◌, length, refl, sym, subst, ◌∙◌}
use Rattle.std.specs.Prelude.{⊤, Option, Some, None, IfSome}
use Rattle.std.specs.List.{AllByRecursion}
use Rattle.vx_base.specs.declared.parts.Geometry.{Geometry}
use Rattle.store_model.specs.Disk.{Disk, WhereBothTold, WhereTold, changed}
use Rattle.store_model.specs.File.{Seal, is_synced}
use Rattle.store_model.specs.Trace.{Trace, file_of, with_change}
use Rattle.chain_model.specs.Images.{Placed}
use Rattle.layer_session.specs.Calls.{IsBeside, own_file}
use Rattle.layer_session.specs.FileLayers.{AreOthers, AreReadyFiles, FileIsReady, FileTurns, file_numbers, number_of}
use Rattle.layer_session.specs.declared.file.Layer.{Layer}
use Rattle.layer_session.specs.declared.file_layer.FileLayer.{FileLayer}
use Rattle.layer_session.specs.declared.file_layer.FileLayer.TheVariants.{Read, Session}
use Rattle.layer_session.specs.ReadOnly.{IsRead}
use Rattle.layer_session.proofs.FileLayers.{file_layers_stand}
use Rattle.chain_core.specs.Sealed.{AreSynced, CanSeal, read_numbers}
use Rattle.chain_core.specs.Sessions.{AreApart, AreReady, IsReadyLeaf}
use Rattle.chain_core.specs.declared.layers.Layers.{Layers}
use Rattle.chain_core.proofs.SealedServing.{IsApartFrom, IsReadBy, has_still}
use Rattle.chain_core.proofs.SealedTraces.{beside_told, synced_still, told_still}
use Rattle.chain_core.proofs.Turning.{AllTurnStill, TopTurnsStill, TurnStill, alike_same, all_resting, relink_same, retires_alike}

-- ---- which numbers

-- the files that are only read are among all
among_all : (P : ℕ → Type 0) (layers : List FileLayer) → AllByRecursion P (file_numbers layers) → AllByRecursion P (read_numbers layers)
among_all P [] h = tt
among_all P (Session l ∷ layers) h = among_all P layers h.1
among_all P (Read l ∷ layers) h = (h.0, among_all P layers h.1)

-- none of the others is the one
apart_from : (n : ℕ) (layers : List FileLayer) → AllByRecursion (λ other. other ≢ n) (file_numbers layers) → AllByRecursion (IsApartFrom n) layers
apart_from n [] h = tt
apart_from n (Session l ∷ layers) h = (h.0, apart_from n layers h.1)
apart_from n (Read l ∷ layers) h = (tt, apart_from n layers h.1)

pub all_both : {A : Type 0} (P Q R : A → Type 0) (xs : List A) → ((x : A) → P x → Q x → R x) → AllByRecursion P xs → AllByRecursion Q xs → AllByRecursion R xs
all_both P Q R [] f h k = tt
all_both P Q R (x ∷ xs) f h k = (f x h.0 k.0, all_both P Q R xs f h.1 k.1)

-- files in sessions are none of those that are only read
below_apart : (layers : List FileLayer) → AreApart (file_numbers layers) → AllByRecursion (λ n. AllByRecursion (IsApartFrom n) layers) (read_numbers layers)
below_apart [] h = tt
below_apart (Session l ∷ layers) h =
    all_both (λ n. n ≢ own_file l) (λ n. AllByRecursion (IsApartFrom n) layers) (λ n. AllByRecursion (IsApartFrom n) (Session l ∷ layers)) (read_numbers layers) (λ n ne k. (λ e. ne (sym e), k))
    (among_all (λ n. n ≢ own_file l) layers h.0) (below_apart layers h.1)
below_apart (Read l ∷ layers) h = (
  (tt, apart_from l.tables.parts.file layers h.0),
  all_both (λ n. ⊤) (λ n. AllByRecursion (IsApartFrom n) layers) (λ n. AllByRecursion (IsApartFrom n) (Read l ∷ layers)) (read_numbers layers) (λ n t k. (tt, k)) (trivial (read_numbers layers)) (below_apart layers h.1),
)
  where
    trivial : (ns : List ℕ) → AllByRecursion (λ n. ⊤) ns
    trivial [] = tt
    trivial (n ∷ ns) = (tt, trivial ns)

-- nor is the leaf's
leaf_apart : (l : Layer) (layers : List FileLayer) → AreOthers (own_file l) layers → AllByRecursion (λ n. own_file l ≢ n) (read_numbers layers)
leaf_apart l [] h = tt
leaf_apart l (Session x ∷ layers) h = leaf_apart l layers h.1
leaf_apart l (Read x ∷ layers) h = (λ e. h.0 (sym e), leaf_apart l layers h.1)

pub read_by : (layers : Layers) (disk : Disk) → AreReady layers disk → AllByRecursion (IsReadBy layers) (read_numbers layers.below.items)
read_by layers disk ready =
    all_both (λ n. IfSome layers.leaf (λ (l : Layer). own_file l ≢ n)) (λ n. AllByRecursion (IsApartFrom n) layers.below.items) (IsReadBy layers) (read_numbers layers.below.items) (λ n leaf below. record { leaf = leaf; below = below })
    (by_leaf layers.leaf ready.leaf) (below_apart layers.below.items ready.apart)
  where
    by_leaf : (o : Option Layer) → IfSome o (IsReadyLeaf layers.geometry layers.below.items disk) → AllByRecursion (λ n. IfSome o (λ (l : Layer). own_file l ≢ n)) (read_numbers layers.below.items)
    by_leaf None h = trivial (read_numbers layers.below.items)
      where
        trivial : (ns : List ℕ) → AllByRecursion (λ n. ⊤) ns
        trivial [] = tt
        trivial (n ∷ ns) = (tt, trivial ns)
    by_leaf (Some l) h = leaf_apart l layers.below.items h.apart

-- ---- one step

-- A layer is as ready behind a step as before it.
pub record StaysReady (before after : Disk) (l : FileLayer) : Type 0 where
  pub ready : FileIsReady l before → FileIsReady l after
  pub turns : TurnStill before after l l

all_turn : (before after : Disk) (layers : List FileLayer) → AllByRecursion (StaysReady before after) layers → AllTurnStill before after layers layers
all_turn before after [] h = tt
all_turn before after (l ∷ layers) h = (h.0.turns, all_turn before after layers h.1)

top_turns : (before after : Disk) (top : Option Layer) → IfSome top (λ (l : Layer). StaysReady before after (Session l)) → TopTurnsStill before after top top
top_turns before after None h = tt
top_turns before after (Some l) h = h.turns

files_ready : (geometry : Geometry) (before after : Disk) (layers : List FileLayer) → AllByRecursion (StaysReady before after) layers → AreReadyFiles geometry before layers → AreReadyFiles geometry after layers
files_ready geometry before after [] stays h = tt
files_ready geometry before after (l ∷ layers) stays h = (record { ready = stays.0.ready h.0.ready; sector = h.0.sector; sectors = h.0.sectors }, files_ready geometry before after layers stays.1 h.1)

leaf_ready : (geometry : Geometry) (below : List FileLayer) (before after : Disk) (top : Option Layer) → IfSome top (λ (l : Layer). StaysReady before after (Session l)) → IfSome top (IsReadyLeaf geometry below before) → IfSome top (IsReadyLeaf geometry below after)
leaf_ready geometry below before after None stays h = tt
leaf_ready geometry below before after (Some l) stays h = record { ready = stays.ready h.ready; sector = h.sector; sectors = h.sectors; apart = h.apart }

stays_ready : (layers : Layers) (before after : Disk) → IfSome layers.leaf (λ (l : Layer). StaysReady before after (Session l)) → AllByRecursion (StaysReady before after) layers.below.items → AreReady layers before → AreReady layers after
stays_ready layers before after leaf below ready =
    let top = top_turns before after layers.leaf leaf in
    let all = all_turn before after layers.below.items below in
    record {
      sector = ready.sector;
      leaf = leaf_ready layers.geometry layers.below.items before after layers.leaf leaf ready.leaf;
      below = files_ready layers.geometry before after layers.below.items below ready.below;
      apart = ready.apart;
      merge = ready.merge;
      relink = relink_same before after layers.leaf layers.leaf layers.below.items layers.below.items layers.merge top all ready.relink;
      one = ready.one;
      retiring = ready.retiring;
      retires = retires_alike before after layers.leaf layers.leaf layers.below.items layers.below.items layers.retiring layers.retiring (alike_same layers.retiring layers.retiring refl) top all ready.retires;
    }

-- ---- sealed

file_sealed : (n : ℕ) (l : FileLayer) (disk : Disk) → IsApartFrom n l → FileIsReady l disk → FileIsReady l (changed n Seal disk)
file_sealed n (Session l) disk ne ready = file_layers_stand.ready (Session l) disk (changed n Seal disk) ready refl (beside_told n (own_file l) disk.told ne)
file_sealed n (Read l) disk ne can = record {
  there = can.there;
  sizes = can.sizes;
  told = told_still (λ trace. (file : Placed) × IsRead l trace file) n disk.told (λ t had. (had.0, has_still n (Read l) t had.0 tt had.1)) can.told;
}

layer_sealed : (n : ℕ) (l : FileLayer) (disk : Disk) → IsApartFrom n l → StaysReady disk (changed n Seal disk) l
layer_sealed n l disk apart = record {
  ready = file_sealed n l disk apart;
  turns = record {
    turns = λ pages turns. told_still (FileTurns l pages) n disk.told (λ t f. record { file = f.file; ties = f.ties; region = f.region; has = has_still n l t f.file apart f.has; into = f.into }) turns;
  };
}

all_sealed : (n : ℕ) (layers : List FileLayer) (disk : Disk) → AllByRecursion (IsApartFrom n) layers → AllByRecursion (StaysReady disk (changed n Seal disk)) layers
all_sealed n [] disk h = tt
all_sealed n (l ∷ layers) disk h = (layer_sealed n l disk h.0, all_sealed n layers disk h.1)

top_sealed : (n : ℕ) (top : Option Layer) (disk : Disk) → IfSome top (λ (l : Layer). own_file l ≢ n) → IfSome top (λ (l : Layer). StaysReady disk (changed n Seal disk) (Session l))
top_sealed n None disk h = tt
top_sealed n (Some l) disk h = layer_sealed n (Session l) disk h

pub ready_sealed : (layers : Layers) (n : ℕ) (disk : Disk) → IsReadBy layers n → AreReady layers disk → AreReady layers (changed n Seal disk)
ready_sealed layers n disk read ready = stays_ready layers disk (changed n Seal disk) (top_sealed n layers.leaf disk read.leaf) (all_sealed n layers.below.items disk read.below) ready

-- ---- where nothing of the content changes

beside_itself : (m : ℕ) (told : Option Trace) → WhereBothTold (IsBeside m) told told
beside_itself m None = tt
beside_itself m (Some t) = record { same = refl; names = refl }

layer_resting : (l : FileLayer) (before after : Disk) → after.files ≡ before.files → after.told ≡ before.told → StaysReady before after l
layer_resting l before after files told = record {
  ready = λ ready. file_layers_stand.ready l before after ready files (subst (λ (o : Option Trace). WhereBothTold (IsBeside (number_of l)) before.told o) (sym told) (beside_itself (number_of l) before.told));
  turns = (all_resting before after (l ∷ []) told).0;
}

pub ready_resting : (layers : Layers) (before after : Disk) → after.files ≡ before.files → after.told ≡ before.told → AreReady layers before → AreReady layers after
ready_resting layers before after files told ready = stays_ready layers before after (top layers.leaf) (all layers.below.items) ready
  where
    top : (o : Option Layer) → IfSome o (λ (l : Layer). StaysReady before after (Session l))
    top None = tt
    top (Some l) = layer_resting (Session l) before after files told

    all : (below : List FileLayer) → AllByRecursion (StaysReady before after) below
    all [] = tt
    all (l ∷ below) = (layer_resting l before after files told, all below)

-- ---- what can be sealed

pub can_seal : (geometry : Geometry) (disk : Disk) (layers : List FileLayer) → AreReadyFiles geometry disk layers → WhereTold disk.told (AreSynced (read_numbers layers)) → AllByRecursion (CanSeal disk) (read_numbers layers)
can_seal geometry disk [] ready synced = tt
can_seal geometry disk (Session l ∷ layers) ready synced = can_seal geometry disk layers ready.1 synced
can_seal geometry disk (Read l ∷ layers) ready synced = (
  record {
    there = ready.0.ready.there;
    within = λ t is. let had = ready.0.ready.told t is in subst (λ (n : ℕ). n < length t.attached) had.1.number had.1.within;
    synced = λ t is. (synced t is).0;
  },
  can_seal geometry disk layers ready.1 (λ t is. (synced t is).1),
)

can_sealed : (n : ℕ) (disk : Disk) (m : ℕ) → CanSeal disk m → CanSeal (changed n Seal disk) m
unfolding with_change
can_sealed n disk m can = record {
  there = can.there;
  within = told_still (λ trace. m < length trace.attached) n disk.told (λ t h. h) can.within;
  synced = told_still (λ trace. is_synced (file_of trace m) ≡ true) n disk.told (λ t h. synced_still n m t ∙ h) can.synced;
}

pub all_can : (n : ℕ) (disk : Disk) (ns : List ℕ) → AllByRecursion (CanSeal disk) ns → AllByRecursion (CanSeal (changed n Seal disk)) ns
all_can n disk [] h = tt
all_can n disk (m ∷ ns) h = (can_sealed n disk m h.0, all_can n disk ns h.1)
