-- Files of a chain, each in a session or only read.
use Rattle.std.proofs.Common.{◌≡◌, ◌≢◌, ◌⊎◌, ℕ, List, [], ◌∷◌, map, suc, Some, refl, sym, ap, subst, ◌∙◌, arith, length}
use Rattle.std.specs.Prelude.{Contains}
use Rattle.vx_base.specs.declared.parts.Geometry.{Geometry}
use Rattle.store_model.specs.Disk.{Disk, WhereBothTold}
use Rattle.store_model.specs.File.{File, seen}
use Rattle.store_model.specs.Trace.{NamedBytes, Trace, at_moment, file_of, moment}
use Rattle.store_model.proofs.Spans.{at_moment-now}
use Rattle.table_pages.specs.declared.tables.TableParts.{TableParts}
use Rattle.chain_model.specs.Images.{Placed, members_of}
use Rattle.chain_model.specs.Layers as chain
use Rattle.chain_model.specs.Members.{layers_of}
use Rattle.chain_model.specs.Moments.{IsPhase}
use Rattle.chain_model.specs.PhaseLaws.{loosened}
use Rattle.chain_model.specs.Sessions.{ShowsFile}
use Rattle.layer_session.specs.Calls.{AddsOwned, IsBeside, KeepsOver, PutsInto, loose_or_named, own_file}
use Rattle.layer_session.specs.FileLayers.{AreOthers, AreReadableFiles, AreReadyFiles, AreSameFiles, FileCanBeRead, FileIsReady, FileLayersStand, HasFile, HaveFiles, Hold, Holds, IsReadableFile, IsSameFile, LeavesOthers, OthersStand, file_numbers, number_of, table_parts}
use Rattle.layer_session.specs.Keeping.{IsHeld, IsReady, Serves}
use Rattle.layer_session.specs.declared.file.Layer.{Layer}
use Rattle.layer_session.specs.declared.file_layer.FileLayer.{FileLayer}
use Rattle.layer_session.specs.declared.file_layer.FileLayer.TheVariants.{Session, Read}
use Rattle.layer_session.proofs.Owned.{adds_over}
use Rattle.layer_session.proofs.ReadOnly.{read_layers_stand, adds_nothing}
use Rattle.layer_session.proofs.Standing.{layers_stand}
use Rattle.layer_session.proofs.Told.{both_map}

-- ---- one file

-- a file that is served is held
pub has_held : (l : FileLayer) (trace : Trace) (file : Placed) → HasFile l trace file → Holds l trace file.member.layer
has_held (Session l) trace file s = (s.parts, subst (λ n. IsHeld l s.parts file.member.layer (seen (file_of trace n))) s.number s.as_held)
has_held (Read l) trace file r = (file, (r, refl))

-- ---- several

pub none_same : (geometry : Geometry) (layers : List FileLayer) (disk : Disk) → AreReadableFiles geometry disk layers → AreSameFiles geometry layers layers disk
none_same geometry layers disk r = record { readable = r; ready = λ h. h; hold = λ trace each told h. h; have = λ trace files told h. h }

-- the first was read, and then those below it
module _ (geometry : Geometry) (upper upper' : FileLayer) (below below' : List FileLayer) (disk : Disk) (can : IsReadableFile geometry disk upper) (one : IsSameFile upper upper' disk) (rest : AreSameFiles geometry below below' disk) where
  each_has : (t : Trace) (files : List Placed) → disk.told ≡ Some t → HaveFiles (upper ∷ below) t files → HaveFiles (upper' ∷ below') t files
  each_has t [] told h = h
  each_has t (file ∷ files) told h = (one.has t file told h.0, rest.have t files told h.1)

  each_holds : (t : Trace) (each : List chain.Layer) → disk.told ≡ Some t → Hold (upper ∷ below) t each → Hold (upper' ∷ below') t each
  each_holds t [] told h = h
  each_holds t (layer ∷ each) told h = (one.holds t layer told h.0, rest.hold t each told h.1)

  sector_stays : (table_parts upper').sector ≡ geometry.sector
  sector_stays = ap (λ (p : TableParts). p.sector) one.parts ∙ can.sector

  sectors_stay : (table_parts upper').sectors ≡ geometry.sectors
  sectors_stay = ap (λ (p : TableParts). p.sectors) one.parts ∙ can.sectors

  pub each_same : AreSameFiles geometry (upper ∷ below) (upper' ∷ below') disk
  each_same = record {
    readable = (record { can = one.readable; sector = sector_stays; sectors = sectors_stay }, rest.readable);
    ready = λ h. (record { ready = one.ready h.0.ready; sector = sector_stays; sectors = sectors_stay }, rest.ready h.1);
    hold = each_holds;
    have = each_has;
  }

-- what the first of some files added, and then the others, is what is seen through all
pub held_through : (upper : FileLayer) (below : List FileLayer) (t : Trace) (each : List chain.Layer) (z first count at : ℕ) (m0 m1 m2 a b c : List ℕ) → ((layer : chain.Layer) → Holds upper t layer → AddsOwned layer z first count at m0 m1 a b)
    → ((rest : List chain.Layer) → Hold below t rest → AddsOwned (chain.through rest) z first count at m1 m2 b c) → Hold (upper ∷ below) t each
    → AddsOwned (chain.through each) z first count at m0 m2 a c
held_through upper below t [] z first count at m0 m1 m2 a b c one two h = absurd h
held_through upper below t (layer ∷ each) z first count at m0 m1 m2 a b c one two h = adds_over layer (chain.through each) z first count at m0 m1 m2 a b c (one layer h.0) (two each h.1)

-- no file adds anything
pub none_held : (layers : List FileLayer) (t : Trace) (each : List chain.Layer) (z first count at : ℕ) (mask bytes : List ℕ) → length layers ≡ 0 → Hold layers t each → AddsOwned (chain.through each) z first count at mask mask bytes bytes
none_held [] t [] z first count at mask bytes none h = adds_nothing z first count at mask bytes
none_held [] t (one ∷ each) z first count at mask bytes none h = absurd h
none_held (layer ∷ layers) t each z first count at mask bytes none h = absurd (omega (arith, none))

-- files that are served are held
pub have_hold : (layers : List FileLayer) (trace : Trace) (files : List Placed) → HaveFiles layers trace files → Hold layers trace (layers_of (members_of files))
have_hold [] trace [] h = tt
have_hold [] trace (file ∷ files) h = absurd h
have_hold (layer ∷ layers) trace [] h = absurd h
have_hold (layer ∷ layers) trace (file ∷ files) h = (has_held layer trace file h.0, have_hold layers trace files h.1)

-- the first of them is one of all
pub first_file : (upper : FileLayer) (below : List FileLayer) (n : ℕ) → n ≡ number_of upper → Contains (file_numbers (upper ∷ below)) n
first_file upper below n e = (0, omega arith, sym e)

-- a file of the lower ones is one of all
pub later_file : (upper : FileLayer) (below : List FileLayer) (n : ℕ) → Contains (file_numbers below) n → Contains (file_numbers (upper ∷ below)) n
later_file upper below n h = (suc h.0, omega (arith, h.1), h.2)

-- ---- what a file's layer hangs on

number_is : (l : FileLayer) (trace : Trace) (file : Placed) → HasFile l trace file → file.number ≡ number_of l
number_is (Session l) trace file s = s.number
number_is (Read l) trace file r = r.number

sector_is : (l : FileLayer) (trace : Trace) (file : Placed) → HasFile l trace file → file.member.ties.geometry.sector ≡ (table_parts l).sector
sector_is (Session l) trace file s = layers_stand.sector l trace file s
sector_is (Read l) trace file r = read_layers_stand.sector l trace file r

sectors_are : (l : FileLayer) (trace : Trace) (file : Placed) → HasFile l trace file → file.member.ties.geometry.sectors ≡ (table_parts l).sectors
sectors_are (Session l) trace file s = layers_stand.sectors l trace file s
sectors_are (Read l) trace file r = read_layers_stand.sectors l trace file r

ready_can : (l : FileLayer) (disk : Disk) → FileIsReady l disk → FileCanBeRead l disk
ready_can (Session l) disk r = r.readable
ready_can (Read l) disk r = r

has_beside : (l : FileLayer) (old new : Trace) (file : Placed) → HasFile l old file → IsBeside file.number old new → HasFile l new file
has_beside (Session l) old new file s k = layers_stand.beside l old new file s k
has_beside (Read l) old new file r k = read_layers_stand.beside l old new file r k

held_beside : (l : FileLayer) (old new : Trace) (layer : chain.Layer) → Holds l old layer → IsBeside (number_of l) old new → Holds l new layer
held_beside (Session l) old new layer h k = (h.0, subst (λ (z : File). IsHeld l h.0 layer (seen z)) (sym k.same) h.1)
held_beside (Read l) old new layer h k = (h.0, (read_layers_stand.beside l old new h.0 h.1.0 (subst (λ n. IsBeside n old new) (sym h.1.0.number) k), h.1.1))

can_beside : (l : FileLayer) (old new : Disk) → FileCanBeRead l old → new.files ≡ old.files → WhereBothTold (IsBeside (number_of l)) old.told new.told → FileCanBeRead l new
can_beside (Session l) old new r files k = layers_stand.readable l old new r files k
can_beside (Read l) old new r files k = read_layers_stand.readable l old new r files k

ready_beside : (l : FileLayer) (old new : Disk) → FileIsReady l old → new.files ≡ old.files → WhereBothTold (IsBeside (number_of l)) old.told new.told → FileIsReady l new
ready_beside (Session l) old new r files k = layers_stand.ready l old new r files k
ready_beside (Read l) old new r files k = read_layers_stand.readable l old new r files k

pub file_layers_stand : FileLayersStand
file_layers_stand = record {
  number = number_is;
  sector = sector_is;
  sectors = sectors_are;
  holds = has_held;
  can = ready_can;
  beside = has_beside;
  held = held_beside;
  readable = can_beside;
  ready = ready_beside;
}

-- ---- while another file is changed

pub can_all : (geometry : Geometry) (disk : Disk) (layers : List FileLayer) → AreReadyFiles geometry disk layers → AreReadableFiles geometry disk layers
can_all geometry disk [] h = tt
can_all geometry disk (l ∷ layers) h = (record { can = ready_can l disk h.0.ready; sector = h.0.sector; sectors = h.0.sectors }, can_all geometry disk layers h.1)

all_beside : (n : ℕ) (layers : List FileLayer) (old new : Trace) (files : List Placed) → HaveFiles layers old files → AreOthers n layers → LeavesOthers n old new → HaveFiles layers new files
all_beside n [] old new [] h ne leaves = tt
all_beside n [] old new (file ∷ files) h ne leaves = absurd h
all_beside n (l ∷ layers) old new [] h ne leaves = absurd h
all_beside n (l ∷ layers) old new (file ∷ files) h ne leaves =
    (has_beside l old new file h.0 (leaves.others file.number (λ e. ne.0 (sym (number_is l old file h.0) ∙ e))), all_beside n layers old new files h.1 ne.1 leaves)

all_held : (n : ℕ) (layers : List FileLayer) (old new : Trace) (each : List chain.Layer) → Hold layers old each → AreOthers n layers → LeavesOthers n old new → Hold layers new each
all_held n [] old new [] h ne leaves = tt
all_held n [] old new (layer ∷ each) h ne leaves = absurd h
all_held n (l ∷ layers) old new [] h ne leaves = absurd h
all_held n (l ∷ layers) old new (layer ∷ each) h ne leaves = (held_beside l old new layer h.0 (leaves.others (number_of l) ne.0), all_held n layers old new each h.1 ne.1 leaves)

module _ (n : ℕ) (geometry : Geometry) (old new : Disk) (files : new.files ≡ old.files) (leaves : WhereBothTold (LeavesOthers n) old.told new.told) where
  one_beside : (l : FileLayer) → number_of l ≢ n → WhereBothTold (IsBeside (number_of l)) old.told new.told
  one_beside l ne = both_map (LeavesOthers n) (IsBeside (number_of l)) old.told new.told leaves (λ t u x y k. k.others (number_of l) ne)

  pub can_still : (layers : List FileLayer) → AreReadableFiles geometry old layers → AreOthers n layers → AreReadableFiles geometry new layers
  can_still [] h ne = tt
  can_still (l ∷ layers) h ne = (record { can = can_beside l old new h.0.can files (one_beside l ne.0); sector = h.0.sector; sectors = h.0.sectors }, can_still layers h.1 ne.1)

  pub ready_still : (layers : List FileLayer) → AreReadyFiles geometry old layers → AreOthers n layers → AreReadyFiles geometry new layers
  ready_still [] h ne = tt
  ready_still (l ∷ layers) h ne = (record { ready = ready_beside l old new h.0.ready files (one_beside l ne.0); sector = h.0.sector; sectors = h.0.sectors }, ready_still layers h.1 ne.1)

-- ---- a phase

pub phase_attached : (file : ℕ) (P : List ℕ → Type 0) (old now : Trace) → IsPhase file P old now → now.attached ≡ old.attached
unfolding at_moment
phase_attached file P old now phase = ap (λ t. t.attached) phase.since

pub phase_others : (file : ℕ) (P : List ℕ → Type 0) (old now : Trace) → IsPhase file P old now → (other : ℕ) → other ≢ file → file_of now other ≡ file_of old other
phase_others file P old now phase other ne =
    subst (λ t. file_of t other ≡ file_of old other) (at_moment-now now) ((phase.each (moment now) phase.later (omega arith)).others other ne)

pub phase_leaves : (file : ℕ) (P : List ℕ → Type 0) (old now : Trace) → IsPhase file P old now → LeavesOthers file old now
phase_leaves file P old now phase = record {
  others = λ other ne. record { same = phase_others file P old now phase other ne; names = ap (λ (files : List NamedBytes). map (λ f. f.name) files) (phase_attached file P old now phase) };
}

module _ (l : Layer) (old new : Disk) (ready : IsReady l old) where
  -- of a relation that gives a phase of each file that is served
  leaves_by : (R : Trace → Trace → Type 0) → ((t u : Trace) (file : Placed) → Serves l t file → R t u → LeavesOthers file.number t u) → WhereBothTold R old.told new.told → WhereBothTold (LeavesOthers (own_file l)) old.told new.told
  leaves_by R phase h = both_map R (LeavesOthers (own_file l)) old.told new.told h (λ t u x y r. let s = ready.told t x in subst (λ n. LeavesOthers n t u) s.1.number (phase t u s.0 s.1 r))

  pub put_leaves : (first count : ℕ) → WhereBothTold (PutsInto l first count) old.told new.told → WhereBothTold (LeavesOthers (own_file l)) old.told new.told
  put_leaves first count h = leaves_by (PutsInto l first count) (λ t u file s r. phase_leaves file.number (ShowsFile (loosened (loose_or_named first count file) file)) t u (r.over file s)) h

  pub kept_leaves : WhereBothTold (KeepsOver l) old.told new.told → WhereBothTold (LeavesOthers (own_file l)) old.told new.told
  kept_leaves h = leaves_by (KeepsOver l) (λ t u file s r. phase_leaves file.number (ShowsFile file) t u (r.over file s)) h

pub others_stand : OthersStand
others_stand = record {
  hold = have_hold;
  can = can_all;
  beside = all_beside;
  held = all_held;
  readable = λ n geometry layers old new h ne files leaves. can_still n geometry old new files leaves layers h ne;
  ready = λ n geometry layers old new h ne files leaves. ready_still n geometry old new files leaves layers h ne;
  phase = λ before after old new goes. phase_leaves before.number (λ bytes. ShowsFile before bytes ⊎ ShowsFile after bytes) old new goes.phase;
  put = λ l first count old new ready h. put_leaves l old new ready first count h;
  kept = λ l old new ready h. kept_leaves l old new ready h;
}
