-- A file at its place among others.
use Rattle.std.proofs.Common.{◌≡◌, ℕ, zero, suc, ◌<◌, List, [], ◌∷◌, ◌++◌, length, map, get_or, set, refl, sym, ap, subst, ◌∙◌, arith, is_some, false, true, ◌||◌}
use Rattle.std.specs.Prelude.{Option, Some, None, Result, Ok, Err, IfErr, IfSome, OnErr, OnOk}
use Rattle.std.specs.List.{AllByRecursion}
use Rattle.layer_session.proofs.Handing.{file_there}
use Rattle.vx_base.specs.declared.parts.Geometry.{Geometry}
use Rattle.store_model.specs.Disk.{Disk, ReadFailed, WhereTold}
use Rattle.store_model.specs.Trace.{Trace}
use Rattle.store_model.specs.declared.fault.StoreFault.{StoreFault}
use Rattle.table_pages.specs.declared.tables.TableParts.{TableParts}
use Rattle.chain_model.specs.Images.{Placed}
use Rattle.chain_model.specs.Layers.{Layer as SectorLayer}
use Rattle.chain_model.specs.Merges.{Piece}
use Rattle.chain_model.specs.Stripes.{per_stripe}
use Rattle.chain_model.proofs.Merging.{true_pieces}
use Rattle.chain_model.proofs.Stamping.{stamps_by_call}
use Rattle.layer_session.specs.declared.file.Layer.{Layer}
use Rattle.layer_session.specs.declared.file_layer.FileLayer.{FileLayer}
use Rattle.layer_session.specs.declared.file_layer.FileLayer.TheVariants.{Read, Session}
use Rattle.layer_session.specs.ReadOnly.{SomeReadFailed}
use Rattle.layer_session.proofs.FileLayers.{others_stand}
use Rattle.layer_session.specs.FileLayers.{AreReadableFiles, AreReadyFiles, AreSameFiles, FileCanBeRead, HasFile, HaveFiles, HaveSameNumbers, Hold, IsReadableFile, IsReadyFile, IsSameFile, file_numbers, log_number, number_of, table_parts, log_header}
use Rattle.merge_core.specs.Pieces.{IsTaken, piece_of}
use Rattle.merge_core.specs.declared.piece.Piece.{Piece as KeptPiece}
use Rattle.chain_core.specs.declared.layers.Retiring.{Retiring}
use Rattle.layer_session.specs.declared.read_layer.ReadLayer.{ReadLayer}
use Rattle.chain_core.specs.declared.layers.Layers.{Layers}
use Rattle.chain_core.specs.declared.layers.Underway.{Underway}
use Rattle.chain_core.specs.Copying.{FitsDisk, Takes, TakesStripe, number_at_source, source_number, stamp_in}
use Rattle.chain_core.specs.Merging.{IsTruePiece}
use Rattle.chain_core.specs.Reading.{HasOnlyRead}
use Rattle.chain_core.specs.Sessions.{AreReady, AtMostOne, IsMergeOf, has_merge, IsRetiringOf, is_session_at}
use Rattle.chain_core.specs.States.{AreHeld, IsCourse, IsServing, IsUnder, Rest, State, merging, plain, retiring, sector_of}
use Rattle.chain_core.proofs.Numbers.{before_next, stripe_of_512}
use Rattle.chain_core.proofs.Finding.{below_reads}
use Rattle.chain_core.proofs.Putting.{have_parts}
use Rattle.layer_session.proofs.Equal.{false_true}

-- ---- a list at a place

-- What stands at a place: the list is made of what is before it, of itself, and of what is behind it.
pub record IsAt {X : Type 0} (items : List X) (place : ℕ) (x : X) : Type 0 where
  pub before : List X
  pub behind : List X
  pub parts : items ≡ before ++ x ∷ behind
  pub long : length before ≡ place
  pub put : (y : X) → set items place y ≡ before ++ y ∷ behind

pub at_place : {X : Type 0} (items : List X) (place : ℕ) (d : X) → place < length items → IsAt items place (get_or items place d)
at_place [] place d within = absurd (omega (arith, within))
at_place (x ∷ items) zero d within = record { before = []; behind = items; parts = refl; long = refl; put = λ y. refl }
at_place (x ∷ items) (suc place) d within =
    let rest = at_place items place d (omega (arith, within)) in
    record { before = x ∷ rest.before; behind = rest.behind; parts = ap (λ more. x ∷ more) rest.parts; long = ap suc rest.long; put = λ y. ap (λ more. x ∷ more) (rest.put y) }

-- ---- one file's layer keeps other things in memory

module _ (g : Geometry) (disk : Disk) (x next : FileLayer) (same : IsSameFile x next disk) where
  readable_next : IsReadableFile g disk x → IsReadableFile g disk next
  readable_next r = record { can = same.readable; sector = ap (λ (p : TableParts). p.sector) same.parts ∙ r.sector; sectors = ap (λ (p : TableParts). p.sectors) same.parts ∙ r.sectors }

  ready_next : IsReadyFile g disk x → IsReadyFile g disk next
  ready_next r = record { ready = same.ready r.ready; sector = ap (λ (p : TableParts). p.sector) same.parts ∙ r.sector; sectors = ap (λ (p : TableParts). p.sectors) same.parts ∙ r.sectors }

  readable_at : (a b : List FileLayer) → AreReadableFiles g disk (a ++ x ∷ b) → AreReadableFiles g disk (a ++ next ∷ b)
  readable_at [] b all = (readable_next all.0, all.1)
  readable_at (l ∷ a) b all = (all.0, readable_at a b all.1)

  ready_at : (a b : List FileLayer) → AreReadyFiles g disk (a ++ x ∷ b) → AreReadyFiles g disk (a ++ next ∷ b)
  ready_at [] b all = (ready_next all.0, all.1)
  ready_at (l ∷ a) b all = (all.0, ready_at a b all.1)

  hold_at : (a b : List FileLayer) (trace : Trace) (each : List SectorLayer) → disk.told ≡ Some trace → Hold (a ++ x ∷ b) trace each → Hold (a ++ next ∷ b) trace each
  hold_at [] b trace [] told h = absurd h
  hold_at [] b trace (one ∷ each) told h = (same.holds trace one told h.0, h.1)
  hold_at (l ∷ a) b trace [] told h = absurd h
  hold_at (l ∷ a) b trace (one ∷ each) told h = (h.0, hold_at a b trace each told h.1)

  have_at : (a b : List FileLayer) (trace : Trace) (files : List Placed) → disk.told ≡ Some trace → HaveFiles (a ++ x ∷ b) trace files → HaveFiles (a ++ next ∷ b) trace files
  have_at [] b trace [] told h = absurd h
  have_at [] b trace (file ∷ files) told h = (same.has trace file told h.0, h.1)
  have_at (l ∷ a) b trace [] told h = absurd h
  have_at (l ∷ a) b trace (file ∷ files) told h = (h.0, have_at a b trace files told h.1)

  pub same_at : (a b : List FileLayer) → AreReadableFiles g disk (a ++ x ∷ b) → AreSameFiles g (a ++ x ∷ b) (a ++ next ∷ b) disk
  same_at a b readable = record {
    readable = readable_at a b readable;
    ready = ready_at a b;
    hold = hold_at a b;
    have = have_at a b;
  }

  pub same_numbers_at : (a b : List FileLayer) → HaveSameNumbers (a ++ x ∷ b) (a ++ next ∷ b)
  same_numbers_at [] b = record { parts = ap (λ p. p ∷ map table_parts b) same.parts; logs = ap (λ p. p ∷ map log_number b) same.number }
  same_numbers_at (l ∷ a) b =
      let rest = same_numbers_at a b in
      record { parts = ap (λ more. table_parts l ∷ more) rest.parts; logs = ap (λ more. log_number l ∷ more) rest.logs }

  pub same_headers_at : (a b : List FileLayer) → map log_header (a ++ next ∷ b) ≡ map log_header (a ++ x ∷ b)
  same_headers_at [] b = ap (λ h. h ∷ map log_header b) same.header
  same_headers_at (l ∷ a) b = ap (λ more. log_header l ∷ more) (same_headers_at a b)

-- ---- the source is read

-- a merge below the leaf is the only one
pub alone : (layers : Layers) (u : Underway) (disk : Disk) → layers.merge ≡ Some u → AreReady layers disk → layers.retiring ≡ None
alone layers u disk is ready = subst (λ o. AtMostOne o layers.retiring) is ready.one

pub merge_of : (layers : Layers) (u : Underway) (disk : Disk) → layers.merge ≡ Some u → AreReady layers disk → IsMergeOf layers.geometry layers.leaf layers.below.items u
merge_of layers u disk merge_is ready = subst (λ o. IfSome o (IsMergeOf layers.geometry layers.leaf layers.below.items)) merge_is ready.merge

pub source_at : (layers : Layers) (u : Underway) (disk : Disk) (x d : FileLayer) → layers.merge ≡ Some u → AreReady layers disk → x ≡ get_or layers.below.items u.source d → IsAt layers.below.items u.source x
source_at layers u disk x d merge_is ready is =
    subst (IsAt layers.below.items u.source) (sym is) (at_place layers.below.items u.source d (before_next u.source (length layers.below.items) (merge_of layers u disk merge_is ready).there))

pub one_of : (P : FileLayer → Type 0) (a : List FileLayer) (x : FileLayer) (b : List FileLayer) → AllByRecursion P (a ++ x ∷ b) → P x
one_of P [] x b all = all.0
one_of P (l ∷ a) x b all = one_of P a x b all.1

pub ready_there : (g : Geometry) (disk : Disk) (layers : List FileLayer) (place : ℕ) (x : FileLayer) → IsAt layers place x → AreReadyFiles g disk layers → IsReadyFile g disk x
ready_there g disk layers place x at all = one_of (IsReadyFile g disk) at.before x at.behind (subst (AreReadyFiles g disk) at.parts all)

pub readable_of : (layers : Layers) (u : Underway) (disk : Disk) (x : FileLayer) → AreReady layers disk → IsAt layers.below.items u.source x → IsReadableFile layers.geometry disk x
readable_of layers u disk x ready at =
    one_of (IsReadableFile layers.geometry disk) at.before x at.behind (subst (AreReadableFiles layers.geometry disk) at.parts (others_stand.can layers.geometry disk layers.below.items ready.below))

pub some_failed : (x : FileLayer) (before after : Disk) (answer : Result (Unit {0}) StoreFault) → FileCanBeRead x before → IfErr answer (ReadFailed (number_of x) before after) → IfErr answer (SomeReadFailed before after)
some_failed x before after (Ok done) can failed = tt
some_failed x before after (Err fault) can failed = (subst (λ (n : ℕ). n < before.files) (sym failed.of_file) (file_there x before can), subst (λ (n : ℕ). ReadFailed n before after fault) (sym failed.of_file) failed)

pub source_reads : (old new : Layers) (u : Underway) (x next : FileLayer) (before after : Disk) (answer : Result (Unit {0}) StoreFault) → AreReady old before → IsAt old.below.items u.source x
    → new.geometry ≡ old.geometry → new.leaf ≡ old.leaf → new.merge ≡ old.merge → new.retiring ≡ old.retiring → new.below.items ≡ set old.below.items u.source next → IsSameFile x next before → OnOk answer (after ≡ before) → IfErr answer (ReadFailed (number_of x) before after)
    → HasOnlyRead old new before after
source_reads old new u x next before after answer ready at g l m q items same done failed =
    let readable = subst (AreReadableFiles old.geometry before) at.parts (others_stand.can old.geometry before old.below.items ready.below) in
    below_reads old new (at.before ++ x ∷ at.behind) (at.before ++ next ∷ at.behind) before after answer (sym at.parts) g l m q (items ∙ at.put next) (same_at old.geometry before x next same at.before at.behind readable)
    (same_numbers_at old.geometry before x next same at.before at.behind) (same_headers_at old.geometry before x next same at.before at.behind) done (some_failed x before after answer (readable_of old u before x ready at).can failed) ready

number_in : (a : List FileLayer) (x : FileLayer) (b : List FileLayer) → number_of x ≡ get_or (file_numbers (a ++ x ∷ b)) (length a) 0
number_in [] x b = refl
number_in (l ∷ a) x b = number_in a x b

-- the source's file has the number of the one at its place
pub number_of_source : (layers : Layers) (u : Underway) (x : FileLayer) → layers.merge ≡ Some u → IsAt layers.below.items u.source x → number_of x ≡ source_number layers
number_of_source layers u x merge_is at =
    number_in at.before x at.behind ∙ ap (λ n. get_or (file_numbers (at.before ++ x ∷ at.behind)) n 0) at.long ∙ ap (λ (c : List FileLayer). get_or (file_numbers c) u.source 0) (sym at.parts)
    ∙ ap (number_at_source layers) (sym merge_is)

-- a read that fails is one of its file
pub whose : (layers : Layers) (u : Underway) (x : FileLayer) (before after : Disk) (answer : Result (Unit {0}) StoreFault) → layers.merge ≡ Some u → IsAt layers.below.items u.source x → IfErr answer (ReadFailed (number_of x) before after)
    → IfErr answer (λ fault. fault.file ≡ source_number layers)
whose layers u x before after (Ok done) merge_is at failed = tt
whose layers u x before after (Err fault) merge_is at failed = failed.of_file ∙ number_of_source layers u x merge_is at

-- ---- what is taken of the source

-- the source of the merge under way is the file at its place
source_taken : (v : State) (rest : Rest) (layers : Layers) (leaf : Layer) (u : Underway) (x : FileLayer) (trace : Trace) (piece : Piece) → layers.leaf ≡ Some leaf → layers.merge ≡ Some u → IsAt layers.below.items u.source x
    → IsServing layers (record v { rest = rest }) trace → 0 < per_stripe (sector_of v) → piece.stamp ≡ 0 → ((file : Placed) → HasFile x trace file → IsTaken (sector_of v) file.member.layer piece) → IsTruePiece (record v { rest = rest }) piece
source_taken v (plain others) layers leaf u x trace piece leaf_is merge_is at serving stripes stamp taken = tt
source_taken v (retiring target below first before) layers leaf u x trace piece leaf_is merge_is at serving stripes stamp taken =
    absurd (let never : IsCourse (sector_of v) v.writes layers (Some u) v.top (retiring target below first before) = subst (λ o. IsCourse (sector_of v) v.writes layers o v.top (retiring target below first before)) merge_is serving.course in never)
source_taken v (merging above source target below m) layers leaf u x trace piece leaf_is merge_is at serving stripes stamp taken =
    let z = sector_of v in
    let under : IsUnder z v.writes layers u v.top above source target m = subst (λ o. IsCourse z v.writes layers o v.top (merging above source target below m)) merge_is serving.course in
    let held : HaveFiles layers.below.items trace (above ++ (source ∷ target ∷ below)) = (subst (λ o. AreHeld o layers.below.items trace v.top (above ++ (source ∷ target ∷ below))) leaf_is serving.held).1 in
    let own : HasFile x trace source =
    (have_parts at.before x at.behind trace above source (target ∷ below) (at.long ∙ under.place) (subst (λ (c : List FileLayer). HaveFiles c trace (above ++ (source ∷ target ∷ below))) at.parts held)).1.0 in
    let t = taken source own in
    true_pieces.taken z m.first [] source.member.layer piece stripes (λ s. under.under_way.source_is s) (stamp ∙ sym (stamps_by_call.none z piece.stripe)) t.within t.taken

-- what isn't some is none
pub is_none : {A : Type 0} (o : Option A) → ((x : A) → o ≡ Some x → ⊥) → o ≡ None
is_none None not = refl
is_none (Some x) not = absurd (not x refl)

-- where no merge below the leaf is under way it is the leaf's
pub leaf_merge : (layers : Layers) → layers.merge ≡ None → has_merge layers ≡ true → is_some layers.retiring ≡ true
leaf_merge layers none merge = sym (ap (λ m. is_some m || is_some layers.retiring) none) ∙ merge

-- what is none isn't some
pub none_left : {A : Type 0} (o : Option A) → ((x : A) → o ≡ Some x → ⊥) → is_some o ≡ true → ⊥
none_left None not some = false_true some
none_left (Some x) not some = not x refl

pub some_leaf : (o : Option Layer) → is_some o ≡ true → (leaf : Layer) × (o ≡ Some leaf)
some_leaf None some = absurd (false_true some)
some_leaf (Some leaf) some = (leaf, refl)

pub takes : (layers : Layers) (u : Underway) (x : FileLayer) (disk : Disk) (answer : Result (Unit {0}) StoreFault) (piece : Piece) → layers.merge ≡ Some u → IsAt layers.below.items u.source x → AreReady layers disk → piece.stamp ≡ 0
    → OnOk answer ((file : Placed) → WhereTold disk.told (λ trace. HasFile x trace file → IsTaken layers.geometry.sector file.member.layer piece)) → OnOk answer (Takes layers disk piece)
takes layers u x disk (Err fault) piece merge_is at ready stamp taken = tt
takes layers u x disk (Ok done) piece merge_is at ready stamp taken = λ trace told v serving.
    let merge : IsMergeOf layers.geometry layers.leaf layers.below.items u = subst (λ o. IfSome o (IsMergeOf layers.geometry layers.leaf layers.below.items)) merge_is ready.merge in
    let leaf = some_leaf layers.leaf merge.session in
    let size : layers.geometry.sector ≡ sector_of v = ap (λ (k : Geometry). k.sector) serving.geometry in
    let stripes : 0 < per_stripe (sector_of v) = stripe_of_512 (sector_of v) (sym ready.sector ∙ size) in
    source_taken v v.rest layers leaf.0 u x trace piece leaf.1 merge_is at serving stripes stamp (λ file own. subst (λ (z : ℕ). IsTaken z file.member.layer piece) size (taken file trace told own))

-- all that a take of the source says
pub below_takes : (old new : Layers) (u : Underway) (x next : FileLayer) (before after : Disk) (answer : Result (Unit {0}) StoreFault) (piece : KeptPiece) (stripe : ℕ) → old.merge ≡ Some u → AreReady old before → IsAt old.below.items u.source x
    → new.geometry ≡ old.geometry → new.leaf ≡ old.leaf → new.merge ≡ old.merge → new.retiring ≡ old.retiring → new.below.items ≡ set old.below.items u.source next → OnOk answer (piece.filled ≡ true) → OnErr answer (piece.filled ≡ false)
    → FitsDisk old.geometry piece → piece.stripe ≡ stripe → piece.stamp ≡ 0 → OnOk answer ((file : Placed) → WhereTold before.told (λ trace. HasFile x trace file → IsTaken old.geometry.sector file.member.layer (piece_of piece)))
    → IsSameFile x next before → OnOk answer (after ≡ before) → IfErr answer (ReadFailed (number_of x) before after) → TakesStripe stripe old new before after piece answer
below_takes old new u x next before after answer piece stripe is ready at g l m q items filled empty fits stripe_is stamp_is taken same stays failed = record {
  reads = source_reads old new u x next before after answer ready at g l m q items same stays failed;
  filled = filled;
  empty = empty;
  fits = fits;
  stripe_is = stripe_is;
  stamp_is = stamp_is ∙ sym (ap (λ o. stamp_in o stripe) (alone old u before is ready));
  taken = takes old u x before answer (piece_of piece) is at ready stamp_is taken;
  stays = stays;
  err = some_failed x before after answer (readable_of old u before x ready at).can failed;
  whose = whose old u x before after answer is at failed;
}

-- ---- layers of files in a session

read_at : (a : List FileLayer) (l : ReadLayer) (b : List FileLayer) → is_session_at (a ++ Read l ∷ b) (length a) ≡ false
read_at [] l b = refl
read_at (x ∷ a) l b = read_at a l b

session_at : (a : List FileLayer) (l : Layer) (b : List FileLayer) → is_session_at (a ++ Session l ∷ b) (length a) ≡ true
session_at [] l b = refl
session_at (x ∷ a) l b = session_at a l b

pub at_read : (layers : List FileLayer) (place : ℕ) (l : ReadLayer) → IsAt layers place (Read l) → is_session_at layers place ≡ false
at_read layers place l at = ap (λ (c : List FileLayer). is_session_at c place) at.parts ∙ ap (λ (n : ℕ). is_session_at (at.before ++ Read l ∷ at.behind) n) (sym at.long) ∙ read_at at.before l at.behind

pub at_session : (layers : List FileLayer) (place : ℕ) (x : FileLayer) → IsAt layers place x → ((l : ReadLayer) → x ≡ Read l → ⊥) → is_session_at layers place ≡ true
at_session layers place (Read l) at not = absurd (not l refl)
at_session layers place (Session l) at not = ap (λ (c : List FileLayer). is_session_at c place) at.parts ∙ ap (λ (n : ℕ). is_session_at (at.before ++ Session l ∷ at.behind) n) (sym at.long) ∙ session_at at.before l at.behind

pub never_read : (layers : List FileLayer) (place : ℕ) (l : ReadLayer) → IsAt layers place (Read l) → is_session_at layers place ≡ true → ⊥
never_read layers place l at session =
    let never : false ≡ true = sym (read_at at.before l at.behind) ∙ ap (λ (n : ℕ). is_session_at (at.before ++ Read l ∷ at.behind) n) at.long ∙ ap (λ (c : List FileLayer). is_session_at c place) (sym at.parts) ∙ session in false_true never

pub first_session : (x : FileLayer) (rest : List FileLayer) → is_session_at (x ∷ rest) 0 ≡ true → ((l : Layer) → x ≡ Session l → ⊥) → ⊥
first_session (Session l) rest session not = not l refl
first_session (Read l) rest session not = false_true session

-- the leaf is in a session while it is merged
pub retiring_session : (layers : Layers) (disk : Disk) → is_some layers.retiring ≡ true → AreReady layers disk → is_some layers.leaf ≡ true
retiring_session layers disk some ready = by_kept layers.retiring some ready.retiring
  where
    by_kept : (o : Option Retiring) → is_some o ≡ true → IfSome o (IsRetiringOf layers.geometry layers.leaf layers.below.items) → is_some layers.leaf ≡ true
    by_kept None some of = absurd (false_true some)
    by_kept (Some r) some of = of.session

pub leaf_not_none : (layers : Layers) → layers.leaf ≡ None → is_some layers.leaf ≡ true → ⊥
leaf_not_none layers none some = (let never : false ≡ true = sym (ap is_some none) ∙ some in false_true never)

-- what is known of the merge of the leaf
pub retiring_of : (layers : Layers) (disk : Disk) → is_some layers.retiring ≡ true → AreReady layers disk → (r : Retiring) × IsRetiringOf layers.geometry layers.leaf layers.below.items r
retiring_of layers disk some ready = by_kept layers.retiring some ready.retiring
  where
    by_kept : (o : Option Retiring) → is_some o ≡ true → IfSome o (IsRetiringOf layers.geometry layers.leaf layers.below.items) → (r : Retiring) × IsRetiringOf layers.geometry layers.leaf layers.below.items r
    by_kept None some of = absurd (false_true some)
    by_kept (Some r) some of = (r, of)
