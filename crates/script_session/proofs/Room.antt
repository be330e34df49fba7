-- A call that is refused for want of room, in a session.
use Rattle.std.proofs.Common.{◌≡◌, ◌<◌, ◌≤◌, ◌+◌, ◌*◌, ◌/◌, ◌^◌, ◌==◌, ◌||◌, ℕ, zero, suc, Bool, true, false, List, [], ◌∷◌, length, map, Option, Some, None, Result, Ok, Err, refl, sym, ap, ap₂, subst, ◌∙◌, arith}
use Rattle.std.specs.Prelude.{IfSome, if◌then◌else◌, is_some, nat_lt, not, slice_index_or}
use Rattle.std.proofs.lemmas.Bool.{ltb-false}
use Rattle.vhdx_format.specs.Layers.{Shape}
use Rattle.vhdx_format.specs.Fields.{megabyte}
use Rattle.store_model.specs.File.{seen}
use Rattle.store_model.specs.Trace.{Trace, file_of}
use Rattle.guest_model.specs.declared.call.Call.{Call}
use Rattle.guest_model.specs.declared.call.Call.TheVariants as calls
use Rattle.guest_model.specs.declared.refusal.ChainRefusal.{ChainRefusal}
use Rattle.guest_model.specs.declared.refusal.ChainRefusal.TheVariants.{EmptyRange, FileFull, OutOfRange, ReadOnly, TooLong}
use Rattle.guest_model.specs.Ranges.{range_refusal}
use Rattle.chain_model.specs.Members.{Ties}
use Rattle.layer_session.specs.declared.file.Layer.{Layer}
use Rattle.layer_session.specs.Keeping.{Serves}
use Rattle.layer_session.specs.Steps.{is_full}
use Rattle.vx_base.specs.declared.parts.Geometry.{Geometry}
use Rattle.store_model.specs.Disk.{Disk}
use Rattle.chain_model.specs.Images.{Placed}
use Rattle.layer_session.specs.FileLayers.{AreReadyFiles, HaveFiles}
use Rattle.layer_session.specs.declared.file_layer.FileLayer.{FileLayer}
use Rattle.layer_session.specs.declared.file_layer.FileLayer.TheVariants as kind
use Rattle.merge_core.specs.declared.piece.Piece.{Piece}
use Rattle.chain_core.specs.Answering.{HasRoom}
use Rattle.chain_core.specs.Copying.{session_below, session_in, target_layer}
use Rattle.chain_core.specs.declared.layers.Underway.{Underway}
use Rattle.chain_core.specs.Refusing.{barred, is_read, or_else, out_of, range_of, refused, unfit}
use Rattle.chain_core.specs.Sessions.{AreReady, IsMergeOf, IsRetiringOf, Session, has_merge, is_session_at, kept_marks, marks_in}
use Rattle.chain_core.specs.declared.layers.Layers.{Layers}
use Rattle.chain_core.specs.declared.layers.Retiring.{Retiring}
use Rattle.chain_model.specs.Stripes.{stripe_count}
use Rattle.merge_core.specs.declared.marks.Marks.{Marks}
use Rattle.std.proofs.lemmas.Option.{same_Some}
use Rattle.chain_core.specs.States.{AreHeld, AreWritten, IsServing, State, others_of, sector_of}
use Rattle.script_session.specs.Histories.{IsSoLong, asks_room}
use Rattle.script_session.proofs.Full.{full_is_far}

-- ---- what isn't refused before it reaches the files

-- a change is one of a session of the leaf
no_change : (first : Option ChainRefusal) (range : Result (Unit {0}) ChainRefusal) → or_else first (out_of range (Some ReadOnly)) ≡ None → ⊥
no_change None (Ok done) h = cc
no_change None (Err e) h = cc
no_change (Some e) range h = cc

pub changes_none : (s : Session) (call : Call) → is_some s.layers.leaf ≡ false → is_read call ≡ false → refused call s ≡ None → ⊥
changes_none s call read_only changes fit =
    let bars : barred call (is_some s.layers.leaf) ≡ Some ReadOnly = ap (λ b. if is_read call || b then None else Some ReadOnly) read_only ∙ ap (λ b. if b || false then None else Some ReadOnly) changes in
    no_change (unfit s.events s.broken) (range_of s.layers.geometry call) (sym (ap (λ o. or_else (unfit s.events s.broken) (out_of (range_of s.layers.geometry call) o)) bars) ∙ fit)

-- its range is one of the disk
in_range : (first later : Option ChainRefusal) (range : Result (Unit {0}) ChainRefusal) → or_else first (out_of range later) ≡ None → range ≡ Ok tt
in_range None later (Ok done) h = refl
in_range None later (Err e) h = cc
in_range (Some e) later range h = cc

few_in_range : (first count limit sectors : ℕ) → range_refusal first count limit sectors ≡ Ok tt → count ≤ limit
few_in_range first count limit sectors h = go (count == 0) (nat_lt limit count) refl h
  where
    go : (a b : Bool) → nat_lt limit count ≡ b → ◌≡◌ {A = Result (Unit {0}) ChainRefusal} (if a then Err EmptyRange else if b then Err (TooLong count limit) else if nat_lt sectors (first + count) then Err (OutOfRange first count sectors) else Ok tt) (Ok tt) → count ≤ limit
    go true b e h = cc
    go false true e h = cc
    go false false e h = ltb-false limit count e

-- ---- want of room

-- the end of a file that may be changed, which is near the greatest place of a block
abbrev pub IsFull : (ℕ → Bool) → Trace → ℕ → Type 0
IsFull may trace next = (2 ^ 43 < next + 1024) × IsSoLong may trace next

so_long : (may : ℕ → Bool) (trace : Trace) (l : Layer) (file : Placed) (next : ℕ) → may file.number ≡ true → Serves l trace file → next ≡ l.space.next → IsSoLong may trace next
so_long may trace l file next can serves is = record { number = file.number; there = serves.within; may_change = can; long = subst (λ n. n * megabyte < length (seen (file_of trace file.number)) + megabyte) (sym is) serves.space.tight }

full_leaf : (o : Option Layer) (v : State) (s : Session) (trace : Trace) (trims : Layer → Bool) (first count next : ℕ) → s.layers.leaf ≡ o → is_some s.layers.leaf ≡ true → IsServing s.layers v trace → sector_of v ≡ 512 → s.disk.told ≡ Some trace
    → count ≤ 524288 → IfSome s.layers.leaf (λ leaf. is_full (trims leaf) first count next leaf s.disk) → IsFull v.writes trace next
full_leaf None v s trace trims first count next is some serving sector told few full = absurd (let never : false ≡ true = sym (ap is_some is) ∙ some in cc)
full_leaf (Some leaf) v s trace trims first count next is some serving sector told few full =
    let serves : Serves leaf trace v.top = (subst (λ o. AreHeld o s.layers.below.items trace v.top (others_of v.rest)) is serving.held).0 in
    let size : leaf.tables.parts.sector ≡ 512 = ap (λ (p : Shape). p.sector) serves.as_held.shape ∙ sym (ap (λ (t : Ties). t.geometry.sector) serves.ties) ∙ sector in
    let own : is_full (trims leaf) first count next leaf s.disk = subst (λ o. IfSome o (λ leaf. is_full (trims leaf) first count next leaf s.disk)) is full in
    let written = subst (λ o. IfSome o (λ leaf. (v.writes v.top.number ≡ true) × AreWritten v.writes s.layers.below.items)) is serving.written in
    (full_is_far (trims leaf) first count next leaf s.disk trace serves.as_held.sizes size few told own, so_long v.writes trace leaf v.top next written.0 serves own.0)

pub call_is_far : (call : Call) (next : ℕ) (v : State) (s : Session) (trace : Trace) → IsServing s.layers v trace → sector_of v ≡ 512 → s.disk.told ≡ Some trace → is_read call ≡ false → refused call s ≡ None → HasRoom call s (Err (FileFull next))
    → (asks_room call ≡ true) × IsFull v.writes trace next
call_is_far call next v s trace serving sector told changes fit room = go call changes fit room
  where
    some : (call : Call) → is_read call ≡ false → refused call s ≡ None → is_some s.layers.leaf ≡ true
    some call changes fit = by_leaf (is_some s.layers.leaf) refl
      where
        by_leaf : (b : Bool) → is_some s.layers.leaf ≡ b → is_some s.layers.leaf ≡ true
        by_leaf true e = e
        by_leaf false e = absurd (changes_none s call e changes fit)

    go : (call : Call) → is_read call ≡ false → refused call s ≡ None → HasRoom call s (Err (FileFull next)) → (asks_room call ≡ true) × IsFull v.writes trace next
    go (calls.Read first count) changes fit room = absurd (let never : true ≡ false = changes in cc)
    go (calls.Write first bytes) changes fit room =
        let z = s.layers.geometry.sector in
        let few = few_in_range first (length bytes / z) 2048 s.layers.geometry.sectors (in_range (unfit s.events s.broken) _ (range_of s.layers.geometry (calls.Write first bytes)) fit) in
        (refl, full_leaf s.layers.leaf v s trace (λ leaf. false) first (length bytes / z) next refl (some (calls.Write first bytes) changes fit) serving sector told (omega (arith, few)) (room fit))
    go (calls.Trim first count) changes fit room =
        let few = few_in_range first count 524288 s.layers.geometry.sectors (in_range (unfit s.events s.broken) _ (range_of s.layers.geometry (calls.Trim first count)) fit) in
        (refl, full_leaf s.layers.leaf v s trace (λ (leaf : Layer). not leaf.leave) first count next refl (some (calls.Trim first count) changes fit) serving sector told few (room fit))
    go calls.Flush changes fit room = absurd (room fit)

-- ---- in the target of a merge

-- the layer of a file in a session, at its place
record SessionAt (writes : ℕ → Bool) (below : List FileLayer) (place sector : ℕ) (trace : Trace) : Type 0 where
  layer : Layer
  is : session_in (slice_index_or (map (λ l. Some l) below) place None) ≡ Some layer
  file : Placed
  serves : Serves layer trace file
  size : layer.tables.parts.sector ≡ sector
  may : writes file.number ≡ true

session_at : (writes : ℕ → Bool) (below : List FileLayer) (files : List Placed) (place : ℕ) (geometry : Geometry) (disk : Disk) (trace : Trace) → HaveFiles below trace files → AreReadyFiles geometry disk below → AreWritten writes below → is_session_at below place ≡ true
    → SessionAt writes below place geometry.sector trace
session_at writes [] files place geometry disk trace have ready written is = let bad : false ≡ true = is in absurd (cc)
session_at writes (l ∷ below) [] place geometry disk trace have ready written is = absurd have
session_at writes (kind.Session l ∷ below) (file ∷ files) zero geometry disk trace have ready written is =
    record { layer = l; is = refl; file = file; serves = have.0; size = ready.0.sector; may = subst (λ n. writes n ≡ true) (sym have.0.number) written.0 }
session_at writes (kind.Read l ∷ below) (file ∷ files) zero geometry disk trace have ready written is = let bad : false ≡ true = is in absurd (cc)
session_at writes (l ∷ below) (file ∷ files) (suc place) geometry disk trace have ready written is =
    let rest = session_at writes below files place geometry disk trace have.1 ready.1 written.1 is in
    record { layer = rest.layer; is = rest.is; file = rest.file; serves = rest.serves; size = rest.size; may = rest.may }

-- the files below the leaf are those of its layers
below_of : (o : Option Layer) (below : List FileLayer) (trace : Trace) (top : Placed) (others : List Placed) → is_some o ≡ true → AreHeld o below trace top others → HaveFiles below trace others
below_of None below trace top others some held = let bad : false ≡ true = some in absurd (cc)
below_of (Some leaf) below trace top others some held = held.1

-- and may be changed where they are in a session
written_below : (o : Option Layer) (writes : ℕ → Bool) (P : Type 0) (below : List FileLayer) → is_some o ≡ true → IfSome o (λ leaf. P × AreWritten writes below) → AreWritten writes below
written_below None writes P below some h = let bad : false ≡ true = some in absurd (cc)
written_below (Some leaf) writes P below some h = h.1

-- the place of the target, of the merge that is under way
record TargetAt (layers : Layers) : Type 0 where
  place : ℕ
  target : is_session_at layers.below.items place ≡ true
  session : is_some layers.leaf ≡ true
  layer_is : (l : Layer) → session_in (slice_index_or (map (λ l. Some l) layers.below.items) place None) ≡ Some l → target_layer layers ≡ Some l

target_at : (layers : Layers) (disk : Disk) → AreReady layers disk → has_merge layers ≡ true → TargetAt layers
target_at layers disk ready there = go layers.merge layers.retiring refl refl
  where
    go : (o : Option Underway) (t : Option Retiring) → layers.merge ≡ o → layers.retiring ≡ t → TargetAt layers
    go (Some u) t is only =
        let merge : IsMergeOf layers.geometry layers.leaf layers.below.items u = subst (λ o. IfSome o (IsMergeOf layers.geometry layers.leaf layers.below.items)) is ready.merge in
        record { place = u.source + 1; target = merge.target; session = merge.session; layer_is = λ l e. ap (session_below layers.below.items) is ∙ e }
    go None (Some r) is only =
        let leaving : IsRetiringOf layers.geometry layers.leaf layers.below.items r = subst (λ o. IfSome o (IsRetiringOf layers.geometry layers.leaf layers.below.items)) only ready.retiring in
        record { place = 0; target = leaving.target; session = leaving.session; layer_is = λ l e. ap (session_below layers.below.items) is ∙ e }
    go None None is only = let bad : false ≡ true = sym (ap₂ (λ (o : Option Underway) (t : Option Retiring). is_some o || is_some t) is only) ∙ there in absurd (cc)

-- A put that is refused for want of room in the target.
pub target_is_far : (piece : Piece) (next : ℕ) (v : State) (s : Session) (trace : Trace) → AreReady s.layers s.disk → has_merge s.layers ≡ true
    → IsServing s.layers v trace → s.disk.told ≡ Some trace → IfSome (target_layer s.layers) (λ l. is_full false piece.first piece.count next l s.disk) → IsFull v.writes trace next
target_is_far piece next v s trace ready there serving told full =
    let t = target_at s.layers s.disk ready there in
    let have = below_of s.layers.leaf s.layers.below.items trace v.top (others_of v.rest) t.session serving.held in
    let at = session_at v.writes s.layers.below.items (others_of v.rest) t.place s.layers.geometry s.disk trace have ready.below (written_below s.layers.leaf v.writes (v.writes v.top.number ≡ true) s.layers.below.items t.session serving.written) t.target in
    let target : target_layer s.layers ≡ Some at.layer = t.layer_is at.layer at.is in
    let few : piece.count ≤ 524288 = omega (arith, piece.bits) in
    let own : is_full false piece.first piece.count next at.layer s.disk = subst (λ o. IfSome o (λ l. is_full false piece.first piece.count next l s.disk)) target full in
    (full_is_far false piece.first piece.count next at.layer s.disk trace at.serves.as_held.sizes (at.size ∙ ready.sector) few told own, so_long v.writes trace at.layer at.file next at.may at.serves own.0)

-- A merge has a mark for each stripe of the disk.
pub each_stripe : (layers : Layers) (disk : Disk) (marks : Marks) → AreReady layers disk → kept_marks layers ≡ Some marks → marks.stripes ≡ stripe_count layers.geometry.sector layers.geometry.sectors
each_stripe layers disk marks ready is = go layers.merge layers.retiring refl refl is
  where
    go : (o : Option Underway) (t : Option Retiring) → layers.merge ≡ o → layers.retiring ≡ t → marks_in o t ≡ Some marks → marks.stripes ≡ stripe_count layers.geometry.sector layers.geometry.sectors
    go (Some u) t under only is =
        let merge : IsMergeOf layers.geometry layers.leaf layers.below.items u = subst (λ o. IfSome o (IsMergeOf layers.geometry layers.leaf layers.below.items)) under ready.merge in
        ap (λ (m : Marks). m.stripes) (sym (same_Some u.marks marks is)) ∙ merge.stripes
    go None (Some r) under only is =
        let leaving : IsRetiringOf layers.geometry layers.leaf layers.below.items r = subst (λ o. IfSome o (IsRetiringOf layers.geometry layers.leaf layers.below.items)) only ready.retiring in
        ap (λ (m : Marks). m.stripes) (sym (same_Some r.marks marks is)) ∙ leaving.stripes
    go None None under only is = let bad : ◌≡◌ {A = Option Marks} None (Some marks) = is in absurd (cc)
