-- What the answer of the leaf's layer makes of a session.
use Rattle.std.proofs.Common.{◌≡◌, ◌≢◌, ◌⊎◌, ℕ, Bool, true, false, cond, List, [], ◌∷◌, ◌++◌, map, refl, sym, ap, subst, ◌∙◌, inl, ◌<◌, is_some, ◌==◌, ◌-◌, ◌+◌, ◌&&◌, get_or, length}
use Rattle.std.specs.Prelude.{Option, Some, None, Result, Ok, Err, IfSome, option_map, not, All}
use Rattle.std.specs.List.{AllByRecursion}
use Rattle.std.specs.Option.{option_or}
use Rattle.std.proofs.lemmas.Bool.{or_parts, or_from}
use Rattle.store_model.specs.Trace.{NamedBytes, Trace}
use Rattle.store_model.proofs.Spans.{EachMoment-now, EachMoment-weaken}
use Rattle.guest_model.specs.declared.call.Entry.{Entry}
use Rattle.guest_model.specs.declared.call.Call.{Call}
use Rattle.guest_model.specs.Calls.{is_named, content}
use Rattle.guest_model.specs.History.{either, is_flush}
use Rattle.chain_model.specs.Members.{Ties, names_of, NoneTwice}
use Rattle.chain_model.specs.Images.{Placed, RegionBytes, members_of, name_of}
use Rattle.chain_model.specs.Moments.{IsPhase, HasWholeImages, EachOpens}
use Rattle.chain_model.specs.Sessions.{ShowsFile, IsKept, GoesOver, LeavesLoose}
use Rattle.chain_model.specs.PhaseLaws.{LeafCall, CallSurvives, IsNamedOnce}
use Rattle.chain_model.proofs.Serving.{past_goes_on}
use Rattle.layer_session.specs.declared.file.Layer.{Layer}
use Rattle.layer_session.specs.declared.file.LayerFault.{LayerFault}
use Rattle.layer_session.specs.declared.file.LayerFault.TheVariants.{Read, Write, FileFull}
use Rattle.layer_session.specs.declared.file_layer.FileLayer.{FileLayer}
use Rattle.layer_session.specs.Calls.{IsBeside, settled}
use Rattle.layer_session.specs.Keeping.{Serves}
use Rattle.layer_session.specs.FileLayers.{HaveFiles, table_parts}
use Rattle.layer_session.specs.Updating.{IsInRegion, region_with}
use Rattle.table_pages.specs.declared.tables.TableParts.{TableParts}
use Rattle.vhdx_format.specs.declared.log_entry.Page.{Page}
use Rattle.vhdx_format.specs.declared.metadata.Metadata.{Metadata}
use Rattle.vhdx_format.specs.MetadataTables.{read_metadata}
use Rattle.chain_core.specs.declared.layers.Underway.{Underway}
use Rattle.layer_session.proofs.Crashes.{layers_are_kept}
use Rattle.chain_core.specs.declared.layers.Layers.{Layers}
use Rattle.chain_core.specs.States.{State, IsServing, LeavesOthers, AreHeld, seen_in, sector_of, disk_now, dirty_now, files_of, wide, made, others_of, AreWritten, IsCleared, IsCourse, IsNextPlace, IsRetiring, NextIn, Relinks, Renames, Rest, child_of, child_parts, merging, plain, retiring, target_parts, IsLoose}
use Rattle.chain_core.specs.Copying.{LayerFollows, Touches}
use Rattle.chain_core.specs.declared.layers.Retiring.{Retiring}
use Rattle.vx_base.specs.declared.parts.Geometry.{Geometry}
use Rattle.guest_model.specs.History.{History}
use Rattle.chain_model.specs.Layers.{Layer as SectorLayer, with_call}
use Rattle.chain_model.specs.Merges.{IsUnderWay, marks_after}
use Rattle.chain_model.specs.Stripes.{stamp, stripe_count, stripe_of, touches}
use Rattle.chain_model.proofs.Merging.{kept_by_call}
use Rattle.chain_model.proofs.Stamping.{stamps_by_call}
use Rattle.merge_core.specs.Copied.{marks_of}
use Rattle.merge_core.specs.Stamping.{stamps_of}
use Rattle.std.proofs.Math.Bool.{and-true}
use Rattle.chain_model.proofs.Showing.{all_right}
use Rattle.chain_core.specs.Answering.{IsDone, IsRefused, HasBroken, LayerAnswers, EachOpensNow}
use Rattle.layer_session.proofs.FileLayers.{file_layers_stand, phase_others, phase_attached}
use Rattle.chain_core.proofs.Rests.{call_survives, leaf_survives, loose_after, opens_now, top_loose, new_top}

-- ---- the leaf's answer, of its file

-- The call was done.
pub record IsMade (z : ℕ) (call : Call) (file : Placed) (leaf : Layer) (trace now : Trace) : Type 0 where
  pub moments : IsPhase file.number (ShowsFile (wide z call file)) trace now
  pub holds : Serves leaf now (made z call file)

-- The call was refused, and the file is as it was.
pub record IsAsBefore (file : Placed) (leaf : Layer) (trace now : Trace) : Type 0 where
  pub moments : IsPhase file.number (ShowsFile file) trace now
  pub holds : Serves leaf now file

-- A change of the store failed.
pub record HasFailed (z : ℕ) (call : Call) (file : Placed) (trace now : Trace) : Type 0 where
  pub moments : IsPhase file.number (ShowsFile (wide z call file)) trace now

abbrev pub AnswersCall : ℕ → Call → Placed → Layer → Trace → Trace → Result (Unit {0}) LayerFault → Type 0
AnswersCall z call file leaf trace now (Ok done) = IsMade z call file leaf trace now
AnswersCall z call file leaf trace now (Err (Read fault)) = IsAsBefore file leaf trace now
AnswersCall z call file leaf trace now (Err (FileFull next)) = IsAsBefore file leaf trace now
AnswersCall z call file leaf trace now (Err (Write fault)) = HasFailed z call file trace now

-- a leaf's layer before and after a call, the other layers staying
pub record LeafStep (old new : Layers) (leaf next : Layer) : Type 0 where
  pub geometry : new.geometry ≡ old.geometry
  pub below : new.below ≡ old.below
  pub merge : new.merge ≡ old.merge
  pub parts : next.tables.parts ≡ leaf.tables.parts
  pub was : old.leaf ≡ Some leaf
  pub now : new.leaf ≡ Some next

-- ---- other files

pub phase_beside : (file : ℕ) (P : List ℕ → Type 0) (old now : Trace) → IsPhase file P old now → (other : ℕ) → other ≢ file → IsBeside other old now
phase_beside file P old now phase other ne =
    record { same = phase_others file P old now phase other ne; names = ap (λ (files : List NamedBytes). map (λ f. f.name) files) (phase_attached file P old now phase) }

pub still_once : (file : ℕ) (P : List ℕ → Type 0) (old now : Trace) → IsPhase file P old now → IsNamedOnce old → IsNamedOnce now
still_once file P old now phase once = subst (λ (files : List NamedBytes). NoneTwice (map (λ f. f.name) files)) (sym (phase_attached file P old now phase)) once

-- the names behind retired leaves
pub names_behind : (r c : List Placed) → NoneTwice (names_of (members_of r ++ members_of c)) → NoneTwice (names_of (members_of c))
names_behind [] c once = once
names_behind (p ∷ r) c once = names_behind r c once.1

-- files of other names have other numbers
pub apart : (trace : Trace) (top : Placed) (others : List Placed) → IsKept trace top → AllByRecursion (IsKept trace) others → AllByRecursion (λ name. name ≢ top.member.name) (names_of (members_of others))
    → AllByRecursion (λ f. f.number ≢ top.number) others
apart trace top [] kept all ne = tt
apart trace top (p ∷ others) kept all ne = ((λ same. ne.0 (sym all.0.name ∙ ap (name_of trace.attached) same ∙ kept.name)), apart trace top others kept all.1 ne.1)

-- so those below stand still
pub still_read : (number : ℕ) (P : List ℕ → Type 0) (old now : Trace) → IsPhase number P old now → (below : List FileLayer) (others : List Placed) → AllByRecursion (λ f. f.number ≢ number) others
    → HaveFiles below old others → HaveFiles below now others
still_read number P old now phase [] [] ne all = tt
still_read number P old now phase [] (p ∷ others) ne all = absurd all
still_read number P old now phase (l ∷ below) [] ne all = absurd all
still_read number P old now phase (l ∷ below) (p ∷ others) ne all =
    (file_layers_stand.beside l old now p all.0 (phase_beside number P old now phase p.number ne.0), still_read number P old now phase below others ne.1 all.1)

-- ---- the leaf

flush_or : (flush other : Bool) → other ≡ false → cond flush false other ≡ false
flush_or true other h = refl
flush_or false other h = h

flushed : (flush other : Bool) → flush ≡ true → cond flush false other ≡ false
flushed flush other h = ap (λ b. cond b false other) h

-- what is loose outside the dirty sectors and those that are named
none_loose : (z : ℕ) (call : Call) (top : Placed) (s : ℕ) → top.is_loose s ≡ false → is_named z call s ≡ false → either top.is_loose (is_named z call) s ≡ false
none_loose z call top s loose named = or_from (top.is_loose s) (is_named z call s) loose named

pub goes_over : (before after : Placed) (old now : Trace) → after.number ≡ before.number → after.member.name ≡ before.member.name → IsPhase before.number (ShowsFile before) old now → GoesOver before after old now
goes_over before after old now one name phase = record {
  one_file = one;
  one_name = name;
  phase = EachMoment-weaken (HasWholeImages before.number (ShowsFile before) old) (HasWholeImages before.number (λ bytes. ShowsFile before bytes ⊎ ShowsFile after bytes) old) old now
      (λ t has. record { images = λ image left whole. inl (has.images image left whole); others = has.others }) phase;
}

leaf_call : (e : Entry) (v : State) (old now : Trace) → ((s : ℕ) → dirty_now v s ≡ false → v.top.is_loose s ≡ false)
    → IsPhase v.top.number (ShowsFile (wide (sector_of v) e.call v.top)) old now → LeafCall (sector_of v) e (dirty_now v) (either v.top.is_loose (is_named (sector_of v) e.call)) v.top (made (sector_of v) e.call v.top) old now
leaf_call e v old now loose phase =
    let z = sector_of v in
    let top = v.top in
    record {
      z_is = refl;
      more = λ s out. (or_parts (top.is_loose s) (is_named z e.call s) out).0;
      named = λ s clean out.
          let tight = none_loose z e.call top s (loose s clean) out in
          (tight, flush_or (is_flush e.call) (either top.is_loose (is_named z e.call) s) tight);
      tied = record { name = refl; ties = refl };
      layer = λ s. refl;
      over = goes_over (wide z e.call top) (made z e.call top) old now refl refl phase;
    }

leaves_loose : (z : ℕ) (e : Entry) (top : Placed) → LeavesLoose z e top (made z e.call top)
leaves_loose z e top = record {
  call = λ s loose named. flush_or (is_flush e.call) (either top.is_loose (is_named z e.call) s) (none_loose z e.call top s loose named);
  flush = λ flush s. flushed (is_flush e.call) (either top.is_loose (is_named z e.call) s) flush;
}

-- the others' numbers
pub numbers_apart : (layers : Layers) (v : State) (trace : Trace) → IsServing layers v trace → AllByRecursion (λ f. f.number ≢ v.top.number) (others_of v.rest)
numbers_apart layers v trace serving =
    let kept = all_right (IsKept trace) v.retired (files_of v) serving.served.kept in
    apart trace v.top (others_of v.rest) kept.0 kept.1 (names_behind v.retired (files_of v) serving.served.linked.once).0

survives : (e : Entry) (v : State) (layers : Layers) (trace now : Trace) → IsServing layers v trace → IsPhase v.top.number (ShowsFile (wide (sector_of v) e.call v.top)) trace now
    → CallSurvives (sector_of v) v.opening v.history e v.leaf (dirty_now v) (made (sector_of v) e.call v.top) v.retired (made (sector_of v) e.call v.top ∷ (others_of v.rest)) trace now
survives e v layers trace now serving phase =
    call_survives (sector_of v) v.opening v.history e v.leaf (dirty_now v) (either v.top.is_loose (is_named (sector_of v) e.call)) v.retired v.top (made (sector_of v) e.call v.top) v.rest trace now serving.once serving.served
    (leaf_call e v trace now (top_loose (dirty_now v) v.top v.rest serving.loose) phase) serving.loose

-- what a call names is there
there_on : (b : Bool) (bytes : List ℕ) (o rest : Option (List ℕ)) → is_some (option_or o rest) ≡ true → is_some (option_or (cond b (Some bytes) o) rest) ≡ true
there_on true bytes o rest h = refl
there_on false bytes o rest h = h

whole_on : (z : ℕ) (call : Call) (top : Placed) (others : List Placed) → ((s : ℕ) → s < top.member.ties.geometry.sectors → is_some (seen_in (top ∷ others) s) ≡ true)
    → (s : ℕ) → s < top.member.ties.geometry.sectors → is_some (seen_in (made z call top ∷ others) s) ≡ true
whole_on z call top others whole s below = there_on (is_named z call s) (content z call s) (top.member.layer s) (seen_in others s) (whole s below)

-- no other file was changed
pub still_others : (v : State) (layers : Layers) (leaf : Layer) (P : List ℕ → Type 0) (trace now : Trace) → layers.leaf ≡ Some leaf → IsServing layers v trace → IsPhase v.top.number P trace now → LeavesOthers v now
still_others v layers leaf P trace now is serving phase other none =
    let own : v.writes v.top.number ≡ true = (subst (λ o. IfSome o (λ leaf. (v.writes v.top.number ≡ true) × AreWritten v.writes layers.below.items)) is serving.written).0 in
    let ne : other ≢ v.top.number = λ same. (let never : true ≡ false = sym own ∙ ap v.writes (sym same) ∙ none in cc) in
    phase_others v.top.number P trace now phase other ne ∙ serving.still other none

-- what the layers have, once the leaf's was called
held_by : (old new : Layers) (leaf next : Layer) (v : State) (top : Placed) (P : List ℕ → Type 0) (trace now : Trace) → LeafStep old new leaf next → IsServing old v trace → IsPhase v.top.number P trace now → Serves next now top
    → AreHeld new.leaf new.below.items now top (others_of v.rest)
held_by old new leaf next v top P trace now step serving phase serves =
    let held : Serves leaf trace v.top × HaveFiles old.below.items trace (others_of v.rest) = subst (λ o. AreHeld o old.below.items trace v.top (others_of v.rest)) step.was serving.held in
    let read : HaveFiles old.below.items now (others_of v.rest) = still_read v.top.number P trace now phase old.below.items (others_of v.rest) (numbers_apart old v trace serving) held.1 in
    let read' : HaveFiles new.below.items now (others_of v.rest) = subst (λ b. HaveFiles b.items now (others_of v.rest)) (sym step.below) read in
    subst (λ o. AreHeld o new.below.items now top (others_of v.rest)) (sym step.now) (serves, read')

-- the files that it may change are those in a session still
pub written_on : (old new : Layers) (leaf next : Layer) (v : State) → LeafStep old new leaf next → {trace : Trace} → IsServing old v trace → IfSome new.leaf (λ leaf. (v.writes v.top.number ≡ true) × AreWritten v.writes new.below.items)
written_on old new leaf next v step serving =
    let was : (v.writes v.top.number ≡ true) × AreWritten v.writes old.below.items = subst (λ o. IfSome o (λ leaf. (v.writes v.top.number ≡ true) × AreWritten v.writes old.below.items)) step.was serving.written in
    subst (λ o. IfSome o (λ leaf. (v.writes v.top.number ≡ true) × AreWritten v.writes new.below.items)) (sym step.now)
    (subst (λ b. (v.writes v.top.number ≡ true) × AreWritten v.writes b.items) (sym step.below) was)

-- ---- the course

-- what the child's layer goes by
child_parts_on : (old new : Layers) (leaf next : Layer) (place : ℕ) → LeafStep old new leaf next → child_parts new.leaf new.below.items place ≡ child_parts old.leaf old.below.items place
child_parts_on old new leaf next place step =
    ap (λ b. child_parts new.leaf b.items place) step.below
    ∙ ap (λ (o : Option TableParts). cond (place == 0) o (get_or (map (λ l. Some (table_parts l)) old.below.items) (place - 1) None))
    (ap (option_map (λ (l : Layer). l.tables.parts)) step.now ∙ ap Some step.parts ∙ sym (ap (option_map (λ (l : Layer). l.tables.parts)) step.was))

-- a child that differs from the one that is relinked in its layer and in what is loose of it
pub relinks_alike : (table_len : ℕ) (pages : List Page) (child other target : Placed) → other.metadata ≡ child.metadata → other.member.ties ≡ child.member.ties → other.member.name ≡ child.member.name → Relinks table_len pages child target → Relinks table_len pages other target
relinks_alike table_len pages child other target metadata ties name r = record {
  ties = r.ties;
  region = r.region;
  into = record {
    inside = subst (λ m. All (IsInRegion m) pages) (sym metadata) r.into.inside;
    region_is = r.into.region_is ∙ ap (λ m. region_with m pages) (sym metadata);
    reads = subst (λ (x : RegionBytes). (m : Metadata) → read_metadata x.bytes table_len ≡ Ok m → read_metadata r.region table_len ≡ Ok (record m { locator = r.ties.locator; retired = r.ties.retired })) (sym metadata) r.into.reads;
    ties_are = r.into.ties_are ∙ ap (λ (t : Ties). record t { locator = r.ties.locator; retired = r.ties.retired }) (sym ties);
  };
  retired = r.retired ∙ ap (λ (t : Ties). t.retired) (sym ties);
  parent = record { has = r.parent.has; item = r.parent.item; locator = r.parent.locator; pairs = r.parent.pairs; read = r.parent.read; named = r.parent.named; linked = r.parent.linked; geometry = r.parent.geometry };
}

-- the child once the leaf is another, tied alike
relinks_on : (table_len : ℕ) (pages : List Page) (top new : Placed) (above : List Placed) (target : Placed) → new.metadata ≡ top.metadata → new.member.ties ≡ top.member.ties → new.member.name ≡ top.member.name
    → Relinks table_len pages (child_of top above) target → Relinks table_len pages (child_of new above) target
relinks_on table_len pages top new [] target metadata ties name r = relinks_alike table_len pages top new target metadata ties name r
relinks_on table_len pages top new (p ∷ above) target metadata ties name r = r

child_number : (writes : ℕ → Bool) (top new : Placed) (above : List Placed) → new.number ≡ top.number → writes (child_of top above).number ≡ true → writes (child_of new above).number ≡ true
child_number writes top new [] same w = ap writes same ∙ w
child_number writes top new (p ∷ above) same w = w

-- the course goes on while the leaf's layer is called
pub course_on : (z : ℕ) (old new : Layers) (leaf next : Layer) (writes : ℕ → Bool) (top after : Placed) (rest : Rest) → LeafStep old new leaf next → after.metadata ≡ top.metadata → after.member.ties ≡ top.member.ties → after.member.name ≡ top.member.name
    → after.number ≡ top.number → IsCourse z writes old old.merge top rest → IsCourse z writes new new.merge after rest
course_on z old new leaf next writes top after rest step metadata ties name number course = subst (λ o. IsCourse z writes new o after rest) (sym step.merge) (by_rest old.merge rest course)
  where
    by_rest : (o : Option Underway) (rest : Rest) → IsCourse z writes old o top rest → IsCourse z writes new o after rest
    by_rest None (plain others) is = tt
    by_rest None (merging above source target below m) is = absurd is
    by_rest None (retiring target below first before) is = tt
    by_rest (Some u) (plain others) is = absurd is
    by_rest (Some u) (retiring target below first before) is = absurd is
    by_rest (Some u) (merging above source target below m) is = record {
      place = is.place;
      written = is.written;
      child_written = child_number writes top after above number is.child_written;
      parts = is.parts;
      goes_by = child_parts_on old new leaf next u.source step ∙ is.goes_by;
      relinks = relinks_on is.parts.bat_len u.relink top after above target metadata ties name is.relinks;
      marks = is.marks;
      under_way = is.under_way;
    }

-- ---- the merge of the leaf

-- a file that has the same metadata and ties
pub renames_alike : (table_len : ℕ) (pages : List Page) (file other : Placed) (name : Option (List ℕ)) → other.metadata ≡ file.metadata → other.member.ties ≡ file.member.ties → Renames table_len pages file name → Renames table_len pages other name
renames_alike table_len pages file other name metadata ties r = record {
  region = r.region;
  into = record {
    inside = subst (λ m. All (IsInRegion m) pages) (sym metadata) r.into.inside;
    region_is = r.into.region_is ∙ ap (λ m. region_with m pages) (sym metadata);
    reads = subst (λ (x : RegionBytes). (m : Metadata) → read_metadata x.bytes table_len ≡ Ok m → read_metadata r.region table_len ≡ Ok (record m { locator = other.member.ties.locator; retired = name })) (sym metadata)
        (subst (λ (t : Ties). (m : Metadata) → read_metadata file.metadata.bytes table_len ≡ Ok m → read_metadata r.region table_len ≡ Ok (record m { locator = t.locator; retired = name })) (sym ties) r.into.reads);
    ties_are = refl;
  };
}

pub cleared_alike : (table_len : ℕ) (pages : Option (List Page)) (file other : Placed) → other.metadata ≡ file.metadata → other.member.ties ≡ file.member.ties → IsCleared table_len pages file → IsCleared table_len pages other
cleared_alike table_len None file other metadata ties is = ap (λ (t : Ties). t.retired) ties ∙ is
cleared_alike table_len (Some pages) file other metadata ties is = renames_alike table_len pages file other None metadata ties is

leaf_parts_on : (old new : Layers) (leaf next : Layer) → LeafStep old new leaf next → option_map (λ (l : Layer). l.tables.parts) new.leaf ≡ option_map (λ (l : Layer). l.tables.parts) old.leaf
leaf_parts_on old new leaf next step =
    ap (option_map (λ (l : Layer). l.tables.parts)) step.now ∙ ap Some step.parts ∙ sym (ap (option_map (λ (l : Layer). l.tables.parts)) step.was)

-- it goes on while the leaf's layer is called, and neither the leaf nor what is kept of the merge is another
pub leaving_on : (z : ℕ) (h : History) (old new : Layers) (leaf next : Layer) (writes : ℕ → Bool) (top after : Placed) (rest : Rest) → LeafStep old new leaf next → new.retiring ≡ old.retiring
    → after.metadata ≡ top.metadata → after.member.ties ≡ top.member.ties → after.member.layer ≡ top.member.layer → IsRetiring z writes h old old.retiring top rest → IsRetiring z writes h new new.retiring after rest
leaving_on z h old new leaf next writes top after rest step same metadata ties layer is = subst (λ o. IsRetiring z writes h new o after rest) (sym same) (by_rest old.retiring rest is)
  where
    by_rest : (o : Option Retiring) (rest : Rest) → IsRetiring z writes h old o top rest → IsRetiring z writes h new o after rest
    by_rest None (plain others) is = tt
    by_rest None (merging above source target below m) is = tt
    by_rest None (retiring target below first before) is = absurd is
    by_rest (Some r) (plain others) is = absurd is
    by_rest (Some r) (merging above source target below m) is = absurd is
    by_rest (Some r) (retiring target below first before) is = record {
      some = is.some;
      written = is.written;
      parts = is.parts;
      goes_by = leaf_parts_on old new leaf next step ∙ is.goes_by;
      retires = renames_alike is.parts.bat_len r.retire top after (Some target.member.name) metadata ties is.retires;
      lower = is.lower;
      lower_goes_by = ap (λ b. target_parts b.items) step.below ∙ is.lower_goes_by;
      clears = is.clears;
      each = is.each ∙ ap (λ (t : Ties). stripe_count z t.geometry.sectors) (sym ties);
      stamps = λ t there. is.stamps t (subst (λ (k : Ties). t < stripe_count z k.geometry.sectors) ties there);
      under_way = subst (λ (l : SectorLayer). IsUnderWay z first before h (marks_of r.marks) l target.member.layer) (sym layer) is.under_way;
    }

-- a merge stays under way where no stripe is marked that wasn't
pub fewer_marks : (z : ℕ) (first before : SectorLayer) (h : History) (marks more : ℕ → Bool) (source target : SectorLayer) → ((t : ℕ) → marks t ≡ true → more t ≡ true) → IsUnderWay z first before h more source target → IsUnderWay z first before h marks source target
fewer_marks z first before h marks more source target fewer is = record { source_is = is.source_is; rest_stays = is.rest_stays; marked_is_copied = λ s bytes marked own. is.marked_is_copied s bytes (fewer (stripe_of z s) marked) own }

stamp_chosen : (b c : Bool) (n m k : ℕ) → b ≡ c → n ≡ m → cond b n k ≡ cond c m k
stamp_chosen b c n m k e f = ap (λ (b : Bool). cond b n k) e ∙ ap (λ (n : ℕ). cond c n k) f

-- behind a call on the leaf
pub leaving_made : (z place : ℕ) (h : History) (e : Entry) (old new : Layers) (leaf next : Layer) (writes : ℕ → Bool) (top : Placed) (rest : Rest) → LeafStep old new leaf next → Touches z e.call place old.retiring new.retiring
    → NextIn rest (place ≡ length h + 1) → IsRetiring z writes h old old.retiring top rest → IsRetiring z writes (h ++ e ∷ []) new new.retiring (made z e.call top) rest
leaving_made z place h e old new leaf next writes top rest step touched next_is is = by_rest old.retiring new.retiring rest touched next_is is
  where
    by_rest : (o p : Option Retiring) (rest : Rest) → Touches z e.call place o p → NextIn rest (place ≡ length h + 1) → IsRetiring z writes h old o top rest → IsRetiring z writes (h ++ e ∷ []) new p (made z e.call top) rest
    by_rest None None (plain others) touched next_is is = tt
    by_rest None None (merging above source target below m) touched next_is is = tt
    by_rest None None (retiring target below first before) touched next_is is = absurd is
    by_rest None (Some k) rest touched next_is is = absurd touched
    by_rest (Some r) None rest touched next_is is = absurd touched
    by_rest (Some r) (Some k) (plain others) touched next_is is = absurd is
    by_rest (Some r) (Some k) (merging above source target below m) touched next_is is = absurd is
    by_rest (Some r) (Some k) (retiring target below first before) touched next_is is = record {
      some = is.some;
      written = is.written;
      parts = is.parts;
      goes_by = leaf_parts_on old new leaf next step ∙ is.goes_by;
      retires = renames_alike is.parts.bat_len k.retire top (made z e.call top) (Some target.member.name) refl refl
          (subst (λ (pages : List Page). Renames is.parts.bat_len pages top (Some target.member.name)) (sym (ap (λ (r : Retiring). r.retire) touched.rest)) is.retires);
      lower = is.lower;
      lower_goes_by = ap (λ b. target_parts b.items) step.below ∙ is.lower_goes_by;
      clears = subst (λ (pages : Option (List Page)). IsCleared is.lower.bat_len pages target) (sym (ap (λ (r : Retiring). r.clear) touched.rest)) is.clears;
      each = touched.stripes ∙ is.each;
      stamps = λ t there. touched.stamps_are t (subst (λ (n : ℕ). t < n) (sym is.each) there)
          ∙ ap (λ (n : ℕ). cond (touches z e.call t) place n) (is.stamps t there) ∙ stamp_chosen (touches z e.call t) (touches z e.call t) place (length h + 1) (stamp z h t) refl next_is ∙ sym (stamps_by_call.more z h e t);
      under_way = fewer_marks z first before (h ++ e ∷ []) (marks_of k.marks) (marks_after z e.call (marks_of r.marks)) (with_call z e.call top.member.layer) target.member.layer
          (λ t marked. sym (touched.marks_are t) ∙ marked) (kept_by_call z first before h e (marks_of r.marks) top.member.layer (with_call z e.call top.member.layer) target.member.layer is.some (λ s. refl) is.under_way);
    }

-- what a call that changes nothing makes of it
pub touches_none : (z place : ℕ) (call : Call) (o p : Option Retiring) → ((t : ℕ) → touches z call t ≡ false) → p ≡ o → Touches z call place o p
touches_none z place call o p none same = subst (λ (k : Option Retiring). Touches z call place o k) (sym same) (itself o)
  where
    itself : (o : Option Retiring) → Touches z call place o o
    itself None = tt
    itself (Some r) = record {
      rest = refl;
      stripes = refl;
      words = refl;
      marks_are = λ t. sym (ap (λ b. marks_of r.marks t && not b) (none t) ∙ and-true (marks_of r.marks t));
      stamps_are = λ t there. sym (ap (λ (b : Bool). cond b place (stamps_of r.stamps t)) (none t));
    }

-- the call was done
pub done : (e : Entry) (v : State) (old new : Layers) (leaf next : Layer) (trace now : Trace) → LeafStep old new leaf next → IsRetiring (sector_of v) v.writes (v.history ++ e ∷ []) new new.retiring (made (sector_of v) e.call v.top) v.rest → IsServing old v trace → IsMade (sector_of v) e.call v.top next trace now → IsDone e v new trace now
done e v old new leaf next trace now step leaving serving is =
    let z = sector_of v in
    let call = survives e v old trace now serving is.moments in
    record {
      moments = call.moments;
      serving = record {
        once = still_once v.top.number (ShowsFile (wide z e.call v.top)) trace now is.moments serving.once;
        geometry = step.geometry ∙ serving.geometry;
        served = call.served (layers_are_kept next now (made z e.call v.top) is.holds).shows;
        loose = loose_after z v.history e v.top (made z e.call v.top) v.rest (leaves_loose z e v.top) (λ s. refl) serving.loose;
        course = course_on z old new leaf next v.writes v.top (made z e.call v.top) v.rest step refl refl refl refl serving.course;
        leaving = leaving;
        drops = serving.drops;
        held = held_by old new leaf next v (made z e.call v.top) (ShowsFile (wide z e.call v.top)) trace now step serving is.moments is.holds;
        whole = whole_on z e.call v.top (others_of v.rest) serving.whole;
        synced = serving.synced;
        written = written_on old new leaf next v step serving;
        still = still_others v old leaf (ShowsFile (wide z e.call v.top)) trace now step.was serving is.moments;
        past = past_goes_on.call z v.opening v.history e (λ s. false) (λ s. false) v.leaf v.began trace now (λ s out. refl) serving.past call.moments;
      };
    }

-- the call was refused
pub as_before : (v : State) (old new : Layers) (leaf next : Layer) (trace now : Trace) → LeafStep old new leaf next → new.retiring ≡ old.retiring → IsServing old v trace → IsAsBefore v.top next trace now → IsRefused v new trace now
as_before v old new leaf next trace now step same serving is =
    let z = sector_of v in
    let over = leaf_survives z v.opening v.history v.leaf (dirty_now v) v.retired v.top v.top v.rest trace now serving.once serving.served (goes_over v.top v.top trace now refl refl is.moments)
    (λ s. refl) refl serving.loose serving.loose in
    record {
      moments = over.moments;
      serving = record {
        once = still_once v.top.number (ShowsFile v.top) trace now is.moments serving.once;
        geometry = step.geometry ∙ serving.geometry;
        served = over.served (layers_are_kept next now v.top is.holds).shows;
        loose = serving.loose;
        course = course_on z old new leaf next v.writes v.top v.top v.rest step refl refl refl refl serving.course;
        leaving = leaving_on z v.history old new leaf next v.writes v.top v.top v.rest step same refl refl refl serving.leaving;
        drops = serving.drops;
        held = held_by old new leaf next v v.top (ShowsFile v.top) trace now step serving is.moments is.holds;
        whole = serving.whole;
        synced = serving.synced;
        written = written_on old new leaf next v step serving;
        still = still_others v old leaf (ShowsFile v.top) trace now step.was serving is.moments;
        past = past_goes_on.quiet z v.opening v.history (λ s. false) v.leaf v.began trace now serving.past over.moments;
      };
    }

-- the leaf was committed, and no call was made
pub leaf_settled : (v : State) (old new : Layers) (leaf next : Layer) (trace now : Trace) → LeafStep old new leaf next → new.retiring ≡ old.retiring → IsServing old v trace → IsPhase v.top.number (ShowsFile v.top) trace now → Serves next now (settled v.top)
    → EachOpensNow v trace now × IsServing new (record v { top = settled v.top }) now
leaf_settled v old new leaf next trace now step same serving phase serves =
    let z = sector_of v in
    let after : Placed = settled v.top in
    let tight : IsLoose (dirty_now v) after v.rest = new_top (dirty_now v) (dirty_now v) v.top after v.rest refl serving.loose (λ s clean. refl) in
    let over = leaf_survives z v.opening v.history v.leaf (dirty_now v) v.retired v.top after v.rest trace now serving.once serving.served (goes_over v.top after trace now refl refl phase)
    (λ s. refl) refl serving.loose tight in
    let served : IsServing new (record v { top = after }) now = record {
      once = still_once v.top.number (ShowsFile v.top) trace now phase serving.once;
      geometry = step.geometry ∙ serving.geometry;
      served = over.served (layers_are_kept next now after serves).shows;
      loose = tight;
      course = course_on z old new leaf next v.writes v.top after v.rest step refl refl refl refl serving.course;
      leaving = leaving_on z v.history old new leaf next v.writes v.top after v.rest step same refl refl refl serving.leaving;
      drops = serving.drops;
      held = held_by old new leaf next v after (ShowsFile v.top) trace now step serving phase serves;
      whole = serving.whole;
      synced = serving.synced;
      written = written_on old new leaf next v step serving;
      still = still_others v old leaf (ShowsFile v.top) trace now step.was serving phase;
      past = past_goes_on.quiet z v.opening v.history (λ s. false) v.leaf v.began trace now serving.past over.moments;
    } in
    (over.moments, served)

-- a change of the leaf failed
pub failed : (e : Entry) (v : State) (layers : Layers) (trace now : Trace) → IsServing layers v trace → LeavesOthers v now → HasFailed (sector_of v) e.call v.top trace now → HasBroken e v trace now
failed e v layers trace now serving still has =
    let call = survives e v layers trace now serving has.moments in
    record {
      moments = call.moments;
      still = still;
      past = past_goes_on.broken (sector_of v) v.opening v.history (λ s. false) (is_named (sector_of v) e.call) v.leaf v.began trace now (λ s out. refl) serving.past call.moments;
    }

-- nothing was done
pub at_rest : (v : State) (layers : Layers) (trace : Trace) → IsServing layers v trace → IsRefused v layers trace trace
at_rest v layers trace serving = record {
  moments = EachMoment-now (EachOpens v.leaf (dirty_now v) (disk_now v)) trace
      (opens_now (sector_of v) v.opening v.history v.leaf (dirty_now v) v.retired v.top v.rest trace serving.once serving.served serving.loose);
  serving = serving;
}

-- so the layers answer
pub concluded : (place : ℕ) (e : Entry) (v : State) (old new : Layers) (leaf next : Layer) (trace now : Trace) (answer : Result (Unit {0}) LayerFault)
    → LeafStep old new leaf next → LayerFollows place e.call old new answer → IsServing old v trace → IsNextPlace place v → AnswersCall (sector_of v) e.call v.top next trace now answer → LayerAnswers e v new trace now answer
concluded place e v old new leaf next trace now (Ok t) step follows serving next_is is =
    let z = sector_of v in
    let touched = subst (λ (n : ℕ). Touches n e.call place old.retiring new.retiring) (ap (λ (g : Geometry). g.sector) serving.geometry) follows.1 in
    done e v old new leaf next trace now step (leaving_made z place v.history e old new leaf next v.writes v.top v.rest step touched next_is serving.leaving) serving is
concluded place e v old new leaf next trace now (Err (Read fault)) step follows serving next_is is = as_before v old new leaf next trace now step follows.1 serving is
concluded place e v old new leaf next trace now (Err (FileFull n)) step follows serving next_is is = as_before v old new leaf next trace now step follows.1 serving is
concluded place e v old new leaf next trace now (Err (Write fault)) step follows serving next_is is =
    failed e v old trace now serving (still_others v old leaf (ShowsFile (wide (sector_of v) e.call v.top)) trace now step.was serving is.moments) is
