-- The leaf of a merge is retired and its target succeeds it: the files that are changed go over, one after another.
use Rattle.std.proofs.Common.{◌⊎◌, ◌≡◌, ◌≢◌, ◌<◌, ◌==◌, ℕ, Bool, true, false, cond, List, [], ◌∷◌, ◌++◌, refl, sym, ap, subst, ◌∙◌, is_some, map, ne_eqb}
use Rattle.std.specs.Prelude.{Some, None, IfSome}
use Rattle.std.specs.List.{AllByRecursion}
use Rattle.std.specs.Option.{option_or}
use Rattle.chain_model.proofs.Showing.{all_right}
use Rattle.store_model.specs.File.{is_synced, seen}
use Rattle.store_model.specs.Trace.{Trace, file_of}
use Rattle.vx_base.specs.declared.parts.Geometry.{Geometry}
use Rattle.guest_model.specs.History.{is_dirty}
use Rattle.chain_model.specs.Images.{Placed, members_of}
use Rattle.chain_model.specs.Layers.{Layer as SectorLayer}
use Rattle.chain_model.specs.Members.{IsChain, IsChainOf, LooksAlike, Member, NoneTwice, names_of}
use Rattle.chain_model.specs.Merges.{HasAllOf}
use Rattle.chain_model.specs.Moments.{EachOpensToPrefix, IsPhase}
use Rattle.chain_model.specs.PhaseLaws.{IsNamedOnce, Survives}
use Rattle.chain_model.specs.Sessions.{GoesOver, HasGoneOver, IsKept, IsServed, LooseAtTop, ShowsFile}
use Rattle.chain_model.proofs.Linking.{files_may_change}
use Rattle.chain_model.proofs.Phasing.{file_goes_over, leaf_is_retired, retired_goes_over, target_goes_over}
use Rattle.chain_model.proofs.Serving.{loose_moves, past_goes_on}
use Rattle.layer_session.specs.declared.file.Layer.{Layer}
use Rattle.layer_session.specs.declared.file_layer.FileLayer.{FileLayer}
use Rattle.layer_session.specs.declared.file_layer.FileLayer.TheVariants.{Session}
use Rattle.layer_session.specs.Calls.{settled}
use Rattle.layer_session.specs.Unnamed.{NamesNoLog}
use Rattle.layer_session.specs.FileLayers.{HaveFiles, number_of}
use Rattle.layer_session.specs.Keeping.{Serves}
use Rattle.layer_session.proofs.Crashes.{layers_are_kept}
use Rattle.layer_session.proofs.FileLayers.{file_layers_stand, phase_others}
use Rattle.layer_session.proofs.Standing.{layers_stand}
use Rattle.chain_core.specs.declared.layers.Layers.{Layers}
use Rattle.chain_core.specs.Answering.{EachOpensNow, HasEnded}
use Rattle.chain_core.specs.Finished.{IsSucceeded, look_of, named_anew}
use Rattle.chain_core.specs.States.{AreHeld, AreWritten, IsCourse, IsRetiring, IsServing, LeavesOthers, State, WasSynced, dirty_now, plain, retiring, sector_of, seen_in}
use Rattle.chain_core.proofs.LeafTargets.{round}
use Rattle.chain_core.proofs.Putting.{apart_around}
use Rattle.chain_core.proofs.Rests.{leaf_survives}
use Rattle.chain_core.proofs.Steps.{goes_over, names_behind, phase_beside, still_once, still_read}
use Rattle.layer_session.proofs.Equal.{true_false}

-- ---- what a change of a file leaves

-- one that may be changed
moved : (v : State) (n : ℕ) (P : List ℕ → Type 0) (trace now : Trace) → v.writes n ≡ true → LeavesOthers v trace → EachOpensToPrefix (sector_of v) v.opening v.history (λ s. false) v.leaf v.began trace → IsPhase n P trace now → EachOpensNow v trace now → HasEnded v trace now
moved v n P trace now written still past phase moments = record {
  moments = moments;
  still = λ k none. phase_others n P trace now phase k (λ same. let never : true ≡ false = sym written ∙ ap v.writes (sym same) ∙ none in true_false never) ∙ still k none;
  past = past_goes_on.quiet (sector_of v) v.opening v.history (λ s. false) v.leaf v.began trace now past moments;
}

-- a file of the chain that has the same parent
pub chain_on : (a b : Member) → b.ties.parent ≡ a.ties.parent → b.ties.locator ≡ a.ties.locator → b.ties.geometry ≡ a.ties.geometry → (others : List Member) → IsChain (a ∷ others) → IsChain (b ∷ others)
chain_on a b parent locator geometry [] is = parent ∙ is
chain_on a b parent locator geometry (p ∷ others) is = (
  record {
    has = parent ∙ is.0.has;
    item = is.0.item;
    locator = locator ∙ is.0.locator;
    pairs = is.0.pairs;
    read = is.0.read;
    named = is.0.named;
    linked = is.0.linked;
    geometry = is.0.geometry ∙ sym geometry;
  },
  is.1,
)

-- ---- while the leaf is there

-- The chain from the leaf on is served, with its target committed, and each file has its layer.
pub record Stands (v : State) (top target : Placed) (below : List Placed) (leaf l : Layer) (rest : List FileLayer) (now : Trace) : Type 0 where
  pub once : IsNamedOnce now
  pub served : IsServed (sector_of v) v.opening v.history v.leaf v.retired (top ∷ target ∷ below) now
  pub loose : LooseAtTop (dirty_now v) (top ∷ target ∷ below)
  pub drops : v.leaf.drops ≡ Some top.member.name
  pub top_held : Serves leaf now top
  pub target_held : Serves l now target
  pub rest_held : HaveFiles rest now below
  pub still : LeavesOthers v now
  pub past : EachOpensToPrefix (sector_of v) v.opening v.history (λ s. false) v.leaf v.began now

-- And once it is retired, the chain from the target on.
pub record IsLeft (v : State) (gone target : Placed) (below : List Placed) (leaf l : Layer) (rest : List FileLayer) (now : Trace) : Type 0 where
  pub once : IsNamedOnce now
  pub served : IsServed (sector_of v) v.opening v.history v.leaf (v.retired ++ gone ∷ []) (target ∷ below) now
  pub loose : LooseAtTop (dirty_now v) (target ∷ below)
  pub gone_held : Serves leaf now gone
  pub target_held : Serves l now target
  pub rest_held : HaveFiles rest now below
  pub still : LeavesOthers v now
  pub past : EachOpensToPrefix (sector_of v) v.opening v.history (λ s. false) v.leaf v.began now

-- And once that one's session has ended.
pub record IsHandedOver (v : State) (gone target : Placed) (below : List Placed) (l : Layer) (rest : List FileLayer) (now : Trace) : Type 0 where
  pub once : IsNamedOnce now
  pub served : IsServed (sector_of v) v.opening v.history v.leaf (v.retired ++ gone ∷ []) (target ∷ below) now
  pub loose : LooseAtTop (dirty_now v) (target ∷ below)
  pub target_held : Serves l now target
  pub rest_held : HaveFiles rest now below
  pub below_gone : AllByRecursion (λ f. f.number ≢ gone.number) (target ∷ below)
  pub still : LeavesOthers v now
  pub past : EachOpensToPrefix (sector_of v) v.opening v.history (λ s. false) v.leaf v.began now

-- the target is committed
module _ (v : State) (target : Placed) (below : List Placed) (first before : SectorLayer) (layers : Layers) (leaf l : Layer) (rest : List FileLayer) (trace : Trace) (serving : IsServing layers (record v { rest = retiring target below first before }) trace)
    (leaf_is : layers.leaf ≡ Some leaf) (was : layers.below.items ≡ Session l ∷ rest) (now : Trace) (phase : IsPhase target.number (ShowsFile target) trace now) where
  start_survives : Survives (sector_of v) v.opening v.history v.leaf (dirty_now v) (settled target) v.retired (v.top ∷ settled target ∷ below) trace now
  start_survives =
      target_goes_over (sector_of v) v.opening v.history v.leaf (dirty_now v) v.retired [] v.top target (settled target) below trace now serving.once serving.served (goes_over target (settled target) trace now refl refl phase)
      (λ s none. refl) refl serving.loose (record { others = serving.loose.others; owned = λ s none. refl })

  pub start_moves : v.writes target.number ≡ true → HasEnded v trace now
  start_moves written = moved v target.number (ShowsFile target) trace now written serving.still serving.past phase start_survives.moments

  pub start_stands : v.writes target.number ≡ true → (next : Layer) → Serves next now (settled target) → Stands v v.top (settled target) below leaf next rest now
  start_stands written next serves =
      let held = subst (λ (b : List FileLayer). Serves leaf trace v.top × HaveFiles b trace (target ∷ below)) was (subst (λ o. AreHeld o layers.below.items trace v.top (target ∷ below)) leaf_is serving.held) in
      let far = round v target below first before layers leaf l rest trace serving leaf_is was in
      record {
        once = still_once target.number (ShowsFile target) trace now phase serving.once;
        served = start_survives.served (layers_are_kept next now (settled target) serves).shows;
        loose = loose_moves.committed (dirty_now v) [] v.top (settled target) below (record { others = serving.loose.others; owned = λ s none. refl }) (λ s. refl);
        drops = serving.drops;
        top_held = layers_stand.beside leaf trace now v.top held.0 (phase_beside target.number (ShowsFile target) trace now phase v.top.number far.0.0);
        target_held = serves;
        rest_held = still_read target.number (ShowsFile target) trace now phase rest below far.1 held.1.1;
        still = (start_moves written).still;
        past = (start_moves written).past;
      }

module _ (v : State) (top target : Placed) (below : List Placed) (leaf l : Layer) (rest : List FileLayer) (trace now : Trace) (at : Stands v top target below leaf l rest trace) where
  kept_all : AllByRecursion (IsKept trace) (top ∷ target ∷ below)
  kept_all = all_right (IsKept trace) v.retired (top ∷ target ∷ below) at.served.kept

  once_all : NoneTwice (names_of (members_of (top ∷ target ∷ below)))
  once_all = names_behind v.retired (top ∷ target ∷ below) at.served.linked.once

  below_top : AllByRecursion (λ f. f.number ≢ top.number) (target ∷ below)
  below_top = (apart_around trace [] top (target ∷ below) kept_all once_all).1

  -- the leaf is committed
  module _ (phase : IsPhase top.number (ShowsFile top) trace now) (written : v.writes top.number ≡ true) where
    top_survives : Survives (sector_of v) v.opening v.history v.leaf (dirty_now v) (settled top) v.retired (settled top ∷ target ∷ below) trace now
    top_survives =
        leaf_survives (sector_of v) v.opening v.history v.leaf (dirty_now v) v.retired top (settled top) (plain (target ∷ below)) trace now at.once at.served (goes_over top (settled top) trace now refl refl phase)
        (λ s. refl) refl at.loose ((λ s clean. refl), at.loose.1)

    pub top_moves : HasEnded v trace now
    top_moves = moved v top.number (ShowsFile top) trace now written at.still at.past phase top_survives.moments

    pub top_stands : (next : Layer) → Serves next now (settled top) → Stands v (settled top) target below next l rest now
    top_stands next serves = record {
      once = still_once top.number (ShowsFile top) trace now phase at.once;
      served = top_survives.served (layers_are_kept next now (settled top) serves).shows;
      loose = ((λ s clean. refl), at.loose.1);
      drops = at.drops;
      top_held = serves;
      target_held = layers_stand.beside l trace now target at.target_held (phase_beside top.number (ShowsFile top) trace now phase target.number below_top.0);
      rest_held = still_read top.number (ShowsFile top) trace now phase rest below below_top.1 at.rest_held;
      still = top_moves.still;
      past = top_moves.past;
    }

  -- the target is tied otherwise, but its child sees no difference
  module _ (after : Placed) (over : GoesOver target after trace now) (layer : after.member.layer ≡ target.member.layer) (looks : LooksAlike target.member after.member) (up : IsChain (after.member ∷ members_of below)) (tight : (s : ℕ) → after.is_loose s ≡ false)
      (written : v.writes target.number ≡ true) where
    abbrev Goes : List ℕ → Type 0
    Goes bytes = ShowsFile target bytes ⊎ ShowsFile after bytes

    tied : IsChainOf v.leaf.name (members_of v.retired) (top.member ∷ after.member ∷ members_of below)
    tied = files_may_change.lower v.leaf.name (members_of v.retired) top.member [] target.member after.member (members_of below) (members_of below) at.served.linked looks refl up

    loose_then : LooseAtTop (dirty_now v) (top ∷ after ∷ below)
    loose_then = (at.loose.0, (λ s. (tight s, (at.loose.1 s).1)))

    target_survives : Survives (sector_of v) v.opening v.history v.leaf (dirty_now v) after v.retired (top ∷ after ∷ below) trace now
    target_survives =
        file_goes_over (sector_of v) v.opening v.history v.leaf (dirty_now v) v.retired (top ∷ []) target after below trace now at.once at.served over (λ s. ap (λ (k : SectorLayer). k s) (sym layer)) looks.geometry tied at.loose loose_then

    pub target_moves : HasEnded v trace now
    target_moves = moved v target.number Goes trace now written at.still at.past over.phase target_survives.moments

    pub target_stands : (next : Layer) → Serves next now after → Stands v top after below leaf next rest now
    target_stands next serves =
        let far = apart_around trace (top ∷ []) target below kept_all once_all in
        record {
          once = still_once target.number Goes trace now over.phase at.once;
          served = target_survives.served (layers_are_kept next now after serves).shows;
          loose = loose_then;
          drops = at.drops;
          top_held = layers_stand.beside leaf trace now top at.top_held (phase_beside target.number Goes trace now over.phase top.number far.0.0);
          target_held = serves;
          rest_held = still_read target.number Goes trace now over.phase rest below far.1 at.rest_held;
          still = target_moves.still;
          past = target_moves.past;
        }

  -- the leaf is retired in favour of the target, which has all of it
  module _ (gone : Placed) (over : GoesOver top gone trace now) (names : gone.member.ties.retired ≡ Some target.member.name) (clear : target.member.ties.retired ≡ None) (all : HasAllOf top.member.ties.geometry.sectors top.member.layer target.member.layer)
      (written : v.writes top.number ≡ true) where
    abbrev Retires : List ℕ → Type 0
    Retires bytes = ShowsFile top bytes ⊎ ShowsFile gone bytes

    gone_survives : Survives (sector_of v) v.opening v.history v.leaf (dirty_now v) gone (v.retired ++ gone ∷ []) (target ∷ below) trace now
    gone_survives =
        leaf_is_retired (sector_of v) v.opening v.history v.leaf (dirty_now v) v.retired top gone target below trace now at.once at.served at.drops over names clear all at.loose (loose_moves.retired (dirty_now v) top target below at.loose)

    pub gone_moves : HasEnded v trace now
    gone_moves = moved v top.number Retires trace now written at.still at.past over.phase gone_survives.moments

    pub gone_left : (next : Layer) → Serves next now gone → IsLeft v gone target below next l rest now
    gone_left next serves = record {
      once = still_once top.number Retires trace now over.phase at.once;
      served = gone_survives.served (layers_are_kept next now gone serves).shows;
      loose = loose_moves.retired (dirty_now v) top target below at.loose;
      gone_held = serves;
      target_held = layers_stand.beside l trace now target at.target_held (phase_beside top.number Retires trace now over.phase target.number below_top.0);
      rest_held = still_read top.number Retires trace now over.phase rest below below_top.1 at.rest_held;
      still = gone_moves.still;
      past = gone_moves.past;
    }

-- ---- once it is retired

kept_from : (trace : Trace) (r : List Placed) (g : Placed) (c : List Placed) → AllByRecursion (IsKept trace) ((r ++ g ∷ []) ++ c) → AllByRecursion (IsKept trace) (g ∷ c)
kept_from trace [] g c all = all
kept_from trace (p ∷ r) g c all = kept_from trace r g c all.1

names_from : (r : List Placed) (g : Placed) (c : List Placed) → NoneTwice (names_of (members_of (r ++ g ∷ []) ++ members_of c)) → NoneTwice (names_of (members_of (g ∷ c)))
names_from [] g c once = once
names_from (p ∷ r) g c once = names_from r g c once.1

module _ (v : State) (gone target : Placed) (below : List Placed) (leaf l : Layer) (rest : List FileLayer) (trace now : Trace) (at : IsLeft v gone target below leaf l rest trace) where
  kept_left : AllByRecursion (IsKept trace) (gone ∷ target ∷ below)
  kept_left = kept_from trace v.retired gone (target ∷ below) at.served.kept

  once_left : NoneTwice (names_of (members_of (gone ∷ target ∷ below)))
  once_left = names_from v.retired gone (target ∷ below) at.served.linked.once

  pub below_gone : AllByRecursion (λ f. f.number ≢ gone.number) (target ∷ below)
  below_gone = (apart_around trace [] gone (target ∷ below) kept_left once_left).1

  -- the target gets another identifier
  module _ (after : Placed) (over : GoesOver target after trace now) (layer : after.member.layer ≡ target.member.layer) (geometry : target.member.ties.geometry ≡ after.member.ties.geometry) (unretired : target.member.ties.retired ≡ after.member.ties.retired)
      (up : IsChain (after.member ∷ members_of below)) (loose : LooseAtTop (dirty_now v) (after ∷ below)) (written : v.writes target.number ≡ true) where
    abbrev Renamed : List ℕ → Type 0
    Renamed bytes = ShowsFile target bytes ⊎ ShowsFile after bytes

    linked_then : IsChainOf v.leaf.name (members_of (v.retired ++ gone ∷ [])) (after.member ∷ members_of below)
    linked_then = files_may_change.leaf v.leaf.name (members_of (v.retired ++ gone ∷ [])) target.member after.member (members_of below) (members_of below) at.served.linked (sym over.one_name) unretired refl up

    named_survives : Survives (sector_of v) v.opening v.history v.leaf (dirty_now v) after (v.retired ++ gone ∷ []) (after ∷ below) trace now
    named_survives =
        file_goes_over (sector_of v) v.opening v.history v.leaf (dirty_now v) (v.retired ++ gone ∷ []) [] target after below trace now at.once at.served over (λ s. ap (λ (k : SectorLayer). k s) (sym layer)) geometry linked_then at.loose loose

    pub named_moves : HasEnded v trace now
    named_moves = moved v target.number Renamed trace now written at.still at.past over.phase named_survives.moments

    pub named_left : (next : Layer) → Serves next now after → IsLeft v gone after below leaf next rest now
    named_left next serves =
        let far = apart_around trace (gone ∷ []) target below kept_left once_left in
        record {
          once = still_once target.number Renamed trace now over.phase at.once;
          served = named_survives.served (layers_are_kept next now after serves).shows;
          loose = loose;
          gone_held = layers_stand.beside leaf trace now gone at.gone_held (phase_beside target.number Renamed trace now over.phase gone.number far.0.0);
          target_held = serves;
          rest_held = still_read target.number Renamed trace now over.phase rest below far.1 at.rest_held;
          still = named_moves.still;
          past = named_moves.past;
        }

  -- the retired leaf's session ends
  module _ (phase : IsPhase gone.number (ShowsFile gone) trace now) (written : v.writes gone.number ≡ true) where
    end_survives : Survives (sector_of v) v.opening v.history v.leaf (dirty_now v) gone (v.retired ++ gone ∷ []) (target ∷ below) trace now
    end_survives =
        retired_goes_over (sector_of v) v.opening v.history v.leaf (dirty_now v) v.retired gone gone [] (target ∷ below) trace now at.once at.served (goes_over gone gone trace now refl refl phase) refl at.loose

    pub end_moves : HasEnded v trace now
    end_moves = moved v gone.number (ShowsFile gone) trace now written at.still at.past phase end_survives.moments

    pub end_left : HasGoneOver gone now → IsHandedOver v gone target below l rest now
    end_left shows = record {
      once = still_once gone.number (ShowsFile gone) trace now phase at.once;
      served = end_survives.served shows;
      loose = at.loose;
      below_gone = below_gone;
      target_held = layers_stand.beside l trace now target at.target_held (phase_beside gone.number (ShowsFile gone) trace now phase target.number below_gone.0);
      rest_held = still_read gone.number (ShowsFile gone) trace now phase rest below below_gone.1 at.rest_held;
      still = end_moves.still;
      past = end_moves.past;
    }

-- ---- the target is the leaf

-- What is known of a merge of the leaf that is finished, whatever was committed since: of the leaf, of its target and of the files below.
pub record CanSucceed (v : State) (target : Placed) (below : List Placed) (geometry : Geometry) (rest : List FileLayer) : Type 0 where
  pub top_written : v.writes v.top.number ≡ true
  pub target_written : v.writes target.number ≡ true
  pub rest_written : AreWritten v.writes rest
  pub synced : AllByRecursion (WasSynced v.writes v.since) below
  pub whole : (s : ℕ) → s < v.top.member.ties.geometry.sectors → is_some (seen_in (target ∷ below) s) ≡ true
  pub alike : target.member.ties.geometry ≡ v.top.member.ties.geometry
  pub geometry_is : geometry ≡ v.top.member.ties.geometry

-- the files that may be changed, without one
abbrev pub writes_but : ℕ → (ℕ → Bool) → ℕ → Bool
writes_but n writes k = cond (k == n) false (writes k)

others_write : (n : ℕ) (writes : ℕ → Bool) (k : ℕ) → k ≢ n → writes_but n writes k ≡ writes k
others_write n writes k ne = ap (λ (b : Bool). cond b false (writes k)) (ne_eqb k n ne)

synced_then : (n : ℕ) (v : State) (now : Trace) → LeavesOthers v now → (below : List Placed) → AllByRecursion (λ f. f.number ≢ n) below → AllByRecursion (WasSynced v.writes v.since) below → AllByRecursion (WasSynced (writes_but n v.writes) now) below
synced_then n v now still [] ne all = tt
synced_then n v now still (f ∷ below) ne all =
    ((λ none. let was : v.writes f.number ≡ false = sym (others_write n v.writes f.number ne.0) ∙ none in ap is_synced (still f.number was) ∙ all.0 was), synced_then n v now still below ne.1 all.1)

written_then : (n : ℕ) (writes : ℕ → Bool) (now : Trace) (rest : List FileLayer) (below : List Placed) → HaveFiles rest now below → AllByRecursion (λ f. f.number ≢ n) below → AreWritten writes rest → AreWritten (writes_but n writes) rest
written_then n writes now [] below have ne all = tt
written_then n writes now (l ∷ rest) [] have ne all = absurd have
written_then n writes now (l ∷ rest) (f ∷ below) have ne all =
    (others_write n writes (number_of l) (λ e. ne.0 (file_layers_stand.number l now f have.0 ∙ e)) ∙ all.0, written_then n writes now rest below have.1 ne.1 all.1)

module _ (v : State) (target top : Placed) (below : List Placed) (geometry : Geometry) (l : Layer) (rest : List FileLayer) (can : CanSucceed v target below geometry rest) (id : List ℕ) (looks : look_of top ≡ named_anew id target) (gone : Placed)
    (number : gone.number ≡ v.top.number) (name : gone.member.name ≡ v.top.member.name) (leads : gone.member.ties.retired ≡ Some target.member.name) (tight : (s : ℕ) → gone.is_loose s ≡ false) (now : Trace) (at : IsHandedOver v gone top below l rest now) (rests : is_synced (file_of now v.top.number) ≡ true) (no_log : NamesNoLog (seen (file_of now v.top.number))) where
  far : AllByRecursion (λ f. f.number ≢ v.top.number) (top ∷ below)
  far = subst (λ (n : ℕ). AllByRecursion (λ f. f.number ≢ n) (top ∷ below)) number at.below_gone

  top_alike : top.member.ties.geometry ≡ v.top.member.ties.geometry
  top_alike = ap (λ k. k.geometry) looks ∙ can.alike

  abbrev then : State
  then = record v { top = top; rest = plain below; retired = v.retired ++ gone ∷ []; writes = λ n. cond (n == v.top.number) false (v.writes n); since = now }

  sector : sector_of v ≡ top.member.ties.geometry.sector
  sector = ap (λ (g : Geometry). g.sector) (sym top_alike)

  top_writes : writes_but v.top.number v.writes top.number ≡ true
  top_writes = others_write v.top.number v.writes top.number far.0 ∙ ap (λ k. v.writes k.number) looks ∙ can.target_written

  pub succeeded : (new : Layers) → new.geometry ≡ geometry → new.leaf ≡ Some l → new.below.items ≡ rest → new.merge ≡ None → new.retiring ≡ None → IsSucceeded id v target below new now
  succeeded new geometry_now leaf_now items no_merge none_now = record {
    top = top;
    others = below;
    leaf = gone;
    files = ap (λ k. k ∷ map look_of below) looks;
    is_retired = record { tight = tight; number = number; name = name; leads = leads };
    still = at.still;
    rests = rests;
    no_log = no_log;
    serving = record {
      once = at.once;
      geometry = geometry_now ∙ can.geometry_is ∙ sym top_alike;
      served = subst (λ (z : ℕ). IsServed z v.opening v.history v.leaf (v.retired ++ gone ∷ []) (top ∷ below) now) sector at.served;
      loose = subst (λ (z : ℕ). LooseAtTop (is_dirty z v.history) (top ∷ below)) sector at.loose;
      course = subst (λ o. IsCourse (sector_of then) then.writes new o top (plain below)) (sym no_merge) tt;
      leaving = subst (λ o. IsRetiring (sector_of then) then.writes v.history new o top (plain below)) (sym none_now) tt;
      drops = tt;
      held = subst (λ o. AreHeld o new.below.items now top below) (sym leaf_now) (at.target_held, subst (λ (b : List FileLayer). HaveFiles b now below) (sym items) at.rest_held);
      whole = λ s inside. subst (λ (k : SectorLayer). is_some (option_or (k s) (seen_in below s)) ≡ true) (sym (ap (λ k. k.layer) looks)) (can.whole s (subst (λ (g : Geometry). s < g.sectors) top_alike inside));
      synced = ((λ none. absurd (let never : true ≡ false = sym top_writes ∙ none in true_false never)), synced_then v.top.number v now at.still below far.1 can.synced);
      written = subst (λ o. IfSome o (λ leaf. (then.writes top.number ≡ true) × AreWritten then.writes new.below.items)) (sym leaf_now)
          (top_writes, subst (AreWritten then.writes) (sym items) (written_then v.top.number v.writes now rest below at.rest_held far.1 can.rest_written));
      still = λ other none. refl;
      past = subst (λ (z : ℕ). EachOpensToPrefix z v.opening v.history (λ s. false) v.leaf v.began now) sector at.past;
    };
  }
