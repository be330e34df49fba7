-- A merge is finished: its child is relinked to the target, and the source leaves the chain.
use Rattle.std.proofs.Common.{◌⊎◌, ◌≡◌, ◌<◌, ℕ, Bool, true, false, List, [], ◌∷◌, ◌++◌, length, refl, sym, ap, subst, ◌∙◌, is_some}
use Rattle.std.specs.Prelude.{Option, Some, None, IfSome}
use Rattle.std.specs.List.{AllByRecursion}
use Rattle.std.specs.Option.{option_or}
use Rattle.std.proofs.lemmas.List.{append_assoc}
use Rattle.layer_session.proofs.FileLayers.{phase_others}
use Rattle.chain_model.proofs.Showing.{all_right}
use Rattle.store_model.specs.Trace.{Trace}
use Rattle.vhdx_format.specs.declared.log_entry.Page.{Page}
use Rattle.chain_model.specs.Layers.{Layer as SectorLayer, through}
use Rattle.chain_model.specs.Merges.{AllMarked, HasAllOf}
use Rattle.chain_model.specs.Stripes.{per_stripe, stripe_count}
use Rattle.chain_model.specs.Members.{IsParentOf, LooksAlike, Ties, layers_of, sectors_of}
use Rattle.chain_model.specs.Images.{NoneLoose, Placed, members_of}
use Rattle.chain_model.specs.Sessions.{GoesOver, IsKept, IsServed, LooseAtTop, ShowsFile}
use Rattle.chain_model.specs.PhaseLaws.{IsNamedOnce, Survives}
use Rattle.chain_model.proofs.Merging.{marked_is_whole}
use Rattle.chain_model.proofs.Phasing.{child_is_relinked}
use Rattle.chain_model.proofs.Serving.{loose_moves, past_goes_on}
use Rattle.layer_session.specs.declared.file.Layer.{Layer}
use Rattle.layer_session.specs.declared.file_layer.FileLayer.{FileLayer}
use Rattle.layer_session.specs.declared.file_layer.FileLayer.TheVariants.{Session}
use Rattle.layer_session.specs.FileLayers.{HaveFiles, number_of}
use Rattle.layer_session.specs.Keeping.{Serves}
use Rattle.layer_session.specs.Updating.{TurnsInto, turned}
use Rattle.layer_session.proofs.Crashes.{layers_are_kept}
use Rattle.layer_session.proofs.Standing.{layers_stand}
use Rattle.chain_core.specs.declared.layers.Layers.{Layers}
use Rattle.chain_core.specs.declared.layers.Underway.{Underway}
use Rattle.chain_core.specs.Answering.{EachOpensNow}
use Rattle.chain_core.specs.States.{AreHeld, AreWritten, IsCourse, IsRetiring, IsServing, IsUnder, Merging, Relinks, State, dirty_now, is_session, merging, plain, seen_in, WasSynced}
use Rattle.chain_core.proofs.Putting.{apart_around, have_all, have_parts, layers_append}
use Rattle.chain_core.proofs.Steps.{names_behind, phase_beside, still_once, still_read}
use Rattle.layer_session.proofs.Equal.{true_false}

-- ---- the child's ties

-- the ties of a file with the locator and the retired name of others
abbrev pub with_locator : Ties → Ties → Ties
with_locator ties other = record ties { locator = other.locator; retired = other.retired }

-- what the pages turn the child into, its ties spelled by what changes
pub into_spelled : (table_len : ℕ) (pages : List Page) (child target : Placed) (r : Relinks table_len pages child target) → TurnsInto table_len pages child (with_locator child.member.ties r.ties) r.region
into_spelled table_len pages child target r = record { inside = r.into.inside; region_is = r.into.region_is; reads = r.into.reads; ties_are = refl }

abbrev pub relinked_child : (table_len : ℕ) (pages : List Page) (child target : Placed) → Relinks table_len pages child target → Placed
relinked_child table_len pages child target r = turned (with_locator child.member.ties r.ties) r.region child

pub parent_spelled : (table_len : ℕ) (pages : List Page) (child target : Placed) (r : Relinks table_len pages child target) → IsParentOf (relinked_child table_len pages child target r).member target.member
parent_spelled table_len pages child target r =
    let e : r.ties ≡ with_locator child.member.ties r.ties = r.into.ties_are in
    record {
      has = sym (ap (λ (t : Ties). t.parent) e) ∙ r.parent.has;
      item = r.parent.item;
      locator = r.parent.locator;
      pairs = r.parent.pairs;
      read = r.parent.read;
      named = r.parent.named;
      linked = r.parent.linked;
      geometry = r.parent.geometry ∙ ap (λ (t : Ties). t.geometry) e;
    }

pub looks_spelled : (table_len : ℕ) (pages : List Page) (child target : Placed) (r : Relinks table_len pages child target) → LooksAlike child.member (relinked_child table_len pages child target r).member
looks_spelled table_len pages child target r = record { name = refl; id = refl; geometry = refl }

-- ---- lists

-- what is seen through layers is there still, where one leaves of which the next has all
pub there_without : (a : List SectorLayer) (x y : SectorLayer) (b : List SectorLayer) (s : ℕ) → ((bytes : List ℕ) → x s ≡ Some bytes → y s ≡ Some bytes) → is_some (through (a ++ x ∷ y ∷ b) s) ≡ true → is_some (through (a ++ y ∷ b) s) ≡ true
there_without [] x y b s all there = first (x s) (y s) (through b s) all there
  where
    first : (o n rest : Option (List ℕ)) → ((bytes : List ℕ) → o ≡ Some bytes → n ≡ Some bytes) → is_some (option_or o (option_or n rest)) ≡ true → is_some (option_or n rest) ≡ true
    first None n rest all there = there
    first (Some k) n rest all there = ap (λ (p : Option (List ℕ)). is_some (option_or p rest)) (all k refl)
there_without (l ∷ a) x y b s all there = behind (l s) (through (a ++ x ∷ y ∷ b) s) (through (a ++ y ∷ b) s) (there_without a x y b s all) there
  where
    behind : (o p q : Option (List ℕ)) → (is_some p ≡ true → is_some q ≡ true) → is_some (option_or o p) ≡ true → is_some (option_or o q) ≡ true
    behind (Some k) p q h there = refl
    behind None p q h there = h there

pub all_without : (P : Placed → Type 0) (a : List Placed) (child new source : Placed) (b : List Placed) → (P child → P new) → AllByRecursion P (a ++ child ∷ source ∷ b) → AllByRecursion P (a ++ new ∷ b)
all_without P [] child new source b h all = (h all.0, all.1.1)
all_without P (x ∷ a) child new source b h all = (all.0, all_without P a child new source b h all.1)

none_loose_without : (s : ℕ) (a : List Placed) (child new source : Placed) (b : List Placed) → (child.is_loose s ≡ false → new.is_loose s ≡ false) → NoneLoose s (a ++ child ∷ source ∷ b) → NoneLoose s (a ++ new ∷ b)
none_loose_without s [] child new source b h all = (h all.0, all.1.1)
none_loose_without s (x ∷ a) child new source b h all = (all.0, none_loose_without s a child new source b h all.1)

-- ---- the relink

-- a chain in which only the first file has loose sectors keeps that while its child is relinked and the source leaves
loose_without : (dirty : ℕ → Bool) (a : List Placed) (child after source : Placed) (b : List Placed) → ((s : ℕ) → after.is_loose s ≡ false) → LooseAtTop dirty (a ++ child ∷ source ∷ b) → LooseAtTop dirty (a ++ after ∷ b)
loose_without dirty [] child after source b tight loose = ((λ s clean. tight s), (λ s. (loose.1 s).1))
loose_without dirty (x ∷ a) child after source b tight loose = (loose.0, (λ s. none_loose_without s a child after source b (λ h. tight s) (loose.1 s)))

-- each sector is in a file still
whole_without : (a : List Placed) (child after source target : Placed) (b : List Placed) (s : ℕ) → after.member.layer ≡ child.member.layer → ((bytes : List ℕ) → source.member.layer s ≡ Some bytes → target.member.layer s ≡ Some bytes)
    → is_some (seen_in (a ++ child ∷ source ∷ target ∷ b) s) ≡ true → is_some (seen_in (a ++ after ∷ target ∷ b) s) ≡ true
whole_without a child after source target b s same all there =
    let la = layers_of (members_of a) in
    let lb = layers_of (members_of b) in
    let e : layers_of (members_of (a ++ child ∷ source ∷ target ∷ b)) ≡ (la ++ child.member.layer ∷ []) ++ source.member.layer ∷ target.member.layer ∷ lb =
    layers_append a (child ∷ source ∷ target ∷ b) ∙ sym (append_assoc la (child.member.layer ∷ []) (source.member.layer ∷ target.member.layer ∷ lb)) in
    let f : layers_of (members_of (a ++ after ∷ target ∷ b)) ≡ (la ++ child.member.layer ∷ []) ++ target.member.layer ∷ lb =
    layers_append a (after ∷ target ∷ b) ∙ ap (λ (x : SectorLayer). la ++ x ∷ target.member.layer ∷ lb) same ∙ sym (append_assoc la (child.member.layer ∷ []) (target.member.layer ∷ lb)) in
    subst (λ (c : List SectorLayer). is_some (through c s) ≡ true) (sym f)
    (there_without (la ++ child.member.layer ∷ []) source.member.layer target.member.layer lb s all (subst (λ (c : List SectorLayer). is_some (through c s) ≡ true) e there))

-- the files of layers of which one is another, in a session as well
written_with : (writes : ℕ → Bool) (a : List FileLayer) (x y : FileLayer) (b : List FileLayer) → writes (number_of x) ≡ is_session x → AreWritten writes (a ++ y ∷ b) → AreWritten writes (a ++ x ∷ b)
written_with writes [] x y b own all = (own, all.1)
written_with writes (l ∷ a) x y b own all = (all.0, written_with writes a x y b own all.1)

written_without : (writes : ℕ → Bool) (a : List FileLayer) (x y : FileLayer) (b : List FileLayer) → AreWritten writes (a ++ x ∷ y ∷ b) → AreWritten writes (a ++ x ∷ b)
written_without writes [] x y b all = (all.0, all.1.1)
written_without writes (l ∷ a) x y b all = (all.0, written_without writes a x y b all.1)

-- The chain `a ++ child ∷ source ∷ target ∷ below`, in which the target has all of the source.
module _ (v : State) (a : List Placed) (child source target : Placed) (below : List Placed) (trace now : Trace) (z : ℕ) (dirty : ℕ → Bool) (once : IsNamedOnce trace)
    (served : IsServed z v.opening v.history v.leaf v.retired (a ++ child ∷ source ∷ target ∷ below) trace) (loose : LooseAtTop dirty (a ++ child ∷ source ∷ target ∷ below)) (drops : v.leaf.drops ≡ Some source.member.name)
    (table_len : ℕ) (pages : List Page) (r : Relinks table_len pages child target) (over : GoesOver child (relinked_child table_len pages child target r) trace now)
    (all : HasAllOf (sectors_of (members_of (a ++ child ∷ source ∷ target ∷ below))) source.member.layer target.member.layer) where
  abbrev after : Placed
  after = relinked_child table_len pages child target r

  pub loose_then : LooseAtTop dirty (a ++ after ∷ target ∷ below)
  loose_then = loose_without dirty a child after source (target ∷ below) (λ s. refl) loose

  pub relinks_then : Survives z v.opening v.history v.leaf dirty after v.retired (a ++ after ∷ target ∷ below) trace now
  relinks_then =
      child_is_relinked z v.opening v.history v.leaf dirty v.retired a child after source target below trace now once served drops over (λ s. refl) (looks_spelled table_len pages child target r) (sym r.retired)
      (parent_spelled table_len pages child target r) all loose loose_then

-- ---- the leaf is the child

-- The leaf goes over to the relinked one, and the source leaves.
pub leaf_relinked : (v : State) (top source target : Placed) (below : List Placed) (m : Merging) (layers new : Layers) (u : Underway) (leaf next : Layer) (x : FileLayer) (rest : List FileLayer) (trace now : Trace)
    → (serving : IsServing layers (record v { top = top; rest = merging [] source target below m }) trace) → layers.leaf ≡ Some leaf → layers.merge ≡ Some u → layers.below.items ≡ x ∷ rest
    → new.geometry ≡ layers.geometry → new.leaf ≡ Some next → new.merge ≡ None → new.retiring ≡ None → new.below.items ≡ rest
    → ((s : ℕ) → target.is_loose s ≡ false) → 0 < per_stripe top.member.ties.geometry.sector → AllMarked (stripe_count top.member.ties.geometry.sector top.member.ties.geometry.sectors) m.marks
    → (table_len : ℕ) (r : Relinks table_len u.relink top target) → GoesOver top (relinked_child table_len u.relink top target r) trace now → Serves next now (relinked_child table_len u.relink top target r)
    → EachOpensNow (record v { top = top; rest = merging [] source target below m }) trace now
    × IsServing new (record v { top = relinked_child table_len u.relink top target r; rest = plain (target ∷ below) }) now
leaf_relinked v top source target below m layers new u leaf next x rest trace now serving is merge was geometry leaf_now no_merge none_now items tight pos marked table_len r over serves =
    let z : ℕ = top.member.ties.geometry.sector in
    let here : State = record v { top = top; rest = merging [] source target below m } in
    let after : Placed = relinked_child table_len u.relink top target r in
    let then : State = record v { top = after; rest = plain (target ∷ below) } in
    let under : IsUnder z v.writes layers u top [] source target m = subst (λ o. IsCourse z v.writes layers o top (merging [] source target below m)) merge serving.course in
    let loose : LooseAtTop (dirty_now here) (top ∷ source ∷ target ∷ below) = loose_moves.committed (dirty_now here) (top ∷ []) source target below serving.loose tight in
    let all : HasAllOf top.member.ties.geometry.sectors source.member.layer target.member.layer = marked_is_whole z top.member.ties.geometry.sectors m.first m.before [] m.marks source.member.layer target.member.layer pos under.under_way marked in
    let on = relinks_then v [] top source target below trace now z (dirty_now here) serving.once serving.served loose serving.drops table_len u.relink r over all in
    let kept = all_right (IsKept trace) v.retired (top ∷ source ∷ target ∷ below) serving.served.kept in
    let once_all = names_behind v.retired (top ∷ source ∷ target ∷ below) serving.served.linked.once in
    let round = apart_around trace [] top (source ∷ target ∷ below) kept once_all in
    let held : Serves leaf trace top × HaveFiles layers.below.items trace (source ∷ target ∷ below) = subst (λ o. AreHeld o layers.below.items trace top (source ∷ target ∷ below)) is serving.held in
    let lined : HaveFiles (x ∷ rest) trace (source ∷ target ∷ below) = subst (λ (c : List FileLayer). HaveFiles c trace (source ∷ target ∷ below)) was held.1 in
    let stand : HaveFiles rest now (target ∷ below) = still_read top.number (λ bytes. ShowsFile top bytes ⊎ ShowsFile after bytes) trace now over.phase rest (target ∷ below) round.1.1 lined.1 in
    let written : (v.writes top.number ≡ true) × AreWritten v.writes (x ∷ rest) =
    subst (λ (c : List FileLayer). (v.writes top.number ≡ true) × AreWritten v.writes c) was (subst (λ o. IfSome o (λ leaf. (v.writes top.number ≡ true) × AreWritten v.writes layers.below.items)) is serving.written) in
    let done : IsServing new then now = record {
      once = still_once top.number (λ bytes. ShowsFile top bytes ⊎ ShowsFile after bytes) trace now over.phase serving.once;
      geometry = geometry ∙ serving.geometry;
      served = on.served (layers_are_kept next now after serves).shows;
      loose = loose_then v [] top source target below trace now z (dirty_now here) serving.once serving.served loose serving.drops table_len u.relink r over all;
      course = subst (λ o. IsCourse z v.writes new o after (plain (target ∷ below))) (sym no_merge) tt;
      leaving = subst (λ o. IsRetiring z v.writes v.history new o after (plain (target ∷ below))) (sym none_now) tt;
      drops = tt;
      held = subst (λ o. AreHeld o new.below.items now after (target ∷ below)) (sym leaf_now) (serves, subst (λ (c : List FileLayer). HaveFiles c now (target ∷ below)) (sym items) stand);
      whole = λ s inside. whole_without [] top after source target below s refl (λ bytes owned. all s bytes inside owned) (serving.whole s inside);
      synced = (serving.synced.0, serving.synced.1.1);
      written = subst (λ o. IfSome o (λ leaf. (v.writes top.number ≡ true) × AreWritten v.writes new.below.items)) (sym leaf_now) (written.0, subst (AreWritten v.writes) (sym items) written.1.1);
      still = λ n none. phase_others top.number (λ bytes. ShowsFile top bytes ⊎ ShowsFile after bytes) trace now over.phase n (λ same. let never : true ≡ false = sym written.0 ∙ ap v.writes (sym same) ∙ none in true_false never) ∙ serving.still n none;
      past = past_goes_on.quiet z v.opening v.history (λ s. false) v.leaf v.began trace now serving.past on.moments;
    } in
    (on.moments, done)

-- ---- the child stands below the leaf

-- It goes over to the relinked one, and the source leaves.
pub child_relinked : (v : State) (top : Placed) (pre : List Placed) (child source target : Placed) (below : List Placed) (m : Merging) (layers new : Layers) (u : Underway) (leaf : Layer) (p : List FileLayer) (l next : Layer) (x : FileLayer) (rest : List FileLayer) (trace now : Trace)
    → (serving : IsServing layers (record v { top = top; rest = merging (pre ++ child ∷ []) source target below m }) trace) → layers.leaf ≡ Some leaf → layers.merge ≡ Some u → layers.below.items ≡ p ++ Session l ∷ x ∷ rest → length p ≡ length pre
    → new.geometry ≡ layers.geometry → new.leaf ≡ Some leaf → new.merge ≡ None → new.retiring ≡ None → new.below.items ≡ p ++ Session next ∷ rest
    → ((s : ℕ) → target.is_loose s ≡ false) → 0 < per_stripe top.member.ties.geometry.sector → AllMarked (stripe_count top.member.ties.geometry.sector top.member.ties.geometry.sectors) m.marks
    → (table_len : ℕ) (r : Relinks table_len u.relink child target) → v.writes child.number ≡ true → GoesOver child (relinked_child table_len u.relink child target r) trace now
    → Serves next now (relinked_child table_len u.relink child target r)
    → EachOpensNow (record v { top = top; rest = merging (pre ++ child ∷ []) source target below m }) trace now
    × IsServing new (record v { top = top; rest = plain (pre ++ relinked_child table_len u.relink child target r ∷ target ∷ below) }) now
child_relinked v top pre child source target below m layers new u leaf p l next x rest trace now serving is merge was place geometry leaf_now no_merge none_now items tight pos marked table_len r child_written over serves =
    let z : ℕ = top.member.ties.geometry.sector in
    let here : State = record v { top = top; rest = merging (pre ++ child ∷ []) source target below m } in
    let after : Placed = relinked_child table_len u.relink child target r in
    let chain : List Placed = (top ∷ pre) ++ child ∷ source ∷ target ∷ below in
    let e : (pre ++ child ∷ []) ++ (source ∷ target ∷ below) ≡ pre ++ child ∷ source ∷ target ∷ below = append_assoc pre (child ∷ []) (source ∷ target ∷ below) in
    let then : State = record v { top = top; rest = plain (pre ++ after ∷ target ∷ below) } in
    let under : IsUnder z v.writes layers u top (pre ++ child ∷ []) source target m = subst (λ o. IsCourse z v.writes layers o top (merging (pre ++ child ∷ []) source target below m)) merge serving.course in
    let served : IsServed z v.opening v.history v.leaf v.retired chain trace = subst (λ (c : List Placed). IsServed z v.opening v.history v.leaf v.retired (top ∷ c) trace) e serving.served in
    let loose : LooseAtTop (dirty_now here) chain =
    subst (λ (c : List Placed). LooseAtTop (dirty_now here) (top ∷ c)) e (loose_moves.committed (dirty_now here) (top ∷ (pre ++ child ∷ [])) source target below serving.loose tight) in
    let all : HasAllOf top.member.ties.geometry.sectors source.member.layer target.member.layer = marked_is_whole z top.member.ties.geometry.sectors m.first m.before [] m.marks source.member.layer target.member.layer pos under.under_way marked in
    let on = relinks_then v (top ∷ pre) child source target below trace now z (dirty_now here) serving.once served loose serving.drops table_len u.relink r over all in
    let kept = all_right (IsKept trace) v.retired chain served.kept in
    let once_all = names_behind v.retired chain served.linked.once in
    let round = apart_around trace (top ∷ pre) child (source ∷ target ∷ below) kept once_all in
    let Goes : List ℕ → Type 0 = λ bytes. ShowsFile child bytes ⊎ ShowsFile after bytes in
    let held : Serves leaf trace top × HaveFiles layers.below.items trace (pre ++ child ∷ source ∷ target ∷ below) =
    subst (λ (c : List Placed). Serves leaf trace top × HaveFiles layers.below.items trace c) e (subst (λ o. AreHeld o layers.below.items trace top ((pre ++ child ∷ []) ++ (source ∷ target ∷ below))) is serving.held) in
    let lined = have_parts p (Session l) (x ∷ rest) trace pre child (source ∷ target ∷ below) place (subst (λ (c : List FileLayer). HaveFiles c trace (pre ++ child ∷ source ∷ target ∷ below)) was held.1) in
    let first : HaveFiles p now pre = still_read child.number Goes trace now over.phase p pre round.0.1 lined.0 in
    let last : HaveFiles rest now (target ∷ below) = still_read child.number Goes trace now over.phase rest (target ∷ below) round.1.1 lined.1.1.1 in
    let stand : HaveFiles (p ++ Session next ∷ rest) now (pre ++ after ∷ target ∷ below) = have_all p (Session next) rest now pre after (target ∷ below) first serves last in
    let top_stands : Serves leaf now top = layers_stand.beside leaf trace now top held.0 (phase_beside child.number Goes trace now over.phase top.number round.0.0) in
    let written : (v.writes top.number ≡ true) × AreWritten v.writes (p ++ Session l ∷ x ∷ rest) =
    subst (λ (c : List FileLayer). (v.writes top.number ≡ true) × AreWritten v.writes c) was (subst (λ o. IfSome o (λ leaf. (v.writes top.number ≡ true) × AreWritten v.writes layers.below.items)) is serving.written) in
    let own : v.writes (number_of (Session next)) ≡ true = ap v.writes (sym serves.number) ∙ child_written in
    let written_then : AreWritten v.writes (p ++ Session next ∷ rest) = written_with v.writes p (Session next) (Session l) rest own (written_without v.writes p (Session l) x rest written.1) in
    let synced = subst (λ (c : List Placed). AllByRecursion (WasSynced v.writes v.since) (top ∷ c)) e serving.synced in
    let done : IsServing new then now = record {
      once = still_once child.number Goes trace now over.phase serving.once;
      geometry = geometry ∙ serving.geometry;
      served = on.served (layers_are_kept next now after serves).shows;
      loose = loose_then v (top ∷ pre) child source target below trace now z (dirty_now here) serving.once served loose serving.drops table_len u.relink r over all;
      course = subst (λ o. IsCourse z v.writes new o top (plain (pre ++ after ∷ target ∷ below))) (sym no_merge) tt;
      leaving = subst (λ o. IsRetiring z v.writes v.history new o top (plain (pre ++ after ∷ target ∷ below))) (sym none_now) tt;
      drops = tt;
      held = subst (λ o. AreHeld o new.below.items now top (pre ++ after ∷ target ∷ below)) (sym leaf_now) (top_stands, subst (λ (c : List FileLayer). HaveFiles c now (pre ++ after ∷ target ∷ below)) (sym items) stand);
      whole = λ s inside. whole_without (top ∷ pre) child after source target below s refl (λ bytes owned. all s bytes inside owned)
          (subst (λ (c : List Placed). is_some (seen_in (top ∷ c) s) ≡ true) e (serving.whole s inside));
      synced = all_without (WasSynced v.writes v.since) (top ∷ pre) child after source (target ∷ below) (λ h. h) synced;
      written = subst (λ o. IfSome o (λ leaf. (v.writes top.number ≡ true) × AreWritten v.writes new.below.items)) (sym leaf_now) (written.0, subst (AreWritten v.writes) (sym items) written_then);
      still = λ n none. phase_others child.number Goes trace now over.phase n (λ same. let never : true ≡ false = sym child_written ∙ ap v.writes (sym same) ∙ none in true_false never) ∙ serving.still n none;
      past = past_goes_on.quiet z v.opening v.history (λ s. false) v.leaf v.began trace now serving.past on.moments;
    } in
    (on.moments, done)
