-- The merge of the leaf is finished, step by step, where the store tells its content.
use Rattle.std.proofs.Common.{◌≡◌, ◌<◌, ◌+◌, ℕ, true, List, [], ◌∷◌, ◌++◌, refl, sym, ap, subst, ◌∙◌, arith}
use Rattle.std.specs.Prelude.{Option, Some, None, option_map, IfSome, Result, Ok, Err}
use Rattle.store_model.specs.Disk.{Disk, WhereBothTold}
use Rattle.store_model.specs.declared.fault.StoreFault.{StoreFault}
use Rattle.store_model.specs.File.{is_synced, seen}
use Rattle.store_model.specs.Trace.{Trace, file_of}
use Rattle.table_pages.specs.declared.tables.TableParts.{TableParts}
use Rattle.vhdx_format.specs.declared.log_entry.Page.{Page}
use Rattle.chain_model.specs.Images.{Placed, members_of}
use Rattle.chain_model.specs.Layers.{Layer as SectorLayer}
use Rattle.chain_model.specs.Members.{layers_of}
use Rattle.chain_model.specs.Merges.{AllMarked, HasAllOf}
use Rattle.chain_model.specs.Sessions.{GoesOver, IsKept}
use Rattle.chain_model.specs.Stripes.{stripe_count}
use Rattle.chain_model.proofs.Merging.{marked_is_whole}
use Rattle.layer_session.specs.declared.file.Layer.{Layer}
use Rattle.layer_session.specs.declared.file_layer.FileLayer.{FileLayer}
use Rattle.layer_session.specs.declared.file_layer.FileLayer.TheVariants.{Session}
use Rattle.layer_session.specs.Calls.{HasCommitted, HasEnded as EndsFile, KeepsOver, settled}
use Rattle.layer_session.specs.Identifying.{HasIdentified, IdentifiesOver, identified}
use Rattle.layer_session.specs.Keeping.{Serves}
use Rattle.layer_session.specs.Unnamed.{NamesNoLog}
use Rattle.layer_session.specs.Updating.{HasUpdated, UpdatesOver, turned}
use Rattle.merge_core.specs.Copied.{marks_of}
use Rattle.chain_core.specs.declared.layers.Layers.{Layers}
use Rattle.chain_core.specs.declared.layers.Retiring.{Retiring}
use Rattle.chain_core.specs.Answering.{EachOpensNow, HasEnded}
use Rattle.chain_core.specs.Finished.{ChangesFile, FinishesTo, HandsOver, Identifies, IsAllMarked, IsExchanged, IsSucceeded, LeavesBy, Look, Settles, UpdatesBy, at_leaf, at_lower, look_of, named_anew}
use Rattle.chain_core.specs.States.{AreWritten, IsCleared, IsLeaving, IsRetiring, IsServing, Renames, Rest, State, merging, plain, retiring, sector_of, target_parts, with_retired}
use Rattle.chain_core.proofs.LeafTargets.{serves_target}
use Rattle.chain_core.proofs.Relinked.{there_without}
use Rattle.chain_core.proofs.Steps.{renames_alike}
use Rattle.chain_core.proofs.Succeeding.{CanSucceed, IsLeft, Stands, chain_on, end_left, end_moves, gone_left, gone_moves, named_left, named_moves, start_moves, start_stands, succeeded, target_moves, target_stands, top_moves, top_stands}
use Rattle.chain_core.proofs.Finishes.{joined}
use Rattle.store_model.proofs.Told.{both_and, both_join, both_from}
use Rattle.layer_session.proofs.Equal.{rest_same, some_same}

-- ---- a change of the leaf, and of the first file below it

pub record LeafChange (change : Layer → Layer → Disk → Disk → Result (Unit {0}) StoreFault → Type 0) (old new : Layers) (before after : Disk) (result : Result (Unit {0}) StoreFault) : Type 0 where
  pub was : Layer
  pub now : Layer
  pub geometry : new.geometry ≡ old.geometry
  pub merge : new.merge ≡ old.merge
  pub retiring : new.retiring ≡ old.retiring
  pub was_there : old.leaf ≡ Some was
  pub now_there : new.leaf ≡ Some now
  pub below : new.below ≡ old.below
  pub changed : change was now before after result

pub record TargetChange (change : Layer → Layer → Disk → Disk → Result (Unit {0}) StoreFault → Type 0) (old new : Layers) (before after : Disk) (result : Result (Unit {0}) StoreFault) : Type 0 where
  pub was : Layer
  pub now : Layer
  pub rest : List FileLayer
  pub geometry : new.geometry ≡ old.geometry
  pub merge : new.merge ≡ old.merge
  pub retiring : new.retiring ≡ old.retiring
  pub leaf : new.leaf ≡ old.leaf
  pub was_there : old.below.items ≡ Session was ∷ rest
  pub now_there : new.below.items ≡ Session now ∷ rest
  pub changed : change was now before after result

module _ (change : Layer → Layer → Disk → Disk → Result (Unit {0}) StoreFault → Type 0) (old new : Layers) (before after : Disk) (result : Result (Unit {0}) StoreFault) where
  pub leaf_change : ChangesFile change 0 old new before after result → LeafChange change old new before after result
  leaf_change c = by_place c.exchanged
    where
      by_place : IsExchanged 0 c.was c.now old new → LeafChange change old new before after result
      by_place (at_leaf at is now below) = record { was = c.was; now = c.now; geometry = c.geometry; merge = c.merge; retiring = c.retiring; was_there = is; now_there = now; below = below; changed = c.changed }
      by_place (at_lower at e leaf r) = absurd (omega (arith, e))

  pub target_change : ChangesFile change 1 old new before after result → TargetChange change old new before after result
  target_change c = by_place c.exchanged
    where
      by_above : (at : ℕ) → 1 ≡ at + 1 → new.leaf ≡ old.leaf → (a b : List FileLayer) → lib.ListN.length a ≡ at → old.below.items ≡ a ++ Session c.was ∷ b → new.below.items ≡ a ++ Session c.now ∷ b → TargetChange change old new before after result
      by_above at e leaf [] b long was now = record { was = c.was; now = c.now; rest = b; geometry = c.geometry; merge = c.merge; retiring = c.retiring; leaf = leaf; was_there = was; now_there = now; changed = c.changed }
      by_above at e leaf (x ∷ a) b long was now = absurd (omega (arith, e, long))

      by_place : IsExchanged 1 c.was c.now old new → TargetChange change old new before after result
      by_place (at_leaf at is now below) = absurd (omega (arith, at))
      by_place (at_lower at e leaf r) = by_above at e leaf r.above r.below r.place r.was_there r.now_there

-- ---- what a state and its layers have

first_is : (a b : Layer) (xs ys : List FileLayer) → ◌≡◌ {A = List FileLayer} (Session a ∷ xs) (Session b ∷ ys) → (a ≡ b) × (xs ≡ ys)
first_is a b xs ys is = (cc, rest_same is)

-- as the layers are, their leaf and the first of the files below it being in sessions
abbrev pub StandsIn : State → Placed → Placed → List Placed → Layers → Trace → Type 0
StandsIn v top target below layers now = (leaf l : Layer) (rest : List FileLayer) → layers.leaf ≡ Some leaf → layers.below.items ≡ Session l ∷ rest → Stands v top target below leaf l rest now

abbrev pub LeftIn : State → Placed → Placed → List Placed → Layers → Trace → Type 0
LeftIn v gone target below layers now = (leaf l : Layer) (rest : List FileLayer) → layers.leaf ≡ Some leaf → layers.below.items ≡ Session l ∷ rest → IsLeft v gone target below leaf l rest now

stands_in : (v : State) (top target : Placed) (below : List Placed) (layers : Layers) (now : Trace) (a b : Layer) (xs : List FileLayer) → layers.leaf ≡ Some a → layers.below.items ≡ Session b ∷ xs → Stands v top target below a b xs now → StandsIn v top target below layers now
stands_in v top target below layers now a b xs is was at leaf l rest leaf_is items =
    let first = first_is b l xs rest (sym was ∙ items) in
    subst (λ (k : Layer). Stands v top target below k l rest now) (some_same {x = a} {y = leaf} (sym is ∙ leaf_is))
    (subst (λ (k : Layer). Stands v top target below a k rest now) first.0 (subst (λ (c : List FileLayer). Stands v top target below a b c now) first.1 at))

left_in : (v : State) (gone target : Placed) (below : List Placed) (layers : Layers) (now : Trace) (a b : Layer) (xs : List FileLayer) → layers.leaf ≡ Some a → layers.below.items ≡ Session b ∷ xs → IsLeft v gone target below a b xs now → LeftIn v gone target below layers now
left_in v gone target below layers now a b xs is was at leaf l rest leaf_is items =
    let first = first_is b l xs rest (sym was ∙ items) in
    subst (λ (k : Layer). IsLeft v gone target below k l rest now) (some_same {x = a} {y = leaf} (sym is ∙ leaf_is))
    (subst (λ (k : Layer). IsLeft v gone target below a k rest now) first.0 (subst (λ (c : List FileLayer). IsLeft v gone target below a b c now) first.1 at))

-- what the layers' leaf goes by
abbrev pub leaf_parts : Layers → Option TableParts
leaf_parts layers = option_map (λ (l : Layer). l.tables.parts) layers.leaf

-- the target as it is once it has no retired name
pub record HasNoName (target after : Placed) : Type 0 where
  pub look : look_of after ≡ look_of target
  pub retired : after.member.ties.retired ≡ None

-- the leaf once it is retired
pub record IsGone (v : State) (target gone : Placed) : Type 0 where
  pub number : gone.number ≡ v.top.number
  pub name : gone.member.name ≡ v.top.member.name
  pub leads : gone.member.ties.retired ≡ Some target.member.name
  pub tight : settled gone ≡ gone

module _ (L0 : Layers) (r : Retiring) where
  -- What a state says that such layers serve: each stripe is copied, and the pages that are kept of the merge are its files'.
  pub record IsFinishing (v : State) (target : Placed) (below : List Placed) : Type 0 where
    pub all : HasAllOf v.top.member.ties.geometry.sectors v.top.member.layer target.member.layer
    pub parts : TableParts
    pub goes_by : leaf_parts L0 ≡ Some parts
    pub retires : Renames parts.bat_len r.retire v.top (Some target.member.name)
    pub lower : TableParts
    pub lower_goes_by : target_parts L0.below.items ≡ Some lower
    pub clears : IsCleared lower.bat_len r.clear target
    pub top_written : v.writes v.top.number ≡ true
    pub target_written : v.writes target.number ≡ true
    pub can : (l : Layer) (rest : List FileLayer) → L0.below.items ≡ Session l ∷ rest → CanSucceed v target below L0.geometry rest

  -- From x to y each moment opened, and at y the state is so.
  abbrev pub Reaches : (State → Placed → List Placed → Trace → Type 0) → Trace → Trace → Type 0
  Reaches At x y =
      (v : State) (target : Placed) (below : List Placed) (first before : SectorLayer) → IsServing L0 (record v { rest = retiring target below first before }) x → IsFinishing v target below × (EachOpensNow v x y × At v target below y)

  -- Or a change failed.
  abbrev pub Breaks : Trace → Trace → Type 0
  Breaks x y = (v : State) (target : Placed) (below : List Placed) (first before : SectorLayer) → IsServing L0 (record v { rest = retiring target below first before }) x → HasEnded v x y

  then_reaches : (At Next : State → Placed → List Placed → Trace → Type 0) (R : Trace → Trace → Type 0) (a b c : Option Trace) → WhereBothTold (Reaches At) a b → WhereBothTold R b c
      → ((v : State) (target : Placed) (below : List Placed) (y z : Trace) → IsFinishing v target below → At v target below y → R y z → EachOpensNow v y z × Next v target below z) → WhereBothTold (Reaches Next) a c
  then_reaches At Next R a b c reached step on =
      both_join (Reaches At) R (Reaches Next) a b c (λ x y z so s v target below first before serving.
      let was = so v target below first before serving in
      let next = on v target below y z was.0 was.1.1 s in
      (was.0, (joined v x y z was.1.0 next.0, next.1))) reached
      step

  then_breaks : (At : State → Placed → List Placed → Trace → Type 0) (R : Trace → Trace → Type 0) (a b c : Option Trace) → WhereBothTold (Reaches At) a b → WhereBothTold R b c
      → ((v : State) (target : Placed) (below : List Placed) (y z : Trace) → IsFinishing v target below → At v target below y → R y z → HasEnded v y z) → WhereBothTold Breaks a c
  then_breaks At R a b c reached step on =
      both_join (Reaches At) R Breaks a b c (λ x y z so s v target below first before serving.
      let was = so v target below first before serving in
      let next = on v target below y z was.0 was.1.1 s in
      record { moments = joined v x y z was.1.0 next.moments; still = next.still; past = next.past }) reached
      step

  -- both of two are told
  -- ---- the target is committed

  module _ (kept_is : L0.retiring ≡ Some r) (marked : IsAllMarked r.marks) (a : Layer) (leaf_is : L0.leaf ≡ Some a) (L1 : Layers) (d0 d1 : Disk) (result : Result (Unit {0}) StoreFault) (t : TargetChange Settles L0 L1 d0 d1 result) where
    finishing : (v : State) (target : Placed) (below : List Placed) (first before : SectorLayer) (x : Trace) → IsServing L0 (record v { rest = retiring target below first before }) x → IsFinishing v target below
    finishing v target below first before x serving =
        let leaving : IsLeaving (sector_of v) v.writes v.history L0 r v.top target first before = subst (λ o. IsRetiring (sector_of v) v.writes v.history L0 o v.top (retiring target below first before)) kept_is serving.leaving in
        let all_marked : AllMarked (stripe_count (sector_of v) v.top.member.ties.geometry.sectors) (marks_of r.marks) = (λ s inside. marked s (subst (λ (n : ℕ). s < n) (sym leaving.each) inside)) in
        let all : HasAllOf v.top.member.ties.geometry.sectors v.top.member.layer target.member.layer =
        marked_is_whole (sector_of v) v.top.member.ties.geometry.sectors first before v.history (marks_of r.marks) v.top.member.layer target.member.layer leaving.some leaving.under_way all_marked in
        let written : (v.writes v.top.number ≡ true) × AreWritten v.writes L0.below.items = subst (λ o. IfSome o (λ leaf. (v.writes v.top.number ≡ true) × AreWritten v.writes L0.below.items)) leaf_is serving.written in
        record {
          all = all;
          parts = leaving.parts;
          goes_by = leaving.goes_by;
          retires = leaving.retires;
          lower = leaving.lower;
          lower_goes_by = leaving.lower_goes_by;
          clears = leaving.clears;
          top_written = written.0;
          target_written = leaving.written;
          can = λ l rest is. record {
            top_written = written.0;
            target_written = leaving.written;
            rest_written = (subst (AreWritten v.writes) is written.1).1;
            synced = serving.synced.1.1;
            whole = λ s inside. there_without [] v.top.member.layer target.member.layer (layers_of (members_of below)) s (λ bytes owned. all s bytes inside owned) (serving.whole s inside);
            alike = serving.served.linked.linked.0.geometry;
            geometry_is = serving.geometry;
          };
        }

    pub broken_first : WhereBothTold Breaks d0.told d1.told
    broken_first = both_from (KeepsOver t.was) Breaks d0.told d1.told
        (λ x y over v target below first before serving.
        let serves : Serves t.was x target = serves_target v target below first before L0 a t.was t.rest x serving leaf_is t.was_there in
        start_moves v target below first before L0 a t.was t.rest x serving leaf_is t.was_there y (over.over target serves) (finishing v target below first before x serving).target_written) t.changed.moments

    abbrev pub AtFirst : State → Placed → List Placed → Trace → Type 0
    AtFirst v target below y = StandsIn v v.top (settled target) below L1 y

    pub reached_first : WhereBothTold (HasCommitted t.was t.now) d0.told d1.told → WhereBothTold (Reaches AtFirst) d0.told d1.told
    reached_first has = both_from (λ x y. KeepsOver t.was x y × HasCommitted t.was t.now x y) (Reaches AtFirst) d0.told d1.told
        (λ x y told v target below first before serving.
        let serves : Serves t.was x target = serves_target v target below first before L0 a t.was t.rest x serving leaf_is t.was_there in
        let known = finishing v target below first before x serving in
        let moves = start_moves v target below first before L0 a t.was t.rest x serving leaf_is t.was_there y (told.0.over target serves) known.target_written in
        let stands = start_stands v target below first before L0 a t.was t.rest x serving leaf_is t.was_there y (told.0.over target serves) known.target_written t.now (told.1.serves target serves) in
        (known, (moves.moments, stands_in v v.top (settled target) below L1 y a t.now t.rest (t.leaf ∙ leaf_is) t.now_there stands)))
        (both_and (KeepsOver t.was) (HasCommitted t.was t.now) d0.told d1.told t.changed.moments has)

  -- ---- the leaf is committed

  module _ (L1 L2 : Layers) (d0 d1 d2 : Disk) (result : Result (Unit {0}) StoreFault) (c : LeafChange Settles L1 L2 d1 d2 result) (l : Layer) (rest : List FileLayer) (items : L1.below.items ≡ Session l ∷ rest)
      (reached : WhereBothTold (Reaches (λ v target below y. StandsIn v v.top (settled target) below L1 y)) d0.told d1.told) where
    pub broken_second : WhereBothTold Breaks d0.told d2.told
    broken_second = then_breaks (λ v target below y. StandsIn v v.top (settled target) below L1 y) (KeepsOver c.was) d0.told d1.told d2.told reached c.changed.moments
        (λ v target below y z known at over.
        let stands = at c.was l rest c.was_there items in
        top_moves v v.top (settled target) below c.was l rest y z stands (over.over v.top stands.top_held) known.top_written)

    pub reached_second : WhereBothTold (HasCommitted c.was c.now) d1.told d2.told → WhereBothTold (Reaches (λ v target below y. StandsIn v (settled v.top) (settled target) below L2 y)) d0.told d2.told
    reached_second has = then_reaches (λ v target below y. StandsIn v v.top (settled target) below L1 y) (λ v target below y. StandsIn v (settled v.top) (settled target) below L2 y) (λ y z. KeepsOver c.was y z × HasCommitted c.was c.now y z)
        d0.told d1.told d2.told reached (both_and (KeepsOver c.was) (HasCommitted c.was c.now) d1.told d2.told c.changed.moments has)
        (λ v target below y z known at told.
        let stands = at c.was l rest c.was_there items in
        let phase = told.0.over v.top stands.top_held in (
          (top_moves v v.top (settled target) below c.was l rest y z stands phase known.top_written).moments,
          stands_in v (settled v.top) (settled target) below L2 z c.now l rest c.now_there (ap (λ b. b.items) c.below ∙ items) (top_stands v v.top (settled target) below c.was l rest y z stands phase known.top_written c.now (told.1.serves v.top stands.top_held)),
        ))

  -- ---- the target's retired name is taken away

  -- the target with no retired name
  abbrev pub AtThird : Layers → State → Placed → List Placed → Trace → Type 0
  AtThird L3 v target below y = (after : Placed) × (HasNoName target after × StandsIn v (settled v.top) after below L3 y)

  module _ (L2 L3 : Layers) (d0 d2 d3 : Disk) (reached : WhereBothTold (Reaches (λ v target below y. StandsIn v (settled v.top) (settled target) below L2 y)) d0.told d2.told) (a : Layer) (leaf_is : L2.leaf ≡ Some a) where
    -- it has none
    pub reached_unchanged : r.clear ≡ None → L3 ≡ L2 → d3 ≡ d2 → WhereBothTold (Reaches (AtThird L3)) d0.told d3.told
    reached_unchanged none same same_disk =
        subst (λ (d : Disk). WhereBothTold (Reaches (AtThird L3)) d0.told d.told) (sym same_disk)
        (subst (λ (k : Layers). WhereBothTold (Reaches (AtThird k)) d0.told d2.told) (sym same)
        (both_from (Reaches (λ v target below y. StandsIn v (settled v.top) (settled target) below L2 y)) (Reaches (AtThird L2)) d0.told d2.told
        (λ x y so v target below first before serving.
        let was = so v target below first before serving in
        let clear : target.member.ties.retired ≡ None = subst (λ o. IsCleared was.0.lower.bat_len o target) none was.0.clears in
        (was.0, (was.1.0, (settled target, (record { look = refl; retired = clear }, was.1.1))))) reached))

    module _ (pages : List Page) (clear_is : r.clear ≡ Some pages) (result : Result (Unit {0}) StoreFault) (k : TargetChange (UpdatesBy pages) L2 L3 d2 d3 result) (same_parts : target_parts L2.below.items ≡ target_parts L0.below.items) where
      -- what the pages make of it
      clears : (v : State) (target : Placed) (below : List Placed) → IsFinishing v target below → Renames k.was.tables.parts.bat_len pages (settled target) None
      clears v target below known =
          let is : k.was.tables.parts ≡ known.lower = some_same {x = k.was.tables.parts} {y = known.lower} (sym (ap target_parts k.was_there) ∙ same_parts ∙ known.lower_goes_by) in
          renames_alike k.was.tables.parts.bat_len pages target (settled target) None refl refl
          (subst (λ (p : TableParts). Renames p.bat_len pages target None) (sym is) (subst (λ o. IsCleared known.lower.bat_len o target) clear_is known.clears))

      cleared : (target : Placed) → Renames k.was.tables.parts.bat_len pages (settled target) None → Placed
      cleared target n = turned (with_retired None (settled target)) n.region (settled target)

      module _ (v : State) (target : Placed) (below : List Placed) (y z : Trace) (known : IsFinishing v target below) (stands : Stands v (settled v.top) (settled target) below a k.was k.rest y) (over : UpdatesOver k.was pages y z) where
        abbrev n : Renames k.was.tables.parts.bat_len pages (settled target) None
        n = clears v target below known

        abbrev after : Placed
        after = turned (with_retired None (settled target)) n.region (settled target)

        goes : GoesOver (settled target) after y z
        goes = over.over (settled target) (with_retired None (settled target)) n.region stands.target_held n.into

        third_moves : HasEnded v y z
        third_moves = target_moves v (settled v.top) (settled target) below a k.was k.rest y z stands after goes refl (record { name = refl; id = refl; geometry = refl })
            (chain_on target.member after.member refl refl refl (members_of below) stands.served.linked.linked.1) (λ s. refl) known.target_written

        third_stands : HasUpdated k.was k.now pages y z → Stands v (settled v.top) after below a k.now k.rest z
        third_stands has = target_stands v (settled v.top) (settled target) below a k.was k.rest y z stands after goes refl (record { name = refl; id = refl; geometry = refl })
            (chain_on target.member after.member refl refl refl (members_of below) stands.served.linked.linked.1) (λ s. refl) known.target_written k.now
            (has.serves (settled target) (with_retired None (settled target)) n.region stands.target_held n.into)

      pub broken_third : WhereBothTold Breaks d0.told d3.told
      broken_third = then_breaks (λ v target below y. StandsIn v (settled v.top) (settled target) below L2 y) (UpdatesOver k.was pages) d0.told d2.told d3.told reached k.changed.moments
          (λ v target below y z known at over. third_moves v target below y z known (at a k.was k.rest leaf_is k.was_there) over)

      pub reached_third : WhereBothTold (HasUpdated k.was k.now pages) d2.told d3.told → WhereBothTold (Reaches (AtThird L3)) d0.told d3.told
      reached_third has = then_reaches (λ v target below y. StandsIn v (settled v.top) (settled target) below L2 y) (AtThird L3) (λ y z. UpdatesOver k.was pages y z × HasUpdated k.was k.now pages y z)
          d0.told d2.told d3.told reached (both_and (UpdatesOver k.was pages) (HasUpdated k.was k.now pages) d2.told d3.told k.changed.moments has)
          (λ v target below y z known at told.
          let stands = at a k.was k.rest leaf_is k.was_there in (
            (third_moves v target below y z known stands told.0).moments,
            (
              after v target below y z known stands told.0,
              (
                record { look = refl; retired = refl },
                stands_in v (settled v.top) (after v target below y z known stands told.0) below L3 z a k.now k.rest (k.leaf ∙ leaf_is) k.now_there (third_stands v target below y z known stands told.0 told.1),
              ),
            ),
          ))

  -- ---- the leaf is retired

  abbrev pub AtFourth : Layers → State → Placed → List Placed → Trace → Type 0
  AtFourth L4 v target below y = (gone : Placed) × ((after : Placed) × (IsGone v target gone × (HasNoName target after × LeftIn v gone after below L4 y)))

  module _ (L3 L4 : Layers) (d0 d3 d4 : Disk) (reached : WhereBothTold (Reaches (AtThird L3)) d0.told d3.told) (result : Result (Unit {0}) StoreFault) (k : LeafChange (UpdatesBy r.retire) L3 L4 d3 d4 result) (l : Layer) (rest : List FileLayer)
      (items : L3.below.items ≡ Session l ∷ rest) (same_parts : leaf_parts L3 ≡ leaf_parts L0) where
    module _ (v : State) (target after : Placed) (below : List Placed) (y z : Trace) (known : IsFinishing v target below) (named : HasNoName target after) (stands : Stands v (settled v.top) after below k.was l rest y) (over : UpdatesOver k.was r.retire y z) where
      renames : Renames k.was.tables.parts.bat_len r.retire (settled v.top) (Some target.member.name)
      renames =
          let is : k.was.tables.parts ≡ known.parts = some_same {x = k.was.tables.parts} {y = known.parts} (sym (ap (option_map (λ (l : Layer). l.tables.parts)) k.was_there) ∙ same_parts ∙ known.goes_by) in
          renames_alike k.was.tables.parts.bat_len r.retire v.top (settled v.top) (Some target.member.name) refl refl
          (subst (λ (p : TableParts). Renames p.bat_len r.retire v.top (Some target.member.name)) (sym is) known.retires)

      abbrev gone : Placed
      gone = turned (with_retired (Some target.member.name) (settled v.top)) renames.region (settled v.top)

      retires : GoesOver (settled v.top) gone y z
      retires = over.over (settled v.top) (with_retired (Some target.member.name) (settled v.top)) renames.region stands.top_held renames.into

      all : HasAllOf v.top.member.ties.geometry.sectors v.top.member.layer after.member.layer
      all = subst (λ (k : SectorLayer). HasAllOf v.top.member.ties.geometry.sectors v.top.member.layer k) (sym (ap (λ k. k.layer) named.look)) known.all

      fourth_moves : HasEnded v y z
      fourth_moves = gone_moves v (settled v.top) after below k.was l rest y z stands gone retires (ap (λ k. Some k.name) (sym named.look)) named.retired all known.top_written

      fourth_left : HasUpdated k.was k.now r.retire y z → IsLeft v gone after below k.now l rest z
      fourth_left has = gone_left v (settled v.top) after below k.was l rest y z stands gone retires (ap (λ k. Some k.name) (sym named.look)) named.retired all known.top_written k.now
          (has.serves (settled v.top) (with_retired (Some target.member.name) (settled v.top)) renames.region stands.top_held renames.into)

    pub broken_fourth : WhereBothTold Breaks d0.told d4.told
    broken_fourth = then_breaks (AtThird L3) (UpdatesOver k.was r.retire) d0.told d3.told d4.told reached k.changed.moments
        (λ v target below y z known at over. fourth_moves v target at.0 below y z known at.1.0 (at.1.1 k.was l rest k.was_there items) over)

    pub reached_fourth : WhereBothTold (HasUpdated k.was k.now r.retire) d3.told d4.told → WhereBothTold (Reaches (AtFourth L4)) d0.told d4.told
    reached_fourth has = then_reaches (AtThird L3) (AtFourth L4) (λ y z. UpdatesOver k.was r.retire y z × HasUpdated k.was k.now r.retire y z)
        d0.told d3.told d4.told reached (both_and (UpdatesOver k.was r.retire) (HasUpdated k.was k.now r.retire) d3.told d4.told k.changed.moments has)
        (λ v target below y z known at told.
        let stands = at.1.1 k.was l rest k.was_there items in
        let left = gone v target at.0 below y z known at.1.0 stands told.0 in (
          (fourth_moves v target at.0 below y z known at.1.0 stands told.0).moments,
          (
            left,
            (
              at.0,
              (
                record { number = refl; name = refl; leads = refl; tight = refl },
                (at.1.0, left_in v left at.0 below L4 z k.now l rest k.now_there (ap (λ b. b.items) k.below ∙ items) (fourth_left v target at.0 below y z known at.1.0 stands told.0 told.1)),
              ),
            ),
          ),
        ))

  -- ---- the target gets its last identifier

  abbrev pub AtFifth : Layers → State → Placed → List Placed → Trace → Type 0
  AtFifth L5 v target below y = (gone : Placed) × ((top : Placed) × (IsGone v target gone × ((look_of top ≡ named_anew r.third target) × LeftIn v gone top below L5 y)))

  module _ (L4 L5 : Layers) (d0 d4 d5 : Disk) (reached : WhereBothTold (Reaches (AtFourth L4)) d0.told d4.told) (result : Result (Unit {0}) StoreFault) (k : TargetChange (Identifies r.third) L4 L5 d4 d5 result) (a : Layer) (leaf_is : L4.leaf ≡ Some a) where
    module _ (v : State) (target gone after : Placed) (below : List Placed) (y z : Trace) (known : IsFinishing v target below) (named : HasNoName target after) (left : IsLeft v gone after below a k.was k.rest y) (over : IdentifiesOver k.was r.third y z) where
      abbrev top : Placed
      top = identified r.third after

      written : v.writes after.number ≡ true
      written = ap (λ k. v.writes k.number) named.look ∙ known.target_written

      fifth_moves : HasEnded v y z
      fifth_moves = named_moves v gone after below a k.was k.rest y z left top (over.over after left.target_held) refl refl refl (chain_on after.member top.member refl refl refl (members_of below) left.served.linked.linked) left.loose written

      fifth_left : HasIdentified k.was k.now r.third y z → IsLeft v gone top below a k.now k.rest z
      fifth_left has = named_left v gone after below a k.was k.rest y z left top (over.over after left.target_held) refl refl refl (chain_on after.member top.member refl refl refl (members_of below) left.served.linked.linked) left.loose written k.now (has.serves after left.target_held)

    pub broken_fifth : WhereBothTold Breaks d0.told d5.told
    broken_fifth = then_breaks (AtFourth L4) (IdentifiesOver k.was r.third) d0.told d4.told d5.told reached k.changed.moments
        (λ v target below y z known at over. fifth_moves v target at.0 at.1.0 below y z known at.1.1.1.0 (at.1.1.1.1 a k.was k.rest leaf_is k.was_there) over)

    pub reached_fifth : WhereBothTold (HasIdentified k.was k.now r.third) d4.told d5.told → WhereBothTold (Reaches (AtFifth L5)) d0.told d5.told
    reached_fifth has = then_reaches (AtFourth L4) (AtFifth L5) (λ y z. IdentifiesOver k.was r.third y z × HasIdentified k.was k.now r.third y z)
        d0.told d4.told d5.told reached (both_and (IdentifiesOver k.was r.third) (HasIdentified k.was k.now r.third) d4.told d5.told k.changed.moments has)
        (λ v target below y z known at told.
        let left = at.1.1.1.1 a k.was k.rest leaf_is k.was_there in (
          (fifth_moves v target at.0 at.1.0 below y z known at.1.1.1.0 left told.0).moments,
          (
            at.0,
            (
              identified r.third at.1.0,
              (
                at.1.1.0,
                (
                  ap (λ (l : Look). record l { id = r.third }) at.1.1.1.0.look,
                  left_in v at.0 (identified r.third at.1.0) below L5 z a k.now k.rest (k.leaf ∙ leaf_is) k.now_there (fifth_left v target at.0 at.1.0 below y z known at.1.1.1.0 left told.0 told.1),
                ),
              ),
            ),
          ),
        ))

  -- ---- the target is the leaf, and the retired leaf's session ends

  module _ (L5 L6 L7 : Layers) (d0 d5 d6 : Disk) (reached : WhereBothTold (Reaches (AtFifth L5)) d0.told d5.told) (result : Result (Unit {0}) StoreFault) (h : HandsOver L5 L6 d5 d6 result) where
    pub broken_sixth : WhereBothTold Breaks d0.told d6.told
    broken_sixth = then_breaks (AtFifth L5) (KeepsOver h.leaf) d0.told d5.told d6.told reached h.moments
        (λ v target below y z known at over.
        let left = at.1.1.1.1 h.leaf h.target h.rest h.was h.was_there in
        end_moves v at.0 at.1.0 below h.leaf h.target h.rest y z left (over.over at.0 left.gone_held) (ap v.writes at.1.1.0.number ∙ known.top_written))

    pub reached_sixth : WhereBothTold (EndsFile h.leaf) d5.told d6.told → (l : Layer) → L0.below.items ≡ Session l ∷ h.rest → L7.geometry ≡ L0.geometry → L7.leaf ≡ L6.leaf → L7.below ≡ L6.below → L7.merge ≡ None → L7.retiring ≡ None
        → WhereBothTold (Reaches (λ v target below y. IsSucceeded r.third v target below L7 y)) d0.told d6.told
    reached_sixth ended l items geometry leaf_now below_now no_merge none_now =
        then_reaches (AtFifth L5) (λ v target below y. IsSucceeded r.third v target below L7 y) (λ y z. KeepsOver h.leaf y z × EndsFile h.leaf y z) d0.told d5.told d6.told reached (both_and (KeepsOver h.leaf) (EndsFile h.leaf) d5.told d6.told h.moments ended)
        (λ v target below y z known at told.
        let left = at.1.1.1.1 h.leaf h.target h.rest h.was h.was_there in
        let phase = told.0.over at.0 left.gone_held in
        let own : v.writes at.0.number ≡ true = ap v.writes at.1.1.0.number ∙ known.top_written in
        let kept = subst (λ (p : Placed). IsKept z p) at.1.1.0.tight (told.1.kept at.0 left.gone_held) in
        let over = end_left v at.0 at.1.0 below h.leaf h.target h.rest y z left phase own kept.shows in (
          (end_moves v at.0 at.1.0 below h.leaf h.target h.rest y z left phase own).moments,
          succeeded v target at.1.0 below L0.geometry h.target h.rest (known.can l h.rest items) r.third at.1.1.1.0 at.0 at.1.1.0.number at.1.1.0.name at.1.1.0.leads (λ s. ap (λ (p : Placed). p.is_loose s) (sym at.1.1.0.tight)) z over
              (subst (λ (n : ℕ). is_synced (file_of z n) ≡ true) at.1.1.0.number (told.1.synced at.0 left.gone_held)) (subst (λ (n : ℕ). NamesNoLog (seen (file_of z n))) at.1.1.0.number (told.1.no_log at.0 left.gone_held)) L7 geometry (leaf_now ∙ h.now) (ap (λ b. b.items) below_now ∙ h.left) no_merge none_now,
        ))

  -- ---- what a finish tells

  module _ (kept_is : L0.retiring ≡ Some r) where
    never_plain : (v : State) (others : List Placed) (x : Trace) → IsServing L0 (record v { rest = plain others }) x → ⊥
    never_plain v others x serving = let never : IsRetiring (sector_of v) v.writes v.history L0 (Some r) v.top (plain others) = subst (λ o. IsRetiring (sector_of v) v.writes v.history L0 o v.top (plain others)) kept_is serving.leaving in never

    never_merging : (v : State) (above : List Placed) (source target : Placed) (below : List Placed) (m : _) (x : Trace) → IsServing L0 (record v { rest = merging above source target below m }) x → ⊥
    never_merging v above source target below m x serving =
        let never : IsRetiring (sector_of v) v.writes v.history L0 (Some r) v.top (merging above source target below m) = subst (λ o. IsRetiring (sector_of v) v.writes v.history L0 o v.top (merging above source target below m)) kept_is serving.leaving in never

    pub broken_told : (L : Layers) (fault : StoreFault) (a b : Option Trace) → WhereBothTold Breaks a b → WhereBothTold (λ trace now. (v : State) → IsServing L0 v trace → FinishesTo L0.retiring v L trace now (Err fault)) a b
    broken_told L fault a b breaks = both_from Breaks (λ trace now. (v : State) → IsServing L0 v trace → FinishesTo L0.retiring v L trace now (Err fault)) a b (λ x y so v serving. by_rest x y so v v.rest serving) breaks
      where
        by_rest : (x y : Trace) → Breaks x y → (v : State) (rest : Rest) → IsServing L0 (record v { rest = rest }) x → HasEnded (record v { rest = rest }) x y
        by_rest x y so v (plain others) serving = absurd (never_plain v others x serving)
        by_rest x y so v (merging above source target below m) serving = absurd (never_merging v above source target below m x serving)
        by_rest x y so v (retiring target below first before) serving =
            let ended = so v target below first before serving in
            record { moments = ended.moments; still = ended.still; past = ended.past }

    pub reached_told : (L : Layers) (a b : Option Trace) → WhereBothTold (Reaches (λ v target below y. IsSucceeded r.third v target below L y)) a b → WhereBothTold (λ trace now. (v : State) → IsServing L0 v trace → FinishesTo L0.retiring v L trace now (Ok tt)) a b
    reached_told L a b reached =
        both_from (Reaches (λ v target below y. IsSucceeded r.third v target below L y)) (λ trace now. (v : State) → IsServing L0 v trace → FinishesTo L0.retiring v L trace now (Ok tt)) a b (λ x y so v serving. by_rest x y so v v.rest serving) reached
      where
        by_rest : (x y : Trace) → Reaches (λ v target below y. IsSucceeded r.third v target below L y) x y → (v : State) (rest : Rest) → IsServing L0 (record v { rest = rest }) x → FinishesTo L0.retiring (record v { rest = rest }) L x y (Ok tt)
        by_rest x y so v (plain others) serving = absurd (never_plain v others x serving)
        by_rest x y so v (merging above source target below m) serving = absurd (never_merging v above source target below m x serving)
        by_rest x y so v (retiring target below first before) serving =
            let done = so v target below first before serving in
            let is = done.1.1 in
            let then : IsSucceeded r.third (record v { rest = retiring target below first before }) target below L y =
            record { top = is.top; others = is.others; leaf = is.leaf; files = is.files; is_retired = is.is_retired; still = is.still; rests = is.rests; no_log = is.no_log; serving = is.serving } in
            (done.1.0, subst (λ o. LeavesBy o (record v { rest = retiring target below first before }) L y) (sym kept_is) then)
