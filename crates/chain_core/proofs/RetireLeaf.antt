-- The merge of the leaf is finished, step by step: what a finish that stopped at each step gives, and one that is done.
use Rattle.std.proofs.Common.{inr, ◌≡◌, ◌<◌, ◌≤◌, ◌+◌, ◌^◌, ℕ, true, List, ◌∷◌, drop, length, map, get_or, refl, sym, ap, subst, ◌∙◌, is_some}
use Rattle.std.specs.Prelude.{Option, Some, None, option_map, IfSome, Result, Ok, Err}
use Rattle.std.specs.List.{AllByRecursion}
use Rattle.vx_base.specs.declared.parts.Geometry.{Geometry}
use Rattle.vhdx_format.specs.declared.log_entry.Page.{Page}
use Rattle.store_model.specs.Disk.{Disk, WhereBothTold, WhereTold}
use Rattle.store_model.specs.declared.fault.StoreFault.{StoreFault}
use Rattle.layer_session.specs.declared.file.Layer.{Layer}
use Rattle.layer_session.specs.declared.file_layer.FileLayer.{FileLayer}
use Rattle.layer_session.specs.declared.file_layer.FileLayer.TheVariants.{Session}
use Rattle.layer_session.specs.Calls.{own_file, settled}
use Rattle.layer_session.specs.FileLayers.{FileTurns, WaitsForNone, file_numbers, log_number}
use Rattle.layer_session.proofs.FileLayers.{others_stand}
use Rattle.log_write.specs.Writing.{HasNextNumber}
use Rattle.chain_core.specs.declared.layers.Layers.{Layers}
use Rattle.chain_core.specs.declared.layers.Retiring.{Retiring}
use Rattle.chain_core.specs.Copying.{number_below}
use Rattle.chain_core.specs.Ending.{AreAllReady, SomeChangeFailed}
use Rattle.chain_core.specs.Finished.{CanBeRetired, CanEnd, ChangesFile, Clears, Finishes, HandsOver, Identifies, IsAllMarked, IsSessionOf, IsTargetOrChild, Settles, UpdatesBy, leaf_left, number_above, numbers_left}
use Rattle.chain_core.specs.Sessions.{AreReady, AtMostOne, CanRelink, CanRetire, IsLow, IsMergeOf, IsReadyLeaf, IsRetiringOf, KeepsMerge, first_layer, header_at, is_session_at, number_of_leaf}
use Rattle.chain_core.proofs.Numbers.{far_below, five_of_five, four_of_five, one_far_below, one_up, same_low, three_more, three_of_five, zero_suc}
use Rattle.chain_core.proofs.Copied.{low_on}
use Rattle.chain_core.proofs.Ending.{failed_later}
use Rattle.chain_core.proofs.Exchanged.{change_failed, exchanged_low, relinking_leaves, turns_of}
use Rattle.chain_core.proofs.Places.{some_leaf}
use Rattle.chain_core.proofs.Replaced.{AreParts}
use Rattle.chain_core.proofs.RetireStays.{Stays, all_ready, handed_leaf_ready, handed_parts, identifying_leaves, leaf_fails, leaf_ready, leaf_turns, leaf_was_ready, stays_first, stays_leaf, stays_number, stays_target, target_fails, target_ready, target_was, target_was_ready}
use Rattle.chain_core.proofs.Retires.{AtFifth, AtFourth, AtThird, Breaks, LeafChange, Reaches, StandsIn, TargetChange, broken_fifth, broken_first, broken_fourth, broken_second, broken_sixth, broken_third, broken_told, leaf_change, reached_fifth, reached_first, reached_fourth, reached_second, reached_sixth, reached_third, reached_told, reached_unchanged, target_change}
use Rattle.layer_session.proofs.Equal.{err_ok, some_same}

module _ (L0 : Layers) (r : Retiring) (d0 : Disk) (none : L0.merge ≡ None) (kept_is : L0.retiring ≡ Some r) (copied : IfSome L0.retiring (λ (k : Retiring). IsAllMarked k.marks)) (ready : AreReady L0 d0) where
  marked : IsAllMarked r.marks
  marked = subst (λ o. IfSome o (λ (k : Retiring). IsAllMarked k.marks)) kept_is copied

  of_retiring : IsRetiringOf L0.geometry L0.leaf L0.below.items r
  of_retiring = subst (λ o. IfSome o (IsRetiringOf L0.geometry L0.leaf L0.below.items)) kept_is ready.retiring

  leaf0 : (a : Layer) × (L0.leaf ≡ Some a)
  leaf0 = some_leaf L0.leaf of_retiring.session

  s0 : Stays L0 L0 d0 d0
  s0 = stays_first L0 d0 ready

  -- a change failed
  stopped : (L : Layers) (d : Disk) (fault : StoreFault) → WhereBothTold (Breaks L0 r) d0.told d.told → is_some L.leaf ≡ is_some L0.leaf → L.geometry ≡ L0.geometry → KeepsMerge L0 L → SomeChangeFailed (IsTargetOrChild L0) d0 d fault → Finishes L0 L d0 d (Err fault)
  stopped L d fault breaks session geometry keeps fails = record {
    told = broken_told L0 r kept_is L fault d0.told d.told breaks;
    ready = tt;
    low = tt;
    session = session;
    geometry = geometry;
    merge = tt;
    files = tt;
    leaf = tt;
    stays = keeps;
    counts = tt;
    err = fails;
  }

  -- ---- the target's commit

  pub target_session : IsSessionOf L0 1
  target_session = of_retiring.target

  pub target_low : IsLow (2 ^ 63 + 3) L0 → IsLow (2 ^ 63 + 5) L0
  target_low low = low_on (2 ^ 63 + 3) (2 ^ 63 + 5) L0 three_of_five low

  module _ (L1 : Layers) (d1 : Disk) where
    pub stopped_first : (fault : StoreFault) → ChangesFile Settles 1 L0 L1 d0 d1 (Err fault) → Finishes L0 L1 d0 d1 (Err fault)
    stopped_first fault c =
        let t = target_change Settles L0 L1 d0 d1 (Err fault) c in
        stopped L1 d1 fault (broken_first L0 r kept_is marked leaf0.0 leaf0.1 L1 d0 d1 (Err fault) t) (ap is_some t.leaf) t.geometry (t.merge, t.retiring) (target_fails L0 L0 d0 d0 s0 L1 d1 Settles (Err fault) t none t.changed.err)

    module _ (c1 : ChangesFile Settles 1 L0 L1 d0 d1 (Ok tt)) where
      t1 : TargetChange Settles L0 L1 d0 d1 (Ok tt)
      t1 = target_change Settles L0 L1 d0 d1 (Ok tt) c1

      pub first_ready : AreReady L1 d1
      first_ready = target_ready L0 L1 d0 d1 none ready t1

      first_low : (most : ℕ) → IsLow most L0 → IsLow (most + 1) L1
      first_low = exchanged_low 1 c1.was c1.now L0 L1 c1.exchanged c1.changed.parts c1.changed.number

      pub settle_low : IsLow (2 ^ 63 + 3) L0 → IsLow (2 ^ 63 + 5) L1
      settle_low low = low_on (2 ^ 63 + 3 + 1) (2 ^ 63 + 5) L1 four_of_five (first_low (2 ^ 63 + 3) low)

      s1 : Stays L0 L1 d0 d1
      s1 = stays_target L0 L0 d0 d0 s0 L1 d1 Settles (Ok tt) t1 t1.changed.parts (others_stand.kept t1.was d0 d1 (target_was_ready L0 L0 d0 d0 s0 L1 d1 Settles (Ok tt) t1) t1.changed.moments) t1.changed.counts t1.changed.ready

      reached1 : WhereBothTold (Reaches L0 r (λ v target below y. StandsIn v v.top (settled target) below L1 y)) d0.told d1.told
      reached1 = reached_first L0 r kept_is marked leaf0.0 leaf0.1 L1 d0 d1 (Ok tt) t1 t1.changed.has

      none1 : L1.merge ≡ None
      none1 = t1.merge ∙ none

      pub leaf_session : IsSessionOf L1 0
      leaf_session = ap is_some t1.leaf ∙ of_retiring.session

      -- ---- the leaf's commit

      module _ (L2 : Layers) (d2 : Disk) where
        pub stopped_second : (fault : StoreFault) → ChangesFile Settles 0 L1 L2 d1 d2 (Err fault) → Finishes L0 L2 d0 d2 (Err fault)
        stopped_second fault c =
            let t = leaf_change Settles L1 L2 d1 d2 (Err fault) c in
            stopped L2 d2 fault (broken_second L0 r L1 L2 d0 d1 d2 (Err fault) t t1.now t1.rest t1.now_there reached1) (ap is_some t.now_there ∙ sym of_retiring.session) (t.geometry ∙ s1.geometry) (t.merge ∙ s1.merge, t.retiring ∙ s1.retiring)
            (leaf_fails L0 L1 d0 d1 s1 L2 d2 Settles (Err fault) t none t.changed.err)

        module _ (c2 : ChangesFile Settles 0 L1 L2 d1 d2 (Ok tt)) where
          t2 : LeafChange Settles L1 L2 d1 d2 (Ok tt)
          t2 = leaf_change Settles L1 L2 d1 d2 (Ok tt) c2

          pub second_ready : AreReady L2 d2
          second_ready = leaf_ready L1 L2 d1 d2 none1 first_ready t2

          second_low : (most : ℕ) → IsLow most L0 → IsLow (most + 1 + 1) L2
          second_low most low = exchanged_low 0 c2.was c2.now L1 L2 c2.exchanged c2.changed.parts c2.changed.number (most + 1) (first_low most low)

          pub clear_low : IsLow (2 ^ 63 + 3) L0 → IsLow (2 ^ 63 + 5) L2
          clear_low low = low_on (2 ^ 63 + 3 + 1 + 1) (2 ^ 63 + 5) L2 five_of_five (second_low (2 ^ 63 + 3) low)

          s2 : Stays L0 L2 d0 d2
          s2 = stays_leaf L0 L1 d0 d1 s1 L2 d2 Settles (Ok tt) t2 t2.changed.parts (others_stand.kept t2.was d1 d2 (leaf_was_ready L0 L1 d0 d1 s1 L2 d2 Settles (Ok tt) t2) t2.changed.moments) t2.changed.counts t2.changed.ready

          reached2 : WhereBothTold (Reaches L0 r (λ v target below y. StandsIn v (settled v.top) (settled target) below L2 y)) d0.told d2.told
          reached2 = reached_second L0 r L1 L2 d0 d1 d2 (Ok tt) t2 t1.now t1.rest t1.now_there reached1 t2.changed.has

          items2 : L2.below.items ≡ Session t1.now ∷ t1.rest
          items2 = ap (λ b. b.items) t2.below ∙ t1.now_there

          can_retire : CanRetire L2.leaf L2.below.items d2 r
          can_retire = subst (λ o. IfSome o (CanRetire L2.leaf L2.below.items d2)) (s2.retiring ∙ kept_is) second_ready.retires

          turns2 : WhereTold d2.told (FileTurns (Session t2.now) r.retire)
          turns2 = subst (λ o. IfSome o (λ l. WhereTold d2.told (FileTurns (Session l) r.retire))) t2.now_there can_retire.turns

          pub clear_merge : is_some L2.retiring ≡ true
          clear_merge = ap is_some (s2.retiring ∙ kept_is)

          pub clear_settled : IfSome (first_layer L2.below.items) WaitsForNone
          clear_settled = subst (λ (b : List FileLayer). IfSome (first_layer b) WaitsForNone) (sym items2) t1.changed.empty

          -- ---- the target's retired name

          module _ (L3 : Layers) (d3 : Disk) where
            stopped_clear : (fault : StoreFault) (o : Option (List Page)) → r.clear ≡ o → Clears o L2 L3 d2 d3 (Err fault) → Finishes L0 L3 d0 d3 (Err fault)
            stopped_clear fault None is c = absurd (let never : ◌≡◌ {A = Result (Unit {0}) StoreFault} (Err fault) (Ok tt) = c.0 in err_ok never)
            stopped_clear fault (Some pages) is c =
                let t = target_change (UpdatesBy pages) L2 L3 d2 d3 (Err fault) c in
                stopped L3 d3 fault (broken_third L0 r L2 L3 d0 d2 d3 reached2 t2.now t2.now_there pages is (Err fault) t s2.lower_by) (ap is_some (t.leaf ∙ t2.now_there) ∙ sym of_retiring.session) (t.geometry ∙ s2.geometry)
                (t.merge ∙ s2.merge, t.retiring ∙ s2.retiring) (target_fails L0 L2 d0 d2 s2 L3 d3 (UpdatesBy pages) (Err fault) t none t.changed.err)

            clears_own : (a : Result (Unit {0}) StoreFault) → IfSome L2.retiring (λ (k : Retiring). Clears k.clear L2 L3 d2 d3 a) → Clears r.clear L2 L3 d2 d3 a
            clears_own a = subst (λ o. IfSome o (λ (k : Retiring). Clears k.clear L2 L3 d2 d3 a)) (s2.retiring ∙ kept_is)

            pub stopped_third : (fault : StoreFault) → IfSome L2.retiring (λ (k : Retiring). Clears k.clear L2 L3 d2 d3 (Err fault)) → Finishes L0 L3 d0 d3 (Err fault)
            stopped_third fault k = stopped_clear fault r.clear refl (clears_own (Err fault) k)

            -- what it leaves
            record IsCleared : Type 0 where
              pub reached : WhereBothTold (Reaches L0 r (AtThird L0 r L3)) d0.told d3.told
              pub stays : Stays L0 L3 d0 d3
              pub header : header_at L3.below.items 0 ≡ header_at L2.below.items 0
              pub leaf : L3.leaf ≡ Some t2.now
              pub low : (most : ℕ) → IsLow most L2 → IsLow (most + 1) L3
              pub turns : WhereTold d3.told (FileTurns (Session t2.now) r.retire)
              pub first : Layer
              pub items : L3.below.items ≡ Session first ∷ t1.rest

            cleared_by : (o : Option (List Page)) → r.clear ≡ o → Clears o L2 L3 d2 d3 (Ok tt) → IsCleared
            cleared_by None is c = record {
              reached = reached_unchanged L0 r L2 L3 d0 d2 d3 reached2 t2.now t2.now_there is c.1 c.2;
              stays = subst (λ (l : Layers). Stays L0 l d0 d3) (sym c.1) (subst (λ (d : Disk). Stays L0 L2 d0 d) (sym c.2) s2);
              header = ap (λ (l : Layers). header_at l.below.items 0) c.1;
              leaf = ap (λ (l : Layers). l.leaf) c.1 ∙ t2.now_there;
              low = λ most low. subst (λ (l : Layers). IsLow (most + 1) l) (sym c.1) (low_on most (most + 1) L2 (one_up most) low);
              turns = subst (λ (d : Disk). WhereTold d.told (FileTurns (Session t2.now) r.retire)) (sym c.2) turns2;
              first = t1.now;
              items = ap (λ (l : Layers). l.below.items) c.1 ∙ items2;
            }
            cleared_by (Some pages) is c =
                let t = target_change (UpdatesBy pages) L2 L3 d2 d3 (Ok tt) c in
                let can = subst (λ o. IfSome o (λ (pages : List Page). (length pages ≤ 120) × IfSome (first_layer L2.below.items) (λ l. WhereTold d2.told (FileTurns l pages)))) is can_retire.clears in
                let turns : WhereTold d2.told (FileTurns (Session t.was) pages) = subst (λ (b : List FileLayer). IfSome (first_layer b) (λ l. WhereTold d2.told (FileTurns l pages))) t.was_there can.1 in
                let others = relinking_leaves t.was pages d2 d3 turns t.changed.moments in
                let rest : t.rest ≡ t1.rest = ap (drop 1) (sym t.was_there ∙ items2) in
                record {
                  reached = reached_third L0 r L2 L3 d0 d2 d3 reached2 t2.now t2.now_there pages is (Ok tt) t s2.lower_by t.changed.has;
                  stays = stays_target L0 L2 d0 d2 s2 L3 d3 (UpdatesBy pages) (Ok tt) t t.changed.parts others t.changed.counts t.changed.ready;
                  header = ap (λ (b : List FileLayer). header_at b 0) t.now_there ∙ ap Some t.changed.header ∙ sym (ap (λ (b : List FileLayer). header_at b 0) t.was_there);
                  leaf = t.leaf ∙ t2.now_there;
                  low = exchanged_low 1 c.was c.now L2 L3 c.exchanged c.changed.parts c.changed.number;
                  turns = leaf_turns L2 t2.now t.was t.rest d2 d3 r.retire t2.now_there (target_was L0 L2 d0 d2 s2 L3 d3 (UpdatesBy pages) (Ok tt) t) others turns2;
                  first = t.now;
                  items = t.now_there ∙ ap (λ (b : List FileLayer). Session t.now ∷ b) rest;
                }

            module _ (k3 : IfSome L2.retiring (λ (k : Retiring). Clears k.clear L2 L3 d2 d3 (Ok tt))) where
              t3 : IsCleared
              t3 = cleared_by r.clear refl (clears_own (Ok tt) k3)

              retiring3 : L3.retiring ≡ Some r
              retiring3 = t3.stays.retiring ∙ kept_is

              third_low : (most : ℕ) → IsLow most L0 → IsLow (most + 3) L3
              third_low most low = subst (λ (n : ℕ). IsLow n L3) (three_more most) (t3.low (most + 1 + 1) (second_low most low))

              leaf_low : IsLow (2 ^ 63 + 3) L0 → t2.now.log.number ≤ 2 ^ 63 + 6
              leaf_low low =
                  let all : IsLow (2 ^ 63 + 3 + 3) L3 = third_low (2 ^ 63 + 3) low in
                  let own : t2.now.log.number ≤ 2 ^ 63 + 3 + 3 = subst (λ (o : Option Layer). IfSome (option_map (λ (l : Layer). l.log.number) o) (λ n. n ≤ 2 ^ 63 + 3 + 3)) t3.leaf all.0 in
                  own

              pub retire_can : IsLow (2 ^ 63 + 3) L0 → IfSome L3.retiring (λ k. IfSome L3.leaf (CanBeRetired k.retire d3))
              retire_can low =
                  let can : CanBeRetired r.retire d3 t2.now = record {
                    ready = (subst (λ o. IfSome o (IsReadyLeaf L3.geometry L3.below.items d3)) t3.leaf t3.stays.parts.leaf).ready;
                    waits = t2.changed.empty;
                    number = far_below t2.now.log.number (leaf_low low);
                    few = can_retire.few;
                    turns = turns_of t2.now r.retire d3.told t3.turns;
                  } in
                  subst (λ o. IfSome o (λ (k : Retiring). IfSome L3.leaf (CanBeRetired k.retire d3))) (sym retiring3) (subst (λ o. IfSome o (CanBeRetired r.retire d3)) (sym t3.leaf) can)

              pub retire_merge : is_some L3.retiring ≡ true
              retire_merge = ap is_some retiring3

              pub retire_session : is_some L3.leaf ≡ true
              retire_session = ap is_some t3.leaf

              -- ---- the leaf is retired

              module _ (L4 : Layers) (d4 : Disk) where
                retires_own : (a : Result (Unit {0}) StoreFault) → IfSome L3.retiring (λ (k : Retiring). ChangesFile (UpdatesBy k.retire) 0 L3 L4 d3 d4 a) → ChangesFile (UpdatesBy r.retire) 0 L3 L4 d3 d4 a
                retires_own a = subst (λ o. IfSome o (λ (k : Retiring). ChangesFile (UpdatesBy k.retire) 0 L3 L4 d3 d4 a)) retiring3

                pub stopped_fourth : (fault : StoreFault) → IfSome L3.retiring (λ (k : Retiring). ChangesFile (UpdatesBy k.retire) 0 L3 L4 d3 d4 (Err fault)) → Finishes L0 L4 d0 d4 (Err fault)
                stopped_fourth fault k =
                    let t = leaf_change (UpdatesBy r.retire) L3 L4 d3 d4 (Err fault) (retires_own (Err fault) k) in
                    stopped L4 d4 fault (broken_fourth L0 r L3 L4 d0 d3 d4 t3.reached (Err fault) t t3.first t1.rest t3.items t3.stays.leaf_by) (ap is_some t.now_there ∙ sym of_retiring.session) (t.geometry ∙ t3.stays.geometry)
                    (t.merge ∙ t3.stays.merge, t.retiring ∙ t3.stays.retiring) (leaf_fails L0 L3 d0 d3 t3.stays L4 d4 (UpdatesBy r.retire) (Err fault) t none t.changed.err)

                module _ (k4 : IfSome L3.retiring (λ (k : Retiring). ChangesFile (UpdatesBy k.retire) 0 L3 L4 d3 d4 (Ok tt))) where
                  t4 : LeafChange (UpdatesBy r.retire) L3 L4 d3 d4 (Ok tt)
                  t4 = leaf_change (UpdatesBy r.retire) L3 L4 d3 d4 (Ok tt) (retires_own (Ok tt) k4)

                  retiring4 : L4.retiring ≡ Some r
                  retiring4 = t4.retiring ∙ retiring3

                  same_leaf : t2.now ≡ t4.was
                  same_leaf = some_same {x = t2.now} {y = t4.was} (sym t3.leaf ∙ t4.was_there)

                  s4 : Stays L0 L4 d0 d4
                  s4 = stays_leaf L0 L3 d0 d3 t3.stays L4 d4 (UpdatesBy r.retire) (Ok tt) t4 t4.changed.parts
                      (relinking_leaves t4.was r.retire d3 d4 (subst (λ (l : Layer). WhereTold d3.told (FileTurns (Session l) r.retire)) same_leaf t3.turns) t4.changed.moments) t4.changed.counts t4.changed.ready

                  reached4 : WhereBothTold (Reaches L0 r (AtFourth L0 r L4)) d0.told d4.told
                  reached4 = reached_fourth L0 r L3 L4 d0 d3 d4 t3.reached (Ok tt) t4 t3.first t1.rest t3.items t3.stays.leaf_by t4.changed.has

                  items4 : L4.below.items ≡ Session t3.first ∷ t1.rest
                  items4 = ap (λ b. b.items) t4.below ∙ t3.items

                  pub identify_there : 0 < length L4.below.items
                  identify_there = subst (λ (b : List FileLayer). 0 < length b) (sym items4) (zero_suc (length t1.rest))

                  pub identify_session : is_session_at L4.below.items 0 ≡ true
                  identify_session = ap (λ (b : List FileLayer). is_session_at b 0) items4

                  pub identify_ready : AreAllReady d4 L4.below.items
                  identify_ready = all_ready L4.geometry d4 L4.below.items s4.parts.below

                  pub identify_next : IfSome (header_at L4.below.items 0) HasNextNumber
                  identify_next =
                      let first : header_at L1.below.items 0 ≡ header_at L0.below.items 0 = ap (λ (b : List FileLayer). header_at b 0) t1.now_there ∙ ap Some t1.changed.header ∙ sym (ap (λ (b : List FileLayer). header_at b 0) t1.was_there) in
                      subst (λ h. IfSome h HasNextNumber) (sym (ap (λ b. header_at b.items 0) t4.below ∙ t3.header ∙ ap (λ b. header_at b.items 0) t2.below ∙ first)) of_retiring.next

                  pub identify_merge : is_some L4.retiring ≡ true
                  identify_merge = ap is_some retiring4

                  -- ---- the target's last identifier

                  module _ (L5 : Layers) (d5 : Disk) where
                    identifies_own : (a : Result (Unit {0}) StoreFault) → IfSome L4.retiring (λ (k : Retiring). ChangesFile (Identifies k.third) 1 L4 L5 d4 d5 a) → ChangesFile (Identifies r.third) 1 L4 L5 d4 d5 a
                    identifies_own a = subst (λ o. IfSome o (λ (k : Retiring). ChangesFile (Identifies k.third) 1 L4 L5 d4 d5 a)) retiring4

                    pub stopped_fifth : (fault : StoreFault) → IfSome L4.retiring (λ (k : Retiring). ChangesFile (Identifies k.third) 1 L4 L5 d4 d5 (Err fault)) → Finishes L0 L5 d0 d5 (Err fault)
                    stopped_fifth fault k =
                        let t = target_change (Identifies r.third) L4 L5 d4 d5 (Err fault) (identifies_own (Err fault) k) in
                        stopped L5 d5 fault (broken_fifth L0 r L4 L5 d0 d4 d5 reached4 (Err fault) t t4.now t4.now_there) (ap is_some (t.leaf ∙ t4.now_there) ∙ sym of_retiring.session) (t.geometry ∙ s4.geometry) (t.merge ∙ s4.merge, t.retiring ∙ s4.retiring)
                        (target_fails L0 L4 d0 d4 s4 L5 d5 (Identifies r.third) (Err fault) t none t.changed.err)

                    module _ (k5 : IfSome L4.retiring (λ (k : Retiring). ChangesFile (Identifies k.third) 1 L4 L5 d4 d5 (Ok tt))) where
                      t5 : TargetChange (Identifies r.third) L4 L5 d4 d5 (Ok tt)
                      t5 = target_change (Identifies r.third) L4 L5 d4 d5 (Ok tt) (identifies_own (Ok tt) k5)

                      s5 : Stays L0 L5 d0 d5
                      s5 = stays_target L0 L4 d0 d4 s4 L5 d5 (Identifies r.third) (Ok tt) t5 t5.changed.parts (identifying_leaves t5.was r.third d4 d5 (target_was_ready L0 L4 d0 d4 s4 L5 d5 (Identifies r.third) (Ok tt) t5) t5.changed.moments) t5.changed.counts t5.changed.ready

                      reached5 : WhereBothTold (Reaches L0 r (AtFifth L0 r L5)) d0.told d5.told
                      reached5 = reached_fifth L0 r L4 L5 d0 d4 d5 reached4 (Ok tt) t5 t4.now t4.now_there t5.changed.has

                      pub hand_can : IsLow (2 ^ 63 + 3) L0 → IfSome L5.leaf (CanEnd d5)
                      hand_can low =
                          let leaf : L5.leaf ≡ Some t4.now = t5.leaf ∙ t4.now_there in
                          let can : CanEnd d5 t4.now = record {
                            ready = (subst (λ o. IfSome o (IsReadyLeaf L5.geometry L5.below.items d5)) leaf s5.parts.leaf).ready;
                            number = one_far_below t2.now.log.number t4.was.log.number t4.now.log.number (leaf_low low) (ap (λ (l : Layer). l.log.number) same_leaf) t4.changed.number;
                          } in
                          subst (λ o. IfSome o (CanEnd d5)) (sym leaf) can

                      pub hand_there : 0 < length L5.below.items
                      hand_there = subst (λ (b : List FileLayer). 0 < length b) (sym t5.now_there) (zero_suc (length t5.rest))

                      pub hand_target : is_session_at L5.below.items 0 ≡ true
                      hand_target = ap (λ (b : List FileLayer). is_session_at b 0) t5.now_there

                      pub hand_session : is_some L5.leaf ≡ true
                      hand_session = ap is_some (t5.leaf ∙ t4.now_there)

                      -- ---- the target is the leaf

                      module _ (L6 : Layers) (d6 : Disk) where
                        pub stopped_sixth : (fault : StoreFault) → HandsOver L5 L6 d5 d6 (Err fault) → Finishes L0 L6 d0 d6 (Err fault)
                        stopped_sixth fault h =
                            let own : own_file h.leaf ≡ number_above L0 L0.merge = sym (ap number_of_leaf h.was) ∙ stays_number L0 L5 d0 d5 s5 ∙ sym (ap (number_above L0) none) in
                            stopped L6 d6 fault (broken_sixth L0 r L5 L6 L6 d0 d5 d6 reached5 (Err fault) h) (ap is_some h.now ∙ sym of_retiring.session) (h.geometry ∙ s5.geometry) (h.merge ∙ s5.merge, h.retiring ∙ s5.retiring)
                            (failed_later (IsTargetOrChild L0) (IsTargetOrChild L0) d0 d5 d6 (Err fault) (λ n x. x) s5.counts (change_failed h.leaf L0 d5 d6 (Err fault) (inr own) (handed_leaf_ready L5 L6 d5 d6 (Err fault) s5.parts h) h.err))

                        module _ (h : HandsOver L5 L6 d5 d6 (Ok tt)) (L7 : Layers) (geometry : L7.geometry ≡ L6.geometry) (leaf_now : L7.leaf ≡ L6.leaf) (below_now : L7.below ≡ L6.below) (merge_now : L7.merge ≡ L6.merge) (none_now : L7.retiring ≡ None) where
                          no_merge : L7.merge ≡ None
                          no_merge = merge_now ∙ h.merge ∙ s5.merge ∙ none

                          geometry7 : L7.geometry ≡ L0.geometry
                          geometry7 = geometry ∙ h.geometry ∙ s5.geometry

                          leaf7 : L7.leaf ≡ Some h.target
                          leaf7 = leaf_now ∙ h.now

                          items7 : L7.below.items ≡ h.rest
                          items7 = ap (λ b. b.items) below_now ∙ h.left

                          same_rest : h.rest ≡ t1.rest
                          same_rest = ap (drop 1) (sym h.was_there) ∙ s5.others ∙ ap (drop 1) t1.was_there

                          items0 : L0.below.items ≡ Session t1.was ∷ h.rest
                          items0 = t1.was_there ∙ ap (λ (b : List FileLayer). Session t1.was ∷ b) (sym same_rest)

                          parts7 : AreParts L7.geometry L7.leaf L7.below.items d6
                          parts7 =
                              subst (λ (b : List FileLayer). AreParts L7.geometry L7.leaf b d6) (sym items7)
                              (subst (λ o. AreParts L7.geometry o h.rest d6) (sym leaf7) (subst (λ (g : Geometry). AreParts g (Some h.target) h.rest d6) (sym (geometry ∙ h.geometry)) (handed_parts L5 L6 d5 d6 (Ok tt) s5.parts h (ap (λ (d : Disk). d.files) h.counts))))

                          low7 : (most : ℕ) → IsLow most L0 → IsLow (most + 3) L7
                          low7 most low =
                              let all3 = (third_low most low).1 in
                              let all4 : AllByRecursion (λ number. IfSome number (λ n. n ≤ most + 3)) (map log_number (Session t5.was ∷ t5.rest)) =
                              subst (λ (b : List FileLayer). AllByRecursion (λ number. IfSome number (λ n. n ≤ most + 3)) (map log_number b)) (sym (ap (λ b. b.items) t4.below) ∙ t5.was_there) all3 in
                              let own : t5.now.log.number ≤ most + 3 = same_low t5.was.log.number t5.now.log.number most all4.0 t5.changed.number in
                              let all5 : AllByRecursion (λ number. IfSome number (λ n. n ≤ most + 3)) (map log_number (Session h.target ∷ h.rest)) =
                              subst (λ (b : List FileLayer). AllByRecursion (λ number. IfSome number (λ n. n ≤ most + 3)) (map log_number b)) (sym t5.now_there ∙ h.was_there) (own, all4.1) in (
                                subst (λ (o : Option Layer). IfSome (option_map (λ (l : Layer). l.log.number) o) (λ n. n ≤ most + 3)) (sym leaf7) all5.0,
                                subst (λ (b : List FileLayer). AllByRecursion (λ number. IfSome number (λ n. n ≤ most + 3)) (map log_number b)) (sym items7) all5.1,
                              )

                          pub finish_retired : Finishes L0 L7 d0 d6 (Ok tt)
                          finish_retired = record {
                            told = reached_told L0 r kept_is L7 d0.told d6.told (reached_sixth L0 r L5 L6 L7 d0 d5 d6 reached5 (Ok tt) h h.ended t1.was items0 geometry7 leaf_now below_now no_merge none_now);
                            ready = record {
                              sector = ap (λ (g : Geometry). g.sector) geometry7 ∙ ready.sector;
                              leaf = parts7.leaf;
                              below = parts7.below;
                              apart = parts7.apart;
                              merge = subst (λ o. IfSome o (IsMergeOf L7.geometry L7.leaf L7.below.items)) (sym no_merge) tt;
                              relink = subst (λ o. IfSome o (CanRelink L7.leaf L7.below.items d6)) (sym no_merge) tt;
                              one = subst (λ o. AtMostOne o L7.retiring) (sym no_merge) tt;
                              retiring = subst (λ o. IfSome o (IsRetiringOf L7.geometry L7.leaf L7.below.items)) (sym none_now) tt;
                              retires = subst (λ o. IfSome o (CanRetire L7.leaf L7.below.items d6)) (sym none_now) tt;
                            };
                            low = low7;
                            session = ap is_some leaf7 ∙ sym of_retiring.session;
                            geometry = geometry7;
                            merge = (no_merge, none_now);
                            files = ap file_numbers items7 ∙ sym (ap (numbers_left (file_numbers L0.below.items)) none ∙ ap (λ (b : List FileLayer). drop 1 (file_numbers b)) items0);
                            leaf = ap number_of_leaf leaf7 ∙ ap (λ (b : List FileLayer). get_or (file_numbers b) 0 0) (sym h.was_there) ∙ ap (λ (b : List ℕ). get_or b 0 0) s5.numbers ∙ sym (ap (number_below (file_numbers L0.below.items)) none) ∙ sym (ap (leaf_left L0) none);
                            stays = tt;
                            counts = h.counts ∙ ap (λ (d : Disk). record d { told = d6.told }) s5.counts;
                            err = tt;
                          }
