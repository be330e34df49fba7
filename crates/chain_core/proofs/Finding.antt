-- What reading leaves of the layers, and what it finds.
use Rattle.std.proofs.Common.{◌≡◌, ◌≢◌, ℕ, zero, suc, ◌+◌, ◌*◌, ◌/◌, ◌%◌, ◌==◌, ◌<◌, ◌≤◌, Bool, true, cond, List, [], ◌∷◌, ◌++◌, length, take, drop, get_or, replicate, refl, sym, ap, subst, ◌∙◌, arith, is_some, map, mul_comm, ◌-◌}
use Rattle.std.specs.Prelude.{Option, Some, None, unwrap_or, option_map, Result, Ok, Err, OnOk, IfErr, IfSome}
use Rattle.std.specs.List.{AllByRecursion}
use Rattle.std.specs.Option.{option_or}
use Rattle.std.specs.Int.{bit_at}
use Rattle.std.proofs.lemmas.List.{nil_from_length, take-append-drop, drop-drop, drop_more, length-drop, get_or-replicate, length-map}
use Rattle.std.proofs.lemmas.Nat.Bits.{bit_at-zero}
use Rattle.vx_base.specs.declared.parts.Geometry.{Geometry}
use Rattle.vx_base.specs.declared.parts.Header.{Header}
use Rattle.vx_base.specs.declared.parts.Parts.{Parts}
use Rattle.vx_base.specs.Fields.{bytes_at, zeros}
use Rattle.vhdx_format.specs.SectorBitmaps.{bit_of}
use Rattle.store_model.specs.declared.fault.StoreFault.{StoreFault}
use Rattle.store_model.specs.Disk.{Disk, ReadFailed, WhereTold, WhereBothTold}
use Rattle.store_model.specs.File.{seen}
use Rattle.store_model.specs.Trace.{Trace, file_of}
use Rattle.table_pages.specs.declared.tables.TableParts.{TableParts}
use Rattle.guest_model.specs.declared.call.Call.TheVariants as calls
use Rattle.guest_model.specs.declared.call.Reply.TheVariants as replies
use Rattle.guest_model.specs.Calls.{Disk as GuestDisk, bytes_of, reply}
use Rattle.guest_model.specs.History.{sector_at}
use Rattle.chain_model.specs.Layers.{Layer as SectorLayer, flat, through}
use Rattle.chain_model.specs.Members.{layers_of}
use Rattle.chain_model.specs.Images.{Placed, members_of}
use Rattle.chain_model.proofs.Layering.{length-flat, sector_at-flat}
use Rattle.layer_session.specs.declared.file.Layer.{Layer}
use Rattle.layer_session.specs.declared.file_layer.FileLayer.{FileLayer}
use Rattle.layer_session.specs.Calls.{AddsOwned, IsBeside, IsSame, own_bytes, own_file}
use Rattle.layer_session.specs.Keeping.{IsHeld, Serves}
use Rattle.layer_session.specs.ReadOnly.{SomeReadFailed}
use Rattle.layer_session.specs.FileLayers.{AreReadyFiles, AreSameFiles, HaveFiles, HaveSameNumbers, file_numbers, log_header, log_number, number_of, table_parts}
use Rattle.layer_session.proofs.Standing.{layers_stand}
use Rattle.chain_core.specs.declared.layers.Layers.{Layers}
use Rattle.read_plan.specs.Plans.{filled}
use Rattle.read_plan.specs.declared.plan.Extent.{Extent}
use Rattle.sealed_layer.specs.Planned.{PlanHad, files_in}
use Rattle.chain_core.specs.Planned.{FindsPlanned, PlansPart}
use Rattle.chain_core.specs.Reading.{AddsPart, HasOnlyRead, of_read, of_session}
use Rattle.chain_core.specs.declared.layers.Underway.{Underway}
use Rattle.chain_core.specs.Sessions.{AreApart, AreReady, AtMostOne, CanRelink, CanRetire, IsMergeOf, IsReadyLeaf, IsRetiringOf, number_of_leaf}
use Rattle.chain_core.specs.States.{AreHeld, State, IsRetiring, IsServing, disk_now, files_of, sector_of, seen_in, others_of, AreWritten, IsCourse, Rest, child_parts, merging, plain, retiring, target_parts}
use Rattle.chain_core.specs.declared.layers.Retiring.{Retiring}
use Rattle.layer_session.specs.FileLayers.{AreOthers}
use Rattle.guest_model.specs.History.{History}
use Rattle.layer_session.proofs.FileLayers.{file_layers_stand}
use Rattle.chain_core.proofs.Steps.{LeafStep, written_on, course_on, leaving_on}
use Rattle.chain_core.proofs.Standing.{leaf_of, merge_on, relink_on, retires_on, retiring_on}
use Rattle.chain_core.proofs.Turning.{alike_same, all_read, all_resting, relink_same, retires_alike, retiring_alike, top_resting, turn_read}
use Rattle.layer_session.proofs.Equal.{cons_nil, false_true, first_same, nil_cons, none_some, rest_same, some_none}

-- ---- the store stays but for its counts of failed reads

-- what a read leaves of the store, done or failed
pub record Stays (before after : Disk) : Type 0 where
  pub files : after.files ≡ before.files
  pub told : after.told ≡ before.told

stays_by : (before after : Disk) (answer : Result (Unit {0}) StoreFault) → OnOk answer (after ≡ before) → IfErr answer (λ fault. ReadFailed fault.file before after fault) → Stays before after
stays_by before after (Ok t) done failed = record { files = ap (λ (d : Disk). d.files) done; told = ap (λ (d : Disk). d.told) done }
stays_by before after (Err fault) done failed = record { files = ap (λ (d : Disk). d.files) failed.stays; told = ap (λ (d : Disk). d.told) failed.stays }

-- a failed read of one file is one of the file that the fault names
its_own : (file : ℕ) (before after : Disk) (answer : Result (Unit {0}) StoreFault) → IfErr answer (ReadFailed file before after) → IfErr answer (λ fault. ReadFailed fault.file before after fault)
its_own file before after (Ok t) failed = tt
its_own file before after (Err fault) failed = subst (λ (f : ℕ). ReadFailed f before after fault) (sym failed.of_file) failed

of_some : (before after : Disk) (answer : Result (Unit {0}) StoreFault) → IfErr answer (SomeReadFailed before after) → IfErr answer (λ fault. ReadFailed fault.file before after fault)
of_some before after (Ok t) failed = tt
of_some before after (Err fault) failed = failed.1

same_beside : (other : ℕ) (a b : Option Trace) → b ≡ a → WhereBothTold (IsBeside other) a b
same_beside other a b e = subst (λ o. WhereBothTold (IsBeside other) a o) (sym e) (itself a)
  where
    itself : (a : Option Trace) → WhereBothTold (IsBeside other) a a
    itself None = tt
    itself (Some t) = record { same = refl; names = refl }

ready_moved : (g : Geometry) (below : List FileLayer) (before after : Disk) → Stays before after → AreReadyFiles g before below → AreReadyFiles g after below
ready_moved g [] before after s all = tt
ready_moved g (l ∷ below) before after s all = (
  record { ready = file_layers_stand.ready l before after all.0.ready s.files (same_beside (number_of l) before.told after.told s.told); sector = all.0.sector; sectors = all.0.sectors },
  ready_moved g below before after s all.1,
)

leaf_moved : (g : Geometry) (below : List FileLayer) (leaf : Layer) (before after : Disk) → Stays before after → IsReadyLeaf g below before leaf → IsReadyLeaf g below after leaf
leaf_moved g below leaf before after s l = record {
  ready = layers_stand.ready leaf before after l.ready s.files (same_beside (own_file leaf) before.told after.told s.told);
  sector = l.sector;
  sectors = l.sectors;
  apart = l.apart;
}

-- ---- the layers serve what they served

swapped : (old new : Layers) (v : State) (trace : Trace) → new.geometry ≡ old.geometry → IsCourse (sector_of v) v.writes new new.merge v.top v.rest → IsRetiring (sector_of v) v.writes v.history new new.retiring v.top v.rest → IfSome new.leaf (λ leaf. (v.writes v.top.number ≡ true) × AreWritten v.writes new.below.items) → AreHeld new.leaf new.below.items trace v.top (others_of v.rest) → IsServing old v trace → IsServing new v trace
swapped old new v trace g course leaving written held s = record {
  once = s.once;
  geometry = g ∙ s.geometry;
  served = s.served;
  loose = s.loose;
  course = course;
  leaving = leaving;
  drops = s.drops;
  held = held;
  whole = s.whole;
  synced = s.synced;
  written = written;
  still = s.still;
  past = s.past;
}

-- the leaf was read
pub leaf_reads : (old new : Layers) (leaf next : Layer) (file : ℕ) (before after : Disk) (answer : Result (Unit {0}) StoreFault) → LeafStep old new leaf next → new.retiring ≡ old.retiring → IsSame leaf next before
    → OnOk answer (after ≡ before) → IfErr answer (ReadFailed file before after) → AreReady old before → HasOnlyRead old new before after
leaf_reads old new leaf next file before after answer step kept same done failed ready =
    let s = stays_by before after answer done (its_own file before after answer failed) in
    let l = leaf_of old leaf before step.was ready in
    let made : IsReadyLeaf old.geometry old.below.items before next = record {
      ready = same.ready l.ready;
      sector = ap (λ (p : TableParts). p.sector) same.parts ∙ l.sector;
      sectors = ap (λ (p : TableParts). p.sectors) same.parts ∙ l.sectors;
      apart = subst (λ (n : ℕ). AreOthers n old.below.items) (sym (ap (λ (p : TableParts). p.file) same.parts)) l.apart;
    } in
    let moved = leaf_moved old.geometry old.below.items next before after s made in
    let there : IsReadyLeaf new.geometry new.below.items after next = subst (λ b. IsReadyLeaf new.geometry b.items after next) (sym step.below) (subst (λ (g : Geometry). IsReadyLeaf g old.below.items after next) (sym step.geometry) moved) in
    let below = ready_moved old.geometry old.below.items before after s ready.below in
    record {
      geometry = step.geometry;
      numbers = ap (λ (o : Option Layer). option_map (λ (l : Layer). l.log.number) o ∷ map log_number new.below.items) step.now ∙ ap (λ (n : ℕ). Some n ∷ map log_number new.below.items) same.number
          ∙ sym (ap (λ (o : Option Layer). option_map (λ (l : Layer). l.log.number) o ∷ map log_number new.below.items) step.was)
          ∙ ap (λ b. option_map (λ (l : Layer). l.log.number) old.leaf ∷ map log_number b.items) step.below;
      merge = step.merge;
      retiring = kept;
      leaf = ap number_of_leaf step.now ∙ ap (λ (p : TableParts). p.file) same.parts ∙ sym (ap number_of_leaf step.was);
      ready = record {
        sector = ap (λ (g : Geometry). g.sector) step.geometry ∙ ready.sector;
        leaf = subst (λ o. IfSome o (IsReadyLeaf new.geometry new.below.items after)) (sym step.now) there;
        below = subst (λ b. AreReadyFiles new.geometry after b.items) (sym step.below) (subst (λ (g : Geometry). AreReadyFiles g after old.below.items) (sym step.geometry) below);
        apart = subst (λ b. AreApart (file_numbers b.items)) (sym step.below) ready.apart;
        merge = merge_on old new leaf next step ready.merge;
        one = subst (λ o. AtMostOne o new.retiring) (sym step.merge) (subst (λ o. AtMostOne old.merge o) (sym kept) ready.one);
        retiring = retiring_on old new leaf next step (alike_same old.retiring new.retiring kept) ready.retiring;
        retires = retires_on old new leaf next before after step (alike_same old.retiring new.retiring kept) (turn_read before after leaf next s.told same) (all_resting before after old.below.items s.told) ready.retires;
        relink = relink_on old new leaf next before after step (turn_read before after leaf next s.told same) (all_resting before after old.below.items s.told) ready.relink;
      };
      serves = λ trace is v serving.
          let held : Serves leaf trace v.top × HaveFiles old.below.items trace (others_of v.rest) = subst (λ o. AreHeld o old.below.items trace v.top (others_of v.rest)) step.was serving.held in
          let rest : HaveFiles new.below.items trace (others_of v.rest) = subst (λ b. HaveFiles b.items trace (others_of v.rest)) (sym step.below) held.1 in
          swapped old new v trace step.geometry (course_on (sector_of v) old new leaf next v.writes v.top v.top v.rest step refl refl refl refl serving.course) (leaving_on (sector_of v) v.history old new leaf next v.writes v.top v.top v.rest step kept refl refl refl serving.leaving) (written_on old new leaf next v step serving) (subst (λ o. AreHeld o new.below.items trace v.top (others_of v.rest)) (sym step.now) (same.serves trace v.top is held.0, rest)) serving;
      told = s.told;
    }

-- ---- the files below were read

-- what holds of their numbers, and of those of their logs' last entries, holds still
same_numbers : (P : ℕ → Option ℕ → Type 0) (was now : List FileLayer) → map table_parts now ≡ map table_parts was → map log_number now ≡ map log_number was
    → AllByRecursion (λ l. P (number_of l) (log_number l)) was → AllByRecursion (λ l. P (number_of l) (log_number l)) now
same_numbers P was [] parts logs all = tt
same_numbers P [] (l ∷ now) parts logs all = absurd (let never : ◌≡◌ {A = List TableParts} (table_parts l ∷ map table_parts now) [] = parts in cons_nil never)
same_numbers P (w ∷ was) (l ∷ now) parts logs all =
    let own : table_parts w ≡ table_parts l = sym (first_same parts) in
    let log : log_number w ≡ log_number l = sym (first_same logs) in
    let rest : map table_parts now ≡ map table_parts was = rest_same parts in
    let others : map log_number now ≡ map log_number was = rest_same logs in
    (subst (λ (n : ℕ). P n (log_number l)) (ap (λ (p : TableParts). p.file) own) (subst (λ (k : Option ℕ). P (number_of w) k) log all.0), same_numbers P was now rest others all.1)

numbers_same : (was now : List FileLayer) → map table_parts now ≡ map table_parts was → file_numbers now ≡ file_numbers was
numbers_same was [] parts = by_was was parts
  where
    by_was : (was : List FileLayer) → map table_parts [] ≡ map table_parts was → [] ≡ file_numbers was
    by_was [] parts = refl
    by_was (w ∷ was) parts = absurd (let never : ◌≡◌ {A = List TableParts} [] (table_parts w ∷ map table_parts was) = parts in nil_cons never)
numbers_same [] (l ∷ now) parts = absurd (let never : ◌≡◌ {A = List TableParts} (table_parts l ∷ map table_parts now) [] = parts in cons_nil never)
numbers_same (w ∷ was) (l ∷ now) parts =
    let own : table_parts l ≡ table_parts w = first_same parts in
    let rest : map table_parts now ≡ map table_parts was = rest_same parts in
    let first : number_of l ≡ number_of w = ap (λ (p : TableParts). p.file) own in
    let others : file_numbers now ≡ file_numbers was = numbers_same was now rest in
    ap (λ n. n ∷ file_numbers now) first ∙ ap (λ ns. number_of w ∷ ns) others

-- a merge is one of them still
merge_same : (g : Geometry) (leaf : Option Layer) (was now : List FileLayer) (merge : Option Underway) → HaveSameNumbers was now → IfSome merge (IsMergeOf g leaf was) → IfSome merge (IsMergeOf g leaf now)
merge_same g leaf was now None same is = tt
merge_same g leaf was now (Some u) same is =
    let long : length now ≡ length was = simp length-map at (ap length same.parts) in
    record { session = is.session; there = let below : u.source + 1 < length was = is.there in omega arith; target = ap (λ (logs : List (Option ℕ)). is_some (get_or logs (u.source + 1) None)) same.logs ∙ is.target; child = λ some. ap (λ (logs : List (Option ℕ)). is_some (get_or logs (u.source - 1) None)) same.logs ∙ is.child some; stripes = is.stripes }

leaf_beside : (o : Option Layer) (g : Geometry) (was now : List FileLayer) (before after : Disk) → Stays before after → HaveSameNumbers was now
    → IfSome o (IsReadyLeaf g was before) → IfSome o (IsReadyLeaf g now after)
leaf_beside None g was now before after s same leaf = tt
leaf_beside (Some leaf) g was now before after s same l =
    leaf_moved g now leaf before after s (record { ready = l.ready; sector = l.sector; sectors = l.sectors; apart = same_numbers (λ n k. n ≢ own_file leaf) was now same.parts same.logs l.apart })

held_beside : (o : Option Layer) (was now : List FileLayer) (trace : Trace) (v : State) → ((files : List Placed) → HaveFiles was trace files → HaveFiles now trace files) → AreHeld o was trace v.top (others_of v.rest) → AreHeld o now trace v.top (others_of v.rest)
held_beside None was now trace v reads held = (held.0, reads (files_of v) held.1)
held_beside (Some leaf) was now trace v reads held = (held.0, reads (others_of v.rest) held.1)

somes : (xs : List FileLayer) → map (λ l. Some (table_parts l)) xs ≡ map Some (map table_parts xs)
somes [] = refl
somes (l ∷ xs) = ap (λ rest. Some (table_parts l) ∷ rest) (somes xs)

parts_same : (was now : List FileLayer) (k : ℕ) → map table_parts now ≡ map table_parts was → get_or (map (λ l. Some (table_parts l)) now) k None ≡ get_or (map (λ l. Some (table_parts l)) was) k None
parts_same was now k same = ap (λ (parts : List (Option TableParts)). get_or parts k None) (somes now ∙ ap (map Some) same ∙ sym (somes was))

course_beside : (z : ℕ) (old new : Layers) (now : List FileLayer) (writes : ℕ → Bool) (top : Placed) (rest : Rest) → HaveSameNumbers old.below.items now → new.leaf ≡ old.leaf → new.merge ≡ old.merge → new.below.items ≡ now
    → IsCourse z writes old old.merge top rest → IsCourse z writes new new.merge top rest
course_beside z old new now writes top rest same l m n course = subst (λ o. IsCourse z writes new o top rest) (sym m) (by_rest old.merge rest course)
  where
    by_rest : (o : Option Underway) (rest : Rest) → IsCourse z writes old o top rest → IsCourse z writes new o top rest
    by_rest None (plain others) is = tt
    by_rest None (merging above source target below m) is = absurd is
    by_rest None (retiring target below first before) is = tt
    by_rest (Some u) (plain others) is = absurd is
    by_rest (Some u) (retiring target below first before) is = absurd is
    by_rest (Some u) (merging above source target below m) is = record {
      place = is.place;
      written = is.written;
      child_written = is.child_written;
      parts = is.parts;
      goes_by = ap (λ o. child_parts o new.below.items u.source) l ∙ ap (λ (b : List FileLayer). child_parts old.leaf b u.source) n
          ∙ ap (λ (o : Option TableParts). cond (u.source == 0) (option_map (λ (l : Layer). l.tables.parts) old.leaf) o) (parts_same old.below.items now (u.source - 1) same.parts) ∙ is.goes_by;
      relinks = is.relinks;
      marks = is.marks;
      under_way = is.under_way;
    }

leaving_beside : (z : ℕ) (h : History) (old new : Layers) (now : List FileLayer) (writes : ℕ → Bool) (top : Placed) (rest : Rest) → HaveSameNumbers old.below.items now → new.leaf ≡ old.leaf → new.retiring ≡ old.retiring → new.below.items ≡ now
    → IsRetiring z writes h old old.retiring top rest → IsRetiring z writes h new new.retiring top rest
leaving_beside z h old new now writes top rest same l m n leaving = subst (λ o. IsRetiring z writes h new o top rest) (sym m) (by_rest old.retiring rest leaving)
  where
    by_rest : (o : Option Retiring) (rest : Rest) → IsRetiring z writes h old o top rest → IsRetiring z writes h new o top rest
    by_rest None (plain others) is = tt
    by_rest None (merging above source target below m) is = tt
    by_rest None (retiring target below first before) is = absurd is
    by_rest (Some r) (plain others) is = absurd is
    by_rest (Some r) (merging above source target below m) is = absurd is
    by_rest (Some r) (retiring target below first before) is = record {
      some = is.some;
      written = is.written;
      parts = is.parts;
      goes_by = ap (option_map (λ (l : Layer). l.tables.parts)) l ∙ is.goes_by;
      retires = is.retires;
      lower = is.lower;
      lower_goes_by = ap target_parts n ∙ parts_same old.below.items now 0 same.parts ∙ is.lower_goes_by;
      clears = is.clears;
      each = is.each;
      stamps = is.stamps;
      under_way = is.under_way;
    }

written_beside : (old new : Layers) (now : List FileLayer) (v : State) → HaveSameNumbers old.below.items now → new.leaf ≡ old.leaf → new.below.items ≡ now
    → IfSome old.leaf (λ leaf. (v.writes v.top.number ≡ true) × AreWritten v.writes old.below.items) → IfSome new.leaf (λ leaf. (v.writes v.top.number ≡ true) × AreWritten v.writes new.below.items)
written_beside old new now v same l n written =
    subst (λ o. IfSome o (λ leaf. (v.writes v.top.number ≡ true) × AreWritten v.writes new.below.items)) (sym l)
    (subst (λ (b : List FileLayer). IfSome old.leaf (λ leaf. (v.writes v.top.number ≡ true) × AreWritten v.writes b)) (sym n) (by_leaf old.leaf written))
  where
    by_leaf : (o : Option Layer) → IfSome o (λ leaf. (v.writes v.top.number ≡ true) × AreWritten v.writes old.below.items) → IfSome o (λ leaf. (v.writes v.top.number ≡ true) × AreWritten v.writes now)
    by_leaf None h = tt
    by_leaf (Some leaf) h = (h.0, same_numbers (λ n k. v.writes n ≡ is_some k) old.below.items now same.parts same.logs h.1)

pub below_reads : (old new : Layers) (was now : List FileLayer) (before after : Disk) (answer : Result (Unit {0}) StoreFault) → was ≡ old.below.items → new.geometry ≡ old.geometry → new.leaf ≡ old.leaf → new.merge ≡ old.merge → new.retiring ≡ old.retiring → new.below.items ≡ now
    → AreSameFiles old.geometry was now before → HaveSameNumbers was now → map log_header now ≡ map log_header was → OnOk answer (after ≡ before) → IfErr answer (SomeReadFailed before after) → AreReady old before → HasOnlyRead old new before after
below_reads old new was now before after answer w g l m q n same numbers headers done failed ready =
    let s = stays_by before after answer done (of_some before after answer failed) in
    let same' : AreSameFiles old.geometry old.below.items now before = subst (λ (b : List FileLayer). AreSameFiles old.geometry b now before) w same in
    let numbers' : HaveSameNumbers old.below.items now = subst (λ (b : List FileLayer). HaveSameNumbers b now) w numbers in
    let leaf : IfSome old.leaf (IsReadyLeaf old.geometry now after) = leaf_beside old.leaf old.geometry old.below.items now before after s numbers' ready.leaf in
    let leaf' : IfSome new.leaf (IsReadyLeaf new.geometry new.below.items after) =
    subst (λ o. IfSome o (IsReadyLeaf new.geometry new.below.items after)) (sym l)
    (subst (λ (b : List FileLayer). IfSome old.leaf (IsReadyLeaf new.geometry b after)) (sym n) (subst (λ (k : Geometry). IfSome old.leaf (IsReadyLeaf k now after)) (sym g) leaf)) in
    let below = ready_moved old.geometry now before after s (same'.ready ready.below) in
    record {
      geometry = g;
      numbers = ap (λ (o : Option Layer). option_map (λ (l : Layer). l.log.number) o ∷ map log_number new.below.items) l
          ∙ ap (λ (logs : List (Option ℕ)). option_map (λ (l : Layer). l.log.number) old.leaf ∷ logs) (ap (map log_number) n ∙ numbers'.logs);
      merge = m;
      retiring = q;
      leaf = ap number_of_leaf l;
      ready = record {
        sector = ap (λ (k : Geometry). k.sector) g ∙ ready.sector;
        leaf = leaf';
        below = subst (λ (b : List FileLayer). AreReadyFiles new.geometry after b) (sym n) (subst (λ (k : Geometry). AreReadyFiles k after now) (sym g) below);
        apart = subst AreApart (sym (ap file_numbers n ∙ numbers_same old.below.items now numbers'.parts)) ready.apart;
        merge = subst (λ o. IfSome o (IsMergeOf new.geometry new.leaf new.below.items)) (sym m)
            (subst (λ (k : Geometry). IfSome old.merge (IsMergeOf k new.leaf new.below.items)) (sym g)
            (subst (λ o. IfSome old.merge (IsMergeOf old.geometry o new.below.items)) (sym l)
            (subst (λ (b : List FileLayer). IfSome old.merge (IsMergeOf old.geometry old.leaf b)) (sym n) (merge_same old.geometry old.leaf old.below.items now old.merge numbers' ready.merge))));
        one = subst (λ o. AtMostOne o new.retiring) (sym m) (subst (λ o. AtMostOne old.merge o) (sym q) ready.one);
        retiring = subst (λ (k : Geometry). IfSome new.retiring (IsRetiringOf k new.leaf new.below.items)) (sym g)
            (subst (λ (b : List FileLayer). IfSome new.retiring (IsRetiringOf old.geometry new.leaf b)) (sym n)
            (retiring_alike old.geometry old.leaf new.leaf old.below.items now old.retiring new.retiring (alike_same old.retiring new.retiring q) (ap is_some l)
            (λ some. let long : length now ≡ length old.below.items = simp length-map at (ap length numbers'.parts) in omega (arith, long, some))
            (ap (λ (logs : List (Option ℕ)). is_some (get_or logs 0 None)) numbers'.logs)
            (ap (λ (hs : List (Option Header)). get_or hs 0 None) (headers ∙ ap (map log_header) w)) ready.retiring));
        retires = subst (λ o. IfSome new.retiring (CanRetire o new.below.items after)) (sym l)
            (subst (λ (b : List FileLayer). IfSome new.retiring (CanRetire old.leaf b after)) (sym n)
            (retires_alike before after old.leaf old.leaf old.below.items now old.retiring new.retiring (alike_same old.retiring new.retiring q) (top_resting before after old.leaf s.told)
            (all_read old.geometry before after old.below.items now numbers'.parts s.told ready.below (λ t files is. same'.have t files is)) ready.retires));
        relink = subst (λ o. IfSome o (CanRelink new.leaf new.below.items after)) (sym m)
            (subst (λ o. IfSome old.merge (CanRelink o new.below.items after)) (sym l)
            (subst (λ (b : List FileLayer). IfSome old.merge (CanRelink old.leaf b after)) (sym n)
            (relink_same before after old.leaf old.leaf old.below.items now old.merge (top_resting before after old.leaf s.told)
            (all_read old.geometry before after old.below.items now numbers'.parts s.told ready.below (λ t files is. same'.have t files is)) ready.relink)));
      };
      serves = λ trace is v serving.
          let held : AreHeld old.leaf now trace v.top (others_of v.rest) = held_beside old.leaf old.below.items now trace v (λ files. same'.have trace files is) serving.held in
          swapped old new v trace g (course_beside (sector_of v) old new now v.writes v.top v.rest numbers' l m n serving.course) (leaving_beside (sector_of v) v.history old new now v.writes v.top v.rest numbers' l q n serving.leaving) (written_beside old new now v numbers' l n serving.written) (subst (λ o. AreHeld o new.below.items trace v.top (others_of v.rest)) (sym l) (subst (λ (b : List FileLayer). AreHeld old.leaf b trace v.top (others_of v.rest)) (sym n) held)) serving;
      told = s.told;
    }

-- ---- what was found

pub leaf_adds : (layers : Layers) (leaf : Layer) (disk : Disk) (first count : ℕ) (mask new_mask out new_out : List ℕ) (answer : Result (Unit {0}) StoreFault) → layers.leaf ≡ Some leaf → AreReady layers disk
    → OnOk answer ((parts : Parts) (layer : SectorLayer) → WhereTold disk.told (λ trace. IsHeld leaf parts layer (own_bytes leaf trace) → AddsOwned layer leaf.tables.parts.sector first count 0 mask new_mask out new_out))
    → OnOk answer (AddsPart of_session first count layers disk mask new_mask out new_out)
leaf_adds layers leaf disk first count mask new_mask out new_out (Err fault) is ready owned = tt
leaf_adds layers leaf disk first count mask new_mask out new_out (Ok t) is ready owned = λ trace told v serving.
    let l = leaf_of layers leaf disk is ready in
    let serves : Serves leaf trace v.top = (subst (λ o. AreHeld o layers.below.items trace v.top (others_of v.rest)) is serving.held).0 in
    let held : IsHeld leaf serves.parts v.top.member.layer (own_bytes leaf trace) = subst (λ (n : ℕ). IsHeld leaf serves.parts v.top.member.layer (seen (file_of trace n))) serves.number serves.as_held in
    let adds = owned serves.parts v.top.member.layer trace told held in
    let sized = subst (λ (z : ℕ). AddsOwned v.top.member.layer z first count 0 mask new_mask out new_out) l.sector adds in
    subst (λ o. AddsOwned (of_session o v) layers.geometry.sector first count 0 mask new_mask out new_out) (sym is) sized

pub below_adds : (layers : Layers) (was : List FileLayer) (disk : Disk) (first count : ℕ) (mask new_mask out new_out : List ℕ) (answer : Result (Unit {0}) StoreFault) → was ≡ layers.below.items
    → OnOk answer ((files : List Placed) → WhereTold disk.told (λ trace. HaveFiles was trace files → AddsOwned (through (layers_of (members_of files))) layers.geometry.sector first count 0 mask new_mask out new_out))
    → OnOk answer (AddsPart of_read first count layers disk mask new_mask out new_out)
below_adds layers was disk first count mask new_mask out new_out (Err fault) w owned = tt
below_adds layers was disk first count mask new_mask out new_out (Ok t) w owned = λ trace told v serving. by_leaf layers.leaf trace told v serving.held
  where
    by_leaf : (o : Option Layer) (trace : Trace) → disk.told ≡ Some trace → (v : State) → AreHeld o layers.below.items trace v.top (others_of v.rest) → AddsOwned (of_read o v) layers.geometry.sector first count 0 mask new_mask out new_out
    by_leaf None trace told v held = owned (files_of v) trace told (subst (λ (b : List FileLayer). HaveFiles b trace (files_of v)) (sym w) held.1)
    by_leaf (Some leaf) trace told v held = owned (others_of v.rest) trace told (subst (λ (b : List FileLayer). HaveFiles b trace (others_of v.rest)) (sym w) held.1)

-- a mask of zeros has no bit set
blank : (k : ℕ) → k < 2048 → bit_of (replicate 256 0) (0 + k) ≡ 0
blank k below =
    let at : 0 + k ≡ k = omega arith in
    let inside : k / 8 < 256 = omega arith in
    ap (λ (n : ℕ). bit_of (replicate 256 0) n) at ∙ ap (λ (n : ℕ). bit_at n (k % 8)) (get_or-replicate 256 (k / 8) 0 0 inside) ∙ bit_at-zero (k % 8)

-- what two parts found, one behind the other
found : (a b : SectorLayer) (z first count k : ℕ) (bytes mask mask1 mask2 out out1 out2 : List ℕ) → AddsOwned a z first count 0 mask mask1 out out1 → AddsOwned b z first count 0 mask1 mask2 out1 out2
    → k < count → bit_of mask (0 + k) ≡ 0 → option_or (a (first + k)) (b (first + k)) ≡ Some bytes → bytes_at out2 (z * k) z ≡ bytes
found a b z first count k bytes mask mask1 mask2 out out1 out2 one two below bit is = by_first (a (first + k)) refl
  where
    by_first : (o : Option (List ℕ)) → a (first + k) ≡ o → bytes_at out2 (z * k) z ≡ bytes
    by_first (Some x) e =
        let mine = one.owned k x below bit e in
        let same : ◌≡◌ {A = Option (List ℕ)} (Some x) (Some bytes) = sym (ap (λ o. option_or o (b (first + k))) e) ∙ is in
        (two.found k below mine.0).1 ∙ mine.1 ∙ ap (λ (o : Option (List ℕ)). unwrap_or o []) same
    by_first None e =
        let none = one.others k below bit e in
        (two.owned k bytes below none.0 (sym (ap (λ o. option_or o (b (first + k))) e) ∙ is)).1

-- both parts are all files
all_parts : (o p : Option Layer) (v : State) (s : ℕ) → option_map (λ (l : Layer). l.log.number) p ≡ option_map (λ (l : Layer). l.log.number) o → option_or (of_session o v s) (of_read p v s) ≡ seen_in (files_of v) s
all_parts None None v s e = refl
all_parts None (Some q) v s e = absurd (let h : ◌≡◌ {A = Option ℕ} (Some q.log.number) None = e in some_none h)
all_parts (Some q) None v s e = absurd (let h : ◌≡◌ {A = Option ℕ} None (Some q.log.number) = e in none_some h)
all_parts (Some q) (Some r) v s e = refl

-- ---- what is read

abbrev HasPieces : ℕ → GuestDisk → ℕ → ℕ → List ℕ → Type 0
HasPieces z disk first n bytes = (k : ℕ) → k < n → sector_at disk (first + k) ≡ take z (drop (k * z) bytes)

pieces_behind : (z : ℕ) (disk : GuestDisk) (first n : ℕ) (bytes : List ℕ) → HasPieces z disk first (suc n) bytes → HasPieces z disk (first + 1) n (drop z bytes)
pieces_behind z disk first n bytes h k below =
    let place : first + 1 + k ≡ first + suc k = omega arith in
    let start : suc k * z ≡ z + k * z = omega arith in
    ap (sector_at disk) place ∙ h (suc k) (omega arith) ∙ ap (λ m. take z (drop m bytes)) start ∙ ap (take z) (sym (drop-drop (k * z) z bytes))

-- sectors that are pieces of the bytes, one behind the other
joined : (z : ℕ) (disk : GuestDisk) (first n : ℕ) (bytes : List ℕ) → first + n ≤ length disk → length bytes ≡ n * z → HasPieces z disk first n bytes → bytes_of (take n (drop first disk)) ≡ bytes
joined z disk first zero bytes inside len h = sym (nil_from_length bytes (omega arith))
joined z disk first (suc n) bytes inside len h =
    let place : first ≡ first + 0 = omega arith in
    let start : 0 * z ≡ 0 = omega arith in
    let front : sector_at disk first ≡ take z bytes = ap (sector_at disk) place ∙ h 0 (omega arith) ∙ ap (λ m. take z (drop m bytes)) start in
    let rest = joined z disk (first + 1) n (drop z bytes) (omega arith) (omega (arith, length-drop z bytes)) (pieces_behind z disk first n bytes h) in
    ap (λ d. bytes_of (take (suc n) d)) (drop_more disk first [] (omega arith))
    ∙ ap (λ s. s ++ bytes_of (take n (drop (first + 1) disk))) front
    ∙ ap (λ l. take z bytes ++ l) rest
    ∙ take-append-drop z bytes

some_of : (o : Option (List ℕ)) (d : List ℕ) → is_some o ≡ true → o ≡ Some (unwrap_or o d)
some_of None d h = absurd (false_true h)
some_of (Some x) d h = refl

-- the bytes are the disk's
replied : (z first count : ℕ) (v : State) (layers : Layers) (trace : Trace) (out : List ℕ) → z ≡ sector_of v → IsServing layers v trace → first + count ≤ v.top.member.ties.geometry.sectors → length out ≡ z * count
    → ((k : ℕ) (bytes : List ℕ) → k < count → seen_in (files_of v) (first + k) ≡ Some bytes → bytes_at out (z * k) z ≡ bytes) → reply (disk_now v) (calls.Read first count) ≡ replies.Bytes out
unfolding bytes_at
replied z first count v layers trace out sized serving inside len has =
    let g : Geometry = v.top.member.ties.geometry in
    let all : List SectorLayer = layers_of (members_of (files_of v)) in
    let is : flat z g.sectors all ≡ disk_now v = ap (λ (n : ℕ). flat n g.sectors all) sized ∙ serving.served.disk in
    let whole : first + count ≤ length (flat z g.sectors all) = subst (λ (n : ℕ). first + count ≤ n) (sym (length-flat z g.sectors all)) inside in
    ap (λ d. reply d (calls.Read first count)) (sym is)
    ∙ ap replies.Bytes (joined z (flat z g.sectors all) first count out whole (len ∙ mul_comm z count) (λ k below.
    sector_at-flat z g.sectors all (first + k) (omega arith)
    ∙ sym (ap (λ (m : ℕ). take z (drop m out)) (mul_comm k z) ∙ has k (unwrap_or (seen_in (files_of v) (first + k)) (zeros z)) below (some_of (seen_in (files_of v) (first + k)) (zeros z) (serving.whole (first + k) (omega arith))))))

first_of : (a b : Option ℕ) (x y : List (Option ℕ)) → a ∷ x ≡ b ∷ y → a ≡ b
first_of a b x y e = first_same e

pub finds : (old mid : Layers) (disk mid_disk : Disk) (first count : ℕ) (mask1 mask2 out out1 out2 : List ℕ) (answer : Result (Unit {0}) StoreFault) → count ≤ 2048 → first + count ≤ old.geometry.sectors → length out2 ≡ old.geometry.sector * count
    → HasOnlyRead old mid disk mid_disk → mid_disk ≡ disk → AddsPart of_session first count old disk (replicate 256 0) mask1 out out1 → OnOk answer (AddsPart of_read first count mid mid_disk mask1 mask2 out1 out2)
    → OnOk answer (WhereTold disk.told (λ trace. (v : State) → IsServing old v trace → reply (disk_now v) (calls.Read first count) ≡ replies.Bytes out2))
finds old mid disk mid_disk first count mask1 mask2 out out1 out2 (Err fault) few inside len reads same one two = tt
finds old mid disk mid_disk first count mask1 mask2 out out1 out2 (Ok t) few inside len reads same one two = λ trace told v serving.
    let z = old.geometry.sector in
    let a = one trace told v serving in
    let b' = two trace (ap (λ (d : Disk). d.told) same ∙ told) v (reads.serves trace told v serving) in
    let b = subst (λ (n : ℕ). AddsOwned (of_read mid.leaf v) n first count 0 mask1 mask2 out1 out2) (ap (λ (g : Geometry). g.sector) reads.geometry) b' in
    let heads : option_map (λ (l : Layer). l.log.number) mid.leaf ≡ option_map (λ (l : Layer). l.log.number) old.leaf = first_of _ _ _ _ reads.numbers in
    replied z first count v old trace out2 (ap (λ (g : Geometry). g.sector) serving.geometry) serving (subst (λ (g : Geometry). first + count ≤ g.sectors) serving.geometry inside) len
    (λ k bytes below is. found (of_session old.leaf v) (of_read mid.leaf v) z first count k bytes (replicate 256 0) mask1 mask2 out out1 out2 a b below (blank k (omega arith))
    (all_parts old.leaf mid.leaf v (first + k) heads ∙ is))

-- ---- what is planned

pub below_plans : (layers : Layers) (was : List FileLayer) (disk : Disk) (first count : ℕ) (mask new_mask : List ℕ) (plan new_plan : List Extent) (out new_out : List ℕ) (answer : Result (Unit {0}) StoreFault) → was ≡ layers.below.items
    → OnOk answer (PlanHad was layers.geometry.sector disk first count mask new_mask plan new_plan out new_out) → OnOk answer (PlansPart of_read first count layers disk mask new_mask plan new_plan out new_out)
below_plans layers was disk first count mask new_mask plan new_plan out new_out (Err fault) w planned = tt
below_plans layers was disk first count mask new_mask plan new_plan out new_out (Ok t) w planned = λ trace told v serving. by_leaf layers.leaf trace told v serving.held
  where
    by_leaf : (o : Option Layer) (trace : Trace) → disk.told ≡ Some trace → (v : State) → AreHeld o layers.below.items trace v.top (others_of v.rest)
        → AddsOwned (of_read o v) layers.geometry.sector first count 0 mask new_mask (filled layers.geometry.sector (files_in trace) plan out) (filled layers.geometry.sector (files_in trace) new_plan new_out)
    by_leaf None trace told v held = planned (files_of v) trace told (subst (λ (b : List FileLayer). HaveFiles b trace (files_of v)) (sym w) held.1)
    by_leaf (Some leaf) trace told v held = planned (others_of v.rest) trace told (subst (λ (b : List FileLayer). HaveFiles b trace (others_of v.rest)) (sym w) held.1)

pub finds_planned : (old mid : Layers) (disk mid_disk : Disk) (first count : ℕ) (mask1 mask2 : List ℕ) (plan : List Extent) (out out1 out2 : List ℕ) (answer : Result (Unit {0}) StoreFault) → count ≤ 2048 → first + count ≤ old.geometry.sectors
    → length out ≡ old.geometry.sector * count → HasOnlyRead old mid disk mid_disk → mid_disk ≡ disk → AddsPart of_session first count old disk (replicate 256 0) mask1 out out1
    → OnOk answer (PlansPart of_read first count mid mid_disk mask1 mask2 [] plan out1 out2) → OnOk answer (FindsPlanned first count plan out2 old disk)
finds_planned old mid disk mid_disk first count mask1 mask2 plan out out1 out2 (Err fault) few inside len reads same one two = tt
finds_planned old mid disk mid_disk first count mask1 mask2 plan out out1 out2 (Ok t) few inside len reads same one two = λ trace told v serving.
    let z = old.geometry.sector in
    let a = one trace told v serving in
    let b' = two trace (ap (λ (d : Disk). d.told) same ∙ told) v (reads.serves trace told v serving) in
    let b = subst (λ (n : ℕ). AddsOwned (of_read mid.leaf v) n first count 0 mask1 mask2 out1 (filled n (files_in trace) plan out2)) (ap (λ (g : Geometry). g.sector) reads.geometry) b' in
    let heads : option_map (λ (l : Layer). l.log.number) mid.leaf ≡ option_map (λ (l : Layer). l.log.number) old.leaf = first_of _ _ _ _ reads.numbers in
    let after = filled z (files_in trace) plan out2 in
    replied z first count v old trace after (ap (λ (g : Geometry). g.sector) serving.geometry) serving (subst (λ (g : Geometry). first + count ≤ g.sectors) serving.geometry inside) (b.len ∙ a.len ∙ len)
    (λ k bytes below is. found (of_session old.leaf v) (of_read mid.leaf v) z first count k bytes (replicate 256 0) mask1 mask2 out out1 after a b below (blank k (omega arith))
    (all_parts old.leaf mid.leaf v (first + k) heads ∙ is))
