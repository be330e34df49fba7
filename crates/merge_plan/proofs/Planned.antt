-- The whole of a plan, from its steps.
use Rattle.std.proofs.Common.{◌≡◌, ℕ, zero, suc, ◌+◌, ◌-◌, ◌<◌, ◌≤◌, Bool, true, false, cond, List, [], ◌∷◌, ◌++◌, length, length-append, Option, Some, None, refl, sym, ap, subst, ◌∙◌, arith}
use Rattle.std.specs.Prelude.{All, Result, Ok, Err, IfErr, nat_lt}
use Rattle.std.specs.Result.{IsErrAnd}
use Rattle.std.proofs.lemmas.Bool.{ltb-false, or_parts}
use Rattle.std.proofs.lemmas.List.Elements.{All-head, All-tail}
use Rattle.store_model.specs.Disk.{Disk, WhereTold}
use Rattle.store_model.specs.Trace.{Trace}
use Rattle.vx_base.specs.Fields.{IsGuid}
use Rattle.vx_base.specs.declared.parts.Parts.{Parts}
use Rattle.vhdx_format.specs.declared.locator.Pair.{Pair}
use Rattle.vhdx_format.specs.declared.log_entry.Page.{Page}
use Rattle.vhdx_format.specs.Fields.{is_zero_id}
use Rattle.vhdx_format.specs.Locators.{locator_len, longest_locator}
use Rattle.link_rules.specs.Effects.{IsServed}
use Rattle.link_rules.specs.declared.linked.LinkedFile.{LinkedFile}
use Rattle.make_file.specs.Identifiers.{first_unfit, is_unfit}
use Rattle.merge_plan.specs.Attached.{AreAsOpened, CanStart, IsAsOpened}
use Rattle.merge_plan.specs.Drawing.{JudgesDrawn, merge_ids}
use Rattle.merge_plan.specs.Merging.{HasPages, HasRoom, LacksRoom, MergeFiles, child_place, first_long, relinked_pairs, source_place, twice_pairs}
use Rattle.merge_plan.specs.Planning.{HasPlan, IsFull, Stops, in_source, in_child}
use Rattle.merge_plan.specs.Steps.{AreTyped, JudgeRefuses, LengthRefuses, UpdateFails}
use Rattle.merge_plan.specs.declared.drawing.MergeIds.{MergeIds}
use Rattle.merge_plan.specs.declared.merge.Merge.{Merge}
use Rattle.merge_plan.specs.declared.refusal.PrepareRefusal.{PrepareRefusal}
use Rattle.merge_plan.specs.declared.refusal.PrepareRefusal.TheVariants as refusals
use Rattle.merge_plan.proofs.Lines.{AreFollowed, are_followed, keeps_links, once_read, twice_read}
use Rattle.merge_plan.proofs.Paging.{has_room}

-- ---- the files of a merge among the chain's

all_below : (P : LinkedFile → Type 0) (above rest : List LinkedFile) → All P (above ++ rest) → All P rest
all_below P [] rest h = h
all_below P (file ∷ above) rest h = all_below P above rest (All-tail P file (above ++ rest) h)

pub opened_below : (trace : Trace) (n : ℕ) (above rest : List LinkedFile) → AreAsOpened trace n (above ++ rest) → AreAsOpened trace (n + length above) rest
opened_below trace n [] rest h = let same : n ≡ n + 0 = omega arith in subst (λ (k : ℕ). AreAsOpened trace k rest) same h
opened_below trace n (file ∷ above) rest h =
    let same : n + 1 + length above ≡ n + length (file ∷ above) = omega arith in
    subst (λ (k : ℕ). AreAsOpened trace k rest) same (opened_below trace (n + 1) above rest h.1)

-- what is known of child and source
pub record CanPlan (disk : Disk) (m : MergeFiles) : Type 0 where
  pub followed : AreFollowed m
  pub child_served : IsServed m.child
  pub source_served : IsServed m.source
  pub child_opened : WhereTold disk.told (λ trace. IsAsOpened trace (child_place m) m.child)
  pub source_opened : WhereTold disk.told (λ trace. IsAsOpened trace (source_place m) m.source)

pub can_plan : (files : List LinkedFile) (disk : Disk) (m : MergeFiles) → CanStart files disk → files ≡ m.above ++ m.child ∷ m.source ∷ m.target ∷ m.below → CanPlan disk m
can_plan files disk m can is =
    let rest : List LinkedFile = m.child ∷ m.source ∷ m.target ∷ m.below in
    let served : All IsServed rest = all_below IsServed m.above rest (subst (All IsServed) is can.served) in
    let opened = λ (t : Trace) (told : disk.told ≡ Some t).
    opened_below t 0 m.above rest (subst (AreAsOpened t 0) is (can.told t told).each) in
    record {
      followed = are_followed files m can.line is;
      child_served = All-head IsServed m.child (m.source ∷ m.target ∷ m.below) served;
      source_served = All-head IsServed m.source (m.target ∷ m.below) (All-tail IsServed m.child (m.source ∷ m.target ∷ m.below) served);
      child_opened = λ t told. subst (λ (k : ℕ). IsAsOpened t k m.child) (let e : 0 + length m.above ≡ length m.above = omega arith in e) (opened t told).0;
      source_opened = λ t told. subst (λ (k : ℕ). IsAsOpened t k m.source) (let e : 0 + length m.above + 1 ≡ length m.above + 1 = omega arith in e) (opened t told).1.0;
    }

-- ---- identifiers that are fit

pub passed : {A : Type 0} (b : Bool) (x : A) (rest : Option A) → cond b (Some x) rest ≡ None → (b ≡ false) × (rest ≡ None)
passed true x rest h = absurd (let never : ◌≡◌ {A = Option _} (Some x) None = h in cc)
passed false x rest h = (refl, h)

pub all_fit : (known ids : List (List ℕ)) → first_unfit known ids ≡ None → All (λ id. is_zero_id id ≡ false) ids
all_fit known [] h k d l = absurd (omega (arith, l))
all_fit known (id ∷ ids) h zero d l = (or_parts (is_zero_id id) _ (passed (is_unfit known id) id (first_unfit (id ∷ known) ids) h).0).0
all_fit known (id ∷ ids) h (suc k) d l = all_fit (id ∷ known) ids (passed (is_unfit known id) id (first_unfit (id ∷ known) ids) h).1 k d (omega (arith, l))

-- the target's new one is the seventh
pub target_nonzero : (files : List LinkedFile) (disk : Disk) (ids : MergeIds) → JudgesDrawn files disk (merge_ids ids) None → is_zero_id ids.target.data_write ≡ false
target_nonzero files disk ids j = all_fit j.known (merge_ids ids) j.judged 6 [] (omega arith)

pub target_guid : (ids : MergeIds) → All IsGuid (merge_ids ids) → IsGuid ids.target.data_write
target_guid ids all = all 6 [] (omega arith)

-- ---- lengths

pub are_short : (twice once : List Pair) → first_long twice once ≡ None → (locator_len twice ≤ longest_locator) × (locator_len once ≤ longest_locator)
are_short twice once h =
    let first = passed (nat_lt longest_locator (locator_len twice)) (locator_len twice) _ h in
    let second = passed (nat_lt longest_locator (locator_len once)) (locator_len once) None first.1 in
    (ltb-false longest_locator (locator_len twice) first.0, ltb-false longest_locator (locator_len once) second.0)

-- ---- a plan

-- the locators of a merge, by their pairs, which are short enough to be written
pub record AreLocators (m : MergeFiles) (new : List ℕ) (twice once : List Pair) : Type 0 where
  pub twice_is : twice ≡ twice_pairs m new
  pub once_is : once ≡ relinked_pairs m new
  pub short : first_long twice once ≡ None

short_pairs : (m : MergeFiles) (new : List ℕ) (twice once : List Pair) → AreLocators m new twice once → first_long (twice_pairs m new) (relinked_pairs m new) ≡ None
short_pairs m new twice once l = ap (λ ps. first_long ps (relinked_pairs m new)) (sym l.twice_is) ∙ ap (first_long twice) (sym l.once_is) ∙ l.short

pub has_plan : (files : List LinkedFile) (disk : Disk) (m : MergeFiles) (merge : Merge) (place : ℕ) (twice once : List Pair) → CanPlan disk m → AreTyped m.child m.source m.target
    → All IsGuid (merge_ids merge.ids) → merge.source ≡ place → place ≡ source_place m → JudgesDrawn files disk (merge_ids merge.ids) None
    → AreLocators m merge.ids.target.data_write twice once → HasPages m.source.parts place disk twice merge.twice → HasPages m.child.parts (place - 1) disk once merge.relink → HasPlan files disk m merge
has_plan files disk m merge place twice once can typed guids here place_is fit l first second =
    let new = merge.ids.target.data_write in
    let guid = target_guid merge.ids guids in
    let nonzero = target_nonzero files disk merge.ids fit in
    let lens = are_short (twice_pairs m new) (relinked_pairs m new) (short_pairs m new twice once l) in
    let first_read = twice_read m new can.followed typed guid nonzero lens.0 in
    let second_read = once_read m new can.followed typed guid nonzero lens.1 in
    let above : place - 1 ≡ child_place m = omega (arith, place_is) in
    let first_has : HasPages m.source.parts (source_place m) disk (twice_pairs m new) merge.twice =
    subst (λ (ps : List Pair). HasPages m.source.parts (source_place m) disk ps merge.twice) l.twice_is (subst (λ (k : ℕ). HasPages m.source.parts k disk twice merge.twice) place_is first) in
    let second_has : HasPages m.child.parts (child_place m) disk (relinked_pairs m new) merge.relink =
    subst (λ (ps : List Pair). HasPages m.child.parts (child_place m) disk ps merge.relink) l.once_is (subst (λ (k : ℕ). HasPages m.child.parts k disk once merge.relink) above second) in
    record {
      place = here ∙ place_is;
      fit = fit;
      twice = record { short = lens.0; is_read = first_read; has = first_has };
      relink = record { short = lens.1; is_read = second_read; has = second_has };
      links = keeps_links m new can.followed typed guid nonzero first_read second_read;
    }

-- ---- what stops it

lacks_as : (parts : Parts) (disk : Disk) (number place : ℕ) (pairs others : List Pair) → number ≡ place → pairs ≡ others → LacksRoom parts number disk pairs → LacksRoom parts place disk others
lacks_as parts disk number place pairs others e p h = subst (λ (k : ℕ). LacksRoom parts k disk others) e (subst (λ (ps : List Pair). LacksRoom parts number disk ps) p h)

room_as : (parts : Parts) (disk : Disk) (number place : ℕ) (pairs others : List Pair) (pages : List Page) → number ≡ place → pairs ≡ others → HasPages parts number disk pairs pages → HasRoom parts place disk others
room_as parts disk number place pairs others pages e p h = subst (λ (k : ℕ). HasRoom parts k disk others) e (subst (λ (ps : List Pair). HasRoom parts number disk ps) p (has_room parts number disk pairs pages h))

module _ (files : List LinkedFile) (m : MergeFiles) (ids : MergeIds) (twice once : List Pair) (l : AreLocators m ids.target.data_write twice once) (place : ℕ) (place_is : place ≡ source_place m) where
  short : first_long (twice_pairs m ids.target.data_write) (relinked_pairs m ids.target.data_write) ≡ None
  short = short_pairs m ids.target.data_write twice once l

  above : place - 1 ≡ child_place m
  above = omega (arith, place_is)

  pub source_stops : (old new : Disk) (refusal : PrepareRefusal) → UpdateFails m.source.parts place old new twice refusal → Stops files old new m ids refusal
  source_stops old new refusals.NotInChain h = absurd h
  source_stops old new refusals.IsBase h = absurd h
  source_stops old new refusals.LeafSource h = absurd h
  source_stops old new (refusals.LocatorTooLarge len) h = absurd h
  source_stops old new (refusals.MetadataFull file) h =
      let lacks = lacks_as m.source.parts old place (source_place m) twice (twice_pairs m ids.target.data_write) place_is l.twice_is h.1 in
      (record { short = short; full = subst (IsFull old m ids) (sym (h.0 ∙ place_is)) (in_source lacks) }, h.2)
  source_stops old new (refusals.IdUnfit id) h = absurd h
  source_stops old new (refusals.Store fault) h = (short, h)
  source_stops old new refusals.NoRoom h = h

  module _ (pages : List Page) (old : Disk) (first : HasPages m.source.parts place old twice pages) where
    first_room : HasRoom m.source.parts (source_place m) old (twice_pairs m ids.target.data_write)
    first_room = room_as m.source.parts old place (source_place m) twice (twice_pairs m ids.target.data_write) pages place_is l.twice_is first

    pub child_stops : (mid new : Disk) (refusal : PrepareRefusal) → mid ≡ old → UpdateFails m.child.parts (place - 1) mid new once refusal → Stops files old new m ids refusal
    child_stops mid new refusal same h = go refusal (subst (λ (d : Disk). UpdateFails m.child.parts (place - 1) d new once refusal) same h)
      where
        go : (r : PrepareRefusal) → UpdateFails m.child.parts (place - 1) old new once r → Stops files old new m ids r
        go refusals.NotInChain h = absurd h
        go refusals.IsBase h = absurd h
        go refusals.LeafSource h = absurd h
        go (refusals.LocatorTooLarge len) h = absurd h
        go (refusals.MetadataFull file) h =
            let lacks = lacks_as m.child.parts old (place - 1) (child_place m) once (relinked_pairs m ids.target.data_write) above l.once_is h.1 in
            (record { short = short; full = subst (IsFull old m ids) (sym (h.0 ∙ above)) (in_child first_room lacks) }, h.2)
        go (refusals.IdUnfit id) h = absurd h
        go (refusals.Store fault) h = (short, h)
        go refusals.NoRoom h = h

    module _ (more : List Page) (second : HasPages m.child.parts (place - 1) old once more) where
      second_room : HasRoom m.child.parts (child_place m) old (relinked_pairs m ids.target.data_write)
      second_room = room_as m.child.parts old (place - 1) (child_place m) once (relinked_pairs m ids.target.data_write) more above l.once_is second

      pub judge_stops : (mid new : Disk) (refusal : PrepareRefusal) → mid ≡ old → JudgeRefuses files (merge_ids ids) mid new refusal → Stops files old new m ids refusal
      judge_stops mid new refusal same h = go refusal (subst (λ (d : Disk). JudgeRefuses files (merge_ids ids) d new refusal) same h)
        where
          go : (r : PrepareRefusal) → JudgeRefuses files (merge_ids ids) old new r → Stops files old new m ids r
          go refusals.NotInChain h = absurd h
          go refusals.IsBase h = absurd h
          go refusals.LeafSource h = absurd h
          go (refusals.LocatorTooLarge len) h = absurd h
          go (refusals.MetadataFull file) h = absurd h
          go (refusals.IdUnfit id) h = (record { short = short; source = first_room; child = second_room; unfit = h.0 }, h.1)
          go (refusals.Store fault) h = (short, h)
          go refusals.NoRoom h = h

-- an error that is handed on
pub passed_on : {A : Type 0} (P : PrepareRefusal → Type 0) (result : Result A PrepareRefusal) (refusal : PrepareRefusal) → IsErrAnd result (λ e. e ≡ refusal) → P refusal → IfErr result P
passed_on P (Ok x) refusal is h = tt
passed_on P (Err e) refusal is h = subst P (sym is) h

-- its locators are too long, or there is no memory for them
pub locators_stop : (files : List LinkedFile) (disk : Disk) (m : MergeFiles) (ids : MergeIds) (refusal : PrepareRefusal) → LengthRefuses (first_long (twice_pairs m ids.target.data_write) (relinked_pairs m ids.target.data_write)) refusal → Stops files disk disk m ids refusal
locators_stop files disk m ids refusals.NotInChain h = h
locators_stop files disk m ids refusals.IsBase h = h
locators_stop files disk m ids refusals.LeafSource h = h
locators_stop files disk m ids (refusals.LocatorTooLarge len) h = (h, refl)
locators_stop files disk m ids (refusals.MetadataFull file) h = absurd h
locators_stop files disk m ids (refusals.IdUnfit id) h = absurd h
locators_stop files disk m ids (refusals.Store fault) h = absurd h
locators_stop files disk m ids refusals.NoRoom h = refl

-- the source is one of the store's files
pub source_there : (files : List LinkedFile) (disk : Disk) (m : MergeFiles) → CanStart files disk → files ≡ m.above ++ m.child ∷ m.source ∷ m.target ∷ m.below → source_place m < disk.files
source_there files disk m can is =
    let long : length files ≡ length m.above + (length m.below + 3) = ap length is ∙ length-append m.above (m.child ∷ m.source ∷ m.target ∷ m.below) ∙ (let e : length m.above + suc (suc (suc (length m.below))) ≡ length m.above + (length m.below + 3) = omega arith in e) in
    omega (arith, long, can.there)
