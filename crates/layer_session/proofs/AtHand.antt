-- What a call wants is put at hand, part by part.
use Rattle.std.proofs.Common.{◌≡◌, ◌≢◌, ℕ, ◌+◌, ◌-◌, ◌*◌, ◌/◌, ◌^◌, ◌<◌, ◌≤◌, ◌⊎◌, Bool, true, false, List, refl, sym, ap, subst, ◌∙◌, arith, inl, inr}
use Rattle.std.specs.Prelude.{Option, Some, None}
use Rattle.std.proofs.lemmas.Bool.{cases_Bool, cases_eq}
use Rattle.vhdx_format.specs.HeldBlocks.{HasGoodStates}
use Rattle.vhdx_format.specs.Layers.{HasSizes, Shape, bitmap_entry_of, entry_of, state_at}
use Rattle.vhdx_format.specs.AllocationTables.{state_of}
use Rattle.store_model.specs.Disk.{Disk, WhereBothTold, WhereTold}
use Rattle.store_model.specs.Trace.{Trace}
use Rattle.log_format.specs.PendingPages.{has_place}
use Rattle.table_pages.specs.Held.{shape_of}
use Rattle.table_pages.specs.declared.tables.TableParts.{TableParts}
use Rattle.layer_session.specs.declared.file.Layer.{Layer}
use Rattle.layer_session.specs.declared.planning.Plan.{Plan}
use Rattle.layer_session.specs.declared.planning.Wanted.{Wanted}
use Rattle.layer_session.specs.declared.preparing.Missing.{Missing}
use Rattle.layer_session.specs.Bringing.{AreNamed, Brings, GoesOn, HasBits, HasEntry, InChunk, LeadsTo, NamesBitmap, SaysAllSame, SaysSameBut, missing_of}
use Rattle.layer_session.specs.Keeping.{IsReady}
use Rattle.layer_session.specs.Planning.{AreCounted, ArePlanned, EachRun, IsPlanned}
use Rattle.layer_session.specs.Calls.{HasKept}
use Rattle.layer_session.specs.Prepared.{IsPrepared, TakesBlocks}
use Rattle.layer_session.specs.Steps.{HasPages, HasRoomFor, IsToDo, Wants, held_by}
use Rattle.block_alloc.specs.Spaces as spaces
use Rattle.block_alloc.specs.Spaces.{Space, fits_in}
use Rattle.vhdx_format.specs.Fields.{megabyte}
use Rattle.vhdx_format.proofs.SizeLemmas.{sector_least}
use Rattle.std.proofs.Math.Nat.{mul-le-mul_right}
use Rattle.layer_session.proofs.BitRuns.{LiesIn, each_map, each_two, each_within}
use Rattle.layer_session.proofs.BothChunks.{KeepsPending, bits_kept, entries_named, entry_kept, other_chunk}
use Rattle.layer_session.proofs.Finished.{all_chunks, far_is, names_say, near_is, no_far, no_more, no_parent, one_less, pages_of, room_for_one, step_planned, steps_named, steps_say, takes_named, to_do}
use Rattle.layer_session.proofs.Fitted.{fits_fewer, room_of_fits}
use Rattle.layer_session.proofs.Leading.{kept_then}
use Rattle.layer_session.proofs.Readable.{tables_readable}
use Rattle.layer_session.proofs.Tally.{HasBlock, Tally, as_one, takes, tally}
use Rattle.layer_session.proofs.Wanting.{IsStep, has_by, names_alone, names_by, planned_parent}

-- the same plans
pub items_same : (l2 l : Layer) → l.plans ≡ l2.plans → l.plans.items ≡ l2.plans.items
items_same l2 l e = ap (λ v. v.items) e

-- a told trace is one alone
some_same : (t u : Trace) → Some t ≡ Some u → t ≡ u
some_same t u e = cc

-- what is told of both
pub told_before : (P : Trace → Trace → Type 0) (a b : Option Trace) (u : Trace) → WhereBothTold P a b → b ≡ Some u → (t : Trace) × ((a ≡ Some t) × P t u)
told_before P None None u h e = cc
told_before P None (Some v) u h e = absurd h
told_before P (Some t) None u h e = absurd h
told_before P (Some t) (Some v) u h e = (t, (refl, subst (P t) (let same : v ≡ u = cc in same) h))

-- what was planned by other bytes of which the tables say the same
planned_says : (p : Shape) → HasSizes p → (plans : List Plan) (old new : List ℕ) → HasGoodStates p old → SaysAllSame p old new → (trims : Bool) (first count : ℕ) → first + count ≤ p.sectors → ArePlanned p old trims plans 0 first count → ArePlanned p new trims plans 0 first count
planned_says p sizes plans old new good says trims first count on_disk planned =
    each_map p plans (λ s n plan. (LiesIn p first (first + count) s n × IsPlanned p old trims s n plan) × IsStep p new trims s n plan) (IsPlanned p new trims)
    (λ s n plan h. let x = h.0.0.some in let y = h.0.0.high in
    record {
      step = h.1.step;
      word = h.1.word;
      bitmap = λ m. h.0.1.bitmap m ∙ sym (says.bitmaps s (omega (arith, x, y, on_disk)) (planned_parent p sizes old good trims s n plan (omega (arith, x, y, on_disk)) h.0.1 m));
    }) 0 first count
    (each_two p plans (λ s n plan. LiesIn p first (first + count) s n × IsPlanned p old trims s n plan) (IsStep p new trims) 0 first count
    (each_within p sizes plans (IsPlanned p old trims) first (first + count) 0 first count (omega arith) (omega arith) planned)
    (steps_say p sizes plans old new good says.blocks trims first count on_disk (step_planned p plans old trims first count planned)))

sizes_of : (l : Layer) (d : Disk) → IsReady l d → HasSizes (shape_of l.tables.parts)
sizes_of l d ready = let s = ready.readable.sizes in record { sector = s.sector; block = s.block }

pub good_of : (l : Layer) (d : Disk) → IsReady l d → (t : Trace) → d.told ≡ Some t → HasGoodStates (shape_of l.tables.parts) (held_by l t)
good_of l d ready t told = (tables_readable l d ready.readable).states t told

module _ (l : Layer) (d0 : Disk) (ready : IsReady l d0) (plans : List Plan) (first count : ℕ) (some : 0 < count) (few : count ≤ 2 ^ 23) (on_disk : first + count ≤ l.tables.parts.sectors) (wanted : Wanted)
    (counted : AreCounted (shape_of l.tables.parts) plans 0 first count wanted) where
  abbrev p : Shape
  p = shape_of l.tables.parts

  abbrev sizes : HasSizes p
  sizes = sizes_of l d0 ready

  abbrev last : ℕ
  last = first + count - 1

  abbrev m : Missing
  m = missing_of p wanted first last

  tallied : Tally p sizes plans (first / 2 ^ 23) 0 first count wanted
  tallied = tally p sizes plans (first / 2 ^ 23) 0 first count wanted counted (omega arith) (omega (arith, few))

  -- ---- behind the commit

  module _ (planned : WhereTold d0.told (λ t. (trims : Bool) × ArePlanned p (held_by l t) trims plans 0 first count)) (l2 : Layer) (d2 : Disk) (leads : LeadsTo l l2 d0 d2)
      (says : WhereBothTold (λ before after. SaysAllSame p (held_by l before) (held_by l2 after)) d0.told d2.told) where
    planned_then : (t : Trace) → d2.told ≡ Some t → (trims : Bool) × ArePlanned p (held_by l2 t) trims plans 0 first count
    planned_then t told =
        let b = told_before (λ before after. SaysAllSame p (held_by l before) (held_by l2 after)) d0.told d2.told t says told in
        let h = planned b.0 b.1.0 in
        (h.0, planned_says p sizes plans (held_by l b.0) (held_by l2 t) (good_of l d0 ready b.0 b.1.0) b.1.1 h.0 first count on_disk h.1)

    good_then : (t : Trace) → d2.told ≡ Some t → HasGoodStates p (held_by l2 t)
    good_then t told = subst (λ (x : TableParts). HasGoodStates (shape_of x) (held_by l2 t)) leads.parts (good_of l2 d2 leads.ready t told)

    there_then : (t : Trace) → d2.told ≡ Some t → (s : ℕ) → s < p.sectors → p.parent ≡ true → state_at p (held_by l2 t) (entry_of p s) ≡ 7 → state_at p (held_by l2 t) (bitmap_entry_of p s) ≡ 6
    there_then t told =
        subst (λ (x : TableParts). (s : ℕ) → s < x.sectors → x.parent ≡ true → state_at (shape_of x) (held_by l2 t) (entry_of (shape_of x) s) ≡ 7 → state_at (shape_of x) (held_by l2 t) (bitmap_entry_of (shape_of x) s) ≡ 6) leads.parts
        ((tables_readable l2 d2 leads.ready.readable).bitmaps t told).there

    names : (chunk : ℕ) (t : Trace) → d2.told ≡ Some t → (p.parent ≡ true → EachRun p plans (InChunk chunk HasBlock) 0 first count) → EachRun p plans (InChunk chunk (NamesBitmap p (held_by l2 t))) 0 first count
    names chunk t told has = by_parent (cases_Bool p.parent)
      where
        h : (trims : Bool) × ArePlanned p (held_by l2 t) trims plans 0 first count
        h = planned_then t told

        by_parent : (p.parent ≡ true) ⊎ (p.parent ≡ false) → EachRun p plans (InChunk chunk (NamesBitmap p (held_by l2 t))) 0 first count
        by_parent (inl e) = names_by p sizes (held_by l2 t) (good_then t told) plans first count on_disk h.0 h.1 (there_then t told) chunk (has e)
        by_parent (inr e) = names_alone p sizes (held_by l2 t) (good_then t told) plans first count on_disk h.0 h.1 (there_then t told) chunk e

    pub near_there : m.near ≡ false → (t : Trace) → d2.told ≡ Some t → EachRun p plans (InChunk (first / 2 ^ 23) (NamesBitmap p (held_by l2 t))) 0 first count
    near_there off t told = names (first / 2 ^ 23) t told (λ e. tallied.tells_near.all (sym (near_is p sizes plans first count wanted tallied last e) ∙ off))

    pub far_there : GoesOn first count → m.far ≡ false → (t : Trace) → d2.told ≡ Some t → EachRun p plans (InChunk (last / 2 ^ 23) (NamesBitmap p (held_by l2 t))) 0 first count
    far_there on off t told =
        names (last / 2 ^ 23) t told (λ e.
        subst (λ c. EachRun p plans (InChunk c HasBlock) 0 first count) (let x : first / 2 ^ 23 + 1 ≡ last / 2 ^ 23 = omega (arith, on, few, some) in x)
        (tallied.tells_far.all (sym (far_is p sizes plans first count wanted tallied last e on) ∙ off)))

    parent_of : (b : Bool) → m.near ≡ b → b ≡ true → p.parent ≡ true
    parent_of b e on = by_parent (cases_Bool p.parent)
      where
        by_parent : (p.parent ≡ true) ⊎ (p.parent ≡ false) → p.parent ≡ true
        by_parent (inl x) = x
        by_parent (inr x) = let n = (no_parent p sizes plans first count wanted tallied last x).0 in let no_way : true ≡ false = sym on ∙ sym e ∙ n in cc

    pub parent_far : m.far ≡ true → p.parent ≡ true
    parent_far on = by_parent (cases_Bool p.parent)
      where
        by_parent : (p.parent ≡ true) ⊎ (p.parent ≡ false) → p.parent ≡ true
        by_parent (inl x) = x
        by_parent (inr x) = let n = (no_parent p sizes plans first count wanted tallied last x).1 in let no_way : true ≡ false = sym on ∙ n in cc

    pub goes_on : m.far ≡ true → GoesOn first count
    goes_on on same = let n = no_far p sizes plans first count wanted tallied last same in let no_way : true ≡ false = sym on ∙ n in cc

    pub near_lacks : m.near ≡ true → (t : Trace) → d2.told ≡ Some t → state_at p (held_by l2 t) (bitmap_entry_of p first) ≡ 6 → ⊥
    near_lacks on t told six =
        let h = planned_then t told in
        tallied.tells_near.not_all (sym (near_is p sizes plans first count wanted tallied last (parent_of m.near refl on)) ∙ on)
        (has_by p sizes (held_by l2 t) (good_then t told) plans first count on_disk h.0 h.1 (there_then t told) first six)

    pub far_lacks : m.far ≡ true → (t : Trace) → d2.told ≡ Some t → state_at p (held_by l2 t) (bitmap_entry_of p last) ≡ 6 → ⊥
    far_lacks on t told six =
        let h = planned_then t told in
        let goes = goes_on on in
        tallied.tells_far.not_all (sym (far_is p sizes plans first count wanted tallied last (parent_far on) goes) ∙ on)
        (subst (λ c. EachRun p plans (InChunk c HasBlock) 0 first count) (let x : last / 2 ^ 23 ≡ first / 2 ^ 23 + 1 = omega (arith, goes, few, some) in x)
        (has_by p sizes (held_by l2 t) (good_then t told) plans first count on_disk h.0 h.1 (there_then t told) last six))

-- ---- the whole of it

few_sectors : (l : Layer) (d : Disk) → IsReady l d → (count : ℕ) → l.tables.parts.sector * count ≤ 2 ^ 28 → count ≤ 2 ^ 23
few_sectors l d ready count size =
    let least : 512 ≤ l.tables.parts.sector = sector_least l.tables.parts.sector ready.readable.sizes.sector in
    let rows : 512 * count ≤ l.tables.parts.sector * count = mul-le-mul_right count least in
    omega (arith, rows, size)

-- the names of a chunk's sector bitmap blocks, by a layer's own numbers
abbrev Names : Layer → ℕ → ℕ → ℕ → Disk → Type 0
Names l chunk first count d = WhereTold d.told (λ t. EachRun (shape_of l.tables.parts) l.plans.items (InChunk chunk (NamesBitmap (shape_of l.tables.parts) (held_by l t))) 0 first count)

module _ (l : Layer) (d0 : Disk) (ready : IsReady l d0) (first count : ℕ) (some : 0 < count) (size : l.tables.parts.sector * count ≤ 2 ^ 28) (on_disk : first + count ≤ l.tables.parts.sectors) (wanted : Wanted)
    (counted : AreCounted (shape_of l.tables.parts) l.plans.items 0 first count wanted) (planned : WhereTold d0.told (λ t. (trims : Bool) × ArePlanned (shape_of l.tables.parts) (held_by l t) trims l.plans.items 0 first count))
    (fits : fits_in wanted.blocks (l.tables.parts.block / megabyte) wanted.bitmaps l.space ≡ true) (missing : Missing) (missing_is : missing ≡ missing_of (shape_of l.tables.parts) wanted first (first + count - 1))
    (l2 : Layer) (d2 : Disk) (leads2 : LeadsTo l l2 d0 d2) (plans2 : l2.plans ≡ l.plans) (says2 : WhereBothTold (λ before after. SaysAllSame (shape_of l.tables.parts) (held_by l before) (held_by l2 after)) d0.told d2.told)
    (fits2 : (payloads units bitmaps : ℕ) → fits_in payloads units bitmaps l.space ≡ true → fits_in payloads units bitmaps l2.space ≡ true) where
  abbrev q : Shape
  q = shape_of l.tables.parts

  abbrev few : count ≤ 2 ^ 23
  few = few_sectors l d0 ready count size

  near_off : missing.near ≡ false → (missing_of q wanted first (first + count - 1)).near ≡ false
  near_off off = ap (λ (x : Missing). x.near) (sym missing_is) ∙ off

  far_off : missing.far ≡ false → (missing_of q wanted first (first + count - 1)).far ≡ false
  far_off off = ap (λ (x : Missing). x.far) (sym missing_is) ∙ off

  near_on : missing.near ≡ true → (missing_of q wanted first (first + count - 1)).near ≡ true
  near_on on = ap (λ (x : Missing). x.near) (sym missing_is) ∙ on

  far_on : missing.far ≡ true → (missing_of q wanted first (first + count - 1)).far ≡ true
  far_on on = ap (λ (x : Missing). x.far) (sym missing_is) ∙ on

  pub near_two : missing.near ≡ false → Names l2 (first / 2 ^ 23) first count d2
  near_two off t told =
      subst (λ (x : TableParts). EachRun (shape_of x) l2.plans.items (InChunk (first / 2 ^ 23) (NamesBitmap (shape_of x) (held_by l2 t))) 0 first count) (sym leads2.parts)
      (subst (λ (z : List Plan). EachRun q z (InChunk (first / 2 ^ 23) (NamesBitmap q (held_by l2 t))) 0 first count) (items_same l2 l (sym plans2))
      (near_there l d0 ready l.plans.items first count some few on_disk wanted counted planned l2 d2 leads2 says2 (near_off off) t told))

  pub far_two : GoesOn first count → missing.far ≡ false → Names l2 ((first + count - 1) / 2 ^ 23) first count d2
  far_two on off t told =
      subst (λ (x : TableParts). EachRun (shape_of x) l2.plans.items (InChunk ((first + count - 1) / 2 ^ 23) (NamesBitmap (shape_of x) (held_by l2 t))) 0 first count) (sym leads2.parts)
      (subst (λ (z : List Plan). EachRun q z (InChunk ((first + count - 1) / 2 ^ 23) (NamesBitmap q (held_by l2 t))) 0 first count) (items_same l2 l (sym plans2))
      (far_there l d0 ready l.plans.items first count some few on_disk wanted counted planned l2 d2 leads2 says2 on (far_off off) t told))

  fit_two : fits_in wanted.blocks (l.tables.parts.block / megabyte) (as_one missing.near + (as_one missing.far + 0)) l2.space ≡ true
  fit_two =
      fits_fewer wanted.blocks (l.tables.parts.block / megabyte) wanted.bitmaps (as_one missing.near + (as_one missing.far + 0)) l2.space
      (subst (λ (x : Missing). as_one x.near + (as_one x.far + 0) ≤ wanted.bitmaps) (sym missing_is)
      (no_more q (sizes_of l d0 ready) l.plans.items first count wanted (tally q (sizes_of l d0 ready) l.plans.items (first / 2 ^ 23) 0 first count wanted counted (omega arith) (omega (arith, few))) (first + count - 1)))
      (fits2 wanted.blocks (l.tables.parts.block / megabyte) wanted.bitmaps fits)

  module _ (l3 : Layer) (d3 : Disk) (leads3 : LeadsTo l2 l3 d2 d3) (stays : d3 ≡ d2) (space3 : l3.space ≡ l2.space) (held3 : WhereTold d2.told (λ t. held_by l3 t ≡ held_by l2 t))
      (brings : Brings l2.tables.parts missing first count l3.tables l2.plans.items l3.plans.items)
      (far3 : GoesOn first count → missing.far ≡ false → WhereTold d2.told (λ t. EachRun (shape_of l2.tables.parts) l3.plans.items (InChunk ((first + count - 1) / 2 ^ 23) (NamesBitmap (shape_of l2.tables.parts) (held_by l2 t))) 0 first count)) where
    fit_three : fits_in wanted.blocks (l.tables.parts.block / megabyte) (as_one missing.near + (as_one missing.far + 0)) l3.space ≡ true
    fit_three = subst (λ (x : Space). fits_in wanted.blocks (l.tables.parts.block / megabyte) (as_one missing.near + (as_one missing.far + 0)) x ≡ true) (sym space3) fit_two

    pub room_three : missing.near ≡ true → spaces.has_room 1 l3.space ≡ true
    room_three on = room_for_one wanted.blocks (l.tables.parts.block / megabyte) missing.near (as_one missing.far + 0) l3.space fit_three on

    told_three : (t : Trace) → d3.told ≡ Some t → d2.told ≡ Some t
    told_three t told = ap (λ (d : Disk). d.told) (sym stays) ∙ told

    parts_three : l3.tables.parts ≡ l.tables.parts
    parts_three = leads3.parts ∙ leads2.parts

    pub lacks_three : missing.near ≡ true → WhereTold d3.told (λ t. state_at (shape_of l3.tables.parts) (held_by l3 t) (bitmap_entry_of (shape_of l3.tables.parts) first) ≡ 6 → ⊥)
    lacks_three on t told =
        subst (λ (x : TableParts). state_at (shape_of x) (held_by l3 t) (bitmap_entry_of (shape_of x) first) ≡ 6 → ⊥) (sym parts_three)
        (subst (λ z. state_at q z (bitmap_entry_of q first) ≡ 6 → ⊥) (sym (held3 t (told_three t told)))
        (near_lacks l d0 ready l.plans.items first count some few on_disk wanted counted planned l2 d2 leads2 says2 (near_on on) t (told_three t told)))

    module _ (l4 : Layer) (d4 : Disk) (leads4 : LeadsTo l3 l4 d3 d4) (space4 : (l4.space ≡ l3.space) ⊎ ((missing.near ≡ true) × (l4.space ≡ spaces.grown 1 l3.space)))
        (keeps4 : (at : ℕ) → has_place at l3.tables.pending ≡ true → has_place at l4.tables.pending ≡ true) (named4 : AreNamed (shape_of l3.tables.parts) (first / 2 ^ 23) l3.plans.items l4.plans.items 0 first count)
        (hand4 : EachRun (shape_of l3.tables.parts) l4.plans.items (InChunk (first / 2 ^ 23) (HasBits l4.tables)) 0 first count)
        (there4 : WhereTold d4.told (λ t. EachRun (shape_of l3.tables.parts) l4.plans.items (InChunk (first / 2 ^ 23) (NamesBitmap (shape_of l3.tables.parts) (held_by l4 t))) 0 first count))
        (says4 : WhereBothTold (λ before after. SaysSameBut (shape_of l3.tables.parts) (first / 2 ^ 23) (held_by l3 before) (held_by l4 after)) d3.told d4.told) where
      parts_four : l4.tables.parts ≡ l3.tables.parts
      parts_four = leads4.parts

      keeps_four : KeepsPending l3.tables l4.tables
      keeps_four = record { parts_are = leads4.parts; keeps = keeps4 }

      three_two : l3.tables.parts ≡ l2.tables.parts
      three_two = leads3.parts

      abbrev far : ℕ
      far = (first + count - 1) / 2 ^ 23

      pub fit_four : fits_in wanted.blocks (l.tables.parts.block / megabyte) (as_one missing.far + 0) l4.space ≡ true
      fit_four = one_less wanted.blocks (l.tables.parts.block / megabyte) missing.near (as_one missing.far + 0) l3.space l4.space fit_three space4

      pub room_four : missing.far ≡ true → spaces.has_room 1 l4.space ≡ true
      room_four on = room_for_one wanted.blocks (l.tables.parts.block / megabyte) missing.far 0 l4.space fit_four on

      pub entries_four : EachRun (shape_of l4.tables.parts) l4.plans.items (HasEntry l4.tables) 0 first count
      entries_four =
          subst (λ (x : TableParts). EachRun (shape_of x) l4.plans.items (HasEntry l4.tables) 0 first count) (sym parts_four)
          (each_map (shape_of l3.tables.parts) l4.plans.items (HasEntry l3.tables) (HasEntry l4.tables) (entry_kept l3.tables l4.tables keeps_four) 0 first count
          (entries_named (shape_of l3.tables.parts) (first / 2 ^ 23) l3.plans.items l4.plans.items l3.tables first count named4
          (subst (λ (x : TableParts). EachRun (shape_of x) l3.plans.items (HasEntry l3.tables) 0 first count) (sym three_two) brings.entries)))

      hand_by : missing.far ≡ false → (far ≡ first / 2 ^ 23) ⊎ (far ≢ first / 2 ^ 23) → EachRun (shape_of l3.tables.parts) l4.plans.items (InChunk far (HasBits l4.tables)) 0 first count
      hand_by off (inl e) = subst (λ c. EachRun (shape_of l3.tables.parts) l4.plans.items (InChunk c (HasBits l4.tables)) 0 first count) (sym e) hand4
      hand_by off (inr ne) =
          each_map (shape_of l3.tables.parts) l4.plans.items (InChunk far (HasBits l3.tables)) (InChunk far (HasBits l4.tables)) (λ s n plan h e. bits_kept l3.tables l4.tables keeps_four s n plan (h e)) 0 first count
          (other_chunk (shape_of l3.tables.parts) far (first / 2 ^ 23) l3.plans.items l4.plans.items (HasBits l3.tables) first count (λ e. ne (sym e)) named4
          (subst (λ (x : TableParts). EachRun (shape_of x) l3.plans.items (InChunk far (HasBits l3.tables)) 0 first count) (sym three_two) (brings.far ne off)))

      pub hand_four : missing.far ≡ false → EachRun (shape_of l4.tables.parts) l4.plans.items (InChunk far (HasBits l4.tables)) 0 first count
      hand_four off = subst (λ (x : TableParts). EachRun (shape_of x) l4.plans.items (InChunk far (HasBits l4.tables)) 0 first count) (sym parts_four) (hand_by off (cases_eq far (first / 2 ^ 23)))

      sectors_three : first + count ≤ l3.tables.parts.sectors
      sectors_three = subst (λ (x : TableParts). first + count ≤ x.sectors) (sym parts_three) on_disk

      there_by : missing.far ≡ false → (t : Trace) → d4.told ≡ Some t → (far ≡ first / 2 ^ 23) ⊎ (far ≢ first / 2 ^ 23) → EachRun (shape_of l3.tables.parts) l4.plans.items (InChunk far (NamesBitmap (shape_of l3.tables.parts) (held_by l4 t))) 0 first count
      there_by off t told (inl e) = subst (λ c. EachRun (shape_of l3.tables.parts) l4.plans.items (InChunk c (NamesBitmap (shape_of l3.tables.parts) (held_by l4 t))) 0 first count) (sym e) (there4 t told)
      there_by off t told (inr ne) =
          let b = told_before (λ before after. SaysSameBut (shape_of l3.tables.parts) (first / 2 ^ 23) (held_by l3 before) (held_by l4 after)) d3.told d4.told t says4 told in
          let told2 = told_three b.0 b.1.0 in
          names_say (shape_of l3.tables.parts) (sizes_of l3 d3 leads3.ready) l4.plans.items (held_by l3 b.0) (held_by l4 t) far (first / 2 ^ 23) first count ne b.1.1 sectors_three
          (other_chunk (shape_of l3.tables.parts) far (first / 2 ^ 23) l3.plans.items l4.plans.items (NamesBitmap (shape_of l3.tables.parts) (held_by l3 b.0)) first count (λ e. ne (sym e)) named4
          (subst (λ (x : TableParts). EachRun (shape_of x) l3.plans.items (InChunk far (NamesBitmap (shape_of x) (held_by l3 b.0))) 0 first count) (sym three_two)
          (subst (λ z. EachRun (shape_of l2.tables.parts) l3.plans.items (InChunk far (NamesBitmap (shape_of l2.tables.parts) z)) 0 first count) (sym (held3 b.0 told2)) (far3 ne off b.0 told2))))

      pub there_four : missing.far ≡ false → Names l4 far first count d4
      there_four off t told =
          subst (λ (x : TableParts). EachRun (shape_of x) l4.plans.items (InChunk far (NamesBitmap (shape_of x) (held_by l4 t))) 0 first count) (sym parts_four) (there_by off t told (cases_eq far (first / 2 ^ 23)))

      pub lacks_four : missing.far ≡ true → WhereTold d4.told (λ t. state_at (shape_of l4.tables.parts) (held_by l4 t) (bitmap_entry_of (shape_of l4.tables.parts) (first + count - 1)) ≡ 6 → ⊥)
      lacks_four on t told =
          let b = told_before (λ before after. SaysSameBut (shape_of l3.tables.parts) (first / 2 ^ 23) (held_by l3 before) (held_by l4 after)) d3.told d4.told t says4 told in
          let told2 = told_three b.0 b.1.0 in
          let goes : GoesOn first count = goes_on l d0 ready l.plans.items first count some few on_disk wanted counted planned l2 d2 leads2 says2 (far_on on) in
          let parent : l3.tables.parts.parent ≡ true = ap (λ (x : TableParts). x.parent) parts_three ∙ parent_far l d0 ready l.plans.items first count some few on_disk wanted counted planned l2 d2 leads2 says2 (far_on on) in
          let before : state_at q (held_by l3 b.0) (bitmap_entry_of q (first + count - 1)) ≡ 6 → ⊥ =
          subst (λ z. state_at q z (bitmap_entry_of q (first + count - 1)) ≡ 6 → ⊥) (sym (held3 b.0 told2)) (far_lacks l d0 ready l.plans.items first count some few on_disk wanted counted planned l2 d2 leads2 says2 (far_on on) b.0 told2) in
          let here : state_at (shape_of l3.tables.parts) (held_by l3 b.0) (bitmap_entry_of (shape_of l3.tables.parts) (first + count - 1)) ≡ 6 → ⊥ =
          subst (λ (x : TableParts). state_at (shape_of x) (held_by l3 b.0) (bitmap_entry_of (shape_of x) (first + count - 1)) ≡ 6 → ⊥) (sym parts_three) before in
          subst (λ (x : TableParts). state_at (shape_of x) (held_by l4 t) (bitmap_entry_of (shape_of x) (first + count - 1)) ≡ 6 → ⊥) (sym parts_four)
          (λ six. here (ap state_of (sym (b.1.1.bitmaps (first + count - 1) (let o = sectors_three in omega (arith, o, some)) parent goes)) ∙ six))

      module _ (l5 : Layer) (d5 : Disk) (leads5 : LeadsTo l4 l5 d4 d5) (space5 : (l5.space ≡ l4.space) ⊎ ((missing.far ≡ true) × (l5.space ≡ spaces.grown 1 l4.space)))
          (keeps5 : (at : ℕ) → has_place at l4.tables.pending ≡ true → has_place at l5.tables.pending ≡ true) (named5 : AreNamed (shape_of l4.tables.parts) far l4.plans.items l5.plans.items 0 first count)
          (hand5 : EachRun (shape_of l4.tables.parts) l5.plans.items (InChunk far (HasBits l5.tables)) 0 first count)
          (there5 : WhereTold d5.told (λ t. EachRun (shape_of l4.tables.parts) l5.plans.items (InChunk far (NamesBitmap (shape_of l4.tables.parts) (held_by l5 t))) 0 first count))
          (says5 : WhereBothTold (λ before after. SaysSameBut (shape_of l4.tables.parts) far (held_by l4 before) (held_by l5 after)) d4.told d5.told) where
        keeps_five : KeepsPending l4.tables l5.tables
        keeps_five = record { parts_are = leads5.parts; keeps = keeps5 }

        abbrev p4 : Shape
        p4 = shape_of l4.tables.parts

        sz4 : HasSizes p4
        sz4 = sizes_of l4 d4 leads4.ready

        near_hand : (far ≡ first / 2 ^ 23) ⊎ (far ≢ first / 2 ^ 23) → EachRun p4 l5.plans.items (InChunk (first / 2 ^ 23) (HasBits l5.tables)) 0 first count
        near_hand (inl e) = subst (λ c. EachRun p4 l5.plans.items (InChunk c (HasBits l5.tables)) 0 first count) e hand5
        near_hand (inr ne) =
            each_map p4 l5.plans.items (InChunk (first / 2 ^ 23) (HasBits l4.tables)) (InChunk (first / 2 ^ 23) (HasBits l5.tables)) (λ s n plan h e. bits_kept l4.tables l5.tables keeps_five s n plan (h e)) 0 first count
            (other_chunk p4 (first / 2 ^ 23) far l4.plans.items l5.plans.items (HasBits l4.tables) first count ne named5
            (subst (λ (x : TableParts). EachRun (shape_of x) l4.plans.items (InChunk (first / 2 ^ 23) (HasBits l4.tables)) 0 first count) (sym parts_four) hand4))

        pages_five : EachRun (shape_of l5.tables.parts) l5.plans.items (HasPages l5.tables) 0 first count
        pages_five =
            subst (λ (x : TableParts). EachRun (shape_of x) l5.plans.items (HasPages l5.tables) 0 first count) (sym leads5.parts)
            (pages_of l5.tables p4 l5.plans.items first count
            (each_map p4 l5.plans.items (HasEntry l4.tables) (HasEntry l5.tables) (entry_kept l4.tables l5.tables keeps_five) 0 first count (entries_named p4 far l4.plans.items l5.plans.items l4.tables first count named5 entries_four))
            (all_chunks p4 sz4 l5.plans.items (HasBits l5.tables) first count few (near_hand (cases_eq far (first / 2 ^ 23))) hand5))

        parts_all : l5.tables.parts ≡ l.tables.parts
        parts_all = leads5.parts ∙ (leads4.parts ∙ parts_three)

        fit_five : fits_in wanted.blocks (l.tables.parts.block / megabyte) 0 l5.space ≡ true
        fit_five = one_less wanted.blocks (l.tables.parts.block / megabyte) missing.far 0 l4.space l5.space fit_four space5

        takes_five : TakesBlocks (shape_of l5.tables.parts) l5.plans.items 0 first count wanted.blocks
        takes_five =
            let one : TakesBlocks q l2.plans.items 0 first count wanted.blocks = subst (λ (z : List Plan). TakesBlocks q z 0 first count wanted.blocks) (items_same l2 l (sym plans2)) (takes q (sizes_of l d0 ready) l.plans.items (first / 2 ^ 23) 0 first count wanted counted) in
            let two : TakesBlocks (shape_of l2.tables.parts) l2.plans.items 0 first count wanted.blocks = subst (λ (x : TableParts). TakesBlocks (shape_of x) l2.plans.items 0 first count wanted.blocks) (sym leads2.parts) one in
            let three = takes_named (shape_of l2.tables.parts) far brings.mid l3.plans.items 0 first count wanted.blocks brings.then_named (takes_named (shape_of l2.tables.parts) (first / 2 ^ 23) l2.plans.items brings.mid 0 first count wanted.blocks brings.first_named two) in
            let four = takes_named (shape_of l3.tables.parts) (first / 2 ^ 23) l3.plans.items l4.plans.items 0 first count wanted.blocks named4 (subst (λ (x : TableParts). TakesBlocks (shape_of x) l3.plans.items 0 first count wanted.blocks) (sym three_two) three) in
            let five = takes_named p4 far l4.plans.items l5.plans.items 0 first count wanted.blocks named5 (subst (λ (x : TableParts). TakesBlocks (shape_of x) l4.plans.items 0 first count wanted.blocks) (sym parts_four) four) in
            subst (λ (x : TableParts). TakesBlocks (shape_of x) l5.plans.items 0 first count wanted.blocks) (sym leads5.parts) five

        pub prepared_five : IsPrepared l5 0 first count
        prepared_five = record {
          pages = pages_five;
          blocks = wanted.blocks;
          taken = takes_five;
          room = subst (λ (x : TableParts). HasRoomFor (x.block / megabyte) wanted.blocks 0 l5.space) (sym parts_all) (room_of_fits (l.tables.parts.block / megabyte) wanted.blocks 0 l5.space fit_five);
        }

        -- ---- what is still to be done

        module _ (trims : Bool) (t0 t2 t4 t5 : Trace) (told0 : d0.told ≡ Some t0) (told2 : d2.told ≡ Some t2) (told4 : d4.told ≡ Some t4) (told5 : d5.told ≡ Some t5) (all2 : SaysAllSame q (held_by l t0) (held_by l2 t2))
            (but4 : SaysSameBut (shape_of l3.tables.parts) (first / 2 ^ 23) (held_by l3 t2) (held_by l4 t4)) (but5 : SaysSameBut p4 far (held_by l4 t4) (held_by l5 t5)) (plan0 : ArePlanned q (held_by l t0) trims l.plans.items 0 first count) where
          steps_two : EachRun q l2.plans.items (IsStep q (held_by l2 t2) trims) 0 first count
          steps_two =
              subst (λ (z : List Plan). EachRun q z (IsStep q (held_by l2 t2) trims) 0 first count) (items_same l2 l (sym plans2))
              (steps_say q (sizes_of l d0 ready) l.plans.items (held_by l t0) (held_by l2 t2) (good_of l d0 ready t0 told0) all2.blocks trims first count on_disk (step_planned q l.plans.items (held_by l t0) trims first count plan0))

          steps_three : EachRun (shape_of l3.tables.parts) l3.plans.items (IsStep (shape_of l3.tables.parts) (held_by l3 t2) trims) 0 first count
          steps_three =
              subst (λ (x : TableParts). EachRun (shape_of x) l3.plans.items (IsStep (shape_of x) (held_by l3 t2) trims) 0 first count) (sym three_two)
              (subst (λ z. EachRun (shape_of l2.tables.parts) l3.plans.items (IsStep (shape_of l2.tables.parts) z trims) 0 first count) (sym (held3 t2 told2))
              (steps_named (shape_of l2.tables.parts) far brings.mid l3.plans.items (held_by l2 t2) trims first count brings.then_named
              (steps_named (shape_of l2.tables.parts) (first / 2 ^ 23) l2.plans.items brings.mid (held_by l2 t2) trims first count brings.first_named
              (subst (λ (x : TableParts). EachRun (shape_of x) l2.plans.items (IsStep (shape_of x) (held_by l2 t2) trims) 0 first count) (sym leads2.parts) steps_two))))

          told3 : d3.told ≡ Some t2
          told3 = ap (λ (d : Disk). d.told) stays ∙ told2

          steps_four : EachRun p4 l4.plans.items (IsStep p4 (held_by l4 t4) trims) 0 first count
          steps_four =
              subst (λ (x : TableParts). EachRun (shape_of x) l4.plans.items (IsStep (shape_of x) (held_by l4 t4) trims) 0 first count) (sym parts_four)
              (steps_say (shape_of l3.tables.parts) (sizes_of l3 d3 leads3.ready) l4.plans.items (held_by l3 t2) (held_by l4 t4) (good_of l3 d3 leads3.ready t2 told3) but4.blocks trims first count sectors_three
              (steps_named (shape_of l3.tables.parts) (first / 2 ^ 23) l3.plans.items l4.plans.items (held_by l3 t2) trims first count named4 steps_three))

          sectors_four : first + count ≤ l4.tables.parts.sectors
          sectors_four = subst (λ (x : TableParts). first + count ≤ x.sectors) (sym parts_four) sectors_three

          steps_five : EachRun p4 l5.plans.items (IsStep p4 (held_by l5 t5) trims) 0 first count
          steps_five =
              steps_say p4 sz4 l5.plans.items (held_by l4 t4) (held_by l5 t5) (good_of l4 d4 leads4.ready t4 told4) but5.blocks trims first count sectors_four
              (steps_named p4 far l4.plans.items l5.plans.items (held_by l4 t4) trims first count named5 steps_four)

          near_names : (far ≡ first / 2 ^ 23) ⊎ (far ≢ first / 2 ^ 23) → EachRun p4 l5.plans.items (InChunk (first / 2 ^ 23) (NamesBitmap p4 (held_by l5 t5))) 0 first count
          near_names (inl e) = subst (λ c. EachRun p4 l5.plans.items (InChunk c (NamesBitmap p4 (held_by l5 t5))) 0 first count) e (there5 t5 told5)
          near_names (inr ne) =
              names_say p4 sz4 l5.plans.items (held_by l4 t4) (held_by l5 t5) (first / 2 ^ 23) far first count (λ e. ne (sym e)) but5 sectors_four
              (other_chunk p4 (first / 2 ^ 23) far l4.plans.items l5.plans.items (NamesBitmap p4 (held_by l4 t4)) first count ne named5
              (subst (λ (x : TableParts). EachRun (shape_of x) l4.plans.items (InChunk (first / 2 ^ 23) (NamesBitmap (shape_of x) (held_by l4 t4))) 0 first count) (sym parts_four) (there4 t4 told4)))

          wants_here : Wants l5 0 first count trims t5
          wants_here = record {
            todo = subst (λ (x : TableParts). EachRun (shape_of x) l5.plans.items (IsToDo (shape_of x) (held_by l5 t5) trims) 0 first count) (sym leads5.parts)
                (to_do p4 l5.plans.items (held_by l5 t5) trims first count steps_five
                (all_chunks p4 sz4 l5.plans.items (NamesBitmap p4 (held_by l5 t5)) first count few (near_names (cases_eq far (first / 2 ^ 23))) (there5 t5 told5)));
          }

        pub wants_five : (trims : Bool) → WhereBothTold (λ before after. ArePlanned q (held_by l before) trims l.plans.items 0 first count → Wants l5 0 first count trims after) d0.told d5.told
        wants_five trims = by_told d0.told d5.told refl refl (kept_then l l4 l5 d0.told d4.told d5.told (kept_then l l3 l4 d0.told d3.told d4.told (kept_then l l2 l3 d0.told d2.told d3.told leads2.kept leads3.kept) leads4.kept) leads5.kept)
          where
            at : (t0 t5 : Trace) → d0.told ≡ Some t0 → d5.told ≡ Some t5 → ArePlanned q (held_by l t0) trims l.plans.items 0 first count → Wants l5 0 first count trims t5
            at t0 t5 e0 e5 planned0 =
                let five = told_before (λ before after. SaysSameBut p4 far (held_by l4 before) (held_by l5 after)) d4.told d5.told t5 says5 e5 in
                let four = told_before (λ before after. SaysSameBut (shape_of l3.tables.parts) (first / 2 ^ 23) (held_by l3 before) (held_by l4 after)) d3.told d4.told five.0 says4 five.1.0 in
                let e2 = told_three four.0 four.1.0 in
                let two = told_before (λ before after. SaysAllSame q (held_by l before) (held_by l2 after)) d0.told d2.told four.0 says2 e2 in
                let same : two.0 ≡ t0 = some_same two.0 t0 (sym two.1.0 ∙ e0) in
                wants_here trims t0 four.0 five.0 t5 e0 e2 five.1.0 e5 (subst (λ (x : Trace). SaysAllSame q (held_by l x) (held_by l2 four.0)) same two.1.1) four.1.1 five.1.1 planned0

            by_told : (a b : Option Trace) → d0.told ≡ a → d5.told ≡ b → WhereBothTold (HasKept l l5) a b → WhereBothTold (λ before after. ArePlanned q (held_by l before) trims l.plans.items 0 first count → Wants l5 0 first count trims after) a b
            by_told None None e0 e5 h = tt
            by_told None (Some v) e0 e5 h = absurd h
            by_told (Some u) None e0 e5 h = absurd h
            by_told (Some u) (Some v) e0 e5 h = at u v e0 e5
