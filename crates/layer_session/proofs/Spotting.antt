-- Where sectors of one block are to be written, by the step that is planned for it.
use Rattle.std.proofs.Common.{◌≡◌, ℕ, ◌+◌, ◌-◌, ◌*◌, ◌/◌, ◌%◌, ◌^◌, ◌<◌, ◌≤◌, ◌⊎◌, min, Bool, true, false, Option, refl, sym, ap, subst, ◌∙◌, arith, inl, inr}
use Rattle.vhdx_format.specs.AllocationTables.{state_of, unit_of}
use Rattle.vhdx_format.specs.Fields.{megabyte}
use Rattle.vhdx_format.specs.Layers.{Shape, entry_of, place_at, state_at}
use Rattle.store_model.specs.Disk.{Disk, WhereBothTold, WhereTold}
use Rattle.store_model.specs.Trace.{Trace}
use Rattle.table_pages.specs.Held.{AreChanged, bit_pages, held}
use Rattle.table_pages.specs.Held as table_words
use Rattle.table_pages.specs.declared.tables.TableParts.{TableParts}
use Rattle.layer_session.specs.declared.file.Layer.{Layer}
use Rattle.layer_session.specs.declared.masked.Spot.{Spot}
use Rattle.layer_session.specs.declared.planning.Plan.{Plan}
use Rattle.layer_session.specs.declared.planning.Step.TheVariants.{Drop, Leave, Make, MakePart, Mark, Write}
use Rattle.layer_session.specs.Calls.{HasKept}
use Rattle.layer_session.specs.Keeping.{IsReady, IsRunAt}
use Rattle.layer_session.specs.Masked.{HasEmpty, IsSpot, StandsInPart}
use Rattle.layer_session.specs.Planning.{are_marked, is_marking, step_by}
use Rattle.layer_session.specs.Steps.{IsToDo, StandFrom, held_by}
use Rattle.layer_session.specs.Taking.{HasMade, IsAbsent, IsTrimming, MayBeMade, takes_of}
use Rattle.layer_session.proofs.Known.{takes_none}
use Rattle.layer_session.proofs.Readying.{StepSays, make_made, make_may, part_absent, step_says, write_made}
use Rattle.layer_session.proofs.Running.{never_trimmed, stands_in}
use Rattle.layer_session.proofs.Told.{both_end, both_map, both_self}
use Rattle.layer_session.proofs.Zeroing.{part_chunk}
use Rattle.layer_session.proofs.Spots.{block_low}

-- ---- the spot of sectors whose step is planned

module _ (l : Layer) (old : Disk) (ready : IsReady l old) (plan : Plan) (first count : ℕ) (some : 0 < count) (on_disk : first + count ≤ l.tables.parts.sectors)
    (run : first * l.tables.parts.sector % l.tables.parts.block + count * l.tables.parts.sector ≤ l.tables.parts.block)
    (todo : WhereTold old.told (λ t. IsToDo (table_words.shape_of l.tables.parts) (held_by l t) false first count plan)) where
  abbrev p : Shape
  p = table_words.shape_of l.tables.parts

  any_todo : WhereTold old.told (λ t. (trims : Bool) × IsToDo (table_words.shape_of l.tables.parts) (held_by l t) trims first count plan)
  any_todo t told = (false, todo t told)

  -- it is never one of a block without a place
  no_spot : (spot : Spot) → IsTrimming plan.step → WhereTold old.told (λ t. IsSpot p (held_by l t) first count spot)
  no_spot spot trims t told = absurd (never_trimmed l old plan first count todo trims t told)

  stand_spot : (mid : Layer) (behind : Disk) (place bitmap : ℕ) → mid.tables.parts ≡ l.tables.parts → WhereTold behind.told (λ t. StandFrom mid first count place t) → WhereTold behind.told (λ t. IsSpot p (held_by mid t) first count (record { place = place; bitmap = bitmap; marks = false }))
  stand_spot mid behind place bitmap parts stands t told = record {
    whole = λ w. subst (λ (q : TableParts). IsRunAt (table_words.shape_of q) (held_by mid t) first count place) parts (stands t told);
    part = λ m. let wrong : true ≡ false = sym m in cc;
  }

  part_spot : (mid : Layer) (behind : Disk) (place bitmap : ℕ) → WhereTold behind.told (λ t. StandsInPart p (held_by mid t) first place bitmap) → WhereTold behind.told (λ t. IsSpot p (held_by mid t) first count (record { place = place; bitmap = bitmap; marks = true }))
  part_spot mid behind place bitmap stands t told = record { whole = λ w. let wrong : true ≡ false = w in cc; part = λ m. stands t told }

  module _ (offset place : ℕ) (offset_is : offset ≡ first * l.tables.parts.sector % l.tables.parts.block) (fits : offset + l.tables.parts.sector ≤ l.tables.parts.block) (place_is : place ≡ min (plan.word / 2 ^ 20 * megabyte + offset) (2 ^ 64 - 1)) where
    pub here_spot : (plan.step ≡ Write) ⊎ IsTrimming plan.step → WhereTold old.told (λ t. IsSpot p (held_by l t) first count (record { place = place; bitmap = plan.bitmap; marks = false }))
    here_spot (inr trims) = no_spot (record { place = place; bitmap = plan.bitmap; marks = false }) trims
    here_spot (inl step) = stand_spot l old place plan.bitmap refl (stands_in l l first count place old.told old.told (write_made l old ready plan first count some on_disk run any_todo offset place offset_is fits place_is step))

    pub mark_spot : plan.step ≡ Mark → WhereTold old.told (λ t. IsSpot p (held_by l t) first count (record { place = place; bitmap = plan.bitmap; marks = true }))
    mark_spot step = part_spot l old place plan.bitmap (λ t told.
        let one = ready.told t told in
        let d = todo t told in
        let below : first < l.tables.parts.sectors = omega (arith, some, on_disk) in
        let says : StepSays false (are_marked p (held_by l t) first count) p.parent plan.word Mark = subst (StepSays false (are_marked p (held_by l t) first count) p.parent plan.word) (sym d.step ∙ step)
        (subst (λ w. StepSays false (are_marked p (held_by l t) first count) p.parent plan.word (step_by false (are_marked p (held_by l t) first count) p.parent w)) d.word (step_says false (are_marked p (held_by l t) first count) p.parent plan.word)) in
        let seven : state_at p (held_by l t) (entry_of p first) ≡ 7 = ap state_of (sym d.word) ∙ says in
        let low = block_low l t one.0 one.1 first below (inr seven) in
        let at : place_at p (held_by l t) (entry_of p first) ≡ plan.word / 2 ^ 20 * megabyte = ap (λ n. unit_of n * megabyte) (sym d.word) in
        let bitmap = d.bitmap (ap is_marking step) in
        record { seven = seven; place_is = omega (arith, place_is, low, at, offset_is, fits); parent = (part_chunk l t one.0 one.1 first below seven).0; there = bitmap.0; bitmap_is = bitmap.1 })

  pub make_may_be : plan.step ≡ Make → WhereTold old.told (λ t. MayBeMade p (held_by l t) first 6)
  make_may_be step = make_may l old ready plan first count some on_disk run any_todo step

  pub absent_here : plan.step ≡ MakePart → WhereTold old.told (λ t. IsAbsent p (held_by l t) first plan.bitmap)
  absent_here step = part_absent l old ready plan first count some on_disk run any_todo step

  pub made_spot : (new : Layer) (behind : Disk) (place : ℕ) → new.tables.parts ≡ l.tables.parts → WhereBothTold (HasMade l new first 6 place) old.told behind.told → WhereTold behind.told (λ t. IsSpot p (held_by new t) first count (record { place = place; bitmap = plan.bitmap; marks = false }))
  made_spot new behind place parts made = stand_spot new behind place plan.bitmap parts (stands_in l new first count place old.told behind.told (make_made l old ready plan first count some on_disk run any_todo new behind place parts made))

  pub empty_spot : (new : Layer) (behind : Disk) (place : ℕ) → WhereBothTold (HasEmpty l new first place plan.bitmap) old.told behind.told → WhereTold behind.told (λ t. IsSpot p (held_by new t) first count (record { place = place; bitmap = plan.bitmap; marks = true }))
  empty_spot new behind place made = part_spot new behind place plan.bitmap (both_end (HasEmpty l new first place plan.bitmap) (λ t. StandsInPart p (held_by new t) first place plan.bitmap) old.told behind.told made (λ t u h. h.stands))

-- a step that makes nothing takes no place
pub takes_nothing : (plan : Plan) → (plan.step ≡ Write) ⊎ IsTrimming plan.step → 0 ≡ takes_of plan
takes_nothing plan (inl e) = takes_none plan Write e refl
takes_nothing plan (inr (inl e)) = takes_none plan Drop e refl
takes_nothing plan (inr (inr e)) = takes_none plan Leave e refl

pub made_kept : (l new : Layer) (first state place : ℕ) (a b : Option Trace) → WhereBothTold (HasMade l new first state place) a b → WhereBothTold (HasKept l new) a b
made_kept l new first state place a b made = both_map (HasMade l new first state place) (HasKept l new) a b made (λ t u x y h. record { serves = h.serves })

pub empty_kept : (l new : Layer) (first place bitmap : ℕ) (a b : Option Trace) → WhereBothTold (HasEmpty l new first place bitmap) a b → WhereBothTold (HasKept l new) a b
empty_kept l new first place bitmap a b made = both_map (HasEmpty l new first place bitmap) (HasKept l new) a b made (λ t u x y h. record { serves = h.serves })

pub self_kept : (l : Layer) (a : Option Trace) → WhereBothTold (HasKept l l) a a
self_kept l a = both_self (HasKept l l) a (λ t told. record { serves = λ file s. s })
