-- A place is taken for a block: the file has grown to it, or it was left before and is made zeros.
use Rattle.std.proofs.Common.{◌≡◌, ℕ, suc, ◌+◌, ◌-◌, ◌*◌, ◌/◌, ◌^◌, ◌<◌, ◌≤◌, ◌⊎◌, ◌==◌, ◌&&◌, min, cond, Bool, true, false, List, [], ◌∷◌, ◌++◌, length, get_or, Option, Some, None, refl, sym, ap, subst, ◌∙◌, arith, inl, inr}
use Rattle.std.proofs.lemmas.Bool.{leb-true}
use Rattle.std.proofs.lemmas.List.{get_or_past}
use Rattle.std.proofs.Math.Nat.{add-mul, mul-le-mul_right}
use Rattle.vhdx_format.proofs.MadeOpen.{block_units}
use Rattle.vx_base.proofs.ByteLists.{length-extended}
use Rattle.block_alloc.proofs.Keeping.{is_place}
use Rattle.vx_base.specs.Fields.{extended}
use Rattle.vhdx_format.specs.Fields.{megabyte}
use Rattle.vhdx_format.specs.FileParts.{shape_of}
use Rattle.vhdx_format.specs.HeldBlocks.{Area, bitmap}
use Rattle.vhdx_format.specs.Layers.{place_at}
use Rattle.store_model.specs.Disk.{Disk, WhereBothTold, WhereTold, changed}
use Rattle.store_model.specs.File.{Grow, seen}
use Rattle.store_model.specs.Trace.{Trace, file_of, with_change}
use Rattle.store_model.proofs.Spans.{file_of-with_change}
use Rattle.table_pages.specs.Held.{held}
use Rattle.table_pages.proofs.Words.{held_long}
use Rattle.block_alloc.specs.declared.freed.Freed.{Freed}
use Rattle.log_write.specs.Sessions.{LogState}
use Rattle.block_alloc.specs.Spaces.{IsApartFrom, Space, can_take, can_take_by, index_of, is_usable, lowest, place_by, place_for, taken, taken_by, without}
use Rattle.block_alloc.proofs.Choosing.{index_found}
use Rattle.chain_model.specs.Images.{Placed}
use Rattle.layer_session.specs.declared.file.Layer.{Layer}
use Rattle.layer_session.specs.Calls.{HoldsRest, KeepsOver}
use Rattle.layer_session.specs.Keeping.{IsReady, IsTablePlace, Serves, bitmap as bitmap_place, entries, metadata, regions}
use Rattle.layer_session.specs.Steps.{held_by}
use Rattle.layer_session.specs.Taking.{ClearsOver, HasCleared, HasTaken, HasUnused, HoldsBeside, IsPartOf, KeepsEntries}
use Rattle.layer_session.proofs.Behind.{behind_unused}
use Rattle.layer_session.proofs.Entered.{held_as_long}
use Rattle.layer_session.proofs.Going.{ready_next}
use Rattle.layer_session.proofs.Grown.{grown_byte, grown_pages, grown_serves, layer_with}
use Rattle.layer_session.proofs.Reused.{reused_serves, reused_unused, with_space}
use Rattle.layer_session.proofs.SameEntries.{held_here, keeps_entries}
use Rattle.layer_session.proofs.Told.{both_changed, both_map}

-- ---- which place it is

-- where a place comes from: the end, or the freed places
pub data TakenFrom (s space : Space) (units unit : ℕ) : Type 0 where
  at_end : unit ≡ s.next → space.next ≡ s.next + units → space.freed ≡ s.freed → s.next + units ≤ 2 ^ 43 → TakenFrom s space units unit
  left : (before after : List Freed) → s.freed ≡ before ++ (record { at = unit; units = units; committed = true } ∷ after) → space.freed ≡ before ++ after → space.next ≡ s.next → unit + units ≤ s.next
      → IsApartFrom unit units space.freed → TakenFrom s space units unit

-- the place that is taken out, and the others
splits : (units at : ℕ) (fs : List Freed) → index_of units at fs < length fs
    → (before : List Freed) × ((after : List Freed) × ((fs ≡ before ++ (record { at = at; units = units; committed = true } ∷ after)) × (without units at fs ≡ before ++ after)))
unfolding index_of without
splits units at [] h = absurd (omega (arith, h))
splits units at (f ∷ fs) h = by_test (is_usable units f && (f.at == at)) (is_place f units at) h (λ q. splits units at fs q)
  where
    by_test : (b : Bool) → (b ≡ true → f ≡ (let x : Freed = record { at = at; units = units; committed = true } in x)) → cond b 0 (1 + index_of units at fs) < suc (length fs)
        → (index_of units at fs < length fs → (before : List Freed) × ((after : List Freed) × ((fs ≡ before ++ (record { at = at; units = units; committed = true } ∷ after)) × (without units at fs ≡ before ++ after))))
        → (before : List Freed) × ((after : List Freed) × ((f ∷ fs ≡ before ++ (record { at = at; units = units; committed = true } ∷ after)) × (cond b fs (f ∷ without units at fs) ≡ before ++ after)))
    by_test true e q rec = ([], (fs, (ap (λ (g : Freed). g ∷ fs) (e refl), refl)))
    by_test false e q rec =
        let r = rec (omega (arith, q)) in
        (f ∷ r.0, (r.1.0, (ap (λ (z : List Freed). f ∷ z) r.1.1.0, ap (λ (z : List Freed). f ∷ z) r.1.1.1)))

pub taken_from : (units unit : ℕ) (s : Space) → can_take units s ≡ true → unit ≡ place_for units s → unit + units ≤ (taken units s).next → IsApartFrom unit units (taken units s).freed → TakenFrom s (taken units s) units unit
taken_from units unit s can at within apart = by_lowest (lowest units s.freed) refl can at within apart
  where
    by_lowest : (o : Option ℕ) → lowest units s.freed ≡ o → can_take_by units s o ≡ true → unit ≡ place_by s o → unit + units ≤ (taken_by units s o).next → IsApartFrom unit units (taken_by units s o).freed → TakenFrom s (taken_by units s o) units unit
    by_lowest None e can at within apart = at_end at refl refl (leb-true (s.next + units) (2 ^ 43) can)
    by_lowest (Some found) e can at within apart =
        let r = splits units found s.freed (index_found units found s.freed e) in
        left r.0 r.1.0 (r.1.1.0 ∙ ap (λ n. r.0 ++ (record { at = n; units = units; committed = true } ∷ r.1.0)) (sym at)) r.1.1.1 refl within apart

-- what a call of the allocator says
pub from_take : (s space : Space) (units unit : ℕ) → (can_take units s ≡ true) × (unit ≡ place_for units s) → space ≡ taken units s → unit + units ≤ space.next → IsApartFrom unit units space.freed → TakenFrom s space units unit
from_take s space units unit given is within apart =
    subst (λ (z : Space). TakenFrom s z units unit) (sym is)
    (taken_from units unit s given.0 given.1 (subst (λ (z : Space). unit + units ≤ z.next) is within) (subst (λ (z : Space). IsApartFrom unit units z.freed) is apart))

-- no byte of the tables is in an unused range
unused_off : (l : Layer) (t : Trace) (range : Area) (file : Placed) (h : HasUnused l t range file) (i : ℕ) → IsTablePlace h.serves.parts (held l.tables.pending (seen (file_of t file.number))) i
    → (i < range.at) ⊎ (range.at + range.len ≤ i)
unused_off l t range file h i (regions a b) = let low = h.unused.placed.low in inl (omega (arith, low, b))
unused_off l t range file h i (entries a b) = by_side h.unused.placed.off_table
  where
    by_side : (range.at + range.len ≤ h.serves.parts.bat_at) ⊎ (h.serves.parts.bat_at + h.serves.parts.bat_len ≤ range.at) → (i < range.at) ⊎ (range.at + range.len ≤ i)
    by_side (inl x) = inr (omega (arith, x, a))
    by_side (inr x) = inl (omega (arith, x, b))
unused_off l t range file h i (metadata a b) = by_side h.unused.placed.off_metadata
  where
    by_side : (range.at + range.len ≤ h.serves.parts.meta_at) ⊎ (h.serves.parts.meta_at + h.serves.parts.meta_len ≤ range.at) → (i < range.at) ⊎ (range.at + range.len ≤ i)
    by_side (inl x) = inr (omega (arith, x, a))
    by_side (inr x) = inl (omega (arith, x, b))
unused_off l t range file h i (bitmap_place index be six a b) =
    by_side (h.unused.held.apart index (record { at = place_at (shape_of h.serves.parts) (held l.tables.pending (seen (file_of t file.number))) index; len = megabyte }) (bitmap be six))
  where
    by_side : (range.at + range.len ≤ place_at (shape_of h.serves.parts) (held l.tables.pending (seen (file_of t file.number))) index)
        ⊎ (place_at (shape_of h.serves.parts) (held l.tables.pending (seen (file_of t file.number))) index + megabyte ≤ range.at) → (i < range.at) ⊎ (range.at + range.len ≤ i)
    by_side (inl x) = inr (omega (arith, x, a))
    by_side (inr x) = inl (omega (arith, x, b))

-- ---- of what a layer serves

module _ (l : Layer) (units unit : ℕ) (space : Space) (whole : units * megabyte ≡ l.tables.parts.block) (some : 0 < units) where
  abbrev range : Area
  range = record { at = unit * megabyte; len = l.tables.parts.block }

  in_units : unit * megabyte + units * megabyte ≡ (unit + units) * megabyte
  in_units = sym (add-mul unit units megabyte)

  -- the file has grown to its end
  module _ (len : ℕ) (longer : l.log.len ≤ len) (at : unit ≡ l.space.next) (next : space.next ≡ l.space.next + units) (freed : space.freed ≡ l.space.freed) (few : l.space.next + units ≤ 2 ^ 43) (len_is : len ≡ unit * megabyte + l.tables.parts.block) where
    len_units : len ≡ space.next * megabyte
    len_units = omega (arith, len_is, whole, in_units, ap (λ n. n * megabyte) (let e : unit + units ≡ space.next = omega (arith, at, next) in e))

    most : len ≤ 2 ^ 63
    most = omega (arith, len_units, next, few)

    grown_unused : (t : Trace) (file : Placed) → Serves l t file → HasUnused (layer_with l (record (l.log) { len = len }) space) (with_change file.number (Grow len) t) range file
    grown_unused t file serves = record {
      serves = grown_serves l t file serves len longer most space freed (sym len_units);
      unused = behind_unused l t file serves len longer most space freed (sym len_units) range (omega (arith, at)) (omega (arith, len_is));
    }

    module _ (t : Trace) (file : Placed) (serves : Serves l t file) (n : ℕ) (number : file.number ≡ n) where
      new_held : held_by l (with_change n (Grow len) t) ≡ held l.tables.pending (extended (seen (file_of t file.number)) len)
      new_held =
          sym (ap (λ k. held l.tables.pending (seen (file_of (with_change n (Grow len) t) k))) serves.number)
          ∙ ap (λ k. held l.tables.pending (seen (file_of (with_change k (Grow len) t) file.number))) (sym number)
          ∙ ap (λ f. held l.tables.pending (seen f)) (file_of-with_change file.number (Grow len) t)

      old_held : held l.tables.pending (seen (file_of t file.number)) ≡ held_by l t
      old_held = held_here l t file serves

      same_byte : (i : ℕ) → get_or (held_by l (with_change n (Grow len) t)) i 0 ≡ get_or (held_by l t) i 0
      same_byte i = ap (λ z. get_or z i 0) new_held ∙ grown_byte l t file serves len longer i ∙ ap (λ z. get_or z i 0) old_held

      pub grown_taken : HasTaken l (layer_with l (record (l.log) { len = len }) space) unit t (with_change n (Grow len) t)
      grown_taken = record {
        unused = λ other s. subst (λ k. HasUnused (layer_with l (record (l.log) { len = len }) space) (with_change k (Grow len) t) range other) (s.number ∙ sym serves.number ∙ number) (grown_unused t other s);
        clear = λ i a b. same_byte i ∙ ap (λ z. get_or z i 0) (sym old_held)
            ∙ get_or_past (held l.tables.pending (seen (file_of t file.number))) i 0 (let x = serves.space.next in omega (arith, held_as_long l t file serves, x, at, a));
        same = keeps_entries l (layer_with l (record (l.log) { len = len }) space) t (with_change n (Grow len) t) file serves
            (omega (arith, ap length new_held, ap length (sym old_held), held_as_long l t file serves, held_long l.tables.parts (extended (seen (file_of t file.number)) len) l.tables.pending l.tables.cache (grown_pages l t file serves len longer), length-extended (seen (file_of t file.number)) len))
            (λ i table. same_byte i);
      }

  -- the place was left, and is taken again
  module _ (before after : List Freed) (freed : l.space.freed ≡ before ++ (record { at = unit; units = units; committed = true } ∷ after)) (rest : space.freed ≡ before ++ after) (next : space.next ≡ l.space.next) (apart : IsApartFrom unit units space.freed) where
    pub again : (t : Trace) (file : Placed) → Serves l t file → HasUnused (with_space l space) t range file
    again t file serves =
        subst (λ n. HasUnused (with_space l space) t (record { at = unit * megabyte; len = n }) file) whole
        (record { serves = reused_serves l t file serves unit units before after space freed rest next apart; unused = reused_unused l t file serves unit units before after space freed rest next apart })

    -- it lies in the file
    pub again_within : (t : Trace) (file : Placed) → Serves l t file → unit * megabyte + l.tables.parts.block ≤ l.log.len
    again_within t file serves =
        let h = again t file serves in
        let w = h.unused.placed.within in
        let long = h.serves.running.state.long in
        omega (arith, w, long)

    pub again_small : (t : Trace) (file : Placed) → Serves l t file → unit * megabyte + l.tables.parts.block ≤ 2 ^ 63
    again_small t file serves =
        let h = again t file serves in
        let w = h.unused.placed.within in
        let most = h.serves.as_held.most in
        omega (arith, w, most)

    part : IsPartOf range (unit * megabyte) l.tables.parts.block
    part = record { low = omega arith; high = omega arith }

    pub again_over : (t u : Trace) → ClearsOver (with_space l space) (unit * megabyte) l.tables.parts.block t u → KeepsOver l t u
    again_over t u over = record { over = λ file serves. over.over file range (again t file serves) part }

    pub again_taken : (t u : Trace) (file : Placed) → Serves l t file → HasCleared (with_space l space) (unit * megabyte) l.tables.parts.block t u → HasTaken l (with_space l space) unit t u
    again_taken t u file serves cleared =
        let h = again t file serves in
        let c = cleared.held file range h part in
        let kept : KeepsEntries (with_space l space) (with_space l space) t u = keeps_entries (with_space l space) (with_space l space) t u file h.serves (omega (arith, c.as_long)) (λ i table. c.others i (unused_off (with_space l space) t range file h i table)) in
        record { unused = λ other s. cleared.unused other range (again t other s) part; clear = λ i a b. c.clear i a b; same = record { all = kept.all } }

    pub again_broken : (t u : Trace) → HoldsBeside (with_space l space) (unit * megabyte) l.tables.parts.block t u → HoldsRest l (with_space l space) 0 0 t u
    again_broken t u holds = record { holds = λ file serves. let h = holds.holds file range (again t file serves) part in (h.0, (file.member.layer, h.1, λ s e. refl)) }

-- ---- of a store

module _ (l : Layer) (old new : Disk) (ready : IsReady l old) (units unit : ℕ) (units_are : units ≡ l.tables.parts.block / megabyte) (some : 0 < units) (space : Space) (from : TakenFrom l.space space units unit) (end : ℕ)
    (end_is : end ≡ min (unit * megabyte + l.tables.parts.block) (2 ^ 64 - 1)) where
  whole : units * megabyte ≡ l.tables.parts.block
  whole = ap (λ n. n * megabyte) units_are ∙ block_units l.tables.parts.block ready.readable.sizes.block

  -- ---- a growth

  module _ (far : l.log.len < end) (ok : new ≡ changed l.log.file (Grow end) old) where
    grown_one : (t : Trace) → old.told ≡ Some t → HasTaken l (layer_with l (record (l.log) { len = end }) space) unit t (with_change l.log.file (Grow end) t)
    grown_one t told = by_place from
      where
        one : (file : Placed) × Serves l t file
        one = ready.told t told

        by_place : TakenFrom l.space space units unit → HasTaken l (layer_with l (record (l.log) { len = end }) space) unit t (with_change l.log.file (Grow end) t)
        by_place (at_end at next freed few) =
            let rows : (unit + units) * megabyte ≡ unit * megabyte + units * megabyte = add-mul unit units megabyte in
            let m : (unit + units) * megabyte ≤ 2 ^ 43 * megabyte = mul-le-mul_right megabyte (let e : unit + units ≤ 2 ^ 43 = omega (arith, at, few) in e) in
            grown_taken l units unit space whole some end (omega (arith, far)) at next freed few (omega (arith, end_is, rows, m, whole)) t one.0 one.1 l.log.file (one.1.number ∙ sym ready.one_file)
        by_place (left before after freed rest next within apart) = absurd (let w = again_within l units unit space whole some before after freed rest next apart t one.0 one.1 in omega (arith, w, far, end_is))

    pub grown_all : WhereBothTold (HasTaken l (layer_with l (record (l.log) { len = end }) space) unit) old.told new.told
    grown_all =
        subst (λ (d : Disk). WhereBothTold (HasTaken l (layer_with l (record (l.log) { len = end }) space) unit) old.told d.told) (sym ok)
        (both_changed (HasTaken l (layer_with l (record (l.log) { len = end }) space) unit) l.log.file (Grow end) old.told grown_one)

    ends : (end ≤ space.next * megabyte) × (space.next ≤ 2 ^ 44)
    ends = by_place from
      where
        by_place : TakenFrom l.space space units unit → (end ≤ space.next * megabyte) × (space.next ≤ 2 ^ 44)
        by_place (at_end at next freed few) =
            let rows : (unit + units) * megabyte ≡ unit * megabyte + units * megabyte = add-mul unit units megabyte in
            let same : space.next * megabyte ≡ (unit + units) * megabyte = ap (λ n. n * megabyte) (let e : space.next ≡ unit + units = omega (arith, at, next) in e) in
            (omega (arith, rows, same, end_is, whole), omega (arith, next, few))
        by_place (left before after freed rest next within apart) =
            let rows : (unit + units) * megabyte ≡ unit * megabyte + units * megabyte = add-mul unit units megabyte in
            let m : (unit + units) * megabyte ≤ space.next * megabyte = mul-le-mul_right megabyte (let e : unit + units ≤ space.next = omega (arith, within, next) in e) in
            let most = ready.most in
            (omega (arith, rows, m, end_is, whole), omega (arith, next, most))

    pub grown_ready : IsReady (layer_with l (record (l.log) { len = end }) space) new
    grown_ready =
        ready_next l (layer_with l (record (l.log) { len = end }) space) old new ready (ap (λ (d : Disk). d.files) ok) refl refl ends.0 ends.1 ready.clear ready.plans
        (both_map (HasTaken l (layer_with l (record (l.log) { len = end }) space) unit) _ old.told new.told grown_all (λ t u a b h file serves. (file, (h.unused file serves).serves)))

  -- ---- a place that was left

  module _ (near : end ≤ l.log.len) (place : ℕ) (place_is : place ≡ min (unit * megabyte + 0) (2 ^ 64 - 1)) (bytes : ℕ) (bytes_is : bytes ≡ l.tables.parts.block) where
    -- it isn't the end
    record WasLeft : Type 0 where
      before : List Freed
      after : List Freed
      freed : l.space.freed ≡ before ++ (record { at = unit; units = units; committed = true } ∷ after)
      rest : space.freed ≡ before ++ after
      next : space.next ≡ l.space.next
      apart : IsApartFrom unit units space.freed

    was : WasLeft
    was = by_place from
      where
        by_place : TakenFrom l.space space units unit → WasLeft
        by_place (left before after freed rest next within apart) = record { before = before; after = after; freed = freed; rest = rest; next = next; apart = apart }
        by_place (at_end at next freed few) =
            let m : unit * megabyte ≤ 2 ^ 43 * megabyte = mul-le-mul_right megabyte (let e : unit ≤ 2 ^ 43 = omega (arith, at, few) in e) in
            let e : unit * megabyte ≡ l.space.next * megabyte = ap (λ n. n * megabyte) at in
            let long = ready.next in
            let rows : units * megabyte ≡ units * 1048576 = refl in
            absurd (omega (arith, near, end_is, m, e, long, whole, rows, some))

    here : (t : Trace) → old.told ≡ Some t → place ≡ unit * megabyte
    here t told =
        let one = ready.told t told in
        let w = again_small l units unit space whole some was.before was.after was.freed was.rest was.next was.apart t one.0 one.1 in
        omega (arith, place_is, w)

    pub left_unused : WhereTold old.told (λ t. (range : Area) × ((file : Placed) × (HasUnused (with_space l space) t range file × IsPartOf range place bytes)))
    left_unused t told =
        let one = ready.told t told in (
          record { at = unit * megabyte; len = l.tables.parts.block },
          (one.0, (again l units unit space whole some was.before was.after was.freed was.rest was.next was.apart t one.0 one.1, record { low = omega (arith, here t told); high = omega (arith, here t told, bytes_is) })),
        )

    pub left_over : WhereBothTold (ClearsOver (with_space l space) place bytes) old.told new.told → WhereBothTold (KeepsOver l) old.told new.told
    left_over over =
        both_map (ClearsOver (with_space l space) place bytes) (KeepsOver l) old.told new.told over
        (λ t u told then h. again_over l units unit space whole some was.before was.after was.freed was.rest was.next was.apart t u (subst (λ n. ClearsOver (with_space l space) n l.tables.parts.block t u) (here t told) (subst (λ n. ClearsOver (with_space l space) place n t u) bytes_is h)))

    pub left_taken : WhereBothTold (HasCleared (with_space l space) place bytes) old.told new.told → WhereBothTold (HasTaken l (with_space l space) unit) old.told new.told
    left_taken cleared =
        both_map (HasCleared (with_space l space) place bytes) (HasTaken l (with_space l space) unit) old.told new.told cleared
        (λ t u told then h. let one = ready.told t told in
        again_taken l units unit space whole some was.before was.after was.freed was.rest was.next was.apart t u one.0 one.1 (subst (λ n. HasCleared (with_space l space) n l.tables.parts.block t u) (here t told) (subst (λ n. HasCleared (with_space l space) place n t u) bytes_is h)))

    pub left_ready : new ≡ record old { told = new.told } → WhereBothTold (HasCleared (with_space l space) place bytes) old.told new.told → IsReady (with_space l space) new
    left_ready counts cleared =
        let next = was.next in
        let a = ready.next in
        let b = ready.most in
        let rows : space.next * megabyte ≡ l.space.next * megabyte = ap (λ n. n * megabyte) next in
        ready_next l (with_space l space) old new ready (ap (λ (d : Disk). d.files) counts) refl refl (omega (arith, rows, a)) (omega (arith, next, b)) ready.clear ready.plans
        (both_map (HasTaken l (with_space l space) unit) _ old.told new.told (left_taken cleared) (λ t u a b h file serves. (file, (h.unused file serves).serves)))

    pub left_holds : WhereBothTold (HoldsBeside (with_space l space) place bytes) old.told new.told → WhereBothTold (HoldsRest l (with_space l space) 0 0) old.told new.told
    left_holds holds =
        both_map (HoldsBeside (with_space l space) place bytes) (HoldsRest l (with_space l space) 0 0) old.told new.told holds
        (λ t u told then h. again_broken l units unit space whole some was.before was.after was.freed was.rest was.next was.apart t u (subst (λ n. HoldsBeside (with_space l space) n l.tables.parts.block t u) (here t told) (subst (λ n. HoldsBeside (with_space l space) place n t u) bytes_is h)))

-- ---- a place that was taken

-- it goes into an entry
pub unit_small : (s space : Space) (units unit : ℕ) → TakenFrom s space units unit → s.next ≤ 2 ^ 44 → 0 < units → unit < 2 ^ 44
unit_small s space units unit (at_end at next freed few) most some = omega (arith, at, few, some)
unit_small s space units unit (left before after freed rest next within apart) most some = omega (arith, within, most, some)

-- a log of another length
pub other_len : (s x : LogState) (len : ℕ) → x ≡ record s { len = len } → x ≡ record s { len = x.len }
other_len s x len e = subst (λ (y : LogState). y ≡ record s { len = y.len }) (sym e) refl

-- nothing else of the layer is another
pub taken_only : (l : Layer) (log : LogState) (space : Space) (units : ℕ) → log ≡ record (l.log) { len = log.len } → space ≡ taken units l.space → units ≡ l.tables.parts.block / megabyte
    → ◌≡◌ {A = Layer} (record l { log = log; space = space }) (record l { log = record (l.log) { len = log.len }; space = taken (l.tables.parts.block / megabyte) l.space })
taken_only l log space units same is units_are =
    let other : space ≡ taken (l.tables.parts.block / megabyte) l.space = is ∙ ap (λ n. taken n l.space) units_are in
    λ i. record l { log = same i; space = other i }
