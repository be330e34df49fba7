-- What a call puts, one step behind another.
use Rattle.std.proofs.Common.{◌≡◌, ℕ, ◌+◌, ◌-◌, ◌<◌, ◌≤◌, ◌⊎◌, ◌||◌, Bool, true, false, List, Option, Some, None, refl, sym, ap, subst, ◌∙◌, arith, inl, inr}
use Rattle.std.proofs.lemmas.Bool.{cases_lt, or_cases, or_parts}
use Rattle.store_model.specs.Disk.{Disk, WhereBothTold}
use Rattle.store_model.specs.Trace.{Trace}
use Rattle.store_model.specs.Cause.{RoseAt}
use Rattle.store_model.specs.Plans.{FailsToChange}
use Rattle.store_model.specs.declared.fault.StoreFault.{StoreFault}
use Rattle.layer_session.specs.declared.file.LayerFault.TheVariants.{Write}
use Rattle.table_pages.specs.declared.tables.TableParts.{TableParts}
use Rattle.chain_model.specs.Images.{Placed, Shows}
use Rattle.chain_model.specs.Layers as chain
use Rattle.chain_model.specs.PhaseLaws.{loosened}
use Rattle.chain_model.specs.Sessions.{ShowsFile}
use Rattle.layer_session.specs.declared.file.Layer.{Layer}
use Rattle.layer_session.specs.declared.file.LayerFault.{LayerFault}
use Rattle.layer_session.specs.Calls.{Fails, HasPut, HoldsRest, KeepsOver, PutsInto, is_among, loose_or_named, placed_with}
use Rattle.layer_session.specs.Keeping.{Serves}
use Rattle.layer_session.specs.Steps.{IsMade}
use Rattle.layer_session.specs.Taking.{IsBroken}
use Rattle.layer_session.proofs.Alike.{not_true}
use Rattle.layer_session.proofs.Beside.{among}
use Rattle.layer_session.proofs.Ending.{phase_weaken, phases_join}
use Rattle.layer_session.proofs.Payload.{within}
use Rattle.layer_session.proofs.Planned.{same_test}
use Rattle.layer_session.proofs.Told.{both_and, both_map, both_then}

-- ---- named sectors

-- sectors that are none of these are none of those
abbrev pub IsOutside : ℕ → ℕ → ℕ → ℕ → Type 0
IsOutside first count a n = (s : ℕ) → is_among first count s ≡ false → is_among a n s ≡ false

pub part_outside : (first count a n : ℕ) → first ≤ a → a + n ≤ first + count → IsOutside first count a n
part_outside first count a n low high s off = not_true _ (λ h. let v = within a n s h in let from = v.0 in let to = v.1 in
    let here : is_among first count s ≡ true = among first count s (omega (arith, low, from)) (omega (arith, high, to)) in
    let wrong : true ≡ false = sym here ∙ off in let w : ⊥ = cc in w)

pub or_none : (x y : Bool) → x ≡ false → y ≡ false → (x || y) ≡ false
or_none x y e f = rw (e, f) refl

-- the first of them and the rest
pub among_split : (first len count s : ℕ) → len ≤ count → is_among first count s ≡ (is_among first len s || is_among (first + len) (count - len) s)
among_split first len count s fits = same_test (is_among first count s) (is_among first len s || is_among (first + len) (count - len) s) all parts
  where
    all : is_among first count s ≡ true → (is_among first len s || is_among (first + len) (count - len) s) ≡ true
    all h = let v = within first count s h in by_place v.0 v.1 (cases_lt s (first + len))
      where
        by_place : first ≤ s → s < first + count → (s < first + len) ⊎ (first + len ≤ s) → (is_among first len s || is_among (first + len) (count - len) s) ≡ true
        by_place from to (inl b) = let e = among first len s from b in rw e refl
        by_place from to (inr b) = let e = among (first + len) (count - len) s b (omega (arith, to, fits)) in by_first (is_among first len s) e
          where
            by_first : (x : Bool) → is_among (first + len) (count - len) s ≡ true → (x || is_among (first + len) (count - len) s) ≡ true
            by_first true e = refl
            by_first false e = e

    parts : (is_among first len s || is_among (first + len) (count - len) s) ≡ true → is_among first count s ≡ true
    parts h = by_case (or_cases (is_among first len s) (is_among (first + len) (count - len) s) h)
      where
        by_case : (is_among first len s ≡ true) ⊎ (is_among (first + len) (count - len) s ≡ true) → is_among first count s ≡ true
        by_case (inl x) = let v = within first len s x in let from = v.0 in let to = v.1 in among first count s from (omega (arith, to, fits))
        by_case (inr x) = let v = within (first + len) (count - len) s x in let from = v.0 in let to = v.1 in among first count s (omega (arith, from)) (omega (arith, to, fits))

-- ---- moments

-- Behind some steps the layer serves the file with another layer, but only those sectors are others, and loose.
abbrev pub Moves : Layer → Layer → ℕ → ℕ → Trace → Trace → Type 0
Moves l mid first len t u = (file : Placed) → Serves l t file → (layer : chain.Layer) × (Serves mid u (placed_with layer (loose_or_named first len file) file) × ((s : ℕ) → is_among first len s ≡ false → layer s ≡ file.member.layer s))

pub made_moves : (l mid : Layer) (first len place : ℕ) (t u : Trace) → IsMade l mid first len place t u → Moves l mid first len t u
made_moves l mid first len place t u m file serves = let x = m.serves file serves in (x.0, (x.1, x.2))

pub put_moves : (l mid : Layer) (first len : ℕ) (f : chain.Layer → chain.Layer) → ((layer : chain.Layer) (s : ℕ) → is_among first len s ≡ false → f layer s ≡ layer s) → (t u : Trace) → HasPut l mid first len f t u → Moves l mid first len t u
put_moves l mid first len f agree t u put file serves = (f file.member.layer, (put.serves file serves, λ s off. agree file.member.layer s off))

-- an image that shows the file with a few sectors loose shows it with more
pub shows_looser : (file : Placed) (layer : chain.Layer) (less more : ℕ → Bool) (image : List ℕ) → ((s : ℕ) → more s ≡ false → (less s ≡ false) × (layer s ≡ file.member.layer s)) → Shows file.member.ties layer less image → Shows file.member.ties file.member.layer more image
shows_looser file layer less more image h shows = record { held = shows.held; parts = shows.parts; reads = shows.reads; whole = shows.whole; ties = shows.ties; clean = λ s e. let x = h s e in shows.clean s x.0 ∙ x.1 }

pub keeps_puts : (l : Layer) (first count : ℕ) (a b : Option Trace) → WhereBothTold (KeepsOver l) a b → WhereBothTold (PutsInto l first count) a b
keeps_puts l first count a b keeps = both_map (KeepsOver l) (PutsInto l first count) a b keeps (λ t u x y k. record {
  over = λ file serves. phase_weaken file.number (ShowsFile file) (ShowsFile (loosened (loose_or_named first count file) file)) t u
      (λ image shows. shows_looser file file.member.layer file.is_loose (loose_or_named first count file) image (λ s e. ((or_parts (file.is_loose s) (is_among first count s) e).0, refl)) shows) (k.over file serves);
})

pub puts_more : (l : Layer) (first count a n : ℕ) → IsOutside first count a n → (x y : Option Trace) → WhereBothTold (PutsInto l a n) x y → WhereBothTold (PutsInto l first count) x y
puts_more l first count a n out x y puts = both_map (PutsInto l a n) (PutsInto l first count) x y puts (λ t u e f k. record {
  over = λ file serves. phase_weaken file.number (ShowsFile (loosened (loose_or_named a n file) file)) (ShowsFile (loosened (loose_or_named first count file) file)) t u
      (λ image shows. shows_looser file file.member.layer (loose_or_named a n file) (loose_or_named first count file) image
      (λ s h. let p = or_parts (file.is_loose s) (is_among first count s) h in (or_none (file.is_loose s) (is_among a n s) p.0 (out s p.1), refl)) shows) (k.over file serves);
})

-- two steps, each of some of these sectors
module _ (l mid : Layer) (first count a n b m : ℕ) (one : IsOutside first count a n) (two : IsOutside first count b m) (x y z : Option Trace) where
  pub puts_after : WhereBothTold (PutsInto l first count) x y → WhereBothTold (Moves l mid a n) x y → WhereBothTold (PutsInto mid b m) y z → WhereBothTold (PutsInto l first count) x z
  puts_after puts moves rest =
      both_then (λ t u. PutsInto l first count t u × Moves l mid a n t u) (PutsInto mid b m) (PutsInto l first count) x y z (both_and (PutsInto l first count) (Moves l mid a n) x y puts moves) rest
      (λ t u v e f k r. record {
        over = λ file serves.
            let step = k.1 file serves in
            let next : Placed = placed_with step.0 (loose_or_named a n file) file in
            phases_join file.number (ShowsFile (loosened (loose_or_named first count file) file)) t u v (k.0.over file serves)
            (phase_weaken file.number (ShowsFile (loosened (loose_or_named b m next) next)) (ShowsFile (loosened (loose_or_named first count file) file)) u v
            (λ image shows. shows_looser file step.0 (loose_or_named b m next) (loose_or_named first count file) image
            (λ s h. let p = or_parts (file.is_loose s) (is_among first count s) h in
            (or_none (file.is_loose s || is_among a n s) (is_among b m s) (or_none (file.is_loose s) (is_among a n s) p.0 (one s p.1)) (two s p.1), step.1.1 s (one s p.1))) shows)
            (r.over next step.1.0));
      })

  pub rest_after : (new : Layer) → WhereBothTold (Moves l mid a n) x y → WhereBothTold (HoldsRest mid new b m) y z → WhereBothTold (HoldsRest l new first count) x z
  rest_after new moves rest =
      both_then (Moves l mid a n) (HoldsRest mid new b m) (HoldsRest l new first count) x y z moves rest
      (λ t u v e f k r. record {
        holds = λ file serves.
            let step = k file serves in
            let next : Placed = placed_with step.0 (loose_or_named a n file) file in
            let h = r.holds next step.1.0 in
            (h.0, (h.1.0, h.1.1, λ s off. h.1.2 s (two s off) ∙ step.1.1 s (one s off)));
      })

-- a file with another layer and other loose sectors, which are the same
pub same_file : (l : Layer) (t : Trace) (file : Placed) (f g : chain.Layer) (x y : ℕ → Bool) → ((s : ℕ) → f s ≡ g s) → ((s : ℕ) → x s ≡ y s) → Serves l t (placed_with f x file) → Serves l t (placed_with g y file)
same_file l t file f g x y layers loose s = subst (λ (z : ℕ → Bool). Serves l t (placed_with g z file)) (λ i n. loose n i) (subst (λ (z : chain.Layer). Serves l t (placed_with z x file)) (λ i n. layers n i) s)

or_twice : (x y : Bool) → ((x || y) || y) ≡ (x || y)
or_twice true y = refl
or_twice false true = refl
or_twice false false = refl

pub or_assoc : (x y z : Bool) → ((x || y) || z) ≡ (x || (y || z))
or_assoc true y z = refl
or_assoc false y z = refl

-- the block is ready, and all its sectors are put
pub put_made : (l mid new : Layer) (first len : ℕ) (f : chain.Layer → chain.Layer) → ((one other : chain.Layer) → ((s : ℕ) → is_among first len s ≡ false → one s ≡ other s) → (s : ℕ) → f one s ≡ f other s) → (x y z : Option Trace)
    → WhereBothTold (Moves l mid first len) x y → WhereBothTold (HasPut mid new first len f) y z → WhereBothTold (HasPut l new first len f) x z
put_made l mid new first len f all x y z moves put =
    both_then (Moves l mid first len) (HasPut mid new first len f) (HasPut l new first len f) x y z moves put
    (λ t u v e g k r. record {
      serves = λ file serves.
          let step = k file serves in
          let next : Placed = placed_with step.0 (loose_or_named first len file) file in
          same_file new v file (f step.0) (f file.member.layer) (loose_or_named first len next) (loose_or_named first len file) (all step.0 file.member.layer step.1.1) (λ s. or_twice (file.is_loose s) (is_among first len s)) (r.serves next step.1.0);
    })

-- some of the sectors are put, and then the rest
pub put_join : (l mid new : Layer) (first len count : ℕ) → len ≤ count → (f g h : chain.Layer → chain.Layer) → ((layer : chain.Layer) (s : ℕ) → g (f layer) s ≡ h layer s) → (x y z : Option Trace)
    → WhereBothTold (HasPut l mid first len f) x y → WhereBothTold (HasPut mid new (first + len) (count - len) g) y z → WhereBothTold (HasPut l new first count h) x z
put_join l mid new first len count fits f g h same x y z one two =
    both_then (HasPut l mid first len f) (HasPut mid new (first + len) (count - len) g) (HasPut l new first count h) x y z one two
    (λ t u v e d k r. record {
      serves = λ file serves.
          let next : Placed = placed_with (f file.member.layer) (loose_or_named first len file) file in
          same_file new v file (g (f file.member.layer)) (h file.member.layer) (loose_or_named (first + len) (count - len) next) (loose_or_named first count file) (same file.member.layer)
          (λ s. or_assoc (file.is_loose s) (is_among first len s) (is_among (first + len) (count - len) s) ∙ ap (λ b. file.is_loose s || b) (sym (among_split first len count s fits))) (r.serves next (k.serves file serves));
    })

-- no sector is put
pub put_none : (l : Layer) (first count : ℕ) (h : chain.Layer → chain.Layer) → count ≡ 0 → ((layer : chain.Layer) (s : ℕ) → h layer s ≡ layer s) → (x : Option Trace) → WhereBothTold (HasPut l l first count h) x x
put_none l first count h none same None = tt
put_none l first count h none same (Some t) = record {
  serves = λ file serves. same_file l t file file.member.layer (h file.member.layer) file.is_loose (loose_or_named first count file) (λ s. sym (same file.member.layer s)) (λ s. sym (or_false (file.is_loose s) (is_among first count s) (nobody s))) serves;
}
  where
    nobody : (s : ℕ) → is_among first count s ≡ false
    nobody s = not_true _ (λ n. let v = within first count s n in let a = v.0 in let b = v.1 in omega (arith, a, b, none))

    or_false : (a b : Bool) → b ≡ false → (a || b) ≡ a
    or_false true b e = refl
    or_false false b e = e

-- a change fails behind a step that counted nothing
pub fails_from : (file : ℕ) (old behind new : Disk) (fault : LayerFault) (cause : StoreFault) → fault ≡ Write cause → behind ≡ record old { told = behind.told } → Fails file behind new fault → Fails file old new fault
fails_from file old behind new fault cause is counts h = subst (λ (x : LayerFault). Fails file old new x) (sym is) (change (subst (λ (x : LayerFault). Fails file behind new x) is h))
  where
    change : FailsToChange file behind new cause → FailsToChange file old new cause
    change f = record {
      stays = f.stays ∙ ap (λ (d : Disk). (let x : Disk = record d { told = new.told; failed_changes = new.failed_changes } in x)) counts;
      of_file = f.of_file;
      count = subst (λ (d : Disk). RoseAt file cause.count d.failed_changes new.failed_changes) counts f.count;
    }

-- a step fails behind others
pub broken_after : (l mid left : Layer) (first count a n b m : ℕ) → IsOutside first count a n → IsOutside first count b m → (old then_ new : Disk) (fault : LayerFault) → mid.tables.parts ≡ l.tables.parts → (mid.log.number ≡ l.log.number) × (mid.log.header ≡ l.log.header)
    → then_ ≡ record old { told = then_.told } → WhereBothTold (Moves l mid a n) old.told then_.told → IsBroken mid left b m then_ new fault → IsBroken l left first count old new fault
broken_after l mid left first count a n b m one two old behind new fault parts same counts moves br = record {
  cause = br.cause;
  written = br.written;
  fails = (fails_from l.tables.parts.file old behind new fault br.cause br.written counts (subst (λ (q : TableParts). Fails q.file behind new fault) parts br.fails));
  readable = br.readable;
  holds = rest_after l mid first count a n b m one two old.told behind.told new.told left moves br.holds;
  parts = br.parts ∙ parts;
  number = br.number ∙ same.0;
  header = br.header ∙ same.1;
}
