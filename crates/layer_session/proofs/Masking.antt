-- Sectors that a test names are put, one step behind another.
use Rattle.std.proofs.Common.{◌≡◌, ◌≢◌, ℕ, ◌+◌, ◌-◌, ◌*◌, ◌<◌, ◌≤◌, ◌==◌, ◌&&◌, ◌||◌, Bool, true, false, List, length, take, drop, Option, Some, refl, sym, ap, subst, ◌∙◌, arith, eq-eqb, if◌then◌else◌}
use Rattle.std.proofs.lemmas.Bool.{and_parts, eqb-true, or_parts}
use Rattle.std.specs.Prelude.{Err, IfErr, Ok, Result}
use Rattle.vx_base.specs.Fields.{bytes_at}
use Rattle.vhdx_format.specs.SectorBitmaps.{bit_of, bit_value}
use Rattle.store_model.specs.Disk.{Disk, WhereBothTold}
use Rattle.store_model.specs.Trace.{Trace}
use Rattle.table_pages.specs.declared.tables.TableParts.{TableParts}
use Rattle.chain_model.specs.Images.{Placed}
use Rattle.chain_model.specs.Layers as chain
use Rattle.chain_model.specs.PhaseLaws.{loosened}
use Rattle.chain_model.specs.Sessions.{ShowsFile}
use Rattle.layer_session.specs.declared.file.Layer.{Layer}
use Rattle.layer_session.specs.declared.file.LayerFault.{LayerFault}
use Rattle.layer_session.specs.declared.file.LayerFault.TheVariants.{FileFull, Read, Write}
use Rattle.layer_session.specs.Calls.{Fails, HasKept, HasPut, HoldsRest, KeepsOver, OnBroken, PutsInto, is_among, placed_with, with_bytes}
use Rattle.layer_session.specs.Keeping.{IsReadable, IsReady, Serves}
use Rattle.layer_session.specs.Masked.{HasPutNamed, HoldsUnnamed, IsBrokenNamed, IsDoneNamed, PutsNamed, all_or_none, is_masked, loose_or, with_masked}
use Rattle.layer_session.specs.Steps.{Begins}
use Rattle.layer_session.specs.Taking.{IsBroken, IsDone}
use Rattle.layer_session.proofs.Alike.{not_true}
use Rattle.layer_session.proofs.Beside.{among}
use Rattle.layer_session.proofs.Ending.{phase_weaken, phases_join}
use Rattle.layer_session.proofs.Joining.{among_split, or_none, put_none, same_file, shows_looser, fails_from, or_assoc}
use Rattle.layer_session.proofs.Parting.{none_among}
use Rattle.layer_session.proofs.Payload.{within}
use Rattle.layer_session.proofs.Told.{both_and, both_map, both_self, both_then}
use Rattle.layer_session.proofs.Zeroing.{bytes_join, bytes_nobody, bytes_off, nobody as nobody_among}

-- ---- which sectors a mask names

or_law : (x y b c : Bool) → (y ≡ true → c ≡ b) → ((x || y) && b) ≡ ((x && b) || (y && c))
or_law true true true c f = refl
or_law true true false c f = let e : c ≡ false = f refl in rw e refl
or_law true false true c f = refl
or_law true false false c f = refl
or_law false true b c f = sym (f refl)
or_law false false b c f = refl

-- those among the first so many, and those among the rest
pub masked_split : (first len count at : ℕ) (mask : List ℕ) (s : ℕ) → len ≤ count → is_masked first count at mask s ≡ (is_masked first len at mask s || is_masked (first + len) (count - len) (at + len) mask s)
masked_split first len count at mask s fits =
    ap (λ x. x && (bit_of mask (at + (s - first)) == 1)) (among_split first len count s fits)
    ∙ or_law (is_among first len s) (is_among (first + len) (count - len) s) (bit_of mask (at + (s - first)) == 1) (bit_of mask (at + len + (s - (first + len))) == 1)
    (λ h. let v = within (first + len) (count - len) s h in let from = v.0 in ap (λ k. bit_of mask k == 1) (let e : at + len + (s - (first + len)) ≡ at + (s - first) = omega (arith, from) in e))

-- where all bits are set, and where none is
pub masked_all : (first len at : ℕ) (mask : List ℕ) → ((i : ℕ) → at ≤ i → i < at + len → bit_of mask i ≡ 1) → (s : ℕ) → is_masked first len at mask s ≡ is_among first len s
masked_all first len at mask set s = by_name (is_among first len s) (λ h. let v = within first len s h in let from = v.0 in let to = v.1 in eq-eqb (bit_of mask (at + (s - first))) 1 (set (at + (s - first)) (omega arith) (omega (arith, from, to))))
  where
    by_name : (x : Bool) → (x ≡ true → (bit_of mask (at + (s - first)) == 1) ≡ true) → (x && (bit_of mask (at + (s - first)) == 1)) ≡ x
    by_name true f = f refl
    by_name false f = refl

pub masked_none : (first len at : ℕ) (mask : List ℕ) → ((i : ℕ) → at ≤ i → i < at + len → bit_of mask i ≡ 0) → (s : ℕ) → is_masked first len at mask s ≡ false
masked_none first len at mask clear s = by_name (is_among first len s) (λ h. let v = within first len s h in let from = v.0 in let to = v.1 in ap (λ b. b == 1) (clear (at + (s - first)) (omega arith) (omega (arith, from, to))))
  where
    by_name : (x : Bool) → (x ≡ true → (bit_of mask (at + (s - first)) == 1) ≡ false) → (x && (bit_of mask (at + (s - first)) == 1)) ≡ false
    by_name true f = f refl
    by_name false f = refl

-- where all bits are alike
pub masked_alike : (first len at : ℕ) (mask : List ℕ) (set : Bool) → ((i : ℕ) → at ≤ i → i < at + len → bit_of mask i ≡ bit_value set) → (s : ℕ) → is_masked first len at mask s ≡ is_among first (all_or_none set len) s
masked_alike first len at mask true same s = masked_all first len at mask same s
masked_alike first len at mask false same s = masked_none first len at mask same s ∙ sym (nobody_among first 0 s refl)

-- none of no sectors
pub masked_nobody : (first count at : ℕ) (mask : List ℕ) → count ≡ 0 → (s : ℕ) → is_masked first count at mask s ≡ false
masked_nobody first count at mask none s = masked_none first count at mask (λ i from to. absurd (omega (arith, from, to, none))) s

-- ---- what is put by a mask

masked_as : (z first count at : ℕ) (mask bytes : List ℕ) (layer : chain.Layer) (s : ℕ) → with_masked z first count at mask bytes layer s ≡ (if is_masked first count at mask s then with_bytes z first count bytes layer s else layer s)
masked_as z first count at mask bytes layer s = by_name (is_among first count s) (bit_of mask (at + (s - first)) == 1)
  where
    by_name : (x b : Bool) → (if (x && b) then Some (bytes_at bytes (z * (s - first)) z) else layer s) ≡ (if (x && b) then (if x then Some (bytes_at bytes (z * (s - first)) z) else layer s) else layer s)
    by_name true true = refl
    by_name true false = refl
    by_name false b = refl

masked_among : (first count at : ℕ) (mask : List ℕ) (s : ℕ) → is_masked first count at mask s ≡ true → is_among first count s ≡ true
masked_among first count at mask s h = (and_parts (is_among first count s) (bit_of mask (at + (s - first)) == 1) h).0

-- layers that have the same sectors
as_layer : (a b : chain.Layer) → ((s : ℕ) → a s ≡ b s) → a ≡ b
as_layer a b h = λ i s. h s i

-- a sector isn't among the first ones and the rest
apart : (first len count s : ℕ) → is_among first len s ≡ true → is_among (first + len) (count - len) s ≡ false
apart first len count s h = not_true _ (λ k. let v = within first len s h in let w = within (first + len) (count - len) s k in let to = v.1 in let from = w.0 in omega (arith, to, from))

module _ (z first len count at : ℕ) (fits : len ≤ count) (mask bytes front back : List ℕ) (whole : length bytes ≡ z * count) (front_is : front ≡ take (z * len) bytes) (back_is : back ≡ drop (z * len) bytes) (layer : chain.Layer) (s : ℕ) where
  joined : with_bytes z (first + len) (count - len) back (with_bytes z first len front layer) s ≡ with_bytes z first count bytes layer s
  joined = bytes_join z first len count fits bytes front back whole front_is back_is layer s

  -- the first so many are put, and of the rest those that are named
  masked_join : ((i : ℕ) → at ≤ i → i < at + len → bit_of mask i ≡ 1) → with_masked z (first + len) (count - len) (at + len) mask back (with_bytes z first len front layer) s ≡ with_masked z first count at mask bytes layer s
  masked_join set =
      masked_as z (first + len) (count - len) (at + len) mask back (with_bytes z first len front layer) s
      ∙ by_tests (is_masked (first + len) (count - len) (at + len) mask s) (is_among first len s) refl
      ∙ ap (λ b. if b then with_bytes z first count bytes layer s else layer s) (ap (λ x. x || is_masked (first + len) (count - len) (at + len) mask s) (sym (masked_all first len at mask set s)) ∙ sym (masked_split first len count at mask s fits))
      ∙ sym (masked_as z first count at mask bytes layer s)
    where
      by_tests : (m x : Bool) → is_among first len s ≡ x → (if m then with_bytes z (first + len) (count - len) back (with_bytes z first len front layer) s else with_bytes z first len front layer s) ≡ (if (x || m) then with_bytes z first count bytes layer s else layer s)
      by_tests true true e = joined
      by_tests true false e = joined
      by_tests false true e = sym (bytes_off z (first + len) (count - len) back (with_bytes z first len front layer) s (apart first len count s e)) ∙ joined
      by_tests false false e = bytes_off z first len front layer s e

  -- of the first so many none is named
  masked_skip : ((i : ℕ) → at ≤ i → i < at + len → bit_of mask i ≡ 0) → with_masked z (first + len) (count - len) (at + len) mask back layer s ≡ with_masked z first count at mask bytes layer s
  masked_skip clear =
      masked_as z (first + len) (count - len) (at + len) mask back layer s
      ∙ by_test (is_masked (first + len) (count - len) (at + len) mask s) (masked_among (first + len) (count - len) (at + len) mask s)
      ∙ ap (λ b. if b then with_bytes z first count bytes layer s else layer s) (ap (λ x. x || is_masked (first + len) (count - len) (at + len) mask s) (sym (masked_none first len at mask clear s)) ∙ sym (masked_split first len count at mask s fits))
      ∙ sym (masked_as z first count at mask bytes layer s)
    where
      any : is_among (first + len) (count - len) s ≡ true → with_bytes z (first + len) (count - len) back layer s ≡ with_bytes z (first + len) (count - len) back (with_bytes z first len front layer) s
      any h = let a : with_bytes z (first + len) (count - len) back layer s ≡ Some (bytes_at back (z * (s - (first + len))) z) = rw h refl in
          let b : with_bytes z (first + len) (count - len) back (with_bytes z first len front layer) s ≡ Some (bytes_at back (z * (s - (first + len))) z) = rw h refl in
          a ∙ sym b

      by_test : (m : Bool) → (m ≡ true → is_among (first + len) (count - len) s ≡ true) → (if m then with_bytes z (first + len) (count - len) back layer s else layer s) ≡ (if (false || m) then with_bytes z first count bytes layer s else layer s)
      by_test true f = any (f refl) ∙ joined
      by_test false f = refl

  -- of the first so many all are put or none, as they are named
  pub masked_next : (set : Bool) → ((i : ℕ) → at ≤ i → i < at + len → bit_of mask i ≡ bit_value set)
      → with_masked z (first + len) (count - len) (at + len) mask back (with_bytes z first (all_or_none set len) front layer) s ≡ with_masked z first count at mask bytes layer s
  masked_next true same = masked_join same
  masked_next false same = ap (λ (kept : chain.Layer). with_masked z (first + len) (count - len) (at + len) mask back kept s) (as_layer (with_bytes z first 0 front layer) layer (λ r. bytes_off z first 0 front layer r (nobody_among first 0 r refl))) ∙ masked_skip same

-- no sector is named
pub masked_kept : (z first count at : ℕ) (mask bytes : List ℕ) (layer : chain.Layer) (s : ℕ) → count ≡ 0 → with_masked z first count at mask bytes layer s ≡ layer s
masked_kept z first count at mask bytes layer s none = let e = masked_nobody first count at mask none s in masked_as z first count at mask bytes layer s ∙ (let k : (if is_masked first count at mask s then with_bytes z first count bytes layer s else layer s) ≡ layer s = rw e refl in k)

-- ---- ranges as tests

pub range_puts : (l : Layer) (first count : ℕ) (a b : Option Trace) → WhereBothTold (PutsInto l first count) a b → WhereBothTold (PutsNamed l (is_among first count)) a b
range_puts l first count a b h = both_map (PutsInto l first count) (PutsNamed l (is_among first count)) a b h (λ t u x y k. record { over = k.over })

pub range_put : (l new : Layer) (first count : ℕ) (f : chain.Layer → chain.Layer) (a b : Option Trace) → WhereBothTold (HasPut l new first count f) a b → WhereBothTold (HasPutNamed l new (is_among first count) f) a b
range_put l new first count f a b h = both_map (HasPut l new first count f) (HasPutNamed l new (is_among first count) f) a b h (λ t u x y k. record { serves = k.serves })

pub range_rest : (l new : Layer) (first count : ℕ) (a b : Option Trace) → WhereBothTold (HoldsRest l new first count) a b → WhereBothTold (HoldsUnnamed l new (is_among first count)) a b
range_rest l new first count a b h = both_map (HoldsRest l new first count) (HoldsUnnamed l new (is_among first count)) a b h (λ t u x y k. record { holds = k.holds })

-- ---- moments

pub keeps_named : (l : Layer) (n : ℕ → Bool) (a b : Option Trace) → WhereBothTold (KeepsOver l) a b → WhereBothTold (PutsNamed l n) a b
keeps_named l n a b keeps = both_map (KeepsOver l) (PutsNamed l n) a b keeps (λ t u x y k. record {
  over = λ file serves. phase_weaken file.number (ShowsFile file) (ShowsFile (loosened (loose_or n file) file)) t u
      (λ image shows. shows_looser file file.member.layer file.is_loose (loose_or n file) image (λ s e. ((or_parts (file.is_loose s) (n s) e).0, refl)) shows) (k.over file serves);
})

-- fewer sectors are named
pub named_more : (l : Layer) (n m : ℕ → Bool) → ((s : ℕ) → n s ≡ false → m s ≡ false) → (a b : Option Trace) → WhereBothTold (PutsNamed l m) a b → WhereBothTold (PutsNamed l n) a b
named_more l n m out a b puts = both_map (PutsNamed l m) (PutsNamed l n) a b puts (λ t u x y k. record {
  over = λ file serves. phase_weaken file.number (ShowsFile (loosened (loose_or m file) file)) (ShowsFile (loosened (loose_or n file) file)) t u
      (λ image shows. shows_looser file file.member.layer (loose_or m file) (loose_or n file) image
      (λ s h. let p = or_parts (file.is_loose s) (n s) h in (or_none (file.is_loose s) (m s) p.0 (out s p.1), refl)) shows) (k.over file serves);
})

-- ---- one step behind another

module _ (l mid : Layer) (n m all : ℕ → Bool) (both : (s : ℕ) → all s ≡ (n s || m s)) (f : chain.Layer → chain.Layer) (agree : (layer : chain.Layer) (s : ℕ) → n s ≡ false → f layer s ≡ layer s) (x y z : Option Trace) (one : WhereBothTold (HasPutNamed l mid n f) x y) where
  neither : (s : ℕ) → all s ≡ false → (n s ≡ false) × (m s ≡ false)
  neither s h = or_parts (n s) (m s) (sym (both s) ∙ h)

  pub named_then : WhereBothTold (PutsNamed l n) x y → WhereBothTold (PutsNamed mid m) y z → WhereBothTold (PutsNamed l all) x z
  named_then puts rest =
      both_then (λ t u. PutsNamed l n t u × HasPutNamed l mid n f t u) (PutsNamed mid m) (PutsNamed l all) x y z (both_and (PutsNamed l n) (HasPutNamed l mid n f) x y puts one) rest
      (λ t u v e g k r. record {
        over = λ file serves.
            let next : Placed = placed_with (f file.member.layer) (loose_or n file) file in
            phases_join file.number (ShowsFile (loosened (loose_or all file) file)) t u v
            (phase_weaken file.number (ShowsFile (loosened (loose_or n file) file)) (ShowsFile (loosened (loose_or all file) file)) t u
            (λ image shows. shows_looser file file.member.layer (loose_or n file) (loose_or all file) image
            (λ s h. let p = or_parts (file.is_loose s) (all s) h in (or_none (file.is_loose s) (n s) p.0 (neither s p.1).0, refl)) shows) (k.0.over file serves))
            (phase_weaken file.number (ShowsFile (loosened (loose_or m next) next)) (ShowsFile (loosened (loose_or all file) file)) u v
            (λ image shows. shows_looser file (f file.member.layer) (loose_or m next) (loose_or all file) image
            (λ s h. let p = or_parts (file.is_loose s) (all s) h in
            (or_none (file.is_loose s || n s) (m s) (or_none (file.is_loose s) (n s) p.0 (neither s p.1).0) (neither s p.1).1, agree file.member.layer s (neither s p.1).0)) shows)
            (r.over next (k.1.serves file serves)));
      })

  pub put_then : (new : Layer) (g h : chain.Layer → chain.Layer) → ((layer : chain.Layer) (s : ℕ) → g (f layer) s ≡ h layer s) → WhereBothTold (HasPutNamed mid new m g) y z → WhereBothTold (HasPutNamed l new all h) x z
  put_then new g h same two =
      both_then (HasPutNamed l mid n f) (HasPutNamed mid new m g) (HasPutNamed l new all h) x y z one two
      (λ t u v e d k r. record {
        serves = λ file serves.
            let next : Placed = placed_with (f file.member.layer) (loose_or n file) file in
            same_file new v file (g (f file.member.layer)) (h file.member.layer) (loose_or m next) (loose_or all file) (same file.member.layer)
            (λ s. or_assoc (file.is_loose s) (n s) (m s) ∙ ap (λ b. file.is_loose s || b) (sym (both s))) (r.serves next (k.serves file serves));
      })

  pub rest_then : (left : Layer) → WhereBothTold (HoldsUnnamed mid left m) y z → WhereBothTold (HoldsUnnamed l left all) x z
  rest_then left holds =
      both_then (HasPutNamed l mid n f) (HoldsUnnamed mid left m) (HoldsUnnamed l left all) x y z one holds
      (λ t u v e g k r. record {
        holds = λ file serves.
            let next : Placed = placed_with (f file.member.layer) (loose_or n file) file in
            let h = r.holds next (k.serves file serves) in
            (h.0, (h.1.0, h.1.1, λ s off. h.1.2 s (neither s off).1 ∙ agree file.member.layer s (neither s off).0));
      })

-- ---- nothing is put

pub nothing_named : (l : Layer) (n : ℕ → Bool) (h : chain.Layer → chain.Layer) → ((s : ℕ) → n s ≡ false) → ((layer : chain.Layer) (s : ℕ) → h layer s ≡ layer s) → (x : Option Trace) → WhereBothTold (HasPutNamed l l n h) x x
nothing_named l n h none same x = both_self (HasPutNamed l l n h) x (λ t told. record {
  serves = λ file serves. same_file l t file file.member.layer (h file.member.layer) file.is_loose (loose_or n file) (λ s. sym (same file.member.layer s)) (λ s. sym (or_false (file.is_loose s) (n s) (none s))) serves;
})
  where
    or_false : (a b : Bool) → b ≡ false → (a || b) ≡ a
    or_false true b e = refl
    or_false false b e = e

-- ---- the steps of a call

-- all of a range were put or none, as they are named, and then the named ones of the rest
module _ (l mid : Layer) (first len count at : ℕ) (fits : len ≤ count) (mask bytes front back : List ℕ) (set : Bool) (same : (i : ℕ) → at ≤ i → i < at + len → bit_of mask i ≡ bit_value set)
    (whole : length bytes ≡ l.tables.parts.sector * count) (front_is : front ≡ take (l.tables.parts.sector * len) bytes) (back_is : back ≡ drop (l.tables.parts.sector * len) bytes)
    (old behind : Disk) (one : IsDone l mid first (all_or_none set len) (with_bytes l.tables.parts.sector first (all_or_none set len) front) old behind) where
  abbrev z : ℕ
  z = l.tables.parts.sector

  abbrev n : ℕ
  n = all_or_none set len

  abbrev rest : ℕ → Bool
  rest = is_masked (first + len) (count - len) (at + len) mask

  abbrev all : ℕ → Bool
  all = is_masked first count at mask

  both : (s : ℕ) → all s ≡ (is_among first n s || rest s)
  both s = masked_split first len count at mask s fits ∙ ap (λ x. x || rest s) (masked_alike first len at mask set same s)

  agree : (layer : chain.Layer) (s : ℕ) → is_among first n s ≡ false → with_bytes z first n front layer s ≡ layer s
  agree layer s off = bytes_off z first n front layer s off

  put_one : WhereBothTold (HasPutNamed l mid (is_among first n) (with_bytes z first n front)) old.told behind.told
  put_one = range_put l mid first n (with_bytes z first n front) old.told behind.told one.put

  pub spots_moments : (new : Disk) → WhereBothTold (PutsInto l first n) old.told behind.told → WhereBothTold (PutsNamed mid rest) behind.told new.told → WhereBothTold (PutsNamed l all) old.told new.told
  spots_moments new puts more = named_then l mid (is_among first n) rest all both (with_bytes z first n front) agree old.told behind.told new.told put_one (range_puts l first n old.told behind.told puts) more

  pub spots_done : (new : Layer) (end : Disk) → IsDoneNamed mid new rest (with_masked mid.tables.parts.sector (first + len) (count - len) (at + len) mask back) behind end → IsDoneNamed l new all (with_masked z first count at mask bytes) old end
  spots_done new end two = record {
    put = put_then l mid (is_among first n) rest all both (with_bytes z first n front) agree old.told behind.told end.told put_one new (with_masked mid.tables.parts.sector (first + len) (count - len) (at + len) mask back) (with_masked z first count at mask bytes)
        (λ layer s. ap (λ k. with_masked k (first + len) (count - len) (at + len) mask back (with_bytes z first n front layer) s) (ap (λ (p : TableParts). p.sector) one.parts) ∙ masked_next z first len count at fits mask bytes front back whole front_is back_is layer s set same) two.put;
    ready = two.ready;
    counts = two.counts ∙ ap (λ (d : Disk). (let x : Disk = record d { told = end.told } in x)) one.counts;
    parts = two.parts ∙ one.parts;
    number = two.number ∙ one.number;
    header = two.header ∙ one.header;
  }

  pub spots_broken : (left : Layer) (end : Disk) (fault : LayerFault) → IsBrokenNamed mid left rest behind end fault → IsBrokenNamed l left all old end fault
  spots_broken left end fault br = record {
    cause = br.cause;
    written = br.written;
    fails = fails_from l.tables.parts.file old behind end fault br.cause br.written one.counts (subst (λ (q : TableParts). Fails q.file behind end fault) one.parts br.fails);
    readable = br.readable;
    holds = rest_then l mid (is_among first n) rest all both (with_bytes z first n front) agree old.told behind.told end.told put_one left br.holds;
    parts = br.parts ∙ one.parts;
    number = br.number ∙ one.number;
    header = br.header ∙ one.header;
  }

-- a range fails, all or none of which are named
pub range_broken : (l left : Layer) (first len count at : ℕ) (mask : List ℕ) (set : Bool) → len ≤ count → ((i : ℕ) → at ≤ i → i < at + len → bit_of mask i ≡ bit_value set) → (old new : Disk) (fault : LayerFault) → IsBroken l left first (all_or_none set len) old new fault
    → IsBrokenNamed l left (is_masked first count at mask) old new fault
range_broken l left first len count at mask set fits same old new fault b = record {
  cause = b.cause;
  written = b.written;
  fails = b.fails;
  readable = b.readable;
  holds = both_map (HoldsRest l left first (all_or_none set len)) (HoldsUnnamed l left (is_masked first count at mask)) old.told new.told b.holds (λ t u x y k. record {
    holds = λ file serves. let h = k.holds file serves in (h.0, (h.1.0, h.1.1, λ s off. h.1.2 s (outside s off)));
  });
  parts = b.parts;
  number = b.number;
  header = b.header;
}
  where
    outside : (s : ℕ) → is_masked first count at mask s ≡ false → is_among first (all_or_none set len) s ≡ false
    outside s off = (or_parts (is_among first (all_or_none set len) s) (is_masked (first + len) (count - len) (at + len) mask s) (ap (λ x. x || is_masked (first + len) (count - len) (at + len) mask s) (sym (masked_alike first len at mask set same s)) ∙ sym (masked_split first len count at mask s fits) ∙ off)).0

pub range_named : (l : Layer) (first len count at : ℕ) (mask : List ℕ) (set : Bool) → len ≤ count → ((i : ℕ) → at ≤ i → i < at + len → bit_of mask i ≡ bit_value set) → (x y : Option Trace) → WhereBothTold (PutsInto l first (all_or_none set len)) x y → WhereBothTold (PutsNamed l (is_masked first count at mask)) x y
range_named l first len count at mask set fits same x y puts =
    named_more l (is_masked first count at mask) (is_among first (all_or_none set len))
    (λ s off. (or_parts (is_among first (all_or_none set len) s) (is_masked (first + len) (count - len) (at + len) mask s) (ap (λ b. b || is_masked (first + len) (count - len) (at + len) mask s) (sym (masked_alike first len at mask set same s)) ∙ sym (masked_split first len count at mask s fits) ∙ off)).0)
    x y (range_puts l first (all_or_none set len) x y puts)

-- none of a range are named
pub none_done : (l : Layer) (first count : ℕ) (set : Bool) (bytes : List ℕ) (disk : Disk) → set ≡ false → IsReady l disk → IsDone l l first (all_or_none set count) (with_bytes l.tables.parts.sector first (all_or_none set count) bytes) disk disk
none_done l first count set bytes disk off ready =
    let none : all_or_none set count ≡ 0 = ap (λ b. all_or_none b count) off in
    record { put = put_none l first (all_or_none set count) (with_bytes l.tables.parts.sector first (all_or_none set count) bytes) none (bytes_nobody l.tables.parts.sector first (all_or_none set count) none bytes) disk.told; ready = ready; counts = refl; parts = refl; number = refl; header = refl }

-- or all of them
pub all_named : (set : Bool) (count : ℕ) → set ≡ true → count ≡ all_or_none set count
all_named set count on = sym (ap (λ b. all_or_none b count) on)

-- ---- the call

-- the mask names none
pub none_masked : (first count : ℕ) (mask : List ℕ) → ((i : ℕ) → i < count → bit_of mask i ≢ 1) → (s : ℕ) → is_masked first count 0 mask s ≡ false
none_masked first count mask none s = not_true _ (λ h.
    let p = and_parts (is_among first count s) (bit_of mask (0 + (s - first)) == 1) h in
    let v = within first count s p.0 in
    let from = v.0 in
    let to = v.1 in
    none (0 + (s - first)) (omega (arith, from, to)) (eqb-true (bit_of mask (0 + (s - first))) 1 p.1))

-- or it names some
pub some_masked : (first count : ℕ) (mask : List ℕ) (i : ℕ) → i < count → bit_of mask i ≡ 1 → is_masked first count 0 mask (first + i) ≡ true
some_masked first count mask i below set =
    let a : is_among first count (first + i) ≡ true = among first count (first + i) (omega arith) (omega (arith, below)) in
    let b : (bit_of mask (0 + (first + i - first)) == 1) ≡ true = eq-eqb (bit_of mask (0 + (first + i - first))) 1 (ap (bit_of mask) (let e : 0 + (first + i - first) ≡ i = omega arith in e) ∙ set) in
    rw (a, b) refl

-- nothing is put where it names none
pub masked_off : (z first count : ℕ) (mask bytes : List ℕ) → ((i : ℕ) → i < count → bit_of mask i ≢ 1) → (layer : chain.Layer) (s : ℕ) → with_masked z first count 0 mask bytes layer s ≡ layer s
masked_off z first count mask bytes none layer s = let e = none_masked first count mask none s in rw e refl

-- outside no sector all is as it was
rest_named : (l left : Layer) (all : ℕ → Bool) (a b : Option Trace) → WhereBothTold (HoldsRest l left 0 0) a b → WhereBothTold (HoldsUnnamed l left all) a b
rest_named l left all a b h = both_map (HoldsRest l left 0 0) (HoldsUnnamed l left all) a b h (λ t u x y k. record { holds = λ file serves. let h = k.holds file serves in (h.0, (h.1.0, h.1.1, λ s off. h.1.2 s (none_among s))) })

abbrev nobody : ℕ → Bool
nobody s = false

abbrev unchanged : chain.Layer → chain.Layer
unchanged layer = layer

as_put : (l new : Layer) (R : Trace → Trace → Type 0) → ((t u : Trace) → R t u → (file : Placed) → Serves l t file → Serves new u file) → (a b : Option Trace) → WhereBothTold R a b → WhereBothTold (HasPutNamed l new nobody unchanged) a b
as_put l new R serves a b told = both_map R (HasPutNamed l new nobody unchanged) a b told (λ t u x y k. record {
  serves = λ file s. same_file new u file file.member.layer file.member.layer file.is_loose (loose_or nobody file) (λ i. refl) (λ i. sym (or_false (file.is_loose i))) (serves t u k file s);
})
  where
    or_false : (x : Bool) → (x || false) ≡ x
    or_false true = refl
    or_false false = refl

abbrev IsSameOff : (ℕ → Bool) → (chain.Layer → chain.Layer) → Type 0
IsSameOff n f = (layer : chain.Layer) (s : ℕ) → n s ≡ false → f layer s ≡ layer s

same_off : IsSameOff nobody unchanged
same_off layer s off = refl

-- a call is prepared
module _ (l mid : Layer) (first count : ℕ) (trims : Bool) (all : ℕ → Bool) (old one : Disk) (begins : WhereBothTold (Begins l mid first count trims) old.told one.told) (keeps : WhereBothTold (KeepsOver l) old.told one.told) where
  first_put : WhereBothTold (HasPutNamed l mid nobody unchanged) old.told one.told
  first_put = as_put l mid (Begins l mid first count trims) (λ t u k. k.serves) old.told one.told begins

  pub ready_moments : (two : Disk) → WhereBothTold (PutsNamed mid all) one.told two.told → WhereBothTold (PutsNamed l all) old.told two.told
  ready_moments two puts = named_then l mid nobody all all (λ s. refl) unchanged same_off old.told one.told two.told first_put (keeps_named l nobody old.told one.told keeps) puts

  pub ready_rest : (left : Layer) (two : Disk) → WhereBothTold (HoldsUnnamed mid left all) one.told two.told → WhereBothTold (HoldsUnnamed l left all) old.told two.told
  ready_rest left two rest = rest_then l mid nobody all all (λ s. refl) unchanged same_off old.told one.told two.told first_put left rest

  -- and its block has a place
  module _ (next : Layer) (two : Disk) (kept : WhereBothTold (HasKept mid next) one.told two.told) (over : WhereBothTold (KeepsOver mid) one.told two.told) where
    then_put : WhereBothTold (HasPutNamed mid next nobody unchanged) one.told two.told
    then_put = as_put mid next (HasKept mid next) (λ t u k. k.serves) one.told two.told kept

    pub all_moments : (end : Disk) → WhereBothTold (PutsNamed next all) two.told end.told → WhereBothTold (PutsNamed l all) old.told end.told
    all_moments end puts = ready_moments end (named_then mid next nobody all all (λ s. refl) unchanged same_off one.told two.told end.told then_put (keeps_named mid nobody one.told two.told over) puts)

    pub all_put : (new : Layer) (end : Disk) (h : chain.Layer → chain.Layer) → WhereBothTold (HasPutNamed next new all h) two.told end.told → WhereBothTold (HasPutNamed l new all h) old.told end.told
    all_put new end h put = put_then l mid nobody all all (λ s. refl) unchanged same_off old.told one.told end.told first_put new h h (λ layer s. refl)
        (put_then mid next nobody all all (λ s. refl) unchanged same_off one.told two.told end.told then_put new h h (λ layer s. refl) put)

    pub all_rest : (left : Layer) (end : Disk) → WhereBothTold (HoldsUnnamed next left all) two.told end.told → WhereBothTold (HoldsUnnamed l left all) old.told end.told
    all_rest left end rest = ready_rest left end (rest_then mid next nobody all all (λ s. refl) unchanged same_off one.told two.told end.told then_put left rest)

    pub all_broken : {T : Type 0} (r : Result T LayerFault) (new : Layer) (end : Disk) → IfErr r (IsBrokenNamed next new all two end) → OnBroken r (IsReadable new end × WhereBothTold (HoldsUnnamed l new all) old.told end.told)
    all_broken (Ok x) new end br = tt
    all_broken (Err (Read f)) new end br = tt
    all_broken (Err (FileFull n)) new end br = tt
    all_broken (Err (Write f)) new end br = (br.readable, all_rest new end br.holds)

  -- no place was found for its block
  pub ready_broken : {T : Type 0} (r : Result T LayerFault) (fault : LayerFault) (left : Layer) (two : Disk) → r ≡ Err fault → IsBroken mid left 0 0 one two fault → OnBroken r (IsReadable left two × WhereBothTold (HoldsUnnamed l left all) old.told two.told)
  ready_broken {T} r fault left two is br = subst (λ x. OnBroken x (IsReadable left two × WhereBothTold (HoldsUnnamed l left all) old.told two.told)) (sym is) (by_fault fault)
    where
      by_fault : (f : LayerFault) → OnBroken {T = T} (Err f) (IsReadable left two × WhereBothTold (HoldsUnnamed l left all) old.told two.told)
      by_fault (Read f) = tt
      by_fault (FileFull n) = tt
      by_fault (Write f) = (br.readable, ready_rest left two (rest_named mid left all one.told two.told br.holds))

-- a call that wasn't prepared
pub early_broken : {T : Type 0} (r : Result T LayerFault) (fault : LayerFault) (l left : Layer) (all : ℕ → Bool) (old end : Disk) → r ≡ Err fault → OnBroken {T = T} (Err fault) (IsReadable left end × WhereBothTold (HoldsRest l left 0 0) old.told end.told)
    → OnBroken r (IsReadable left end × WhereBothTold (HoldsUnnamed l left all) old.told end.told)
early_broken {T} r fault l left all old end is br = subst (λ x. OnBroken x (IsReadable left end × WhereBothTold (HoldsUnnamed l left all) old.told end.told)) (sym is) (by_fault fault br)
  where
    by_fault : (f : LayerFault) → OnBroken {T = T} (Err f) (IsReadable left end × WhereBothTold (HoldsRest l left 0 0) old.told end.told) → OnBroken {T = T} (Err f) (IsReadable left end × WhereBothTold (HoldsUnnamed l left all) old.told end.told)
    by_fault (Read f) x = tt
    by_fault (FileFull n) x = tt
    by_fault (Write f) x = (x.0, rest_named l left all old.told end.told x.1)
