-- A call puts sectors, once it is prepared.
use Rattle.std.proofs.Common.{◌≡◌, ℕ, ◌||◌, Bool, true, false, Option, refl, sym, subst}
use Rattle.std.specs.Prelude.{Result, Ok, Err, IfErr}
use Rattle.store_model.specs.Disk.{Disk, WhereBothTold}
use Rattle.store_model.specs.Trace.{Trace}
use Rattle.chain_model.specs.Layers as chain
use Rattle.layer_session.specs.declared.file.Layer.{Layer}
use Rattle.layer_session.specs.declared.file.LayerFault.{LayerFault}
use Rattle.layer_session.specs.declared.file.LayerFault.TheVariants.{Read, Write, FileFull}
use Rattle.layer_session.specs.Calls.{HasPut, HoldsRest, KeepsOver, OnBroken, PutsInto, is_among, loose_or_named}
use Rattle.layer_session.specs.Keeping.{IsReadable}
use Rattle.layer_session.specs.Steps.{Begins}
use Rattle.layer_session.specs.Taking.{IsBroken}
use Rattle.layer_session.proofs.Joining.{IsOutside, Moves, keeps_puts, puts_after, rest_after, same_file}
use Rattle.layer_session.proofs.Parting.{none_among}
use Rattle.layer_session.proofs.Told.{both_map, both_then}

-- no sector is named
none_outside : (first count : ℕ) → IsOutside first count 0 0
none_outside first count s off = none_among s

all_outside : (first count : ℕ) → IsOutside first count first count
all_outside first count s off = off

module _ (l mid : Layer) (first count : ℕ) (trims : Bool) (a b c : Option Trace) (begins : WhereBothTold (Begins l mid first count trims) a b) where
  moves : WhereBothTold (Moves l mid 0 0) a b
  moves = both_map (Begins l mid first count trims) (Moves l mid 0 0) a b begins
      (λ t u e f h file serves. (file.member.layer, (same_file mid u file file.member.layer file.member.layer file.is_loose (loose_or_named 0 0 file) (λ s. refl) (λ s. sym (or_false (file.is_loose s) (is_among 0 0 s) (none_among s))) (h.serves file serves), λ s off. refl)))
    where
      or_false : (x y : Bool) → y ≡ false → (x || y) ≡ x
      or_false true y h = refl
      or_false false y h = h

  pub call_moments : WhereBothTold (KeepsOver l) a b → WhereBothTold (PutsInto mid first count) b c → WhereBothTold (PutsInto l first count) a c
  call_moments keeps puts = puts_after l mid first count 0 0 first count (none_outside first count) (all_outside first count) a b c (keeps_puts l first count a b keeps) moves puts

  pub call_put : (new : Layer) (h : chain.Layer → chain.Layer) → WhereBothTold (HasPut mid new first count h) b c → WhereBothTold (HasPut l new first count h) a c
  call_put new h put = both_then (Begins l mid first count trims) (HasPut mid new first count h) (HasPut l new first count h) a b c begins put (λ t u v e f k r. record { serves = λ file serves. r.serves file (k.serves file serves) })

  pub call_rest : (new : Layer) → WhereBothTold (HoldsRest mid new first count) b c → WhereBothTold (HoldsRest l new first count) a c
  call_rest new holds = rest_after l mid first count 0 0 first count (none_outside first count) (all_outside first count) a b c new moves holds

-- an answer that tells a failed change
pub broken_call : {T : Type 0} (r : Result T LayerFault) (l mid new : Layer) (first count : ℕ) (trims : Bool) (old behind end : Disk) → WhereBothTold (Begins l mid first count trims) old.told behind.told → IfErr r (IsBroken mid new first count behind end)
    → OnBroken r (IsReadable new end × WhereBothTold (HoldsRest l new first count) old.told end.told)
broken_call (Ok x) l mid new first count trims old behind end begins br = tt
broken_call (Err (Read f)) l mid new first count trims old behind end begins br = tt
broken_call (Err (FileFull n)) l mid new first count trims old behind end begins br = tt
broken_call (Err (Write f)) l mid new first count trims old behind end begins br = (br.readable, call_rest l mid first count trims old.told behind.told end.told begins new br.holds)

pub broken_err : {T : Type 0} (r : Result T LayerFault) (fault : LayerFault) (l new : Layer) (first count : ℕ) (old end : Disk) → r ≡ Err fault → OnBroken {T = T} (Err fault) (IsReadable new end × WhereBothTold (HoldsRest l new 0 0) old.told end.told)
    → OnBroken r (IsReadable new end × WhereBothTold (HoldsRest l new first count) old.told end.told)
broken_err {T} r fault l new first count old end is br = subst (λ x. OnBroken x (IsReadable new end × WhereBothTold (HoldsRest l new first count) old.told end.told)) (sym is) (by_fault fault br)
  where
    by_fault : (f : LayerFault) → OnBroken {T = T} (Err f) (IsReadable new end × WhereBothTold (HoldsRest l new 0 0) old.told end.told) → OnBroken {T = T} (Err f) (IsReadable new end × WhereBothTold (HoldsRest l new first count) old.told end.told)
    by_fault (Read f) x = tt
    by_fault (FileFull n) x = tt
    by_fault (Write f) x = (
      x.0,
      both_map (HoldsRest l new 0 0) (HoldsRest l new first count) old.told end.told x.1 (λ t u y z k. record { holds = λ file serves. let h = k.holds file serves in (h.0, (h.1.0, h.1.1, λ s off. h.1.2 s (none_among s))) }),
    )
