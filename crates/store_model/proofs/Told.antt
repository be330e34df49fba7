-- What is so of what two disks tell, step by step.
use Rattle.std.proofs.Common.{◌≡◌, refl, ap, subst, sym, ◌∙◌}
use Rattle.std.specs.Prelude.{Option, Some, None}
use Rattle.store_model.specs.Disk.{Disk, WhereTold, WhereBothTold}
use Rattle.store_model.specs.Trace.{Trace}

-- two steps are one
pub both_join : {T : Type 0} (R S Q : T → T → Type 0) (old mid new : Option T) → ((a b c : T) → R a b → S b c → Q a c) → WhereBothTold R old mid → WhereBothTold S mid new → WhereBothTold Q old new
both_join R S Q None None None f h k = tt
both_join R S Q None None (Some c) f h k = absurd k
both_join R S Q None (Some b) new f h k = absurd h
both_join R S Q (Some a) None new f h k = absurd h
both_join R S Q (Some a) (Some b) None f h k = absurd k
both_join R S Q (Some a) (Some b) (Some c) f h k = f a b c h k

-- a step says two things
pub both_and : {T : Type 0} (R S : T → T → Type 0) (old new : Option T) → WhereBothTold R old new → WhereBothTold S old new → WhereBothTold (λ a b. R a b × S a b) old new
both_and R S None None h k = tt
both_and R S None (Some b) h k = h
both_and R S (Some a) None h k = h
both_and R S (Some a) (Some b) h k = (h, k)

-- it says what follows
pub both_from : {T : Type 0} (R S : T → T → Type 0) (old new : Option T) → ((a b : T) → R a b → S a b) → WhereBothTold R old new → WhereBothTold S old new
both_from R S None None f h = tt
both_from R S None (Some b) f h = absurd h
both_from R S (Some a) None f h = absurd h
both_from R S (Some a) (Some b) f h = f a b h

-- what is so of what was told before is so of what is told now
pub told_now : (R : Trace → Trace → Type 0) (P Q : Trace → Type 0) (old new : Option Trace) → ((a b : Trace) → R a b → P a → Q b) → WhereBothTold R old new → WhereTold old P
    → WhereTold new Q
told_now R P Q None None f h p t e = let never : None ≡ Some t = e in cc
told_now R P Q None (Some b) f h p t e = absurd h
told_now R P Q (Some a) None f h p t e = absurd h
told_now R P Q (Some a) (Some b) f h p t e = let same : b ≡ t = cc in subst Q same (f a b h (p a refl))

-- nothing but what is told differs
unfoldable pub with_told : Disk → Option Trace → Disk
with_told d t = record d { told = t }

pub counts_join : (old mid new : Disk) → mid ≡ record old { told = mid.told } → new ≡ record mid { told = new.told } → new ≡ record old { told = new.told }
unfolding with_told
counts_join old mid new h k = k ∙ ap (λ (d : Disk). with_told d new.told) h
