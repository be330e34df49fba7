-- No file of a folder is away after a command.
use Rattle.std.proofs.Common.{◌≡◌, ℕ, zero, suc, List, [], ◌∷◌, ◌++◌, Option, Some, inl, inr, refl, sym, subst, ◌∙◌, arith}
use Rattle.std.proofs.lemmas.Option.{same_Some}
use Rattle.command_line.specs.Requests.{File}
use Rattle.command_line.specs.Requests as new
use Rattle.make_file.specs.Makes.{LeavesOthers, held_as}
use Rattle.store_model.specs.Disk.{WhereTold}
use Rattle.store_model.specs.File as stored
use Rattle.store_model.specs.Folder.{Held}
use Rattle.link_rules.specs.Folders.{AllIdle, contents}
use Rattle.link_rules.specs.Touches.{AreSafe, IsOnWay, IsSafeFile, touched, untouched}
use Rattle.named_file.specs.Repairs.{IsTouched, KeepsImages, OnlyRepairs, TouchesOne, touched as was_touched, untouched as was_untouched}
use Rattle.command_base.specs.Checks.{OnlyLooks}
use Rattle.command_base.specs.Folders.{AllHome, OnlyFollows}
use Rattle.command_base.specs.Making.{AddsOnly, LooksAt}

pub home_of_idle : (folder : List Held) → AllIdle folder → AllHome folder
home_of_idle folder idle k d h = let held = idle k d h in (held.0, held.1)

home_safe : (may : List ℕ → Type 0) (folder now : List Held) → AllHome folder → AreSafe may folder now → AllHome now
home_safe may [] [] home h = home
home_safe may [] (later ∷ now) home h = absurd h
home_safe may (held ∷ folder) [] home h = absurd h
home_safe may (held ∷ folder) (later ∷ now) home h = by_place (home_safe may folder now (λ k d w. home (suc k) d (omega (arith, w))) h.1)
  where
    by_held : (later : Held) → IsSafeFile may held later → (file : stored.File) × (later.file ≡ Some file)
    by_held _ untouched = home zero held (omega arith)
    by_held _ (touched before after m had images) = (after, refl)

    by_place : AllHome now → AllHome (later ∷ now)
    by_place rest zero d w = by_held later h.0
    by_place rest (suc k) d w = rest k d (omega (arith, w))

home_more : (folder : List Held) (name : List ℕ) (file : stored.File) → AllHome folder → AllHome (folder ++ held_as name file ∷ [])
home_more [] name file home zero d h = (file, refl)
home_more [] name file home (suc k) d h = absurd (omega (arith, h))
home_more (held ∷ folder) name file home zero d h = home zero d (omega arith)
home_more (held ∷ folder) name file home (suc k) d h = home_more folder name file (λ k d h. home (suc k) d (omega (arith, h))) k d (omega (arith, h))

-- where the folder was told
abbrev pub StaysHome : Option (List Held) → Option (List Held) → Type 0
StaysHome before now = WhereTold before (λ folder. WhereTold now AllHome)

pub home_still : (before now : Option (List Held)) → WhereTold before AllIdle → now ≡ before → StaysHome before now
home_still before now idle same f told g is = subst AllHome (same_Some f g (sym told ∙ sym same ∙ is)) (home_of_idle f (idle f told))

pub home_followed : (leaf : List ℕ) (before now : Option (List Held)) → WhereTold before AllIdle → OnlyFollows leaf before now → StaysHome before now
home_followed leaf before now idle follows f told g is =
    let o = follows f told in
    subst AllHome (same_Some o.0 g (sym o.1 ∙ is)) (home_safe (IsOnWay (contents f) leaf) f o.0 (home_of_idle f (idle f told)) (o.2).safe)

pub home_looked : (name : List ℕ) (before now : Option (List Held)) → WhereTold before AllIdle → OnlyLooks name before now → StaysHome before now
home_looked name before now idle looks f told g is =
    let o = looks f told in
    subst AllHome (same_Some o.0 g (sym o.1 ∙ is)) (home_safe (λ other. other ≡ name) f o.0 (home_of_idle f (idle f told)) (o.2).safe)

home_touched : (P : stored.File → stored.File → Type 0) (name : List ℕ) (folder now : List Held) → AllHome folder → TouchesOne P name folder now → AllHome now
home_touched P name [] [] home h = home
home_touched P name [] (later ∷ now) home h = absurd h
home_touched P name (held ∷ folder) [] home h = absurd h
home_touched P name (held ∷ folder) (later ∷ now) home h = by_place (home_touched P name folder now (λ k d w. home (suc k) d (omega (arith, w))) h.1)
  where
    by_held : (later : Held) → IsTouched P name held later → (file : stored.File) × (later.file ≡ Some file)
    by_held _ was_untouched = home zero held (omega arith)
    by_held _ (was_touched before after is had p) = (after, refl)

    by_place : AllHome now → AllHome (later ∷ now)
    by_place rest zero d w = by_held later h.0
    by_place rest (suc k) d w = rest k d (omega (arith, w))

pub home_repaired : (name : List ℕ) (before now : Option (List Held)) → WhereTold before AllIdle → OnlyRepairs name before now → StaysHome before now
home_repaired name before now idle repairs f told g is =
    let o = repairs f told in
    subst AllHome (same_Some o.0 g (sym o.1 ∙ is)) (home_touched KeepsImages name f o.0 (home_of_idle f (idle f told)) o.2)

-- what was looked at is told where the folder was, and no file of it is away
looked_home : (file : File) (before mid : Option (List Held)) → WhereTold before AllIdle → LooksAt file before mid → (f : List Held) → before ≡ Some f → (m : List Held) × (mid ≡ Some m) × AllHome m
looked_home (new.fixed sectors block) before mid idle looked f told = (f, looked ∙ told, home_of_idle f (idle f told))
looked_home (new.dynamic sectors block) before mid idle looked f told = (f, looked ∙ told, home_of_idle f (idle f told))
looked_home (new.child parent block) before mid idle looked f told = let o = looked f told in (o.0, o.1, home_followed parent before mid idle looked f told o.0 o.1)

pub home_added : (name : List ℕ) (file : File) (before now : Option (List Held)) → WhereTold before AllIdle → AddsOnly name file before now → StaysHome before now
home_added name file before now idle adds f told g is = by_others (looked_home file before adds.mid idle adds.looked f told) where
  by_leaving : (m : List Held) → AllHome m → LeavesOthers name m now → AllHome g
  by_leaving m home (inl same) = subst AllHome (same_Some m g (sym same ∙ is)) home
  by_leaving m home (inr (made, more)) = subst AllHome (same_Some _ g (sym more ∙ is)) (home_more m name made home)

  by_others : ((m : List Held) × (adds.mid ≡ Some m) × AllHome m) → AllHome g
  by_others (m, mid_is, home) = by_leaving m home (adds.others m mid_is)
