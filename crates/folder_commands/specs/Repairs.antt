-- What `repair` prints, and what it does.
use Rattle.std.specs.Prelude.{◌≡◌, ◌⊎◌, ℕ, List, [], ◌∷◌, ◌++◌, Option, Err, codes}
use Rattle.store_model.specs.Disk.{WhereTold}
use Rattle.file_open.specs.Opening as opening
use Rattle.make_file.specs.Identifiers.{Draws}
use Rattle.make_file.specs.Makes.{Outside, outside}
use Rattle.link_rules.specs.Chains.{OpensIn, Unopened}
use Rattle.link_rules.specs.Folders.{contents}
use Rattle.file_repair.specs.Repairing.{DrawsOne}
use Rattle.named_file.specs.Repairs.{IsRepairedIn, IsUnfitIn, OnlyRepairs, RepairsSafely}
use Rattle.command_base.specs.Checks.{IsReplayedAt}
use Rattle.command_base.specs.Printed.{IsText, Prints, ShowsFault}
use Rattle.command_base.specs.Refusals.{IdUnfit, OfChain, Refusal}
use Rattle.command_base.specs.Worlds.{World}
use Rattle.printing.specs.declared.status.Status.{Status}
use Rattle.printing.specs.declared.status.Status.TheVariants.{Refused}

abbrev pub repaired_line : List ℕ → List ℕ
repaired_line name = codes "repaired " ++ name ++ codes "\n"

-- an identifier was drawn, the file of this name is repaired with it, and this is its line
pub record ShowsRepaired (name : List ℕ) (before now : Outside) (text : List ℕ) : Type 0 where
  pub text_is : text ≡ repaired_line name
  pub id : List ℕ
  pub drawn : Draws (id ∷ []) before.drawn now.drawn
  pub repaired : WhereTold before.host.folder (λ folder. WhereTold now.host.folder (IsRepairedIn name id folder))

-- what refuses it: the file isn't opened, and then nothing is drawn; or the identifier that was drawn is unfit
pub data RefusesRepair (name : List ℕ) (before now : Outside) : Refusal → Type 0 where
  unopened : (refusal : opening.Refusal) → WhereTold before.host.folder (λ f. OpensIn (contents f) name (Err refusal)) → now.drawn ≡ before.drawn
      → RefusesRepair name before now (OfChain (Unopened name refusal))
  id_unfit : (id : List ℕ) → Draws (id ∷ []) before.drawn now.drawn → WhereTold before.host.folder (λ f. IsUnfitIn (contents f) name id)
      → RefusesRepair name before now (IdUnfit id)

abbrev pub IsRepairText : List ℕ → Outside → Outside → Status → List ℕ → Type 0
IsRepairText name before now = IsText (ShowsRepaired name before now) (RefusesRepair name before now) (ShowsFault before.host now.host)

abbrev pub DrawsAtMostOne : Option (List (List ℕ)) → Option (List (List ℕ)) → Type 0
DrawsAtMostOne before now = (now ≡ before) ⊎ DrawsOne before now

-- One file is repaired, or what refuses it is printed, and then it holds what it stood for. No other file is touched, at the end or at
-- any moment, and each image of this one has its layer.
pub record RunsRepair (name : List ℕ) (before now : World) (status : Status) : Type 0 where
  pub printed : Prints (IsRepairText name (outside before.host before.drawn) (outside now.host now.drawn)) before now status
  pub kept : status ≡ Refused → IsReplayedAt name before.host.folder now.host.folder
  pub only : OnlyRepairs name before.host.folder now.host.folder
  pub moments : RepairsSafely name before.host now.host
  pub drawn : DrawsAtMostOne before.drawn now.drawn
  pub unread : now.left ≡ before.left
