-- What the functions of `make` say of a parent's chain; what a run promises doesn't rest on these.
use Rattle.std.specs.Prelude.{ℕ, List, Result, Ok, Err}
use Rattle.store_model.specs.Folder.{Held}
use Rattle.link_rules.specs.Chains.{Links}
use Rattle.link_rules.specs.Chains as chains
use Rattle.link_rules.specs.Folders.{contents}
use Rattle.command_base.specs.Making.{ShowIds}
use Rattle.command_base.specs.Refusals.{Refusal, OfChain}
use Rattle.folder_commands.specs.declared.making.ParentChain.{ParentChain}

-- a parent's name leads to these files, which show these identifiers
pub data OpensParent (folder : List Held) (parent : List ℕ) : Result ParentChain Refusal → Type 0 where
  unlinked : (refusal : chains.Refusal) → Links (contents folder) parent (Err refusal) → OpensParent folder parent (Err (OfChain refusal))
  leads : (above : ParentChain) → Links (contents folder) parent (Ok above.linked) → ShowIds (contents folder) above.linked.files above.known.items
      → OpensParent folder parent (Ok above)
