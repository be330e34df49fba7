-- What workers of a merge are given.
use Rattle.std.specs.Prelude.{IfSome}
use Rattle.store_model.specs.Disk.{Disk}
use Rattle.ledger.specs.declared.ledger.Ledger.{Ledger}
use Rattle.chain_core.specs.Sealed.{IsSealedSource}
use Rattle.chain_core.specs.declared.chain.Chain.{Chain}
use Rattle.serve_session.specs.declared.tools.Tools.{Tools}

-- where there is a source among them it is that of the merge of the session that began with this chain
abbrev pub AreToolsFor : {S T : Type 0} → (S → Disk) → Chain S Ledger T → Tools → Type 0
AreToolsFor disk first tools = IfSome tools.source (IsSealedSource first.layers (disk first.store))
