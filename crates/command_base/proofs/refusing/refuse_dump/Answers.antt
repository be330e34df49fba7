use Rattle.command_base.specs.Causes.{meaning_of_dump}
use Rattle.command_base.proofs.Said.{refusal_sent, reports_for}
use Rattle.command_base.proofs.refusing.refuse_dump.Goals as goal

pub returns-in-Chain : goal.returns-in-Chain
returns-in-Chain g c = reports_for meaning_of_dump _ _ _ _ _ c.args.refusal _ c.in-Chain.is c.refuse_chain.ensures

pub returns-in-Range : goal.returns-in-Range
returns-in-Range g c = reports_for meaning_of_dump _ _ _ _ _ c.args.refusal _ c.in-Range.is (refusal_sent _ _ _ _ _ _ _ c.call_line.result c.call_line.ensures c.refuse.ensures)
