use Rattle.std.proofs.Common.{◌≡◌, ◌+◌, ◌∷◌, ◌++◌, [], ap, length, length-append, arith, ◌∙◌}
use Rattle.std.proofs.lemmas.List.Elements.{All-push, All-same}
use Rattle.serve_session.specs.Tools.{AreToolsFor}
use Rattle.serve_session.specs.declared.tools.Tools.{Tools}
use Rattle.serve_session.proofs.tools.tools_for.Goals as goal

pub loop-piece-preserved : goal.loop-piece-preserved
loop-piece-preserved g c =
    let i = c.loop-piece.invariant in
    let P = AreToolsFor g.S.Store.disk c.args.chain.now in
    let one : Tools = record { piece = c.in-Some.piece; source = c.in_ok-source.source } in
    let popped : length c.loop-piece.pieces.items ≡ length c.pop.new.self.items + 1 = ap length c.in-Some.ensures.items ∙ length-append c.pop.new.self.items (c.in-Some.piece ∷ []) in
    let pushed : length c.push.new.self.items ≡ length c.loop-piece.tools.items + 1 = ap length c.in_ok-push.ensures.items ∙ length-append c.loop-piece.tools.items (one ∷ []) in
    record {
      count = omega (arith, popped, pushed, i.count);
      each = All-same P c.push.new.self.items (c.loop-piece.tools.items ++ one ∷ []) c.in_ok-push.ensures.items (All-push P c.loop-piece.tools.items one i.each c.in_ok-source.ensures.source);
    }
