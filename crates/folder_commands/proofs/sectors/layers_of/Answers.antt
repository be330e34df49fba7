use Rattle.std.proofs.Common.{◌+◌, ◌++◌, [], ◌∷◌, List, length, take, sym, ap, subst, ◌∙◌, arith}
use Rattle.std.proofs.lemmas.List.{length-append, length-take, take_more}
use Rattle.layer_session.specs.declared.read_layer.ReadLayer.{ReadLayer}
use Rattle.link_rules.specs.declared.linked.LinkedFile.{LinkedFile}
use Rattle.command_base.specs.Commands.{AreLayersFrom}
use Rattle.folder_commands.proofs.Reading.{more_layers}
use Rattle.folder_commands.proofs.sectors.layers_of.Goals as goal

pub loop-file-preserved : goal.loop-file-preserved
loop-file-preserved c =
    let files : List LinkedFile = c.args.files.now in
    let i = c.loop-file.file-index in
    let more = more_layers 0 c.len-number.result (take i files) c.loop-file.layers.items c.file-item.result c.in_ok-new.field-0 (omega (arith, c.len-number.ensures, c.loop-file.invariant.number, length-take i files, c.loop-file-test.true)) c.loop-file.invariant.layers c.in_ok-new.ensures in
    let next = take_more files i c.file-item.result c.loop-file-test.true ∙ ap (λ f. take i files ++ f ∷ []) (sym c.file-item.is) in
    record {
      number = ap (λ (l : List ReadLayer). length l) c.in_ok-push.ensures.items ∙ omega (arith, length-append c.loop-file.layers.items (c.in_ok-new.field-0 ∷ []), c.loop-file.invariant.number);
      layers = subst (λ (l : List ReadLayer). AreLayersFrom 0 (take (i + 1) files) l) (sym c.in_ok-push.ensures.items) (subst (λ (f : List LinkedFile). AreLayersFrom 0 f (c.loop-file.layers.items ++ c.in_ok-new.field-0 ∷ [])) (sym next) more);
    }
