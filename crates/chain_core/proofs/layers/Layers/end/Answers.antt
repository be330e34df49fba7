use Rattle.std.proofs.Common.{List, ap, subst, sym, ◌∙◌, refl}
use Rattle.std.specs.Prelude.{Err, Ok}
use Rattle.store_model.specs.Disk.{Disk}
use Rattle.layer_session.specs.FileLayers.{AreOthers, file_numbers}
use Rattle.layer_session.specs.declared.file_layer.FileLayer.{FileLayer}
use Rattle.chain_core.specs.Answering.{EndsTold}
use Rattle.chain_core.specs.Ending.{AreAllReady, AreNumbered, EndsOnTold}
use Rattle.chain_core.specs.Sessions.{AreApart}
use Rattle.chain_core.proofs.Ending.{below_failed, below_numbered, ends_told, leaf_apart, leaf_ready}
use Rattle.vx_base.proofs.Handed.{handed, not_ok}
use Rattle.chain_core.proofs.Holding.{rest_told}
use Rattle.chain_core.proofs.RetireStays.{all_ready}
use Rattle.layer_session.proofs.Equal.{some_none}
use Rattle.chain_core.proofs.layers.Layers.end.Goals as goal

pub end_files-requires-clause-ready : goal.end_files-requires-clause-ready
end_files-requires-clause-ready g c =
    let disk = g.S.Store.disk c.args.store.now in
    subst (λ (items : List FileLayer). AreAllReady disk items) (sym (ap (λ b. b.items) c.into_files-leaf.ensures.below)) (all_ready c.args.self.geometry disk c.args.self.below.items c.requires.ready.below)

pub end_files-requires-clause-low : goal.end_files-requires-clause-low
end_files-requires-clause-low g c = subst (λ (items : List FileLayer). AreNumbered items) (sym (ap (λ b. b.items) c.into_files-leaf.ensures.below)) (below_numbered c.args.self c.requires.low)

pub end_files-requires-clause-apart : goal.end_files-requires-clause-apart
end_files-requires-clause-apart g c = subst (λ (items : List FileLayer). AreApart (file_numbers items)) (sym (ap (λ b. b.items) c.into_files-leaf.ensures.below)) c.requires.ready.apart

pub returns-in_err-end_files-in-Some-clause-told : goal.returns-in_err-end_files-in-Some-clause-told
returns-in_err-end_files-in-Some-clause-told g c =
    let old = g.S.Store.disk c.args.store.now in
    let mid = g.S.Store.disk c.end_files.new.store in
    let w = c.into_files-leaf.ensures in
    let fault = c.in_err-end_files-in-Some.field-0.0 in
    handed (EndsTold c.args.self old mid) c.from_residual.result fault c.from_residual.ensures
    (below_failed c.args.self c.in-Some.leaf (sym w.leaf ∙ c.in-Some.is) fault old mid (subst (λ (items : List FileLayer). EndsOnTold items old mid (Err fault)) (ap (λ b. b.items) w.below) c.in_err-end_files-in-Some.ensures.told))

pub end-requires-clause-ready : goal.end-requires-clause-ready
end-requires-clause-ready g c =
    let old = g.S.Store.disk c.args.store.now in
    let mid = g.S.Store.disk c.end_files.new.store in
    let w = c.into_files-leaf.ensures in
    let is = sym w.leaf ∙ c.in-Some.is in
    let leaf = c.in-Some.leaf in
    leaf_ready c.args.self leaf old is c.requires.ready mid (ap (λ (d : Disk). d.files) c.in_ok-end_files-in-Some.ensures.counts)
    (c.end_files.ensures.beside leaf.tables.parts.file (subst (λ (items : List FileLayer). AreOthers leaf.tables.parts.file items) (sym (ap (λ b. b.items) w.below)) (leaf_apart c.args.self leaf old is c.requires.ready)))

pub returns-in_ok-end_files-in-Some-clause-told : goal.returns-in_ok-end_files-in-Some-clause-told
returns-in_ok-end_files-in-Some-clause-told g c =
    let old = g.S.Store.disk c.args.store.now in
    let mid = g.S.Store.disk c.end_files.new.store in
    let w = c.into_files-leaf.ensures in
    let is = sym w.leaf ∙ c.in-Some.is in
    let leaf = c.in-Some.leaf in
    ends_told c.args.self leaf is c.end.result old mid (g.S.Store.disk c.end.new.store) (subst (λ (items : List FileLayer). EndsOnTold items old mid (Ok tt)) (ap (λ b. b.items) w.below) c.in_ok-end_files-in-Some.ensures.told)
    (c.end_files.ensures.beside leaf.tables.parts.file (subst (λ (items : List FileLayer). AreOthers leaf.tables.parts.file items) (sym (ap (λ b. b.items) w.below)) (leaf_apart c.args.self leaf old is c.requires.ready))) c.end.ensures.moments c.end.ensures.ended

pub returns-in-None-clause-told : goal.returns-in-None-clause-told
returns-in-None-clause-told g c = rest_told c.args.self (g.S.Store.disk c.args.store.now) (sym c.into_files-leaf.ensures.leaf ∙ c.in-None.is)

pub returns-in_err-end_files-in-Some-clause-read : goal.returns-in_err-end_files-in-Some-clause-read
returns-in_err-end_files-in-Some-clause-read g c none = absurd (some_none (sym (sym c.into_files-leaf.ensures.leaf ∙ c.in-Some.is) ∙ none))

pub returns-in_err-end_files-in-Some-clause-counts : goal.returns-in_err-end_files-in-Some-clause-counts
returns-in_err-end_files-in-Some-clause-counts g c = not_ok c.from_residual.result _ c.from_residual.ensures.1 _

pub returns-in_ok-end_files-in-Some-clause-read : goal.returns-in_ok-end_files-in-Some-clause-read
returns-in_ok-end_files-in-Some-clause-read g c none = absurd (some_none (sym (sym c.into_files-leaf.ensures.leaf ∙ c.in-Some.is) ∙ none))

pub returns-in-None-clause-read : goal.returns-in-None-clause-read
returns-in-None-clause-read g c none = (refl, refl)

pub returns-in-None-clause-counts : goal.returns-in-None-clause-counts
returns-in-None-clause-counts g c = refl

pub returns-in-None-clause-err : goal.returns-in-None-clause-err
returns-in-None-clause-err g c = tt
