use Rattle.std.proofs.Common.{◌≡◌, ◌≤◌, false, length, map, sym, subst}
use Rattle.std.specs.Prelude.{All, IfOk, is_some, string_bytes}
use Rattle.script.specs.Transcript.{IsTold, serve_text}
use Rattle.script_session.specs.declared.session.ScriptRun.{ScriptRun}
use Rattle.serve_session.specs.Serving.{HasServedScript, IsShared}
use Rattle.serve_session.proofs.Final.{called, few_told, served_so, shared_as}
use Rattle.serve_session.proofs.serving.serve.Goals as goal

pub transcript_of-transcript-requires-clause-told : goal.transcript_of-transcript-requires-clause-told
transcript_of-transcript-requires-clause-told g c =
    let names = map g.N.AsStr.text c.args.names.now in
    let left = c.share-left.result in
    let begun = c.args.begun in
    let shared = shared_as g.S.Store.disk (is_some c.args.last) (length begun.tools.items) begun.chain left.chain names c.args.lines.now left.told.items left.is_short left.unread left.tally c.requires.alone c.share-left.ensures.alone c.share-left.ensures.beside in
    λ short. subst (λ told. All (IsTold told) c.end_session-store.result.history) (sym c.as_slice.ensures.value)
    (subst (All (IsTold left.told.items)) (sym c.end_session-store.ensures.history)
    (called g.S.Store.disk (is_some c.args.last) begun.chain left.chain names c.args.lines.now left.told.items left.is_short left.unread left.tally shared short))

pub transcript_of-transcript-requires-clause-few : goal.transcript_of-transcript-requires-clause-few
transcript_of-transcript-requires-clause-few g c =
    let names = map g.N.AsStr.text c.args.names.now in
    let left = c.share-left.result in
    subst (λ told. length told ≤ 64) (sym c.as_slice.ensures.value) (few_told g.S.Store.disk _ c.args.begun.chain left.chain names c.args.lines.now left.told.items left.is_short left.unread left.tally c.share-left.ensures.beside)

pub returns-clause-served : goal.returns-clause-served
returns-clause-served g c =
    let disk = g.S.Store.disk in
    let merges = is_some c.args.last in
    let names = map g.N.AsStr.text c.args.names.now in
    let left = c.share-left.result in
    let begun = c.args.begun in
    let ended = c.end_session-store.result in
    let shared = shared_as disk merges (length begun.tools.items) begun.chain left.chain names c.args.lines.now left.told.items left.is_short left.unread left.tally c.requires.alone c.share-left.ensures.alone c.share-left.ensures.beside in
    let text = subst (λ told. IfOk c.transcript_of-transcript.result (λ text. (left.is_short ≡ false) × (string_bytes text ≡ serve_text ended.history told))) c.as_slice.ensures.value c.transcript_of-transcript.ensures in
    let run : ScriptRun = record { transcript = c.transcript_of-transcript.result; fault = ended.fault; closed = ended.closed } in
    subst (λ v. HasServedScript disk merges v.first names c.args.lines.now (record { run = run; unread = left.unread; tally = left.tally; merged = ended.merged }) (disk ended.store)) c.of-was.ensures
    (served_so disk merges c.of-was.result.value left.chain run ended.merged ended.history (disk ended.store) c.end_session-store.ensures.served c.end_session-store.ensures.unserved names c.args.lines.now left.told.items left.is_short left.unread left.tally
    (subst (λ v. IsShared disk merges v names c.args.lines.now left.chain left.told.items left.is_short left.unread left.tally) (sym c.of-was.ensures) shared) text)
