use Rattle.std.proofs.Common.{length}
use Rattle.std.specs.Prelude.{is_some}
use Rattle.nbd_session.specs.declared.run.NbdRun.{NbdRun}
use Rattle.nbd_session.proofs.Ends.{client_served}
use Rattle.nbd_session.proofs.serving.serve_client.Goals as goal

pub returns-clause-served : goal.returns-clause-served
returns-clause-served g c =
    let left = c.share-left.result in
    let end = c.end_session-store.result in
    let run : NbdRun = record { served = left.served; fault = end.fault; closed = end.closed; unread = left.unread; merged = end.merged } in
    client_served g.S.Store.disk (is_some c.args.last) (length c.args.begun.tools.items) c.of-was.result.value c.args.begun.chain left.chain c.of-was.ensures c.args.export.now _ _ run end.history (g.S.Store.disk end.store)
    c.requires.alone c.share-left.ensures.alone c.share-left.ensures.beside c.end_session-store.ensures.served c.end_session-store.ensures.unserved
