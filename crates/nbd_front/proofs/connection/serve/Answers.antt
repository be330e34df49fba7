use Rattle.std.proofs.Common.{ap, sym}
use Rattle.nbd_front.specs.declared.export.Export.{Export}
use Rattle.nbd_front.proofs.Steps.{served_of}
use Rattle.nbd_front.proofs.connection.serve.Goals as goal

pub serve_with-requires : goal.serve_with-requires
serve_with-requires g c = record {
  size = c.export_of-export.ensures.sector;
  disk = sym (ap (λ (e : Export). e.geometry) c.export_of-export.ensures.export);
  few = c.export_of-export.ensures.few;
  fresh = record { empty = c.new-desk.ensures.empty; at = c.new-desk.ensures.at; tally = c.new-desk.ensures.tally };
}

pub returns : goal.returns
returns g c = record { served = served_of c.export_of-export.ensures.export c.serve_with.ensures.served }
