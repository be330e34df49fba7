-- How the write of sectors to their places ends.
use Rattle.std.proofs.Common.{◌≡◌, ℕ, ◌+◌, ◌*◌, ◌≤◌, List, length, get_or, Some, refl, sym, ap, subst, ◌∙◌, arith}
use Rattle.std.specs.Prelude.{Ok}
use Rattle.vx_base.specs.Fields.{written_over}
use Rattle.store_model.specs.Disk.{Disk, WhereBothTold, WhereTold, WriteFailed, changed}
use Rattle.store_model.specs.File.{Write, seen}
use Rattle.store_model.specs.Plans.{FailsToChange}
use Rattle.store_model.specs.Trace.{Trace, file_of, with_change}
use Rattle.store_model.specs.declared.fault.StoreFault.{StoreFault}
use Rattle.store_model.proofs.Spans.{file_of-with_change}
use Rattle.table_pages.specs.Held.{held}
use Rattle.layer_session.specs.declared.file.Layer.{Layer}
use Rattle.layer_session.specs.declared.file.LayerFault.TheVariants as fault
use Rattle.layer_session.specs.Calls.{HasPut, loose_or_named, placed_with, with_bytes}
use Rattle.layer_session.specs.Keeping.{IsReady}
use Rattle.layer_session.specs.Steps.{StandFrom, held_by}
use Rattle.layer_session.specs.Taking.{IsBroken, IsDone, KeepsEntries}
use Rattle.layer_session.proofs.Entered.{held_as_long}
use Rattle.layer_session.proofs.Going.{ready_next}
use Rattle.layer_session.proofs.Grown.{table_within}
use Rattle.layer_session.proofs.SameEntries.{held_here, keeps_entries}
use Rattle.layer_session.proofs.Told.{both_changed, both_map}
use Rattle.layer_session.proofs.WriteSteps.{write_broken, write_fails, write_put}
use Rattle.layer_session.proofs.Written.{longer, table_same, whole_of}

module _ (l : Layer) (first count place : ℕ) (bytes : List ℕ) (whole : length bytes ≡ l.tables.parts.sector * count) (on_disk : first + count ≤ l.tables.parts.sectors) (old new : Disk) (ready : IsReady l old)
    (stand : WhereTold old.told (λ t. StandFrom l first count place t)) where
  same_one : (t : Trace) → old.told ≡ Some t → KeepsEntries l l t (with_change l.log.file (Write place bytes) t)
  same_one t told =
      let one = ready.told t told in
      let serves = one.1 in
      let n = one.0.number in
      let number : n ≡ l.log.file = serves.number ∙ sym ready.one_file in
      let ws = whole_of l t one.0 serves count (length bytes) whole in
      let new_is : held l.tables.pending (written_over (seen (file_of t n)) place bytes) ≡ held_by l (with_change l.log.file (Write place bytes) t) =
      sym (ap (λ f. held l.tables.pending (seen f)) (file_of-with_change n (Write place bytes) t))
      ∙ ap (λ k. held l.tables.pending (seen (file_of (with_change k (Write place bytes) t) n))) number
      ∙ ap (λ k. held l.tables.pending (seen (file_of (with_change l.log.file (Write place bytes) t) k))) serves.number in
      let long = longer l t one.0 serves first count place (stand t told) on_disk bytes ws in
      keeps_entries l l t (with_change l.log.file (Write place bytes) t) one.0 serves (omega (arith, long, ap length new_is, ap length (held_here l t one.0 serves)))
      (λ i table. ap (λ z. get_or z i 0) (sym new_is)
      ∙ table_same l t one.0 serves first count place (stand t told) on_disk bytes ws i table (let w = table_within l t one.0 serves l.log.len (omega arith) i table in omega (arith, w, held_as_long l t one.0 serves))
      ∙ ap (λ z. get_or z i 0) (held_here l t one.0 serves))

  pub write_same : new ≡ changed l.log.file (Write place bytes) old → WhereBothTold (KeepsEntries l l) old.told new.told
  write_same ok = subst (λ (d : Disk). WhereBothTold (KeepsEntries l l) old.told d.told) (sym ok) (both_changed (KeepsEntries l l) l.log.file (Write place bytes) old.told same_one)

  pub write_done : new ≡ changed l.log.file (Write place bytes) old → IsDone l l first count (with_bytes l.tables.parts.sector first count bytes) old new
  write_done ok =
      let put : WhereBothTold (HasPut l l first count (with_bytes l.tables.parts.sector first count bytes)) old.told new.told = write_put l first count place bytes whole on_disk old new l.log.file ready.one_file stand (Ok tt) ok in
      record {
        put = put;
        ready = ready_next l l old new ready (ap (λ (d : Disk). d.files) ok) refl refl ready.next ready.most ready.clear ready.plans
            (both_map (HasPut l l first count (with_bytes l.tables.parts.sector first count bytes)) _ old.told new.told put
            (λ t u a b h file serves. (placed_with (with_bytes l.tables.parts.sector first count bytes file.member.layer) (loose_or_named first count file) file, h.serves file serves)));
        counts = ok ∙ ap (λ o. (let x : Disk = record old { told = o } in x)) (sym (ap (λ (d : Disk). d.told) ok));
        parts = refl;
        number = refl;
        header = refl;
      }

  pub write_stops : (f : StoreFault) → WriteFailed l.log.file place bytes old new f → IsBroken l l first count old new (fault.Write f)
  write_stops f err =
      let b = write_broken l first count place bytes whole on_disk old new l.log.file ready.one_file ready stand f err in
      record {
        cause = f;
        written = refl;
        fails = subst (λ n. FailsToChange n old new f) ready.one_file (write_fails l.log.file place bytes old new f err);
        readable = b.0;
        holds = b.1;
        parts = refl;
        number = refl;
        header = refl;
      }
