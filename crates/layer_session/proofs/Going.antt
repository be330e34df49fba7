-- A layer goes on: behind a step it can be written still.
use Rattle.std.proofs.Common.{◌≡◌, ◌*◌, ◌^◌, ◌<◌, ◌≤◌, length, sym, subst}
use Rattle.vx_base.specs.Fields.{zeros}
use Rattle.vhdx_format.specs.Fields.{megabyte}
use Rattle.store_model.specs.Disk.{Disk, WhereBothTold}
use Rattle.store_model.specs.Trace.{Trace}
use Rattle.table_pages.specs.Held.{HasTables}
use Rattle.table_pages.specs.declared.tables.TableParts.{TableParts}
use Rattle.chain_model.specs.Images.{Placed}
use Rattle.layer_session.specs.declared.file.Layer.{Layer}
use Rattle.layer_session.specs.Keeping.{IsReady, Serves}
use Rattle.layer_session.proofs.Committing.{ready_from}
use Rattle.layer_session.proofs.Told.{told_on}

-- what is served before is served behind, whatever has changed
abbrev pub GoesOn : Layer → Layer → Trace → Trace → Type 0
GoesOn old new t u = (file : Placed) → Serves old t file → (then : Placed) × Serves new u then

pub ready_next : (old new : Layer) (before after : Disk) → IsReady old before → after.files ≡ before.files → new.tables.parts ≡ old.tables.parts → new.log.file ≡ old.log.file → new.log.len ≤ new.space.next * megabyte
    → new.space.next ≤ 2 ^ 44 → new.zeros.items ≡ zeros megabyte → length new.plans.items ≡ 257 → WhereBothTold (GoesOn old new) before.told after.told → IsReady new after
ready_next old new before after ready files parts file next most clear plans goes =
    ready_from new after (subst (λ (p : TableParts). p.file < after.files) (sym parts) (subst (λ n. old.tables.parts.file < n) (sym files) ready.readable.there)) (subst HasTables (sym parts) ready.readable.sizes)
    (subst (λ n. n ≡ new.tables.parts.file) (sym file) (subst (λ (p : TableParts). old.log.file ≡ p.file) (sym parts) ready.one_file)) next most clear plans
    (told_on (GoesOn old new) _ _ before.told after.told ready.told goes (λ t u r p. r p.0 p.1))
