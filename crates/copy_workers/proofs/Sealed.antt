-- What a worker reads by a reader of a sealed file.
use Rattle.std.proofs.Common.{◌≡◌, ◌∙◌, ℕ, List, Option, Some, None, refl, sym, ap, subst, arith}
use Rattle.std.specs.Prelude.{option_map}
use Rattle.store_model.specs.Disk.{ReadFailed, Sealed, SealedReadFailed, WhereBothTold}
use Rattle.store_model.specs.declared.fault.ReadFault.{ReadFault}
use Rattle.store_model.specs.declared.fault.StoreFault.{StoreFault}
use Rattle.layer_session.specs.Calls.{IsBeside}
use Rattle.layer_session.specs.FileLayers.{IsReadableFile, IsSameFile, number_of}
use Rattle.layer_session.specs.declared.file_layer.FileLayer.{FileLayer}
use Rattle.layer_session.proofs.FileLayers.{file_layers_stand}
use Rattle.layer_session.proofs.Handing.{file_there}
use Rattle.sealed_file.specs.Sealing.{sealed_disk, sealed_trace}
use Rattle.sealed_file.proofs.Refused.{reader_failed}
use Rattle.chain_core.specs.declared.sealing.SealedSource.{SealedSource}
use Rattle.copy_workers.specs.Sources.{CanReadStripe, IsSameSource}

-- of the same content each file is beside itself
beside_same : (n : ℕ) (a b : Option (List ℕ)) → b ≡ a → WhereBothTold (IsBeside n) (option_map sealed_trace a) (option_map sealed_trace b)
beside_same n a b same = subst (λ o. WhereBothTold (IsBeside n) (option_map sealed_trace a) (option_map sealed_trace o)) (sym same) (go a)
  where
    go : (o : Option (List ℕ)) → WhereBothTold (IsBeside n) (option_map sealed_trace o) (option_map sealed_trace o)
    go None = tt
    go (Some bytes) = record { same = refl; names = refl }

pub readable : (reader : Sealed) (refused : ℕ) (s : SealedSource) → CanReadStripe reader s → IsReadableFile s.geometry (sealed_disk reader refused) s.layer
readable reader refused s can = record { can = can.can refused; sector = can.sector; sectors = can.sectors }

-- the same layer with other pages in memory
pub same_source : (reader : Sealed) (refused : ℕ) (old : SealedSource) (layer : FileLayer) → IsSameFile old.layer layer (sealed_disk reader refused) → IsSameSource reader old (record old { layer = layer })
same_source reader refused old layer same = record {
  only = refl;
  sizes = same.parts;
  can = λ other content again. file_layers_stand.readable layer (sealed_disk reader refused) (sealed_disk other again) same.readable refl (beside_same (number_of layer) reader.content other.content content);
  holds = λ found bytes told h. same.holds (sealed_trace bytes) found (ap (option_map sealed_trace) told) h;
}

pub same_self : (reader : Sealed) (s : SealedSource) → CanReadStripe reader s → IsSameSource reader s s
same_self reader s can = record {
  only = refl;
  sizes = refl;
  can = λ other content again. file_layers_stand.readable s.layer (sealed_disk reader again) (sealed_disk other again) (can.can again) refl (beside_same (number_of s.layer) reader.content other.content content);
  holds = λ found bytes told h. h;
}

-- a read that failed is one of the reader
pub failed_by : (a b : Sealed) (n m : ℕ) (s : SealedSource) (fault : StoreFault) (told : ReadFault) → CanReadStripe a s → ReadFailed (number_of s.layer) (sealed_disk a n) (sealed_disk b m) fault → told.file ≡ a.file → told.count ≡ fault.count → SealedReadFailed a b told
failed_by a b n m s fault told can failed file count =
    let only : number_of s.layer ≡ 0 = (let low = file_there s.layer (sealed_disk a n) (can.can n) in omega (arith, low)) in
    let h = reader_failed a b n m fault (subst (λ k. ReadFailed k (sealed_disk a n) (sealed_disk b m) fault) only failed) in
    record { stays = h.stays; of_file = file; rose = h.rose; count = count ∙ h.count }
