-- Of a read behind another.
use Rattle.std.proofs.Common.{◌∙◌}
use Rattle.store_model.specs.Disk.{Disk}
use Rattle.chain_core.specs.Reading.{HasOnlyRead}
use Rattle.chain_core.specs.declared.layers.Layers.{Layers}

pub reads_on : (first second third : Layers) (a b c : Disk) → HasOnlyRead first second a b → HasOnlyRead second third b c → HasOnlyRead first third a c
reads_on first second third a b c one two = record {
  geometry = two.geometry ∙ one.geometry;
  numbers = two.numbers ∙ one.numbers;
  merge = two.merge ∙ one.merge;
  retiring = two.retiring ∙ one.retiring;
  leaf = two.leaf ∙ one.leaf;
  ready = two.ready;
  serves = λ trace told v serving. two.serves trace (one.told ∙ told) v (one.serves trace told v serving);
  told = two.told ∙ one.told;
}
