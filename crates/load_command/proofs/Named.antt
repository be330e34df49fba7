-- The names of a load's files.
use Rattle.std.proofs.Common.{ℕ, zero, suc, refl}
use Rattle.vx_base.specs.Names.{IsName}
use Rattle.vx_base.specs.Names as names
use Rattle.load_command.specs.Commands.{load_name}

pub names_are : (file : ℕ) → IsName (load_name file)
unfolding names.is_name
names_are zero = refl
names_are (suc zero) = refl
names_are (suc (suc zero)) = refl
names_are (suc (suc (suc zero))) = refl
names_are (suc (suc (suc (suc other)))) = refl
