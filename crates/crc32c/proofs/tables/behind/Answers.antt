use Rattle.std.proofs.Common.{◌+◌, ◌*◌, refl}
use Rattle.crc32c.specs.Remainder.{shifted, shifted_once}
use Rattle.crc32c.specs.declared.tables.TheConstants.{BEHIND}
use Rattle.crc32c.proofs.TableTests.{agree_all, agree_below, all_agree_at}
use Rattle.crc32c.proofs.tables.behind.Goals as goal

pub returns : goal.returns
unfolding agree_all agree_below shifted shifted_once
returns c = all_agree_at (λ k b. shifted (8 * k + 8) b) BEHIND 8 refl c.args.zeros c.args.byte c.requires.zeros c.requires.byte
