use Rattle.std.proofs.Common.{ℕ, ◌+◌, ◌-◌, [], ◌∷◌, ◌∙◌, ap}
use Rattle.std.specs.Prelude.{bit_xor}
use Rattle.crc32c.specs.Remainder.{all_ones, remainder}
use Rattle.vhdx_format.specs.Logs.{ring_bytes}
use Rattle.log_format.proofs.Checksums.{compared}
use Rattle.log_format.proofs.has_checksum.Goals as goal

pub returns : goal.returns
returns c =
    compared c.requires.head.0 c.args.ring.now c.requires.ring c.args.head.now c.requires.head.1 c.value.result c.checksum_at.result
    (c.value.ensures
    ∙ ap (λ (r : ℕ). bit_xor r all_ones)
    (c.feed_ring-2.ensures
    ∙ ap (λ r. remainder r (ring_bytes c.args.ring.now (c.args.head.now.at + 8) (c.args.head.now.len - 8)))
    (c.feed.ensures ∙ ap (λ r. remainder r (0 ∷ 0 ∷ 0 ∷ 0 ∷ [])) (c.feed_ring.ensures ∙ ap (λ r. remainder r (ring_bytes c.args.ring.now c.args.head.now.at 4)) c.new-crc.ensures))))
    c.checksum_at.ensures
