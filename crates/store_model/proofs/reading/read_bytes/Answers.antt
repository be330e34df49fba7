use Rattle.std.proofs.Common.{◌≡◌, ◌++◌, ◌∙◌, ℕ, List, length, take, sym, ap}
use Rattle.std.proofs.Math.Seq.{take-append_seam}
use Rattle.store_model.specs.Bytes.{bytes_at}
use Rattle.store_model.specs.File.{seen}
use Rattle.store_model.specs.Trace.{file_of}
use Rattle.store_model.proofs.reading.read_bytes.Goals as goal

all_of : (n : ℕ) (bytes rest : List ℕ) → n ≡ length bytes → take n (bytes ++ rest) ≡ bytes
all_of n bytes rest long = ap (λ k. take k (bytes ++ rest)) long ∙ take-append_seam bytes rest

pub returns-clause-len : goal.returns-clause-len
returns-clause-len g c =
    let long : c.in_ok-bytes.bytes.len ≡ length c.read_at.new.out = c.in_ok-bytes.bytes.ok.0 ∙ sym (c.read_at.auto.out ∙ ap length c.as_mut_slice.ensures.value) in
    ap length (all_of c.in_ok-bytes.bytes.len c.read_at.new.out _ long) ∙ sym long ∙ c.in_ok-bytes.ensures.len

pub returns-clause-bytes : goal.returns-clause-bytes
returns-clause-bytes g c t told =
    all_of c.in_ok-bytes.bytes.len c.read_at.new.out _ (c.in_ok-bytes.bytes.ok.0 ∙ sym (c.read_at.auto.out ∙ ap length c.as_mut_slice.ensures.value)) ∙ c.in_ok-read_at.ensures.ok t told
    ∙ ap (bytes_at (seen (file_of t c.args.file)) c.args.at) (ap length c.as_mut_slice.ensures.value ∙ sym c.in_ok-bytes.bytes.ok.0 ∙ c.in_ok-bytes.ensures.len)
