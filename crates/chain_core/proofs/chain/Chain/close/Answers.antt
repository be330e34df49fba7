use Rattle.std.proofs.Common.{refl}
use Rattle.chain_core.specs.Sessions.{seen}
use Rattle.chain_core.proofs.Copied.{sound_low}
use Rattle.chain_core.proofs.chain.Chain.close.Goals as goal

pub end_unbroken-done-requires : goal.end_unbroken-done-requires
end_unbroken-done-requires g c = record {
  ready = c.requires.ready;
  low = λ whole. sound_low (seen g.S.Store.disk g.R.Recorder.noted g.R.Recorder.told c.args.self) c.requires whole;
}

pub returns : goal.returns
returns g c =
    let e = c.end_unbroken-done.ensures in
    record { recorder = refl; broken = e.broken; read = e.read; counts = e.counts; err = e.err; told = e.told }
