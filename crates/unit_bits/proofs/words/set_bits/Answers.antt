use Rattle.std.proofs.Common.{◌<◌, ◌/◌, length, arith}
use Rattle.unit_bits.proofs.WordLemmas.{none_still, step_set, still_none}
use Rattle.unit_bits.proofs.words.set_bits.Goals as goal

pub loop-at-preserved : goal.loop-at-preserved
loop-at-preserved c =
    let inside : c.loop-at.at / 64 < length c.loop-at.words = omega (arith, c.loop-at.auto.words, c.requires.within, c.loop-at-test.true) in
    record {
      after = omega (arith, c.loop-at.invariant.after);
      to = c.count_in_word-count.ensures.to;
      set = step_set c.loop-at.words c.loop-at.at c.count_in_word-count.result c.ones-run.result c.count_in_word-count.ensures.word c.ones-run.ensures inside
          c.args.words.now c.args.from c.loop-at.invariant.after c.loop-at.invariant.set;
      none = still_none c.loop-at.words c.loop-at.at c.count_in_word-count.result c.ones-run.result c.count_in_word-count.ensures.word c.ones-run.ensures inside
          c.args.words.now c.args.from c.loop-at.met c.loop-at.invariant.set c.loop-at.invariant.none;
      some = none_still c.loop-at.words c.loop-at.at c.count_in_word-count.result c.ones-run.result c.count_in_word-count.ensures.word c.ones-run.ensures inside
          c.args.words.now c.args.from c.loop-at.met c.loop-at.invariant.set c.loop-at.invariant.after c.loop-at.invariant.some;
    }
