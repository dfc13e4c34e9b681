use Rattle.std.proofs.Common.{arith}
use Rattle.std.proofs.lemmas.List.{length-set}
use Rattle.zerotrie_search.specs.Globs.{cased, items}
use Rattle.zerotrie_search.specs.GlobMasks.{letters_in}
use Rattle.zerotrie_search.proofs.MarkLemmas.{more_takers}
use Rattle.zerotrie_search.proofs.glob.masks.all_takers_of.Goals as goal

pub loop-letter-preserved : goal.loop-letter-preserved
loop-letter-preserved c =
    let l = c.loop-letter in
    let len = length-set l.takers l.letter c.takers_of.result in
    record {
      whole = omega (arith, len, l.invariant.whole);
      within = omega (arith, c.loop-letter-test.true);
      are = more_takers (cased c.args.any_case (items (letters_in c.args.pattern))) l.takers l.letter c.takers_of.result (omega (arith, c.loop-letter-test.true, l.invariant.whole)) c.takers_of.ensures l.invariant.are;
    }

pub returns-clause-are : goal.returns-clause-are
returns-clause-are c b h = c.loop-letter.invariant.are b (omega (arith, h, c.loop-letter-test.false))
