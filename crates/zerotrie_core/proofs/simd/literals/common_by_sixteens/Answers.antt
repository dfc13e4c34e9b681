use Rattle.std.proofs.Common.{◌≡◌, ◌+◌, ◌-◌, subst, arith}
use Rattle.zerotrie_core.specs.reader.Literals.{AreCommon}
use Rattle.zerotrie_core.proofs.ReaderLemmas.Literals.{common_more, common_fewer}
use Rattle.zerotrie_core.proofs.simd.literals.common_by_sixteens.Goals as goal

pub returns-then-more-lt16 : goal.returns-then-more-lt16
returns-then-more-lt16 g c =
    let kind = g.K.ZeroTrieWithOptions.kind in
    let small = c.if-more-lt16.true in
    common_more kind c.args.bytes.now c.args.key.now c.loop-passed.passed c.first_other_at-more.result c.loop-passed.invariant
    (omega (arith, c.min-most.ensures, small, c.loop-passed-test.true)) (omega (arith, c.min-most.ensures, small, c.loop-passed-test.true)) (λ k h. c.first_other_at-more.ensures k (omega (arith, small)) h)

pub loop-passed-preserved : goal.loop-passed-preserved
loop-passed-preserved g c =
    let kind = g.K.ZeroTrieWithOptions.kind in
    let large = c.if-more-lt16.false in
    common_more kind c.args.bytes.now c.args.key.now c.loop-passed.passed 16 c.loop-passed.invariant
    (omega (arith, c.min-most.ensures, c.loop-passed-test.true)) (omega (arith, c.min-most.ensures, c.loop-passed-test.true)) (λ k h. c.first_other_at-more.ensures k h (omega (arith, h, large)))

pub returns-then-more-lt16-2 : goal.returns-then-more-lt16-2
returns-then-more-lt16-2 g c =
    let kind = g.K.ZeroTrieWithOptions.kind in
    let bytes = c.args.bytes.now in
    let key = c.args.key.now in
    let last = c.min-most.result - 16 in
    let small = c.if-more-lt16-2.true in
    let few : AreCommon kind bytes key last = common_fewer kind bytes key c.loop-passed.passed last c.loop-passed.invariant (omega (arith, c.loop-passed-test.false)) in
    common_more kind bytes key last c.first_other_at-more-2.result few (omega (arith, c.min-most.ensures, small)) (omega (arith, c.min-most.ensures, small)) (λ k h. c.first_other_at-more-2.ensures k (omega (arith, small)) h)

pub returns-else-more-lt16-2 : goal.returns-else-more-lt16-2
returns-else-more-lt16-2 g c =
    let kind = g.K.ZeroTrieWithOptions.kind in
    let bytes = c.args.bytes.now in
    let key = c.args.key.now in
    let last = c.min-most.result - 16 in
    let large = c.if-more-lt16-2.false in
    let few : AreCommon kind bytes key last = common_fewer kind bytes key c.loop-passed.passed last c.loop-passed.invariant (omega (arith, c.loop-passed-test.false)) in
    let whole : last + 16 ≡ c.min-most.result = omega (arith, c.min-most.ensures, c.requires.bytes, c.requires.key) in
    subst (AreCommon kind bytes key) whole
    (common_more kind bytes key last 16 few (omega (arith, c.min-most.ensures)) (omega (arith, c.min-most.ensures)) (λ k h. c.first_other_at-more-2.ensures k h (omega (arith, h, large))))
