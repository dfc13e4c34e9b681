use Rattle.std.proofs.Common.{◌<◌, ◌^◌, arith, rules}
use Rattle.std.specs.Prelude.{slice_index}
use Rattle.zerotrie_core.specs.ByteSets.{is_in}
use Rattle.zerotrie_core.proofs.ByteSetLemmas.{word_none, past_none, least_has, least_lacks}
use Rattle.zerotrie_core.proofs.byte_set.ByteSet.least.Goals as goal

pub loop-place-init : goal.loop-place-init
loop-place-init c byte h = absurd (omega (arith, h))

pub loop-place-preserved : goal.loop-place-preserved
loop-place-preserved c = word_none c.args.self.now.words c.loop-place.place c.if-word-ne0.false c.loop-place.invariant

pub returns-then-word-ne0-clause-some : goal.returns-then-word-ne0-clause-some
unfolding is_in
returns-then-word-ne0-clause-some c =
    let words = c.args.self.now.words in
    let place = c.loop-place.place in
    let some = c.if-word-ne0.true in
    let fits : slice_index words place < 2 ^ 64 = search rules in
    least_has words place (omega (arith, some)) fits c.loop-place.invariant

pub returns-then-word-ne0-clause-least : goal.returns-then-word-ne0-clause-least
unfolding is_in
returns-then-word-ne0-clause-least c =
    let words = c.args.self.now.words in
    let place = c.loop-place.place in
    let some = c.if-word-ne0.true in
    let fits : slice_index words place < 2 ^ 64 = search rules in
    least_lacks words place (omega (arith, some)) fits c.loop-place.invariant

pub returns-clause-none : goal.returns-clause-none
unfolding is_in
returns-clause-none c = past_none c.args.self.now.words c.args.self.now.whole (λ byte h. c.loop-place.invariant byte (let over = c.loop-place-test.false in omega (arith, h, over)))
