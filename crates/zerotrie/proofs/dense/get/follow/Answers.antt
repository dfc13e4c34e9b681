use Rattle.std.proofs.Common.{arith, ◌≡◌, [], drop, sym, ap, subst, ◌∙◌}
use Rattle.std.proofs.lemmas.Grind.{common_steps}
use Rattle.zerotrie_core.specs.Kind.{simple_ascii}
use Rattle.zerotrie_core.specs.Machine.{after_steps}
use Rattle.zerotrie_core.specs.Texts.{Lists}
use Rattle.zerotrie_core.proofs.CallerLemmas.{nothing_listed}
use Rattle.zerotrie.proofs.StepLemmas.{after_none}
use Rattle.zerotrie.proofs.dense.get.follow.Goals as goal

pub returns-then-is_empty : goal.returns-then-is_empty
returns-then-is_empty c = λ pairs lists.
    let kept = c.loop-byte.invariant pairs lists in
    let nothing : c.loop-byte.trie.now ≡ [] = grind (arith, common_steps) in
    let none : kept.0 ≡ [] = nothing_listed kept.1 nothing in
    let rest = drop c.loop-byte.byte-index c.args.key.now in
    let same : kept.0 ≡ after_steps simple_ascii c.args.key.now pairs = none ∙ sym (after_none rest) ∙ ap (after_steps simple_ascii rest) (sym none) ∙ kept.2 in
    subst (Lists simple_ascii c.loop-byte.trie.now) same kept.1
