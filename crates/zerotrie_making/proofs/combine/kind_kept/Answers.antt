use Rattle.std.proofs.Common.{◌≡◌, ◌∷◌, None, true, false, Bool, rules, arith, sym, ◌∙◌, drop, length, ◌≤◌}
use Rattle.std.specs.Prelude.{◌==◌}
use Rattle.std.specs.List.{list_all}
use Rattle.zerotrie_core.specs.Kind.{tag}
use Rattle.zerotrie_core.specs.Kinds.{kind_of}
use Rattle.zerotrie_making.proofs.CombineLemmas.{kind_kept_of, other_kind, all_at_end}
use Rattle.zerotrie_making.proofs.combine.kind_kept.Goals as goal

pub returns-then-tag : goal.returns-then-tag
returns-then-tag c =
    let l = c.loop-trie in
    let first = c.in_ok-first.first.now in
    let others = c.in_ok-first.others.now in
    let is : c.args.tries.now ≡ first ∷ others = search rules in
    let none : c.args.named ≡ None = search rules in
    let all : Bool = list_all (λ t. tag (kind_of t.kind) == tag (kind_of first.kind)) others in
    kind_kept_of c.args.tries.now others first c.args.named false none is
    (other_kind others first l.trie-index _ c.tag.result c.tag-in-loop-trie.result all (omega (arith, c.loop-trie-test.true)) c.tag.ensures c.tag-in-loop-trie.ensures c.if-tag.true l.invariant)

pub returns : goal.returns
returns c =
    let l = c.loop-trie in
    let first = c.in_ok-first.first.now in
    let others = c.in_ok-first.others.now in
    let is : c.args.tries.now ≡ first ∷ others = search rules in
    let none : c.args.named ≡ None = search rules in
    let end : length others ≤ l.trie-index = omega (arith, c.loop-trie-test.false) in
    kind_kept_of c.args.tries.now others first c.args.named true none is (sym (all_at_end (λ t. tag (kind_of t.kind) == tag (kind_of first.kind)) others l.trie-index _ end l.invariant))
