use Rattle.std.proofs.Common.{rules, ◌≡◌, ◌==◌, ◌<◌, ◌∙◌, ◌≤◌, ◌+◌, length, true, false, not, ap, subst, sym, arith}
use Rattle.std.specs.FinMap.{entries}
use Rattle.std.specs.Range.Bound.{bound_map}
use Rattle.zerotrie_queries.specs.Chosen.{AreBelow, IsFolded, at_edits, chosen}
use Rattle.zerotrie_queries.proofs.FoldLemmas.{closest_here, closest_beyond, folded_at}
use Rattle.zerotrie_queries.proofs.listing.listed.fewest_edits.Goals as goal

pub has_chosen-requires-clause-folded : goal.has_chosen-requires-clause-folded
has_chosen-requires-clause-folded c = subst (IsFolded c.args.trie.now.kind) (sym c.with_edits.ensures) (folded_at c.args.trie.now.kind c.loop-edits.edits c.args.choice c.requires.folded)

pub has_chosen-requires-clause-above : goal.has_chosen-requires-clause-above
has_chosen-requires-clause-above c = subst (λ d. AreBelow d.prefix.now (bound_map (λ b. b.now) c.args.above)) (sym c.with_edits.ensures) c.requires.above

pub returns-then-branch : goal.returns-then-branch
returns-then-branch c = λ m means.
    let kind = c.args.trie.now.kind in
    let choice = c.args.choice in
    let e = c.loop-edits.edits in
    let less : e < c.edits-edits-end.result = search rules in
    let found : c.in_ok-has_chosen.field-0 ≡ true = search rules in
    let some : (length (chosen kind (at_edits e choice) (entries m)) == 0) ≡ false
    = subst (λ d. (length (chosen kind d (entries m)) == 0) ≡ false) c.with_edits.ensures (c.in_ok-has_chosen.ensures m means ∙ ap not found) in
    c.loop-edits.invariant.2 m means ∙ closest_here kind choice (entries m) e c.edits-edits-end.result less some

pub loop-edits-preserved : goal.loop-edits-preserved
loop-edits-preserved c =
    let kind = c.args.trie.now.kind in
    let choice = c.args.choice in
    let e = c.loop-edits.edits in
    let less : e < c.edits-edits-end.result = search rules in
    let found : c.in_ok-has_chosen.field-0 ≡ false = search rules in
    let next : e + 1 ≤ c.edits-edits-end.result = omega (arith, less) in (
      c.loop-edits.invariant.0,
      next,
      λ m means.
          let none : (length (chosen kind (at_edits e choice) (entries m)) == 0) ≡ true
          = subst (λ d. (length (chosen kind d (entries m)) == 0) ≡ true) c.with_edits.ensures (c.in_ok-has_chosen.ensures m means ∙ ap not found) in
          c.loop-edits.invariant.2 m means ∙ closest_beyond kind choice (entries m) e c.edits-edits-end.result less none,
    )
