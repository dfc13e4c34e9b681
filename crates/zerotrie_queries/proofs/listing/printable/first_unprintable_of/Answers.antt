use Rattle.std.proofs.Common.{rules, ◌≡◌, ◌∷◌, ◌∙◌, true, false, subst, sym, ap}
use Rattle.zerotrie_queries.specs.Printed.{IsFirstUnprintable, can_print}
use Rattle.zerotrie_queries.proofs.PrintableLemmas.{printable_more, unprintable_more, unprintable_here}
use Rattle.zerotrie_queries.proofs.LimitLemmas.{next_pair}
use Rattle.zerotrie_queries.proofs.listing.printable.first_unprintable_of.Goals as goal

pub loop-pairs-preserved : goal.loop-pairs-preserved
loop-pairs-preserved g c =
    let before = g.P.TrieListing.left c.loop-pairs.pairs in
    let after = g.P.TrieListing.left c.advance.new.self in
    let now = g.P.TrieListing.current c.advance.new.self in
    let more : c.in_ok-advance.field-0 ≡ true = search rules in
    let is : can_print c.args.form now.0 ≡ true = search rules in
    let first : g.P.TrieListing.IsValid c.args.pairs → before.pairs ≡ now ∷ after.pairs
    = λ valid. next_pair before after now c.in_ok-advance.field-0 more (c.in_ok-advance.ensures.lists (c.loop-pairs.invariant.valid valid)) in
    record {
      valid = λ valid. c.advance.ensures.valid (c.loop-pairs.invariant.valid valid);
      some = λ valid key h. c.loop-pairs.invariant.some valid key (unprintable_more c.args.form before.pairs after.pairs now.0 now.1 key (first valid) is h);
      none = λ valid. printable_more c.args.form before.pairs after.pairs now.0 now.1 (first valid) is ∙ c.loop-pairs.invariant.none valid;
    }

pub returns-then-not-can_print-clause-some : goal.returns-then-not-can_print-clause-some
returns-then-not-can_print-clause-some g c =
    let before = g.P.TrieListing.left c.loop-pairs.pairs in
    let after = g.P.TrieListing.left c.advance.new.self in
    let now = g.P.TrieListing.current c.advance.new.self in
    let more : c.in_ok-advance.field-0 ≡ true = search rules in
    let no : can_print c.args.form now.0 ≡ false = search rules in
    let same : c.in_ok-copied.field-0.items ≡ now.0 = search rules in (
      ap (can_print c.args.form) same ∙ no,
      λ valid.
          let first = next_pair before after now c.in_ok-advance.field-0 more (c.in_ok-advance.ensures.lists (c.loop-pairs.invariant.valid valid)) in
          subst (IsFirstUnprintable c.args.form (g.P.TrieListing.left c.args.pairs).pairs) (sym same)
          (c.loop-pairs.invariant.some valid now.0 (unprintable_here c.args.form before.pairs after.pairs now.0 now.1 first no)),
    )
