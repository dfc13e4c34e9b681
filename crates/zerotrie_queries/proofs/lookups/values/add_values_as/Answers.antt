use Rattle.std.proofs.Common.{◌≡◌, ◌+◌, [], ◌++◌, drop, sym, ◌∙◌, ap, append-nil, arith}
use Rattle.std.specs.Prelude.{◌&&◌}
use Rattle.std.proofs.Math.ListN.{drop_of_length-le}
use Rattle.zerotrie_queries.specs.Answers.{answers}
use Rattle.zerotrie_queries.specs.Printed.{value_lines, are_found}
use Rattle.zerotrie_queries.proofs.FoundLemmas.{and_true, next_answer, more_values}
use Rattle.zerotrie_queries.proofs.lookups.values.add_values_as.Goals as goal

pub loop-key-preserved : goal.loop-key-preserved
loop-key-preserved g c = (
  c.get-value.ensures.kept ∙ c.loop-key.invariant.0,
  λ m means.
      let kind = g.K.ZeroTrieWithOptions.kind in
      let keys = c.args.keys.now in
      let i = c.loop-key.key-index in
      let each = rw c.loop-key.invariant.0 at c.get-value.ensures.value in
      more_values c.loop-key.lines.items c.add_value.new.line.items c.args.lines.now.items c.loop-key.all c.is_some-all.result c.get-value.result
      (answers kind m (drop i keys)) (answers kind m (drop (i + 1) keys)) (answers kind m keys)
      (next_answer kind m keys i c.get-value.result (omega arith) (each m means)) c.in_ok-add_value.ensures c.is_some-all.ensures (c.loop-key.invariant.1 m means),
)

pub returns : goal.returns
returns g c = λ m means.
    let kind = g.K.ZeroTrieWithOptions.kind in
    let lines = c.loop-key.lines.items in
    let none : drop c.loop-key.key-index c.args.keys.now ≡ [] = drop_of_length-le c.args.keys.now (omega arith) in
    let old = c.loop-key.invariant.1 m means in (
      sym (append-nil lines) ∙ ap (λ ks. lines ++ value_lines (answers kind m ks)) (sym none) ∙ old.0,
      sym (and_true c.loop-key.all) ∙ ap (λ ks. c.loop-key.all && are_found (answers kind m ks)) (sym none) ∙ old.1,
    )
