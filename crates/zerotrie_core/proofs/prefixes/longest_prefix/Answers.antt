use Rattle.std.proofs.Common.{◌+◌, length, None, sym, subst, arith}
use Rattle.zerotrie_core.specs.Places.{ListsAt}
use Rattle.zerotrie_core.proofs.CursorLemmas.Longest.{starts, goes_on, stops, ends, of_map, no_edge, within_noted, within_more}
use Rattle.zerotrie_core.proofs.prefixes.longest_prefix.Goals as goal

pub loop-index-init : goal.loop-index-init
loop-index-init g c =
    let kind = g.K.ZeroTrieWithOptions.kind in
    rw c.noted-longest.ensures
    (record {
      along = λ pairs lists. starts kind pairs c.args.text.now c.new-cursor.result c.take_value.new.self c.take_value.result
          (subst (λ p. ListsAt kind p pairs) (sym c.new-cursor.ensures) lists) (c.take_value.ensures.meaning kind);
      within = within_noted c.take_value.result 0 0 None tt (omega arith);
    })

pub loop-index-preserved : goal.loop-index-preserved
loop-index-preserved g c =
    let kind = g.K.ZeroTrieWithOptions.kind in
    rw c.noted-longest-in-loop-index.ensures
    (record {
      along = λ pairs lists. goes_on kind pairs c.args.text.now c.loop-index.index c.loop-index.cursor c.step.new.self c.take_value-in-loop-index.new.self c.step.result c.take_value-in-loop-index.result c.loop-index.longest
          c.steps_look_ahead.ensures.pairs (omega arith) (c.loop-index.invariant.along pairs lists) c.step.ensures.meaning (c.take_value-in-loop-index.ensures.meaning kind);
      within = within_noted c.take_value-in-loop-index.result (c.loop-index.index + 1) c.loop-index.index c.loop-index.longest c.loop-index.invariant.within (omega arith);
    })

pub returns-then-is_none-clause-longest : goal.returns-then-is_none-clause-longest
returns-then-is_none-clause-longest g c m means =
    let kind = g.K.ZeroTrieWithOptions.kind in
    of_map kind c.args.bytes.now c.args.text.now m means c.loop-index.longest
    (stops kind means.pairs c.args.text.now c.loop-index.index c.loop-index.cursor c.step.new.self c.step.result c.loop-index.longest c.steps_look_ahead.ensures.pairs (omega arith)
    (c.loop-index.invariant.along means.pairs means.lists) c.step.ensures.meaning (no_edge c.step.result c.if-is_none.ensures))

pub returns-clause-longest : goal.returns-clause-longest
returns-clause-longest g c m means =
    let kind = g.K.ZeroTrieWithOptions.kind in
    of_map kind c.args.bytes.now c.args.text.now m means c.loop-index.longest
    (ends kind means.pairs c.args.text.now c.loop-index.index c.loop-index.cursor c.loop-index.longest (c.loop-index.invariant.along means.pairs means.lists) (omega arith))

pub returns-then-is_none-clause-within : goal.returns-then-is_none-clause-within
returns-then-is_none-clause-within g c = within_more c.loop-index.longest c.loop-index.index (length c.args.text.now) c.loop-index.invariant.within (omega arith)

pub returns-clause-within : goal.returns-clause-within
returns-clause-within g c = within_more c.loop-index.longest c.loop-index.index (length c.args.text.now) c.loop-index.invariant.within (omega arith)
