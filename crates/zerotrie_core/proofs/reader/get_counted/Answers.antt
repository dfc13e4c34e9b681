use Rattle.std.proofs.Common.{◌+◌, arith, None}
use Rattle.zerotrie_base.specs.reader.Reading.{AlwaysFinds}
use Rattle.zerotrie_core.proofs.NodeLemmas.Read.{nothing_begins}
use Rattle.zerotrie_core.proofs.ReaderLemmas.LookUps.{comes_nowhere, comes_more, finds_at_end, finds_nothing}
use Rattle.zerotrie_base.proofs.MapLemmas.Maps.{value_found, count_found}
use Rattle.zerotrie_core.proofs.reader.get_counted.Goals as goal

pub loop-node-init : goal.loop-node-init
loop-node-init g c = record { bound = omega arith; came = comes_nowhere _ _ _ }

answered : (g : _) (c : goal.In-Answer g) → AlwaysFinds g.K.ZeroTrieWithOptions.kind c.args.bytes.now c.args.key.now c.in-Answer.answer (c.loop-node.count + 1)
answered g c =
    finds_at_end g.K.ZeroTrieWithOptions.kind c.args.bytes.now c.args.key.now c.loop-node.trie.now c.loop-node.key.now c.in-Answer.answer c.loop-node.count c.loop-node.invariant.came
    (c.in-Answer.ensures c.loop-node.trie.now c.in-Some.ensures.begins)

pub returns-in-Answer-clause-value : goal.returns-in-Answer-clause-value
returns-in-Answer-clause-value g c = value_found _ _ _ _ _ (answered g c)

pub returns-in-Answer-clause-count : goal.returns-in-Answer-clause-count
returns-in-Answer-clause-count g c = count_found _ _ _ _ _ (answered g c)

pub loop-node-preserved : goal.loop-node-preserved
loop-node-preserved g c =
    let down = c.in-Down.ensures c.loop-node.trie.now c.in-Some.ensures.begins in
    record {
      bound = omega (arith, down.1);
      came = comes_more g.K.ZeroTrieWithOptions.kind c.args.bytes.now c.args.key.now c.loop-node.trie.now c.loop-node.key.now c.in-Down.below.now c.in-Down.after.now c.loop-node.count c.in-Down.nodes c.loop-node.invariant.came down.2;
    }

ended : (g : _) (c : goal.In_default g) → AlwaysFinds g.K.ZeroTrieWithOptions.kind c.args.bytes.now c.args.key.now None c.loop-node.count
ended g c = finds_nothing g.K.ZeroTrieWithOptions.kind c.args.bytes.now c.args.key.now c.loop-node.trie.now c.loop-node.key.now c.loop-node.count c.loop-node.invariant.came (nothing_begins g.K.ZeroTrieWithOptions.kind c.loop-node.trie.now c.in_default.ensures.node)

pub returns-clause-value : goal.returns-clause-value
returns-clause-value g c = value_found _ _ _ _ _ (ended g c)

pub returns-clause-count : goal.returns-clause-count
returns-clause-count g c = count_found _ _ _ _ _ (ended g c)
