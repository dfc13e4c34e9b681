use Rattle.zerotrie_base.proofs.MapLemmas.Kinds.{ascii_spanless}
use Rattle.zerotrie_core.proofs.CursorLemmas.Calls.{probe_text}
use Rattle.zerotrie_core.proofs.cursor.probe.Goals as goal

pub returns-clause-meaning : goal.returns-clause-meaning
returns-clause-meaning g c =
    let kind = g.K.ZeroTrieWithOptions.kind in
    probe_text kind c.requires c.args.bytes.now.now c.args.index c.in-Some.along.edge c.in-Some.edges c.min.result c.in-Some.along.run.now c.in-Some.along.trie.now c.min.ensures
    (c.in-Some.ensures.plain (ascii_spanless kind c.requires)) c.in-Some.ensures.probe
