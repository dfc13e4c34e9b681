use Rattle.std.proofs.Common.{Some}
use Rattle.zerotrie_base.proofs.MapLemmas.Kinds.{ascii_spanless}
use Rattle.zerotrie_core.proofs.CursorLemmas.Calls.{step_text}
use Rattle.zerotrie_core.proofs.cursor.step.Goals as goal

pub returns-clause-meaning : goal.returns-clause-meaning
returns-clause-meaning g c =
    let kind = g.K.ZeroTrieWithOptions.kind in
    step_text kind c.args.bytes.now.now c.args.byte (Some c.in-Some.along.edge) c.in-Some.along.run.now c.in-Some.along.trie.now (c.in-Some.ensures.plain (ascii_spanless kind c.requires)) c.in-Some.ensures.step
