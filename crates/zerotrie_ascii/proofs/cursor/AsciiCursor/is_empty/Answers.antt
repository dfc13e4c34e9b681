use Rattle.std.proofs.Common.{◌∙◌, ap, length}
use Rattle.std.specs.Prelude.{◌==◌}
use Rattle.zerotrie_ascii.proofs.WritingLemmas.{tells_empty}
use Rattle.zerotrie_ascii.proofs.cursor.AsciiCursor.is_empty.Goals as goal

pub returns-clause-pairs : goal.returns-clause-pairs
returns-clause-pairs g c pairs lists =
    tells_empty g.K.ZeroTrieWithOptions.kind c.args.self.now pairs lists c.is_empty.result
    (c.is_empty.ensures ∙ ap (λ bytes. length bytes == 0) c.self.view_is)
