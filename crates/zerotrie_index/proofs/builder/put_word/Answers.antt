use Rattle.std.proofs.Common.{rules}
use Rattle.zerotrie_index.specs.Layout.{word}
use Rattle.zerotrie_index.proofs.builder.put_word.Goals as goal

pub returns : goal.returns
unfolding word
returns g c = search rules
