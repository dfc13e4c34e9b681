use Rattle.std.proofs.Common.{take, None}
use Rattle.std.specs.List.{AllZip}
use Rattle.zerotrie_run.specs.Runs.{OpensBy}
use Rattle.zerotrie_run.specs.declared.command.Check.TheVariants.{Full}
use Rattle.zerotrie_run.proofs.combine.open_all.Given as goal

abbrev pub invariant-loop-number : goal.invariant-loop-number
invariant-loop-number l = AllZip (λ bytes trie. OpensBy Full None bytes.items trie.kind trie.bytes.now) (take l.number l.held) l.tries.items
