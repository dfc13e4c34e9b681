use Rattle.zerotrie_core.proofs.FaultLemmas.Rules.{no_fault}
use Rattle.zerotrie_core.proofs.laws.no_fault_in_a_trie.Goals as goal

pub returns : goal.returns
returns c kind bytes f well fault = no_fault kind bytes f well fault
