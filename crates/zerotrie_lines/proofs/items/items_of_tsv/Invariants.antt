use Rattle.std.proofs.Common.{ℕ, length, Any, false}
use Rattle.zerotrie_lines.specs.Tables.{pairs_of}
use Rattle.zerotrie_lines.specs.Lines.{ended_lines}
use Rattle.zerotrie_lines.specs.Reads.{IsNotPlain}
use Rattle.zerotrie_lines.specs.declared.reading.Format.TheVariants.{Tsv}
use Rattle.zerotrie_lines.proofs.ReadLemmas.{ReadTo}
use Rattle.zerotrie_lines.proofs.items.items_of_tsv.Given as goal

abbrev pub invariant-loop-rest : goal.invariant-loop-rest
invariant-loop-rest l = ((first : ℕ) → (n : ℕ) × ReadTo first Tsv (ended_lines l.end l.text) (pairs_of l.items.items) n (ended_lines l.end l.rest))
    × (Any (IsNotPlain false) (ended_lines l.end l.rest) → Any (IsNotPlain false) (ended_lines l.end l.text))

abbrev pub decreases-loop-rest : goal.decreases-loop-rest
decreases-loop-rest l = length l.rest
