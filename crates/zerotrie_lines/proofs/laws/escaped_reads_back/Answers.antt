use Rattle.std.proofs.Common.{sym, subst}
use Rattle.zerotrie_lines.specs.Escapes.{Spells, escaped}
use Rattle.zerotrie_lines.proofs.BackLemmas.{spells_back, one_key}
use Rattle.zerotrie_lines.proofs.laws.escaped_reads_back.Goals as goal

pub returns : goal.returns
returns c = λ key other. (
  λ h. one_key (escaped key) key other (spells_back key) h,
  λ is. subst (λ k. Spells (escaped key) k) (sym is) (spells_back key),
)
