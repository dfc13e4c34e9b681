use Rattle.std.proofs.Common.{sym, subst}
use Rattle.zerotrie_search.specs.Globs.{opened}
use Rattle.zerotrie_search.specs.GlobMasks.{letters_in}
use Rattle.zerotrie_search.specs.declared.glob.pattern.Item.{Item}
use Rattle.zerotrie_search.specs.declared.glob.pattern.Text.{Text}
use Rattle.zerotrie_search.proofs.GlobLemmas.{IsShorter, opened_shorter, read_shorter}
use Rattle.zerotrie_search.proofs.glob.pattern.first_item.Goals as goal

pub returns-then-first-eq-OPEN-clause-left : goal.returns-then-first-eq-OPEN-clause-left
returns-then-first-eq-OPEN-clause-left c =
    let f = c.in_ok-first in
    let rest = letters_in f.rest in
    read_shorter {X = Item × Text} (λ r. ((r.0.role, r.0.takes), letters_in r.1)) c.args.letter (letters_in c.args.pattern) c.opened.result (opened rest) c.opened.ensures
    (subst (λ p. IsShorter p (opened rest)) (sym f.ensures) (opened_shorter f.first rest))
