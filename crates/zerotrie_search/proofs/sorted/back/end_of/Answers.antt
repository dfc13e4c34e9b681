use Rattle.std.proofs.Common.{Some, None, sym, subst}
use Rattle.std.specs.Range.Bound.{bound_map}
use Rattle.zerotrie_search.specs.Lasts.{IsEnd}
use Rattle.zerotrie_search.proofs.LastLemmas.{end_included, end_excluded, end_empty}
use Rattle.zerotrie_search.proofs.sorted.back.end_of.Goals as goal

pub returns-in-Included : goal.returns-in-Included
returns-in-Included c =
    let key = c.in-Included.key.now in
    subst (λ f. IsEnd (bound_map (λ b. b.now) f) (Some (key, Some 0))) (sym c.in-Included.is) (end_included key)

pub returns-in_default : goal.returns-in_default
returns-in_default c = subst (λ f. IsEnd (bound_map (λ b. b.now) f) None) (sym c.in-Excluded.is) (end_empty c.in-Excluded.key.now c.in_default.ensures.cases)

pub returns-in-Some : goal.returns-in-Some
returns-in-Some c =
    let key = c.in-Excluded.key.now in
    let front = c.in-Some.front.now in
    let last = c.in-Some.last.now in
    subst (λ f. IsEnd (bound_map (λ b. b.now) f) (Some (front, Some last))) (sym c.in-Excluded.is) (end_excluded key front last c.in-Some.ensures.cases.0)
