use Rattle.std.proofs.Common.{◌≡◌, ◌∷◌, sym, subst}
use Rattle.zerotrie_sets.specs.Rows.{all_joined}
use Rattle.zerotrie_sets.specs.ManyInputs.{found_as, pendings, listed_all, IsLeast}
use Rattle.zerotrie_sets.proofs.ManyLemmas.{least_within}
use Rattle.zerotrie_sets.proofs.StepLemmas.{ends_from, steps_from}
use Rattle.zerotrie_sets.proofs.merge_all.next_row.Goals as goal

pub returns-in_default-clause-merges : goal.returns-in_default-clause-merges
returns-in_default-clause-merges g c =
    let left = g.S.PairStream.left in
    let current = g.S.PairStream.current in
    let fetched = c.fetch_all.new.inputs in
    ends_from left current (pendings left current c.args.inputs.now) fetched c.in_ok-fetch_all.ensures.fetches
    (subst (λ found. IsLeast current (found_as found) fetched) c.in_default.is c.find_least.ensures)

pub list_least-requires : goal.list_least-requires
list_least-requires g c =
    let current = g.S.PairStream.current in
    let fetched = c.fetch_all.new.inputs in
    let l = c.in-Some.least in
    least_within current l.key.now l.alone l.at fetched (subst (λ found. IsLeast current (found_as found) fetched) c.in-Some.is c.find_least.ensures)

pub returns-clause-merges : goal.returns-clause-merges
returns-clause-merges g c =
    let left = g.S.PairStream.left in
    let current = g.S.PairStream.current in
    let before = pendings left current c.args.inputs.now in
    let fetched = c.fetch_all.new.inputs in
    let after = c.list_least.new.inputs in
    let l = c.in-Some.least in
    let least = subst (λ found. IsLeast current (found_as found) fetched) c.in-Some.is c.find_least.ensures in
    let listed = c.list_least.ensures l.key.now least in
    subst (λ key. all_joined before ≡ (key, listed_all current after) ∷ all_joined (pendings left current after)) (sym listed.1)
    (steps_from left current l.key.now l.alone l.at before fetched after c.in_ok-fetch_all.ensures.fetches least listed.0)
