use Rattle.std.proofs.Common.{nat_lt, rules, tests}
use Rattle.std.specs.List.{list_all}
use Rattle.std.proofs.lemmas.Iterator.Search.{all_from_yields_List}
use Rattle.std.proofs.lemmas.Iterator.{YieldsList-from_slice}
use Rattle.std.proofs.lemmas.List.Folds.{list_all-map}
use Rattle.zerotrie_base.proofs.PlainLemmas.Items.{ascii_told}
use Rattle.zerotrie_base.proofs.pairs.are_ascii.Goals as goal

pub returns : goal.returns
returns g c =
    rw list_all-map
    (all_from_yields_List (λ p. list_all (λ b. nat_lt b 128) (g.P.TriePair.pair p).0) _ _ c.all.result c.all.ensures.ran (YieldsList-from_slice c.args.pairs.now c.iter.ensures.rest) (λ x b q k. search (rules, tests, ascii_told)))
