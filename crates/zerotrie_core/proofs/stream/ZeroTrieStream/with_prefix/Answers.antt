use Rattle.std.proofs.Common.{◌∙◌, ap, sym, []}
use Rattle.zerotrie_core.specs.Listings.{to_come}
use Rattle.zerotrie_base.specs.Texts.Lists.{nothing}
use Rattle.zerotrie_core.proofs.stream.ZeroTrieStream.with_prefix.Goals as goal

pub returns-in-Some-clause-lists : goal.returns-in-Some-clause-lists
returns-in-Some-clause-lists g c pairs text =
    let d = rw c.in-Some.is at (c.in_ok-front.ensures.behind pairs text) in
    c.behind.ensures.lists d.0 d.1 ∙ ap to_come (sym d.2)

pub returns-in-None-clause-lists : goal.returns-in-None-clause-lists
returns-in-None-clause-lists g c pairs text =
    let none = rw c.in-None.is at (c.in_ok-front.ensures.behind pairs text) in
    c.new.ensures.lists [] nothing ∙ ap to_come (sym none)

pub returns-in-Some-clause-grouped : goal.returns-in-Some-clause-grouped
returns-in-Some-clause-grouped g c pairs text =
    let d = rw c.in-Some.is at (c.in_ok-front.ensures.behind pairs text) in
    c.behind.ensures.grouped d.0 d.1

pub returns-in-None-clause-grouped : goal.returns-in-None-clause-grouped
returns-in-None-clause-grouped g c pairs text = c.new.ensures.grouped [] nothing
