use Rattle.std.proofs.Common.{◌∙◌, ap, sym, []}
use Rattle.zerotrie_base.specs.Maps.{with_run}
use Rattle.zerotrie_core.specs.Listings.{to_come, rest_after}
use Rattle.zerotrie_base.specs.Texts.Lists.{nothing}
use Rattle.zerotrie_core.proofs.ListingLemmas.Passed.{past_left, rest_none}
use Rattle.zerotrie_core.proofs.stream.ZeroTrieStream.after.Goals as goal

pub returns-in_default-clause-lists : goal.returns-in_default-clause-lists
returns-in_default-clause-lists g c pairs text =
    let none = rw c.in_default.is at (c.in_ok-front.ensures.behind pairs text) in
    c.new.ensures.lists [] nothing ∙ ap (λ ps. to_come (rest_after g.K.ZeroTrieWithOptions.kind c.args.key.now ps)) (sym none)

pub returns-in-Some-2-clause-lists : goal.returns-in-Some-2-clause-lists
returns-in-Some-2-clause-lists g c pairs text =
    let d = rw c.in-Some.is at (c.in_ok-front.ensures.behind pairs text) in
    let p = rw c.in-Some-2.is at (c.in_ok-stream.ensures.past d.0 d.1) in
    past_left text c.args.prefix.now c.args.key.now (with_run c.in-Some.front.items d.0) c.in-Some-2.stream.left d.2 p

pub returns-in-None-clause-lists : goal.returns-in-None-clause-lists
returns-in-None-clause-lists g c pairs text =
    let kind = g.K.ZeroTrieWithOptions.kind in
    let key = c.args.key.now in
    let d = rw c.in-Some.is at (c.in_ok-front.ensures.behind pairs text) in
    let p = rw c.in-None.is at (c.in_ok-stream.ensures.past d.0 d.1) in
    c.new-in-None.ensures.lists [] nothing ∙ ap to_come (sym (rest_none kind key (with_run c.in-Some.front.items d.0) p)) ∙ ap (λ ps. to_come (rest_after kind key ps)) (sym d.2)

pub returns-in_default-clause-grouped : goal.returns-in_default-clause-grouped
returns-in_default-clause-grouped g c pairs text = c.new.ensures.grouped [] nothing

pub returns-in-Some-2-clause-grouped : goal.returns-in-Some-2-clause-grouped
returns-in-Some-2-clause-grouped g c pairs text =
    let d = rw c.in-Some.is at (c.in_ok-front.ensures.behind pairs text) in
    (rw c.in-Some-2.is at c.in_ok-stream.ensures.grouped) d.0 d.1

pub returns-in-None-clause-grouped : goal.returns-in-None-clause-grouped
returns-in-None-clause-grouped g c pairs text = c.new-in-None.ensures.grouped [] nothing
