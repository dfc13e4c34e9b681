use Rattle.std.proofs.Common.{◌≤◌, ◌∙◌, ap, length, refl, subst, sym}
use Rattle.std.proofs.lemmas.List.{length-map}
use Rattle.zerotrie_base.specs.Maps.{with_run}
use Rattle.zerotrie_core.specs.Listings.{to_come}
use Rattle.zerotrie_core.specs.listing.Listed.{listed}
use Rattle.zerotrie_core.proofs.ListingLemmas.Nodes.{listed_pairs, listed_most}
use Rattle.zerotrie_core.proofs.ListingLemmas.Left.{fresh_left}
use Rattle.zerotrie_core.specs.listing.Grouped.{AreGrouped}
use Rattle.zerotrie_core.proofs.ListingLemmas.Grouped.{starts_grouped}
use Rattle.zerotrie_core.proofs.stream.ZeroTrieStream.behind.Goals as goal

pub standing-requires : goal.standing-requires
standing-requires g c = c.closed-branches.ensures.stands (length c.args.front.items)

pub returns-clause-always : goal.returns-clause-always
returns-clause-always g c =
    let front = c.args.front.items in
    let closed = c.closed-branches.ensures in
    rw (c.standing.ensures.left, c.at.ensures)
    (ap to_come (fresh_left g.K.ZeroTrieWithOptions.kind front c.args.bytes.now c.closed-branches.result (closed.stands (length front)) closed.none))

pub returns-clause-lists : goal.returns-clause-lists
returns-clause-lists g c pairs text =
    let front = c.args.front.items in
    let closed = c.closed-branches.ensures in
    rw (c.standing.ensures.left, c.at.ensures)
    (ap to_come (fresh_left g.K.ZeroTrieWithOptions.kind front c.args.bytes.now c.closed-branches.result (closed.stands (length front)) closed.none ∙ ap (with_run front) (listed_pairs text)))

pub returns-clause-most : goal.returns-clause-most
returns-clause-most g c =
    let kind = g.K.ZeroTrieWithOptions.kind in
    let bytes = c.args.bytes.now in
    let front = c.args.front.items in
    let closed = c.closed-branches.ensures in
    rw (c.standing.ensures.left, c.at.ensures)
    (subst (λ ps. length ps ≤ length bytes) (sym (fresh_left kind front bytes c.closed-branches.result (closed.stands (length front)) closed.none))
    (subst (λ n. n ≤ length bytes) (sym (length-map (listed kind bytes) _)) (listed_most kind bytes)))

pub returns-clause-fresh : goal.returns-clause-fresh
returns-clause-fresh g c = rw c.standing.ensures.left refl

pub returns-clause-grouped : goal.returns-clause-grouped
returns-clause-grouped g c pairs text =
    let kind = g.K.ZeroTrieWithOptions.kind in
    let front = c.args.front.items in
    let grouped = starts_grouped kind front c.args.bytes.now pairs c.closed-branches.result text (c.closed-branches.ensures.entered kind front (length front)) in
    c.standing.ensures.grouped (subst (λ r. AreGrouped kind front r c.closed-branches.result) (sym c.at.ensures) grouped)
