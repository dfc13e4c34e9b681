use Rattle.std.proofs.Common.{rules}
use Rattle.zerotrie_queries.proofs.RankLemmas.{greatest_held, sort_ranks_by}
use Rattle.zerotrie_queries.proofs.listing.greatest.keep_greatest.Goals as goal

pub returns : goal.returns
returns c =
    let xs = c.args.held.now.items in
    let ys = c.sort_by.new.self.items in
    greatest_held c.args.most xs ys c.truncate.new.self.items (sort_ranks_by (λ e. e.1) xs ys c.in_ok-sort_by.ensures.sorted c.in_ok-sort_by.ensures.stable (λ a r q k. search rules)) c.truncate.ensures.items
