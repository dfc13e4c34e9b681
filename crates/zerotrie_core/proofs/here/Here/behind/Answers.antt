use Rattle.std.proofs.Common.{◌∙◌, ap, sym, take, length}
use Rattle.zerotrie_core.proofs.ListingLemmas.Left.{cut_behind}
use Rattle.zerotrie_core.proofs.here.Here.behind.Goals as goal

pub invariant_of-result : goal.invariant_of-result
invariant_of-result c =
    let here = c.args.self in
    let back = c.split_at.result.1.now in
    let cut = c.split_at-2.ensures.front in
    record {
      lies = cut ∙ ap (λ x. take (length x) back) (sym (cut_behind here.tail.now here.rest.now c.args.after.now back c.split_at-2.result.0.now here.lies c.requires c.split_at.ensures.back cut));
    }

pub returns : goal.returns
returns c = cut_behind c.args.self.tail.now c.args.self.rest.now c.args.after.now c.split_at.result.1.now c.split_at-2.result.0.now c.args.self.lies c.requires c.split_at.ensures.back c.split_at-2.ensures.front
