use Rattle.std.proofs.Common.{ap, subst, sym, ◌∙◌, None}
use Rattle.zerotrie_core.specs.Borders.{is_border}
use Rattle.zerotrie_core.specs.Prefixes.{fronts}
use Rattle.zerotrie_base.specs.Maps.{value_at}
use Rattle.zerotrie_core.proofs.BorderLemmas.{Finds, begins, ends, last_of}
use Rattle.zerotrie_core.proofs.borders.longest_prefix_at.Goals as goal

pub loop-len-init : goal.loop-len-init
loop-len-init g c =
    let kind = g.K.ZeroTrieWithOptions.kind in
    let counts = is_border c.args.delimiters.now c.args.text.now in
    let is = c.into_iter-len-iterator.ensures.into_iter_gives ∙ c.new-len-items.ensures in record {
      finds = λ pairs lists. subst (λ s. Finds counts None s (last_of counts None (fronts (value_at kind pairs) 0 c.args.text.now))) (sym is)
          (begins kind counts c.args.bytes.now c.args.text.now pairs lists);
      text = ap (λ s. s.text) is;
      within = tt;
    }

pub returns-clause-longest : goal.returns-clause-longest
returns-clause-longest g c m means =
    ends g.K.ZeroTrieWithOptions.kind c.args.bytes.now c.args.delimiters.now c.args.text.now m means c.loop-len.longest c.loop-len.len-iterator c.next.new.self
    c.in-None.ensures.steps (c.loop-len.invariant.finds means.pairs means.lists)
