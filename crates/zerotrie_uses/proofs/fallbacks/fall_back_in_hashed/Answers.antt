use Rattle.std.proofs.Common.{◌∙◌, sym}
use Rattle.std.specs.Prelude.{codes}
use Rattle.zerotrie.specs.Kind.{perfect_hash}
use Rattle.zerotrie.proofs.Fallbacks.{begins, takes, passes, ends, is_fallback}
use Rattle.zerotrie.specs.Borders.{is_border}
use Rattle.zerotrie_uses.proofs.fallbacks.fall_back_in_hashed.Goals as goal

pub loop-len-init : goal.loop-len-init
loop-len-init g c m means =
    begins perfect_hash (is_border (codes "-") c.args.name.now) _ c.args.name.now m means _ (c.into_iter-len-iterator.ensures.into_iter_gives ∙ c.common_prefixes-len-items.ensures)

pub loop-len-preserved-then-ends_part : goal.loop-len-preserved-then-ends_part
loop-len-preserved-then-ends_part g c m means =
    takes (is_border (codes "-") c.args.name.now) c.loop-len.found _ c.loop-len.len-iterator c.next.new.self (c.in-Some.len, c.in-Some.value) c.in-Some.ensures.steps (sym c.ends_part.ensures ∙ c.if-ends_part.true) (c.loop-len.invariant m means)

pub loop-len-preserved : goal.loop-len-preserved
loop-len-preserved g c m means =
    passes (is_border (codes "-") c.args.name.now) c.loop-len.found _ c.loop-len.len-iterator c.next.new.self (c.in-Some.len, c.in-Some.value) c.in-Some.ensures.steps (sym c.ends_part.ensures ∙ c.if-ends_part.false) (c.loop-len.invariant m means)

pub returns : goal.returns
returns g c m means =
    is_fallback (codes "-") perfect_hash m c.args.name.now c.loop-len.found
    (ends perfect_hash (is_border (codes "-") c.args.name.now) c.args.name.now m c.loop-len.found c.loop-len.len-iterator c.next.new.self c.in-None.ensures.steps (c.loop-len.invariant m means))
