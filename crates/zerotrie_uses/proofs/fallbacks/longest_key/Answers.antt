use Rattle.std.proofs.Common.{sym, subst}
use Rattle.zerotrie.specs.Kind.{simple_ascii}
use Rattle.zerotrie.specs.Fallback.{IsLongestKey}
use Rattle.zerotrie.proofs.Fallbacks.{is_longest_key, no_longest_key}
use Rattle.zerotrie_uses.proofs.fallbacks.longest_key.Goals as goal

pub returns-in_err-_len : goal.returns-in_err-_len
returns-in_err-_len g c m means =
    subst (IsLongestKey simple_ascii m c.args.text.now) (sym c.from_residual.ensures) (no_longest_key simple_ascii m c.args.text.now (c.in_err-_len.ensures.longest m means))

pub returns : goal.returns
returns g c m means = is_longest_key simple_ascii m c.args.text.now c.in_ok-_len._len c.in_ok-_len.value (c.in_ok-_len.ensures.longest m means)
