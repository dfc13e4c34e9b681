use Rattle.std.proofs.Common.{Some, None, sym, subst}
use Rattle.std.specs.Prelude.{codes}
use Rattle.zerotrie.specs.Fallback.{IsFallback}
use Rattle.zerotrie.specs.Kind.{simple_ascii}
use Rattle.zerotrie.proofs.Fallbacks.{is_fallback, last_at_border, none_at_border}
use Rattle.zerotrie_uses.proofs.fallbacks.fall_back.Goals as goal

pub returns-in_err-_len : goal.returns-in_err-_len
returns-in_err-_len g c m means =
    let name = c.args.name.now in
    subst (IsFallback simple_ascii m (codes "-") name) (sym c.from_residual.ensures)
    (is_fallback (codes "-") simple_ascii m name None (none_at_border (codes "-") simple_ascii m name (c.in_err-_len.ensures.longest m means)))

pub returns : goal.returns
returns g c m means =
    let name = c.args.name.now in
    let found = c.in_ok-_len in
    is_fallback (codes "-") simple_ascii m name (Some found.value) (last_at_border (codes "-") simple_ascii m name found._len found.value (found.ensures.longest m means))
