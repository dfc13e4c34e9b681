use Rattle.std.proofs.Common.{◌≡◌, length, subst, arith}
use Rattle.std.specs.Prelude.{◌↔◌, IsTrue}
use Rattle.std.proofs.lemmas.List.{take_all}
use Rattle.zerotrie_base.specs.Maps.{Map}
use Rattle.zerotrie_base.specs.Texts.{Means}
use Rattle.zerotrie_core.specs.WellFormed.{IsWellFormed, IsShallow, deep}
use Rattle.zerotrie_core.proofs.well_formed.is_well_formed_counted.Goals as goal

pub returns-clause-yes : goal.returns-clause-yes
returns-clause-yes g c = subst (λ x. IsTrue c.is_text_counted.result.0 ↔ IsWellFormed g.K.ZeroTrieWithOptions.kind x) (take_all (length c.args.bytes.now) c.args.bytes.now (omega arith))
    (λ e. (c.is_text_counted.ensures.yes.0 e).1, λ well. c.is_text_counted.ensures.yes.1 (tt, well))

pub returns-clause-count : goal.returns-clause-count
returns-clause-count g c =
    subst (λ x. (m : Map) (means : Means g.K.ZeroTrieWithOptions.kind x m) → c.is_text_counted.result.1 ≡ deep means.lists) (take_all (length c.args.bytes.now) c.args.bytes.now (omega arith))
    (c.is_text_counted.ensures.count tt)

pub returns-clause-shallow : goal.returns-clause-shallow
returns-clause-shallow g c = subst (λ x. IsShallow x c.is_text_counted.result.1) (take_all (length c.args.bytes.now) c.args.bytes.now (omega arith)) c.is_text_counted.ensures.shallow
