use Rattle.std.proofs.Common.{inr}
use Rattle.zerotrie_base.specs.Items.{keyed}
use Rattle.zerotrie_build.proofs.Building.{some_foreign}
use Rattle.zerotrie_build.proofs.builder.build_given.Goals as goal

pub returns-then-not-are_keys : goal.returns-then-not-are_keys
returns-then-not-are_keys g c =
    inr (
      (λ e. cc),
      some_foreign g.K.ZeroTrieWithOptions.kind (keyed g.Key.TrieKey.key c.args.given.now)
          (λ all. let yes = c.are_keys.ensures.keys.1 all in let no = c.if-not-are_keys.true in absurd (cc)),
    )
