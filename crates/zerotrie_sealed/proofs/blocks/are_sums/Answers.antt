-- The checksum of a block is another one, or what follows decides.
use Rattle.std.proofs.Common.{◌++◌, drop, sym, ap, ◌∙◌}
use Rattle.std.specs.Int.{w32, to_le_bytes}
use Rattle.std.proofs.lemmas.Bool.{false≢true}
use Rattle.zerotrie_sealed.specs.Checksum.{crc32c}
use Rattle.zerotrie_sealed.proofs.blocks.are_sums.Goals as goal

pub returns-in_default : goal.returns-in_default
returns-in_default c =
    (λ no. absurd (false≢true no), λ all. absurd (c.in_default.ensures.none _ (c.loop-rest.invariant.1 all ∙ c.first_block.ensures.sums)))

pub loop-rest-preserved : goal.loop-rest-preserved
loop-rest-preserved c =
    let sum = to_le_bytes w32 (crc32c c.first_block.result.0.now) in (
      λ e. c.loop-rest.invariant.0 (c.in-Some.ensures.some ∙ ap (λ l. sum ++ l) e ∙ sym c.first_block.ensures.sums),
      λ all. ap (drop 4) (sym c.in-Some.ensures.some ∙ c.loop-rest.invariant.1 all ∙ c.first_block.ensures.sums),
    )
