-- The checksum of a block more.
use Rattle.std.proofs.Common.{rules, ◌≡◌, ◌++◌, sym, ap, ◌∙◌}
use Rattle.std.proofs.lemmas.List.{append_assoc}
use Rattle.std.specs.Int.{w32, to_le_bytes}
use Rattle.zerotrie_sealed.specs.Checksum.{crc32c}
use Rattle.zerotrie_sealed.specs.Sealed.{sums_of}
use Rattle.zerotrie_sealed.proofs.blocks.add_sums.Goals as goal

pub loop-rest-preserved : goal.loop-rest-preserved
loop-rest-preserved c =
    let behind = c.first_block.result.1.now in
    let more : c.extend_from_slice.new.self.items ≡ c.loop-rest.sums.items ++ to_le_bytes w32 (crc32c c.first_block.result.0.now) = search rules in
    ap (λ l. l ++ sums_of behind) more
    ∙ append_assoc c.loop-rest.sums.items (to_le_bytes w32 (crc32c c.first_block.result.0.now)) (sums_of behind)
    ∙ ap (λ l. c.loop-rest.sums.items ++ l) (sym c.first_block.ensures.sums) ∙ c.loop-rest.invariant
