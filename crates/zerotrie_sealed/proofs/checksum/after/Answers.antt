-- A byte more of those behind the chunks.
use Rattle.std.proofs.Common.{◌<◌, get_or, drop, sym, ◌∙◌, rules}
use Rattle.std.proofs.lemmas.List.{drop_all}
use Rattle.zerotrie_sealed.proofs.Chunks.{after-byte, after-none}
use Rattle.zerotrie_sealed.proofs.checksum.after.Goals as goal

pub loop-byte-preserved : goal.loop-byte-preserved
loop-byte-preserved c =
    let low : get_or c.whole_chunks-chunks.result.1.now c.loop-byte.byte-index 0 < 256 = search rules in
    cc (after-byte c.loop-byte.byte-index c.loop-byte.remainder c.whole_chunks-chunks.result.1.now c.loop-byte-test.true low)

pub returns : goal.returns
returns c =
    sym (after-none c.loop-byte.remainder (drop c.loop-byte.byte-index c.whole_chunks-chunks.result.1.now)
    (drop_all c.loop-byte.byte-index c.whole_chunks-chunks.result.1.now c.loop-byte-test.false))
    ∙ c.loop-byte.invariant
