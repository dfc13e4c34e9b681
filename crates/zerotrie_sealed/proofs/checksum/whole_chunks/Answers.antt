-- A chunk more, and the bytes behind it.
use Rattle.std.proofs.Common.{◌≡◌, take, drop}
use Rattle.zerotrie_sealed.proofs.Chunks.{after-parts}
use Rattle.zerotrie_sealed.proofs.checksum.whole_chunks.Goals as goal

pub loop-chunk-preserved : goal.loop-chunk-preserved
loop-chunk-preserved c =
    let chunk : c.in-Some.chunk.now ≡ take 16 c.loop-chunk.rest.now = c.in-Some.ensures.cases.0 in
    let behind : c.in-Some.behind.now ≡ drop 16 c.loop-chunk.rest.now = c.in-Some.ensures.cases.1 in
    cc (after-parts 16 c.loop-chunk.remainder c.loop-chunk.rest.now)
