use Rattle.std.proofs.Common.{refl}
use Rattle.std.proofs.KnownBytes.{Appends-kept}
use Rattle.std.specs.Io.Buffered.{writer_contents}
use Rattle.zerotrie_queries.proofs.PartLemmas.{on_err, part_all}
use Rattle.zerotrie_run.proofs.place.write_place.Goals as goal

pub returns-in_err-hand_on-in-Stream-clause-err : goal.returns-in_err-hand_on-in-Stream-clause-err
returns-in_err-hand_on-in-Stream-clause-err g c =
    let contents = writer_contents g.W.Write.contents in
    let old = contents c.args.output.now.inner in
    let mid = contents c.write_bytes.new.self.inner in
    let new = contents c.hand_on.new.self.inner in
    let bytes = c.args.bytes.now in
    on_err c.from_residual-in_err-hand_on-in-Stream.result
    (rw c.in-Stream.is (part_all old new bytes (Appends-kept old mid new bytes c.in_ok-write_bytes-in-Stream.ensures.all c.hand_on.ensures.bytes), refl))
