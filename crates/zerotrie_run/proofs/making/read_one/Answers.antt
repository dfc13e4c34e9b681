use Rattle.std.proofs.Common.{refl}
use Rattle.zerotrie_run.proofs.making.read_one.Goals as goal

pub returns-in-Some-clause-err : goal.returns-in-Some-clause-err
returns-in-Some-clause-err g c =
    let files = g.D.Disk.story c.args.files.now.disk in
    let refused = rw c.file_of.ensures at c.in-Some.ensures in
    (refl, (c.in-Tries.field-0, c.in-Tries.is), refused files c.in-Ok.ensures.opens)
