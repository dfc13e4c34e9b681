use Rattle.zerotrie_files.proofs.DeedLemmas.{gets_unknown}
use Rattle.zerotrie_files.proofs.system.SystemDiskDisk.append.Goals as goal

pub returns-clause-deeds : goal.returns-clause-deeds
returns-clause-deeds g c = gets_unknown c.args.path.now c.args.bytes.now c.write_all.result
