use Rattle.zerotrie_files.proofs.DeedLemmas.{fills_then}
use Rattle.zerotrie_files.proofs.DiskLemmas.{filled_then}
use Rattle.zerotrie_files.proofs.replacing.take_path.Goals as goal

pub returns-clause-story : goal.returns-clause-story
returns-clause-story g c =
    filled_then c.args.path.now c.args.beside.now c.args.bytes.now c.rename.result _ _ _ c.requires c.in_ok-fill.ensures.story c.rename.ensures.story

pub returns-clause-deeds : goal.returns-clause-deeds
returns-clause-deeds g c = fills_then c.args.path.now c.args.beside.now c.args.mode c.args.bytes.now c.rename.result _ _ _ c.in_ok-fill.ensures.deeds c.rename.ensures.deeds
