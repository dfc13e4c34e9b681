use Rattle.zerotrie_base.specs.Branches.{blocks, ends}
use Rattle.zerotrie_build.specs.array.Texts.{Prepends, newest_first, lens_of}
use Rattle.zerotrie_build.proofs.array.text.Text.put_offsets.Given as goal

abbrev pub invariant-loop-place : goal.invariant-loop-place
invariant-loop-place l = Prepends l.initial.self l.self (blocks l.place (ends (lens_of (newest_first l.siblings))))
