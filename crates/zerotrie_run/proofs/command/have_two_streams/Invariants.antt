use Rattle.std.proofs.Common.{◌≡◌, drop}
use Rattle.zerotrie_run.specs.Runs.{streams}
use Rattle.zerotrie_run.proofs.StreamLemmas.{seen}
use Rattle.zerotrie_run.proofs.command.have_two_streams.Given as goal

abbrev pub invariant-loop-place : goal.invariant-loop-place
invariant-loop-place l = seen l.found (streams (drop l.place-index l.places)) ≡ streams l.places
