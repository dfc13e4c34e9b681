use Rattle.std.proofs.Common.{◌≡◌, ◌⊎◌, ℕ}
use Rattle.std.specs.Io.KnownBytes.{Consumes}
use Rattle.zerotrie_lines.specs.Blocks.{HasFeed}
use Rattle.zerotrie_making.specs.Others.{HasUtf16Mark}
use Rattle.zerotrie_run.proofs.stdin_lines.read_start.Given as goal

abbrev pub invariant-loop : goal.invariant-loop
invariant-loop g l = record {
  consumes : Consumes (g.R.Read.remaining l.initial.input.inner) (g.R.Read.remaining l.input.inner) l.held.items;
  open_yet : ((k : ℕ) → HasFeed l.held.items k → ⊥) ⊎ HasUtf16Mark l.held.items;
  noted : l.input.failed ≡ l.initial.input.failed;
}
