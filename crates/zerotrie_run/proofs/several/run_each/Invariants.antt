use Rattle.std.proofs.Common.{◌≡◌, List}
use Rattle.zerotrie_run.specs.Statuses.{AreRuns, AreRunsFrom, worst_of}
use Rattle.zerotrie_run.specs.declared.status.Status.{Status}
use Rattle.zerotrie_run.specs.declared.status.Status.TheVariants.{Done}
use Rattle.zerotrie_run.proofs.several.run_each.Given as goal

-- what is run for the other files ends all so
abbrev pub invariant-loop-file : goal.invariant-loop-file
invariant-loop-file g l = (rest : List Status) → AreRunsFrom (λ file status. g.F.Fn.post l.run (file, tt) status) l.worst l.file l.files rest
    → (statuses : List Status) × AreRuns (λ file status. g.F.Fn.post l.run (file, tt) status) l.files statuses × (worst_of l.worst rest ≡ worst_of Done statuses)
