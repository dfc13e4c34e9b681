-- Why a run has no status.
use Rattle.std.specs.Prelude.{ℕ, List, codes}
use Rattle.zerotrie_session.specs.declared.running.RunError.{RunError}
use Rattle.zerotrie_session.specs.declared.running.RunError.TheVariants.{Read, Write, OutOfMemory}

-- what is printed to standard error
abbrev pub fault_text : RunError → List ℕ
fault_text Read = codes "read failed"
fault_text Write = codes "write failed"
fault_text OutOfMemory = codes "out of memory"
