use Rattle.std.proofs.Common.{codes, refl}
use Rattle.zerotrie_run.proofs.messages.line.twice_line.Goals as goal

pub returns-in-Ask : goal.returns-in-Ask
returns-in-Ask c = (codes "zerotrie: standard input can't be both the file and the keys", refl)

pub returns-in-Diff : goal.returns-in-Diff
returns-in-Diff c = (codes "zerotrie: standard input can't be both files", refl)

pub returns-in-Build : goal.returns-in-Build
returns-in-Build c = (codes "zerotrie: standard input can't be two of the files", refl)
