use Rattle.std.proofs.Common.{sym}
use Rattle.zerotrie_words.specs.Tasks.{NamesNoTask}
use Rattle.zerotrie_words.proofs.ReadLemmas.{if_none, no_command_found, no_task_found}
use Rattle.zerotrie_words.proofs.task.task_in.Goals as goal

pub returns-in_err-name-clause-none : goal.returns-in_err-name-clause-none
returns-in_err-name-clause-none c =
    if_none c.from_residual.result (NamesNoTask c.args.matches.now) (no_command_found c.args.matches.now (sym c.in_err-name.ensures.name))

pub returns-clause-none : goal.returns-clause-none
returns-clause-none c = no_task_found c.args.matches.now c.in_ok-name.name.now c.in_ok-name.ensures.name c.in-None.ensures.none
