use Rattle.zerotrie_run_tests.specs.Laws.{story_in}
use Rattle.zerotrie_run_tests.proofs.LawLemmas.{combine_refused, combined_opens}
use Rattle.zerotrie_run_tests.proofs.laws.combines.Goals as goal

pub returns-clause-opens : goal.returns-clause-opens
returns-clause-opens c = combined_opens c.combined_opens.ensures c.args.combine c.args.input.now (story_in c.args.files.now.disk) (story_in c.run_over.new.files.disk) c.run_over.result c.run_over.ensures

pub returns-clause-refused : goal.returns-clause-refused
returns-clause-refused c = combine_refused c.combine_refused_exactly.ensures c.args.combine c.args.input.now (story_in c.args.files.now.disk) (story_in c.run_over.new.files.disk) c.run_over.result c.run_over.ensures
