use Rattle.zerotrie_run_tests.specs.Laws.{story_in}
use Rattle.zerotrie_run_tests.proofs.LawLemmas.{built_opens, unmade_refused}
use Rattle.zerotrie_run_tests.proofs.laws.builds.Goals as goal

pub returns-clause-opens : goal.returns-clause-opens
returns-clause-opens c = built_opens c.made_opens.ensures c.made_index_opens.ensures c.args.build c.args.input.now (story_in c.args.files.now.disk) (story_in c.run_over.new.files.disk) c.run_over.result c.run_over.ensures

pub returns-clause-refused : goal.returns-clause-refused
returns-clause-refused c = unmade_refused c.unmade_is_refused.ensures c.args.build c.args.input.now (story_in c.args.files.now.disk) (story_in c.run_over.new.files.disk) c.run_over.result c.run_over.ensures
