use Rattle.zerotrie_run_tests.specs.Laws.{story_in}
use Rattle.zerotrie_run_tests.proofs.LawLemmas.{asked_refused}
use Rattle.zerotrie_run_tests.proofs.laws.asks.Goals as goal

pub returns : goal.returns
returns c = asked_refused c.refused_exactly.ensures c.args.file c.args.question c.args.input.now (story_in c.args.files.now.disk) (story_in c.run_over.new.files.disk) c.run_over.result c.run_over.ensures
