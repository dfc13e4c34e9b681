use Rattle.zerotrie_run_tests.proofs.MakingLemmas.{none_whole, some_whole}
use Rattle.zerotrie_run_tests.proofs.making.parses_value.Goals as goal

pub returns-clause-some : goal.returns-clause-some
returns-clause-some c = some_whole c.whole_is_number.ensures c.args.digits.now c.parse_number.result c.parse_number.ensures.some

pub returns-clause-none : goal.returns-clause-none
returns-clause-none c = none_whole c.whole_is_number.ensures c.args.digits.now c.parse_number.result c.parse_number.ensures.none
