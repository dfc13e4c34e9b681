use Rattle.zerotrie_run_tests.proofs.MakingLemmas.{none_made, none_reads}
use Rattle.zerotrie_run_tests.proofs.making.makes.Goals as goal

pub returns-clause-none : goal.returns-clause-none
returns-clause-none c = none_made c.refused_makes_no_file.ensures c.args.plan c.args.input.items c.make.result c.make.ensures.err

pub returns-clause-unread : goal.returns-clause-unread
returns-clause-unread c = none_reads c.unread_makes_no_file.ensures c.args.plan c.args.input.items c.make.result c.make.ensures.err
