use Rattle.zerotrie_making.proofs.RefusedLemmas.{refused}
use Rattle.zerotrie_making.proofs.laws.refused_makes_no_file.Goals as goal

pub returns : goal.returns
returns c = refused c.one_reading.ensures c.bad_is_unread.ensures c.index_excludes_causes.ensures
