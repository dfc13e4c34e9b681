use Rattle.zerotrie.proofs.RecordLemmas.{record_asks, record_is_one}
use Rattle.zerotrie.proofs.dense.laws.one_record.Goals as goal

pub returns-clause-asks : goal.returns-clause-asks
returns-clause-asks c t w = record_asks t w

pub returns-clause-one : goal.returns-clause-one
returns-clause-one c s t v w e = record_is_one s t v w e
