use Rattle.std.proofs.Common.{◌++◌, [], sym}
use Rattle.zerotrie_base.proofs.NumberLemmas.Spellings.{one_spelling, no_front, spells_spelled, below_metadata}
use Rattle.zerotrie_base.proofs.CanonicalLemmas.Canonical.{bytes_end}
use Rattle.zerotrie_base.proofs.laws.one_spelling.Goals as goal

pub returns-clause-each : goal.returns-clause-each
returns-clause-each c L m v form below = spells_spelled L m v below form

pub returns-clause-one : goal.returns-clause-one
returns-clause-one c = one_spelling

pub returns-clause-metadata_alone : goal.returns-clause-metadata_alone
returns-clause-metadata_alone c L m v bytes s = below_metadata L m v bytes s

pub returns-clause-none_longer : goal.returns-clause-none_longer
returns-clause-none_longer c L m n v w bytes more s t =
    (no_front L m n v w bytes (bytes ++ more) more [] s t (sym (bytes_end (bytes ++ more)))).1
