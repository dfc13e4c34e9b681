use Rattle.zerotrie_words.proofs.ProgramLemmas.{program_of}
use Rattle.zerotrie_words.proofs.table.commands.Goals as goal

pub returns : goal.returns
returns c = program_of _ _ _ _ _ c.look_ups.ensures c.listings.ensures c.reports.ensures c.combinations.ensures c.services.ensures
