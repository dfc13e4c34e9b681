use Rattle.std.proofs.Common.{◌∙◌}
use Rattle.zerotrie_search.specs.declared.glob.pattern.Role.TheVariants.{Many}
use Rattle.zerotrie_search.proofs.MarkLemmas.{after_by}
use Rattle.zerotrie_search.proofs.glob.masks.after.Goals as goal

pub returns-in-Many : goal.returns-in-Many
returns-in-Many c i all more key is so_far on = on.all ∙ after_by Many i more key (is ∙ c.in-Many.is)
