use Rattle.std.proofs.Common.{◌≡◌, ◌∙◌, ◌⊎◌, inl, inr}
use Rattle.zerotrie_search.specs.Globs.{stays_in}
use Rattle.zerotrie_search.specs.declared.glob.pattern.Role.TheVariants.{Many, Group, Comma, End, Letter}
use Rattle.zerotrie_search.proofs.GlobLemmas.{stays_known}
use Rattle.zerotrie_search.proofs.glob.pattern.Role.stays_in.Goals as goal

pub returns-in-Group : goal.returns-in-Group
returns-in-Group c i is = stays_known c.args.in_group i Group (is ∙ c.in-Group.is)

pub returns-in-End : goal.returns-in-End
returns-in-End c i is = stays_known c.args.in_group i End (is ∙ c.in-End.is)

pub returns-in-Many : goal.returns-in-Many
returns-in-Many c i is = by_case c.in-Many.is
  where
    by_case : (c.args.self ≡ Many) ⊎ ((c.args.self ≡ Comma) ⊎ (c.args.self ≡ Letter)) → c.args.in_group ≡ stays_in c.args.in_group i
    by_case (inl star) = stays_known c.args.in_group i Many (is ∙ star)
    by_case (inr (inl comma)) = stays_known c.args.in_group i Comma (is ∙ comma)
    by_case (inr (inr letter)) = stays_known c.args.in_group i Letter (is ∙ letter)
