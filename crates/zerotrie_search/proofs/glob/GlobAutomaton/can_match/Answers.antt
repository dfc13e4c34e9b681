use Rattle.std.proofs.Common.{◌∙◌, ap}
use Rattle.std.proofs.lemmas.Bool.{not-false, eqb-true}
use Rattle.zerotrie_search.specs.Globs as glob
use Rattle.zerotrie_search.specs.GlobMasks.{any_match}
use Rattle.zerotrie_search.proofs.MarkLemmas.{no_marks}
use Rattle.zerotrie_search.proofs.glob.GlobAutomaton.can_match.Goals as goal

pub returns : goal.returns
returns c dead key =
    ap (λ marks. any_match marks 0 (glob.cased c.args.self.now.any_case (glob.items c.args.self.now.pattern.now)) key) (eqb-true c.args.state 0 (not-false _ dead))
    ∙ no_marks 0 (glob.cased c.args.self.now.any_case (glob.items c.args.self.now.pattern.now)) key
