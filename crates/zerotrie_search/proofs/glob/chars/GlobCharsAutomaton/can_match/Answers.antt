use Rattle.std.proofs.Common.{◌≡◌, ◌∙◌, ap, refl, false}
use Rattle.std.proofs.lemmas.Bool.{not-false, eqb-true}
use Rattle.std.specs.Str.{chars}
use Rattle.zerotrie_search.specs.Globs.{cased, items}
use Rattle.zerotrie_search.specs.GlobMasks.{any_match}
use Rattle.zerotrie_search.specs.Pending.{pending_of}
use Rattle.zerotrie_search.proofs.MarkLemmas.{no_marks}
use Rattle.zerotrie_search.proofs.CharLemmas.{all_text}
use Rattle.zerotrie_search.proofs.glob.chars.GlobCharsAutomaton.can_match.Goals as goal

pub returns-in-Some : goal.returns-in-Some
returns-in-Some c dead key =
    let all = cased c.args.self.now.any_case (items (chars c.args.self.now.pattern.now)) in
    let state = c.in-Some.state in
    rw c.in-Some.is (all_text (λ x. x ≡ false) false (any_match state.marks 0 all) (pending_of state.pending) key refl (λ cs. ap (λ m. any_match m 0 all cs) (eqb-true state.marks 0 (not-false _ dead)) ∙ no_marks 0 all cs))
