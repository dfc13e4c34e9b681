use Rattle.std.proofs.Common.{◌∙◌, sym, false}
use Rattle.std.proofs.lemmas.Bool.{true≢false}
use Rattle.std.specs.Str.{chars}
use Rattle.zerotrie_search.specs.Globs.{cased, items}
use Rattle.zerotrie_search.specs.GlobMasks.{any_match}
use Rattle.zerotrie_search.specs.Pending.{pending_of}
use Rattle.zerotrie_search.proofs.CharLemmas.{none_pending, some_pending}
use Rattle.zerotrie_search.proofs.glob.chars.GlobCharsAutomaton.is_match.Goals as goal

pub returns-then-is_none : goal.returns-then-is_none
returns-then-is_none c =
    let s = c.args.self.now in
    let state = c.in-Some.state in
    let all = cased s.any_case (items (chars s.pattern.now)) in
    rw c.in-Some.is (c.is_match.ensures all s.are ∙ sym (none_pending false (any_match state.marks 0 all) (pending_of state.pending) (c.is_none.ensures.0 c.if-is_none.true)))

pub returns-else-is_none : goal.returns-else-is_none
returns-else-is_none c =
    let s = c.args.self.now in
    let state = c.in-Some.state in
    let all = cased s.any_case (items (chars s.pattern.now)) in
    rw c.in-Some.is (c.if-is_none.false ∙ sym (some_pending false (any_match state.marks 0 all) (pending_of state.pending) state.pending.none (λ none. true≢false (sym (c.is_none.ensures.1 none) ∙ c.if-is_none.false))))
