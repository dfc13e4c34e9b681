use Rattle.std.proofs.Common.{◌≡◌, refl, false}
use Rattle.std.specs.Str.{chars}
use Rattle.zerotrie_search.specs.Globs.{cased, items}
use Rattle.zerotrie_search.specs.GlobMasks.{any_match}
use Rattle.zerotrie_search.specs.Pending.{pending_of}
use Rattle.zerotrie_search.proofs.CharLemmas.{first_text}
use Rattle.zerotrie_search.proofs.glob.chars.GlobCharsAutomaton.wanted.Goals as goal

pub returns-then-is_over : goal.returns-then-is_over
returns-then-is_over c byte low out key =
    let s = c.args.self.now in
    let all = cased s.any_case (items (chars s.pattern.now)) in
    let state = c.in_ok-state.state in
    rw c.in_ok-state.was (first_text (λ x. x ≡ false) false (any_match state.marks 0 all) (pending_of state.pending) key byte (c.is_none.ensures.0 c.if-not-is_none.false) refl (λ letter rest is. c.is_over.ensures c.if-is_over.true all s.are letter (chars rest)))
