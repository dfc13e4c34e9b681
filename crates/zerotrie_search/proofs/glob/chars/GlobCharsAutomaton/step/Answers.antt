use Rattle.std.proofs.Common.{false}
use Rattle.std.specs.Str.{chars}
use Rattle.zerotrie_search.specs.Globs.{cased, items}
use Rattle.zerotrie_search.specs.GlobMasks.{any_match}
use Rattle.zerotrie_search.specs.Pending.{pending_of}
use Rattle.zerotrie_search.proofs.CharLemmas.{taken_on, taken_letter, taken_none}
use Rattle.zerotrie_search.proofs.glob.chars.GlobCharsAutomaton.step.Goals as goal

pub returns-in-More-clause-is : goal.returns-in-More-clause-is
returns-in-More-clause-is c key =
    let s = c.args.self.now in
    let state = c.in_ok-state.state in
    let all = cased s.any_case (items (chars s.pattern.now)) in
    rw c.in_ok-state.was (taken_on false (any_match state.marks 0 all) (pending_of state.pending) (pending_of c.in-More.pending) key c.args.byte (rw c.in-More.is at c.and.ensures))

pub returns-in-Letter-clause-is : goal.returns-in-Letter-clause-is
returns-in-Letter-clause-is c key =
    let s = c.args.self.now in
    let state = c.in_ok-state.state in
    let all = cased s.any_case (items (chars s.pattern.now)) in
    let taken = rw c.in-Letter.is at c.and.ensures in
    rw c.in_ok-state.was (taken_letter false (any_match state.marks 0 all) (any_match c.step.result 0 all) (pending_of state.pending) (pending_of c.none.result) key c.args.byte c.in-Letter.letter c.none.ensures
    (λ letters. c.step.ensures all c.in-Letter.letter letters s.are c.takers.ensures) taken)

pub returns-in-Malformed-clause-is : goal.returns-in-Malformed-clause-is
returns-in-Malformed-clause-is c key =
    let s = c.args.self.now in
    let state = c.in_ok-state.state in
    let all = cased s.any_case (items (chars s.pattern.now)) in
    let taken = rw c.in-Malformed.is at c.and.ensures in
    rw c.in_ok-state.was (taken_none false (any_match state.marks 0 all) (pending_of state.pending) key c.args.byte (taken key))
