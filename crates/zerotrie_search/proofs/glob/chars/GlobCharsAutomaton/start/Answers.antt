use Rattle.std.proofs.Common.{◌∙◌, ap}
use Rattle.std.specs.Prelude.{◌&&◌}
use Rattle.std.specs.Str.{chars, is_utf8}
use Rattle.zerotrie_search.specs.Globs.{cased, items}
use Rattle.zerotrie_search.specs.GlobMasks.{any_match}
use Rattle.zerotrie_search.specs.Pending.{pending_of}
use Rattle.zerotrie_search.proofs.CharLemmas.{text_start}
use Rattle.zerotrie_search.proofs.glob.chars.GlobCharsAutomaton.start.Goals as goal

pub returns-clause-is : goal.returns-clause-is
returns-clause-is c key =
    let s = c.args.self.now in
    let all = cased s.any_case (items (chars s.pattern.now)) in
    text_start (any_match c.first.result 0 all) (pending_of c.none.result) key c.none.ensures
    ∙ ap (λ m. is_utf8 key && any_match m 0 all (chars key)) c.first.ensures ∙ ap (λ x. is_utf8 key && x) (s.are.first (chars key))
