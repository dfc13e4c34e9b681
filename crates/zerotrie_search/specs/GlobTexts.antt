-- Text whose last character is not complete, beside a pattern.
use Rattle.std.specs.Prelude.{ℕ, List, Bool, false, Option, Some, None}
use Rattle.zerotrie_search.specs.Globs.{Item}
use Rattle.zerotrie_search.specs.GlobMasks.{any_match}
use Rattle.zerotrie_search.specs.Pending.{pending_of}
use Rattle.zerotrie_search.specs.Texts.{text_reach}
use Rattle.zerotrie_search.specs.declared.glob.chars.GlobState.{GlobState}

-- whether items match text that continues with this from a state: what follows completes the character,
-- and then the text
abbrev pub text_match : List Item → Option GlobState → List ℕ → Bool
text_match items None key = false
text_match items (Some state) key = text_reach false (any_match state.marks 0 items) (pending_of state.pending) key
