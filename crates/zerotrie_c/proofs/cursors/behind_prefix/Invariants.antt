use Rattle.std.proofs.Common.{take}
use Rattle.std.specs.Prelude.{IsTrue}
use Rattle.zerotrie_core.specs.CursorPlaces.{cursor_at, is_in}
use Rattle.zerotrie_core.specs.Maps.{Pairs}
use Rattle.zerotrie_core.specs.Texts.{Lists}
use Rattle.zerotrie_core.specs.Machine.{after_steps}
use Rattle.zerotrie_core.specs.Places.{ListsAt}
use Rattle.zerotrie_c.proofs.cursors.behind_prefix.Given as goal

abbrev pub invariant-loop-byte : goal.invariant-loop-byte
invariant-loop-byte g l = ((pairs : Pairs) → Lists g.K.ZeroTrieWithOptions.kind l.bytes pairs
    → ListsAt g.K.ZeroTrieWithOptions.kind (cursor_at l.bytes l.here) (after_steps g.K.ZeroTrieWithOptions.kind (take l.byte-index l.prefix) pairs))
    × IsTrue (is_in l.bytes l.here)
