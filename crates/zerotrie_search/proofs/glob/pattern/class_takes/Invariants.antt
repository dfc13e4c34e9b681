use Rattle.std.proofs.Common.{◌≡◌, length}
use Rattle.zerotrie_search.specs.Globs.{class_at}
use Rattle.zerotrie_search.specs.GlobMasks.{letters_in, class_has, or_found}
use Rattle.zerotrie_search.proofs.glob.pattern.class_takes.Given as goal

abbrev pub invariant-loop-escaped : goal.invariant-loop-escaped
invariant-loop-escaped l = class_has l.letter (class_at (letters_in l.text)) ≡ or_found l.found (class_has l.letter (class_at (letters_in l.left)))

abbrev pub decreases-loop-escaped : goal.decreases-loop-escaped
decreases-loop-escaped l = length (letters_in l.left)
