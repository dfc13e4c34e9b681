use Rattle.std.proofs.Common.{Some, None}
use Rattle.zerotrie_search.specs.Globs.{class_at}
use Rattle.zerotrie_search.specs.GlobMasks.{letters_in}
use Rattle.zerotrie_search.proofs.GlobLemmas.{class_read}
use Rattle.zerotrie_search.proofs.glob.pattern.class_item.Goals as goal

pub returns-in_err-has : goal.returns-in_err-has
returns-in_err-has c =
    let f = c.in_ok-_first in
    rw c.from_residual-in_err-has.ensures
    (class_read c.args.letter c.args.negated (class_at (letters_in c.args.text)) f._first.0 (class_at (letters_in f._first.1)) None f.ensures.is c.in_err-has.ensures)

pub returns : goal.returns
returns c =
    let f = c.in_ok-_first in
    class_read c.args.letter c.args.negated (class_at (letters_in c.args.text)) f._first.0 (class_at (letters_in f._first.1)) (Some (c.in_ok-has.has, letters_in c.in_ok-has.rest)) f.ensures.is c.in_ok-has.ensures
