-- The table, sealed, and then the index.
use Rattle.std.proofs.Common.{rules, ◌≡◌, subst}
use Rattle.zerotrie_sealed.specs.Sealed.{blocks_number, table_of, IsSealedAs}
use Rattle.zerotrie_sealed.proofs.writing.seal_index.Goals as goal

pub returns : goal.returns
returns c =
    let front = c.in_ok-file.file.items in
    let table : c.as_slice.result.now ≡ table_of c.args.index.now = search rules in
    record {
      front = front;
      sealed = subst (λ t. IsSealedAs blocks_number t front) table c.in_ok-file.ensures;
      parts = search rules;
      fits = search rules;
    }
