use Rattle.std.proofs.Common.{rules}
use Rattle.std.specs.Prelude.{IsUtf8}
use Rattle.zerotrie_making.proofs.PlaceLemmas.{no_utf8}
use Rattle.zerotrie_making.proofs.json_pairs.read_json.Goals as goal

pub returns-in-Err-clause-err : goal.returns-in-Err-clause-err
returns-in-Err-clause-err c =
    let bytes = c.without_mark-bytes.result.now in
    let none : IsUtf8 bytes → ⊥ = search rules in
    no_utf8 c.args.input.now bytes c.valid_up_to.result c.not_json.result c.without_mark-bytes.ensures none c.not_json.ensures
