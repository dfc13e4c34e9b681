use Rattle.std.proofs.Common.{◌∙◌, ap, sym}
use Rattle.std.specs.Prelude.{◌==◌}
use Rattle.std.specs.Int.{bit_at}
use Rattle.std.proofs.lemmas.Nat.Bits.{shr_and_one}
use Rattle.zerotrie_search.proofs.MarkLemmas.{end_match}
use Rattle.zerotrie_search.proofs.glob.masks.Masks.is_match.Goals as goal

pub returns : goal.returns
returns c all are =
    let marks = c.args.marks in
    ap (λ n. n == 1) (shr_and_one marks c.args.self.now.last) ∙ ap (λ p. bit_at marks p == 1) are.last ∙ sym (end_match marks all)
