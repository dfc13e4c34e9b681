use Rattle.std.proofs.Common.{rules, arith, ◌≡◌, ◌++◌, ap, ◌∙◌, sym}
use Rattle.zerotrie_index.specs.Layout.{word}
use Rattle.zerotrie_index.proofs.WordLemmas.{begins_word, one_word, word_long}
use Rattle.zerotrie_index.proofs.reader.read_word.Goals as goal

pub returns : goal.returns
returns c =
    let found = c.in_ok-front.ensures.cases in
    let read : c.args.bytes.now ≡ word c.from_le_bytes.result ++ c.in_ok-front.rest.now =
    begins_word c.args.bytes.now c.from_le_bytes.result (omega (arith, found.2)) (λ i. omega (arith, c.type_inv.bytes i))
    (search rules) ∙ ap (λ x. word c.from_le_bytes.result ++ x) (sym found.1) in
    record {
      first = λ n after below is. one_word c.from_le_bytes.result n c.in_ok-front.rest.now after c.from_le_bytes.type_inv below (sym read ∙ is);
      found = read;
    }

pub returns-in_err-front-clause-first : goal.returns-in_err-front-clause-first
returns-in_err-front-clause-first c n after below is =
    absurd (let long = word_long n c.args.bytes.now after is in let none = c.in_err-front.ensures.cases in omega arith)
