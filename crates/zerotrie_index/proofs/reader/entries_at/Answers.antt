use Rattle.std.proofs.Common.{rules, arith, ◌≡◌, ◌+◌, ◌*◌, ◌<◌, ◌^◌, ◌++◌, length, ap, ◌∙◌, suc, take, drop, get_or}
use Rattle.std.specs.List.{flat_map}
use Rattle.std.proofs.lemmas.List.{length-drop}
use Rattle.std.proofs.lemmas.List.Elements.{All-get_or}
use Rattle.zerotrie_index.specs.Layout.{word}
use Rattle.zerotrie_index.proofs.WordLemmas.{length-words, words_from}
use Rattle.zerotrie_index.proofs.PlacedLemmas.{two_words}
use Rattle.zerotrie_index.proofs.reader.entries_at.Goals as goal

pub returns-in_err-from : goal.returns-in_err-from
returns-in_err-from c entries is below inside = absurd (let long = ap length is ∙ length-words entries in let short = c.in_err-from.ensures.cases in omega arith)

pub returns-in_err-both : goal.returns-in_err-both
returns-in_err-both c entries is below inside = absurd (let long = ap length is ∙ length-words entries in
    let left = ap length c.in_ok-from.ensures.cases.2 ∙ length-drop (8 * c.args.number) c.args.table.now in let short = c.in_err-both.ensures.cases in omega arith)

pub returns : goal.returns
returns c entries is below inside =
    let n = c.args.number in
    let table = flat_map word entries in
    let long : length c.in_ok-both.both.now ≡ 16 = search rules in
    let part : c.in_ok-both.both.now ≡ take 16 (drop (8 * n) c.args.table.now) = search rules in
    two_words c.args.table.now (8 * n) c.in_ok-both.both.now _ _ long (rw long part) c.eight_at.ensures c.eight_at-2.ensures
    (get_or entries n 0) (get_or entries (n + 1) 0) (drop (8 * suc (suc n)) table)
    (All-get_or (λ x. x < 2 ^ 64) entries n 0 (omega arith) below) (All-get_or (λ x. x < 2 ^ 64) entries (n + 1) 0 inside below)
    (ap (drop (8 * n)) is ∙ words_from entries n (omega arith) ∙ ap (λ x. word (get_or entries n 0) ++ x) (words_from entries (suc n) (omega arith))
    ∙ ap (λ i. word (get_or entries n 0) ++ (word (get_or entries i 0) ++ drop (8 * suc (suc n)) table)) (omega arith))
