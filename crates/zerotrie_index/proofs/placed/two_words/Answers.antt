use Rattle.std.proofs.Common.{rules, ◌≡◌, length}
use Rattle.zerotrie_index.proofs.PlacedLemmas.{two_words}
use Rattle.zerotrie_index.proofs.placed.two_words.Goals as goal

pub returns-clause-words : goal.returns-clause-words
returns-clause-words g c =
    let long : length c.fill.new.room ≡ 16 = search rules in
    (c.fill.new.room, c.in_ok-fill.ensures.part, λ bytes has. two_words bytes c.args.place c.fill.new.room _ _ long has c.eight_at.ensures c.eight_at-2.ensures)
