use Rattle.std.proofs.Common.{subst, sym}
use Rattle.zerotrie.specs.Kind.{perfect_hash}
use Rattle.zerotrie.specs.Machine.{after_steps}
use Rattle.zerotrie.specs.Places.{ListsAt}
use Rattle.zerotrie.proofs.Cursors.{value_behind}
use Rattle.zerotrie_uses.proofs.cursors.find_behind.Goals as goal

pub returns : goal.returns
returns g c m means =
    let left = after_steps perfect_hash c.args.prefix.now means.pairs in
    let lists = c.go_down.ensures means.pairs (subst (λ place. ListsAt perfect_hash place means.pairs) (sym c.cursor-cursor.ensures) means.lists) in
    let taken = c.take_value.ensures.meaning (after_steps perfect_hash c.args.key.now left) (c.go_down-2.ensures left lists) in
    value_behind perfect_hash (g.S.TrieStore.stored c.args.trie.now.store) m means c.steps_look_ahead.ensures.pairs c.go_down.new.cursor c.args.prefix.now c.args.key.now c.take_value.result lists taken.0
