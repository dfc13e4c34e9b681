use Rattle.std.proofs.Common.{◌<◌, length, subst, sym, rules}
use Rattle.std.specs.Prelude.{◌^◌}
use Rattle.zerotrie.specs.Kind.{perfect_hash}
use Rattle.zerotrie.specs.Places.{ListsAt}
use Rattle.zerotrie.proofs.Cursors.{suffixes_mean}
use Rattle.zerotrie_uses.proofs.cursors.suffixes_of.Goals as goal

pub returns : goal.returns
returns g c m means =
    let lists = c.go_down.ensures means.pairs (subst (λ place. ListsAt perfect_hash place means.pairs) (sym c.cursor-cursor.ensures) means.lists) in
    let short : length c.in_ok-suffixes.suffixes.store.now < 2 ^ 64 = search (rules, c.into_suffix_trie.type_inv) in
    suffixes_mean perfect_hash _ c.in_ok-suffixes.suffixes.store.now m means c.steps_look_ahead.ensures.maps c.args.prefix.now short (c.in_ok-suffixes.ensures.lists _ lists)
