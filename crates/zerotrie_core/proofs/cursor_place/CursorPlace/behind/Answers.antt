use Rattle.std.proofs.Common.{◌-◌, length, refl}
use Rattle.zerotrie_core.proofs.CursorLemmas.Between.{lies_between}
use Rattle.zerotrie_core.proofs.cursor_place.CursorPlace.behind.Goals as goal

pub returns : goal.returns
returns c bytes inside lies =
    let a = c.args.along in
    let end = c.args.self.end - a.after in
    let trie = end - length a.trie.now in
    lies_between bytes c.args.self (record { run = trie - length a.run.now; trie = trie; end = end }) a.run.now a.trie.now a.after inside lies refl refl refl
