use Rattle.std.proofs.lemmas.Result.{err_from_is_err_and}
use Rattle.zerotrie_ascii.proofs.trie.AsciiTrie+K+Vec+u8.try_from_iter.Goals as goal

pub returns-in_err-store : goal.returns-in_err-store
returns-in_err-store g c =
    let same = err_from_is_err_and c.from_residual.result c.from_residual.ensures.1 in
    rw (same.1, same.2) c.in_err-store.ensures

pub returns : goal.returns
returns g c = rw c.from_store.ensures c.in_ok-store.ensures
