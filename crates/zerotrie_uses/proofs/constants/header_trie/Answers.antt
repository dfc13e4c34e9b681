use Rattle.std.proofs.Common.{◌≡◌, inl, rules}
use Rattle.std.proofs.lemmas.Result.{IfErr-at_err}
use Rattle.zerotrie.specs.Kind.{simple_ascii}
use Rattle.zerotrie.specs.Routes.{ascending}
use Rattle.zerotrie.specs.declared.ZeroTrieBuildError.TheVariants.{OutOfMemory}
use Rattle.zerotrie.proofs.Constants.{clean_build}
use Rattle.zerotrie_uses.proofs.HeaderTable.{headers, clean}
use Rattle.zerotrie_uses.proofs.constants.header_trie.Goals as goal

pub unreachable-requires : goal.unreachable-requires
unreachable-requires c =
    let only = clean_build ascending simple_ascii (λ t. t.store.items) headers c.try_from_sorted_slice.result (inl tt) clean c.try_from_sorted_slice.ensures in
    let is : c.in-Err.field-0 ≡ OutOfMemory = IfErr-at_err (λ e. e ≡ OutOfMemory) c.in-Err.is only in
    search rules
