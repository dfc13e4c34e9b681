use Rattle.std.proofs.Common.{◌≡◌, List, ℕ, map}
use Rattle.zerotrie.specs.dense.Rows.{keys, put_texts}
use Rattle.zerotrie.specs.dense.Views.{pairs_in}
use Rattle.zerotrie.proofs.dense.build.put_suffixes.Given as goal

abbrev pub invariant-loop-suffix : goal.invariant-loop-suffix
invariant-loop-suffix l = put_texts (keys (pairs_in l.suffix-iterator)) (map {B = List ℕ} (λ s. s.now) l.suffixes.keys)
    ≡ put_texts (keys (pairs_in l.entries.entries)) (map {B = List ℕ} (λ s. s.now) l.initial.suffixes.keys)
