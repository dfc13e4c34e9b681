use Rattle.std.proofs.Common.{◌≡◌, ◌∙◌, sym, subst, refl, ap, true, false}
use Rattle.zerotrie_core.specs.Items.{keyed}
use Rattle.zerotrie_core.specs.Kind.{simple_ascii, perfect_hash}
use Rattle.zerotrie_core.specs.Routes.{HoldsOfItsPairs}
use Rattle.zerotrie_any.specs.Auto.{is_simple}
use Rattle.zerotrie_any.specs.Flavors.{flavor_kind}
use Rattle.zerotrie_any.proofs.AutoLemmas.{auto_of_all}
use Rattle.zerotrie_any.proofs.trie.ZeroTrie+Vec+u8.try_from_iter.Goals as goal

pub returns-then-is_simple : goal.returns-then-is_simple
returns-then-is_simple g c =
    let key = g.Key.TrieKey.key in
    let run = c.in_ok-pairs.ensures.runs tt in
    let test : is_simple (keyed key c.in_ok-pairs.pairs.items) ≡ true = ap (λ xs. is_simple (keyed key xs)) (sym c.as_slice.ensures.value) ∙ sym c.is_simple.ensures ∙ c.if-is_simple.true in
    auto_of_all {OfAll = HoldsOfItsPairs g.U.IntoIterator.into_iter_gives g.U.IntoIter.Iterator.next_gives key c.args.iter} (λ t. flavor_kind t.flavor) (λ t. t.store.items) simple_ascii (keyed key c.in_ok-pairs.pairs.items) c.build_pairs.result
    (λ Fact h. (c.into_iter.result, c.into_iter.ensures.into_iter_gives, (run.0, run.1, run.2, subst (λ xs. Fact (keyed key xs)) run.3.0 h)))
    (rw test refl) c.build_pairs.ensures.kind c.build_pairs.ensures.build

pub returns-else-is_simple : goal.returns-else-is_simple
returns-else-is_simple g c =
    let key = g.Key.TrieKey.key in
    let run = c.in_ok-pairs.ensures.runs tt in
    let test : is_simple (keyed key c.in_ok-pairs.pairs.items) ≡ false = ap (λ xs. is_simple (keyed key xs)) (sym c.as_slice.ensures.value) ∙ sym c.is_simple.ensures ∙ c.if-is_simple.false in
    auto_of_all {OfAll = HoldsOfItsPairs g.U.IntoIterator.into_iter_gives g.U.IntoIter.Iterator.next_gives key c.args.iter} (λ t. flavor_kind t.flavor) (λ t. t.store.items) perfect_hash (keyed key c.in_ok-pairs.pairs.items) c.build_pairs-else-is_simple.result
    (λ Fact h. (c.into_iter.result, c.into_iter.ensures.into_iter_gives, (run.0, run.1, run.2, subst (λ xs. Fact (keyed key xs)) run.3.0 h)))
    (rw test refl) c.build_pairs-else-is_simple.ensures.kind c.build_pairs-else-is_simple.ensures.build
