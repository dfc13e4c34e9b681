use Rattle.std.proofs.Common.{rules, ◌≡◌, ◌<◌, ◌^◌, ℕ, List, Bool, length, subst, sym}
use Rattle.std.specs.Range.Bound.{bound_map}
use Rattle.zerotrie_core.specs.Kinds.{kind_of}
use Rattle.zerotrie_index.specs.Tries.{folded_key}
use Rattle.zerotrie_queries.specs.Chosen.{is_matched}
use Rattle.zerotrie_queries.specs.Found.{found_from}
use Rattle.zerotrie_queries.proofs.ChoiceLemmas.{if_ok_so}
use Rattle.zerotrie_queries.proofs.SortedLemmas.{gives_between}
use Rattle.zerotrie_queries.proofs.listing.listed.by_word.Goals as goal

pub returns : goal.returns
returns g c =
    let trie = c.args.trie.now in
    let sought = c.args.choice.sought in
    let short : length trie.bytes.now < 2 ^ 64 = search rules in
    let accepts : Bool → List ℕ → Bool = λ begins key. found_from begins (g.W.Automaton.accepts c.args.word) (folded_key (kind_of trie.kind) key) in
    let same : (key : List ℕ) → accepts c.begins.result key ≡ is_matched trie.kind sought key = subst (λ b. (key : List ℕ) → accepts b key ≡ is_matched trie.kind sought key) (sym c.begins.ensures) c.requires in
    if_ok_so c.search_range.result
    (λ s kind bytes pairs. gives_between trie.kind (accepts c.begins.result) (is_matched trie.kind sought) same (bound_map (λ b. b.now) c.args.part.from) (bound_map (λ b. b.now) c.args.part.to) trie.bytes.now s.sorted.kind s.sorted.bytes s.left short kind bytes pairs)
    c.search_range.ensures.kind c.search_range.ensures.bytes c.search_range.ensures.pairs
