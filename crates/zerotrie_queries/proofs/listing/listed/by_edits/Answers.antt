use Rattle.zerotrie_search.specs.Automata.{any_accepts, any_edits_to}
use Rattle.zerotrie_search.specs.declared.any.AnyAutomaton.TheVariants as any
use Rattle.zerotrie_queries.specs.Chosen.{begins_of}
use Rattle.zerotrie_queries.specs.Kept.{keeps, may_keep}
use Rattle.zerotrie_queries.specs.Pairs.{IsValid, left_of}
use Rattle.zerotrie_queries.specs.declared.listing.listed.ListedPairs.TheVariants as pairs
use Rattle.zerotrie_queries.proofs.EditsLemmas.{exact_found, free_by}
use Rattle.zerotrie_queries.proofs.GivenLemmas.{gives_by}
use Rattle.zerotrie_queries.proofs.listing.listed.by_edits.Goals as goal

pub exact-requires : goal.exact-requires
exact-requires c =
    let any = c.args.any in
    let choice = c.args.choice in
    record {
      folded = c.requires.folded;
      above = c.requires.above;
      exact = exact_found c.args.trie.now.kind choice (begins_of choice.sought) (any_edits_to any) (any_accepts any) (free_by any c.in-Prefix.is) c.requires.edits c.requires.finds;
    }

pub returns-in-Fuzzy : goal.returns-in-Fuzzy
returns-in-Fuzzy c =
    let trie = c.args.trie.now in
    gives_by IsValid left_of trie.kind c.args.choice (may_keep keeps c.condition_of-condition.result) c.begins-begins.result (any.Fuzzy c.in-Fuzzy.word) c.args.any c.begins-begins.ensures c.in-Fuzzy.is c.condition_of-condition.ensures c.requires.edits c.requires.most trie.bytes.now (pairs.NearFuzzy c.near.result) c.near.ensures

pub returns-in-FuzzyChars : goal.returns-in-FuzzyChars
returns-in-FuzzyChars c =
    let trie = c.args.trie.now in
    gives_by IsValid left_of trie.kind c.args.choice (may_keep keeps c.condition_of-condition.result) c.begins-begins.result (any.FuzzyChars c.in-FuzzyChars.word) c.args.any c.begins-begins.ensures c.in-FuzzyChars.is c.condition_of-condition.ensures c.requires.edits c.requires.most trie.bytes.now (pairs.NearFuzzyChars c.near-in-FuzzyChars.result) c.near-in-FuzzyChars.ensures

pub returns-in-Swaps : goal.returns-in-Swaps
returns-in-Swaps c =
    let trie = c.args.trie.now in
    gives_by IsValid left_of trie.kind c.args.choice (may_keep keeps c.condition_of-condition.result) c.begins-begins.result (any.Swaps c.in-Swaps.word) c.args.any c.begins-begins.ensures c.in-Swaps.is c.condition_of-condition.ensures c.requires.edits c.requires.most trie.bytes.now (pairs.NearSwaps c.near-in-Swaps.result) c.near-in-Swaps.ensures

pub returns-in-SwapsChars : goal.returns-in-SwapsChars
returns-in-SwapsChars c =
    let trie = c.args.trie.now in
    gives_by IsValid left_of trie.kind c.args.choice (may_keep keeps c.condition_of-condition.result) c.begins-begins.result (any.SwapsChars c.in-SwapsChars.word) c.args.any c.begins-begins.ensures c.in-SwapsChars.is c.condition_of-condition.ensures c.requires.edits c.requires.most trie.bytes.now (pairs.NearSwapsChars c.near-in-SwapsChars.result) c.near-in-SwapsChars.ensures
