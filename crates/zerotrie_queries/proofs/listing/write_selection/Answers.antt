use Rattle.std.proofs.Common.{rules, ◌≡◌, ◌<◌, ◌^◌, ◌∙◌, ℕ, List, length}
use Rattle.zerotrie_queries.specs.Chosen.{told_edits}
use Rattle.zerotrie_queries.specs.Listed.{edits_said}
use Rattle.zerotrie_queries.specs.Pairs.{AreFirstValid, left_of_first}
use Rattle.zerotrie_queries.proofs.FoldLemmas.{told_folded, words_folded}
use Rattle.zerotrie_queries.proofs.GivenLemmas.{none_written, written_all, written_part}
use Rattle.zerotrie_queries.proofs.PartLemmas.{on_err}
use Rattle.zerotrie_queries.proofs.listing.write_selection.Goals as goal

pub of-edits-requires : goal.of-edits-requires
of-edits-requires g c = words_folded c.args.trie.now.kind c.args.selection.choice c.in_ok-words.words c.in_place_of.result c.in_ok-words.ensures c.in_place_of.ensures

pub returns-clause-all : goal.returns-clause-all
returns-clause-all g c =
    let trie = c.args.trie.now in
    let short : length trie.bytes.now < 2 ^ 64 = search rules in
    let told : (key : List ℕ) → edits_said c.of-edits.result key ≡ told_edits trie.kind c.args.selection.choice key
    = λ key. c.of-edits.ensures key ∙ told_folded trie.kind c.args.selection.choice c.in_ok-words.words c.in_place_of.result c.in_ok-words.ensures c.in_place_of.ensures key in
    written_all AreFirstValid left_of_first c.args.form c.args.selection trie.kind trie.bytes.now c.in_ok-pairs.pairs short c.in_ok-pairs.ensures (edits_said c.of-edits.result) told _ _ (search rules) c.in_ok-write_pairs.ensures.all

pub returns-in_err-write_pairs-clause-part : goal.returns-in_err-write_pairs-clause-part
returns-in_err-write_pairs-clause-part g c =
    let trie = c.args.trie.now in
    let short : length trie.bytes.now < 2 ^ 64 = search rules in
    let told : (key : List ℕ) → edits_said c.of-edits.result key ≡ told_edits trie.kind c.args.selection.choice key
    = λ key. c.of-edits.ensures key ∙ told_folded trie.kind c.args.selection.choice c.in_ok-words.words c.in_place_of.result c.in_ok-words.ensures c.in_place_of.ensures key in
    on_err c.from_residual-in_err-write_pairs.result
    (written_part AreFirstValid left_of_first c.args.form c.args.selection trie.kind trie.bytes.now c.in_ok-pairs.pairs short c.in_ok-pairs.ensures (edits_said c.of-edits.result) told _ _ c.in_err-write_pairs.ensures.part)

pub returns-in_err-words-clause-part : goal.returns-in_err-words-clause-part
returns-in_err-words-clause-part g c = on_err c.from_residual.result (none_written c.args.form c.args.selection c.args.trie.now.kind c.args.trie.now.bytes.now (g.W.Write.contents c.args.output.now.inner))

pub returns-in_err-key-clause-part : goal.returns-in_err-key-clause-part
returns-in_err-key-clause-part g c = on_err c.from_residual-in_err-key.result (none_written c.args.form c.args.selection c.args.trie.now.kind c.args.trie.now.bytes.now (g.W.Write.contents c.args.output.now.inner))

pub returns-in_err-pairs-clause-part : goal.returns-in_err-pairs-clause-part
returns-in_err-pairs-clause-part g c = on_err c.from_residual-in_err-pairs.result (none_written c.args.form c.args.selection c.args.trie.now.kind c.args.trie.now.bytes.now (g.W.Write.contents c.args.output.now.inner))
