use Rattle.std.proofs.Common.{◌≡◌, ◌+◌, ◌++◌, [], drop, length, sym, ◌∙◌, ap, arith}
use Rattle.std.specs.Prelude.{◌&&◌}
use Rattle.std.proofs.Math.ListN.{drop_of_length-le}
use Rattle.zerotrie_core.specs.Maps.{look}
use Rattle.zerotrie_core.specs.Kinds.{kind_of}
use Rattle.zerotrie_queries.specs.Finders.{dictionary_of}
use Rattle.zerotrie_queries.specs.Printed.{value_lines, are_found}
use Rattle.zerotrie_files.proofs.WroteLemmas.{wrote_more, part_wrote}
use Rattle.zerotrie_queries.proofs.WriteLemmas.{wrote_all}
use Rattle.zerotrie_queries.proofs.PartLemmas.{on_err, part_next}
use Rattle.zerotrie_queries.proofs.AnswerLemmas.{values_are, values_begun, in_pairs}
use Rattle.zerotrie_queries.proofs.FoundLemmas.{answers_of, cut_at, lines_cut, found_cut, and_true}
use Rattle.zerotrie_queries.proofs.lookups.values.write_values.Goals as goal

pub loop-begin-preserved : goal.loop-begin-preserved
loop-begin-preserved g c = (
  λ m means.
      let contents = g.W.Write.contents in
      let f = look (kind_of c.args.trie.now.kind) m in
      let keys = c.args.keys.now in
      let block = c.split_at-in-loop-begin.result.0.now in
      let rest = drop (c.loop-begin.begin + length block) keys in
      let old = c.loop-begin.invariant.0 m means in
      let cut = cut_at keys c.split_at.result.1.now block c.loop-begin.begin c.min.result c.split_at.ensures.back c.split_at-in-loop-begin.ensures.front c.split_at-in-loop-begin.ensures.front_len in
      let added = c.in_ok-all.ensures m means in
      let lines = c.as_slice.ensures.value ∙ added.0 ∙ ap (λ l. l ++ value_lines (answers_of f block)) c.clear.ensures.items in (
        wrote_more (contents c.args.output.now.inner) (contents c.loop-begin.output.inner) (contents c.write_bytes.new.self.inner) c.as_slice.result.now
            (value_lines (answers_of f (drop c.loop-begin.begin keys))) (value_lines (answers_of f rest)) (value_lines (answers_of f keys))
            old.0 c.in_ok-write_bytes.ensures.all (lines_cut f (drop c.loop-begin.begin keys) block rest cut ∙ ap (λ l. l ++ value_lines (answers_of f rest)) (sym lines)),
        found_cut f (drop c.loop-begin.begin keys) block rest c.loop-begin.all (c.loop-begin.all && c.in_ok-all.field-0) (are_found (answers_of f keys))
            cut (ap (λ b. c.loop-begin.all && b) added.1) old.1,
      ),
  c.in_ok-write_bytes.ensures.noted ∙ c.loop-begin.invariant.1,
)

pub returns-clause-answered : goal.returns-clause-answered
returns-clause-answered g c = in_pairs c.args.trie.now.kind c.args.trie.now.bytes.now _ (λ m pairs means lists.
    let contents = g.W.Write.contents in
    let f = look (kind_of c.args.trie.now.kind) m in
    let keys = c.args.keys.now in
    let old = c.loop-begin.invariant.0 m means in
    let none : drop c.loop-begin.begin keys ≡ [] = drop_of_length-le keys (omega arith) in (
      value_lines (answers_of f keys),
      values_are (dictionary_of f pairs) keys c.loop-begin.all
          (sym (and_true c.loop-begin.all) ∙ ap (λ ks. c.loop-begin.all && are_found (answers_of f ks)) (sym none) ∙ old.1),
      wrote_all (contents c.args.output.now.inner) (contents c.loop-begin.output.inner) (value_lines (answers_of f (drop c.loop-begin.begin keys))) (value_lines (answers_of f keys))
          (ap (λ ks. value_lines (answers_of f ks)) none) old.0,
    ))

pub returns-in_err-all-clause-part : goal.returns-in_err-all-clause-part
returns-in_err-all-clause-part g c = on_err c.from_residual.result (in_pairs c.args.trie.now.kind c.args.trie.now.bytes.now _ (λ m pairs means lists.
    values_begun (dictionary_of (look (kind_of c.args.trie.now.kind) m) pairs) c.args.keys.now _ _ (part_wrote _ _ _ _ (c.loop-begin.invariant.0 m means).0)))

pub returns-in_err-write_bytes-clause-part : goal.returns-in_err-write_bytes-clause-part
returns-in_err-write_bytes-clause-part g c = on_err c.from_residual-in_err-write_bytes.result (in_pairs c.args.trie.now.kind c.args.trie.now.bytes.now _ (λ m pairs means lists.
    let f = look (kind_of c.args.trie.now.kind) m in
    let keys = c.args.keys.now in
    let block = c.split_at-in-loop-begin.result.0.now in
    let rest = drop (c.loop-begin.begin + length block) keys in
    let cut = cut_at keys c.split_at.result.1.now block c.loop-begin.begin c.min.result c.split_at.ensures.back c.split_at-in-loop-begin.ensures.front c.split_at-in-loop-begin.ensures.front_len in
    let added = c.as_slice.ensures.value ∙ (c.in_ok-all.ensures m means).0 ∙ ap (λ l. l ++ value_lines (answers_of f block)) c.clear.ensures.items in
    let next = lines_cut f (drop c.loop-begin.begin keys) block rest cut ∙ ap (λ l. l ++ value_lines (answers_of f rest)) (sym added) in
    values_begun (dictionary_of f pairs) keys _ _ (part_next _ _ _ c.as_slice.result.now (value_lines (answers_of f rest)) _ _ (c.loop-begin.invariant.0 m means).0 c.in_err-write_bytes.ensures.part next)))
