use Rattle.std.proofs.Common.{refl}
use Rattle.std.proofs.KnownBytes.{Appends-trans}
use Rattle.std.proofs.lemmas.Result.{on_ok_weaker, on_err_weaker}
use Rattle.zerotrie_queries.proofs.PartLemmas.{part_front, part_behind, on_err}
use Rattle.zerotrie_queries.specs.code.Code.{code, reader_of, whole_code}
use Rattle.zerotrie_queries.proofs.code.write.write_trie_code.Goals as goal

pub returns-in_err-write_reader-clause-part : goal.returns-in_err-write_reader-clause-part
returns-in_err-write_reader-clause-part g c =
    let contents = g.W.Write.contents in
    let reader = reader_of c.args.language in
    let rest = code c.args.language c.args.trie.now.kind c.args.name.now c.args.trie.now.bytes.now in
    let all = whole_code c.args.language c.args.trie.now.kind c.args.name.now c.args.trie.now.bytes.now in
    on_err c.from_residual.result
    (part_front (contents c.args.output.now.inner) (contents c.write_reader.new.output.inner) reader rest all c.in_err-write_reader.ensures.part refl)

pub returns-clause-all : goal.returns-clause-all
returns-clause-all g c =
    let contents = g.W.Write.contents in
    let reader = reader_of c.args.language in
    let rest = code c.args.language c.args.trie.now.kind c.args.name.now c.args.trie.now.bytes.now in
    on_ok_weaker c.write_constant.result
    (Appends-trans (contents c.args.output.now.inner) (contents c.write_reader.new.output.inner) (contents c.write_constant.new.output.inner) reader rest c.in_ok-write_reader.ensures.all)
    c.write_constant.ensures.all

pub returns-clause-part : goal.returns-clause-part
returns-clause-part g c =
    let contents = g.W.Write.contents in
    let reader = reader_of c.args.language in
    let rest = code c.args.language c.args.trie.now.kind c.args.name.now c.args.trie.now.bytes.now in
    let all = whole_code c.args.language c.args.trie.now.kind c.args.name.now c.args.trie.now.bytes.now in
    on_err_weaker c.write_constant.result
    (λ part.
    part_behind (contents c.args.output.now.inner) (contents c.write_reader.new.output.inner) (contents c.write_constant.new.output.inner) reader rest all c.in_ok-write_reader.ensures.all part refl)
    c.write_constant.ensures.part
