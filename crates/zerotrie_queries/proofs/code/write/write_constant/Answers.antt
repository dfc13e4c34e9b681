use Rattle.std.proofs.Common.{rules, ◌≡◌, ◌++◌, refl, sym, ap}
use Rattle.std.proofs.lemmas.Result.{on_err_weaker}
use Rattle.zerotrie_files.specs.Parts.{AppendsPart}
use Rattle.zerotrie_queries.proofs.PartLemmas.{part_front, part_behind}
use Rattle.zerotrie_queries.specs.code.Code.{code}
use Rattle.zerotrie_queries.specs.code.Items.{items}
use Rattle.zerotrie_queries.specs.code.Texts.{front, end}
use Rattle.zerotrie_queries.proofs.code.write.write_constant.Goals.{After-as_slice}
use Rattle.zerotrie_queries.proofs.code.write.write_constant.Goals as goal

-- the code begins with what was written in front of the bytes
begins_front : (g : _) (c : After-as_slice g) → code c.args.language c.args.trie.now.kind c.args.name.now c.args.trie.now.bytes.now
    ≡ c.as_slice.result.now ++ (items 0 c.args.trie.now.bytes.now ++ end c.args.language c.args.trie.now.kind c.args.name.now)
begins_front g c =
    let text : c.as_slice.result.now ≡ front c.args.language c.args.trie.now.kind c.args.name.now = search rules in
    ap (λ l. l ++ (items 0 c.args.trie.now.bytes.now ++ end c.args.language c.args.trie.now.kind c.args.name.now)) (sym text)

pub returns-in_err-write_bytes-clause-part : goal.returns-in_err-write_bytes-clause-part
returns-in_err-write_bytes-clause-part g c =
    let contents = g.W.Write.contents in
    let rest = items 0 c.args.trie.now.bytes.now ++ end c.args.language c.args.trie.now.kind c.args.name.now in
    let all = code c.args.language c.args.trie.now.kind c.args.name.now c.args.trie.now.bytes.now in
    let part : AppendsPart (contents c.args.output.now.inner) (contents c.write_bytes.new.self.inner) all =
    part_front (contents c.args.output.now.inner) (contents c.write_bytes.new.self.inner) c.as_slice.result.now rest all c.in_err-write_bytes.ensures.part (begins_front g (goal.at.returns-in_err-write_bytes-clause-part g c).After-as_slice) in
    search (rules, part)

pub returns-in_err-write_items-clause-part : goal.returns-in_err-write_items-clause-part
returns-in_err-write_items-clause-part g c =
    let contents = g.W.Write.contents in
    let bytes = items 0 c.args.trie.now.bytes.now in
    let after = end c.args.language c.args.trie.now.kind c.args.name.now in
    let all = code c.args.language c.args.trie.now.kind c.args.name.now c.args.trie.now.bytes.now in
    let part : AppendsPart (contents c.args.output.now.inner) (contents c.write_items.new.output.inner) all =
    part_behind (contents c.args.output.now.inner) (contents c.write_bytes.new.self.inner) (contents c.write_items.new.output.inner) c.as_slice.result.now (bytes ++ after) all c.in_ok-write_bytes.ensures.all
    (part_front (contents c.write_bytes.new.self.inner) (contents c.write_items.new.output.inner) bytes after (bytes ++ after) c.in_err-write_items.ensures.part refl) (begins_front g (goal.at.returns-in_err-write_items-clause-part g c).After-as_slice) in
    search (rules, part)

pub returns-clause-part : goal.returns-clause-part
returns-clause-part g c =
    let contents = g.W.Write.contents in
    let bytes = items 0 c.args.trie.now.bytes.now in
    let after = end c.args.language c.args.trie.now.kind c.args.name.now in
    let all = code c.args.language c.args.trie.now.kind c.args.name.now c.args.trie.now.bytes.now in
    let text : c.as_slice-2.result.now ≡ after = search rules in
    on_err_weaker c.write_bytes-2.result
    (λ (p : AppendsPart (contents c.write_items.new.output.inner) (contents c.write_bytes-2.new.self.inner) c.as_slice-2.result.now).
    part_behind (contents c.args.output.now.inner) (contents c.write_bytes.new.self.inner) (contents c.write_bytes-2.new.self.inner) c.as_slice.result.now (bytes ++ after) all c.in_ok-write_bytes.ensures.all
    (part_behind (contents c.write_bytes.new.self.inner) (contents c.write_items.new.output.inner) (contents c.write_bytes-2.new.self.inner) bytes c.as_slice-2.result.now (bytes ++ after)
    c.in_ok-write_items.ensures.all p (ap (λ l. bytes ++ l) (sym text))) (begins_front g (goal.at.returns-clause-part g c).After-as_slice))
    c.write_bytes-2.ensures.part
