use Rattle.std.proofs.Common.{rules}
use Rattle.zerotrie_queries.specs.Listed.{AreListed, AreUnlisted}
use Rattle.zerotrie_run.specs.Runs.{AreFound, limit_shown}
use Rattle.zerotrie_run.proofs.FoundLemmas.{all_shown, none_listed, none_shown, with_limit}
use Rattle.zerotrie_run.proofs.found.write_found.Goals as goal

pub returns-in-Err-clause-err : goal.returns-in-Err-clause-err
returns-in-Err-clause-err g c = none_listed c.args.form c.args.selection c.args.trie.now.kind c.args.trie.now.bytes.now (g.W.Write.contents c.args.output.now.inner)

pub returns-in-Ok-write_list-clause-all : goal.returns-in-Ok-write_list-clause-all
returns-in-Ok-write_list-clause-all g c =
    let trie = c.args.trie.now in
    let s = c.args.selection in
    let old = g.W.Write.contents c.args.output.now.inner in
    let new = g.W.Write.contents c.write_list.new.output.inner in
    let found : AreFound s trie.kind trie.bytes.now c.in-Ok.found = search rules in
    let listed : AreListed c.args.form (with_limit (limit_shown c.in-Ok.found s.limit) s) trie.kind trie.bytes.now old new = search rules in
    all_shown c.args.form s trie.kind trie.bytes.now c.in-Ok.found old new found listed

pub returns-in-Err-write_list-clause-err : goal.returns-in-Err-write_list-clause-err
returns-in-Err-write_list-clause-err g c =
    let trie = c.args.trie.now in
    let s = c.args.selection in
    let old = g.W.Write.contents c.args.output.now.inner in
    let new = g.W.Write.contents c.write_list.new.output.inner in
    let error = c.in-Err-write_list.error in
    let found : AreFound s trie.kind trie.bytes.now c.in-Ok.found = search rules in
    let unlisted : AreUnlisted c.args.form (with_limit (limit_shown c.in-Ok.found s.limit) s) trie.kind trie.bytes.now old new error = search rules in
    none_shown c.args.form s trie.kind trie.bytes.now c.in-Ok.found old new error found unlisted
