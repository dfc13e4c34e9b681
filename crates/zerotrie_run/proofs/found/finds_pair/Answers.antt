use Rattle.std.proofs.Common.{rules, ◌≢◌, [], Some}
use Rattle.zerotrie_queries.specs.Listed.{AreListed}
use Rattle.zerotrie_queries.specs.declared.print.Form.TheVariants.{Lines}
use Rattle.zerotrie_queries.specs.declared.print.Style.TheVariants.{Keys}
use Rattle.zerotrie_run.proofs.FoundLemmas.{first_found, first_of}
use Rattle.zerotrie_run.proofs.found.finds_pair.Goals as goal

pub returns-in-Ok-clause-found : goal.returns-in-Ok-clause-found
returns-in-Ok-clause-found c =
    let trie = c.args.trie.now in
    let text = c.as_slice.result.now in
    let top : c.args.selection.top ≢ Some 0 = search rules in
    let limit : c.args.selection.limit ≢ Some 0 = search rules in
    let listed : AreListed (Lines Keys) (first_of c.args.selection) trie.kind trie.bytes.now (Some []) (Some text) = search rules in
    first_found c.args.selection trie.kind trie.bytes.now text c.is_empty.result top limit listed c.is_empty.ensures
