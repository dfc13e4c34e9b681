use Rattle.std.proofs.Common.{rules}
use Rattle.zerotrie_run.proofs.FileLemmas.{index_unasked}
use Rattle.zerotrie_run.proofs.open.open_trie.Goals as goal

pub returns-in-Err-open_index-clause-err : goal.returns-in-Err-open_index-clause-err
returns-in-Err-open_index-clause-err c =
    let is = c.is_index.ensures.0 c.if-is_index.true in
    index_unasked c.args.file c.args.question c.args.held.now c.in-Err.why is.0 c.in-Err-open_index.fault is.2 is.1 (search rules) c.in-Err.ensures.err
    c.in-Err-open_index.ensures.fault
