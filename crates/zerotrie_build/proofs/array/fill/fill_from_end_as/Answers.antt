use Rattle.std.proofs.Common.{◌≡◌, ◌+◌, ◌<◌, ◌^◌, length, arith, rules}
use Rattle.std.proofs.lemmas.Result.{err_from_is_err_and}
use Rattle.zerotrie_build.specs.Items.{pairs}
use Rattle.zerotrie_build.proofs.ArrayLemmas.Building.{filled, lost}
use Rattle.zerotrie_build.proofs.array.fill.fill_from_end_as.Goals as goal

pub returns-in_err-len-clause-build : goal.returns-in_err-len-clause-build
returns-in_err-len-clause-build g c =
    let q = err_from_is_err_and c.from_residual.result c.from_residual.ensures.1 in
    rw (q.1, q.2) (c.in_err-len.ensures.refused (length c.args.buffer.now))

pub returns-then-len-buffer-clause-build : goal.returns-then-len-buffer-clause-build
returns-then-len-buffer-clause-build g c =
    let short : length c.args.buffer.now < 2 ^ 64 = search rules in
    let more : length c.args.buffer.now < c.in_ok-len.len = search rules in
    lost g.K.ZeroTrieWithOptions.kind (length c.args.buffer.now) g.row.STACK (pairs c.args.items) _ _ c.in_ok-len.ensures.written more short

pub returns-clause-build : goal.returns-clause-build
returns-clause-build g c =
    let room : length c.write.new.buffer + 1 < 2 ^ 64 = search rules in
    let same : length c.write.new.buffer ≡ length c.args.buffer.now = search rules in
    let f = filled g.K.ZeroTrieWithOptions.kind g.row.STACK (pairs c.args.items) _ _ c.meant_fits.ensures c.canonical_exactly.ensures.text c.in_ok-len.ensures.written c.if-len-buffer.false room in
    (f.0, let size = f.1 in let within = c.if-len-buffer.false in omega arith)
