use Rattle.std.proofs.Common.{◌≡◌, ◌++◌, ◌∙◌, take, drop, length, arith, subst, sym, inr}
use Rattle.std.proofs.lemmas.List.{take_at}
use Rattle.std.proofs.lemmas.Result.{err_from_is_err_and}
use Rattle.zerotrie_base.specs.ArrayRoutes.{IsArrayBuilt}
use Rattle.zerotrie_build.specs.Items.{pairs}
use Rattle.zerotrie_build.proofs.ArrayLemmas.Building.{filled_whole, lost}
use Rattle.zerotrie_build.proofs.array.fill.bytes_within_as.Goals as goal

pub returns-in_err-len : goal.returns-in_err-len
returns-in_err-len g c =
    let q = err_from_is_err_and c.from_residual.result c.from_residual.ensures.1 in
    rw (q.1, q.2) (inr (c.in_err-len.ensures.refused c.args.most))

pub returns-then-len-most : goal.returns-then-len-most
returns-then-len-most g c = inr (lost g.K.ZeroTrieWithOptions.kind c.args.most g.row.STACK (pairs c.args.items) _ _ c.in_ok-len.ensures.written c.if-len-most.true (omega (arith, c.ranges.most)))

pub returns-in_err-write : goal.returns-in_err-write
returns-in_err-write g c =
    let q = err_from_is_err_and c.from_residual-in_err-write.result c.from_residual-in_err-write.ensures.1 in
    rw (q.1, q.2) (inr (c.in_err-write.ensures.refused c.args.most))

pub returns : goal.returns
returns g c =
    let all = pairs c.args.items in
    let v = c.in_ok-bytes.bytes in
    let room = v.ok.1 in
    let small = v.small in
    let given = v.ok.0 in
    let e = c.as_mut_slice.ensures.len in
    let l = c.in_ok-bytes.ensures.len in
    let kept = c.write-2.auto.buffer in
    let len : length c.write-2.new.buffer ≡ c.in_ok-len.len = kept ∙ e ∙ l in
    let whole : take v.len (c.write-2.new.buffer ++ drop (length c.write-2.new.buffer) v.items) ≡ c.write-2.new.buffer =
    take_at c.write-2.new.buffer (drop (length c.write-2.new.buffer) v.items) v.len (kept ∙ e) in
    let f = filled_whole g.K.ZeroTrieWithOptions.kind g.row.STACK all _ c.write-2.new.buffer c.in_ok-len.len _ c.meant_fits.ensures c.canonical_exactly.ensures.text c.in_ok-len.ensures.written c.in_ok-write.ensures.written len (omega arith) in
    (subst (IsArrayBuilt g.K.ZeroTrieWithOptions.kind g.row.STACK all) (sym whole) f.0, let size = f.1 in let within = c.if-len-most.false in omega arith)
