use Rattle.std.proofs.Common.{rules, ◌≡◌, ◌+◌, ◌-◌, ◌≤◌, ◌∙◌, length, arith, ap, sym, subst, length-append}
use Rattle.std.specs.Allocator.{alloc_error}
use Rattle.zerotrie_index.specs.InBlocks.{MayBeIndex}
use Rattle.zerotrie_index.specs.Placed.{IsPart}
use Rattle.std.proofs.lemmas.Result.{err_from_is_err_and}
use Rattle.zerotrie_index.proofs.InBlocksLemmas.{cause_before}
use Rattle.zerotrie_index.proofs.PlacedLemmas.{more_part}
use Rattle.zerotrie_index.proofs.in_blocks.Front.read.Goals as goal

pub loop-alloc-preserved : goal.loop-alloc-preserved
loop-alloc-preserved g c =
    let own = MayBeIndex (g.S.ReadAt.MayHold c.args.source.now) c.args.self.now in
    let part = c.loop-alloc.part.items in
    let i = c.loop-alloc.invariant in
    let added = c.in_ok-add_part.ensures.part in
    let so_far : c.len-in-loop-alloc.result ≡ length part = search rules in
    let at : c.in-Some.start ≡ c.args.place = search rules in
    let next : c.in-Some.start + c.len-in-loop-alloc.result ≡ c.args.place + length part = omega (arith, at, so_far) in
    let there : IsPart own (c.args.place + length part) added.0 =
    subst (λ n. IsPart own n added.0) next (λ bytes may. added.1 bytes (may.0, i.2 may.0 may.1, may.2, may.3)) in
    let both = more_part own c.args.place part added.0 i.1 there in
    let long : length c.add_part.new.part.items ≡ length part + length added.0 = ap length added.4 ∙ length-append part added.0 in
    let few : length added.0 ≤ c.args.len - length part = search rules in (
      omega (arith, long, few, i.0),
      subst (IsPart own c.args.place) (sym added.4) both,
      λ bytes may. c.in_ok-add_part.ensures.same bytes (i.2 bytes may),
      λ at n e may. i.3 at n e (c.in_ok-add_part.ensures.fewer at n e may),
    )

pub returns-in_err-add_part-clause-err : goal.returns-in_err-add_part-clause-err
returns-in_err-add_part-clause-err g c =
    let p = err_from_is_err_and c.from_residual.result c.from_residual.ensures.1 in
    let i = c.loop-alloc.invariant in
    let part = c.loop-alloc.part.items in
    let few = i.0 in
    let so_far : c.len-in-loop-alloc.result ≡ length part = search rules in
    let at : c.in-Some.start ≡ c.args.place = search rules in
    let again : c.len-in-loop-alloc-2.result ≡ length part = search rules in
    rw (p.1, p.2) (cause_before (g.S.ReadAt.MayHold c.args.source.now) _ (g.S.ReadAt.MayRefuse c.args.source.now) _ (g.S.Error.From-1.from_gives alloc_error) g.S.Error.From-2.from_gives c.args.self.now c.args.place c.args.len
    (c.in-Some.start + c.len-in-loop-alloc.result) (c.args.len - c.len-in-loop-alloc-2.result) _ i.2 i.3 (omega (arith, at)) (omega (arith, few, so_far, again, at)) c.in_err-add_part.ensures.err)
