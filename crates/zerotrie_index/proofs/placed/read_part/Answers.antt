use Rattle.std.proofs.Common.{rules, ◌≡◌, ◌+◌, ◌-◌, ◌≤◌, ◌∙◌, length, arith, ap, sym, subst, length-append}
use Rattle.zerotrie_index.specs.Placed.{IsPart}
use Rattle.zerotrie_index.proofs.PlacedLemmas.{more_part}
use Rattle.zerotrie_index.proofs.placed.read_part.Goals as goal

pub loop-part-preserved : goal.loop-part-preserved
loop-part-preserved g c =
    let held = g.S.ReadAt.MayHold c.args.source.now in
    let part = c.loop-part.part.items in
    let i = c.loop-part.invariant in
    let added = c.in_ok-add_part.ensures.part in
    let so_far : c.len-in-loop-part-2.result ≡ length part = search rules in
    let there : IsPart held (c.args.place + length part) added.0 = subst (λ n. IsPart held (c.args.place + n) added.0) so_far (λ bytes may. added.1 bytes (i.2 bytes may)) in
    let both = more_part held c.args.place part added.0 i.1 there in
    let count : length added.0 ≤ c.args.len - length part = search rules in
    let long : length c.add_part.new.part.items ≡ length part + length added.0 = ap length added.3 ∙ length-append part added.0 in (
      omega (arith, long, count, i.0),
      subst (IsPart held c.args.place) (sym added.3) both,
      λ bytes may. c.in_ok-add_part.ensures.same bytes (i.2 bytes may),
      λ place count e may. i.3 place count e (c.in_ok-add_part.ensures.fewer place count e may),
    )
