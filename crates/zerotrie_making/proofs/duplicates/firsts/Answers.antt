use Rattle.std.proofs.Common.{rules, ◌≡◌, ◌∷◌, [], ◌+◌, ◌<◌, ℕ, List, length, drop, get_or, sym, ap, ◌∙◌, arith}
use Rattle.std.specs.Prelude.{◌||◌}
use Rattle.std.specs.Str.{bytes_eq}
use Rattle.std.specs.Borrow.{Bor}
use Rattle.zerotrie_lines.specs.Tables.{Pair, pairs_of}
use Rattle.zerotrie_making.specs.Kept.{numbered, has_key, has_seen}
use Rattle.zerotrie_making.proofs.KeptLemmas.{first_step, numbered_from}
use Rattle.zerotrie_making.proofs.duplicates.firsts.Goals as goal

pub loop-done-preserved : goal.loop-done-preserved
loop-done-preserved c =
    let l = c.loop-done in
    let all = c.args.all.now in
    let (earlier, seen, low, ns, ps) = l.invariant in
    let h : l.done < length all = search rules in
    let d : Bor (List ℕ) × ℕ = (record { ref_ptr = (0, 0); now = [] }, 0) in
    let item = get_or all l.done d in
    let e : ℕ × Pair = (l.done + 1, (item.0.now, item.1)) in
    let rest = numbered (l.done + 1 + 1) (pairs_of (drop (l.done + 1) all)) in
    let from = numbered_from (l.done + 1) l.done all d h in
    let here : has_key item.0.now earlier ≡ has_seen l.seen item.0.now = sym (seen item.0.now) in (
      e ∷ earlier,
      λ q. c.in_ok-add_new.ensures.seen q ∙ ap (λ b. bytes_eq item.0.now q || b) (seen q),
      omega (arith, h),
      first_step (λ x. x.0) l.kept.numbers.items c.add_new.new.kept.numbers.items _ earlier rest _ e (has_seen l.seen item.0.now) here from c.in_ok-add_new.ensures.numbers ns,
      first_step (λ x. x.1) (pairs_of l.kept.items.items) (pairs_of c.add_new.new.kept.items.items) _ earlier rest _ e (has_seen l.seen item.0.now) here from c.in_ok-add_new.ensures.items ps,
    )
