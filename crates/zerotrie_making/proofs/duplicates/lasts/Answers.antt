use Rattle.std.proofs.Common.{rules, ◌≡◌, ◌∷◌, [], ◌+◌, ◌-◌, ◌<◌, ℕ, List, drop, get_or, sym, ap, subst, ◌∙◌, arith}
use Rattle.std.specs.Prelude.{◌||◌, reverse}
use Rattle.std.specs.Str.{bytes_eq}
use Rattle.std.specs.Borrow.{Bor}
use Rattle.zerotrie_lines.specs.Tables.{Pair, pairs_of}
use Rattle.zerotrie_making.specs.Kept.{numbered, has_key, has_seen, lasts, numbers, unnumbered}
use Rattle.zerotrie_making.proofs.KeptLemmas.{last_step, numbered_from, pairs_reverse}
use Rattle.zerotrie_making.proofs.duplicates.lasts.Goals as goal

pub loop-left-preserved : goal.loop-left-preserved
loop-left-preserved c =
    let l = c.loop-left in
    let all = c.args.all.now in
    let (seen, low, ns, ps) = l.invariant in
    let h : 0 < l.left = search rules in
    let k = l.left - 1 in
    let back : k + 1 ≡ l.left = omega (arith, h) in
    let d : Bor (List ℕ) × ℕ = (record { ref_ptr = (0, 0); now = [] }, 0) in
    let item = get_or all k d in
    let e : ℕ × Pair = (l.left, (item.0.now, item.1)) in
    let rest = numbered (l.left + 1) (pairs_of (drop l.left all)) in
    let from = subst (λ m. numbered (k + 1) (pairs_of (drop k all)) ≡ (m, (item.0.now, item.1)) ∷ numbered (m + 1) (pairs_of (drop m all))) back (numbered_from (k + 1) k all d (omega (arith, h, low))) in
    let here : has_key item.0.now rest ≡ has_seen l.seen item.0.now = sym (seen item.0.now) in (
      λ q. c.in_ok-add_new.ensures.seen q ∙ ap (λ b. bytes_eq item.0.now q || b) (seen q) ∙ sym (ap (has_key q) from),
      omega (arith, low),
      last_step (λ x. x.0) l.kept.numbers.items c.add_new.new.kept.numbers.items rest _ e (has_seen l.seen item.0.now) here from c.in_ok-add_new.ensures.numbers ns,
      last_step (λ x. x.1) (pairs_of l.kept.items.items) (pairs_of c.add_new.new.kept.items.items) rest _ e (has_seen l.seen item.0.now) here from c.in_ok-add_new.ensures.items ps,
    )

pub returns : goal.returns
returns c =
    let l = c.loop-left in
    let all = c.args.all.now in
    let (seen, low, ns, ps) = l.invariant in
    let none : l.left ≡ 0 = search rules in (
      c.reverse.ensures.items ∙ subst (λ m. reverse l.kept.numbers.items ≡ numbers (lasts (numbered (m + 1) (pairs_of (drop m all))))) none ns,
      ap pairs_of c.reverse-2.ensures.items ∙ pairs_reverse l.kept.items.items
          ∙ subst (λ m. reverse (pairs_of l.kept.items.items) ≡ unnumbered (lasts (numbered (m + 1) (pairs_of (drop m all))))) none ps,
    )
