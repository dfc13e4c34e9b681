use Rattle.std.proofs.Common.{◌≡◌, ◌+◌, ◌<◌, ◌≤◌, ◌∙◌, ◌∷◌, ◌++◌, ap, sym, subst, arith, length, length-set, take, drop, slice_set}
use Rattle.zerotrie_c.proofs.ChangeLemmas.{Telling, telling_more}
use Rattle.zerotrie_c.proofs.PartLemmas.{placed_len}
use Rattle.zerotrie_c.proofs.diffs.write_changes.Goals as goal

pub loop-next_len-preserved : goal.loop-next_len-preserved
loop-next_len-preserved c =
    let l = c.loop-next_len in
    let now = c.advance.new.self in
    let key = c.key-key.result.now in
    let change = c.change.result in
    let one = rw c.in-Ok-true.field-0-test at c.in-Ok-true.ensures.advances in
    let is : l.diff.left.items ≡ (key, change) ∷ now.left.items =
    ap (λ s. s.items) one.0 ∙ ap (λ k. (k, now.current.1) ∷ now.left.items) (sym c.key-key.ensures) ∙ ap (λ v. (key, v) ∷ now.left.items) (sym c.change.ensures) in
    let fits : l.used + length key ≤ length l.keys = omega (arith, c.if-key-keys.false, l.invariant.within) in
    let room : l.count < length l.changes = omega (arith, c.if-count-changes.false) in
    let same : length (slice_set l.changes l.count c.told_change.result) ≡ length l.changes = length-set l.changes l.count c.told_change.result in
    let keys = take l.used l.keys ++ (key ++ drop (l.used + length key) l.keys) in
    rw c.put_at.ensures (record {
      within = subst (λ n. l.used + length key ≤ n) (sym (placed_len key l.keys l.used fits)) fits;
      few = omega (arith, same, room);
      untold = l.invariant.untold;
      told = subst (λ told. Telling c.args.diff.left.items now.left.items c.args.keys.now keys c.args.changes.now (slice_set l.changes l.count told) (l.count + 1) (l.used + length key))
          (sym c.told_change.ensures) (telling_more l.invariant.told key change now.left.items is fits room);
    })
