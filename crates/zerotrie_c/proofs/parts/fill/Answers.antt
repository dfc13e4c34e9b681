-- On valid bytes a part of what is to come is written. On any bytes, what was found.
use Rattle.std.proofs.Common.{◌≡◌, ◌+◌, ◌<◌, ◌≤◌, ◌∙◌, ◌∷◌, ◌++◌, ℕ, List, [], true, ap, sym, inl, inr, refl, subst, arith, rules, length, length-append, append_assoc}
use Rattle.std.proofs.lemmas.Result.{IfOk-at_ok}
use Rattle.zerotrie_search.specs.Searches.{accepted}
use Rattle.zerotrie_c.proofs.PartLemmas.{going_more, has_no_room, placed_len, taken_more}
use Rattle.zerotrie_c.proofs.parts.fill.Goals as goal
use Rattle.zerotrie_c.proofs.parts.fill.Goals.{then-count-room-via-then-count-room, then-count-room-via-else-count-room+then-key-keys}

pub returns-then-count-room-clause-any : goal.returns-then-count-room-clause-any
returns-then-count-room-clause-any g c most takes at_most =
    let l = c.loop-pairs in
    let i = l.invariant in
    let page = c.new-then-count-room.ensures in
    let key = c.key-key.result.now in
    let v = (g.L.TrieListing.current c.advance.new.self).1 in
    let e : List ℕ × ℕ = (key, v) in
    let fewer = rw c.in-Ok-true.field-0-test at c.in-Ok-true.ensures.most in
    let start = IfOk-at_ok (λ p. (g.L.TrieListing.most p ≤ most) × (g.L.TrieListing.takes p ≡ takes)) c.in-Ok.is at_most in
    let is_taken : takes key ≡ true =
    ap takes c.key-key.ensures ∙ ap (λ f. f (g.L.TrieListing.current c.advance.new.self).0) (sym start.1 ∙ sym i.takes) ∙ c.in-Ok-true.ensures.takes c.in-Ok-true.field-0-test in
    let same_keys : length l.keys ≡ length c.args.keys.now = search rules in
    let full = has_no_room i.going (length c.args.values.now) key v [] (elim c.then-count-room.branch [
      | then-count-room-via-then-count-room b ↦ λ fits ends values. omega (arith, b.if-count-room.true, c.min-room.ensures, ends, values)
      | then-count-room-via-else-count-room+then-key-keys b ↦ λ fits ends values. omega (arith, b.if-key-keys.true, same_keys, fits)
    ]) in (
      i.found ++ e ∷ [],
      omega (arith, length-append i.found (e ∷ []), fewer, i.most, start.0),
      (i.found, e ∷ [], refl, page.1 ∙ i.going.count_is, i.going.done, inr (inl (page.0, (page.2, full.1)))),
      taken_more takes i.found key v (subst (λ f. accepted f i.found ≡ i.found) start.1 i.taken) is_taken,
    )

pub loop-pairs-preserved : goal.loop-pairs-preserved
loop-pairs-preserved g c =
    let l = c.loop-pairs in
    let i = l.invariant in
    let now = c.advance.new.self in
    let after = (g.L.TrieListing.left now).pairs in
    let key = c.key-key.result.now in
    let v = c.value.result in
    let e : List ℕ × ℕ = (key, v) in
    let one = rw c.in-Ok-true.field-0-test at c.in-Ok-true.ensures.lists in
    let fewer = rw c.in-Ok-true.field-0-test at c.in-Ok-true.ensures.most in
    let fits : l.used + length key ≤ length l.keys = omega (arith, c.if-key-keys.false, i.within) in
    let same_ends : length l.ends ≡ length c.args.ends.now = search rules in
    let same_values : length l.values ≡ length c.args.values.now = search rules in
    let ends : l.count < length l.ends = omega (arith, c.if-count-room.false, c.min-room.ensures, same_ends) in
    let values : l.count < length l.values = omega (arith, c.if-count-room.false, c.min-room.ensures, same_values) in
    rw c.put_at.ensures (record {
      within = subst (λ n. l.used + length key ≤ n) (sym (placed_len key l.keys l.used fits)) fits;
      few = omega (arith, c.if-count-room.false);
      found = i.found ++ e ∷ [];
      valid = λ w.
          let here = i.valid w in
          let is : (g.L.TrieListing.left l.pairs).pairs ≡ e ∷ after =
          ap (λ s. s.pairs) (one here.0).0 ∙ ap (λ k. (k, (g.L.TrieListing.current now).1) ∷ after) (sym c.key-key.ensures) ∙ ap (λ n. (key, n) ∷ after) (sym c.value.ensures) in
          (c.in-Ok-true.ensures.valid here.0, here.1 ∙ ap (λ ps. i.found ++ ps) is ∙ sym (append_assoc i.found (e ∷ []) after));
      takes = c.in-Ok-true.ensures.same ∙ i.takes;
      taken = taken_more (g.L.TrieListing.takes c.in-Ok.pairs) i.found key v i.taken
          (ap (g.L.TrieListing.takes c.in-Ok.pairs) c.key-key.ensures ∙ ap (λ f. f (g.L.TrieListing.current now).0) (sym i.takes) ∙ c.in-Ok-true.ensures.takes c.in-Ok-true.field-0-test);
      most = omega (arith, length-append i.found (e ∷ []), fewer, i.most);
      going = going_more i.going key v fits ends values;
    })
