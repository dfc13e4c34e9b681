-- On valid bytes a part of what is to come is written. On any bytes, what was found.
use Rattle.std.proofs.Common.{◌≡◌, ◌+◌, ◌<◌, ◌≤◌, ◌∙◌, ◌∷◌, ◌++◌, ℕ, List, [], Some, ap, sym, inl, inr, refl, subst, arith, rules, length, length-append, append_assoc, min}
use Rattle.std.proofs.lemmas.List.{append-nil}
use Rattle.zerotrie_core.specs.WellFormed.{IsWellFormed}
use Rattle.zerotrie_c.proofs.PartLemmas.{going_start, going_more, has_no_room, placed_len}
use Rattle.zerotrie_c.proofs.NearestLemmas.{Distances, distances_start, distances_more}
use Rattle.zerotrie_c.proofs.nearest.fill_nearest.Goals as goal
use Rattle.zerotrie_c.proofs.nearest.fill_nearest.Goals.{then-count-room-via-then-count-room, then-count-room-via-else-count-room+then-key-keys}

pub loop-pairs-init : goal.loop-pairs-init
loop-pairs-init g c = record {
  within = omega arith;
  few = omega arith;
  automaton_is = refl;
  found = [];
  valid = λ w. (w, refl);
  most = omega arith;
  going = going_start c.args.keys.now c.args.ends.now c.args.values.now c.args.next_len;
  distances = distances_start (g.T.Fuzzy.measure c.args.pairs.automaton) c.args.distances.now;
}

pub loop-pairs-preserved : goal.loop-pairs-preserved
loop-pairs-preserved g c =
    let l = c.loop-pairs in
    let i = l.invariant in
    let now = c.advance.new.self in
    let key = c.key-key.result.now in
    let v = c.value.result in
    let e : List ℕ × ℕ = (key, v) in
    let start = c.args.pairs.automaton in
    let measure = g.T.Fuzzy.measure in
    let one = rw c.in-Ok-true.field-0-test at c.in-Ok-true.ensures.lists in
    let fewer = rw c.in-Ok-true.field-0-test at c.in-Ok-true.ensures.most in
    let same : now.automaton ≡ start = c.in-Ok-true.ensures.automaton ∙ i.automaton_is in
    let near : measure now.automaton now.key ≡ Some now.distance = c.in-Ok-true.ensures.distance c.in-Ok-true.field-0-test in
    let near : measure start key ≡ Some c.distance.result =
    ap (λ a. measure a key) (sym same) ∙ ap (measure now.automaton) c.key-key.ensures ∙ near ∙ ap Some (sym c.distance.ensures) in
    let fits : l.used + length key ≤ length l.keys = omega (arith, c.if-key-keys.false, i.within) in
    let same_ends : length l.ends ≡ length c.args.ends.now = search rules in
    let same_values : length l.values ≡ length c.args.values.now = search rules in
    let same_distances : length l.distances ≡ length c.args.distances.now = search rules in
    let ends : l.count < length l.ends = omega (arith, c.if-count-room.false, c.min.ensures, c.min-room.ensures, same_ends) in
    let values : l.count < length l.values = omega (arith, c.if-count-room.false, c.min.ensures, c.min-room.ensures, same_values) in
    let distances : l.count < length l.distances = omega (arith, c.if-count-room.false, c.min.ensures, c.min-room.ensures, same_distances) in
    rw c.put_at.ensures (record {
      within = subst (λ n. l.used + length key ≤ n) (sym (placed_len key l.keys l.used fits)) fits;
      few = omega (arith, c.if-count-room.false);
      automaton_is = same;
      found = i.found ++ e ∷ [];
      valid = λ w.
          let here = i.valid w in
          let is : l.pairs.left.pairs ≡ e ∷ now.left.pairs =
          ap (λ s. s.pairs) (one here.0).0 ∙ ap (λ k. (k, now.value) ∷ now.left.pairs) (sym c.key-key.ensures) ∙ ap (λ n. (key, n) ∷ now.left.pairs) (sym c.value.ensures) in (
            subst (λ k. IsWellFormed k now.bytes) (sym c.in-Ok-true.ensures.kind) (subst (λ b. IsWellFormed l.pairs.kind b) (sym c.in-Ok-true.ensures.bytes) here.0),
            here.1 ∙ ap (λ ps. i.found ++ ps) is ∙ sym (append_assoc i.found (e ∷ []) now.left.pairs),
          );
      most = omega (arith, length-append i.found (e ∷ []), fewer, i.most);
      going = going_more i.going key v fits ends values;
      distances = distances_more i.distances i.going.count_is key v c.distance.result near distances;
    })

pub returns-in-Ok-false-clause-listed : goal.returns-in-Ok-false-clause-listed
returns-in-Ok-false-clause-listed g c measure pairs start =
    let i = c.loop-pairs.invariant in
    let page = c.new.ensures in
    let here = i.valid start.1 in
    let ds = subst (λ m. Distances m i.found c.args.distances.now c.loop-pairs.distances) start.0 i.distances in
    let ends = (rw c.in-Ok-false.field-0-test at c.in-Ok-false.ensures.lists) here.0 in
    (i.found, c.loop-pairs.pairs.left.pairs, ds.told, sym start.2 ∙ here.1, page.1 ∙ i.going.count_is, i.going.done, ds.told_are, ds.placed, inl (page.0, ends.0, page.2))

pub returns-in-Ok-false-clause-any : goal.returns-in-Ok-false-clause-any
returns-in-Ok-false-clause-any g c measure most start =
    let i = c.loop-pairs.invariant in
    let page = c.new.ensures in
    let ds = subst (λ m. Distances m i.found c.args.distances.now c.loop-pairs.distances) start.0 i.distances in
    (i.found, omega (arith, i.most, start.1), (i.found, [], ds.told, sym (append-nil i.found), page.1 ∙ i.going.count_is, i.going.done, ds.told_are, ds.placed, inl (page.0, refl, page.2)))

pub returns-in-Err-clause-listed : goal.returns-in-Err-clause-listed
returns-in-Err-clause-listed g c measure pairs start =
    let i = c.loop-pairs.invariant in
    let page = c.new-in-Err.ensures in
    let here = i.valid start.1 in
    let ds = subst (λ m. Distances m i.found c.args.distances.now c.loop-pairs.distances) start.0 i.distances in
    (i.found, c.loop-pairs.pairs.left.pairs, ds.told, sym start.2 ∙ here.1, page.1 ∙ i.going.count_is, i.going.done, ds.told_are, ds.placed, inr (inr (page.0, page.2)))

pub returns-in-Err-clause-any : goal.returns-in-Err-clause-any
returns-in-Err-clause-any g c measure most start =
    let i = c.loop-pairs.invariant in
    let page = c.new-in-Err.ensures in
    let ds = subst (λ m. Distances m i.found c.args.distances.now c.loop-pairs.distances) start.0 i.distances in
    (i.found, omega (arith, i.most, start.1), (i.found, [], ds.told, sym (append-nil i.found), page.1 ∙ i.going.count_is, i.going.done, ds.told_are, ds.placed, inr (inr (page.0, page.2))))

pub returns-then-count-room-clause-listed : goal.returns-then-count-room-clause-listed
returns-then-count-room-clause-listed g c measure pairs start =
    let l = c.loop-pairs in
    let i = l.invariant in
    let page = c.new-then-count-room.ensures in
    let now = c.advance.new.self in
    let key = c.key-key.result.now in
    let here = i.valid start.1 in
    let ds = subst (λ m. Distances m i.found c.args.distances.now l.distances) start.0 i.distances in
    let one = (rw c.in-Ok-true.field-0-test at c.in-Ok-true.ensures.lists) here.0 in
    let is : l.pairs.left.pairs ≡ (key, now.value) ∷ now.left.pairs =
    ap (λ s. s.pairs) one.0 ∙ ap (λ k. (k, now.value) ∷ now.left.pairs) (sym c.key-key.ensures) in
    let same_keys : length l.keys ≡ length c.args.keys.now = search rules in
    let full = has_no_room i.going (min (length c.args.values.now) (length c.args.distances.now)) key now.value now.left.pairs (elim c.then-count-room.branch [
      | then-count-room-via-then-count-room b ↦ λ fits ends values. omega (arith, b.if-count-room.true, c.min.ensures, c.min-room.ensures, ends, values)
      | then-count-room-via-else-count-room+then-key-keys b ↦ λ fits ends values. omega (arith, b.if-key-keys.true, same_keys, fits)
    ]) in
    (i.found, (key, now.value) ∷ now.left.pairs, ds.told, sym start.2 ∙ here.1 ∙ ap (λ ps. i.found ++ ps) is, page.1 ∙ i.going.count_is, i.going.done, ds.told_are, ds.placed, inr (inl (page.0, (page.2, full.1))))

pub returns-then-count-room-clause-any : goal.returns-then-count-room-clause-any
returns-then-count-room-clause-any g c measure most start =
    let l = c.loop-pairs in
    let i = l.invariant in
    let page = c.new-then-count-room.ensures in
    let key = c.key-key.result.now in
    let v = c.advance.new.self.value in
    let e : List ℕ × ℕ = (key, v) in
    let fewer = rw c.in-Ok-true.field-0-test at c.in-Ok-true.ensures.most in
    let ds = subst (λ m. Distances m i.found c.args.distances.now l.distances) start.0 i.distances in
    let same_keys : length l.keys ≡ length c.args.keys.now = search rules in
    let full = has_no_room i.going (min (length c.args.values.now) (length c.args.distances.now)) key v [] (elim c.then-count-room.branch [
      | then-count-room-via-then-count-room b ↦ λ fits ends values. omega (arith, b.if-count-room.true, c.min.ensures, c.min-room.ensures, ends, values)
      | then-count-room-via-else-count-room+then-key-keys b ↦ λ fits ends values. omega (arith, b.if-key-keys.true, same_keys, fits)
    ]) in (
      i.found ++ e ∷ [],
      omega (arith, length-append i.found (e ∷ []), fewer, i.most, start.1),
      (i.found, e ∷ [], ds.told, refl, page.1 ∙ i.going.count_is, i.going.done, ds.told_are, ds.placed, inr (inl (page.0, (page.2, full.1)))),
    )
