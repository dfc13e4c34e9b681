use Rattle.std.proofs.Common.{◌≡◌, ◌+◌, List, ℕ, suc, length, rules, arith, take, drop, get_or, set, ap, ◌∙◌, sym, unwrap_or}
use Rattle.std.proofs.lemmas.List.{drop-set-lt}
use Rattle.zerotrie_c.proofs.Written.{going_on, going_on-more, going_on-end}
use Rattle.zerotrie_c.proofs.many.look_up_all.Goals as goal

pub loop-number-preserved : goal.loop-number-preserved
loop-number-preserved g c =
    let n = c.loop-number.number in
    let to = get_or c.args.ends.now n 0 in
    let key = drop c.loop-number.from (take to c.args.keys.now) in
    let same : length c.loop-number.values ≡ length c.args.values.now = search rules in
    let next : n + 1 ≡ suc n = omega arith in
    let between : c.key_between.result.now ≡ key = c.key_between.ensures in (
      λ word value may. c.loop-number.invariant.0 word value (c.find.ensures.kept word value may),
      λ look finds. (
          let f : List ℕ → ℕ = λ word. unwrap_or (look word) c.args.missing in
          let found : c.find.result ≡ look key = finds c.key_between.result.now c.find.result
          (c.loop-number.invariant.0 c.key_between.result.now c.find.result c.find.ensures.found) ∙ ap look between in
          let answer : c.unwrap_or.result ≡ f key = c.unwrap_or.ensures ∙ ap (λ o. unwrap_or o c.args.missing) found in
          ap (λ v. going_on f c.args.keys.now c.args.ends.now to (n + 1) (set c.loop-number.values n v)) answer
          ∙ ap (λ k. going_on f c.args.keys.now c.args.ends.now to k (set c.loop-number.values n (f key))) next
          ∙ going_on-more f c.args.keys.now n c.loop-number.from c.args.ends.now c.loop-number.values
          (omega (arith, c.min-count.ensures, c.loop-number-test.true)) (omega (arith, c.min-count.ensures, c.loop-number-test.true, same))
          ∙ c.loop-number.invariant.1 look finds
          ),
      drop-set-lt (length c.args.ends.now) c.loop-number.values n c.unwrap_or.result (omega (arith, c.min-count.ensures, c.loop-number-test.true))
          ∙ c.loop-number.invariant.2,
    )

pub returns-clause-found : goal.returns-clause-found
returns-clause-found g c look finds =
    let f : List ℕ → ℕ = λ word. unwrap_or (look word) c.args.missing in
    let same : length c.loop-number.values ≡ length c.args.values.now = search rules in
    sym (going_on-end f c.args.keys.now c.loop-number.number c.loop-number.from c.args.ends.now c.loop-number.values
    (λ p q. omega (arith, c.min-count.ensures, c.loop-number-test.false, same, p, q)))
    ∙ c.loop-number.invariant.1 look finds
