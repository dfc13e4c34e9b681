use Rattle.std.proofs.Common.{◌≡◌, ◌+◌, length, get_or, ap, sym, ◌∙◌, subst, arith, IsPermutation}
use Rattle.std.proofs.lemmas.List.{get_or_default, length-map}
use Rattle.zerotrie_build.specs.passes.Windows.{item_no}
use Rattle.zerotrie_build.specs.declared.sort.KeyPrefix.{KeyPrefix}
use Rattle.std.specs.List.{range_with_len}
use Rattle.zerotrie_base.specs.Items.{keyed, pairs_of}
use Rattle.zerotrie_base.specs.Routes.{any_order}
use Rattle.zerotrie_base.specs.declared.error.ZeroTrieBuildError.TheVariants.{NonAsciiError, Unsorted, DuplicateKey, MixedCase}
use Rattle.zerotrie_build.specs.passes.Sorts.{numbers_of}
use Rattle.zerotrie_build.specs.Refused.{AreFaultlessBefore, IsWhyRefused}
use Rattle.zerotrie_build.proofs.ItemLemmas.{count_pairs}
use Rattle.zerotrie_build.proofs.RefusalLemmas.Shown.{count_keyed, why_shown}
use Rattle.zerotrie_build.proofs.OrderLemmas.Numbered.{repeated_shown, mixed_shown, differ_sorted, distinct_sorted, faultless_sorted}
use Rattle.zerotrie_build.proofs.refusal.why_sorted_refused.Goals as goal

pub returns-in-Some : goal.returns-in-Some
returns-in-Some g c =
    let kind = g.K.ZeroTrieWithOptions.kind in
    let all = keyed g.Key.TrieKey.key c.args.items.now in
    let prefixes = c.args.prefixes.now in
    let sorted = c.args.sorted.now in
    let numbers = subst (λ n. IsPermutation (range_with_len 0 n) (numbers_of prefixes)) (sym (count_keyed g.Key.TrieKey.key c.args.items.now)) c.requires.numbers in
    let some = c.in-Some.ensures.some in
    let count = count_pairs sorted in
    let room = some.0 in
    let long = ap length c.requires.is ∙ length-map prefixes (λ f. item_no all f.index) in
    let i = c.in-Some.place in
    let none : KeyPrefix = record { prefix = 0; index = 0 } in
    let one = get_or prefixes i none in
    let other = get_or prefixes (i + 1) none in
    let e = c.between.ensures.error in
    why_shown any_order kind all c.between.result (λ foreign. let f : DuplicateKey ≡ Unsorted = sym e ∙ foreign in cc)
    (rw e (repeated_shown kind all prefixes (pairs_of sorted) i one other c.between.result.first c.between.result.second
    c.requires.is numbers (omega arith) (get_or_default prefixes i none one (omega arith)) (get_or_default prefixes (i + 1) none other (omega arith)) c.between.ensures.first c.between.ensures.second some.1))
    (subst (AreFaultlessBefore any_order kind all) (sym e) tt)

pub returns-in-Some-foreign : goal.returns-in-Some-foreign
returns-in-Some-foreign g c =
    let kind = g.K.ZeroTrieWithOptions.kind in
    let all = keyed g.Key.TrieKey.key c.args.items.now in
    let sorted = c.args.sorted.now in
    let own = c.in-Some-foreign.ensures.some in
    why_shown any_order kind all c.in-Some-foreign.refusal (λ foreign. let f : NonAsciiError ≡ Unsorted = sym own.0 ∙ foreign in cc) own.1
    (subst (AreFaultlessBefore any_order kind all) (sym own.0) (distinct_sorted kind all sorted c.requires.same (c.requires.sorted sorted c.requires.is) c.in_default.ensures.none))

pub returns-in_err-place : goal.returns-in_err-place
returns-in_err-place g c =
    let kind = g.K.ZeroTrieWithOptions.kind in
    let all = keyed g.Key.TrieKey.key c.args.items.now in
    subst (IsWhyRefused any_order kind all) (sym c.from_residual.ensures) (faultless_sorted kind all (pairs_of c.args.sorted.now) c.requires.same c.in_err-place.ensures.none c.in_default-foreign.ensures.none)

pub returns : goal.returns
returns g c =
    let kind = g.K.ZeroTrieWithOptions.kind in
    let all = keyed g.Key.TrieKey.key c.args.items.now in
    let prefixes = c.args.prefixes.now in
    let sorted = c.args.sorted.now in
    let numbers = subst (λ n. IsPermutation (range_with_len 0 n) (numbers_of prefixes)) (sym (count_keyed g.Key.TrieKey.key c.args.items.now)) c.requires.numbers in
    let some = c.in_ok-place.ensures.some in
    let count = count_pairs sorted in
    let room = some.0 in
    let long = ap length c.requires.is ∙ length-map prefixes (λ f. item_no all f.index) in
    let i = c.in_ok-place.place in
    let none : KeyPrefix = record { prefix = 0; index = 0 } in
    let one = get_or prefixes i none in
    let other = get_or prefixes (i + 1) none in
    let e = c.between-2.ensures.error in
    let up = c.requires.sorted sorted c.requires.is in
    why_shown any_order kind all c.between-2.result (λ foreign. let f : MixedCase ≡ Unsorted = sym e ∙ foreign in cc)
    (rw e (mixed_shown kind all prefixes (pairs_of sorted) i one other c.between-2.result.first c.between-2.result.second
    c.requires.is numbers (omega arith) (get_or_default prefixes i none one (omega arith)) (get_or_default prefixes (i + 1) none other (omega arith)) c.between-2.ensures.first c.between-2.ensures.second
    (differ_sorted kind sorted i up c.in_default.ensures.none (omega arith) some.1)))
    (subst (AreFaultlessBefore any_order kind all) (sym e) (distinct_sorted kind all sorted c.requires.same up c.in_default.ensures.none, c.in_default-foreign.ensures.none))
