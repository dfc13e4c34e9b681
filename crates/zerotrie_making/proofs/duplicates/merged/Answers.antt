use Rattle.std.proofs.Common.{◌≡◌, ◌∷◌, [], ◌++◌, ◌+◌, ◌^◌, ◌<◌, ◌≤◌, ℕ, List, length, take, get_or, Some, None, sym, ap, subst, ◌∙◌, arith}
use Rattle.std.specs.Prelude.{if◌then◌else◌}
use Rattle.std.specs.Str.{bytes_eq}
use Rattle.std.specs.Borrow.{Bor}
use Rattle.std.proofs.lemmas.List.{length-map, append-nil}
use Rattle.zerotrie_lines.specs.Tables.{Pair, pairs_of}
use Rattle.zerotrie_sets.specs.declared.selection.Rule.TheVariants.{Sum}
use Rattle.zerotrie_making.specs.Kept.{merged, unnumbered, numbers, place_in, with_next, AreSmall}
use Rattle.zerotrie_making.proofs.MergedLemmas.{position, position_below, kept_next, new_place, same_place, pairs_more, counted_more, key_of_item, too_large_at}
use Rattle.zerotrie_making.proofs.duplicates.merged.Goals.{in-None+in_ok-add_first-in-None, in-Some+else-not-merge_at}
use Rattle.zerotrie_making.proofs.duplicates.merged.Goals as goal

pub merge_at-requires : goal.merge_at-requires
merge_at-requires c =
    let l = c.loop-done in
    let (low, kept, places, small) = l.invariant in
    let item = get_or c.args.all.now l.done (record { ref_ptr = (0, 0); now = [] }, 0) in
    let at : position item.0.now (pairs_of l.kept.items.items) ≡ Some c.in-Some.place = sym (places item.0.now) ∙ sym c.get.ensures.value ∙ sym c.in-Some.ensures in
    let inside = position_below item.0.now (pairs_of l.kept.items.items) c.in-Some.place at in
    subst (λ n. c.in-Some.place < n) (length-map l.kept.items.items _) inside

pub returns-then-not-merge_at-clause-err : goal.returns-then-not-merge_at-clause-err
returns-then-not-merge_at-clause-err c =
    let l = c.loop-done in
    let all = c.args.all.now in
    let (low, kept, places, small) = l.invariant in
    let h = c.loop-done-test.true in
    let d : Bor (List ℕ) × ℕ = (record { ref_ptr = (0, 0); now = [] }, 0) in
    let item = get_or all l.done d in
    let e : Pair = (item.0.now, item.1) in
    let at : position item.0.now (pairs_of l.kept.items.items) ≡ Some c.in-Some.place = sym (places item.0.now) ∙ sym c.get.ensures.value ∙ sym c.in-Some.ensures in
    let large : (c.args.rule ≡ Sum) × (2 ^ 64 ≤ (get_or (pairs_of l.kept.items.items) c.in-Some.place e).1 + item.1) = c.if-not-merge_at.ensures.too_large item.0.now in
    too_large_at c.args.rule (pairs_of all) l.done e e c.in-Some.place (pairs_of l.kept.items.items) c.in_ok-numbered-in-Some.field-0
    (subst (λ n. l.done < n) (sym (length-map all _)) h) (pairs_more all l.done d h) (key_of_item all l.done d h) kept.1 small at large.0 large.1 c.in_ok-numbered-in-Some.ensures

pub loop-done-preserved : goal.loop-done-preserved
loop-done-preserved c =
    let l = c.loop-done in
    let all = c.args.all.now in
    let (low, kept, places, small) = l.invariant in
    let h = c.loop-done-test.true in
    let d : Bor (List ℕ) × ℕ = (record { ref_ptr = (0, 0); now = [] }, 0) in
    let item = get_or all l.done d in
    let e : Pair = (item.0.now, item.1) in
    let ps = pairs_of l.kept.items.items in
    let more = pairs_of c.match-place.kept.items.items in
    let before = take l.done (pairs_of all) in
    let grown : take (l.done + 1) (pairs_of all) ≡ before ++ e ∷ [] = pairs_more all l.done d h in
    let counted : l.done + 1 ≡ 1 + length before = counted_more (pairs_of all) l.done (subst (λ n. l.done < n) (sym (length-map all _)) h) in
    let found = sym (places item.0.now) ∙ sym c.get.ensures.value ∙ sym c.copied-place.ensures in
    elim c.match-place.branch [
      | in-None+in_ok-add_first-in-None w ↦ (
          let a = w.in_ok-add_first-in-None.ensures in
          let at : position item.0.now ps ≡ None = found ∙ w.in-None.is in
          let pushed : more ≡ with_next c.args.rule None e ps = ap (λ k. pairs_of k.items.items) w.kept-is ∙ a.items in
          let k = kept_next c.args.rule before e None (l.done + 1) l.kept.numbers.items c.match-place.kept.numbers.items ps more kept.0 kept.1 at counted (ap (λ k. k.numbers.items) w.kept-is ∙ a.numbers) pushed in (
            omega (arith, h),
            (k.0 ∙ ap (λ t. numbers (merged c.args.rule t)) (sym grown), k.1 ∙ ap (λ t. unnumbered (merged c.args.rule t)) (sym grown)),
            λ q. ap (λ m. place_in m q) w.places-is ∙ a.places q
                ∙ ap (λ n. if bytes_eq item.0.now q then Some n else place_in l.places q) (sym (length-map l.kept.items.items _))
                ∙ ap (λ o. if bytes_eq item.0.now q then Some (length ps) else o) (places q) ∙ sym (new_place c.args.rule e ps more q at pushed),
            subst (λ k. AreSmall (pairs_of k.items.items)) (sym w.kept-is) (a.small small),
          ))
      | in-Some+else-not-merge_at w ↦ (
          let a = w.if-not-merge_at.ensures in
          let at : position item.0.now ps ≡ Some w.in-Some.place = found ∙ w.in-Some.is in
          let put : more ≡ with_next c.args.rule (Some w.in-Some.place) e ps = ap (λ k. pairs_of k.items.items) w.kept-is ∙ a.merged item.0.now in
          let k = kept_next c.args.rule before e (Some w.in-Some.place) (l.done + 1) l.kept.numbers.items c.match-place.kept.numbers.items ps more kept.0 kept.1 at counted (ap (λ k. k.numbers.items) w.kept-is ∙ sym (append-nil l.kept.numbers.items)) put in (
            omega (arith, h),
            (k.0 ∙ ap (λ t. numbers (merged c.args.rule t)) (sym grown), k.1 ∙ ap (λ t. unnumbered (merged c.args.rule t)) (sym grown)),
            λ q. ap (λ m. place_in m q) w.places-is ∙ places q ∙ sym (same_place c.args.rule e w.in-Some.place ps more q at put),
            subst (λ k. AreSmall (pairs_of k.items.items)) (sym w.kept-is) (a.small small),
          ))
    ]
