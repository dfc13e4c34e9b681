use Rattle.std.proofs.Common.{◌≡◌, ◌∙◌, ◌+◌, arith, List, ℕ, ◌++◌, length, drop, reverse, sym}
use Rattle.std.proofs.lemmas.Bool.Decides.{Decides-eqb}
use Rattle.std.proofs.lemmas.Slice.Eq.{starts_is}
use Rattle.std.specs.Cmp.Lexicographic.{slice_cmp}
use Rattle.std.specs.Ordering.{nat_cmp}
use Rattle.zerotrie_search.specs.Walks.{rooms}
use Rattle.zerotrie_search.proofs.NextLemmas.{found_room}
use Rattle.zerotrie_search.proofs.StandLemmas.{follows_run, run_no_bound, stands_before, run_past, ends_climbed, parts_of, lt_is, not_lt}
use Rattle.zerotrie_search.proofs.sorted.seek.past_run.Goals as goal

pub returns-then-starts_with-clause-goes : goal.returns-then-starts_with-clause-goes
returns-then-starts_with-clause-goes g c pairs bound some f is =
    let left = c.args.left.now in
    let run' = c.args.run.now in
    let starts = starts_is Decides-eqb left run' c.starts_with.result c.starts_with.ensures.value in
    rw (c.in_ok-extend_from_slice.ensures.items, c.split_at.ensures.back) (follows_run f run' c.args.after.now is (drop (length run') left) (starts.0 c.if-starts_with.true))

pub returns-then-is_below-clause-goes : goal.returns-then-is_below-clause-goes
returns-then-is_below-clause-goes g c pairs bound some f is =
    let left = c.args.left.now in
    let run' = c.args.run.now in
    let after = c.args.after.now in
    let starts = starts_is Decides-eqb left run' c.starts_with.result c.starts_with.ensures.value in
    let other : (rest : List ℕ) → left ≡ run' ++ rest → ⊥ = λ rest e. (let yes = starts.1 rest e in let no = c.if-starts_with.false in cc) in
    let parts = parts_of left some in
    let low = lt_is (slice_cmp nat_cmp left run') (sym c.is_below.ensures ∙ c.if-is_below.true) in
    (run_no_bound f run' after is parts.0 parts.1 parts.2 other, stands_before f run' after is parts.0 parts.1 parts.2 other low)

pub returns-clause-goes : goal.returns-clause-goes
returns-clause-goes g c pairs bound some f is =
    let left = c.args.left.now in
    let run' = c.args.run.now in
    let after = c.args.after.now in
    let starts = starts_is Decides-eqb left run' c.starts_with.result c.starts_with.ensures.value in
    let other : (rest : List ℕ) → left ≡ run' ++ rest → ⊥ = λ rest e. (let yes = starts.1 rest e in let no = c.if-starts_with.false in cc) in
    let parts = parts_of left some in
    let high = not_lt (slice_cmp nat_cmp left run') (sym c.is_below.ensures ∙ c.if-is_below.false) in (
      run_no_bound f run' after is parts.0 parts.1 parts.2 other,
      ends_climbed f c.climb.new.key.items (reverse c.climb.new.forks.items) c.in_ok-next.next (c.in_ok-next.ensures.arrives pairs left f.way (run_past f run' after is parts.0 parts.1 parts.2 other high)),
    )

pub returns-clause-shorter : goal.returns-clause-shorter
returns-clause-shorter g c =
    let old : ℕ = rooms (reverse c.args.forks.now.items) in
    found_room c.in_ok-next.next (rooms (reverse c.climb.new.forks.items)) old (length c.args.at.now + old) c.in_ok-next.ensures.room (omega arith)
