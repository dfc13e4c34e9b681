use Rattle.std.proofs.Common.{rules, ◌≡◌, ◌^◌, ◌<◌, inl, inr, length, refl}
use Rattle.std.proofs.lemmas.Result.{MatchResult-weaker, err_from_is_err_and}
use Rattle.zerotrie_uses.proofs.SliceLemmas.{front_cause, part_cause, whole}
use Rattle.zerotrie_uses.proofs.slices.value_in_file.Goals as goal

pub returns-clause-found : goal.returns-clause-found
returns-clause-found c =
    let file = c.args.file.now in
    let opened = c.in_ok-index.ensures in
    MatchResult-weaker c.get_at.result c.get_at.ensures.found (λ found is index pairs sealed holds.
    is index (file, opened.same file refl, opened.table file refl, c.has_its_blocks.ensures index file c.in_ok-index.index.front.start sealed (opened.front file refl)) pairs holds) (λ e any. any)

pub returns-in_err-index-clause-err : goal.returns-in_err-index-clause-err
returns-in_err-index-clause-err c =
    let p = err_from_is_err_and c.from_residual.result c.from_residual.ensures.1 in
    let short : length c.args.file.now < 2 ^ 64 = search rules in
    rw (p.1, p.2) (λ index pairs sealed holds. front_cause c.args.file.now index _ sealed short c.in_err-index.ensures.err)

pub returns-clause-err : goal.returns-clause-err
returns-clause-err c =
    let file = c.args.file.now in
    let opened = c.in_ok-index.ensures in
    let front = c.in_ok-index.index.front in
    let short : length file < 2 ^ 64 = search rules in
    MatchResult-weaker c.get_at.result c.get_at.ensures.err (λ found any. any) (λ e why index pairs sealed holds. elim why [
      | inl fails ↦ part_cause _ _ index file front fails.0 fails.1 e (opened.same file refl) opened.fewer
          (whole c.index_is_behind.ensures index file front sealed (opened.front file refl) (opened.table file refl)) short
          (fails.2 index (file, opened.same file refl, opened.table file refl, c.has_its_blocks.ensures index file front.start (inr sealed) (opened.front file refl)) pairs holds) fails.3
      | inr memory ↦ memory
    ])
