use Rattle.std.proofs.Common.{◌∙◌, ap, inr, map, refl, subst, sym}
use Rattle.std.specs.List.{AllZip}
use Rattle.std.proofs.lemmas.Result.{err_from_is_err_and}
use Rattle.zerotrie_making.specs.Combinations.{ExplainsMaps}
use Rattle.zerotrie_run.specs.Combined.{are_several}
use Rattle.zerotrie_run.proofs.CombinedLemmas.{OpensTrie, all_well, made_so, of_held}
use Rattle.zerotrie_run.proofs.combine.combine.Goals as goal

pub make_combined-requires : goal.make_combined-requires
make_combined-requires c =
    let opened = subst (λ tries. AllZip OpensTrie c.args.held.now tries) (sym c.as_slice-2.ensures.value) c.in_ok-tries.ensures.ok in
    all_well c.args.held.now c.as_slice-2.result.now opened

pub returns-in_err-made-clause-err : goal.returns-in_err-made-clause-err
returns-in_err-made-clause-err c =
    let opened = subst (λ tries. AllZip OpensTrie c.args.held.now tries) (sym c.as_slice-2.ensures.value) c.in_ok-tries.ensures.ok in
    let same = err_from_is_err_and c.from_residual-in_err-made.result c.from_residual-in_err-made.ensures.1 in
    let why = c.in_err-made.field-0.0 in
    rw (same.1, same.2) (inr (why, refl, of_held c.args.held.now c.as_slice-2.result.now (λ maps. ExplainsMaps c.args.combination maps why) opened c.in_err-made.ensures.err))

pub returns-clause-ok : goal.returns-clause-ok
returns-clause-ok c =
    let opened = subst (λ tries. AllZip OpensTrie c.args.held.now tries) (sym c.as_slice-2.ensures.value) c.in_ok-tries.ensures.ok in
    let several = c.have_several_kinds-several.ensures
    ∙ ap (λ tries. are_several c.args.combination.kind (map (λ trie. trie.kind) tries)) (c.as_slice.ensures.value ∙ sym c.as_slice-2.ensures.value) in
    made_so c.args.combination c.args.held.now c.as_slice-2.result.now c.in_ok-made.made c.have_several_kinds-several.result opened c.in_ok-made.ensures.ok several
