use Rattle.std.proofs.Common.{◌+◌, ◌∙◌, None, ap, subst, sym, take}
use Rattle.std.specs.List.{AllZip}
use Rattle.zerotrie_run.specs.Runs.{OpensBy}
use Rattle.zerotrie_run.specs.declared.command.Check.TheVariants.{Full}
use Rattle.zerotrie_run.proofs.CombinedLemmas.{OpensTrie, none_at, zip_next}
use Rattle.zerotrie_run.proofs.combine.open_all.Goals as goal

pub returns-in-Err-clause-err : goal.returns-in-Err-clause-err
returns-in-Err-clause-err c =
    let l = c.loop-number in
    let bytes = c.index-held-number.result in
    let same = c.as_slice.ensures.value ∙ ap (λ b. b.items) c.index-held-number.is in
    none_at c.args.from.now c.args.held.now l.number _ bytes c.in-Err.error c.loop-number-test.true c.requires (rw same at c.in-Err.ensures.err)

pub loop-number-preserved : goal.loop-number-preserved
loop-number-preserved c =
    let l = c.loop-number in
    let bytes = c.index-held-number.result in
    let trie = c.in-Ok.trie in
    let same = c.as_slice.ensures.value ∙ ap (λ b. b.items) c.index-held-number.is in
    subst (λ tries. AllZip OpensTrie (take (l.number + 1) c.args.held.now) tries) (sym c.in_ok-push-in-Ok.ensures.items)
    (zip_next OpensTrie c.args.held.now l.number bytes l.tries.items trie c.loop-number-test.true l.invariant
    (subst (λ held. OpensBy Full None held trie.kind trie.bytes.now) same c.in-Ok.ensures.ok))
