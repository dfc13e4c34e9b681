use Rattle.std.proofs.Common.{◌≡◌, ◌∙◌, ap, subst}
use Rattle.zerotrie_base.specs.Items.{keyed}
use Rattle.zerotrie_base.specs.Routes.{HoldsOfItsPairs}
use Rattle.zerotrie_index.specs.Built.{IsIndexBuild}
use Rattle.zerotrie_index.proofs.WrittenLemmas.{built_all}
use Rattle.zerotrie_index.proofs.builder.build_all.Goals as goal

pub returns : goal.returns
returns g c =
    let key = g.K.TrieKey.key in
    let run = c.in_ok-given.ensures.runs tt in
    let given : keyed key c.as_slice.result.now ≡ keyed key run.0.items = ap (keyed key) (c.as_slice.ensures.value ∙ run.3.0) in
    built_all (λ bytes. bytes.items) c.args.seed (HoldsOfItsPairs g.U.IntoIterator.into_iter_gives g.U.IntoIter.Iterator.next_gives key c.args.iter) (keyed key run.0.items)
    (λ Fact fact. (c.into_iter.result, c.into_iter.ensures.into_iter_gives, (run.0, run.1, run.2, fact)))
    c.build.result (subst (λ pairs. IsIndexBuild c.args.seed (λ bytes. bytes.items) pairs c.build.result) given c.build.ensures)
