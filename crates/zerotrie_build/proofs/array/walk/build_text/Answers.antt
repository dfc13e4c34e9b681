use Rattle.std.proofs.Common.{◌≡◌, ◌-◌, suc, arith, refl, rules, subst}
use Rattle.zerotrie_build.specs.Items.{pairs}
use Rattle.zerotrie_build.specs.array.Growing.{BuiltFrom}
use Rattle.zerotrie_build.proofs.ArrayLemmas.Adding.{built_nothing}
use Rattle.zerotrie_build.proofs.ArrayLemmas.Text.{keeps_same}
use Rattle.zerotrie_build.proofs.array.walk.build_text.Goals as goal

pub loop-index-init : goal.loop-index-init
loop-index-init g c = record {
  built = rw c.new-siblings.ensures (built_nothing g.K.ZeroTrieWithOptions.kind g.row.STACK (pairs c.args.items) c.len-index.result _ c.len-index.ensures refl refl);
  keeps = keeps_same _ _ refl refl refl;
  within = let e = c.len-index.ensures in omega arith;
}

pub add-requires : goal.add-requires
add-requires g c =
    let v = c.loop-index.invariant in
    let t = c.loop-index-test.true in
    let w = v.within in
    let next : c.loop-index.index ≡ suc (c.loop-index.index - 1) = omega arith in
    let built = subst (λ i. BuiltFrom g.K.ZeroTrieWithOptions.kind g.row.STACK i (pairs c.args.items) c.loop-index.text c.loop-index.siblings.items) next v.built in
    (search rules, (c.requires.kind, (omega arith, (c.requires.sorted, (c.requires.ascii, built)))))
