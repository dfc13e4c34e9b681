use Rattle.std.proofs.Common.{◌∙◌, ap, sym, arith, get_or, ◌-◌}
use Rattle.zerotrie_build.specs.declared.array.text.Sibling.{Sibling}
use Rattle.zerotrie_build.proofs.ArrayLemmas.Steps.{level_more}
use Rattle.zerotrie_build.proofs.array.walk.start_of.Goals as goal

pub loop-start-preserved : goal.loop-start-preserved
loop-start-preserved g c =
    let v = c.loop-start.invariant in
    let none : Sibling = record { depth = 0; byte = 0; len = 0 } in
    record {
      within = (let w = v.within in omega arith);
      level = level_more c.args.depth c.args.siblings.now.items c.loop-start.start none c.loop-start-test.true v.within
          (ap (λ x. (get_or x (c.loop-start.start - 1) none).depth) (sym c.deref.ensures.0) ∙ c.if-deref-start.true) v.level;
    }
