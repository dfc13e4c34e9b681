use Rattle.std.proofs.Common.{◌∷◌, [], ◌++◌, ap, ◌∙◌}
use Rattle.zerotrie_build.proofs.WriteLemmas.Layouts.{range_more}
use Rattle.zerotrie_build.proofs.branch.Layout.number_in_order.Goals as goal

pub loop-number-preserved : goal.loop-number-preserved
loop-number-preserved g c =
    let v = c.loop-number.invariant in
    record {
      numbers = c.in_ok-push.ensures.items ∙ ap (λ x. x ++ c.loop-number.number ∷ []) v.numbers ∙ range_more c.loop-number.number;
      windows = v.windows;
      table = v.table;
    }
