use Rattle.std.proofs.Common.{◌≡◌, ◌+◌, ◌*◌, ◌-◌, ◌%◌, [], ◌∷◌, reverse, arith, ◌∙◌, ap}
use Rattle.std.proofs.lemmas.List.{reverse-append}
use Rattle.zerotrie_base.specs.Numbers.{extender}
use Rattle.zerotrie_base.proofs.NumberLemmas.Written.{completes_more}
use Rattle.zerotrie_base.proofs.varint.bytes_backward.Goals as goal

pub loop-value-preserved : goal.loop-value-preserved
loop-value-preserved c =
    let is : reverse c.push.new.self.items ≡ ((c.loop-value.value - c.args.latent) % 128 + 128 * extender (reverse c.loop-value.out.items)) ∷ reverse c.loop-value.out.items =
    ap reverse c.push.ensures.items ∙ reverse-append c.loop-value.out.items (((c.loop-value.value - c.args.latent) % 128 + c.loop-value.extended) ∷ [])
    ∙ ap (λ e. ((c.loop-value.value - c.args.latent) % 128 + e) ∷ reverse c.loop-value.out.items) c.loop-value.invariant.extended in
    rw is (record { extended = omega arith; completes = completes_more _ _ _ _ (omega arith) (omega arith) c.loop-value.invariant.completes })
