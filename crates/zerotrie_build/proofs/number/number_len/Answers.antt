use Rattle.std.proofs.Common.{◌+◌, ◌*◌, ◌-◌, ◌%◌, [], ◌∷◌, refl, ◌∙◌, sym, inl, inr, arith}
use Rattle.zerotrie_base.specs.Numbers.{extender}
use Rattle.zerotrie_base.proofs.CallerLemmas.{completes_more}
use Rattle.zerotrie_build.proofs.WriteLemmas.Puts.{spelled_len}
use Rattle.zerotrie_build.proofs.number.number_len.Goals as goal

pub loop-rest-init : goal.loop-rest-init
loop-rest-init c =
    let fits = c.ranges.number.fits in
    record { trail = []; len = refl; completes = record { is_trail = tt; short = omega arith; room = omega arith; value = omega arith } }

pub loop-rest-preserved : goal.loop-rest-preserved
loop-rest-preserved c =
    let v = c.loop-rest.invariant in
    let len = v.len in
    record {
      trail = ((c.loop-rest.rest - c.args.latent) % 128 + 128 * extender v.trail) ∷ v.trail;
      len = omega arith;
      completes = completes_more _ _ _ _ (elim c.requires [ inl a ↦ omega arith | inr b ↦ omega arith ]) c.loop-rest-test.true v.completes;
    }

pub returns : goal.returns
returns c =
    let v = c.loop-rest.invariant in
    let len = v.len in
    let short = v.completes.short in
    record {
      len = λ form is. v.len ∙ sym (spelled_len form c.args.latent c.args.number c.loop-rest.rest v.trail c.requires is c.ranges.number.fits c.loop-rest-test.false v.completes);
      few = omega arith;
    }
