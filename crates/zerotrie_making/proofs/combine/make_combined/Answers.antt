use Rattle.std.proofs.Common.{◌≡◌, ◌∙◌, ap, inr, subst, None, map, false}
use Rattle.zerotrie_core.specs.Items.{pairs_of}
use Rattle.zerotrie_making.specs.Combinations.{OfMeant, ExplainsMaps, kind_kept}
use Rattle.zerotrie_making.specs.Kept.{number_of}
use Rattle.zerotrie_making.specs.Made.{ExplainsOf, IsMadeOf}
use Rattle.zerotrie_making.specs.declared.error.CombinationError.TheVariants.{NotMade}
use Rattle.zerotrie_making.proofs.CombineLemmas.{kinds_meant, why_not, passed_on}
use Rattle.zerotrie_making.proofs.combine.make_combined.Goals as goal

pub returns-in_err-table-clause-err : goal.returns-in_err-table-clause-err
returns-in_err-table-clause-err c =
    let e = c.in_err-table.field-0.0 in
    passed_on c.from_residual.result e (λ e. OfMeant c.args.tries.now (λ maps. ExplainsMaps c.args.combination maps e)) c.from_residual.ensures.1
    (λ maps meant. why_not c.args.combination maps e (c.in_err-table.ensures.err maps meant))

pub returns-clause-ok : goal.returns-clause-ok
returns-clause-ok c = λ maps meant.
    let combination = c.args.combination in
    let pairs = c.in_ok-table.table in
    let same = ap pairs_of c.as_slice.ensures.value ∙ c.in_ok-items.ensures in
    let taken = c.in_ok-table.ensures.ok maps meant in
    let kind : c.kind_kept.result ≡ kind_kept combination.kind (map (λ m. m.0) maps) = c.kind_kept.ensures ∙ ap (kind_kept combination.kind) (kinds_meant c.args.tries.now maps meant) in
    let made = c.in_ok-make_of.field-0 in
    record {
      pairs = pairs;
      taken = taken.taken;
      valued = taken.valued;
      fact = subst (λ k. IsMadeOf (record { kind = k; sorted = false; form = combination.form }) pairs made) kind
          (subst (λ ps. IsMadeOf (record { kind = c.kind_kept.result; sorted = false; form = combination.form }) ps made) same c.in_ok-make_of.ensures.ok);
    }

pub returns-in_err-make_of-clause-err : goal.returns-in_err-make_of-clause-err
returns-in_err-make_of-clause-err c =
    let combination = c.args.combination in
    let pairs = c.in_ok-table.table in
    let same = ap pairs_of c.as_slice.ensures.value ∙ c.in_ok-items.ensures in
    let e = c.in_err-make_of.field-0.0 in
    passed_on c.from_residual-in_err-make_of.result (NotMade e) (λ e. OfMeant c.args.tries.now (λ maps. ExplainsMaps combination maps e)) c.from_residual-in_err-make_of.ensures.1
    (λ maps meant.
    (let taken = c.in_ok-table.ensures.ok maps meant in
    let kind : c.kind_kept.result ≡ kind_kept combination.kind (map (λ m. m.0) maps) = c.kind_kept.ensures ∙ ap (kind_kept combination.kind) (kinds_meant c.args.tries.now maps meant) in
    inr (record {
      pairs = pairs;
      taken = taken.taken;
      valued = taken.valued;
      fact = subst (λ k. ExplainsOf (record { kind = k; sorted = false; form = combination.form }) (number_of None) pairs e) kind
          (subst (λ ps. ExplainsOf (record { kind = c.kind_kept.result; sorted = false; form = combination.form }) (number_of None) ps e) same c.in_err-make_of.ensures.err);
    })))
