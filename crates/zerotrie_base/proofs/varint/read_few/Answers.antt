use Rattle.std.proofs.Common.{rules, ◌≡◌, ◌∷◌, ◌%◌, arith, ap, ◌∙◌}
use Rattle.zerotrie_base.proofs.NumberLemmas.Numbers.{read_from}
use Rattle.zerotrie_base.proofs.NumberLemmas.Few.{last, onward, begins}
use Rattle.zerotrie_base.proofs.varint.read_few.Goals as goal

pub returns-then-first-lt128 : goal.returns-then-first-lt128
returns-then-first-lt128 c =
    let L = c.args.latent in
    let first = c.in_ok-first.first.now in
    let is : c.args.rest.now ≡ first ∷ c.in_ok-first.rest.now = search rules in
    begins _ _ _ _ _ (omega arith) (λ i. omega (arith, c.type_inv.rest i)) (omega arith) (λ e. c.requires.more e)
    (ap (read_from L (c.args.start % L)) is ∙ last L (c.args.start % L) first _ (omega arith))

pub returns-then-second-lt128 : goal.returns-then-second-lt128
returns-then-second-lt128 c =
    let L = c.args.latent in
    let first = c.in_ok-first.first.now in
    let second = c.in_ok-second.second.now in
    let is : c.args.rest.now ≡ first ∷ c.in_ok-first.rest.now = search rules in
    let then : c.in_ok-first.rest.now ≡ second ∷ c.in_ok-second.rest.now = search rules in
    begins _ _ _ _ _ (omega arith) (λ i. omega (arith, c.type_inv.rest i)) (omega arith) (λ e. c.requires.more e)
    (ap (read_from L (c.args.start % L)) is ∙ (onward L (c.args.start % L) first _ (omega arith)
    ∙ (ap (read_from L _) then ∙ last L _ second _ (omega arith))))

pub returns-then-third-lt128 : goal.returns-then-third-lt128
returns-then-third-lt128 c =
    let L = c.args.latent in
    let first = c.in_ok-first.first.now in
    let second = c.in_ok-second.second.now in
    let third = c.in_ok-third.third.now in
    let is : c.args.rest.now ≡ first ∷ c.in_ok-first.rest.now = search rules in
    let then : c.in_ok-first.rest.now ≡ second ∷ c.in_ok-second.rest.now = search rules in
    let next : c.in_ok-second.rest.now ≡ third ∷ c.in_ok-third.rest.now = search rules in
    begins _ _ _ _ _ (omega arith) (λ i. omega (arith, c.type_inv.rest i)) (omega arith) (λ e. c.requires.more e)
    (ap (read_from L (c.args.start % L)) is ∙ (onward L (c.args.start % L) first _ (omega arith)
    ∙ (ap (read_from L _) then ∙ (onward L _ second _ (omega arith) ∙ (ap (read_from L _) next ∙ last L _ third _ (omega arith))))))
