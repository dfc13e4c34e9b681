use Rattle.std.proofs.Common.{◌≡◌, ◌≤◌, length, None, ◌∙◌, sym, subst, rules, arith}
use Rattle.std.specs.Prelude.{All}
use Rattle.zerotrie_base.specs.Kind.{kind_with}
use Rattle.zerotrie_core.specs.walk.Visits.{nodes_of, whole}
use Rattle.zerotrie_core.specs.walk.Seen.{visits_left, LiesIn}
use Rattle.zerotrie_core.proofs.WalkLemmas.Texts.{text_walked}
use Rattle.zerotrie_core.proofs.WalkLemmas.Visits.{visits_most}
use Rattle.zerotrie_core.proofs.WalkLemmas.Places.{nodes_lie}
use Rattle.zerotrie_core.proofs.walk.Nodes.new.Goals as goal

pub returns-clause-most : goal.returns-clause-most
returns-clause-most g c =
    let all : visits_left (kind_with c.of.result) c.push.new.self.items ≡ nodes_of g.K.ZeroTrieWithOptions.kind c.args.bytes.now = search rules in
    subst (λ s. length s ≤ length c.args.bytes.now) (sym all) (visits_most g.K.ZeroTrieWithOptions.kind (whole c.args.bytes.now))

pub returns-clause-lie : goal.returns-clause-lie
returns-clause-lie g c =
    let all : visits_left (kind_with c.of.result) c.push.new.self.items ≡ nodes_of g.K.ZeroTrieWithOptions.kind c.args.bytes.now = search rules in
    subst (All (LiesIn g.K.ZeroTrieWithOptions.kind c.args.bytes.now)) (sym all) (nodes_lie g.K.ZeroTrieWithOptions.kind c.args.bytes.now (λ i. omega (arith, c.type_inv.bytes i)))

pub returns-clause-text : goal.returns-clause-text
returns-clause-text g c =
    let all : visits_left (kind_with c.of.result) c.push.new.self.items ≡ nodes_of g.K.ZeroTrieWithOptions.kind c.args.bytes.now = search rules in
    λ pairs text. all ∙ text_walked text 0 0 None None
