use Rattle.std.proofs.Common.{rules, ◌≡◌, ◌++◌, ◌∷◌, []}
use Rattle.zerotrie_lines.proofs.EscapeLemmas.{spelt_more, spelt_all, spelt_not}
use Rattle.zerotrie_lines.proofs.LineLemmas.{is_nil, not_nil}
use Rattle.zerotrie_lines.proofs.escapes.unescape.Goals as goal

pub returns-in_default-clause-no : goal.returns-in_default-clause-no
returns-in_default-clause-no c = λ _. spelt_not c.args.text.now c.loop-rest.key.items c.loop-rest.rest.now c.loop-rest.invariant
    (not_nil c.loop-rest.rest.now c.loop-rest-test.ensures) c.in_default.ensures.none

pub loop-rest-preserved : goal.loop-rest-preserved
loop-rest-preserved c =
    let items : c.push.new.self.items ≡ c.loop-rest.key.items ++ c.in-Some.byte ∷ [] = search rules in
    rw items (spelt_more c.args.text.now c.loop-rest.key.items c.loop-rest.rest.now c.in-Some.behind.now c.in-Some.byte c.loop-rest.invariant c.in-Some.ensures.some)

pub returns-clause-yes : goal.returns-clause-yes
returns-clause-yes c = λ _. spelt_all c.args.text.now c.loop-rest.key.items c.loop-rest.rest.now c.loop-rest.invariant
    (is_nil c.loop-rest.rest.now c.loop-rest-test.ensures)
