use Rattle.std.proofs.Common.{rules, ◌≡◌, ◌++◌, ◌∷◌, []}
use Rattle.zerotrie_lines.specs.Lines.{ended_lines}
use Rattle.zerotrie_lines.proofs.EndLemmas.{first_ended}
use Rattle.zerotrie_lines.proofs.LineLemmas.{read_on, not_nil}
use Rattle.zerotrie_lines.proofs.lines.read_lines.Goals as goal

pub loop-rest-preserved : goal.loop-rest-preserved
loop-rest-preserved c =
    let end = c.args.end in
    let rest = c.loop-rest.rest.now in
    let line = c.take_ended.result in
    let after = c.take_ended.new.rest.now in
    let first = first_ended end rest line.now after (not_nil rest c.loop-rest-test.ensures) c.take_ended.ensures.line c.take_ended.ensures.rest in
    let items : c.push.new.self.items ≡ c.loop-rest.lines.items ++ line ∷ [] = search rules in
    rw items (read_on (ended_lines end c.args.text.now) (ended_lines end rest) (ended_lines end after) c.loop-rest.lines.items line c.loop-rest.invariant first)
