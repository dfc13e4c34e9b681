use Rattle.std.proofs.Common.{rules, ◌≡◌, ◌∷◌, suc, ◌++◌, ◌∙◌, [], length, length-append, ap, sym, append_assoc, arith}
use Rattle.zerotrie_queries.specs.Diffs.{change_line, change_lines}
use Rattle.zerotrie_queries.proofs.DiffLemmas.{some_line, none_if, some_if}
use Rattle.zerotrie_queries.proofs.diff.add_block.Goals as goal

pub loop-diff-preserved : goal.loop-diff-preserved
loop-diff-preserved g c =
    let before = c.loop-diff.lines.items in
    let at = c.advance.new.self in
    let here = change_line at.current.0 at.current.1 in
    let line : c.add_change.new.line.items ≡ before ++ here = search rules in
    let first : c.loop-diff.diff.left.items ≡ at.current ∷ at.left.items = search rules in
    let len : length c.loop-diff.diff.left.items ≡ suc (length at.left.items) = ap length first in
    let most = c.loop-diff.invariant.most in
    let some = some_line at.current.0 at.current.1 in
    let long = ap length line in
    let both = length-append before here in
    record {
      lines =
          ap (λ l. l ++ change_lines at.left.items) line
          ∙ append_assoc before here (change_lines at.left.items)
          ∙ ap (λ l. before ++ l) (sym (ap change_lines first))
          ∙ c.loop-diff.invariant.lines;
      most = omega arith;
      fewer = λ _. omega arith;
      same = λ none. absurd (let zero = ap length none in omega (arith, zero, long, both, some));
    }

pub returns-then-not-branch-clause-none : goal.returns-then-not-branch-clause-none
returns-then-not-branch-clause-none g c =
    let l = c.loop-diff in
    let none : l.diff.left.items ≡ [] = search rules in
    none_if l.lines.items l.diff.left.items c.args.diff.now.left.items none l.invariant.same l.invariant.fewer

pub returns-clause-none : goal.returns-clause-none
returns-clause-none g c =
    let l = c.loop-diff in
    some_if l.lines.items l.diff.left.items c.args.diff.now.left.items (omega arith) (l.invariant.fewer (omega arith))
