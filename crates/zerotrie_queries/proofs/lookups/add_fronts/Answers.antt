use Rattle.std.proofs.Common.{rules, ◌≡◌, ◌++◌, ◌∙◌, None, true, false, sym}
use Rattle.zerotrie_queries.specs.Answers.{ends_at}
use Rattle.zerotrie_queries.specs.Printed.{front_line}
use Rattle.zerotrie_queries.proofs.FrontLemmas.{prints_none, prints_next, prints_same, prints_all}
use Rattle.zerotrie_queries.proofs.lookups.add_fronts.Goals as goal

pub loop-len-init : goal.loop-len-init
loop-len-init c = record {
  text = c.requires;
  prints = prints_none c.args.border c.args.text.now c.args.lines.now.items c.args.fronts.now;
}

pub loop-len-preserved-then-ends_at : goal.loop-len-preserved-then-ends_at
loop-len-preserved-then-ends_at c =
    let line : c.add_front.new.line.items ≡ c.loop-len.lines.items ++ front_line c.args.text.now (c.in-Some.len, c.in-Some.value) = search rules in
    let ends : ends_at c.args.border c.args.text.now c.in-Some.len ≡ true = search rules in
    record {
      text = c.in-Some.ensures.steps.1 ∙ c.loop-len.invariant.text;
      prints = prints_next c.args.border c.args.text.now c.loop-len.lines.items c.add_front.new.line.items c.args.lines.now.items c.loop-len.found (c.in-Some.len, c.in-Some.value) c.args.fronts.now c.loop-len.fronts c.next.new.self
          c.loop-len.invariant.prints c.in-Some.ensures.steps ends line;
    }

pub loop-len-preserved : goal.loop-len-preserved
loop-len-preserved c =
    let ends : ends_at c.args.border c.args.text.now c.in-Some.len ≡ false = search rules in
    record {
      text = c.in-Some.ensures.steps.1 ∙ c.loop-len.invariant.text;
      prints = prints_same c.args.border c.args.text.now c.loop-len.lines.items c.args.lines.now.items c.loop-len.found (c.in-Some.len, c.in-Some.value) c.args.fronts.now c.loop-len.fronts c.next.new.self
          c.loop-len.invariant.prints c.in-Some.ensures.steps ends;
    }

pub returns : goal.returns
returns c pairs leaves =
    let none : c.next.result ≡ None = search rules in
    prints_all c.args.border c.args.text.now c.loop-len.lines.items c.args.lines.now.items c.loop-len.found c.next.result c.args.fronts.now c.loop-len.fronts c.next.new.self c.loop-len.invariant.prints none c.next.ensures.steps pairs leaves
