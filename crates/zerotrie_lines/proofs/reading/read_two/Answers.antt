use Rattle.std.proofs.Common.{◌+◌, length, subst, sym, ap, arith}
use Rattle.zerotrie_lines.specs.Lines.{ended_lines}
use Rattle.zerotrie_lines.specs.Reads.{tabbed}
use Rattle.zerotrie_lines.proofs.LineLemmas.{after_shorter, is_nil, not_nil}
use Rattle.zerotrie_lines.proofs.EndLemmas.{first_ended, none_ended}
use Rattle.zerotrie_lines.proofs.ReadLemmas.{ReadTo, read_more, read_all, read_bad, good_more, tabbed_pair}
use Rattle.zerotrie_lines.proofs.reading.read_two.Goals as goal

pub returns-in-Some-clause-err : goal.returns-in-Some-clause-err
returns-in-Some-clause-err c =
    let end = c.args.end in
    let rest = c.loop-rest.rest.now in
    let line = c.take_ended-line in
    rw c.at_line.ensures (read_bad (c.args.before + 1) c.args.raw (ended_lines end c.args.text.now) (ended_lines end rest) (ended_lines end line.new.rest.now) (c.loop-rest.number + 1) line.result.now c.in-Some.bad c.loop-rest.invariant.good
    (first_ended end rest line.result.now line.new.rest.now (not_nil rest c.loop-rest-test.ensures) line.ensures.line line.ensures.rest)
    (rw c.in-Some.is at c.in_ok-bad.ensures.none))

pub loop-rest-preserved : goal.loop-rest-preserved
loop-rest-preserved c =
    let end = c.args.end in
    let raw = c.args.raw in
    let rest = c.loop-rest.rest.now in
    let line = c.take_ended-line in
    let after = line.new.rest.now in
    let some = not_nil rest c.loop-rest-test.ensures in
    let first = first_ended end rest line.result.now after some line.ensures.line line.ensures.rest in
    let all = ended_lines end c.args.text.now in
    let y = rw c.in_default.is at c.in_ok-bad.ensures.pair in record {
      start = c.loop-rest.invariant.start;
      few = omega (arith, c.loop-rest.invariant.few, after_shorter rest some, ap (λ t. length t) line.ensures.rest);
      read = subst (λ t. ReadTo (c.args.before + 1) (tabbed raw) all t (c.loop-rest.number + 1 + 1) (ended_lines end after)) (sym y.2)
          (read_more (c.args.before + 1) (tabbed raw) all (ended_lines end rest) (ended_lines end after) c.loop-rest.table (c.loop-rest.number + 1) line.result.now y.0 c.loop-rest.invariant.read first
          (tabbed_pair raw (c.loop-rest.number + 1) line.result.now y.0 y.1));
      good = good_more (c.args.before + 1) raw all (ended_lines end rest) (ended_lines end after) (c.loop-rest.number + 1) line.result.now y.0 c.loop-rest.invariant.good first y.1;
    }

pub returns-clause-ok : goal.returns-clause-ok
returns-clause-ok c =
    read_all (c.args.before + 1) (tabbed c.args.raw) (ended_lines c.args.end c.args.text.now) (ended_lines c.args.end c.loop-rest.rest.now) c.loop-rest.table (c.loop-rest.number + 1) c.loop-rest.invariant.read
    (none_ended c.args.end c.loop-rest.rest.now (is_nil c.loop-rest.rest.now c.loop-rest-test.ensures))
