use Rattle.std.proofs.Common.{◌+◌, length, subst, sym, ap, arith, refl, ◌∙◌}
use Rattle.zerotrie_lines.specs.Lines.{ended_lines}
use Rattle.zerotrie_lines.specs.Tables.{pairs_of}
use Rattle.zerotrie_lines.specs.declared.reading.Format.TheVariants.{Lines}
use Rattle.zerotrie_lines.proofs.ItemLemmas.{pairs_push}
use Rattle.zerotrie_lines.proofs.LineLemmas.{after_shorter, is_nil, not_nil}
use Rattle.zerotrie_lines.proofs.EndLemmas.{first_ended, none_ended}
use Rattle.zerotrie_lines.proofs.ReadLemmas.{ReadTo, read_more, read_all}
use Rattle.zerotrie_lines.proofs.items.items_of_keys.Goals as goal

pub loop-rest-preserved : goal.loop-rest-preserved
loop-rest-preserved c =
    let rest = c.loop-rest.rest.now in
    let line = c.take_ended-line in
    let after = line.new.rest.now in
    let some = not_nil rest c.loop-rest-test.ensures in
    let items = c.loop-rest.items.items in
    let first = first_ended c.args.end rest line.result.now after some line.ensures.line line.ensures.rest in
    let pushed = ap pairs_of c.in_ok-push.ensures.items ∙ pairs_push items (line.result, c.loop-rest.number + 1) in record {
      start = c.loop-rest.invariant.start;
      few = omega (arith, c.loop-rest.invariant.few, after_shorter rest some, ap (λ t. length t) line.ensures.rest);
      read = subst (λ p. ReadTo (c.args.before + 1) Lines (ended_lines c.args.end c.args.text.now) p (c.loop-rest.number + 1 + 1) (ended_lines c.args.end after)) (sym pushed)
          (read_more (c.args.before + 1) Lines (ended_lines c.args.end c.args.text.now) (ended_lines c.args.end rest) (ended_lines c.args.end after) (pairs_of items) (c.loop-rest.number + 1) line.result.now (line.result.now, c.loop-rest.number + 1) c.loop-rest.invariant.read first refl);
    }

pub returns : goal.returns
returns c =
    read_all (c.args.before + 1) Lines (ended_lines c.args.end c.args.text.now) (ended_lines c.args.end c.loop-rest.rest.now) (pairs_of c.loop-rest.items.items) (c.loop-rest.number + 1) c.loop-rest.invariant.read
    (none_ended c.args.end c.loop-rest.rest.now (is_nil c.loop-rest.rest.now c.loop-rest-test.ensures))
