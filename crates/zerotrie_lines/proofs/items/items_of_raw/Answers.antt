use Rattle.std.proofs.Common.{◌+◌, Any, subst, sym, ap, ◌∙◌, true}
use Rattle.zerotrie_lines.specs.Lines.{ended_lines}
use Rattle.zerotrie_lines.specs.Tables.{pairs_of}
use Rattle.zerotrie_lines.specs.declared.reading.Format.TheVariants.{TsvRaw}
use Rattle.zerotrie_lines.specs.Reads.{IsNotPlain}
use Rattle.zerotrie_lines.proofs.ItemLemmas.{pairs_push}
use Rattle.zerotrie_lines.proofs.LineLemmas.{is_nil, not_nil}
use Rattle.zerotrie_lines.proofs.EndLemmas.{first_ended, none_ended}
use Rattle.zerotrie_lines.proofs.ReadLemmas.{ReadTo, read_none, read_more, read_all, any_first, any_later}
use Rattle.zerotrie_lines.proofs.items.items_of_raw.Goals as goal

pub loop-rest-init : goal.loop-rest-init
loop-rest-init c = (λ first. (first, rw c.new-items.ensures.items (read_none first TsvRaw (ended_lines c.args.end c.args.text.now))), λ h. h)

pub loop-rest-preserved : goal.loop-rest-preserved
loop-rest-preserved c =
    let end = c.args.end in
    let rest = c.loop-rest.rest.now in
    let line = c.take_ended.result.now in
    let after = c.take_ended.new.rest.now in
    let items = c.loop-rest.items.items in
    let item = c.in-Some.item in
    let all = ended_lines end c.args.text.now in
    let first = first_ended end rest line after (not_nil rest c.loop-rest-test.ensures) c.take_ended.ensures.line c.take_ended.ensures.rest in
    let pushed = ap pairs_of c.in_ok-push-in-Some.ensures.items ∙ pairs_push items item in (
      λ start. let so_far = c.loop-rest.invariant.0 start in (
        so_far.0 + 1,
        subst (λ p. ReadTo start TsvRaw all p (so_far.0 + 1) (ended_lines end after)) (sym pushed)
            (read_more start TsvRaw all (ended_lines end rest) (ended_lines end after) (pairs_of items) so_far.0 line (item.0.now, item.1) so_far.1 first c.in-Some.ensures.pair),
      ),
      λ h. c.loop-rest.invariant.1 (subst (Any (IsNotPlain true)) (sym first) (any_later (IsNotPlain true) line (ended_lines end after) h)),
    )

pub returns-in-None-clause-none : goal.returns-in-None-clause-none
returns-in-None-clause-none c =
    let end = c.args.end in
    let rest = c.loop-rest.rest.now in
    let line = c.take_ended.result.now in
    let after = ended_lines end c.take_ended.new.rest.now in
    let first = first_ended end rest line c.take_ended.new.rest.now (not_nil rest c.loop-rest-test.ensures) c.take_ended.ensures.line c.take_ended.ensures.rest in
    c.loop-rest.invariant.1 (subst (Any (IsNotPlain true)) (sym first) (any_first (IsNotPlain true) line after c.in-None.ensures.none))

pub returns-clause-reads : goal.returns-clause-reads
returns-clause-reads c = λ first.
    let so_far = c.loop-rest.invariant.0 first in
    read_all first TsvRaw (ended_lines c.args.end c.args.text.now) (ended_lines c.args.end c.loop-rest.rest.now) (pairs_of c.loop-rest.items.items) so_far.0 so_far.1
    (none_ended c.args.end c.loop-rest.rest.now (is_nil c.loop-rest.rest.now c.loop-rest-test.ensures))
