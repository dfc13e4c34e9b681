use Rattle.std.proofs.Common.{rules, None, Some}
use Rattle.serde_json.specs.View.{view}
use Rattle.zerotrie_any.specs.declared.json.no_pair.NoPair.{NoPair}
use Rattle.zerotrie_any.proofs.JsonLemmas.{none_exactly}
use Rattle.zerotrie_any.proofs.json.no_pair.why_json_refused.Goals as goal

pub returns-in_err-bad_member-clause-none : goal.returns-in_err-bad_member-clause-none
returns-in_err-bad_member-clause-none c = none_exactly (view c.args.value.now) c.from_residual.result (search rules)

pub returns-in-Some-clause-none : goal.returns-in-Some-clause-none
returns-in-Some-clause-none c = none_exactly (view c.args.value.now) (Some (NoPair.Member c.in_ok-bad_member.field-0)) (search rules)

pub returns-in_err-bad_item-clause-none : goal.returns-in_err-bad_item-clause-none
returns-in_err-bad_item-clause-none c = none_exactly (view c.args.value.now) c.from_residual-in_err-bad_item.result (search rules)

pub returns-clause-none : goal.returns-clause-none
returns-clause-none c = none_exactly (view c.args.value.now) (Some (NoPair.Item c.in_ok-bad_item.field-0)) (search rules)
