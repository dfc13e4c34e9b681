use Rattle.zerotrie_base.proofs.NodeLemmas.Nodes.{none_by}
use Rattle.zerotrie_core.proofs.FaultLemmas.Rules.{some_by}
use Rattle.zerotrie_core.proofs.faults.node_fault.Goals as goal

pub returns-in-Span-clause-some : goal.returns-in-Span-clause-some
returns-in-Span-clause-some g c = rw c.in-Span.is (some_by c.span_fault.result (λ cause fails. fails c.in-Span._rest.now) c.span_fault.ensures.some)

pub returns-in-Span-clause-none : goal.returns-in-Span-clause-none
returns-in-Span-clause-none g c = rw c.in-Span.is (none_by c.span_fault.result (λ keeps. keeps c.in-Span._rest.now) c.span_fault.ensures.none)

pub returns-in-Branch-clause-none : goal.returns-in-Branch-clause-none
returns-in-Branch-clause-none g c = rw c.in-Branch.is (c.branch_fault.ensures.none c.args.expected)
