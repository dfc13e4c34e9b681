-- A walk of a cursor: what it is asked, and what it answers.
use Rattle.std.specs.Prelude.{◌≡◌, ℕ, List, map}
use Rattle.zerotrie_core.specs.Kind.{Kind}
use Rattle.zerotrie_core.specs.Maps.{Pairs}
use Rattle.zerotrie_core.specs.Texts.{Lists}
use Rattle.zerotrie_core.specs.Machine.{Op, Answer, run_one, run}
use Rattle.zerotrie_core.specs.Machine.Op.{step, take_value, probe}
use Rattle.zerotrie_core.specs.Machine.Answer.{stepped, taken, probed}
use Rattle.zerotrie_any.specs.declared.walks.CursorOp.{CursorOp}
use Rattle.zerotrie_any.specs.declared.walks.CursorOp.TheVariants.{Step, Take, Probe}
use Rattle.zerotrie_any.specs.declared.walks.CursorAnswer.{CursorAnswer}
use Rattle.zerotrie_any.specs.declared.walks.CursorAnswer.TheVariants.{Stepped, Taken, Probed}

-- what the machine is asked
abbrev pub op_of : CursorOp → Op
op_of (Step b) = step b
op_of Take = take_value
op_of (Probe i) = probe i

abbrev pub ops_of : List CursorOp → List Op
ops_of ops = map op_of ops

-- what it answered
abbrev pub answer_of : CursorAnswer → Answer
answer_of (Stepped edge) = stepped edge
answer_of (Taken v) = taken v
answer_of (Probed edge) = probed edge

abbrev pub answers_of : List CursorAnswer → List Answer
answers_of answers = map answer_of answers

-- Whichever pairs there were: the machine's answer, and the pairs that it leaves.
abbrev pub IsTurn : Kind → (Pairs → Type 0) → CursorOp → CursorAnswer → (Pairs → Type 0) → Type 0
IsTurn kind Before op answer After = (pairs : Pairs) → Before pairs
    → (answer_of answer ≡ (run_one kind (op_of op) pairs).0) × After (run_one kind (op_of op) pairs).1

-- Whichever pairs the bytes list, the answers are those of the machine.
abbrev pub IsWalk : Kind → List ℕ → List CursorOp → List CursorAnswer → Type 0
IsWalk kind bytes ops answers = (pairs : Pairs) → Lists kind bytes pairs → answers_of answers ≡ run kind (ops_of ops) pairs
