-- The first fault of malformed bytes, as C is told of it.
use Rattle.std.specs.Prelude.{◌≡◌, ℕ, ◌⊎◌, List}
use Rattle.zerotrie_core.specs.Faults.{IsFirstFault}
use Rattle.zerotrie_core.specs.Kind.{Kind}
use Rattle.zerotrie_core.specs.WellFormed.{IsWellFormed}
use Rattle.zerotrie_core.specs.declared.faults.Fault.{Fault}
use Rattle.zerotrie_core.specs.declared.faults.FaultCause.{FaultCause}
use Rattle.zerotrie_core.specs.declared.faults.FaultCause.TheVariants.{NoNode, NoSpans, UnexpectedEnd, ValueAfterValue, SpanAfterSpan, EmptySpan, AsciiInSpan, WrongTable, WrongWidth, WrongOffsets}
use Rattle.zerotrie_core.specs.declared.ZeroTrieBuildError.TheVariants.{OutOfMemory}
use Rattle.zerotrie_c.specs.Statuses.{done, status_of}

-- a rule of the format, by its place among the cases of the cause, from 1 on
abbrev pub fault_number : FaultCause → ℕ
fault_number NoNode = 1
fault_number NoSpans = 2
fault_number UnexpectedEnd = 3
fault_number ValueAfterValue = 4
fault_number SpanAfterSpan = 5
fault_number EmptySpan = 6
fault_number AsciiInSpan = 7
fault_number WrongTable = 8
fault_number WrongWidth = 9
fault_number WrongOffsets = 10

-- What C is told of the first fault of the bytes: the number of its rule, and its place; or that they have none, or
-- that an allocation failed, and then nothing is written.
abbrev pub IsFaultTold : Kind → List ℕ → ℕ → ℕ → ℕ → Type 0
IsFaultTold kind bytes number old_at at =
    ((fault : Fault) × IsFirstFault kind bytes fault × (number ≡ fault_number fault.cause) × (at ≡ fault.place))
    ⊎ ((number ≡ done) × IsWellFormed kind bytes × (at ≡ old_at))
    ⊎ ((number ≡ status_of OutOfMemory) × (at ≡ old_at))
