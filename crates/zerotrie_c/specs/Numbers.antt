-- The numbers of kinds.
use Rattle.std.specs.Prelude.{ℕ, ◌==◌, if◌then◌else◌, Option, Some, None}
use Rattle.zerotrie_core.specs.Kind.{Kind, simple_ascii, ignore_case, perfect_hash, extended_capacity, tag}

-- the kind whose tag the number is, if there is one
abbrev pub kind_of : ℕ → Option Kind
kind_of n =
    if n == tag simple_ascii then Some simple_ascii
    else (if n == tag perfect_hash then Some perfect_hash
    else (if n == tag extended_capacity then Some extended_capacity
    else (if n == tag ignore_case then Some ignore_case else None)))
