-- What a call that answers yes or no tells, by what it wrote.
use Rattle.std.specs.Prelude.{ℕ, Bool, true, false, Option, Some, None}

-- a number that was written if the answer is yes
abbrev pub told : Bool → ℕ → Option ℕ
told true n = Some n
told false n = None

-- two numbers that were written if the answer is yes
abbrev pub told_both : Bool → ℕ → ℕ → Option (ℕ × ℕ)
told_both true n p = Some (n, p)
told_both false n p = None
