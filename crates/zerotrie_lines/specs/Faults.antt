-- What is wrong with a field that is no value.
use Rattle.std.specs.Prelude.{◌≡◌, ℕ, ◌^◌, ◌<◌, ◌≤◌, ◌==◌, ◌≢◌, ◌&&◌, ◌||◌, Bool, true, false, List, [], ◌∷◌, length, take}
use Rattle.std.specs.List.{list_all, list_any}
use Rattle.std.specs.Char.{is_ascii_digit}
use Rattle.zerotrie_lines.specs.Numbers.{number_behind}
use Rattle.zerotrie_lines.specs.declared.fault.BadValue.{BadValue}
use Rattle.zerotrie_lines.specs.declared.fault.ValueFault.{ValueFault}
use Rattle.zerotrie_lines.specs.declared.fault.ValueFault.TheVariants as fault

-- it begins with a sign
abbrev pub has_sign : List ℕ → Bool
has_sign [] = false
has_sign (b ∷ field) = b == 43 || b == 45

-- it has a space or a tab
abbrev pub has_blank : List ℕ → Bool
has_blank field = list_any (λ b. b == 32 || b == 9) field

-- it ends in a carriage return
abbrev pub has_return : List ℕ → Bool
has_return [] = false
has_return (b ∷ []) = b == 13
has_return (b ∷ c ∷ field) = has_return (c ∷ field)

-- it begins with 0x or 0X
abbrev pub is_hexadecimal : List ℕ → Bool
is_hexadecimal [] = false
is_hexadecimal (b ∷ []) = false
is_hexadecimal (b ∷ c ∷ field) = b == 48 && (c == 120 || c == 88)

-- it is digits
abbrev pub is_digits : List ℕ → Bool
is_digits field = list_all is_ascii_digit field

-- a digit, a dot, an e or a sign
abbrev pub is_of_float : ℕ → Bool
is_of_float b = is_ascii_digit b || (b == 46 || (b == 101 || (b == 69 || (b == 43 || b == 45))))

-- it begins with a digit, and continues as a fraction or an exponent
abbrev pub is_fraction : List ℕ → Bool
is_fraction [] = false
is_fraction (b ∷ field) = is_ascii_digit b && list_all is_of_float field

-- it begins as a number of another form does, has a blank, or ends in a carriage return
abbrev pub has_form : List ℕ → Bool
has_form field = has_sign field || (has_blank field || (has_return field || (is_hexadecimal field || is_fraction field)))

-- what is wrong with a field
abbrev pub IsFault : List ℕ → ValueFault → Type 0
IsFault field fault.Empty = field ≡ []
IsFault field fault.Sign = has_sign field ≡ true
IsFault field fault.Blank = has_blank field ≡ true
IsFault field fault.CarriageReturn = has_return field ≡ true
IsFault field fault.Hexadecimal = is_hexadecimal field ≡ true
IsFault field fault.TooLong = (is_digits field ≡ true) × (20 < length field)
IsFault field fault.TooGreat = (is_digits field ≡ true) × (2 ^ 64 ≤ number_behind 0 field)
IsFault field fault.Fraction = is_fraction field ≡ true
IsFault field fault.Other = (field ≢ []) × (has_form field ≡ false) × (is_digits field ≡ false)

-- what is wrong with the field, and its first bytes
abbrev pub IsBadValue : List ℕ → BadValue → Type 0
IsBadValue field bad = IsFault field bad.fault × (bad.front.items ≡ take 40 field)
