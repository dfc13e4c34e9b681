-- Patterns: their items, and the keys that they match.
use Rattle.std.specs.Prelude.{ℕ, List, [], ◌∷◌, ◌==◌, ◌&&◌, ◌||◌, not, length, map, nat_le, Bool, true, false, Option, Some, None, if◌then◌else◌}
use Rattle.std.specs.Char.{to_ascii_lowercase, to_ascii_uppercase}
use Rattle.std.specs.Option.{option_map, option_map_or}
use Rattle.std.specs.Str.{chars, is_utf8}
use Rattle.std.proofs.Common.{zero, suc}

-- the letters of a class, each with whether a backslash escapes it, and what is left of the pattern behind the class
abbrev pub Class : Type 0
Class = Option (List (Bool × ℕ) × List ℕ)

-- a class with one more letter in front
abbrev pub with_letter : Bool × ℕ → Class → Class
with_letter letter None = None
with_letter letter (Some c) = Some (letter ∷ c.0, c.1)

-- the class up to the first closing bracket that is not escaped
abbrev pub class_at : List ℕ → Class
class_at [] = None
class_at (c ∷ []) = if c == 93 then Some ([], []) else None
class_at (c ∷ d ∷ text) =
    if c == 93 then Some ([], d ∷ text)
    else if c == 92 then with_letter (true, d) (class_at text)
    else with_letter (false, c) (class_at (d ∷ text))

-- whether a letter is one of a range, both ends included
abbrev pub is_within : ℕ → ℕ → ℕ → Bool
is_within from to b = nat_le from b && nat_le b to

-- Whether a class has a letter. A dash that is not escaped, between two letters, makes a range of
-- them.
abbrev pub has : List (Bool × ℕ) → ℕ → Bool
has [] b = false
has (from ∷ []) b = is_within from.1 from.1 b
has (from ∷ dash ∷ []) b = is_within from.1 from.1 b || is_within dash.1 dash.1 b
has (from ∷ dash ∷ to ∷ more) b =
    if not dash.0 && (dash.1 == 45)
    then is_within from.1 to.1 b || has more b
    else is_within from.1 from.1 b || has (dash ∷ to ∷ more) b

-- whether the last letter of each range is not below its first
abbrev pub rises : List (Bool × ℕ) → Bool
rises [] = true
rises (from ∷ []) = true
rises (from ∷ dash ∷ []) = true
rises (from ∷ dash ∷ to ∷ more) =
    if not dash.0 && (dash.1 == 45)
    then nat_le from.1 to.1 && rises more
    else rises (dash ∷ to ∷ more)

-- An item of a pattern: any number of letters, any one letter, one letter, or a letter of a class, or
-- if it is negated one that is not of it. A letter is a byte, or a character. A group of alternatives
-- has an item where it begins, one between two alternatives, and one where it ends.
pub data Item : Type 0 where
  many : Item
  any : Item
  one : ℕ → Item
  class : Bool → (ℕ → Bool) → Item
  group : Item
  comma : Item
  end : Item

-- an item, and what is left of the pattern after it
abbrev pub Reading : Type 0
Reading = Option (Item × List ℕ)

-- a class has a letter, and no range without one
abbrev pub class_of : Bool → Class → Reading
class_of negated None = None
class_of negated (Some ([], rest)) = None
class_of negated (Some (l ∷ ls, rest)) = if rises (l ∷ ls) then Some (class negated (has (l ∷ ls)), rest) else None

-- a class that begins behind its opening bracket
abbrev pub opened : List ℕ → Reading
opened [] = None
opened (c ∷ text) = if (c == 33) || (c == 94) then class_of true (class_at text) else class_of false (class_at (c ∷ text))

-- the letter behind a backslash
abbrev pub escaped : List ℕ → Reading
escaped [] = None
escaped (c ∷ pattern) = Some (one c, pattern)

-- the item that a letter is in a group or outside of one, if it is neither a backslash nor an opening
-- bracket: no group begins in a group, and none ends outside of one
abbrev pub item_of : (in_group : Bool) → ℕ → Option Item
item_of in_group c =
    if c == 42 then Some many
    else if c == 63 then Some any
    else if c == 123 then (if in_group then None else Some group)
    else if c == 125 then (if in_group then Some end else None)
    else if (c == 44) && in_group then Some comma
    else Some (one c)

-- the first item of a pattern, or of what is left of it in a group
abbrev pub first_item : (in_group : Bool) → List ℕ → Reading
first_item in_group [] = None
first_item in_group (c ∷ pattern) =
    if c == 92 then escaped pattern
    else if c == 91 then opened pattern
    else option_map (λ i. (i, pattern)) (item_of in_group c)

-- whether what is behind an item is in a group
abbrev pub stays_in : (in_group : Bool) → Item → Bool
stays_in in_group group = true
stays_in in_group end = false
stays_in in_group i = in_group

-- the first n items, or all of them if there are fewer
abbrev pub items_to : ℕ → (in_group : Bool) → List ℕ → List Item
items_to zero in_group pattern = []
items_to (suc n) in_group pattern =
    option_map_or (λ r. r.0 ∷ items_to n (stays_in in_group r.0) r.1) (first_item in_group pattern) []

-- what is not read: in a group, which has no end then, its brace as well
abbrev pub unread : (in_group : Bool) → List ℕ → List ℕ
unread in_group pattern = if in_group then 123 ∷ pattern else pattern

-- what is not read after the first n items, or where no item begins
abbrev pub left_to : ℕ → (in_group : Bool) → List ℕ → List ℕ
left_to zero in_group pattern = unread in_group pattern
left_to (suc n) in_group pattern =
    option_map_or (λ r. left_to n (stays_in in_group r.0) r.1) (first_item in_group pattern) (unread in_group pattern)

-- the items of what is left of a pattern, as each has at least one letter
abbrev pub items_in : (in_group : Bool) → List ℕ → List Item
items_in in_group pattern = items_to (length pattern) in_group pattern

-- what is not read where no item begins
abbrev pub no_item_in : (in_group : Bool) → List ℕ → List ℕ
no_item_in in_group pattern = left_to (length pattern) in_group pattern

-- the items of a pattern
abbrev pub items : List ℕ → List Item
items pattern = items_in false pattern

-- what is left of a pattern where no item begins: of a group without its end at least its brace
abbrev pub no_item : List ℕ → List ℕ
no_item pattern = no_item_in false pattern

-- whether an item may take a letter
abbrev pub takes : Item → ℕ → Bool
takes many b = true
takes any b = true
takes (one c) b = c == b
takes (class negated set) b = if negated then not (set b) else set b
takes i b = false

-- whether a set has a letter in either case
abbrev pub has_either : (ℕ → Bool) → ℕ → Bool
has_either set b = set (to_ascii_lowercase b) || set (to_ascii_uppercase b)

-- the item of a pattern that ignores case: each letter that it names is taken in both cases
abbrev pub in_any_case : Item → Item
in_any_case many = many
in_any_case any = any
in_any_case (one c) = class false (has_either (λ b. c == b))
in_any_case (class negated set) = class negated (has_either set)
in_any_case i = i

abbrev pub cased : (any_case : Bool) → List Item → List Item
cased any_case items = if any_case then map in_any_case items else items

abbrev mutual
  -- Whether items match a key. Where a group begins, one of its alternatives has to match, and then what
  -- is behind the group: the comma that ends an alternative passes over those to the right.
  pub matches : List Item → List ℕ → Bool
  matches [] [] = true
  matches [] (b ∷ key) = false
  matches (many ∷ more) [] = matches more []
  matches (many ∷ more) (b ∷ key) = matches more (b ∷ key) || matches (many ∷ more) key
  matches (group ∷ more) key = matches more key || others more key
  matches (comma ∷ more) key = behind more key
  matches (end ∷ more) key = matches more key
  matches (i ∷ more) [] = false
  matches (i ∷ more) (b ∷ key) = takes i b && matches more key

  -- whether one of the alternatives behind the commas of a group matches
  pub others : List Item → List ℕ → Bool
  others [] key = false
  others (comma ∷ more) key = matches more key || others more key
  others (end ∷ more) key = false
  others (i ∷ more) key = others more key

  -- whether what is behind the end of a group matches
  pub behind : List Item → List ℕ → Bool
  behind [] key = false
  behind (end ∷ more) key = matches more key
  behind (i ∷ more) key = behind more key

-- whether a key is text, and items match its characters
abbrev pub matches_text : List Item → List ℕ → Bool
matches_text items key = is_utf8 key && matches items (chars key)
