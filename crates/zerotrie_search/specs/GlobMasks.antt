-- Patterns as masks: a bit for each item, and one for the end.
use Rattle.std.specs.Prelude.{◌≡◌, ◌<◌, ℕ, List, [], ◌∷◌, ◌==◌, ◌&&◌, ◌||◌, not, length, drop, get_or, nat_le, slice_index, Bool, true, false, Option, Some, None, if◌then◌else◌}
use Rattle.std.specs.Char.{to_ascii_lowercase, to_ascii_uppercase}
use Rattle.std.specs.Int.{bit_at}
use Rattle.std.specs.Str.{chars}
use Rattle.std.proofs.Common.{suc}
use Rattle.zerotrie_search.specs.Globs as glob
use Rattle.zerotrie_search.specs.Globs.{Item, Class, matches, rises, has, is_within, takes}
use Rattle.zerotrie_search.specs.declared.glob.pattern.Role.{Role}
use Rattle.zerotrie_search.specs.declared.glob.pattern.Role.TheVariants.{Many, Group, Comma, End, Letter}
use Rattle.zerotrie_search.specs.declared.glob.pattern.Text.{Text}
use Rattle.zerotrie_search.specs.declared.glob.pattern.Text.TheVariants.{Bytes, Chars}

-- the letters of a text
abbrev pub letters_in : Text → List ℕ
letters_in (Bytes bytes) = bytes.now
letters_in (Chars text) = chars text.now

-- what is left behind a closing bracket
abbrev pub closing : List ℕ → Class
closing [] = None
closing (c ∷ text) = if c == 93 then Some ([], text) else None

-- a letter in its two cases, or twice if its case counts
abbrev pub cases : (any_case : Bool) → ℕ → ℕ × ℕ
cases any_case b = if any_case then (to_ascii_lowercase b, to_ascii_uppercase b) else (b, b)

-- whether a set has one of two letters
abbrev pub has_one : (ℕ → Bool) → ℕ × ℕ → Bool
has_one set l = set l.0 || set l.1

-- whether a class has one of them, and what is left behind it; its ranges rise
abbrev pub class_has : ℕ × ℕ → Class → Option (Bool × List ℕ)
class_has l None = None
class_has l (Some c) = if rises c.0 then Some (has_one (has c.0) l, c.1) else None

-- the same of a class with a range in front
abbrev pub add_range : ℕ → ℕ → ℕ × ℕ → Option (Bool × List ℕ) → Option (Bool × List ℕ)
add_range from to l None = None
add_range from to l (Some r) = if nat_le from to then Some (has_one (is_within from to) l || r.0, r.1) else None

-- and of one whose letters in front have it
abbrev pub or_found : Bool → Option (Bool × List ℕ) → Option (Bool × List ℕ)
or_found found None = None
or_found found (Some r) = Some (found || r.0, r.1)

-- the role of an item
abbrev pub role_of : Item → Role
role_of glob.many = Many
role_of glob.group = Group
role_of glob.comma = Comma
role_of glob.end = End
role_of i = Letter

-- whether an item takes a letter that has these cases
abbrev pub takes_one : Item → ℕ × ℕ → Bool
takes_one glob.many l = true
takes_one glob.any l = true
takes_one (glob.one c) l = has_one (λ b. c == b) l
takes_one (glob.class negated set) l = if negated then not (has_one set l) else has_one set l
takes_one i l = false

-- the role of an item, and whether it takes such a letter
abbrev pub beside : ℕ × ℕ → Item → Role × Bool
beside l i = (role_of i, takes_one i l)

-- the same of the first item, and what is left after it
abbrev pub read : ℕ × ℕ → glob.Reading → Option ((Role × Bool) × List ℕ)
read l None = None
read l (Some r) = Some (beside l r.0, r.1)

-- what has to match after an item took a letter: a star may take more
abbrev pub after : Item → List Item → List ℕ → Bool
after glob.many more key = matches (glob.many ∷ more) key
after i more key = matches more key

-- the same of the first of some items
abbrev pub after_first : List Item → List ℕ → Bool
after_first [] key = false
after_first (i ∷ more) key = after i more key

-- whether items match a key whose first letter the first of them takes; none match the empty key
abbrev pub takes_on : List Item → List ℕ → Bool
takes_on [] [] = true
takes_on [] (b ∷ key) = false
takes_on (i ∷ more) [] = false
takes_on (i ∷ more) (b ∷ key) = takes i b && after i more key

-- Whether some items from a place that is marked on match a key so. A mark is a bit, and the first of
-- the items is at this place.
abbrev pub any_match : ℕ → ℕ → List Item → List ℕ → Bool
any_match marks place [] key = (bit_at marks place == 1) && takes_on [] key
any_match marks place (i ∷ more) key =
    ((bit_at marks place == 1) && takes_on (i ∷ more) key) || any_match marks (suc place) more key

-- the role of the first item
abbrev pub role_at : List Item → Role
role_at [] = Letter
role_at (i ∷ more) = role_of i

-- 1 if the first item takes the letter
abbrev pub taken_at : List Item → ℕ → ℕ
taken_at [] b = 0
taken_at (i ∷ more) b = if takes i b then 1 else 0

-- the roles are those of the items
abbrev pub AreRoles : List Item → List Role → Type 0
AreRoles items roles = (place : ℕ) → place < length items → get_or roles place Letter ≡ role_at (drop place items)

-- the mask has the items that take a letter
abbrev pub AreTakers : List Item → ℕ → ℕ → Type 0
AreTakers items b mask = (place : ℕ) → bit_at mask place ≡ taken_at (drop place items) b

-- the masks have the places after each item
abbrev pub AreFollowers : List Item → List ℕ → Type 0
AreFollowers items follow = (place : ℕ) → place < length items → (key : List ℕ)
    → any_match (slice_index follow place) 0 items key ≡ after_first (drop place items) key
