-- The items of a pattern that ignores case.
use Rattle.std.proofs.Common.{◌≡◌, ◌∷◌, ◌∙◌, ℕ, zero, suc, List, [], length, drop, refl, sym, ap, subst, Bool, true, false}
use Rattle.std.specs.Prelude.{◌<◌, ◌==◌, ◌||◌, not, map, if◌then◌else◌}
use Rattle.zerotrie_search.specs.Globs.{Item, many, any, one, class, group, comma, end, cased, in_any_case, takes}
use Rattle.zerotrie_search.specs.GlobMasks.{cases, role_of, role_at, takes_one, AreRoles}
use Rattle.zerotrie_search.specs.declared.glob.pattern.Role.{Role}

or_same : (x : Bool) → (x || x) ≡ x
or_same true = refl
or_same false = refl

-- one item
abbrev pub item_in : Bool → Item → Item
item_in any_case i = if any_case then in_any_case i else i

pub takes_cases : (any_case : Bool) (i : Item) (b : ℕ) → takes_one i (cases any_case b) ≡ takes (item_in any_case i) b
takes_cases true many b = refl
takes_cases true any b = refl
takes_cases true (one c) b = refl
takes_cases true (class true set) b = refl
takes_cases true (class false set) b = refl
takes_cases true group b = refl
takes_cases true comma b = refl
takes_cases true end b = refl
takes_cases false many b = refl
takes_cases false any b = refl
takes_cases false (one c) b = or_same (c == b)
takes_cases false (class true set) b = ap not (or_same (set b))
takes_cases false (class false set) b = or_same (set b)
takes_cases false group b = refl
takes_cases false comma b = refl
takes_cases false end b = refl

-- the items after the first
pub cased_more : (any_case : Bool) (i : Item) (more : List Item) → cased any_case (i ∷ more) ≡ item_in any_case i ∷ cased any_case more
cased_more true i more = refl
cased_more false i more = refl

-- a case changes no role
length_map : (is : List Item) → length (map in_any_case is) ≡ length is
length_map [] = refl
length_map (i ∷ is) = ap suc (length_map is)

pub length_cased : (any_case : Bool) (is : List Item) → length (cased any_case is) ≡ length is
length_cased true is = length_map is
length_cased false is = refl

same_role : (i : Item) → role_of (in_any_case i) ≡ role_of i
same_role many = refl
same_role any = refl
same_role (one c) = refl
same_role (class n set) = refl
same_role group = refl
same_role comma = refl
same_role end = refl

role_mapped : (p : ℕ) (is : List Item) → role_at (drop p (map in_any_case is)) ≡ role_at (drop p is)
role_mapped zero [] = refl
role_mapped zero (i ∷ is) = same_role i
role_mapped (suc p) [] = refl
role_mapped (suc p) (i ∷ is) = role_mapped p is

pub roles_cased : (any_case : Bool) (is : List Item) (roles : List Role) → AreRoles is roles → AreRoles (cased any_case is) roles
roles_cased true is roles are p h = are p (subst (λ n. p < n) (length_map is) h) ∙ sym (role_mapped p is)
roles_cased false is roles are p h = are p h
