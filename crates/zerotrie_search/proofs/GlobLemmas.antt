-- Classes and their letters, and the items of a pattern.
use Rattle.std.proofs.Common.{◌≡◌, ◌≤◌, ◌<◌, ◌∷◌, ℕ, zero, suc, List, [], length, refl, sym, ap, subst, ◌∙◌, arith, Bool, true, false, Option, Some, None}
use Rattle.std.specs.Prelude.{not, nat_le, ◌==◌, ◌&&◌, ◌||◌, if◌then◌else◌, IfSome}
use Rattle.std.specs.Option.{option_map, option_map_or}
use Rattle.std.proofs.Math.Bool.{beq}
use Rattle.std.proofs.lemmas.Bool.{and_right, and_from, ne_eqb, eq-eqb, le-leb}
use Rattle.zerotrie_search.specs.Globs.{Class, with_letter, class_at, has, rises, is_within, class_of, opened, escaped, item_of, first_item, stays_in, items_to, left_to, unread, items_in, no_item_in, Item, many, any, one, class, group, comma, end, Reading}
use Rattle.zerotrie_search.specs.GlobMasks.{closing, class_has, has_one, takes_one, add_range, or_found, role_of, read}
use Rattle.zerotrie_search.specs.declared.glob.pattern.Role.{Role}
use Rattle.zerotrie_search.specs.declared.glob.pattern.Role.TheVariants.{Letter, Group, End}

or_end : (x : Bool) → (x || false) ≡ x
or_end true = refl
or_end false = refl

pub or_three : (a b c : Bool) → (a || (b || c)) ≡ ((a || b) || c)
or_three true b c = refl
or_three false b c = refl

and_true : (x : Bool) → (x && true) ≡ x
and_true true = refl
and_true false = refl

and_end : (x : Bool) → (x && false) ≡ false
and_end true = refl
and_end false = refl

abbrev answer : Bool → Bool → List ℕ → Option (Bool × List ℕ)
answer p x rest = if p then Some (x, rest) else None

same_le : (n : ℕ) → nat_le n n ≡ true
same_le n = le-leb n n (omega arith)

or_four : (a b c d : Bool) → ((a || b) || (c || d)) ≡ ((a || c) || (b || d))
or_four true b c d = refl
or_four false true true d = refl
or_four false true false d = refl
or_four false false c d = refl

-- no range goes on after the first letter
abbrev pub IsAlone : Class → Type 0
IsAlone None = Unit {0}
IsAlone (Some ([], rest)) = Unit {0}
IsAlone (Some (dash ∷ [], rest)) = Unit {0}
IsAlone (Some (dash ∷ to ∷ more, rest)) = (not dash.0 && (dash.1 == 45)) ≡ false

pub alone : (from : Bool × ℕ) (b : ℕ × ℕ) (c : Class) → IsAlone c → class_has b (with_letter from c) ≡ add_range from.1 from.1 b (class_has b c)
alone from b None h = refl
alone from b (Some ([], rest)) h = rw (same_le from.1, or_end (has_one (is_within from.1 from.1) b)) refl
alone from b (Some (dash ∷ [], rest)) h =
    rw (same_le from.1) (ap (λ x. Some (x, rest)) (or_four (is_within from.1 from.1 b.0) (is_within dash.1 dash.1 b.0) (is_within from.1 from.1 b.1) (is_within dash.1 dash.1 b.1)))
alone from b (Some (dash ∷ to ∷ more, rest)) h = rw h (by_case (rises (dash ∷ to ∷ more)))
  where
    by_case : (r : Bool) → answer r ((is_within from.1 from.1 b.0 || has (dash ∷ to ∷ more) b.0) || (is_within from.1 from.1 b.1 || has (dash ∷ to ∷ more) b.1)) rest
        ≡ add_range from.1 from.1 b (answer r (has_one (has (dash ∷ to ∷ more)) b) rest)
    by_case true =
        rw (same_le from.1) (ap (λ x. Some (x, rest)) (or_four (is_within from.1 from.1 b.0) (has (dash ∷ to ∷ more) b.0) (is_within from.1 from.1 b.1) (has (dash ∷ to ∷ more) b.1)))
    by_case false = refl

pub alone_is : (from : Bool × ℕ) (b : ℕ × ℕ) (c d : Class) → c ≡ d → IsAlone d → class_has b (with_letter from c) ≡ add_range from.1 from.1 b (class_has b c)
alone_is from b c d is h = alone from b c (subst IsAlone (sym is) h)

pub alone_at_end : (text : List ℕ) → IsAlone (closing text)
alone_at_end [] = tt
alone_at_end (c ∷ text) = by_case (c == 93)
  where
    by_case : (b : Bool) → IsAlone (if b then Some ([], text) else None)
    by_case true = tt
    by_case false = tt

pub alone_before : (dash : Bool × ℕ) (c : Class) → (not dash.0 && (dash.1 == 45)) ≡ false → IsAlone (with_letter dash c)
alone_before dash None h = tt
alone_before dash (Some ([], rest)) h = tt
alone_before dash (Some (to ∷ more, rest)) h = h

pub alone_dash : (dash : Bool × ℕ) (text : List ℕ) → IsAlone (with_letter dash (closing text))
alone_dash dash [] = tt
alone_dash dash (c ∷ text) = by_case (c == 93)
  where
    by_case : (b : Bool) → IsAlone (with_letter dash (if b then Some ([], text) else None))
    by_case true = tt
    by_case false = tt

pub not_dash : (e : Bool) (d : ℕ) → (d ≡ 45 → ⊥) → (not e && (d == 45)) ≡ false
not_dash e d other = and_right (not e) (d == 45) (ne_eqb d 45 other)

-- a range
pub ranged : (from dash to : Bool × ℕ) (b : ℕ × ℕ) (c : Class) → dash.0 ≡ false → dash.1 ≡ 45
    → class_has b (with_letter from (with_letter dash (with_letter to c))) ≡ add_range from.1 to.1 b (class_has b c)
ranged from dash to b None plain is = refl
ranged from dash to b (Some (more, rest)) plain is = rw dashed (by_case (rises more))
  where
    dashed : (not dash.0 && (dash.1 == 45)) ≡ true
    dashed = and_from (not dash.0) (dash.1 == 45) (ap not plain) (eq-eqb dash.1 45 is)

    found : Bool
    found = (is_within from.1 to.1 b.0 || has more b.0) || (is_within from.1 to.1 b.1 || has more b.1)

    regrouped : found ≡ (has_one (is_within from.1 to.1) b || has_one (has more) b)
    regrouped = or_four (is_within from.1 to.1 b.0) (has more b.0) (is_within from.1 to.1 b.1) (has more b.1)

    by_case : (q : Bool) → answer (nat_le from.1 to.1 && q) found rest ≡ add_range from.1 to.1 b (answer q (has_one (has more) b) rest)
    by_case true = ap (λ p. answer p found rest) (and_true (nat_le from.1 to.1)) ∙ ap (λ x. answer (nat_le from.1 to.1) x rest) regrouped
    by_case false = ap (λ p. answer p found rest) (and_end (nat_le from.1 to.1))

-- what is found so far
pub none_found : (o : Option (Bool × List ℕ)) → o ≡ or_found false o
none_found None = refl
none_found (Some r) = refl

pub found_more : (found : Bool) (from to : ℕ) (b : ℕ × ℕ) (o : Option (Bool × List ℕ)) → from ≤ to
    → or_found found (add_range from to b o) ≡ or_found (found || has_one (is_within from to) b) o
found_more found from to b None h = refl
found_more found from to b (Some r) h = rw (le-leb from to h) (ap (λ x. Some (x, r.1)) (or_three found (has_one (is_within from to) b) r.0))

pub no_range : (found : Bool) (from to : ℕ) (b : ℕ × ℕ) (o : Option (Bool × List ℕ)) → nat_le from to ≡ false → or_found found (add_range from to b o) ≡ None
no_range found from to b None h = refl
no_range found from to b (Some r) h = rw h refl

pub found_at_end : (found : Bool) (b : ℕ × ℕ) (c : ℕ) (text : List ℕ) → c ≡ 93 → or_found found (class_has b (closing (c ∷ text))) ≡ Some (found, text)
found_at_end found b c text is = rw (eq-eqb c 93 is) (ap (λ x. Some (x, text)) (or_end found))

pub none_at_end : (found : Bool) (b : ℕ × ℕ) (c : ℕ) (text : List ℕ) → (c ≡ 93 → ⊥) → or_found found (class_has b (closing (c ∷ text))) ≡ None
none_at_end found b c text other = rw (ne_eqb c 93 other) refl

-- each item has at least one letter
abbrev pub IsShorter : List ℕ → Reading → Type 0
IsShorter pattern r = IfSome r (λ x. length x.1 < length pattern)

abbrev pub IsBehind : List ℕ → Class → Type 0
IsBehind text c = IfSome c (λ x. length x.1 < length text)

with_behind : (l : Bool × ℕ) (p q : List ℕ) (c : Class) → length p ≤ length q → IsBehind p c → IsBehind q (with_letter l c)
with_behind l p q None h s = tt
with_behind l p q (Some x) h s = omega (arith, h, s)

class_cases : (text : List ℕ) (b : Bool) (r s : Class) → IsBehind text r → IsBehind text s → IsBehind text (if b then r else s)
class_cases text true r s hr hs = hr
class_cases text false r s hr hs = hs

class_behind : (text : List ℕ) → IsBehind text (class_at text)
class_behind [] = tt
class_behind (c ∷ []) = class_cases (c ∷ []) (c == 93) (Some ([], [])) None (omega arith) tt
class_behind (c ∷ d ∷ text) =
    let p = c ∷ d ∷ text in
    class_cases p (c == 93) (Some ([], d ∷ text)) _ (omega arith)
    (class_cases p (c == 92) (with_letter (true, d) (class_at text)) (with_letter (false, c) (class_at (d ∷ text)))
    (with_behind (true, d) text p (class_at text) (omega arith) (class_behind text))
    (with_behind (false, c) (d ∷ text) p (class_at (d ∷ text)) (omega arith) (class_behind (d ∷ text))))

in_cases : (pattern : List ℕ) (b : Bool) (r s : Reading) → IsShorter pattern r → IsShorter pattern s → IsShorter pattern (if b then r else s)
in_cases pattern true r s hr hs = hr
in_cases pattern false r s hr hs = hs

class_shorter : (pattern text : List ℕ) (negated : Bool) (c : Class) → length text ≤ length pattern → IsBehind text c → IsShorter pattern (class_of negated c)
class_shorter pattern text negated None h s = tt
class_shorter pattern text negated (Some ([], rest)) h s = tt
class_shorter pattern text negated (Some (l ∷ ls, rest)) h s =
    in_cases pattern (rises (l ∷ ls)) (Some (class negated (has (l ∷ ls)), rest)) None (omega (arith, h, s)) tt

pub opened_shorter : (c : ℕ) (rest : List ℕ) → IsShorter (c ∷ rest) (opened rest)
opened_shorter c [] = tt
opened_shorter c (d ∷ rest) =
    in_cases (c ∷ d ∷ rest) ((d == 33) || (d == 94)) (class_of true (class_at rest)) (class_of false (class_at (d ∷ rest)))
    (class_shorter (c ∷ d ∷ rest) rest true (class_at rest) (omega arith) (class_behind rest))
    (class_shorter (c ∷ d ∷ rest) (d ∷ rest) false (class_at (d ∷ rest)) (omega arith) (class_behind (d ∷ rest)))

pub shorter : (in_group : Bool) (pattern : List ℕ) → IsShorter pattern (first_item in_group pattern)
shorter in_group [] = tt
shorter in_group (c ∷ pattern) =
    let p = c ∷ pattern in
    in_cases p (c == 92) (escaped pattern) _ (by_escape pattern)
    (in_cases p (c == 91) (opened pattern) (option_map (λ i. (i, pattern)) (item_of in_group c)) (opened_shorter c pattern) (by_item (item_of in_group c)))
  where
    by_escape : (rest : List ℕ) → IsShorter (c ∷ rest) (escaped rest)
    by_escape [] = tt
    by_escape (d ∷ rest) = omega arith

    by_item : (o : Option Item) → IsShorter (c ∷ pattern) (option_map (λ i. (i, pattern)) o)
    by_item None = tt
    by_item (Some i) = omega arith

pub read_shorter : {X : Type 0} (f : X → (Role × Bool) × List ℕ) (b : ℕ × ℕ) (p : List ℕ) (o : Option X) (r : Reading) → option_map f o ≡ read b r → IsShorter p r → IfSome o (λ x. length (f x).1 < length p)
read_shorter f b p None r is s = tt
read_shorter f b p (Some x) None is s = absurd (cc)
read_shorter f b p (Some x) (Some y) is s =
    let e : ◌≡◌ {A = (Role × Bool) × List ℕ} (f x) ((role_of y.0, takes_one y.0 b), y.1) = cc in
    let len = ap (λ z. length z.1) e in
    omega (arith, len, s)

-- a class beside a letter
class_item : (negated h : Bool) → (if negated then not h else h) ≡ not (beq h negated)
class_item true true = refl
class_item true false = refl
class_item false true = refl
class_item false false = refl

abbrev as_item : Bool → Bool × List ℕ → (Role × Bool) × List ℕ
as_item negated r = ((Letter, not (beq r.0 negated)), r.1)

read_class : (b : ℕ × ℕ) (negated : Bool) (l : Bool × ℕ) (c : Class) → option_map (as_item negated) (class_has b (with_letter l c)) ≡ read b (class_of negated (with_letter l c))
read_class b negated l None = refl
read_class b negated l (Some (ls, rest)) = by_case (rises (l ∷ ls))
  where
    by_case : (r : Bool) → option_map (as_item negated) (answer r (has_one (has (l ∷ ls)) b) rest) ≡ read b (if r then Some (class negated (has (l ∷ ls)), rest) else None)
    by_case true = ap (λ t. Some ((Letter, t), rest)) (sym (class_item negated (has_one (has (l ∷ ls)) b)))
    by_case false = refl

pub class_read : (b : ℕ × ℕ) (negated : Bool) (k : Class) (l : Bool × ℕ) (c : Class) (o : Option (Bool × List ℕ)) → k ≡ with_letter l c → o ≡ class_has b k
    → option_map (λ r. ((Letter, not (beq r.0 negated)), r.1)) o ≡ read b (class_of negated k)
class_read b negated k l c o is has_is =
    ap (option_map (as_item negated)) (has_is ∙ ap (class_has b) is) ∙ read_class b negated l c ∙ ap (λ x. read b (class_of negated x)) (sym is)

-- what an item is, beside a letter
pub read_item : (b : ℕ × ℕ) (m : Role) (t : Bool) (rest : List ℕ) (r : Reading) → Some ((m, t), rest) ≡ read b r → (i : Item) × ((r ≡ Some (i, rest)) × (role_of i ≡ m) × (takes_one i b ≡ t))
read_item b m t rest None is = absurd (cc)
read_item b m t rest (Some (i, left)) is =
    let e : ◌≡◌ {A = (Role × Bool) × List ℕ} ((m, t), rest) ((role_of i, takes_one i b), left) = cc in
    (i, (ap (λ l. Some (i, l)) (sym (ap (λ x. x.1) e)), sym (ap (λ x. x.0.0) e), sym (ap (λ x. x.0.1) e)))

pub read_none : (b : ℕ × ℕ) (r : Reading) → None ≡ read b r → r ≡ None
read_none b None is = refl
read_none b (Some x) is = absurd (cc)

-- what is behind an item, by its role
abbrev pub stays_by : (in_group : Bool) → Role → Bool
stays_by in_group Group = true
stays_by in_group End = false
stays_by in_group role = in_group

stays_role : (in_group : Bool) (i : Item) → stays_by in_group (role_of i) ≡ stays_in in_group i
stays_role g many = refl
stays_role g any = refl
stays_role g (one c) = refl
stays_role g (class n set) = refl
stays_role g group = refl
stays_role g comma = refl
stays_role g end = refl

pub stays_known : (in_group : Bool) (i : Item) (role : Role) → role_of i ≡ role → stays_by in_group role ≡ stays_in in_group i
stays_known g i role is = ap (stays_by g) (sym is) ∙ stays_role g i

-- no item is left
pub no_items : (in_group : Bool) (pattern : List ℕ) → first_item in_group pattern ≡ None → items_in in_group pattern ≡ []
no_items g [] is = refl
no_items g (c ∷ pattern) is = ap (λ r. option_map_or (λ x. x.0 ∷ items_to (length pattern) (stays_in g x.0) x.1) r []) is

pub all_left_over : (in_group : Bool) (pattern : List ℕ) → first_item in_group pattern ≡ None → no_item_in in_group pattern ≡ unread in_group pattern
all_left_over g [] is = refl
all_left_over g (c ∷ pattern) is = ap (λ r. option_map_or (λ x. left_to (length pattern) (stays_in g x.0) x.1) r (unread g (c ∷ pattern))) is

abbrev is_none : Reading → Type 0
is_none None = Unit {0}
is_none (Some x) = ⊥

-- so as many items as bytes are all of them
from_each : (n m : ℕ) (g : Bool) (pattern : List ℕ) (r : Reading) → IsShorter pattern r → ((h : Bool) (rest : List ℕ) → length rest < length pattern → items_to n h rest ≡ items_to m h rest)
    → option_map_or (λ x. x.0 ∷ items_to n (stays_in g x.0) x.1) r [] ≡ option_map_or (λ x. x.0 ∷ items_to m (stays_in g x.0) x.1) r []
from_each n m g pattern None s same = refl
from_each n m g pattern (Some x) s same = ap (λ is. x.0 ∷ is) (same (stays_in g x.0) x.1 s)

all_items : (n m : ℕ) (g : Bool) (pattern : List ℕ) → length pattern ≤ n → length pattern ≤ m → items_to n g pattern ≡ items_to m g pattern
all_items zero zero g pattern hn hm = refl
all_items zero (suc m) g [] hn hm = refl
all_items zero (suc m) g (c ∷ pattern) hn hm = absurd (omega (arith, hn))
all_items (suc n) zero g [] hn hm = refl
all_items (suc n) zero g (c ∷ pattern) hn hm = absurd (omega (arith, hm))
all_items (suc n) (suc m) g pattern hn hm =
    from_each n m g pattern (first_item g pattern) (shorter g pattern) (λ h rest less. all_items n m h rest (omega (arith, hn, less)) (omega (arith, hm, less)))

rest_each : (n m : ℕ) (g : Bool) (pattern : List ℕ) (r : Reading) → IsShorter pattern r → ((h : Bool) (rest : List ℕ) → length rest < length pattern → left_to n h rest ≡ left_to m h rest)
    → option_map_or (λ x. left_to n (stays_in g x.0) x.1) r (unread g pattern) ≡ option_map_or (λ x. left_to m (stays_in g x.0) x.1) r (unread g pattern)
rest_each n m g pattern None s same = refl
rest_each n m g pattern (Some x) s same = same (stays_in g x.0) x.1 s

all_left : (n m : ℕ) (g : Bool) (pattern : List ℕ) → length pattern ≤ n → length pattern ≤ m → left_to n g pattern ≡ left_to m g pattern
all_left zero zero g pattern hn hm = refl
all_left zero (suc m) g [] hn hm = refl
all_left zero (suc m) g (c ∷ pattern) hn hm = absurd (omega (arith, hn))
all_left (suc n) zero g [] hn hm = refl
all_left (suc n) zero g (c ∷ pattern) hn hm = absurd (omega (arith, hm))
all_left (suc n) (suc m) g pattern hn hm =
    rest_each n m g pattern (first_item g pattern) (shorter g pattern) (λ h rest less. all_left n m h rest (omega (arith, hn, less)) (omega (arith, hm, less)))

-- one item, and those of the rest
pub items_more : (in_group : Bool) (pattern rest : List ℕ) (i : Item) → first_item in_group pattern ≡ Some (i, rest) → items_in in_group pattern ≡ i ∷ items_in (stays_in in_group i) rest
items_more g [] rest i is = absurd (subst is_none is tt)
items_more g (c ∷ pattern) rest i is =
    let less : length rest < length (c ∷ pattern) = subst (IsShorter (c ∷ pattern)) is (shorter g (c ∷ pattern)) in
    let n = length pattern in
    ap (λ r. option_map_or (λ x. x.0 ∷ items_to n (stays_in g x.0) x.1) r []) is
    ∙ ap (λ is. i ∷ is) (all_items n (length rest) (stays_in g i) rest (omega (arith, less)) (omega arith))

pub left_more : (in_group : Bool) (pattern rest : List ℕ) (i : Item) → first_item in_group pattern ≡ Some (i, rest) → no_item_in in_group pattern ≡ no_item_in (stays_in in_group i) rest
left_more g [] rest i is = absurd (subst is_none is tt)
left_more g (c ∷ pattern) rest i is =
    let less : length rest < length (c ∷ pattern) = subst (IsShorter (c ∷ pattern)) is (shorter g (c ∷ pattern)) in
    let n = length pattern in
    ap (λ r. option_map_or (λ x. left_to n (stays_in g x.0) x.1) r (unread g (c ∷ pattern))) is ∙ all_left n (length rest) (stays_in g i) rest (omega (arith, less)) (omega arith)
