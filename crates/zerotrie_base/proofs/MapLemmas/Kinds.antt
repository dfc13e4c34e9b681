-- What a kind says of two bytes, and what the kinds over ASCII keys and those with spans have in common.
use Rattle.std.proofs.Common.{◌≡◌, ℕ, ◌≤◌, true, false, leb, refl, arith}
use Rattle.std.specs.Prelude.{◌&&◌}
use Rattle.std.proofs.lemmas.Bool.{eq-eqb, ne_eqb}
use Rattle.zerotrie_base.specs.Kind.{Kind, simple_ascii, ignore_case, perfect_hash, extended_capacity, flags, IsAscii, same_byte, fold_byte, edge_limit, greatest_width, is_hashed, has_spans}

pub one_fold : (kind : Kind) (a b : ℕ) → fold_byte kind a ≡ fold_byte kind b → same_byte kind a b ≡ true
one_fold kind a b e = eq-eqb (fold_byte kind a) (fold_byte kind b) e

pub two_folds : (kind : Kind) (a b : ℕ) → (fold_byte kind a ≡ fold_byte kind b → ⊥) → same_byte kind a b ≡ false
two_folds kind a b h = ne_eqb (fold_byte kind a) (fold_byte kind b) h

pub edge_limit_is : (kind : Kind) → IsAscii kind → edge_limit kind ≡ 128
edge_limit_is simple_ascii ascii = refl
edge_limit_is ignore_case ascii = refl
edge_limit_is perfect_hash ascii = absurd ascii
edge_limit_is extended_capacity ascii = absurd ascii

-- any ASCII byte may be an edge, and nothing but a byte
pub edge_limit_from : (kind : Kind) → 128 ≤ edge_limit kind
edge_limit_from simple_ascii = omega arith
edge_limit_from ignore_case = omega arith
edge_limit_from perfect_hash = omega arith
edge_limit_from extended_capacity = omega arith

pub edge_limit_to : (kind : Kind) → edge_limit kind ≤ 256
edge_limit_to simple_ascii = omega arith
edge_limit_to ignore_case = omega arith
edge_limit_to perfect_hash = omega arith
edge_limit_to extended_capacity = omega arith

pub greatest_width_is : (kind : Kind) → IsAscii kind → greatest_width kind ≡ 3
greatest_width_is simple_ascii ascii = refl
greatest_width_is ignore_case ascii = refl
greatest_width_is perfect_hash ascii = absurd ascii
greatest_width_is extended_capacity ascii = absurd ascii

pub greatest_width_most : (kind : Kind) → greatest_width kind ≤ 7
greatest_width_most simple_ascii = omega arith
greatest_width_most ignore_case = omega arith
greatest_width_most perfect_hash = omega arith
greatest_width_most extended_capacity = omega arith

-- the kinds over ASCII keys have neither spans nor hashed tables
pub ascii_spanless : (kind : Kind) → IsAscii kind → has_spans kind ≡ false
ascii_spanless simple_ascii ascii = refl
ascii_spanless ignore_case ascii = refl
ascii_spanless perfect_hash ascii = absurd ascii
ascii_spanless extended_capacity ascii = absurd ascii

pub ascii_sorted : (kind : Kind) → IsAscii kind → (n : ℕ) → is_hashed kind n ≡ false
ascii_sorted simple_ascii ascii n = refl
ascii_sorted ignore_case ascii n = refl
ascii_sorted perfect_hash ascii n = absurd ascii
ascii_sorted extended_capacity ascii n = absurd ascii

-- the kinds with hashed tables are those with spans
pub hashed_spans : (kind : Kind) (n : ℕ) → is_hashed kind n ≡ true → has_spans kind ≡ true
hashed_spans simple_ascii n h = h
hashed_spans ignore_case n h = h
hashed_spans perfect_hash n h = refl
hashed_spans extended_capacity n h = refl

-- they keep case
pub spans_fold : (kind : Kind) → has_spans kind ≡ true → (b : ℕ) → fold_byte kind b ≡ b
spans_fold simple_ascii h b = refl
spans_fold ignore_case h b = absurd (cc)
spans_fold perfect_hash h b = refl
spans_fold extended_capacity h b = refl

-- and any byte may be an edge
pub spans_limit : (kind : Kind) → has_spans kind ≡ true → edge_limit kind ≡ 256
spans_limit simple_ascii h = absurd (cc)
spans_limit ignore_case h = absurd (cc)
spans_limit perfect_hash h = refl
spans_limit extended_capacity h = refl

-- what the options say
pub hashed_by : (kind : Kind) (n : ℕ) → is_hashed kind n ≡ ((flags kind).use_phf && leb 16 n)
hashed_by simple_ascii n = refl
hashed_by ignore_case n = refl
hashed_by perfect_hash n = refl
hashed_by extended_capacity n = refl
