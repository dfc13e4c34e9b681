-- Why the plain encoder refuses items, and what its texts mean.
use Rattle.std.proofs.Common.{◌≡◌, ℕ, zero, suc, ◌^◌, ◌<◌, ◌≤◌, List, [], ◌∷◌, length, refl, sym, subst, arith, map, Bool, true, false, inl, inr, ◌⊎◌, Less}
use Rattle.std.specs.Prelude.{All, Any, nat_lt, ◌&&◌}
use Rattle.std.specs.List.{list_all}
use Rattle.std.specs.Ordering.{nat_cmp}
use Rattle.std.specs.Cmp.{tied_itself}
use Rattle.std.specs.Cmp.Lexicographic.{slice_cmp, nat_list_cmp_total}
use Rattle.std.proofs.lemmas.Bool.{cases_lt, lt-ltb, le-ltb}
use Rattle.std.proofs.lemmas.List.Elements.{All-contains}
use Rattle.zerotrie_base.specs.Kind.{simple_ascii}
use Rattle.zerotrie_base.specs.Maps.{Pairs, map_of, Ascends, FirstAbove, RepeatsKey}
use Rattle.zerotrie_base.specs.Items.{Items, pairs_of}
use Rattle.zerotrie_base.specs.Texts.{Lists, Means}
use Rattle.zerotrie_base.specs.Fits.{OverflowsAt, ExceedsCapacity}
use Rattle.zerotrie_base.specs.Causes.{Cause}
use Rattle.zerotrie_base.specs.Built.{IsBuilt}
use Rattle.zerotrie_base.specs.Routes.{ascending, IsRefusal}
use Rattle.zerotrie_base.specs.plain.Encoding.{pairs_from, AsciiKey, AsciiKeys, Deep, Overflows, CannotWrite, Writes}
use Rattle.zerotrie_base.specs.declared.error.ZeroTrieBuildError.{ZeroTrieBuildError}
use Rattle.zerotrie_base.proofs.CanonicalLemmas.Order.{entries-map_of, means_enc}
use Rattle.zerotrie_base.proofs.CanonicalLemmas.Fitting.{fits_meant}

pub deep_none : (items : Items) → Deep 0 items
deep_none [] = tt
deep_none (x ∷ items) = (omega arith, deep_none items)

both_true : (a b : Bool) → (a && b) ≡ true → (a ≡ true) × (b ≡ true)
both_true true b e = (refl, e)
both_true false b e = absurd (cc)

one_false : (a b : Bool) → (a && b) ≡ false → (a ≡ false) ⊎ (b ≡ false)
one_false true b e = inr e
one_false false b e = inl refl

below_128 : (b : ℕ) → nat_lt b 128 ≡ true → b < 128
below_128 b e = elim (cases_lt b 128) [ inl less ↦ less | inr more ↦ absurd (let f = le-ltb b 128 more in cc) ]

from_128 : (b : ℕ) → nat_lt b 128 ≡ false → 128 ≤ b
from_128 b e = elim (cases_lt b 128) [ inl less ↦ absurd (let f = lt-ltb b 128 less in cc) | inr more ↦ more ]

ascii_key : (key : List ℕ) → list_all (λ b. nat_lt b 128) key ≡ true → AsciiKey key
ascii_key [] e = tt
ascii_key (b ∷ key) e = let r = both_true (nat_lt b 128) (list_all (λ b. nat_lt b 128) key) e in (below_128 b r.0, ascii_key key r.1)

-- the test of all bytes of all keys
pub ascii_keys : (items : Items) → list_all (λ e. list_all (λ b. nat_lt b 128) e.0) (pairs_of items) ≡ true → AsciiKeys (pairs_from 0 items)
ascii_keys [] e = tt
ascii_keys (x ∷ items) e =
    let r = both_true (list_all (λ b. nat_lt b 128) x.0.now) (list_all (λ e. list_all (λ b. nat_lt b 128) e.0) (pairs_of items)) e in
    (ascii_key x.0.now r.0, ascii_keys items r.1)

some_byte : (key : List ℕ) → list_all (λ b. nat_lt b 128) key ≡ false → Any (λ b. 128 ≤ b) key
some_byte [] e = absurd (cc)
some_byte (b ∷ key) e =
    elim (one_false (nat_lt b 128) (list_all (λ b. nat_lt b 128) key) e) [
      | inl high ↦ (0, b, omega arith, refl, from_128 b high)
      | inr later ↦ let r = some_byte key later in (suc r.0, r.1, (let h = r.2 in omega arith), r.3, r.4)
    ]

pub some_high : (items : Items) → list_all (λ e. list_all (λ b. nat_lt b 128) e.0) (pairs_of items) ≡ false → Any (λ e. Any (λ b. 128 ≤ b) e.0) (pairs_of items)
some_high [] e = absurd (cc)
some_high (x ∷ items) e =
    elim (one_false (list_all (λ b. nat_lt b 128) x.0.now) (list_all (λ e. list_all (λ b. nat_lt b 128) e.0) (pairs_of items)) e) [
      | inl high ↦ (0, (x.0.now, x.1), omega arith, refl, some_byte x.0.now high)
      | inr later ↦ let r = some_high items later in (suc r.0, r.1, (let h = r.2 in omega arith), r.3, r.4)
    ]

above_later : (key : List ℕ) (e : List ℕ × ℕ) (pairs : Pairs) → slice_cmp nat_cmp key e.0 ≡ Less → FirstAbove e.0 pairs → FirstAbove key pairs
above_later key e [] h up = tt
above_later key e (f ∷ pairs) h up = nat_list_cmp_total.trans key e.0 f.0 h up

-- a key below the first is below each
all_above : (key : List ℕ) (pairs : Pairs) → FirstAbove key pairs → Ascends pairs → All (λ k. slice_cmp nat_cmp key k ≡ Less) (map {B = List ℕ} (λ f. f.0) pairs)
all_above key [] h up i d l = absurd (omega arith)
all_above key (e ∷ pairs) h up zero d l = h
all_above key (e ∷ pairs) h up (suc i) d l = all_above key pairs (above_later key e pairs h up.0) up.1 i d (omega arith)

-- keys that ascend are apart
pub ascends_apart : (pairs : Pairs) → Ascends pairs → RepeatsKey pairs → ⊥
ascends_apart [] up again = again
ascends_apart (e ∷ pairs) up again =
    elim again [
      | inl here ↦
          let less = All-contains (λ k. slice_cmp nat_cmp e.0 k ≡ Less) (map {B = List ℕ} (λ f. f.0) pairs) e.0 (all_above e.0 pairs up.0 up.1) here in
          let same = tied_itself nat_list_cmp_total e.0 in
          absurd (cc)
      | inr later ↦ ascends_apart pairs up.1 later
    ]

too_wide_exceeds : (pairs : Pairs) → Ascends pairs → Overflows pairs → ExceedsCapacity simple_ascii (map_of pairs)
too_wide_exceeds pairs up w = inr (w.0, subst (OverflowsAt simple_ascii w.0) (sym (entries-map_of pairs up)) w.1)

-- what the encoder can't write is refused
pub refusal_cause : (pairs : Pairs) (e : ZeroTrieBuildError) → Ascends pairs → CannotWrite pairs e → IsRefusal ascending simple_ascii pairs e
refusal_cause pairs e up r =
    elim r [
      | inl memory ↦ inl memory
      | inr wide ↦ inr (λ twice. absurd (cc), subst (Cause simple_ascii pairs) (sym wide.0) (ascends_apart pairs up, too_wide_exceeds pairs up wide.1))
    ]

-- what was written to no bytes is built of the pairs
pub written_built : (text : List ℕ) (pairs : Pairs) → length text < 2 ^ 64 → Writes [] text pairs → IsBuilt simple_ascii pairs text
written_built text pairs short w =
    let means : Means simple_ascii text (map_of pairs) = record { short = short; pairs = pairs; lists = subst (λ x. Lists simple_ascii x pairs) (sym w.is) w.lists; is = refl } in
    record {
      fits = fits_meant simple_ascii text (map_of pairs) means;
      text = λ ascii. means_enc simple_ascii ascii text (map_of pairs) means;
      means = means;
    }
