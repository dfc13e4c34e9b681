-- Worked texts and lengths, computed on the definitions.
use Rattle.std.proofs.Common.{◌≡◌, ℕ, zero, suc, ◌+◌, ◌<◌, List, [], ◌∷◌, ◌++◌, length, get_or, refl, arith}
use Rattle.std.specs.Prelude.{All}
use Rattle.std.specs.List.Sorted.{IsStrictlyIncreasing}
use Rattle.zerotrie_base.specs.Hashes.{place_of}
use Rattle.zerotrie_base.specs.Kind.{Kind, simple_ascii, perfect_hash}
use Rattle.zerotrie_base.specs.Numbers.{spelled}
use Rattle.zerotrie_base.specs.Maps.{Pairs, edges, residual, run_of}
use Rattle.zerotrie_base.specs.Branches.{IsBranch, IsTable, width}
use Rattle.zerotrie_base.specs.Branches.IsTable.{sorted, hashed}
use Rattle.zerotrie_base.specs.Texts.{Lists}
use Rattle.zerotrie_base.specs.Texts.Lists.{nothing, value, span, branch}
use Rattle.zerotrie_base.specs.Texts.ListEach.{no_edge, edge}
use Rattle.zerotrie_base.specs.Canonical.{enc_to, size_to}

-- the empty key, and keys that go on from one another
example : Pairs
example = ([], 11) ∷ (97 ∷ 100 ∷ [], 22) ∷ (97 ∷ 100 ∷ 101 ∷ 102 ∷ [], 33) ∷ (97 ∷ 100 ∷ 103 ∷ 104 ∷ 107 ∷ [], 44) ∷ []

example_enc : enc_to 6 simple_ascii example ≡ 0x8B ∷ 0x61 ∷ 0x64 ∷ 0x90 ∷ 0x06 ∷ 0xC2 ∷ 0x65 ∷ 0x67 ∷ 0x03 ∷ 0x66 ∷ 0x90 ∷ 0x11 ∷ 0x68 ∷ 0x6B ∷ 0x90 ∷ 0x1C ∷ []
unfolding example spelled width edges
example_enc = refl

example_size : size_to 6 simple_ascii example ≡ 16
unfolding example spelled width edges
example_size = refl

top : spelled 16 0 18446744073709551615 ≡ 0x11 ∷ 0xEF ∷ 0xEF ∷ 0xEF ∷ 0xEF ∷ 0xEF ∷ 0xEF ∷ 0xEF ∷ 0xEF ∷ 0x6F ∷ []
unfolding spelled
top = refl

-- the keys "foo", "bår" and "båzzøø": spans of two bytes and of four
nordic : Pairs
nordic = (0x62 ∷ 0xC3 ∷ 0xA5 ∷ 0x72 ∷ [], 2) ∷ (0x62 ∷ 0xC3 ∷ 0xA5 ∷ 0x7A ∷ 0x7A ∷ 0xC3 ∷ 0xB8 ∷ 0xC3 ∷ 0xB8 ∷ [], 3) ∷ (0x66 ∷ 0x6F ∷ 0x6F ∷ [], 1) ∷ []

nordic_run : run_of (residual 0x62 nordic) ≡ 0xC3 ∷ 0xA5 ∷ []
unfolding nordic run_of edges
nordic_run = refl

nordic_size : size_to 9 perfect_hash nordic ≡ 22
unfolding nordic spelled width edges run_of
nordic_size = refl

-- the keys "a" to "p": sixteen edges, so a hashed table
letters : Pairs
letters = (0x61 ∷ [], 0) ∷ (0x62 ∷ [], 1) ∷ (0x63 ∷ [], 2) ∷ (0x64 ∷ [], 3) ∷ (0x65 ∷ [], 4) ∷ (0x66 ∷ [], 5) ∷ (0x67 ∷ [], 6) ∷ (0x68 ∷ [], 7) ∷ (0x69 ∷ [], 8) ∷ (0x6A ∷ [], 9) ∷ (0x6B ∷ [], 10) ∷ (0x6C ∷ [], 11) ∷ (0x6D ∷ [], 12) ∷ (0x6E ∷ [], 13) ∷ (0x6F ∷ [], 14) ∷ (0x70 ∷ [], 15) ∷ []

letters_hashed : size_to 2 perfect_hash letters ≡ 65
unfolding letters spelled width edges run_of
letters_hashed = refl

letters_sorted : size_to 2 simple_ascii letters ≡ 48
unfolding letters spelled width edges
letters_sorted = refl

-- this many zeros
zeros : ℕ → List ℕ
zeros zero = []
zeros (suc n) = 0 ∷ zeros n

zero_byte : (n i d : ℕ) → i < length (zeros n) → get_or (zeros n) i d < 256
unfolding zeros
zero_byte zero i d h = absurd (omega arith)
zero_byte (suc n) zero d h = omega arith
zero_byte (suc n) (suc i) d h = zero_byte n i d (omega arith)

-- their remainders by sixteen differ, so that zeros make a perfect table
letters_placed : List ℕ
letters_placed = 0x70 ∷ 0x61 ∷ 0x62 ∷ 0x63 ∷ 0x64 ∷ 0x65 ∷ 0x66 ∷ 0x67 ∷ 0x68 ∷ 0x69 ∷ 0x6A ∷ 0x6B ∷ 0x6C ∷ 0x6D ∷ 0x6E ∷ 0x6F ∷ []

letters_at : (i : ℕ) → i < 16 → place_of 0 (zeros 16) 16 (get_or letters_placed i 0) ≡ i
unfolding zeros letters_placed
letters_at zero h = refl
letters_at (suc zero) h = refl
letters_at (suc (suc zero)) h = refl
letters_at (suc (suc (suc zero))) h = refl
letters_at (suc (suc (suc (suc zero)))) h = refl
letters_at (suc (suc (suc (suc (suc zero))))) h = refl
letters_at (suc (suc (suc (suc (suc (suc zero)))))) h = refl
letters_at (suc (suc (suc (suc (suc (suc (suc zero))))))) h = refl
letters_at (suc (suc (suc (suc (suc (suc (suc (suc zero)))))))) h = refl
letters_at (suc (suc (suc (suc (suc (suc (suc (suc (suc zero))))))))) h = refl
letters_at (suc (suc (suc (suc (suc (suc (suc (suc (suc (suc zero)))))))))) h = refl
letters_at (suc (suc (suc (suc (suc (suc (suc (suc (suc (suc (suc zero))))))))))) h = refl
letters_at (suc (suc (suc (suc (suc (suc (suc (suc (suc (suc (suc (suc zero)))))))))))) h = refl
letters_at (suc (suc (suc (suc (suc (suc (suc (suc (suc (suc (suc (suc (suc zero))))))))))))) h = refl
letters_at (suc (suc (suc (suc (suc (suc (suc (suc (suc (suc (suc (suc (suc (suc zero)))))))))))))) h = refl
letters_at (suc (suc (suc (suc (suc (suc (suc (suc (suc (suc (suc (suc (suc (suc (suc zero))))))))))))))) h = refl
letters_at (suc (suc (suc (suc (suc (suc (suc (suc (suc (suc (suc (suc (suc (suc (suc (suc i)))))))))))))))) h = absurd (omega arith)

letters_table : IsTable perfect_hash letters_placed (0 ∷ (zeros 16 ++ letters_placed))
unfolding zeros letters_placed
letters_table = hashed {qs = zeros 16} refl (record {
  p_byte = omega arith;
  q_bytes = zero_byte 16;
  a_q_each = refl;
  places = letters_at;
})

-- a value node alone
low_value : (kind : Kind) (v : ℕ) → v < 16 → Lists kind ((128 + v) ∷ []) (([], v) ∷ [])
low_value kind v low = value {spelling = (128 + v) ∷ []} (record {
  digit = v;
  trail = [];
  below = omega arith;
  digit_below = low;
  is_trail = tt;
  bytes_are = refl;
  value = omega arith;
}) tt nothing

-- a branch of two edges, its targets a byte each
fork : IsBranch perfect_hash (0xA5 ∷ 0xB8 ∷ []) ((0x81 ∷ []) ∷ (0x82 ∷ []) ∷ []) (0xC2 ∷ 0xA5 ∷ 0xB8 ∷ 0x01 ∷ 0x81 ∷ 0x82 ∷ [])
fork = record {
  head = 0xC2 ∷ [];
  table = 0xA5 ∷ 0xB8 ∷ [];
  width = 0;
  two = omega arith;
  at_most = omega arith;
  a_target_each = refl;
  edge_bytes = bytes;
  is_width = record { enough = omega arith; least = λ x h. omega arith };
  fits = omega arith;
  is_head = record { digit = 2; trail = []; below = omega arith; digit_below = omega arith; is_trail = tt; bytes_are = refl; value = refl };
  is_table = sorted refl rises;
  bytes_are = refl;
}
  where
    bytes : All (λ b. b < 256) (0xA5 ∷ 0xB8 ∷ [])
    bytes zero d h = omega arith
    bytes (suc zero) d h = omega arith
    bytes (suc (suc i)) d h = absurd (omega arith)

    rises : IsStrictlyIncreasing (0xA5 ∷ 0xB8 ∷ [])
    rises zero h = omega arith
    rises (suc k) h = absurd (omega arith)

-- the keys "å" and "ø", which have their first byte in common: a span and a branch after it
spanned : Lists perfect_hash (0xA1 ∷ 0xC3 ∷ 0xC2 ∷ 0xA5 ∷ 0xB8 ∷ 0x01 ∷ 0x81 ∷ 0x82 ∷ []) ((0xC3 ∷ 0xA5 ∷ [], 1) ∷ (0xC3 ∷ 0xB8 ∷ [], 2) ∷ [])
spanned = span {spelling = 0xA1 ∷ []} (0xC3 ∷ []) refl (λ none. absurd (cc)) (omega arith, omega arith, tt)
    (record { digit = 1; trail = []; below = omega arith; digit_below = omega arith; is_trail = tt; bytes_are = refl; value = refl })
    (λ none. absurd (cc)) (λ five. absurd (cc))
    (branch fork (edge (λ none. absurd (cc)) (low_value perfect_hash 1 (omega arith)) (edge (λ none. absurd (cc)) (low_value perfect_hash 2 (omega arith)) no_edge)))
