-- Numbers of two to four bytes.
use Rattle.std.proofs.Common.{◌≡◌, ℕ, ◌+◌, ◌*◌, ◌/◌, ◌%◌, ◌^◌, ◌<◌, ◌≤◌, List, ◌∷◌, refl, ◌∙◌, Some}
use Rattle.std.proofs.lemmas.Bool.{lt-ltb, le-ltb}
use Rattle.zerotrie_base.specs.Numbers.{BeginsWith}
use Rattle.zerotrie_base.proofs.NumberLemmas.Numbers.{read_from, read_on, is_read, IsBytes}

-- a byte below 128 is the last
pub last : (L a t : ℕ) (ts : List ℕ) → t < 128 → read_from L a (t ∷ ts) ≡ Some (128 * a + t % 128 + L, ts)
last L a t ts h = rw (lt-ltb t 128 h) refl

-- after any other the number goes on
pub onward : (L a t : ℕ) (ts : List ℕ) → 128 ≤ t → read_from L a (t ∷ ts) ≡ read_from L (128 * a + t % 128 + L) ts
onward L a t ts h = rw (le-ltb t 128 h) refl

-- what is read after a lead that says that more follows is a number
pub begins : (L v start : ℕ) (rest after : List ℕ) → 0 < L → IsBytes rest → v < 2 ^ 64 → (start / L % 2 ≡ 0 → ⊥) → read_from L (start % L) rest ≡ Some (v, after)
    → BeginsWith L (start / (2 * L)) v (start ∷ rest) after
begins L v start rest after some bytes below more e = is_read L v start rest after some bytes below (read_on L start rest more ∙ e)
