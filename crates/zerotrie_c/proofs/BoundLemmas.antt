-- The bound of a build, by the number of pairs and that of the bytes of their keys.
use Rattle.std.proofs.Common.{ℕ, ◌+◌, ◌*◌, ◌≤◌, List, [], ◌∷◌, length, arith, length-append, Bool, true, false, cond}
use Rattle.std.specs.Prelude.{min, nat_lt}
use Rattle.std.proofs.Math.Nat.{le-min}
use Rattle.zerotrie_core.proofs.CallerLemmas.{build_bound-cons, key_bound-cons}
use Rattle.zerotrie_core.specs.Bounds.{build_bound, key_bound}
use Rattle.zerotrie_core.specs.Maps.{Pairs}
use Rattle.zerotrie_c.specs.Listed.{joined}

one_byte : (below : Bool) → cond below 1 2 ≤ 2
one_byte true = omega arith
one_byte false = omega arith

key_most : (key : List ℕ) → key_bound key ≤ 2 * length key
key_most [] = omega arith
key_most (b ∷ key) = let most = one_byte (nat_lt b 128) in let one = key_bound-cons b key in let more = key_most key in omega arith

pub bound_most : (pairs : Pairs) → build_bound pairs ≤ 20 * length pairs + 2 * length (joined pairs)
unfolding build_bound
bound_most [] = omega arith
bound_most (e ∷ pairs) =
    let one = build_bound-cons e pairs in
    let more = bound_most pairs in
    let key = key_most e.0 in
    let all = length-append e.0 (joined pairs) in
    omega arith

-- what is below the greatest number and within a sum is within the sum that stops there
pub within_stopped : (n a b most : ℕ) → n ≤ a + b → n ≤ most → n ≤ min (min a most + min b most) most
within_stopped n a b most sum below = le-min (grind arith) below
