-- Valid bytes, and how deep validation goes.
use Rattle.std.proofs.Common.{zero, suc}
use Rattle.std.specs.Prelude.{ℕ, ◌+◌, ◌^◌, ◌<◌, ◌≤◌, List, [], ◌∷◌, length, map, max, nat_lt}
use Rattle.std.specs.List.{prefix_len}
use Rattle.zerotrie_base.specs.Kind.{Kind}
use Rattle.zerotrie_base.specs.Maps.{Pairs, Map}
use Rattle.zerotrie_base.specs.Texts.{Lists, ListEach, Means}
use Rattle.zerotrie_base.specs.Texts.Lists.{nothing, value, literal, span, branch}
use Rattle.zerotrie_base.specs.Texts.ListEach.{no_edge, edge}

-- the bytes mean some map
abbrev pub IsWellFormed : Kind → List ℕ → Type 0
IsWellFormed kind bytes = (m : Map) × Means kind bytes m

-- the greatest of some numbers, 0 of none
abbrev pub greatest : List ℕ → ℕ
greatest [] = 0
greatest (n ∷ more) = max n (greatest more)

-- the place of the longest target, of equal ones the first: the number of targets before the first
-- that no target is longer than
abbrev pub longest_place : List (List ℕ) → ℕ
longest_place targets = prefix_len (λ target. nat_lt (length target) (greatest (map (λ t. length t) targets))) targets

-- each number but the one at the place is one more
abbrev pub one_more_but : ℕ → List ℕ → List ℕ
one_more_but place [] = []
one_more_but zero (n ∷ more) = n ∷ map (λ k. 1 + k) more
one_more_but (suc place) (n ∷ more) = (1 + n) ∷ one_more_but place more

-- How many calls of validation are open at once on an encoding. One call reads all of it but the
-- targets of a branch that are not the longest, and each of those has a call of its own.
abbrev mutual
  pub deep : {kind : Kind} {bytes : List ℕ} {pairs : Pairs} → Lists kind bytes pairs → ℕ
  deep nothing = 1
  deep (value s n text) = deep text
  deep (literal l n text) = deep text
  deep (span run s some high n r f text) = deep text
  deep (branch {targets = targets} b each) = greatest (one_more_but (longest_place targets) (deeps each))

  -- the same for each target
  pub deeps : {kind : Kind} {edges : List ℕ} {targets : List (List ℕ)} {pairs : Pairs} → ListEach kind edges targets pairs → List ℕ
  deeps no_edge = []
  deeps (edge n text each) = deep text ∷ deeps each

-- fewer than 2 ^ d bytes, with d at least 1, open from 1 to d calls
abbrev pub IsShallow : List ℕ → ℕ → Type 0
IsShallow bytes count = (1 ≤ count) × ((d : ℕ) → 1 ≤ d → length bytes < 2 ^ d → count ≤ d)
