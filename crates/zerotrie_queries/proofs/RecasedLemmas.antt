-- Pairs that are looked up in another map.
use Rattle.std.proofs.Common.{◌≡◌, ℕ, List, [], ◌∷◌, ◌++◌, Option, Some, None, Bool, true, false, refl, ap, subst, append_assoc, append-nil}
use Rattle.std.specs.Prelude.{filter, if◌then◌else◌}
use Rattle.std.specs.FinMap.{entries}
use Rattle.std.specs.Ordering.{nat_cmp}
use Rattle.std.specs.Cmp.Lexicographic.{slice_cmp, nat_list_cmp_total}
use Rattle.std.specs.declared.cmp.Ordering.TheVariants.{Less}
use Rattle.std.specs.declared.ops.Bound.TheVariants.{Unbounded}
use Rattle.zerotrie_core.specs.Kind.{Kind}
use Rattle.zerotrie_core.specs.Maps.{Map, Pairs, Ascends, FirstAbove, look}
use Rattle.zerotrie_search.specs.Sorted.{within}
use Rattle.zerotrie_search.specs.SortedLaws.{SortedAscends}
use Rattle.zerotrie_sets.specs.Merges.{if_some}
use Rattle.zerotrie_sets.specs.Operations.{choose}
use Rattle.zerotrie_sets.specs.declared.combined.Keep.TheVariants.{First, Last}
use Rattle.zerotrie_sets.specs.declared.combined.Operation.{Operation}
use Rattle.zerotrie_sets.specs.declared.combined.Operation.TheVariants.{Union, Intersection, Difference}
use Rattle.zerotrie_sets.specs.Laws.{CombinedAreMaps}
use Rattle.zerotrie_queries.specs.Recased.{ignore_both, looked_up, recased, second_pairs}

-- one pair more, if its key has a value
pub one_looked_up : (table : Pairs) (key : List ℕ) (value : Option ℕ) (more : Pairs) → (table ++ if_some key value []) ++ more ≡ table ++ if_some key value more
one_looked_up table key None more = ap (λ t. t ++ more) (append-nil table)
one_looked_up table key (Some v) more = append_assoc table ((key, v) ∷ []) more

-- what is below the first key of an ascending list is below all
first_above : (k l : List ℕ) (pairs : Pairs) → slice_cmp nat_cmp k l ≡ Less → FirstAbove l pairs → FirstAbove k pairs
first_above k l [] below h = tt
first_above k l (e ∷ pairs) below h = nat_list_cmp_total.trans k l e.0 below h

some_above : (k l : List ℕ) (value : Option ℕ) (pairs : Pairs) → slice_cmp nat_cmp k l ≡ Less → FirstAbove k pairs → FirstAbove k (if_some l value pairs)
some_above k l None pairs below h = h
some_above k l (Some v) pairs below h = below

some_ascends : (k : List ℕ) (value : Option ℕ) (pairs : Pairs) → FirstAbove k pairs → Ascends pairs → Ascends (if_some k value pairs)
some_ascends k None pairs h up = up
some_ascends k (Some v) pairs h up = (h, up)

module _ (operation : Operation) (at : List ℕ → Option ℕ) where
  above : (key : List ℕ) (pairs : Pairs) → FirstAbove key pairs → Ascends pairs → FirstAbove key (looked_up operation at pairs)
  above key [] h up = tt
  above key (e ∷ pairs) h up = some_above key e.0 (choose operation (Some e.1) (at e.0)) (looked_up operation at pairs) h (above key pairs (first_above key e.0 pairs h up.0) up.1)

  pub looked_up_ascends : (pairs : Pairs) → Ascends pairs → Ascends (looked_up operation at pairs)
  looked_up_ascends [] up = tt
  looked_up_ascends (e ∷ pairs) up = some_ascends e.0 (choose operation (Some e.1) (at e.0)) (looked_up operation at pairs) (above e.0 pairs up.0 up.1) (looked_up_ascends pairs up.1)

all_kept : (pairs : Pairs) → filter (λ e. true) pairs ≡ pairs
all_kept [] = refl
all_kept (e ∷ pairs) = ap (λ more. e ∷ more) (all_kept pairs)

-- all pairs of a map are between no bounds
pub within_all : (m : Map) → within Unbounded Unbounded m ≡ entries m
within_all m = all_kept (entries m)

pub entries_ascend : SortedAscends → (m : Map) → Ascends (entries m)
entries_ascend ascends m = subst (λ ps. Ascends ps) (within_all m) (ascends Unbounded Unbounded m)

either_ascends : (b : Bool) (xs ys : Pairs) → Ascends xs → Ascends ys → Ascends (if b then xs else ys)
either_ascends true xs ys one two = one
either_ascends false xs ys one two = two

-- what a merge takes of the second map ascends
pub second_ascends : SortedAscends → CombinedAreMaps → (k j : Kind) (m n : Map) → Ascends (second_pairs k j m n)
second_ascends ascends combined k j m n =
    let one = entries_ascend ascends m in
    let two = entries_ascend ascends n in
    let found = looked_up (Intersection Last) (look j n) (entries m) in
    let others = looked_up Difference (look k m) (entries n) in
    either_ascends (ignore_both k j) (recased k j m n (entries n)) (entries n)
    (combined (Union First) found others (looked_up_ascends (Intersection Last) (look j n) (entries m) one) (looked_up_ascends Difference (look k m) (entries n) two)).ascends two

either_first : (b : Bool) (xs ys : Pairs) → b ≡ true → xs ≡ (if b then xs else ys)
either_first true xs ys h = refl
either_first false xs ys h = absurd (cc)

-- if both kinds ignore case, it is the second map as the first one has its keys; if not, all of it
pub second_recased : (k j : Kind) (m n : Map) → ignore_both k j ≡ true → recased k j m n (entries n) ≡ second_pairs k j m n
second_recased k j m n h = either_first (ignore_both k j) (recased k j m n (entries n)) (entries n) h
