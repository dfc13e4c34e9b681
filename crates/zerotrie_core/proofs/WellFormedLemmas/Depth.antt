-- How many calls of the test are open at once.
use Rattle.std.proofs.Common.{◌≡◌, ℕ, zero, suc, ◌+◌, ◌*◌, ◌^◌, ◌<◌, ◌≤◌, List, [], ◌∷◌, ◌++◌, length, refl, ap, arith, map, get_or}
use Rattle.std.specs.Prelude.{max}
use Rattle.std.specs.List.{concat}
use Rattle.zerotrie_base.specs.Kind.{Kind}
use Rattle.zerotrie_base.specs.Branches.{blocks, offsets}
use Rattle.zerotrie_base.specs.Nodes.{Shape, Begins}
use Rattle.zerotrie_base.specs.Nodes as shapes
use Rattle.zerotrie_base.proofs.NodeLemmas.Opened.{is_begun}
use Rattle.zerotrie_base.specs.Maps.{Pairs}
use Rattle.zerotrie_base.specs.Texts.{Lists, ListEach}
use Rattle.zerotrie_base.specs.Texts.Lists.{nothing, value, literal, span, branch}
use Rattle.zerotrie_base.specs.Texts.ListEach.{no_edge, edge}
use Rattle.zerotrie_core.specs.WellFormed.{deep, deeps, greatest, one_more_but, longest_place, IsShallow}

some_more : (place d : ℕ) (ds : List ℕ) → 1 ≤ d → 1 ≤ greatest (one_more_but place (d ∷ ds))
some_more zero d ds h = omega arith
some_more (suc place) d ds h = omega arith

-- the call itself is counted
mutual
  pub deep_some : {kind : Kind} {bytes : List ℕ} {pairs : Pairs} (text : Lists kind bytes pairs) → 1 ≤ deep text
  deep_some nothing = omega arith
  deep_some (value s n text) = deep_some text
  deep_some (literal l n text) = deep_some text
  deep_some (span run s some high n r f text) = deep_some text
  deep_some (branch {edges = edges} {targets = targets} b each) = each_deep each (longest_place targets) (let two = b.two in omega arith)

  each_deep : {kind : Kind} {edges : List ℕ} {targets : List (List ℕ)} {pairs : Pairs} (each : ListEach kind edges targets pairs) (place : ℕ) → 1 ≤ length edges → 1 ≤ greatest (one_more_but place (deeps each))
  each_deep no_edge place h = absurd (omega arith)
  each_deep (edge n text each) place h = some_more place (deep text) (deeps each) (deep_some text)

pub shallow_one : (xs : List ℕ) → IsShallow xs 1
shallow_one xs = (omega arith, λ d one short. one)

pub shallow_max : (xs : List ℕ) (a b : ℕ) → IsShallow xs a → IsShallow xs b → IsShallow xs (max a b)
shallow_max xs a b h k = let one = h.0 in (omega arith, λ d d1 short. let x = h.1 d d1 short in let y = k.1 d d1 short in omega arith)

pub shallow_longer : (xs ys : List ℕ) (n : ℕ) → length xs ≤ length ys → IsShallow xs n → IsShallow ys n
shallow_longer xs ys n le h = (h.0, λ d d1 short. h.1 d d1 (omega arith))

twice : (e : ℕ) → 2 ^ suc e ≡ 2 * 2 ^ e
twice e = grind arith

more_to : (target whole : List ℕ) (count : ℕ) → IsShallow target count → 0 < length target → length target + length target < length whole → (d : ℕ) → 1 ≤ d → length whole < 2 ^ d → count + 1 ≤ d
more_to target whole count h some short zero one below = absurd (omega arith)
more_to target whole count h some short (suc zero) one below = absurd (omega arith)
more_to target whole count h some short (suc (suc e)) one below =
    let t = twice (suc e) in
    let r : count ≤ suc e = h.1 (suc e) (omega arith) (omega arith) in
    omega arith

-- a target of less than half of the bytes opens one call more
pub shallow_more : (target whole : List ℕ) (count : ℕ) → IsShallow target count → 0 < length target → length target + length target < length whole → IsShallow whole (count + 1)
shallow_more target whole count h some short = let one = h.0 in (omega arith, more_to target whole count h some short)

pub length-one_more_but : (place : ℕ) (ds : List ℕ) → length (one_more_but place ds) ≡ length ds
length-one_more_but place [] = refl
length-one_more_but zero (d ∷ ds) = ap suc (all_one ds)
  where
    all_one : (ns : List ℕ) → length (map (λ k. 1 + k) ns) ≡ length ns
    all_one [] = refl
    all_one (n ∷ ns) = ap suc (all_one ns)
length-one_more_but (suc place) (d ∷ ds) = ap suc (length-one_more_but place ds)

later_more : (ds : List ℕ) (i : ℕ) → i < length ds → get_or (map (λ k. 1 + k) ds) i 0 ≡ 1 + get_or ds i 0
later_more [] i h = absurd (omega arith)
later_more (d ∷ ds) zero h = refl
later_more (d ∷ ds) (suc i) h = later_more ds i (omega arith)

pub at_place : (place : ℕ) (ds : List ℕ) → get_or (one_more_but place ds) place 0 ≡ get_or ds place 0
at_place place [] = refl
at_place zero (d ∷ ds) = refl
at_place (suc place) (d ∷ ds) = at_place place ds

pub at_other : (place i : ℕ) (ds : List ℕ) → i < length ds → (i ≡ place → ⊥) → get_or (one_more_but place ds) i 0 ≡ 1 + get_or ds i 0
at_other place i [] h other = absurd (omega arith)
at_other zero zero (d ∷ ds) h other = absurd (other refl)
at_other zero (suc i) (d ∷ ds) h other = later_more ds i (omega arith)
at_other (suc place) zero (d ∷ ds) h other = refl
at_other (suc place) (suc i) (d ∷ ds) h other = at_other place i ds (omega arith) (λ e. other (ap suc e))

pub greatest_at : (ns : List ℕ) (i : ℕ) → i < length ns → get_or ns i 0 ≤ greatest ns
greatest_at [] i h = absurd (omega arith)
greatest_at (n ∷ ns) zero h = omega arith
greatest_at (n ∷ ns) (suc i) h = let more = greatest_at ns i (omega arith) in omega arith

pub length-deeps : {kind : Kind} {edges : List ℕ} {targets : List (List ℕ)} {pairs : Pairs} (each : ListEach kind edges targets pairs) → length (deeps each) ≡ length targets
length-deeps no_edge = refl
length-deeps (edge n text each) = ap suc (length-deeps each)

-- The target at a place is a text, not empty, and as deep.
pub record TargetAt {kind : Kind} {edges : List ℕ} {targets : List (List ℕ)} {pairs : Pairs} (each : ListEach kind edges targets pairs) (i : ℕ) : Type 0 where
  pub some : get_or targets i [] ≡ [] → ⊥
  pub below : Pairs
  pub inner : Lists kind (get_or targets i []) below
  pub deep_is : get_or (deeps each) i 0 ≡ deep inner

pub each_at : {kind : Kind} {edges : List ℕ} {targets : List (List ℕ)} {pairs : Pairs} (each : ListEach kind edges targets pairs) (i : ℕ) → i < length targets → TargetAt each i
each_at no_edge i h = absurd (omega arith)
each_at (edge n text each) zero h = record { some = n; below = _; inner = text; deep_is = refl }
each_at (edge n text each) (suc i) h = let at = each_at each i (omega arith) in record { some = at.some; below = at.below; inner = at.inner; deep_is = at.deep_is }

-- targets that are texts, and not empty, list pairs
pub each_from : (kind : Kind) (edges : List ℕ) (targets : List (List ℕ)) → length targets ≡ length edges
    → ((i : ℕ) → i < length targets → (get_or targets i [] ≡ [] → ⊥) × ((pairs : Pairs) × Lists kind (get_or targets i []) pairs)) → (pairs : Pairs) × ListEach kind edges targets pairs
each_from kind [] [] n h = ([], no_edge)
each_from kind [] (t ∷ targets) n h = absurd (omega arith)
each_from kind (e ∷ edges) [] n h = absurd (omega arith)
each_from kind (e ∷ edges) (t ∷ targets) n h =
    let first = h 0 (omega arith) in
    let more = each_from kind edges targets (omega arith) (λ i l. h (suc i) (omega arith)) in
    (_, edge first.0 first.1.1 more.1)

-- if no node begins, there are no bytes, and one call is open
pub deep_no_node : {kind : Kind} {bytes : List ℕ} {pairs : Pairs} (text : Lists kind bytes pairs) → ((s : Shape) → Begins kind bytes s → ⊥) → (bytes ≡ []) × (deep text ≡ 1)
deep_no_node nothing none = (refl, refl)
deep_no_node (value {v = v} {spelling = spelling} {rest = rest} s n text) none = absurd (none (shapes.Shape.value v rest) (record { spelling = spelling; spells = s; bytes_are = refl }))
deep_no_node (literal {b = b} {rest = rest} low n text) none = absurd (none (shapes.Shape.literal b rest) (low, refl))
deep_no_node (span {spelling = spelling} {rest = rest} run h some high s n f text) none =
    absurd (none (shapes.Shape.span run rest) (h, record { spelling = spelling; spells = s; bytes_are = refl }))
deep_no_node (branch {edges = edges} {targets = targets} i each) none =
    absurd (none (shapes.Shape.branch (length edges) (i.width + 1) i.table (edges ++ (blocks (i.width + 1) (offsets targets) ++ concat targets))) (is_begun i))
