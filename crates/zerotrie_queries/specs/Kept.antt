-- The conditions of a choice but that of its word, as an automaton.
use Rattle.std.specs.Prelude.{ℕ, List, Bool, true, false, Option, Some, None, ◌&&◌, ◌||◌, not}
use Rattle.std.specs.Range.Bound.{bound_map, bounds_contain}
use Rattle.zerotrie_core.specs.Kinds.{kind_of}
use Rattle.zerotrie_core.specs.Maps.{begins_with}
use Rattle.zerotrie_index.specs.Tries.{folded_key}
use Rattle.zerotrie_search.specs.Automata.{any_accepts}
use Rattle.zerotrie_search.specs.Sets.{by_bytes}
use Rattle.zerotrie_search.specs.declared.any.AnyAutomaton.TheVariants as any
use Rattle.zerotrie_search.specs.declared.combination.Both.{Both}
use Rattle.zerotrie_search.specs.declared.combination.Either.{Either}
use Rattle.zerotrie_search.specs.declared.combination.Not.{Not}
use Rattle.zerotrie_search.specs.declared.folding.ByKind.{ByKind}
use Rattle.zerotrie_search.specs.declared.glob.Glob.{Glob}
use Rattle.zerotrie_search.specs.declared.glob.chars.GlobChars.{GlobChars}
use Rattle.zerotrie_search.specs.declared.prefix.KindPrefix.{KindPrefix}
use Rattle.zerotrie_search.specs.declared.range.KeyRange.{KeyRange}
use Rattle.zerotrie_queries.specs.declared.kept.Maybe.{Maybe}

-- what an automaton accepts, if there is one
abbrev pub some_accepts : {A : Type 0} → (A → List ℕ → Bool) → Option A → List ℕ → Bool
some_accepts accepts None key = false
some_accepts accepts (Some a) key = accepts a key

-- what it accepts, or all without one
abbrev pub may_keep : {A : Type 0} → (A → List ℕ → Bool) → Option A → List ℕ → Bool
may_keep accepts None key = true
may_keep accepts (Some a) key = accepts a key

-- what an automaton accepts from a state, if there is one
abbrev pub some_accepts_from : {A S : Type 0} → (A → S → List ℕ → Bool) → Option A → Option S → List ℕ → Bool
some_accepts_from from None state key = false
some_accepts_from from (Some a) None key = false
some_accepts_from from (Some a) (Some state) key = from a state key

-- it may be in this state
abbrev pub MayBeAfter : {A S : Type 0} → (A → List ℕ → S → Type 0) → Option A → List ℕ → Option S → Type 0
MayBeAfter IsAfter None front state = Unit {0}
MayBeAfter IsAfter (Some a) front None = Unit {0}
MayBeAfter IsAfter (Some a) front (Some state) = IsAfter a front state

-- what the automata of a prefix and of a range accept, and neither of two patterns
abbrev pub PrefixAndRange : Type 0
PrefixAndRange = Both KindPrefix (ByKind KeyRange)

abbrev pub NoPattern : Type 0
NoPattern = Not (ByKind (Either (Maybe Glob) (Maybe GlobChars)))

abbrev pub in_part : PrefixAndRange → List ℕ → Bool
in_part p key = begins_with (kind_of p.0.kind) p.0.prefix.now key && bounds_contain by_bytes (bound_map (λ b. b.now) p.1.1.from) (bound_map (λ b. b.now) p.1.1.to) (folded_key (kind_of p.1.0) key)

abbrev pub spares : NoPattern → List ℕ → Bool
spares n key = not (some_accepts (λ g. any_accepts (any.Glob g)) n.0.1.0.0 (folded_key (kind_of n.0.0) key) || some_accepts (λ g. any_accepts (any.GlobChars g)) n.0.1.1.0 (folded_key (kind_of n.0.0) key))

abbrev pub keeps : Both PrefixAndRange NoPattern → List ℕ → Bool
keeps k key = in_part k.0 key && spares k.1 key
