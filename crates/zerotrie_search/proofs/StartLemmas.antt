-- The start of a listing of all pairs.
use Rattle.std.proofs.Common.{◌≡◌, ◌∙◌, ℕ, List, [], length, reverse, ap, refl, sym}
use Rattle.std.specs.FinMap.{entries}
use Rattle.std.specs.declared.ops.Bound.TheVariants.{Unbounded}
use Rattle.zerotrie_base.specs.Kind.{Kind}
use Rattle.zerotrie_base.specs.Maps.{Map, Pairs}
use Rattle.zerotrie_base.specs.Texts.{Lists, Means}
use Rattle.zerotrie_core.specs.Listings.{to_come}
use Rattle.zerotrie_core.specs.listing.Listed.{listed}
use Rattle.zerotrie_core.proofs.ForCallers.{listed_pairs}
use Rattle.zerotrie_search.specs.Forks.{Follows}
use Rattle.zerotrie_search.specs.Paths.{is_from}
use Rattle.zerotrie_search.specs.Sorted.{within}
use Rattle.zerotrie_search.specs.Walks.{AreFew, SameKeys, Walks, is_to_come, pairs_where}
use Rattle.zerotrie_search.specs.declared.sorted.fork.Fork.{Fork}
use Rattle.zerotrie_search.proofs.LeftLemmas.{chosen_same, few_where, starts_left}
use Rattle.zerotrie_search.proofs.NearestLemmas.{all_within}
use Rattle.zerotrie_search.proofs.StandLemmas.{follows_whole}
use Rattle.zerotrie_search.proofs.WalkLemmas.{walk_starts}

-- a walk that begins with no key and no open branch comes to all keys
begun : (kind : Kind) (bytes : List ℕ) (pairs : Pairs) → Lists kind bytes pairs → (key : List ℕ) (forks : List Fork) → key ≡ [] → forks ≡ []
    → Walks kind pairs key bytes (reverse forks) × SameKeys pairs (is_from []) (is_to_come kind key bytes (reverse forks))
begun kind bytes pairs lists key forks no_key no_forks =
    let way : Follows kind pairs [] [] [] bytes [] = record { below = pairs; text = lists; same = λ _. refl; whole = λ _. refl; way = tt; is = refl } in
    rw (no_key, no_forks) (walk_starts (follows_whole way refl))

pub all_starts : (kind : Kind) (bytes : List ℕ) (pairs : Pairs) → Lists kind bytes pairs → (key : List ℕ) (forks : List Fork) → key ≡ [] → forks ≡ []
    → Walks kind pairs key bytes (reverse forks) × AreFew pairs Unbounded (is_to_come kind key bytes (reverse forks)) (length bytes)
all_starts kind bytes pairs lists key forks no_key no_forks =
    ((begun kind bytes pairs lists key forks no_key no_forks).0, few_where lists Unbounded (is_to_come kind key bytes (reverse forks)))

pub all_left : (kind : Kind) (bytes : List ℕ) (m : Map) → Means kind bytes m → (key : List ℕ) (forks : List Fork) → key ≡ [] → forks ≡ []
    → to_come (pairs_where (listed kind bytes) Unbounded (is_to_come kind key bytes (reverse forks))) ≡ to_come (entries m)
all_left kind bytes m means key forks no_key no_forks =
    let pairs = means.pairs in
    let p : List ℕ → _ = is_to_come kind key bytes (reverse forks) in
    ap to_come
    (ap (λ ps. pairs_where ps Unbounded p) (listed_pairs means.lists)
    ∙ sym (chosen_same pairs Unbounded (is_from []) p (begun kind bytes pairs means.lists key forks no_key no_forks).1) ∙ starts_left pairs Unbounded Unbounded
    ∙ ap (within Unbounded Unbounded) (sym means.is) ∙ all_within m)
