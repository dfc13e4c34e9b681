-- What a call of a cache leaves in it.
use Rattle.std.specs.Prelude.{◌≡◌, ℕ, List, Result, Ok, Err, MatchOption, ⊤}
use Rattle.std.specs.Borrow.{Fml, RattleType, MutBor, Bor, follows_so}
use Rattle.std.specs.declared.alloc.Allocator.{Ghosts}
use mathlib.Core.Option.{none}
use Rattle.zerotrie_base.specs.Caches.{Tables, find, put}
use Rattle.zerotrie_base.specs.declared.byte_phf.PerfectByteHashMap.{PerfectByteHashMap}
use Rattle.zerotrie_base.specs.contracts.byte_phf.cached_owned.PerfectByteHashMapCacheOwned.{the_row}

-- a table that is borrowed from a cache
abbrev pub Lent : Type 0
Lent = PerfectByteHashMap (Bor (List ℕ))

-- After a result a cache holds what it held and the table of the result, which is the held one if
-- there was one. After an error it holds what it held.
abbrev pub HoldsAfter : {E : Type 0} → Tables → List ℕ → Result Lent E → Tables → Type 0
HoldsAfter before keys (Ok t) after =
    MatchOption (find keys before) (after ≡ put keys t.store.now before) (λ table. (after ≡ before) × (t.store.now ≡ table))
HoldsAfter before keys (Err e) after = after ≡ before

-- what the cache holds once the borrow ends
abbrev pub ends_with : {E : Type 0} (A : RattleType) → Ghosts A.Denot → MutBor Tables → List ℕ → Result Lent E → Fml
ends_with A alloc cache keys r =
    follows_so (the_row A alloc) (the_row A alloc) cache.ghost_name none (λ _ _. ⊤) (HoldsAfter cache.now keys r)
