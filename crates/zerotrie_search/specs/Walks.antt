-- A walk from node to node in the order of bytes, and the keys that it has still to come to.
use Rattle.std.specs.Prelude.{◌≡◌, ◌≤◌, ◌<◌, ◌+◌, ◌-◌, ◌&&◌, ◌||◌, ◌⊎◌, ℕ, List, [], ◌∷◌, ◌++◌, Bool, false, true, Option, Some, None, length, take, drop, filter, is_some}
use Rattle.std.proofs.Common.{suc}
use Rattle.std.specs.Borrow.{Bor}
use Rattle.std.specs.FinMap.{entries}
use Rattle.std.specs.Ordering.{nat_cmp, is_lt}
use Rattle.std.specs.Cmp.Lexicographic.{slice_cmp}
use Rattle.std.specs.Range.Bound.{is_up_to_end}
use Rattle.std.specs.declared.ops.Bound.{Bound}
use Rattle.zerotrie_base.specs.Kind.{Kind, simple_ascii}
use Rattle.zerotrie_base.specs.Maps.{Pairs, value_at, behind_all, after_run, map_of}
use Rattle.zerotrie_base.specs.Texts.{Lists}
use Rattle.zerotrie_core.specs.ByteSets.{is_in}
use Rattle.zerotrie_core.specs.Listings.{Left, to_come, over}
use Rattle.zerotrie_core.specs.listing.Listed.{listed}
use Rattle.zerotrie_core.specs.declared.byte_set.ByteSet.{ByteSet}
use Rattle.zerotrie_search.specs.declared.sorted.walk.Reached.{Reached}
use Rattle.zerotrie_search.specs.declared.sorted.walk.Reached.TheVariants.{Pair, Bytes, Branch, End}
use Rattle.zerotrie_search.specs.Forks.{SameEdges, IsOpen, IsOver, IsRun, TakesLeast}
use Rattle.zerotrie_search.specs.Sets.{by_bytes}
use Rattle.zerotrie_search.specs.declared.sorted.fork.Fork.{Fork}

-- whether a key continues with a byte of a set, if it continues
abbrev pub goes_by : ByteSet → Option (List ℕ) → Bool
goes_by set None = false
goes_by set (Some []) = false
goes_by set (Some (c ∷ more)) = is_in set c

-- whether what a key continues with is a key of some pairs
abbrev pub has_key : Pairs → Option (List ℕ) → Bool
has_key pairs None = false
has_key pairs (Some more) = is_some (value_at simple_ascii pairs more)

-- whether a key is behind an edge that is left of the open branches on the way to another
abbrev pub is_in_forks : List ℕ → List Fork → List ℕ → Bool
is_in_forks key [] q = false
is_in_forks key (f ∷ forks) q = goes_by f.left (after_run (take f.depth key) q) || is_in_forks key forks q

-- whether a walk has still to come to a key: the bytes list it behind the key so far, or it is behind
-- an edge that is left
abbrev pub is_to_come : Kind → List ℕ → List ℕ → List Fork → List ℕ → Bool
is_to_come kind key rest forks q = has_key (listed kind rest) (after_run key q) || is_in_forks key forks q

-- how many bytes there are for the edges that are left and their targets
abbrev pub rooms : List Fork → ℕ
rooms [] = 0
rooms (f ∷ forks) = f.room + rooms forks

-- the edge comes after the byte that a key continues with, if it continues
abbrev pub IsAhead : ℕ → List ℕ → Type 0
IsAhead c [] = Unit {0}
IsAhead c (b ∷ run) = b < c

-- An open branch on the way to a key, before some depth. The edges that are left come after the one in
-- the key, and there are some.
pub record IsOnKey (kind : Kind) (pairs : Pairs) (key : List ℕ) (limit : ℕ) (f : Fork) : Type 0 where
  pub before : f.depth < limit
  pub within : f.depth ≤ length key
  pub opens : IsOpen kind (behind_all (take f.depth key) pairs) f
  pub ahead : (c : ℕ) → is_in f.left c ≡ true → IsAhead c (drop f.depth key)
  pub some : IsOver f → ⊥

-- such branches, the innermost first
abbrev pub AreOpen : Kind → Pairs → List ℕ → ℕ → List Fork → Type 0
AreOpen kind pairs key limit [] = Unit {0}
AreOpen kind pairs key limit (f ∷ forks) = IsOnKey kind pairs key limit f × AreOpen kind pairs key f.depth forks

-- The bytes list what remains after a key, but perhaps for its value.
pub record Reads (kind : Kind) (pairs : Pairs) (key bytes : List ℕ) : Type 0 where
  pub below : Pairs
  pub text : Lists kind bytes below
  pub same : SameEdges below (behind_all key pairs)
  pub value : (v : ℕ) → value_at simple_ascii below [] ≡ Some v → value_at simple_ascii pairs key ≡ Some v

-- so do those that are left, if there are some
abbrev pub ReadsOn : Kind → Pairs → List ℕ → List ℕ → Type 0
ReadsOn kind pairs key [] = Unit {0}
ReadsOn kind pairs key (b ∷ rest) = Reads kind pairs key (b ∷ rest)

-- all keys of the bytes continue with a run, which went to the end of the key
abbrev pub HasRun : Kind → List ℕ → List ℕ → List ℕ → List ℕ → Type 0
HasRun kind bytes key after key' = (run : List ℕ) × IsRun kind bytes run after × (key' ≡ key ++ run) × (length after < length bytes)

-- only where no bytes are left may a branch be open after the whole key
abbrev pub limit_at : List ℕ → List ℕ → ℕ
limit_at key [] = suc (length key)
limit_at key (b ∷ rest) = length key

-- Where a walk is in what lists these pairs.
pub record Walks (kind : Kind) (pairs : Pairs) (key rest : List ℕ) (forks : List Fork) : Type 0 where
  pub reads : ReadsOn kind pairs key rest
  pub opens : AreOpen kind pairs key (limit_at key rest) forks

-- of the keys of some pairs, two tests choose the same
abbrev pub SameKeys : Pairs → (List ℕ → Bool) → (List ℕ → Bool) → Type 0
SameKeys pairs p r = (q : List ℕ) (v : ℕ) → value_at simple_ascii pairs q ≡ Some v → p q ≡ r q

-- The key is the first of those that a test chooses, and another test chooses the others.
pub record IsNext (pairs : Pairs) (p r : List ℕ → Bool) (key : List ℕ) (v : ℕ) : Type 0 where
  pub value : value_at simple_ascii pairs key ≡ Some v
  pub here : p key ≡ true
  pub others : (q : List ℕ) (w : ℕ) → value_at simple_ascii pairs q ≡ Some w → (key ≡ q → ⊥) → p q ≡ r q
  pub above : (q : List ℕ) → r q ≡ true → is_lt (slice_cmp nat_cmp key q) ≡ true

-- One move over bytes that list these pairs: to a pair, the first of those to come; or to more bytes of
-- the key, or to the targets of a branch, before the same pairs; or none was to come.
abbrev pub WalksOn : Kind → Pairs → (List ℕ → Bool) → Reached → List ℕ → ℕ → List ℕ → List Fork → Type 0
WalksOn kind pairs before Pair key v rest forks = Walks kind pairs key rest forks × IsNext pairs before (is_to_come kind key rest forks) key v
WalksOn kind pairs before (Bytes kept) key v rest forks = Walks kind pairs key rest forks × SameKeys pairs before (is_to_come kind key rest forks)
WalksOn kind pairs before Branch key v rest forks = Walks kind pairs key rest forks × SameKeys pairs before (is_to_come kind key rest forks)
WalksOn kind pairs before End key v rest forks = SameKeys pairs before (λ q. false)

-- the pairs whose keys are chosen by a test and within an upper bound, in ascending order
abbrev pub pairs_where : Pairs → Bound (List ℕ) → (List ℕ → Bool) → Pairs
pairs_where pairs to p = filter (λ e. p e.0 && is_up_to_end by_bytes to e.0) (entries (map_of pairs))

-- The next pair was found; or none was to come.
abbrev pub FindsNext : Kind → Pairs → (List ℕ → Bool) → List ℕ → List ℕ → List Fork → Option ℕ → Type 0
FindsNext kind pairs before key rest forks None = SameKeys pairs before (λ q. false)
FindsNext kind pairs before key rest forks (Some v) = Walks kind pairs key rest forks × IsNext pairs before (is_to_come kind key rest forks) key v

-- The next pair was found within an upper bound; or the next one is past it, or none was to come.
abbrev pub FindsWithin : Kind → Pairs → Bound (List ℕ) → (List ℕ → Bool) → List ℕ → ℕ → List ℕ → List Fork → Bool → Type 0
FindsWithin kind pairs to before key v rest forks true =
    Walks kind pairs key rest forks × IsNext pairs before (is_to_come kind key rest forks) key v × (is_up_to_end by_bytes to key ≡ true)
FindsWithin kind pairs to before key v rest forks false = pairs_where pairs to before ≡ []

-- The same on any bytes: the key keeps some bytes, the value stays before a pair, and fewer bytes are
-- left to read.
abbrev pub StepsOn : Reached → List ℕ → List ℕ → ℕ → ℕ → ℕ → ℕ → Type 0
StepsOn Pair key key' v v' work work' = (key' ≡ key) × (work' < work)
StepsOn (Bytes kept) key key' v v' work work' = (take kept key' ≡ take kept key) × (v' ≡ v) × (work' < work)
StepsOn Branch key key' v v' work work' = (key' ≡ key) × (v' ≡ v) × (work' < work)
StepsOn End key key' v v' work work' = Unit {0}

-- the open branches with one more, if any of its edges is left
abbrev pub Keeps : Fork → List Fork → List Fork → Type 0
Keeps f before after = ((after ≡ f ∷ before) × (IsOver f → ⊥)) ⊎ ((after ≡ before) × IsOver f)

-- the innermost branch is dropped if it has no edge left
abbrev pub DropsOver : List Fork → List Fork → Type 0
DropsOver [] after = after ≡ []
DropsOver (f ∷ outer) after = Keeps f outer after

-- The least edge that is left of a branch was entered. The branch is open if it has more.
pub record EntersEdge (kind : Kind) (pairs : Pairs) (fork : Fork) (key : List ℕ) (forks : List Fork) (key' : List ℕ) (forks' : List Fork) (target : Bor (List ℕ)) : Type 0 where
  pub edge : ℕ
  pub after : Fork
  pub takes : TakesLeast kind pairs fork after (Some (edge, target))
  pub depth : after.depth ≡ fork.depth
  pub key_is : key' ≡ key ++ edge ∷ []
  pub keeps : Keeps after forks forks'

-- that, or no edge is left
abbrev pub Enters : Kind → Pairs → Fork → List ℕ → List Fork → List ℕ → List Fork → Option (Bor (List ℕ)) → Type 0
Enters kind pairs fork key forks key' forks' None = IsOver fork
Enters kind pairs fork key forks key' forks' (Some target) = EntersEdge kind pairs fork key forks key' forks' target

-- all bytes of a key but the last are those of another
abbrev pub KeepsFront : List ℕ → List ℕ → Type 0
KeepsFront key key' = take (length key' - 1) key' ≡ take (length key' - 1) key

-- The next target was entered, before the same keys; or no branch is open.
abbrev pub Climbs : Kind → Pairs → List ℕ → List Fork → List ℕ → List Fork → Option (Bor (List ℕ)) → Type 0
Climbs kind pairs key forks key' forks' None = forks ≡ []
Climbs kind pairs key forks key' forks' (Some target) = Walks kind pairs key' target.now forks' × SameKeys pairs (is_in_forks key forks) (is_to_come kind key' target.now forks')

-- The innermost branch has the edges of a set alone, or is gone as none of its edges is in the set; or
-- nothing changed.
pub record NarrowsTo (wanted : ByteSet) (f f' : Fork) : Type 0 where
  pub depth : f'.depth ≡ f.depth
  pub branch : f'.branch ≡ f.branch
  pub room : f'.room ≡ f.room
  pub left : (c : ℕ) → is_in f'.left c ≡ (is_in f.left c && is_in wanted c)

abbrev pub Narrows : ℕ → ByteSet → List Fork → List Fork → Type 0
Narrows depth wanted [] after = after ≡ []
Narrows depth wanted (f ∷ forks) after = (after ≡ f ∷ forks) ⊎ ((f.depth ≡ depth) × ((f' : Fork) × NarrowsTo wanted f f' × Keeps f' forks after))

-- they are no more than may be listed
abbrev pub AreFew : Pairs → Bound (List ℕ) → (List ℕ → Bool) → ℕ → Type 0
AreFew pairs to p most = length (pairs_where pairs to p) ≤ most

-- what is left of a listing, which may have ended
abbrev pub left_where : Bool → Kind → List ℕ → Bound (List ℕ) → (List ℕ → Bool) → Left
left_where true kind bytes to p = over
left_where false kind bytes to p = to_come (pairs_where (listed kind bytes) to p)

-- where a listing begins that came to some bytes; or nothing is to come
abbrev pub IsStart : Option (Bor (List ℕ)) → List ℕ → List Fork → List Fork → Type 0
IsStart None rest forks forks' = (rest ≡ []) × (forks' ≡ [])
IsStart (Some found) rest forks forks' = (rest ≡ found.now) × (forks' ≡ forks)
