-- What is built of a trie while its items are gone through from the last to the first.
use Rattle.std.specs.Prelude.{◌≡◌, ◌≢◌, ℕ, ◌+◌, ◌^◌, ◌<◌, ◌≤◌, ◌⊎◌, List, [], ◌∷◌, ◌++◌, length, take, drop, slice_index, slice_index_or, true}
use Rattle.std.proofs.Common.{suc, zero}
use Rattle.zerotrie_base.specs.Kind.{Kind, fold_byte}
use Rattle.zerotrie_base.specs.Maps.{Pairs, AscendsIn, IsCaseConsistent, map_of, with_run, begins_some, behind_all}
use Rattle.zerotrie_base.specs.Branches.{total, branch_front}
use Rattle.zerotrie_base.specs.Texts.{Lists, NoValueFirst}
use Rattle.zerotrie_base.specs.Fits.{OverflowsAt, ExceedsCapacity}
use Rattle.zerotrie_base.specs.Stack.{stack_of}
use Rattle.zerotrie_base.specs.declared.error.ZeroTrieBuildError.{ZeroTrieBuildError}
use Rattle.zerotrie_base.specs.declared.error.ZeroTrieBuildError.TheVariants.{CapacityExceeded, MixedCase, StackExceeded, Unsorted}
use Rattle.zerotrie_build.specs.declared.array.text.Sibling.{Sibling}
use Rattle.zerotrie_build.specs.declared.array.text.Text.{Text}
use Rattle.zerotrie_build.specs.array.Texts.{Counts, EndsIn, Has, newest_first, bytes_of, lens_of}

-- the first sibling, if there is one, lies at a lower depth
abbrev pub DepthsBelow : ℕ → List Sibling → Type 0
DepthsBelow depth [] = Unit {0}
DepthsBelow depth (s ∷ siblings) = s.depth < depth

-- the first sibling, if there is one, lies at another depth
abbrev pub NoneAt : ℕ → List Sibling → Type 0
NoneAt depth [] = Unit {0}
NoneAt depth (s ∷ siblings) = s.depth ≢ depth

-- all of them lie at this depth
abbrev pub AllAt : ℕ → List Sibling → Type 0
AllAt depth [] = Unit {0}
AllAt depth (s ∷ siblings) = (s.depth ≡ depth) × AllAt depth siblings

-- the sibling is deeper than the next, or has at one depth with it a byte that is lower to the kind
abbrev pub ComesBefore : Kind → Sibling → List Sibling → Type 0
ComesBefore kind s [] = Unit {0}
ComesBefore kind s (t ∷ siblings) = (t.depth < s.depth) ⊎ ((t.depth ≡ s.depth) × (fold_byte kind s.byte < fold_byte kind t.byte))

-- The bytes begin with the text of a sibling, which is above the key, and the pairs with those that the text lists.
-- While it was written this many siblings waited, and so the stack of k was enough.
pub record BeginsWithSibling (kind : Kind) (k : ℕ) (key : List ℕ) (s : Sibling) (waited : ℕ) (Rest : List ℕ → Pairs → Type 0) (bytes : List ℕ) (pairs : Pairs) : Type 0 where
  pub text : List ℕ
  pub rest : List ℕ
  pub inner : Pairs
  pub others : Pairs
  pub within : s.depth < length key
  pub above : fold_byte kind (slice_index key s.depth) < fold_byte kind s.byte
  pub low : s.byte < 128
  pub some : text ≢ []
  pub lists : Lists kind text inner
  pub counts : Counts s.len (length text)
  pub enough : waited + stack_of kind inner ≤ k
  pub behind : Rest rest others
  pub bytes_are : bytes ≡ text ++ rest
  pub pairs_are : pairs ≡ with_run (take s.depth key ++ s.byte ∷ []) inner ++ others

-- the bytes are the texts of the siblings, one after another, and list these pairs
abbrev pub Aside : Kind → ℕ → List ℕ → List Sibling → List ℕ → Pairs → Type 0
Aside kind k key [] bytes pairs = (bytes ≡ []) × (pairs ≡ [])
Aside kind k key (s ∷ siblings) bytes pairs = ComesBefore kind s siblings × BeginsWithSibling kind k key s (length siblings) (Aside kind k key siblings) bytes pairs

-- First comes the text of what is under this many first bytes of the key, and after it the siblings.
pub record TextAndSiblings (kind : Kind) (k : ℕ) (Front : List ℕ → Type 0) (key : List ℕ) (depth : ℕ) (siblings : List Sibling) (front : ℕ) (bytes : List ℕ) (pairs : Pairs) : Type 0 where
  pub text : List ℕ
  pub rest : List ℕ
  pub inner : Pairs
  pub others : Pairs
  pub is_front : Front text
  pub lists : Lists kind text inner
  pub counts : Counts front (length text)
  pub enough : length siblings + stack_of kind inner ≤ k
  pub aside : Aside kind k key siblings rest others
  pub below : DepthsBelow depth siblings
  pub bytes_are : bytes ≡ text ++ rest
  pub pairs_are : pairs ≡ with_run (take depth key) inner ++ others

-- ready for the item of the key
abbrev pub ReadyFor : Kind → ℕ → List ℕ → List Sibling → ℕ → List ℕ → Pairs → Type 0
ReadyFor kind k key siblings front bytes pairs = TextAndSiblings kind k NoValueFirst key (length key) siblings front bytes pairs

-- with a text in front, and once a level is closed without a value first
abbrev pub ClosedTo : Kind → ℕ → List ℕ → ℕ → List Sibling → ℕ → List ℕ → Pairs → Type 0
ClosedTo kind k key depth siblings front bytes pairs =
    TextAndSiblings kind k (λ text. (text ≢ []) × (depth < length key → NoValueFirst text)) key depth siblings front bytes pairs

-- the text and the siblings, the last that was saved last, are in this order
abbrev pub IsClosedTo : Kind → ℕ → List ℕ → ℕ → Text → List Sibling → Pairs → Type 0
IsClosedTo kind k key depth text siblings listed = (bytes : List ℕ) × Has text bytes × ClosedTo kind k key depth (newest_first siblings) text.front bytes listed

-- they wait so
abbrev pub IsReady : Kind → ℕ → List ℕ → Text → List Sibling → Pairs → Type 0
IsReady kind k key text siblings listed = (bytes : List ℕ) × Has text bytes × ReadyFor kind k key (newest_first siblings) text.front bytes listed

-- the items from this one on are built
abbrev pub BuiltFrom : Kind → ℕ → ℕ → Pairs → Text → List Sibling → Type 0
BuiltFrom kind k zero all text siblings = (bytes : List ℕ) × Has text bytes × Lists kind bytes all × (stack_of kind all ≤ k)
BuiltFrom kind k (suc i) all text siblings = IsReady kind k (slice_index_or all i ([], 0)).0 text siblings (drop (suc i) all)

-- The siblings at one depth were taken off the others, and made a branch in front of the text.
pub record Joins (depth : ℕ) (old new : Text) (before after : List Sibling) : Type 0 where
  pub taken : List Sibling
  pub split : before ≡ taken ++ after
  pub level : AllAt depth taken
  pub no_more : NoneAt depth after
  pub narrow : total (lens_of taken) < 2 ^ 32
  pub has : (behind : List ℕ) → Has old behind → Has new (branch_front (bytes_of taken) (lens_of taken) ++ behind)
  pub counts : Counts new.front (length (branch_front (bytes_of taken) (lens_of taken)) + total (lens_of taken))

-- the siblings at one depth have texts of 2 ^ 32 bytes or more together
pub record LevelTooWide (depth : ℕ) (before : List Sibling) : Type 0 where
  pub taken : List Sibling
  pub after : List Sibling
  pub split : before ≡ taken ++ after
  pub level : AllAt depth taken
  pub no_more : NoneAt depth after
  pub wide : 2 ^ 32 ≤ total (lens_of taken)

-- some key begins with the front and then b
abbrev pub SomeBegins : Pairs → List ℕ → ℕ → Type 0
SomeBegins pairs front b = begins_some (behind_all front pairs) b ≡ true

-- wherever a key of these leads, one of all of them does
abbrev pub AreAmong : Pairs → Pairs → Type 0
AreAmong pairs all = (front : List ℕ) (b : ℕ) → SomeBegins pairs front b → SomeBegins all front b

-- a stack of k is too small for any pairs that have these among them
abbrev pub NeedMore : Kind → ℕ → Pairs → Type 0
NeedMore kind k pairs = (all : Pairs) → AreAmong pairs all → k < stack_of kind all

-- the key is the front, or comes before it
abbrev pub AtMost : Kind → List ℕ → List ℕ → Type 0
AtMost kind [] key = key ≡ []
AtMost kind (f ∷ front) [] = Unit {0}
AtMost kind (f ∷ front) (c ∷ key) = (fold_byte kind c < fold_byte kind f) ⊎ ((c ≡ f) × AtMost kind front key)

-- why a level of the key is not closed
abbrev pub RefusedAt : Kind → ℕ → List ℕ → ℕ → Pairs → ZeroTrieBuildError → Type 0
RefusedAt kind k key depth listed e =
    ((e ≡ CapacityExceeded) × OverflowsAt kind (take depth key) listed) ⊎ ((e ≡ StackExceeded) × NeedMore kind k listed)

-- why a level of the key from this one on is not closed
abbrev pub RefusedFrom : Kind → ℕ → List ℕ → ℕ → Pairs → ZeroTrieBuildError → Type 0
RefusedFrom kind k key stop listed e = (depth : ℕ) × (stop ≤ depth) × (depth < length key) × RefusedAt kind k key depth listed e

-- why the key before is not reached
abbrev pub RefusedBefore : Kind → ℕ → List ℕ → Pairs → ZeroTrieBuildError → Type 0
RefusedBefore kind k before listed e =
    ((e ≡ CapacityExceeded) × ((front : List ℕ) × AtMost kind front before × OverflowsAt kind front listed))
    ⊎ ((e ≡ StackExceeded) × ((v : ℕ) → NeedMore kind k ((before, v) ∷ listed)))

-- why the pairs are not all added
abbrev pub IsRefusedBuild : Kind → ℕ → Pairs → ZeroTrieBuildError → Type 0
IsRefusedBuild kind k all e = ((e ≡ CapacityExceeded) × ExceedsCapacity kind (map_of all)) ⊎ ((e ≡ StackExceeded) × (k < stack_of kind all))

-- why pairs are not in the order of the kind
abbrev pub IsDisorder : Kind → Pairs → ZeroTrieBuildError → Type 0
IsDisorder kind pairs e = ((e ≡ Unsorted) × (AscendsIn kind pairs → ⊥)) ⊎ ((e ≡ MixedCase) × (IsCaseConsistent kind pairs → ⊥))

-- The text of the pairs, which ascend, was written at the end of the buffer, and this many bytes counted; a stack of k was enough.
pub record IsWritten (kind : Kind) (k : ℕ) (pairs : Pairs) (buffer : List ℕ) (len : ℕ) : Type 0 where
  pub bytes : List ℕ
  pub ascends : AscendsIn kind pairs
  pub lists : Lists kind bytes pairs
  pub ends : EndsIn buffer len bytes
  pub enough : stack_of kind pairs ≤ k
