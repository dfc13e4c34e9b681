-- The pairs that a listing has.
use Rattle.std.specs.Prelude.{◌≡◌, ◌⊎◌, ℕ, ◌-◌, ◌==◌, List, take, Bool, true, false, Option, Some, None, Result, Ok, Err}
use Rattle.std.specs.Io.KnownBytes.{Appends}
use Rattle.zerotrie_core.specs.Listings.{Left, over, to_come}
use Rattle.zerotrie_core.specs.Maps.{Pairs}
use Rattle.zerotrie_core.specs.Texts.{Lists}
use Rattle.zerotrie_core.specs.Kinds.{kind_of}
use Rattle.zerotrie_core.specs.declared.TrieKind.{TrieKind}
use Rattle.zerotrie_files.specs.Parts.{AppendsPart}
use Rattle.zerotrie_files.specs.Faults.{IsOutOfMemory}
use Rattle.zerotrie_index.specs.Tries.{folded_key}
use Rattle.zerotrie_queries.specs.Chosen.{told_by, told_edits}
use Rattle.zerotrie_queries.specs.Printed.{IsFirstUnprintable, are_printable, can_print, listed}
use Rattle.zerotrie_queries.specs.Ranked.{topped}
use Rattle.zerotrie_queries.specs.Sorted.{picked}
use Rattle.zerotrie_queries.specs.declared.print.Form.{Form}
use Rattle.zerotrie_queries.specs.declared.question.ListQuery.{ListQuery}
use Rattle.zerotrie_queries.specs.declared.listing.distances.Distances.{Distances}
use Rattle.zerotrie_queries.specs.declared.listing.ListError.{ListError}
use Rattle.zerotrie_queries.specs.declared.listing.ListError.TheVariants.{Unprintable, Failed}

-- the first pairs, at most this many, or all
abbrev pub limited : Option ℕ → Pairs → Pairs
limited None pairs = pairs
limited (Some most) pairs = take most pairs

-- no pair may come any more
abbrev pub is_spent : Option ℕ → Bool
is_spent None = false
is_spent (Some most) = most == 0

-- what is left of a limit after one pair
abbrev pub one_less : Option ℕ → Option ℕ
one_less None = None
one_less (Some most) = Some (most - 1)

-- what is left of a listing, of whose pairs at most this many are to come, or of one that has ended
abbrev pub first_left : (ended : Bool) → Option ℕ → Left → Left
first_left true limit left = over
first_left false limit left = record { pairs = limited limit left.pairs; ended = left.ended }

-- a listing gives what is picked of the pairs that the bytes list
abbrev pub Gives : {P : Type 0} → (IsValid : P → Type 0) → (left : P → Left) → (pick : Pairs → Pairs) → TrieKind → (bytes : List ℕ) → P → Type 0
Gives IsValid left pick kind bytes p = (pairs : Pairs) → Lists (kind_of kind) bytes pairs → IsValid p × (left p ≡ to_come (pick pairs))

-- the pairs of a selection: the first that are picked, or of those that have the greatest values
abbrev pub first_picked : ListQuery → TrieKind → Pairs → Pairs
first_picked s kind pairs = limited s.limit (topped s.top (picked s.order kind s.choice pairs))

-- pairs can be printed so
abbrev pub IsPrintable : Form → Pairs → Type 0
IsPrintable form pairs = are_printable form pairs ≡ true

-- the pairs of a selection as they are printed
abbrev pub printed : Form → ListQuery → TrieKind → Pairs → List ℕ
printed form s kind pairs = listed form (told_edits kind s.choice) (first_picked s kind pairs)

-- the pairs of a selection were printed, if the bytes list pairs
abbrev pub AreListed : Form → ListQuery → TrieKind → (bytes : List ℕ) → (old new : Option (List ℕ)) → Type 0
AreListed form s kind bytes old new = (pairs : Pairs) → Lists (kind_of kind) bytes pairs → IsPrintable form (first_picked s kind pairs) × Appends old new (printed form s kind pairs)

-- a beginning of what is printed of them was printed, if the bytes list pairs
abbrev pub AreListedInPart : Form → ListQuery → TrieKind → (bytes : List ℕ) → (old new : Option (List ℕ)) → Type 0
AreListedInPart form s kind bytes old new = (pairs : Pairs) → Lists (kind_of kind) bytes pairs → AppendsPart old new (printed form s kind pairs)

-- they can't be printed so, if the bytes list pairs: this is the first of their keys that can't
abbrev pub AreUnprintable : Form → ListQuery → TrieKind → (bytes : List ℕ) → (key : List ℕ) → Type 0
AreUnprintable form s kind bytes key = (can_print form key ≡ false) × ((pairs : Pairs) → Lists (kind_of kind) bytes pairs → IsFirstUnprintable form (first_picked s kind pairs) key)

-- why they were not printed
abbrev pub AreUnlisted : Form → ListQuery → TrieKind → (bytes : List ℕ) → (old new : Option (List ℕ)) → ListError → Type 0
AreUnlisted form s kind bytes old new (Unprintable key) = AreUnprintable form s kind bytes key.items × (new ≡ old)
AreUnlisted form s kind bytes old new (Failed e) = AreListedInPart form s kind bytes old new

-- what a listing notes of whether a write failed
abbrev pub IsListingNoted : {T : Type 0} → Result T ListError → Bool → Bool → Type 0
IsListingNoted (Ok value) old new = new ≡ old
IsListingNoted (Err (Unprintable key)) old new = new ≡ old
IsListingNoted (Err (Failed e)) old new = IsOutOfMemory e ⊎ (new ≡ true)

-- how many edits a line of distances says that make a key of its word
abbrev pub edits_said : Distances → List ℕ → ℕ
edits_said line key = told_by line.begins line.word (folded_key (kind_of line.kind) key)
