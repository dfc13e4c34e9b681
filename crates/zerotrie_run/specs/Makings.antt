-- What a file is made of, why none is, and what is told of it: words of private functions.
use Rattle.std.specs.Prelude.{◌≡◌, ◌⊎◌, ℕ, List, [], ◌∷◌, Option, Some, None, Result, Ok, Err, Bool, true, false, is_none}
use Rattle.std.specs.Borrow.{Bor}
use Rattle.std.specs.List.{slice_get}
use Rattle.std.specs.declared.io.Error.{Error}
use Rattle.zerotrie_files.specs.Disks.{Story}
use Rattle.zerotrie_queries.specs.declared.file.OpenError.{OpenError}
use Rattle.zerotrie_making.specs.Combinations.{ExplainsMaps}
use Rattle.zerotrie_making.specs.Made.{IsMade}
use Rattle.zerotrie_making.specs.Made as made
use Rattle.zerotrie_making.specs.declared.error.CombinationError.{CombinationError}
use Rattle.zerotrie_making.specs.declared.error.CombinationError.TheVariants as combination
use Rattle.zerotrie_making.specs.declared.error.MakeError.TheVariants.{OutOfMemory}
use Rattle.zerotrie_making.specs.declared.plan.Combination.{Combination}
use Rattle.zerotrie_making.specs.declared.plan.Made.{Made}
use Rattle.zerotrie_run.specs.Combined.{AreRead, IsMadeSo, OfHeld, file_of, unmade_refusal, unopened_refusal}
use Rattle.zerotrie_run.specs.Fronts.{IsHint}
use Rattle.zerotrie_run.specs.Runs.{World, IsFreshAt, IsKept, IsRead, IsRefusedUnread, IsThere, IsUnopened, IsUnopenedBy, IsWritten, Untouched}
use Rattle.zerotrie_run.specs.declared.command.Build.{Build}
use Rattle.zerotrie_run.specs.declared.command.Check.TheVariants.{Full}
use Rattle.zerotrie_run.specs.declared.command.Combine.{Combine}
use Rattle.zerotrie_run.specs.declared.command.Place.{Place}
use Rattle.zerotrie_run.specs.declared.front.Hint.{Hint}
use Rattle.zerotrie_run.specs.declared.making.Making.{Making}
use Rattle.zerotrie_run.specs.declared.making.MakingError.{MakingError}
use Rattle.zerotrie_run.specs.declared.making.MakingError.TheVariants.{Taken, Unfound, Unread, NoTrie, NotMade, Unwritten}
use Rattle.zerotrie_run.specs.declared.making.Recipe.{Recipe}
use Rattle.zerotrie_run.specs.declared.making.Recipe.TheVariants.{Pairs, Tries}
use Rattle.zerotrie_run.specs.declared.status.Status.{Status}
use Rattle.zerotrie_run.specs.declared.status.Status.TheVariants as status

-- the file that a command makes
abbrev pub of_build : Bor (List Place) → Build → Making
of_build from b = record { from = from; recipe = Pairs b.plan; to = b.to; no_clobber = b.no_clobber; summary = b.summary }

abbrev pub of_combine : Combine → Making
of_combine c = record { from = c.from; recipe = Tries c.combination; to = c.to; no_clobber = c.no_clobber; summary = c.summary }

-- a fact holds of the file that a build makes
abbrev pub OfBuild : Build → (Making → Type 0) → Type 0
OfBuild b Fact = (from : Bor (List Place)) × (from.now ≡ b.from ∷ []) × Fact (of_build from b)

-- pairs are of one input
abbrev pub TakesSoMany : Recipe → ℕ → Type 0
TakesSoMany (Pairs plan) count = count ≡ 1
TakesSoMany (Tries c) count = Unit {0}

-- this file is made of what was read, and it is known whether no kind is named for it and tries have several
abbrev pub IsMadeBy : Recipe → List (List ℕ) → Made → Bool → Type 0
IsMadeBy (Pairs plan) held file several = ((all : List ℕ) × (held ≡ all ∷ []) × IsMade plan all file) × (several ≡ false)
IsMadeBy (Tries c) held file several = OfHeld held (λ maps. IsMadeSo c maps file several)

-- why none is
abbrev pub ExplainsHeld : Recipe → List (List ℕ) → CombinationError → Type 0
ExplainsHeld (Pairs plan) held (combination.NoValue why key) = ⊥
ExplainsHeld (Pairs plan) held (combination.NotMade e) = (all : List ℕ) × (held ≡ all ∷ []) × made.Explains plan all e
ExplainsHeld (Tries c) held e = OfHeld held (λ maps. ExplainsMaps c maps e)

-- the fact holds of what was read of the places
abbrev pub OfRead : Making → Option (List ℕ) → Option Story → (List (List ℕ) → Type 0) → Type 0
OfRead m input files Fact = (held : List (List ℕ)) × AreRead m.from.now input files held × Fact held

-- The file was made, and written.
pub record IsMaking (m : Making) (input : Option (List ℕ)) (before after : World) : Type 0 where
  pub file : Made
  pub several : Bool
  pub of : OfRead m input before.files (λ held. IsMadeBy m.recipe held file several)
  pub fresh : IsFreshAt m.to m.no_clobber before.files
  pub written : IsWritten m.to file.file.items before after

-- It was made, and could not be written, or not to the end.
pub record IsUnwrittenMaking (m : Making) (input : Option (List ℕ)) (before after : World) : Type 0 where
  pub why : Error
  pub file : Made
  pub several : Bool
  pub of : OfRead m input before.files (λ held. IsMadeBy m.recipe held file several)
  pub kept : IsKept m.to file.file.items before after

-- an allocation failed
abbrev pub IsNoMemory : CombinationError → Type 0
IsNoMemory e = e ≡ combination.NotMade OutOfMemory

-- the place with this number, from 0 on
abbrev pub IsNumbered : List Place → ℕ → Place → Type 0
IsNumbered places number place = slice_get places number ≡ Some place

-- one of the files of a combination has no trie, for this reason
abbrev pub HasNoTrieOf : Recipe → List Place → Option (List ℕ) → Option Story → Place → (OpenError × Hint) → Type 0
HasNoTrieOf (Pairs plan) places input files place shown = ⊥
HasNoTrieOf (Tries c) places input files place shown = (number : ℕ) × IsNumbered places number place
    × (held : List ℕ) × IsRead place input files held × IsUnopened (file_of place) held shown.0 × IsHint held shown.1

-- why nothing is to be written is so of the files and of what was read
abbrev pub IsUnmade : Making → Option (List ℕ) → Option Story → MakingError → Type 0
IsUnmade m input files Taken = (m.no_clobber ≡ true) × IsThere m.to files
IsUnmade m input files (Unfound e) = Unit {0}
IsUnmade m input files (Unread place e) = (number : ℕ) × IsNumbered m.from.now number place
IsUnmade m input files (NoTrie place why hint) = HasNoTrieOf m.recipe m.from.now input files place (why, hint)
IsUnmade m input files (NotMade e) = IsNoMemory e ⊎ OfRead m input files (λ held. ExplainsHeld m.recipe held e)
IsUnmade m input files (Unwritten e) = ⊥

-- the same, or the file can't be written
abbrev pub HasMakingCause : Making → Option (List ℕ) → Option Story → MakingError → Type 0
HasMakingCause m input files e = IsUnmade m input files e ⊎ ((why : Error) × (e ≡ Unwritten why))

-- how it ends if no file is made, or it can't be written
abbrev pub EndsMaking : Making → Option (List ℕ) → World → World → MakingError → Type 0
EndsMaking m input before after e = (IsUnmade m input before.files e × Untouched before after)
    ⊎ ((made : IsUnwrittenMaking m input before after) × (e ≡ Unwritten made.why))

-- why a place is not read: it can't be, or it is for a combination and its first bytes show that all of it has no trie
abbrev pub IsUnreadAt : Recipe → Place → Option Story → MakingError → Type 0
IsUnreadAt recipe place files Taken = ⊥
IsUnreadAt recipe place files (Unfound e) = ⊥
IsUnreadAt recipe place files (Unread other e) = other ≡ place
IsUnreadAt recipe place files (NoTrie other why hint) = (other ≡ place) × ((c : Combination) × (recipe ≡ Tries c)) × IsRefusedUnread (file_of place) false files why hint
IsUnreadAt recipe place files (NotMade e) = ⊥
IsUnreadAt recipe place files (Unwritten e) = ⊥

-- a file holds these bytes, which are no trie
abbrev pub IsUnopenedAt : Place → List ℕ → MakingError → Type 0
IsUnopenedAt place held Taken = ⊥
IsUnopenedAt place held (Unfound e) = ⊥
IsUnopenedAt place held (Unread other e) = ⊥
IsUnopenedAt place held (NoTrie other why hint) = (other ≡ place) × IsUnopenedBy Full None held why × IsHint held hint
IsUnopenedAt place held (NotMade e) = ⊥
IsUnopenedAt place held (Unwritten e) = ⊥

-- one of the files has no trie, for this reason
abbrev pub HasNoTrieAmong : List Place → List (List ℕ) → Place → OpenError → Hint → Type 0
HasNoTrieAmong places held place why hint = (number : ℕ) × IsNumbered places number place
    × (bytes : List ℕ) × (slice_get held number ≡ Some bytes) × IsUnopenedBy Full None bytes why × IsHint bytes hint

-- why what the files hold is not opened: one of them has no trie, or an allocation failed
abbrev pub AreUnopened : List Place → List (List ℕ) → MakingError → Type 0
AreUnopened places held Taken = ⊥
AreUnopened places held (Unfound e) = ⊥
AreUnopened places held (Unread place e) = ⊥
AreUnopened places held (NoTrie place why hint) = HasNoTrieAmong places held place why hint
AreUnopened places held (NotMade e) = IsNoMemory e
AreUnopened places held (Unwritten e) = ⊥

-- why nothing is made of what they hold: the same, or no file is made of their maps
abbrev pub IsUncombined : Combination → List Place → List (List ℕ) → MakingError → Type 0
IsUncombined c places held e = AreUnopened places held e ⊎ ((why : CombinationError) × (e ≡ NotMade why) × OfHeld held (λ maps. ExplainsMaps c maps why))

-- how a run ends if it is refused; none if something failed
abbrev pub making_refusal : MakingError → Option Status
making_refusal Taken = Some status.Taken
making_refusal (Unfound e) = None
making_refusal (Unread place e) = None
making_refusal (NoTrie place why hint) = unopened_refusal why
making_refusal (NotMade e) = unmade_refusal e
making_refusal (Unwritten e) = None

-- whether something failed: a file was neither made nor refused
abbrev pub making_fails : {A : Type 0} → Result A MakingError → Bool
making_fails (Ok file) = false
making_fails (Err e) = is_none (making_refusal e)
