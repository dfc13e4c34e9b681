-- The numbers of what a call comes to.
use Rattle.std.specs.Prelude.{◌≡◌, ℕ}
use Rattle.zerotrie_core.specs.declared.ZeroTrieBuildError.{ZeroTrieBuildError}
use Rattle.zerotrie_core.specs.declared.ZeroTrieBuildError.TheVariants.{NonAsciiError, CapacityExceeded, CouldNotSolvePerfectHash, MixedCase, IllegalDelimiter, DuplicateKey, Unsorted, BufferTooSmall, BufferTooLarge, StackExceeded, OutOfMemory}

-- it was done
abbrev pub done : ℕ
done = 0

-- a refusal, by its place among the cases of the error, from 1 on
abbrev pub status_of : ZeroTrieBuildError → ℕ
status_of NonAsciiError = 1
status_of CapacityExceeded = 2
status_of CouldNotSolvePerfectHash = 3
status_of MixedCase = 4
status_of IllegalDelimiter = 5
status_of DuplicateKey = 6
status_of Unsorted = 7
status_of BufferTooSmall = 8
status_of (BufferTooLarge needed) = 9
status_of StackExceeded = 10
status_of OutOfMemory = 11

-- the number given for a kind is that of none
abbrev pub unknown_kind : ℕ
unknown_kind = 12

-- tagged bytes are empty
abbrev pub no_tag : ℕ
no_tag = 13

-- the first of tagged bytes is no kind's number
abbrev pub invalid_tag : ℕ
invalid_tag = 14

-- a table has no value for two texts; or no key is the one that is asked for
abbrev pub no_entry : ℕ
no_entry = 15

-- bytes are fewer than the record of a table that they begin asks for; they are more
abbrev pub record_truncated : ℕ
record_truncated = 16

abbrev pub trailing_bytes : ℕ
trailing_bytes = 17

-- a file begins as a sealed one, and its parts do not agree; or it has another version of the format
abbrev pub damaged : ℕ
damaged = 18

abbrev pub unknown_version : ℕ
unknown_version = 19

-- no search, or no bound, has the number; a text is not one of the search; a text is over its limit
abbrev pub unknown_search : ℕ
unknown_search = 20

abbrev pub malformed_search : ℕ
malformed_search = 21

abbrev pub search_too_long : ℕ
search_too_long = 22

-- more edits are asked for than a search takes
abbrev pub too_many_edits : ℕ
too_many_edits = 27

-- too many keys of an index share a bucket
abbrev pub crowded : ℕ
crowded = 23

-- nothing is written: what a call is given stays
abbrev pub IsUnwritten : {A : Type 0} → A → A → Type 0
IsUnwritten before after = after ≡ before
