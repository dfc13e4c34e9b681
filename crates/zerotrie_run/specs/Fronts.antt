-- What the first bytes of a file show: that it has no trie, and what it looks like.
use Rattle.std.specs.Prelude.{◌≡◌, ℕ, ◌-◌, nat_lt, List, take, length, Option, Some, None, Bool, true, false, ◌||◌, if◌then◌else◌}
use Rattle.zerotrie_core.specs.declared.TrieKind.{TrieKind}
use Rattle.zerotrie_sealed.specs.Sealed.{IsIndexNumber, IsSealedIndex}
use Rattle.zerotrie_sealed.specs.declared.reading.SealError.TheVariants.{NoMagic, UnknownVersion, UnknownKind, CutShort, TooLong, Checksum}
use Rattle.zerotrie_making.specs.Others.{IsOther}
use Rattle.zerotrie_queries.specs.Files.{IsUnknown}
use Rattle.zerotrie_queries.specs.Texts.{looks_like_text}
use Rattle.zerotrie_queries.specs.declared.file.OpenError.{OpenError}
use Rattle.zerotrie_queries.specs.declared.file.OpenError.TheVariants.{BadTag, Damaged, NotWellFormed, OutOfMemory}
use Rattle.zerotrie_run.specs.declared.front.Hint.{Hint}
use Rattle.zerotrie_run.specs.declared.front.Hint.TheVariants.{Text, Other, Nothing}

-- how many bytes of a file show what it looks like
abbrev pub front_len : ℕ
front_len = 65536

-- the first bytes look like text, of which up to three may be a part of a character
abbrev pub is_cut_text : ℕ → List ℕ → Bool
is_cut_text len held =
    looks_like_text (take len held) || (looks_like_text (take (len - 1) held) || (looks_like_text (take (len - 2) held) || looks_like_text (take (len - 3) held)))

-- a file begins as text: all of it looks like text; or of a longer one the front does, whose last character may be cut off
abbrev pub begins_as_text : List ℕ → Bool
begins_as_text held = if nat_lt front_len (length held) then is_cut_text front_len held else looks_like_text held

-- what a file that has no trie looks like: another file that is known by its front, text, or neither
abbrev pub IsHint : List ℕ → Hint → Type 0
IsHint held Text = IsOther (take front_len held) None × (begins_as_text held ≡ true)
IsHint held (Other other) = IsOther (take front_len held) (Some other)
IsHint held Nothing = IsOther (take front_len held) None × (begins_as_text held ≡ false)

-- a front that shows this reason shows it whatever follows: it is no beginning of a sealed file or has an unknown version; or an unknown
-- number, which may be that of an index only if none is taken
abbrev pub IsSettled : Bool → OpenError → Type 0
IsSettled takes_index (BadTag why) = Unit {0}
IsSettled takes_index (Damaged NoMagic) = ⊥
IsSettled takes_index (Damaged (UnknownVersion number)) = Unit {0}
IsSettled takes_index (Damaged (UnknownKind number)) = takes_index ≡ true → IsIndexNumber number → ⊥
IsSettled takes_index (Damaged CutShort) = ⊥
IsSettled takes_index (Damaged TooLong) = ⊥
IsSettled takes_index (Damaged Checksum) = ⊥
IsSettled takes_index (NotWellFormed kind fault) = ⊥
IsSettled takes_index OutOfMemory = ⊥

-- why a file has no trie; nor has it an index, if one is taken
abbrev pub HasNothing : Option TrieKind → Bool → List ℕ → OpenError → Type 0
HasNothing named takes_index held why = IsUnknown named held why × (takes_index ≡ true → (index : List ℕ) → IsSealedIndex index held → ⊥)
