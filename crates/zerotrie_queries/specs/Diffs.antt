-- What is printed of the changes from one trie to another.
use Rattle.std.specs.Prelude.{◌≡◌, ◌↔◌, ℕ, List, [], ◌∷◌, ◌++◌, Bool, true, codes, decimal, Option}
use Rattle.std.specs.FinMap.{entries}
use Rattle.std.specs.Io.KnownBytes.{Appends}
use Rattle.zerotrie_core.specs.Kinds.{kind_of}
use Rattle.zerotrie_core.specs.Maps.{Map, Pairs}
use Rattle.zerotrie_core.specs.Texts.{Means}
use Rattle.zerotrie_core.specs.declared.TrieKind.{TrieKind}
use Rattle.zerotrie_files.specs.Parts.{AppendsPart}
use Rattle.zerotrie_lines.specs.Escapes.{escaped}
use Rattle.zerotrie_lines.specs.Lines.{tsv_line}
use Rattle.zerotrie_sets.specs.Changes.{IsDiff}
use Rattle.zerotrie_sets.specs.Merges.{Entries}
use Rattle.zerotrie_sets.specs.declared.diff.Change.{Change}
use Rattle.zerotrie_queries.specs.Recased.{second_pairs}
use Rattle.zerotrie_sets.specs.declared.diff.Change.TheVariants.{Added, Removed, Changed}

-- the line of a key that changed: a sign, the key, and its value, or its values before and after
abbrev pub change_line : List ℕ → Change → List ℕ
change_line key (Added new) = codes "+\t" ++ tsv_line (key, new)
change_line key (Removed old) = codes "-\t" ++ tsv_line (key, old)
change_line key (Changed old new) = codes "~\t" ++ (escaped key ++ (9 ∷ (decimal old ++ (9 ∷ (decimal new ++ (10 ∷ []))))))

abbrev pub change_lines : Entries Change → List ℕ
change_lines [] = []
change_lines (c ∷ changes) = change_line c.0 c.1 ++ change_lines changes

-- What was printed are the lines of exactly the keys that changed from some pairs to others, and how they did. Whether there are none.
pub record AreTold (first second : Pairs) (old new : Option (List ℕ)) (same : Bool) : Type 0 where
  pub changes : Entries Change
  pub is : IsDiff first second changes
  pub printed : Appends old new (change_lines changes)
  pub equal : same ≡ true ↔ first ≡ second

-- A beginning of these lines was printed.
pub record AreToldInPart (first second : Pairs) (old new : Option (List ℕ)) : Type 0 where
  pub changes : Entries Change
  pub is : IsDiff first second changes
  pub printed : AppendsPart old new (change_lines changes)

-- bytes of two kinds were compared, as both kinds have keys
abbrev pub AreCompared : TrieKind → List ℕ → TrieKind → List ℕ → (old new : Option (List ℕ)) → Bool → Type 0
AreCompared kind bytes other others old new same = (m n : Map) → Means (kind_of kind) bytes m → Means (kind_of other) others n → AreTold (entries m) (second_pairs (kind_of kind) (kind_of other) m n) old new same

abbrev pub AreComparedInPart : TrieKind → List ℕ → TrieKind → List ℕ → (old new : Option (List ℕ)) → Type 0
AreComparedInPart kind bytes other others old new = (m n : Map) → Means (kind_of kind) bytes m → Means (kind_of other) others n → AreToldInPart (entries m) (second_pairs (kind_of kind) (kind_of other) m n) old new
