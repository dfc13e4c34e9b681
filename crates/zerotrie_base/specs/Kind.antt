-- The kinds of trie, and what differs between them.
use Rattle.std.specs.Prelude.{ℕ, Bool, true, false, ◌==◌, nat_lt, nat_le, if◌then◌else◌, List, [], ◌∷◌}
use Rattle.std.specs.Char.{to_ascii_lowercase}

pub data Kind : Type 0 where
  simple_ascii : Kind
  ignore_case : Kind
  perfect_hash : Kind
  extended_capacity : Kind

-- what the options of a kind switch on: hashed branches, spans, wide offsets, and ignoring case
pub record Flags : Type 0 where
  pub use_phf : Bool
  pub spans : Bool
  pub extended : Bool
  pub ignore_case : Bool

abbrev pub flags : Kind → Flags
flags simple_ascii = record { use_phf = false; spans = false; extended = false; ignore_case = false }
flags ignore_case = record { use_phf = false; spans = false; extended = false; ignore_case = true }
flags perfect_hash = record { use_phf = true; spans = true; extended = false; ignore_case = false }
flags extended_capacity = record { use_phf = true; spans = true; extended = true; ignore_case = false }

-- the kind with these options
abbrev pub kind_with : Flags → Kind
kind_with options =
    if options.ignore_case then ignore_case
    else (if options.extended then extended_capacity else (if options.use_phf then perfect_hash else simple_ascii))

-- the number of a kind in tagged bytes
abbrev pub tag : Kind → ℕ
tag simple_ascii = 0
tag ignore_case = 8
tag perfect_hash = 3
tag extended_capacity = 7

-- the kinds over ASCII keys, whose tables are all sorted, so that a map has one encoding
abbrev pub IsAscii : Kind → Type 0
IsAscii simple_ascii = Unit {0}
IsAscii ignore_case = Unit {0}
IsAscii perfect_hash = ⊥
IsAscii extended_capacity = ⊥

-- bytes that are equal in the kind have one fold
abbrev pub fold_byte : Kind → ℕ → ℕ
fold_byte simple_ascii b = b
fold_byte ignore_case b = to_ascii_lowercase b
fold_byte perfect_hash b = b
fold_byte extended_capacity b = b

-- the bytes below this may be edges
abbrev pub edge_limit : Kind → ℕ
edge_limit simple_ascii = 128
edge_limit ignore_case = 128
edge_limit perfect_hash = 256
edge_limit extended_capacity = 256

-- the greatest width field of a branch
abbrev pub greatest_width : Kind → ℕ
greatest_width simple_ascii = 3
greatest_width ignore_case = 3
greatest_width perfect_hash = 3
greatest_width extended_capacity = 7

-- whether a branch of this many edges has a hashed table
abbrev pub is_hashed : Kind → ℕ → Bool
is_hashed simple_ascii n = false
is_hashed ignore_case n = false
is_hashed perfect_hash n = nat_le 16 n
is_hashed extended_capacity n = nat_le 16 n

-- whether bytes of 128 or more that are not edges of a branch are in spans
abbrev pub has_spans : Kind → Bool
has_spans simple_ascii = false
has_spans ignore_case = false
has_spans perfect_hash = true
has_spans extended_capacity = true

-- the edge put before the first of these whose fold is not lower
abbrev pub put_by : (ℕ → ℕ) → ℕ → List ℕ → List ℕ
put_by fold b [] = b ∷ []
put_by fold b (c ∷ edges) = if nat_lt (fold c) (fold b) then c ∷ put_by fold b edges else b ∷ c ∷ edges

-- the edges, ascending by their folds
abbrev pub sorted_by : (ℕ → ℕ) → List ℕ → List ℕ
sorted_by fold [] = []
sorted_by fold (b ∷ edges) = put_by fold b (sorted_by fold edges)

-- edges that ascend by byte, in the order of the kind's sorted tables
abbrev pub ordered : Kind → List ℕ → List ℕ
ordered simple_ascii edges = edges
ordered ignore_case edges = sorted_by to_ascii_lowercase edges
ordered perfect_hash edges = edges
ordered extended_capacity edges = edges

-- two bytes are equal in the kind
abbrev pub same_byte : Kind → ℕ → ℕ → Bool
same_byte kind a b = fold_byte kind a == fold_byte kind b
