-- The grammar: which bytes are an encoding of a kind, and which pairs they list.
use Rattle.std.specs.Prelude.{◌≡◌, ◌≢◌, ℕ, ◌+◌, ◌/◌, ◌^◌, ◌<◌, ◌≤◌, List, [], ◌∷◌, ◌++◌, length, true, if◌then◌else◌}
use Rattle.std.specs.Option.{option_map_or}
use Rattle.zerotrie_base.specs.Kind.{Kind, same_byte, has_spans}
use Rattle.zerotrie_base.specs.Numbers.{value_form, span_form, SpellsAs}
use Rattle.zerotrie_base.specs.Maps.{Pairs, Map, map_of, with_front, with_run, after_run}
use Rattle.zerotrie_base.specs.Branches.{IsBranch}

-- no bytes, or bytes that do not begin with a value node, whose lead has the bits 100
abbrev pub NoValueFirst : List ℕ → Type 0
NoValueFirst [] = Unit {0}
NoValueFirst (b ∷ bs) = b / 32 ≢ 4

-- no bytes, or bytes that do not begin with a span, whose lead has the bits 101
abbrev pub NoSpanFirst : List ℕ → Type 0
NoSpanFirst [] = Unit {0}
NoSpanFirst (b ∷ bs) = b / 32 ≢ 5

-- bytes that may be in a span
abbrev pub AreHigh : List ℕ → Type 0
AreHigh [] = Unit {0}
AreHigh (b ∷ run) = (128 ≤ b) × (b < 256) × AreHigh run

mutual
  -- The bytes are an encoding of the kind, and list these pairs in this order.
  pub data Lists (kind : Kind) : List ℕ → Pairs → Type 0 where
    nothing : Lists kind [] []
    value : {v : ℕ} {spelling rest : List ℕ} {pairs : Pairs} → SpellsAs value_form v spelling
        → NoValueFirst rest → Lists kind rest pairs → Lists kind (spelling ++ rest) (([], v) ∷ pairs)
    literal : {b : ℕ} {rest : List ℕ} {pairs : Pairs} → b < 128
        → rest ≢ [] → Lists kind rest pairs → Lists kind (b ∷ rest) (with_front b pairs)
    span : {spelling rest : List ℕ} {pairs : Pairs} (run : List ℕ) → has_spans kind ≡ true
        → run ≢ [] → AreHigh run → SpellsAs span_form (length run) spelling
        → rest ≢ [] → NoSpanFirst rest → Lists kind rest pairs → Lists kind (spelling ++ (run ++ rest)) (with_run run pairs)
    branch : {edges : List ℕ} {targets : List (List ℕ)} {bytes : List ℕ} {pairs : Pairs}
        → IsBranch kind edges targets bytes → ListEach kind edges targets pairs → Lists kind bytes pairs

  -- Each edge has one target, an encoding that is not empty. The pairs are those of the targets,
  -- each with its edge byte before it.
  pub data ListEach (kind : Kind) : List ℕ → List (List ℕ) → Pairs → Type 0 where
    no_edge : ListEach kind [] [] []
    edge : {e : ℕ} {edges target : List ℕ} {targets : List (List ℕ)} {pairs more : Pairs}
        → target ≢ [] → Lists kind target pairs → ListEach kind edges targets more
        → ListEach kind (e ∷ edges) (target ∷ targets) (with_front e pairs ++ more)

-- The bytes mean the map.
pub record Means (kind : Kind) (bytes : List ℕ) (m : Map) : Type 0 where
  pub short : length bytes < 2 ^ 64
  pub pairs : Pairs
  pub lists : Lists kind bytes pairs
  pub is : m ≡ map_of pairs

-- the number of nodes that a look-up of the key reads
abbrev mutual
  pub nodes : {kind : Kind} {bytes : List ℕ} {pairs : Pairs} → Lists kind bytes pairs → List ℕ → ℕ
  nodes nothing key = 0
  nodes (value s n text) [] = 1
  nodes (value s n text) (c ∷ key) = 1 + nodes text (c ∷ key)
  nodes (literal {b = b} l n text) [] = 1
  nodes {kind = kind} (literal {b = b} l n text) (c ∷ key) = 1 + (if same_byte kind b c then nodes text key else 0)
  nodes (span run s some high n r f text) key = 1 + option_map_or (λ after. nodes text after) (after_run run key) 0
  nodes (branch b each) [] = 1
  nodes (branch b each) (c ∷ key) = 1 + nodes_behind each c key

  pub nodes_behind : {kind : Kind} {edges : List ℕ} {targets : List (List ℕ)} {pairs : Pairs} → ListEach kind edges targets pairs → ℕ → List ℕ → ℕ
  nodes_behind no_edge c key = 0
  nodes_behind {kind = kind} (edge {e = e} n text each) c key = if same_byte kind e c then nodes text key else nodes_behind each c key
