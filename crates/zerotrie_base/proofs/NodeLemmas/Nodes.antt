-- Which node bytes begin with.
use Rattle.std.proofs.Common.{◌≡◌, ℕ, zero, suc, ◌+◌, ◌-◌, ◌*◌, ◌%◌, ◌<◌, ◌≤◌, List, [], ◌∷◌, ◌++◌, length, sym, ◌∙◌, ap, subst, arith, drop, IfNone, Option, Some, None, true, length-append}
use Rattle.zerotrie_base.specs.Kind.{Kind, has_spans}
use Rattle.zerotrie_base.specs.Branches.{before_edges}
use Rattle.zerotrie_base.specs.Numbers.{BeginsWith, extender}
use Rattle.zerotrie_base.specs.Nodes.{Shape, Begins, BeginsSpan, BeginsBranch}
use Rattle.zerotrie_base.specs.Nodes.Shape.{value, literal, span, branch}
use Rattle.zerotrie_base.proofs.MapLemmas.Kinds.{greatest_width_most}
use Rattle.zerotrie_base.proofs.NumberLemmas.Numbers.{cons_parts, extender_one, some_bytes, one_reading, after_shorter}

-- the lead of a spelling
lead_is : (L m v lead : ℕ) (rest after : List ℕ) (b : BeginsWith L m v (lead ∷ rest) after) → lead ≡ m * (2 * L) + extender b.spells.trail * L + b.spells.digit
lead_is L m v lead rest after b = (cons_parts lead _ rest (b.spells.trail ++ after) (b.bytes_are ∙ ap (λ x. x ++ after) b.spells.bytes_are)).0

pub value_begins : (v lead : ℕ) (rest after : List ℕ) → BeginsWith 16 4 v (lead ∷ rest) after → (128 ≤ lead) × (lead < 160)
value_begins v lead rest after b =
    let is = lead_is 16 4 v lead rest after b in
    let one = extender_one b.spells.trail in
    let digit = b.spells.digit_below in
    (omega arith, omega arith)

pub span_begins : (n lead : ℕ) (rest after : List ℕ) → BeginsWith 16 5 n (lead ∷ rest) after → (160 ≤ lead) × (lead < 192)
span_begins n lead rest after b =
    let is = lead_is 16 5 n lead rest after b in
    let one = extender_one b.spells.trail in
    let digit = b.spells.digit_below in
    (omega arith, omega arith)

pub branch_begins : (v lead : ℕ) (rest after : List ℕ) → BeginsWith 32 3 v (lead ∷ rest) after → 192 ≤ lead
branch_begins v lead rest after b = let is = lead_is 32 3 v lead rest after b in omega arith

-- no bytes begin with two nodes
pub value_no_branch : (v w : ℕ) (bytes after behind : List ℕ) → BeginsWith 16 4 v bytes after → BeginsWith 32 3 w bytes behind → ⊥
value_no_branch v w [] after behind a b = some_bytes 16 4 v after a
value_no_branch v w (lead ∷ rest) after behind a b = let low = value_begins v lead rest after a in let high = branch_begins w lead rest behind b in omega arith

pub value_no_span : (v n : ℕ) (bytes after behind : List ℕ) → BeginsWith 16 4 v bytes after → BeginsWith 16 5 n bytes behind → ⊥
value_no_span v n [] after behind a b = some_bytes 16 4 v after a
value_no_span v n (lead ∷ rest) after behind a b = let low = value_begins v lead rest after a in let high = span_begins n lead rest behind b in omega arith

pub span_no_branch : (n w : ℕ) (bytes after behind : List ℕ) → BeginsWith 16 5 n bytes after → BeginsWith 32 3 w bytes behind → ⊥
span_no_branch n w [] after behind a b = some_bytes 16 5 n after a
span_no_branch n w (lead ∷ rest) after behind a b = let low = span_begins n lead rest after a in let high = branch_begins w lead rest behind b in omega arith

-- if no byte is left, there is no node
pub none_empty : (kind : Kind) (bytes : List ℕ) → bytes ≡ [] → (s : Shape) → Begins kind bytes s → ⊥
none_empty kind bytes e (value v rest) b = some_bytes 16 4 v rest (subst (λ x. BeginsWith 16 4 v x rest) e b)
none_empty kind bytes e (literal c rest) b = let is = sym e ∙ b.1 in cc
none_empty kind bytes e (span run rest) b = some_bytes 16 5 (length run) (run ++ rest) (subst (λ x. BeginsSpan x run rest) e b.1)
none_empty kind bytes e (branch edges width table behind) b = some_bytes 32 3 _ b.body (subst (λ x. BeginsWith 32 3 (256 * (width - 1) + edges % 256) x b.body) e b.begins)

-- by its lead it can only be a value or a span
pub only_number : (kind : Kind) (lead : ℕ) (rest bytes : List ℕ) → bytes ≡ lead ∷ rest → 128 ≤ lead → lead < 192
    → ((v : ℕ) (after : List ℕ) → BeginsWith 16 4 v (lead ∷ rest) after → ⊥) → ((run after : List ℕ) → has_spans kind ≡ true → BeginsSpan (lead ∷ rest) run after → ⊥)
    → (s : Shape) → Begins kind bytes s → ⊥
only_number kind lead rest bytes e some low value_not span_not (value v after) b = value_not v after (subst (λ x. BeginsWith 16 4 v x after) e b)
only_number kind lead rest bytes e some low value_not span_not (literal c after) b = let is = (cons_parts lead c rest after (sym e ∙ b.1)).0 in let below = b.0 in omega arith
only_number kind lead rest bytes e some low value_not span_not (span run after) b = span_not run after b.0 (subst (λ x. BeginsSpan x run after) e b.1)
only_number kind lead rest bytes e some low value_not span_not (branch edges width table behind) b =
    let high = branch_begins _ lead rest b.body (subst (λ x. BeginsWith 32 3 (256 * (width - 1) + edges % 256) x b.body) e b.begins) in
    omega arith

-- by its lead it can only be a branch
pub only_branch : (kind : Kind) (lead : ℕ) (rest bytes : List ℕ) → bytes ≡ lead ∷ rest → 192 ≤ lead
    → ((edges width : ℕ) (table behind : List ℕ) → BeginsBranch kind (lead ∷ rest) edges width table behind → ⊥) → (s : Shape) → Begins kind bytes s → ⊥
only_branch kind lead rest bytes e high none (value v after) b = let is = value_begins v lead rest after (subst (λ x. BeginsWith 16 4 v x after) e b) in omega arith
only_branch kind lead rest bytes e high none (literal c after) b = let is = (cons_parts lead c rest after (sym e ∙ b.1)).0 in let low = b.0 in omega arith
only_branch kind lead rest bytes e high none (span run after) b = let is = span_begins (length run) lead rest (run ++ after) (subst (λ x. BeginsSpan x run after) e b.1) in omega arith
only_branch kind lead rest bytes e high none (branch edges width table behind) b = none edges width table behind (subst (λ x. BeginsBranch kind x edges width table behind) e b)

-- what the number of a head says
head_parts : (width edges w e : ℕ) → 1 ≤ width → 1 ≤ edges → edges ≤ 256 → 1 ≤ w → 2 ≤ e → e ≤ 256 → 256 * (width - 1) + edges % 256 ≡ 256 * (w - 1) + e % 256 → (width ≡ w) × (edges ≡ e)
head_parts width edges w e wide some most one two at_most is = (omega arith, omega arith)

pub head_read : {kind : Kind} {bytes body table behind : List ℕ} (edges width e w : ℕ) → 1 ≤ width → (1 ≤ edges) × (edges ≤ 256)
    → BeginsWith 32 3 (256 * (width - 1) + edges % 256) bytes body → (b : BeginsBranch kind bytes e w table behind) → (width ≡ w) × (edges ≡ e) × (body ≡ b.body)
head_read {bytes = bytes} {body = body} edges width e w wide few r b =
    let one = one_reading 32 3 3 _ _ bytes body b.body r b.begins in
    let parts = head_parts width edges w e wide few.0 few.1 b.some b.two b.at_most one.0 in
    (parts.0, parts.1, one.1)

-- a head has at most two bytes
pub small_head : {kind : Kind} {bytes : List ℕ} (edges width : ℕ) (table behind : List ℕ) → BeginsBranch kind bytes edges width table behind → 256 * (width - 1) + edges % 256 < 4128
small_head {kind = kind} edges width table behind b = let g = greatest_width_most kind in let f = b.fits in omega arith

pub dropped : (n : ℕ) (xs : List ℕ) → length (drop n xs) ≤ length xs
dropped zero xs = omega arith
dropped (suc n) [] = omega arith
dropped (suc n) (x ∷ xs) = let h = dropped n xs in omega arith

-- what holds if there is no value, by what does
pub none_by : {T P Q : Type 0} (o : Option T) → (P → Q) → IfNone o P → IfNone o Q
none_by None f p = f p
none_by (Some x) f p = p

-- what lies after a node is shorter than the bytes
pub literal_shorter : (kind : Kind) (c : ℕ) (rest bytes : List ℕ) → Begins kind bytes (literal c rest) → length rest < length bytes
literal_shorter kind c rest bytes b = omega (arith, ap length b.1)

pub span_shorter : (kind : Kind) (run rest bytes : List ℕ) → Begins kind bytes (span run rest) → length rest < length bytes
span_shorter kind run rest bytes b = let all = after_shorter 16 5 _ bytes (run ++ rest) b.1 in let parts = length-append run rest in omega arith

pub branch_shorter : (kind : Kind) (edges width : ℕ) (table behind bytes : List ℕ) → Begins kind bytes (branch edges width table behind) → length behind < length bytes
branch_shorter kind edges width table behind bytes b =
    let all = after_shorter 32 3 _ bytes b.body b.begins in
    let rest = dropped (before_edges kind edges) b.body in
    let is = ap length b.behind_is in
    omega arith
