-- Where what follows an edge lies in the bytes that were read.
use Rattle.std.proofs.Common.{◌≡◌, ℕ, ◌-◌, ◌+◌, ◌*◌, ◌≤◌, List, [], ◌∷◌, ◌++◌, length, refl, sym, ◌∙◌, ap, arith, Option, Some, None, take, drop, length-append, append_assoc}
use Rattle.std.specs.Borrow.{Bor}
use Rattle.std.proofs.lemmas.List.{append-nil, take-append-drop, length-drop}
use Rattle.zerotrie_base.specs.Nodes.{targets_behind, begin_of, end_of, IsTargetResult}
use Rattle.zerotrie_core.specs.listing.Runs.{EndsWith, HasParts}
use Rattle.zerotrie_core.specs.cursor.Edges.{LiesBehind}
use Rattle.zerotrie_core.specs.declared.edges.Along as declared
use Rattle.zerotrie_core.proofs.ListingLemmas.Left.{ends_drop}

-- all of the bytes are the trie
pub lies_whole : (bytes run trie : List ℕ) (n : ℕ) → run ≡ [] → trie ≡ bytes → n ≡ 0 → HasParts bytes run trie n
lies_whole bytes run trie n none is last = rw (none, is, last) ([], [], sym (append-nil bytes), refl)

-- past the first byte of a run
pub lies_run : (b : ℕ) (run more trie : List ℕ) → run ≡ b ∷ more → HasParts (run ++ trie) more trie 0
lies_run b run more trie is = rw is (b ∷ [], [], ap (λ x. b ∷ (more ++ x)) (sym (append-nil trie)), refl)

-- in bytes that end with those
pub ends_more : (bytes rest after : List ℕ) → EndsWith bytes rest → EndsWith rest after → EndsWith bytes after
ends_more bytes rest after e f = (e.0 ++ f.0, e.1 ∙ ap (λ x. e.0 ++ x) f.1 ∙ sym (append_assoc e.0 f.0 after))

lies_more : (bytes rest run trie : List ℕ) (n : ℕ) → EndsWith bytes rest → HasParts rest run trie n → HasParts bytes run trie n
lies_more bytes rest run trie n e l =
    (e.0 ++ l.0, l.1, e.1 ∙ ap (λ x. e.0 ++ x) l.2 ∙ sym (append_assoc e.0 l.0 (run ++ (trie ++ l.1))), l.3)

pub lies_past : (bytes rest : List ℕ) (found : Option declared.Along) → EndsWith bytes rest → LiesBehind rest found → LiesBehind bytes found
lies_past bytes rest None e l = tt
lies_past bytes rest (Some a) e l = lies_more bytes rest a.run.now a.trie.now a.after e l

-- a target, in the bytes from the edges on
pub lies_target : (n w : ℕ) (behind : List ℕ) (i after : ℕ) (t : Bor (List ℕ)) → IsTargetResult n w behind i (Some t) → after ≡ length (targets_behind n w behind) - end_of n w behind i → HasParts behind [] t.now after
lies_target n w behind i after t g rest =
    let targets = targets_behind n w behind in
    let from = begin_of n w behind i in
    let to = end_of n w behind i in
    let low = g.0.0 in
    let high = g.0.1 in
    let len = length-drop (to - from) (drop from targets) in
    let most = length-drop from targets in
    let own : HasParts targets [] t.now after = (
      take from targets,
      drop (to - from) (drop from targets),
      sym (take-append-drop from targets) ∙ ap (λ x. take from targets ++ x) (sym (take-append-drop (to - from) (drop from targets)) ∙ ap (λ x. x ++ drop (to - from) (drop from targets)) (sym g.0.2)),
      omega arith,
    ) in
    lies_more behind targets [] t.now after (ends_drop behind (drop n behind) (w * (n - 1)) (ends_drop behind behind n ([], refl))) own

-- so a cursor has no more bytes than before
pub lies_shorter : (bytes run trie : List ℕ) (n : ℕ) → HasParts bytes run trie n → length run + length trie ≤ length bytes
lies_shorter bytes run trie n l =
    let a : length bytes ≡ length l.0 + length (run ++ (trie ++ l.1)) = ap length l.2 ∙ length-append l.0 (run ++ (trie ++ l.1)) in
    let b = length-append run (trie ++ l.1) in
    let c = length-append trie l.1 in
    omega arith
