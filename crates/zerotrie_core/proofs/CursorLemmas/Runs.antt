-- Which run a cursor stands in.
use Rattle.std.proofs.Common.{◌≡◌, ℕ, List, [], ◌∷◌, refl, sym, ◌∙◌, ap, subst}
use Rattle.zerotrie_base.specs.Kind.{Kind}
use Rattle.zerotrie_base.specs.Nodes.{Shape, Begins}
use Rattle.zerotrie_base.specs.Nodes.Shape.{value, literal, span, branch}
use Rattle.zerotrie_core.specs.Places.{MeetsSpan, FollowsRun}
use Rattle.zerotrie_core.specs.Places.MeetsSpan.{at_once, after_value}
use Rattle.zerotrie_base.proofs.NumberLemmas.Numbers.{cons_parts}
use Rattle.zerotrie_core.proofs.NodeLemmas.Read.{node_begun}

-- bytes begin with one node
node_once : (kind : Kind) (bytes : List ℕ) (s t : Shape) → Begins kind bytes s → Begins kind bytes t → s ≡ t
node_once kind bytes s t a b = let e = sym (node_begun kind bytes s a) ∙ node_begun kind bytes t b in cc

-- from the bytes to the rest only values are passed, so they meet the same span
pub record SameSpan (kind : Kind) (bytes rest : List ℕ) : Type 0 where
  pub to : (run behind : List ℕ) → MeetsSpan kind bytes run behind → MeetsSpan kind rest run behind
  pub from : (run behind : List ℕ) → MeetsSpan kind rest run behind → MeetsSpan kind bytes run behind

pub same_span : (kind : Kind) (bytes : List ℕ) → SameSpan kind bytes bytes
same_span kind bytes = record { to = λ run behind m. m; from = λ run behind m. m }

-- past a value
meets_after : (kind : Kind) (bytes : List ℕ) (v : ℕ) (after run behind : List ℕ) → Begins kind bytes (value v after) → MeetsSpan kind bytes run behind → MeetsSpan kind after run behind
meets_after kind bytes v after run behind begins (at_once b) = let e = node_once kind bytes (value v after) (span run behind) begins b in absurd (cc)
meets_after kind bytes v after run behind begins (after_value {after = more} w b m) =
    let e = node_once kind bytes (value v after) (value w more) begins b in
    let same : more ≡ after = cc in
    subst (λ x. MeetsSpan kind x run behind) same m

pub same_after : (kind : Kind) (bytes rest : List ℕ) (v : ℕ) (after : List ℕ) → Begins kind rest (value v after) → SameSpan kind bytes rest → SameSpan kind bytes after
same_after kind bytes rest v after begins same = record {
  to = λ run behind m. meets_after kind rest v after run behind begins (same.to run behind m);
  from = λ run behind m. same.from run behind (after_value v begins m);
}

-- a span is met at once
meets_here : (kind : Kind) (bytes run rest r t : List ℕ) → Begins kind bytes (span run rest) → MeetsSpan kind bytes r t → (r ≡ run) × (t ≡ rest)
meets_here kind bytes run rest r t begins (at_once b) = let e = node_once kind bytes (span run rest) (span r t) begins b in (cc, cc)
meets_here kind bytes run rest r t begins (after_value {after = more} w b m) = let e = node_once kind bytes (span run rest) (value w more) begins b in absurd (cc)

-- no span is met by a literal or a branch
pub literal_meets : (kind : Kind) (bytes : List ℕ) (b : ℕ) (rest r t : List ℕ) → Begins kind bytes (literal b rest) → MeetsSpan kind bytes r t → ⊥
literal_meets kind bytes b rest r t begins (at_once i) = let e = node_once kind bytes (literal b rest) (span r t) begins i in cc
literal_meets kind bytes b rest r t begins (after_value {after = more} w i m) = let e = node_once kind bytes (literal b rest) (value w more) begins i in cc

pub branch_meets : (kind : Kind) (bytes : List ℕ) (edges width : ℕ) (table behind r t : List ℕ) → Begins kind bytes (branch edges width table behind) → MeetsSpan kind bytes r t → ⊥
branch_meets kind bytes edges width table behind r t begins (at_once i) = let e = node_once kind bytes (branch edges width table behind) (span r t) begins i in cc
branch_meets kind bytes edges width table behind r t begins (after_value {after = more} w i m) = let e = node_once kind bytes (branch edges width table behind) (value w more) begins i in cc

-- an edge that no span follows
follows_text : (kind : Kind) (bytes rest : List ℕ) (edge : ℕ) (trie : List ℕ) → SameSpan kind bytes rest → ((r t : List ℕ) → MeetsSpan kind rest r t → ⊥)
    → FollowsRun kind (record { run = []; trie = bytes }) edge (record { run = []; trie = trie })
follows_text kind bytes rest edge trie same none = record {
  along = λ b run behind has. absurd (none (b ∷ run) behind (same.to (b ∷ run) behind has));
  no_other = λ some. absurd (some refl);
}

pub follows_plain : (kind : Kind) (bytes rest : List ℕ) (edge : ℕ) (run trie : List ℕ) → run ≡ [] → SameSpan kind bytes rest → ((r t : List ℕ) → MeetsSpan kind rest r t → ⊥)
    → FollowsRun kind (record { run = []; trie = bytes }) edge (record { run = run; trie = trie })
follows_plain kind bytes rest edge run trie none same meets =
    subst (λ r. FollowsRun kind (record { run = []; trie = bytes }) edge (record { run = r; trie = trie })) (sym none) (follows_text kind bytes rest edge trie same meets)

-- the first byte of a span
pub follows_span : (kind : Kind) (bytes rest run behind : List ℕ) (edge : ℕ) (left trie : List ℕ) → SameSpan kind bytes rest → Begins kind rest (span run behind) → run ≡ edge ∷ left → trie ≡ behind
    → FollowsRun kind (record { run = []; trie = bytes }) edge (record { run = left; trie = trie })
follows_span kind bytes rest run behind edge left trie same begins is last = record {
  along = λ b more after has. (
      let here = meets_here kind rest run behind (b ∷ more) after begins (same.to (b ∷ more) after has) in
      let parts = cons_parts b edge more left (here.0 ∙ is) in
      (sym parts.0, ap (λ x. record { run = x; trie = trie }) (sym parts.1) ∙ ap (λ x. record { run = more; trie = x }) (last ∙ sym here.1))
      );
  no_other = λ some. same.from (edge ∷ left) trie (subst (λ x. MeetsSpan kind rest x trie) is (subst (λ x. MeetsSpan kind rest run x) (sym last) (at_once begins)));
}
