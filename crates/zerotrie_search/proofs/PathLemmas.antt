-- Paths down a trie.
use Rattle.std.proofs.Common.{◌≡◌, ℕ, zero, suc, ◌+◌, ◌≤◌, List, [], ◌∷◌, ◌++◌, length, refl, sym, ◌∙◌, ap, subst, arith, length-append, Bool, true, false, cond}
use Rattle.std.specs.Prelude.{◌≢◌, ◌==◌}
use Rattle.std.specs.List.{AllByRecursion, concat}
use Rattle.zerotrie_base.specs.Kind.{Kind}
use Rattle.zerotrie_base.specs.Branches.{IsBranch, IsTable, blocks, offsets}
use Rattle.zerotrie_base.specs.Branches.IsTable.{sorted, hashed}
use Rattle.zerotrie_base.specs.Maps.{Pairs, residual, behind_all, with_front, with_run}
use Rattle.zerotrie_base.specs.Texts.{Lists, ListEach}
use Rattle.zerotrie_base.specs.Texts.Lists.{nothing, value, literal, span, branch}
use Rattle.zerotrie_base.specs.Texts.ListEach.{no_edge, edge}
use Rattle.zerotrie_core.specs.Places.{ListsAt}
use Rattle.zerotrie_core.specs.CursorPlaces.{cursor_at}
use Rattle.zerotrie_core.specs.declared.cursor_place.CursorPlace.{CursorPlace}
use Rattle.zerotrie_core.proofs.CallerLemmas.{behind_all-nil}
use Rattle.zerotrie_search.specs.Paths.{IsPath}

module _ (kind : Kind) (bytes : List ℕ) where
  pub path_here : (key : List ℕ) (places : List CursorPlace) (here : CursorPlace) (pairs : Pairs) → IsPath kind bytes key places here pairs → ListsAt kind (cursor_at bytes here) (behind_all key pairs)
  path_here [] [] here pairs path = path
  path_here [] (p ∷ places) here pairs path = absurd path
  path_here (b ∷ key) [] here pairs path = absurd path
  path_here (b ∷ key) (p ∷ places) here pairs path = path_here key places here (residual b pairs) path.1

  pub path_push : (key : List ℕ) (places : List CursorPlace) (here : CursorPlace) (pairs : Pairs) (b : ℕ) (after : CursorPlace) → IsPath kind bytes key places here pairs
      → ListsAt kind (cursor_at bytes after) (residual b (behind_all key pairs)) → IsPath kind bytes (key ++ b ∷ []) (places ++ here ∷ []) after pairs
  path_push [] [] here pairs b after path leads = (path, leads)
  path_push [] (p ∷ places) here pairs b after path leads = absurd path
  path_push (c ∷ key) [] here pairs b after path leads = absurd path
  path_push (c ∷ key) (p ∷ places) here pairs b after path leads = (path.0, path_push key places here (residual c pairs) b after path.1 leads)

  pub path_pushed : (old new : List ℕ × List CursorPlace) (here here' : CursorPlace) (pairs : Pairs) (b : ℕ) (after : CursorPlace) → new.0 ≡ old.0 ++ b ∷ [] → new.1 ≡ old.1 ++ here ∷ [] → here' ≡ after
      → IsPath kind bytes old.0 old.1 here pairs → ListsAt kind (cursor_at bytes after) (residual b (behind_all old.0 pairs)) → IsPath kind bytes new.0 new.1 here' pairs
  path_pushed old new here here' pairs b after k p h path leads =
      subst (λ x. IsPath kind bytes x new.1 here' pairs) (sym k)
      (subst (λ x. IsPath kind bytes (old.0 ++ b ∷ []) x here' pairs) (sym p)
      (subst (λ x. IsPath kind bytes (old.0 ++ b ∷ []) (old.1 ++ here ∷ []) x pairs) (sym h) (path_push old.0 old.1 here pairs b after path leads)))

  pub path_pop : (key : List ℕ) (places : List CursorPlace) (here p : CursorPlace) (pairs : Pairs) (b : ℕ) → IsPath kind bytes (key ++ b ∷ []) (places ++ p ∷ []) here pairs → IsPath kind bytes key places p pairs
  path_pop [] [] here p pairs b path = path.0
  path_pop [] (q ∷ []) here p pairs b path = absurd path.1
  path_pop [] (q ∷ r ∷ places) here p pairs b path = absurd path.1
  path_pop (c ∷ []) [] here p pairs b path = absurd path.1
  path_pop (c ∷ d ∷ key) [] here p pairs b path = absurd path.1
  path_pop (c ∷ key) (q ∷ places) here p pairs b path = (path.0, path_pop key places here p (residual c pairs) b path.1)

  -- no place is left just if no byte is
  pub path_none : (key : List ℕ) (here : CursorPlace) (pairs : Pairs) → IsPath kind bytes key [] here pairs → key ≡ []
  path_none [] here pairs path = refl
  path_none (b ∷ key) here pairs path = absurd path

  pub path_no_key : (places : List CursorPlace) (p here : CursorPlace) (pairs : Pairs) → IsPath kind bytes [] (places ++ p ∷ []) here pairs → ⊥
  path_no_key [] p here pairs path = path
  path_no_key (q ∷ places) p here pairs path = path

-- keys of at most n bytes
abbrev Short : ℕ → Pairs → Type 0
Short n pairs = AllByRecursion (λ e. length e.0 ≤ n) pairs

short_more : (n m : ℕ) (pairs : Pairs) → n ≤ m → Short n pairs → Short m pairs
short_more n m [] h s = tt
short_more n m (e ∷ pairs) h s = (omega (arith, s.0), short_more n m pairs h s.1)

short_append : (n : ℕ) (xs ys : Pairs) → Short n xs → Short n ys → Short n (xs ++ ys)
short_append n [] ys s t = t
short_append n (e ∷ xs) ys s t = (s.0, short_append n xs ys s.1 t)

short_front : (n b : ℕ) (pairs : Pairs) → Short n pairs → Short (suc n) (with_front b pairs)
short_front n b [] s = tt
short_front n b (e ∷ pairs) s = (omega (arith, s.0), short_front n b pairs s.1)

short_run : (n : ℕ) (run : List ℕ) (pairs : Pairs) → Short n pairs → Short (length run + n) (with_run run pairs)
short_run n run [] s = tt
short_run n run (e ∷ pairs) s = (omega (arith, s.0, length-append run e.0), short_run n run pairs s.1)

short_cond : (n : ℕ) (t : Bool) (e : List ℕ × ℕ) (pairs : Pairs) → length e.0 ≤ n → Short n pairs → Short n (cond t (e ∷ pairs) pairs)
short_cond n true e pairs h s = (h, s)
short_cond n false e pairs h s = s

short_residual : (n b : ℕ) (pairs : Pairs) → Short (suc n) pairs → Short n (residual b pairs)
short_residual n b [] s = tt
short_residual n b (([], v) ∷ pairs) s = short_residual n b pairs s.1
short_residual n b ((c ∷ key, v) ∷ pairs) s = short_cond n (c == b) (key, v) (residual b pairs) (omega (arith, s.0)) (short_residual n b pairs s.1)

none_residual : (b : ℕ) (pairs : Pairs) → Short 0 pairs → residual b pairs ≡ []
none_residual b [] s = refl
none_residual b (([], v) ∷ pairs) s = none_residual b pairs s.1
none_residual b ((c ∷ key, v) ∷ pairs) s = absurd (omega (arith, s.0))

table_long : {kind : Kind} {edges table : List ℕ} → IsTable kind edges table → length edges ≤ length table
table_long (sorted h up) = omega arith
table_long (hashed {qs = qs} {edges = edges} h p) = omega (arith, length-append qs edges)

branch_long : {kind : Kind} {edges : List ℕ} {targets : List (List ℕ)} {bytes : List ℕ} → IsBranch kind edges targets bytes → suc (length (concat targets)) ≤ length bytes
branch_long {edges = edges} {targets = targets} {bytes = bytes} b =
    let offs = blocks (b.width + 1) (offsets targets) in
    let is : length bytes ≡ length (b.head ++ (b.table ++ (offs ++ concat targets))) = ap length b.bytes_are in
    let two = b.two in
    let t = table_long b.is_table in
    omega (arith, is, two, t, length-append b.head (b.table ++ (offs ++ concat targets)), length-append b.table (offs ++ concat targets), length-append offs (concat targets))

mutual
  -- no key is longer than the bytes
  lists_short : {kind : Kind} {bytes : List ℕ} {pairs : Pairs} → Lists kind bytes pairs → Short (length bytes) pairs
  lists_short nothing = tt
  lists_short (value {spelling = spelling} {rest = rest} {pairs = pairs} s n text) =
      (omega arith, short_more (length rest) (length (spelling ++ rest)) pairs (omega (arith, length-append spelling rest)) (lists_short text))
  lists_short (literal {b = b} {rest = rest} {pairs = pairs} low n text) = short_front (length rest) b pairs (lists_short text)
  lists_short (span {spelling = spelling} {rest = rest} {pairs = pairs} run h some high s n f text) =
      short_more (length run + length rest) (length (spelling ++ (run ++ rest))) (with_run run pairs) (omega (arith, length-append spelling (run ++ rest), length-append run rest)) (short_run (length rest) run pairs (lists_short text))
  lists_short (branch {targets = targets} {bytes = bytes} {pairs = pairs} b each) = short_more (suc (length (concat targets))) (length bytes) pairs (branch_long b) (each_short each)

  each_short : {kind : Kind} {edges : List ℕ} {targets : List (List ℕ)} {pairs : Pairs} → ListEach kind edges targets pairs → Short (suc (length (concat targets))) pairs
  each_short no_edge = tt
  each_short (edge {e = e} {target = target} {targets = targets} {pairs = p} {more = m} n text each) =
      let most = suc (length (target ++ concat targets)) in
      short_append most (with_front e p) m
      (short_more (suc (length target)) most (with_front e p) (omega (arith, length-append target (concat targets))) (short_front (length target) e p (lists_short text)))
      (short_more (suc (length (concat targets))) most m (omega (arith, length-append target (concat targets))) (each_short each))

behind_deep : (key : List ℕ) (pairs : Pairs) (n : ℕ) → Short n pairs → behind_all key pairs ≢ [] → length key ≤ n
behind_deep [] pairs n s some = omega arith
behind_deep (b ∷ key) pairs zero s some = absurd (some (ap (behind_all key) (none_residual b pairs s) ∙ behind_all-nil key))
behind_deep (b ∷ key) pairs (suc n) s some = let r = behind_deep key (residual b pairs) n (short_residual n b pairs s) some in omega (arith, r)

-- bytes that begin a key are no more than the bytes of the trie
pub key_short : {kind : Kind} {bytes : List ℕ} {pairs : Pairs} → Lists kind bytes pairs → (key : List ℕ) → behind_all key pairs ≢ [] → length key ≤ length bytes
key_short {bytes = bytes} {pairs = pairs} text key some = behind_deep key pairs (length bytes) (lists_short text) some

length-front : (b : ℕ) (pairs : Pairs) → length (with_front b pairs) ≡ length pairs
length-front b [] = refl
length-front b (e ∷ pairs) = ap suc (length-front b pairs)

length-run : (run : List ℕ) (pairs : Pairs) → length (with_run run pairs) ≡ length pairs
length-run run [] = refl
length-run run (e ∷ pairs) = ap suc (length-run run pairs)

mutual
  -- there are no more pairs than bytes
  pub lists_few : {kind : Kind} {bytes : List ℕ} {pairs : Pairs} → Lists kind bytes pairs → length pairs ≤ length bytes
  lists_few nothing = omega arith
  lists_few (value {spelling = spelling} {rest = rest} {pairs = pairs} s n text) =
      let one : length spelling ≡ suc (length s.trail) = ap length s.bytes_are in
      let few = lists_few text in
      omega (arith, one, few, length-append spelling rest)
  lists_few (literal {b = b} {rest = rest} {pairs = pairs} low n text) = let few = lists_few text in omega (arith, few, length-front b pairs)
  lists_few (span {spelling = spelling} {rest = rest} {pairs = pairs} run h some high s n f text) =
      let few = lists_few text in
      omega (arith, few, length-run run pairs, length-append spelling (run ++ rest), length-append run rest)
  lists_few (branch {targets = targets} {bytes = bytes} {pairs = pairs} b each) =
      let few = each_few each in
      let long = branch_long b in
      omega (arith, few, long)

  each_few : {kind : Kind} {edges : List ℕ} {targets : List (List ℕ)} {pairs : Pairs} → ListEach kind edges targets pairs → length pairs ≤ length (concat targets)
  each_few no_edge = omega arith
  each_few (edge {e = e} {target = target} {targets = targets} {pairs = p} {more = m} n text each) =
      let few = lists_few text in
      let more = each_few each in
      omega (arith, few, more, length-front e p, length-append (with_front e p) m, length-append target (concat targets))
