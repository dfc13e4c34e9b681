-- How many nodes a look-up reads at most.
use Rattle.std.proofs.Common.{◌≡◌, ℕ, ◌+◌, ◌-◌, ◌*◌, ◌≤◌, List, [], ◌∷◌, ◌++◌, length, length-append, refl, ap, subst, arith, Bool, true, false, cond, Option, Some, None}
use Rattle.std.specs.Option.{option_map_or}
use Rattle.zerotrie_base.specs.Kind.{Kind, same_byte}
use Rattle.zerotrie_base.specs.Maps.{Pairs, after_run}
use Rattle.zerotrie_base.specs.Texts.{Lists, ListEach, nodes, nodes_behind, NoValueFirst}
use Rattle.zerotrie_base.specs.Texts.Lists.{nothing, value, literal, span, branch}
use Rattle.zerotrie_base.specs.Texts.ListEach.{no_edge, edge}
use Rattle.zerotrie_base.specs.Numbers.{value_form, SpellsAs}
use Rattle.zerotrie_base.proofs.NumberLemmas.Numbers.{extender_one}
use Rattle.zerotrie_base.proofs.MapLemmas.Spans.{after_is}

chosen_small : (b : Bool) (x y n : ℕ) → x ≤ n → y ≤ n → cond b x y ≤ n
chosen_small true x y n h k = h
chosen_small false x y n h k = k

value_twice : {v : ℕ} {spelling : List ℕ} (rest : List ℕ) (s : SpellsAs value_form v spelling) → NoValueFirst (spelling ++ rest) → ⊥
value_twice rest s none =
    let digit = s.digit_below in
    let one = extender_one s.trail in
    let four = subst NoValueFirst (ap (λ x. x ++ rest) s.bytes_are) none in
    four (omega arith)

some_run : (run : List ℕ) → (run ≡ [] → ⊥) → 1 ≤ length run
some_run [] some = absurd (some refl)
some_run (b ∷ run) some = omega arith

-- the key is longer than what it has after a run
run_few : (n : List ℕ → ℕ) → ((key : List ℕ) → n key ≤ 2 * length key + 1) → (run key : List ℕ) → (run ≡ [] → ⊥) → option_map_or n (after_run run key) 0 ≤ 2 * length key - 1
run_few n few run key some = go (after_run run key) refl
  where
    go : (o : Option (List ℕ)) → after_run run key ≡ o → option_map_or n o 0 ≤ 2 * length key - 1
    go None is = omega arith
    go (Some after) is =
        let behind = few after in
        let one = some_run run some in
        let whole = ap length (after_is run key after is) in
        let parts = length-append run after in
        omega arith

mutual
  pub nodes_few : {kind : Kind} {bytes : List ℕ} {pairs : Pairs} (text : Lists kind bytes pairs) (key : List ℕ) → nodes text key ≤ 2 * length key + 1
  nodes_few nothing key = omega arith
  nodes_few (value s n text) [] = omega arith
  nodes_few (value s n text) (c ∷ key) = let few = nodes_few_behind text c key n in omega arith
  nodes_few (literal l n text) [] = omega arith
  nodes_few {kind = kind} (literal {b = b} l n text) (c ∷ key) = let few = chosen_small (same_byte kind b c) (nodes text key) 0 (2 * length key + 1) (nodes_few text key) (omega arith) in omega arith
  nodes_few (span run s some high n r f text) key = let few = run_few (λ after. nodes text after) (λ after. nodes_few text after) run key some in omega arith
  nodes_few (branch b each) [] = omega arith
  nodes_few (branch b each) (c ∷ key) = let few = each_few each c key in omega arith

  pub nodes_few_behind : {kind : Kind} {bytes : List ℕ} {pairs : Pairs} (text : Lists kind bytes pairs) (c : ℕ) (key : List ℕ) → NoValueFirst bytes → nodes text (c ∷ key) ≤ 2 * length key + 2
  nodes_few_behind nothing c key none = omega arith
  nodes_few_behind (value {rest = r} s n text) c key none = absurd (value_twice r s none)
  nodes_few_behind {kind = kind} (literal {b = b} l n text) c key none = let few = chosen_small (same_byte kind b c) (nodes text key) 0 (2 * length key + 1) (nodes_few text key) (omega arith) in omega arith
  nodes_few_behind (span run s some high n r f text) c key none = let few = run_few (λ after. nodes text after) (λ after. nodes_few text after) run (c ∷ key) some in omega arith
  nodes_few_behind (branch b each) c key none = let few = each_few each c key in omega arith

  pub each_few : {kind : Kind} {es : List ℕ} {targets : List (List ℕ)} {pairs : Pairs} (each : ListEach kind es targets pairs) (c : ℕ) (key : List ℕ) → nodes_behind each c key ≤ 2 * length key + 1
  each_few no_edge c key = omega arith
  each_few {kind = kind} (edge {e = e} n text each) c key = chosen_small (same_byte kind e c) (nodes text key) (nodes_behind each c key) (2 * length key + 1) (nodes_few text key) (each_few each c key)
