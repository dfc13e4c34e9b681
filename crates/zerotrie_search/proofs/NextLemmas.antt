-- A walk to the next pair.
use Rattle.std.proofs.Common.{◌≡◌, ◌≢◌, ℕ, suc, ◌+◌, ◌<◌, ◌≤◌, Option, Some, None, List, [], ◌∷◌, ◌++◌, Bool, true, false, length, refl, sym, ◌∙◌, ap, subst, arith, append_assoc, reverse, inl, inr}
use Rattle.std.specs.Borrow.{Bor}
use Rattle.std.specs.Prelude.{IfSome}
use Rattle.std.specs.Range.Bound.{is_up_to_end}
use Rattle.std.specs.declared.ops.Bound.{Bound}
use Rattle.zerotrie_base.specs.Kind.{Kind}
use Rattle.zerotrie_base.specs.Maps.{Pairs, behind_all, with_run}
use Rattle.zerotrie_search.specs.Forks.{IsRun, IsFork, IsShorter, AreForks}
use Rattle.zerotrie_search.specs.Sets.{by_bytes}
use Rattle.zerotrie_search.specs.Walks.{Walks, SameKeys, IsNext, IsStart, FindsWithin, Keeps, HasRun, is_to_come, rooms}
use Rattle.zerotrie_search.specs.declared.sorted.fork.Fork.{Fork}
use Rattle.zerotrie_search.specs.declared.sorted.seek.Way.TheVariants.{Found}
use Rattle.zerotrie_search.proofs.ForkLemmas.{forks_more, forks_open, fork_over}
use Rattle.zerotrie_search.proofs.LeftLemmas.{chosen_beyond}
use Rattle.zerotrie_search.proofs.StandLemmas.{literal_run}

run_run : (front run : List ℕ) (pairs : Pairs) → with_run front (with_run run pairs) ≡ with_run (front ++ run) pairs
run_run front run [] = refl
run_run front run (e ∷ pairs) = ap (λ k. (k, e.1) ∷ with_run front (with_run run pairs)) (sym (append_assoc front run e.0)) ∙ ap (λ ps. ((front ++ run) ++ e.0, e.1) ∷ ps) (run_run front run pairs)

some_append : (run more : List ℕ) → run ≢ [] → run ++ more ≢ []
some_append [] more some e = some refl
some_append (b ∷ run) more some e = absurd (cc)

-- a run goes on
runs_on : (kind : Kind) (bytes run middle more after : List ℕ) → IsRun kind bytes run middle → IsRun kind middle more after → IsRun kind bytes (run ++ more) after
runs_on kind bytes run middle more after first second pairs text =
    let a = first pairs text in
    let b = second a.0 a.1 in
    (b.0, b.1, a.2 ∙ ap (with_run run) b.2 ∙ run_run run more b.0, some_append run more a.3, b.4)

pub one_literal : (kind : Kind) (b : ℕ) (after key : List ℕ) → b < 128 → HasRun kind (b ∷ after) key after (key ++ b ∷ [])
one_literal kind b after key low = (b ∷ [], literal_run kind (b ∷ after) b after (low, refl), refl, omega arith)

pub more_literals : (kind : Kind) (bytes key at key' : List ℕ) (b : ℕ) (more : List ℕ) → at ≡ b ∷ more → b < 128 → HasRun kind bytes key at key' → HasRun kind bytes key more (key' ++ b ∷ [])
more_literals kind bytes key at key' b more is low r =
    let less = r.3 in
    let len = ap length is in (
      r.0 ++ b ∷ [],
      runs_on kind bytes r.0 at (b ∷ []) more r.1 (literal_run kind at b more (low, is)),
      ap (λ k. k ++ b ∷ []) r.2 ∙ append_assoc key r.0 (b ∷ []),
      omega (arith, less, len),
    )

module _ (pairs : Pairs) (p r s : List ℕ → Bool) (same : SameKeys pairs p r) where
  pub same_on : SameKeys pairs r s → SameKeys pairs p s
  same_on more q v e = same q v e ∙ more q v e

  pub next_on : (key : List ℕ) (v : ℕ) → IsNext pairs r s key v → IsNext pairs p s key v
  next_on key v n = record {
    value = n.value;
    here = same key v n.value ∙ n.here;
    others = λ q w e other. same q w e ∙ n.others q w e other;
    above = n.above;
  }

pub finds_within : (kind : Kind) (pairs : Pairs) (to : Bound (List ℕ)) (before : List ℕ → Bool) (key : List ℕ) (v : ℕ) (rest : List ℕ) (forks : List Fork) → Walks kind pairs key rest forks → IsNext pairs before (is_to_come kind key rest forks) key v
    → (within : Bool) → within ≡ is_up_to_end by_bytes to key → FindsWithin kind pairs to before key v rest forks within
finds_within kind pairs to before key v rest forks w n true e = (w, n, sym e)
finds_within kind pairs to before key v rest forks w n false e = chosen_beyond pairs to before (is_to_come kind key rest forks) key v n (sym e)

-- the key goes on by an edge of a branch, which is kept if it has more
pub forks_kept : (kind : Kind) (pairs : Pairs) (forks : List Fork) (key : List ℕ) (c : ℕ) (f : Fork) (after : List Fork) → AreForks kind pairs key forks → f.depth ≡ length key → IsFork kind (behind_all key pairs) f (suc c) → Keeps f forks after → AreForks kind pairs (key ++ c ∷ []) after
forks_kept kind pairs forks key c f after on depth fork (inl k) = subst (AreForks kind pairs (key ++ c ∷ [])) (sym k.0) (forks_open kind pairs forks key c f on depth fork k.1)
forks_kept kind pairs forks key c f after on depth fork (inr k) = subst (AreForks kind pairs (key ++ c ∷ [])) (sym k.0) (forks_more kind pairs forks key c on (fork_over fork k.1))

-- the bytes that are left to read
pub found_room : (next : Option (Bor (List ℕ))) (after before most : ℕ) → IfSome next (λ target. length target.now + after < before) → before ≤ most → IsShorter most (Found next) after
found_room None after before most less low = tt
found_room (Some target) after before most less low = omega (arith, less, low)

pub found_within : (next : Option (Bor (List ℕ))) (after before most : ℕ) → IsShorter before (Found next) after → before ≤ most → IfSome next (λ target. length target.now + after ≤ most)
found_within None after before most less low = tt
found_within (Some target) after before most less low = omega (arith, less, low)

pub start_room : (found : Option (Bor (List ℕ))) (rest : List ℕ) (forks forks' : List Fork) (most : ℕ) → IsStart found rest forks forks' → IfSome found (λ r. length r.now + rooms (reverse forks) ≤ most) → length rest + rooms (reverse forks') ≤ most
start_room None rest forks forks' most is low = let gone = ap length is.0 in let none = ap (λ fs. rooms (reverse fs)) is.1 in omega (arith, gone, none)
start_room (Some found) rest forks forks' most is low = let same = ap length is.0 in let kept = ap (λ fs. rooms (reverse fs)) is.1 in omega (arith, same, kept, low)
