-- Skipping the pairs whose keys begin with a front of the key in hand.
use Rattle.std.proofs.Common.{◌≡◌, ℕ, ◌≤◌, List, [], ◌∷◌, ◌++◌, length, refl, sym, ◌∙◌, ap, subst, arith, take, drop, append_assoc, Bool, true, false}
use Rattle.std.proofs.lemmas.List.{take-append-drop, take-take}
use Rattle.zerotrie_base.specs.Kind.{Kind}
use Rattle.zerotrie_base.specs.Maps.{Pairs, with_run}
use Rattle.zerotrie_core.specs.Skips.{Passes, Skips}
use Rattle.zerotrie_core.specs.listing.Listed.{listed}
use Rattle.zerotrie_core.specs.listing.Opened.{pairs_behind, pairs_open, pairs_left, left_in, Stands, Leaves}
use Rattle.zerotrie_core.specs.declared.stream.opened.OpenBranch.{OpenBranch}
use Rattle.zerotrie_core.proofs.ListingLemmas.Grouped.{entered_longer}
use Rattle.zerotrie_core.proofs.ListingLemmas.Left.{run_run, run_append, open_shorter, first_low, at_nothing, none_behind}

-- a longer front is the shorter one and more
front_in : (d e : ℕ) (key : List ℕ) (pairs : Pairs) → d ≤ e → with_run (take e key) pairs ≡ with_run (take d key) (with_run (drop d (take e key)) pairs)
front_in d e key pairs h =
    let parts : take d key ++ drop d (take e key) ≡ take e key = ap (λ front. front ++ drop d (take e key)) (sym (take-take d e key h)) ∙ take-append-drop d (take e key) in
    ap (λ front. with_run front pairs) (sym parts) ∙ sym (run_run (take d key) (drop d (take e key)) pairs)

key_in : (d : ℕ) (key : List ℕ) (pairs : Pairs) → with_run key pairs ≡ with_run (take d key) (with_run (drop d key) pairs)
key_in d key pairs = ap (λ front. with_run front pairs) (sym (take-append-drop d key)) ∙ sym (run_run (take d key) (drop d key) pairs)

passes_on : (front : List ℕ) (before mid after : Pairs) → Passes front before mid → Passes front mid after → Passes front before after
passes_on front before mid after p q = (
  p.0 ++ q.0,
  p.1 ∙ ap (λ ps. with_run front p.0 ++ ps) q.1 ∙ sym (append_assoc (with_run front p.0) (with_run front q.0) after) ∙ ap (λ ps. ps ++ after) (sym (run_append front p.0 q.0)),
)

-- the innermost branch is left
passes_branch : (kind : Kind) (d : ℕ) (key : List ℕ) (o : OpenBranch) (branches : List OpenBranch) → d ≤ o.depth → Stands (length key) (o ∷ branches)
    → Passes (take d key) (pairs_open kind key (o ∷ branches)) (pairs_open kind key branches)
passes_branch kind d key o branches h stands = (
  with_run (drop d (take o.depth key)) (pairs_behind kind o),
  ap (λ ps. ps ++ pairs_open kind (take o.depth key) branches) (front_in d o.depth key (pairs_behind kind o) h)
      ∙ ap (λ ps. with_run (take d key) (with_run (drop d (take o.depth key)) (pairs_behind kind o)) ++ ps) (open_shorter kind key o.depth branches stands.0.low (first_low o.depth branches stands.1)),
)

pub leaves_none : (d : ℕ) (branches : List OpenBranch) → Leaves d branches branches
leaves_none d branches = record { stands = λ len s. s; entered = λ kind key e are. are; passes = λ kind key s. ([], refl) }

-- the innermost one too
pub leaves_more : (d : ℕ) (old : List OpenBranch) (o p : OpenBranch) (branches : List OpenBranch) → d ≤ o.depth → Leaves d old (o ∷ p ∷ branches) → Leaves d old (p ∷ branches)
leaves_more d old o p branches h leaves = record {
  stands = λ len s. (
      let at = leaves.stands len s in
      let a = at.0.low in
      let b = at.1.0.low in
      (record { low = omega (arith, a, b); inside = at.1.0.inside; begins = at.1.0.begins }, at.1.2)
      );
  entered = λ kind key e are. (let at = leaves.entered kind key e are in entered_longer kind key o.depth e (p ∷ branches) at.0 at.2);
  passes = λ kind key s. passes_on (take d key) (pairs_open kind key old) (pairs_open kind key (o ∷ p ∷ branches)) (pairs_open kind key (p ∷ branches)) (leaves.passes kind key s)
      (passes_branch kind d key o (p ∷ branches) h (leaves.stands (length key) s));
}

-- or the last one, for which one without edges stands
pub leaves_all : (d : ℕ) (old : List OpenBranch) (o closed : OpenBranch) → d ≤ o.depth → closed.edges ≡ 0 → closed.next ≡ 0 → closed.depth ≡ 0 → Leaves d old (o ∷ []) → Leaves d old (closed ∷ [])
leaves_all d old o closed h edges next depth leaves = record {
  stands = λ len s. (record { low = omega arith; inside = omega arith; begins = λ some. absurd (omega arith) }, tt);
  entered = λ kind key e are. (omega arith, λ some. absurd (omega arith), tt);
  passes = λ kind key s. (
      let none : pairs_open kind key (closed ∷ []) ≡ [] = rw (none_behind kind closed (omega arith)) refl in
      subst (Passes (take d key) (pairs_open kind key old)) (sym none)
      (passes_on (take d key) (pairs_open kind key old) (pairs_open kind key (o ∷ [])) [] (leaves.passes kind key s) (passes_branch kind d key o [] h (leaves.stands (length key) s)))
      );
}

-- what comes next below the key in hand is skipped
passes_here : (kind : Kind) (d : ℕ) (key rest : List ℕ) (branches : List OpenBranch) → Passes (take d key) (pairs_left kind key rest branches) (pairs_open kind key branches)
passes_here kind d key rest branches = (with_run (drop d key) (listed kind rest), ap (λ ps. ps ++ pairs_open kind key branches) (key_in d key (listed kind rest)))

-- and what is left is what comes after it
pub skips_in : (ended : Bool) (kind : Kind) (key rest : List ℕ) (old new : List OpenBranch) (d : ℕ) → (ended ≡ false → Stands (length key) old) → Leaves d old new
    → Skips (take d key) (left_in ended kind key rest old) (left_in ended kind key [] new)
skips_in true kind key rest old new d stands leaves = record { passes = ([], refl); same = refl }
skips_in false kind key rest old new d stands leaves =
    let front = take d key in
    record {
      passes = subst (Passes front (pairs_left kind key rest old)) (sym (at_nothing kind key new))
          (passes_on front (pairs_left kind key rest old) (pairs_open kind key old) (pairs_open kind key new) (passes_here kind d key rest old) (leaves.passes kind key (stands refl)));
      same = refl;
    }
