-- A cursor that has made some calls of a walk, and has others left.
use Rattle.std.proofs.Common.{◌≡◌, ℕ, List, [], ◌∷◌, ◌++◌, refl, ◌∙◌, ap, append_assoc}
use Rattle.std.proofs.lemmas.List.{map-append}
use Rattle.zerotrie_core.specs.Kind.{Kind}
use Rattle.zerotrie_core.specs.Maps.{Pairs}
use Rattle.zerotrie_core.specs.Texts.{Lists}
use Rattle.zerotrie_core.specs.Machine.{run_one, run}
use Rattle.zerotrie_core.specs.Places.{Place, ListsAt}
use Rattle.zerotrie_any.specs.Walks.{op_of, ops_of, answer_of, answers_of, IsTurn}
use Rattle.zerotrie_any.specs.declared.walks.CursorOp.{CursorOp}
use Rattle.zerotrie_any.specs.declared.walks.CursorAnswer.{CursorAnswer}

-- The answers so far, and those of the machine to the calls that are left, are those of the machine to all.
abbrev pub Walked : Kind → List ℕ → List CursorOp → Place → List CursorAnswer → List CursorOp → Type 0
Walked kind bytes ops place done left = (pairs : Pairs) → Lists kind bytes pairs
    → (below : Pairs) × ListsAt kind place below × (answers_of done ++ run kind (ops_of left) below ≡ run kind (ops_of ops) pairs)

pub walked_none : (kind : Kind) (bytes : List ℕ) (ops : List CursorOp) → Walked kind bytes ops (record { run = []; trie = bytes }) [] ops
walked_none kind bytes ops pairs text = (pairs, text, refl)

pub walked_more : (kind : Kind) (bytes : List ℕ) (ops : List CursorOp) (place next : Place) (done : List CursorAnswer) (op : CursorOp) (answer : CursorAnswer) (left : List CursorOp)
    → Walked kind bytes ops place done (op ∷ left) → IsTurn kind (ListsAt kind place) op answer (ListsAt kind next) → Walked kind bytes ops next (done ++ answer ∷ []) left
walked_more kind bytes ops place next done op answer left w turn pairs text =
    let h = w pairs text in
    let one = turn h.0 h.1 in
    let more = run kind (ops_of left) (run_one kind (op_of op) h.0).1 in (
      (run_one kind (op_of op) h.0).1,
      one.1,
      ap (λ answers. answers ++ more) (map-append answer_of done (answer ∷ []))
          ∙ append_assoc (answers_of done) (answer_of answer ∷ []) more
          ∙ ap (λ a. answers_of done ++ a ∷ more) one.0
          ∙ h.2,
    )
