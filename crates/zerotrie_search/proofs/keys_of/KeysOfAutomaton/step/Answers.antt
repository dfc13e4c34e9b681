use Rattle.std.proofs.Common.{◌≡◌, ◌∷◌, ◌++◌, [], ℕ, List, subst, sym}
use Rattle.zerotrie_base.specs.Kind.{kind_with}
use Rattle.zerotrie_base.specs.Maps.{Pairs}
use Rattle.zerotrie_core.specs.Machine.{after_steps}
use Rattle.zerotrie_core.specs.Places.{ListsAt, Place}
use Rattle.zerotrie_core.specs.CursorPlaces.{cursor_at}
use Rattle.zerotrie_search.specs.OtherKeys.{Other, has_at, IsAlong}
use Rattle.zerotrie_search.proofs.PlaceLemmas.{has_step, steps_more}
use Rattle.zerotrie_search.proofs.keys_of.KeysOfAutomaton.step.Goals as goal

pub returns-clause-after : goal.returns-clause-after
returns-clause-after c =
    let s : Other = record { kind = kind_with c.self.inside.options; bytes = c.self.inside.bytes.now } in
    subst (λ (o : Other). (front : List ℕ) → IsAlong o front c.args.state → IsAlong o (front ++ c.args.byte ∷ []) c.stepped_in.result) c.self.view_is
    (λ front along pairs lists. subst (ListsAt s.kind (cursor_at s.bytes c.stepped_in.result)) (sym (steps_more s.kind front c.args.byte pairs))
    (c.stepped_in.ensures (after_steps s.kind front pairs) (along pairs lists)))

pub returns-clause-is : goal.returns-clause-is
returns-clause-is c =
    let s : Other = record { kind = kind_with c.self.inside.options; bytes = c.self.inside.bytes.now } in
    let front = c.requires.0 in
    let means = c.self.invariant.1 in
    let along : IsAlong s front c.args.state = subst (λ o. IsAlong o front c.args.state) (sym c.self.view_is) c.requires.1 in
    let pairs : Pairs = after_steps s.kind front means.pairs in
    let place : Place = cursor_at s.bytes c.args.state in
    let lists : ListsAt s.kind place pairs = along means.pairs means.lists in
    subst (λ (o : Other). (key : List ℕ) → has_at o.kind (cursor_at o.bytes c.stepped_in.result) key ≡ has_at o.kind (cursor_at o.bytes c.args.state) (c.args.byte ∷ key)) c.self.view_is
    (λ key. has_step c.steps_look_ahead.ensures.pairs s.kind place (cursor_at s.bytes c.stepped_in.result) pairs lists c.args.byte (c.stepped_in.ensures pairs lists) key)
