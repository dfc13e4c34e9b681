use Rattle.std.proofs.Common.{◌≡◌, ℕ, List, false, subst, sym}
use Rattle.std.specs.Prelude.{not}
use Rattle.zerotrie_base.specs.Kind.{kind_with}
use Rattle.zerotrie_base.specs.Maps.{Pairs}
use Rattle.zerotrie_core.specs.Machine.{after_steps}
use Rattle.zerotrie_core.specs.Places.{ListsAt, Place}
use Rattle.zerotrie_core.specs.CursorPlaces.{cursor_at}
use Rattle.zerotrie_search.specs.OtherKeys.{Other, has_at, IsAlong}
use Rattle.zerotrie_search.proofs.PlaceLemmas.{has_none, not_false}
use Rattle.zerotrie_search.proofs.keys_of.KeysOfAutomaton.can_match.Goals as goal

pub returns : goal.returns
returns c =
    let s : Other = record { kind = kind_with c.self.inside.options; bytes = c.self.inside.bytes.now } in
    let front = c.requires.0 in
    let means = c.self.invariant.1 in
    let along : IsAlong s front c.args.state = subst (λ o. IsAlong o front c.args.state) (sym c.self.view_is) c.requires.1 in
    let pairs : Pairs = after_steps s.kind front means.pairs in
    let place : Place = cursor_at s.bytes c.args.state in
    let lists : ListsAt s.kind place pairs = along means.pairs means.lists in
    subst (λ (o : Other). not c.is_empty.result ≡ false → (key : List ℕ) → has_at o.kind (cursor_at o.bytes c.args.state) key ≡ false) c.self.view_is
    (λ none key. has_none s.kind place pairs lists
    ((c.is_empty.ensures.pairs s.kind pairs (subst (λ p. ListsAt s.kind p pairs) (sym c.cursor.ensures) lists)).0 (not_false c.is_empty.result none)) key)
