use Rattle.std.proofs.Common.{◌≡◌, [], ◌∙◌, ap, is_some, subst, sym}
use Rattle.zerotrie_base.specs.Kind.{kind_with}
use Rattle.zerotrie_base.specs.Maps.{Pairs}
use Rattle.zerotrie_core.specs.Machine.{after_steps}
use Rattle.zerotrie_core.specs.Places.{ListsAt, Place}
use Rattle.zerotrie_core.specs.CursorPlaces.{cursor_at}
use Rattle.zerotrie_search.specs.OtherKeys.{Other, has_at, IsAlong}
use Rattle.zerotrie_search.proofs.PlaceLemmas.{has_is}
use Rattle.zerotrie_search.proofs.keys_of.KeysOfAutomaton.is_match.Goals as goal

pub returns : goal.returns
returns c =
    let s : Other = record { kind = kind_with c.self.inside.options; bytes = c.self.inside.bytes.now } in
    let front = c.requires.0 in
    let means = c.self.invariant.1 in
    let along : IsAlong s front c.args.state = subst (λ o. IsAlong o front c.args.state) (sym c.self.view_is) c.requires.1 in
    let pairs : Pairs = after_steps s.kind front means.pairs in
    let place : Place = cursor_at s.bytes c.args.state in
    let lists : ListsAt s.kind place pairs = along means.pairs means.lists in
    subst (λ (o : Other). c.is_some.result ≡ has_at o.kind (cursor_at o.bytes c.args.state) []) c.self.view_is
    (c.is_some.ensures ∙ ap is_some (c.take_value.ensures.meaning s.kind pairs lists).0 ∙ sym (has_is s.kind place pairs lists []))
