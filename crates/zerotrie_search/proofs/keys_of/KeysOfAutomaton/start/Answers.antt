use Rattle.std.proofs.Common.{◌≡◌, ◌∙◌, ℕ, List, ap, subst}
use Rattle.zerotrie_base.specs.Kind.{kind_with}
use Rattle.zerotrie_core.specs.CursorPlaces.{cursor_at}
use Rattle.zerotrie_search.specs.OtherKeys.{Other, has_key, has_at}
use Rattle.zerotrie_search.proofs.PlaceLemmas.{has_start}
use Rattle.zerotrie_search.proofs.keys_of.KeysOfAutomaton.start.Goals as goal

pub returns-clause-is : goal.returns-clause-is
returns-clause-is c =
    let s : Other = record { kind = kind_with c.self.inside.options; bytes = c.self.inside.bytes.now } in
    subst (λ (o : Other). (key : List ℕ) → has_at o.kind (cursor_at o.bytes c.new.result) key ≡ has_key o key) c.self.view_is
    (λ key. ap (λ p. has_at s.kind p key) c.new.ensures.start ∙ has_start s key)
