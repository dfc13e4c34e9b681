use Rattle.std.proofs.Common.{◌≡◌, ◌∷◌, ◌++◌, [], sym, subst}
use Rattle.std.specs.Prelude.{◌≢◌}
use Rattle.zerotrie_base.specs.Kind.{kind_with}
use Rattle.zerotrie_base.specs.Maps.{behind_all}
use Rattle.zerotrie_core.specs.Places.{ListsAt}
use Rattle.zerotrie_core.specs.CursorPlaces.{cursor_at}
use Rattle.zerotrie_search.proofs.OrderLemmas.{behind_more}
use Rattle.zerotrie_search.proofs.sorted.back.move_back.Goals as goal

pub descend_last-requires : goal.descend_last-requires
descend_last-requires g c pairs lists =
    let kind = kind_with c.args.options in
    let bytes = c.args.bytes.now in
    let key = c.climb_back.new.key.items in
    let b = c.in-Edge.byte in
    let below = c.in-Edge.below in
    let t = c.in-Edge.ensures pairs lists in
    let p : c.push.new.self.items ≡ key ++ b ∷ [] = c.in_ok-push-in-Edge.ensures.items in (
      subst (λ k. ListsAt kind (cursor_at bytes below) (behind_all k pairs)) (sym p) (subst (λ ps. ListsAt kind (cursor_at bytes below) ps) (sym (behind_more key b pairs)) t.0),
      subst (λ k. behind_all k pairs ≢ []) (sym p) (subst (λ ps. ps ≢ []) (sym (behind_more key b pairs)) t.1),
    )
