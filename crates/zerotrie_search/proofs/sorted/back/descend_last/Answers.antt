use Rattle.std.proofs.Common.{◌≡◌, ◌∷◌, ◌++◌, [], arith, sym, subst, None}
use Rattle.std.specs.Prelude.{◌≢◌}
use Rattle.zerotrie_base.specs.Kind.{kind_with}
use Rattle.zerotrie_base.specs.Maps.{behind_all}
use Rattle.zerotrie_core.specs.Places.{ListsAt}
use Rattle.zerotrie_core.specs.CursorPlaces.{cursor_at}
use Rattle.zerotrie_search.specs.Lasts.{Agree, is_beyond}
use Rattle.zerotrie_search.proofs.OrderLemmas.{edge_leads, behind_more}
use Rattle.zerotrie_search.proofs.PathLemmas.{key_short}
use Rattle.zerotrie_search.proofs.LastLemmas.{agree_more, to_last_edge, last_here}
use Rattle.zerotrie_search.proofs.sorted.back.descend_last.Goals as goal

pub returns-in_default : goal.returns-in_default
returns-in_default g c pairs lists =
    let kind = kind_with c.args.options in
    let key = c.loop-options.key.items in
    let i = c.loop-options.invariant pairs lists in
    let e = c.in_default.ensures (behind_all key pairs) i.0.0 in
    let m = c.take_value.ensures.meaning kind (behind_all key pairs) i.0.0 in
    last_here kind pairs c.args.key.now.items key c.take_value.result m.0 e.0 i.0.1 i.1

pub loop-options-preserved : goal.loop-options-preserved
loop-options-preserved g c pairs lists =
    let kind = kind_with c.args.options in
    let bytes = c.args.bytes.now in
    let key = c.loop-options.key.items in
    let b = c.in-Some.byte in
    let below = c.in-Some.below in
    let p : c.push.new.self.items ≡ key ++ b ∷ [] = c.in_ok-push.ensures.items in
    let i = c.loop-options.invariant pairs lists in
    let e = c.in-Some.ensures (behind_all key pairs) i.0.0 in (
      (
        subst (λ k. ListsAt kind (cursor_at bytes below) (behind_all k pairs)) (sym p) (subst (λ ps. ListsAt kind (cursor_at bytes below) ps) (sym (behind_more key b pairs)) e.1),
        subst (λ k. behind_all k pairs ≢ []) (sym p) (subst (λ ps. ps ≢ []) (sym (behind_more key b pairs)) (edge_leads (behind_all key pairs) b e.0.1)),
      ),
      subst (λ k. Agree pairs (is_beyond c.args.key.now.items) (is_beyond k)) (sym p)
          (agree_more pairs (is_beyond c.args.key.now.items) (is_beyond key) (is_beyond (key ++ b ∷ [])) i.1 (to_last_edge pairs key None b e.0)),
    )

pub returns : goal.returns
returns g c pairs lists =
    let i = c.loop-options.invariant pairs lists in
    let short = key_short lists c.loop-options.key.items i.0.1 in
    absurd (omega (arith, short, c.loop-options-test.false, c.len.ensures))
