use Rattle.std.proofs.Common.{◌≡◌, ◌∷◌, ◌++◌, ◌∙◌, [], ap, sym, subst, None, take, ◌-◌}
use Rattle.zerotrie_base.specs.Kind.{kind_with, simple_ascii}
use Rattle.zerotrie_base.specs.Maps.{behind_all, value_at}
use Rattle.zerotrie_search.specs.Paths.{IsPath, is_from}
use Rattle.zerotrie_search.specs.Lasts.{is_beyond, is_past}
use Rattle.zerotrie_search.proofs.OrderLemmas.{edge_leads, from_none, value_exact, value_here}
use Rattle.zerotrie_search.proofs.PathLemmas.{path_here, path_pop, path_none}
use Rattle.zerotrie_search.proofs.LastLemmas.{agree_more, to_last_edge, to_value, to_place}
use Rattle.zerotrie_search.proofs.sorted.back.climb_back.Goals as goal

pub returns-in-Some : goal.returns-in-Some
returns-in-Some g c pairs lists =
    let kind = kind_with c.args.options in
    let key = c.loop-byte.key.items in
    let i = c.loop-byte.invariant in
    let e = c.in-Some.ensures (behind_all key pairs) (path_here kind c.args.bytes.now key c.loop-byte.places.items c.loop-byte.at pairs (i.0 pairs lists)) in (
      e.1,
      edge_leads (behind_all key pairs) c.in-Some.byte e.0.1,
      agree_more pairs (is_past c.args.key.now.items c.args.limit) (is_past key c.loop-byte.limit) (is_beyond (key ++ c.in-Some.byte ∷ [])) (i.1 pairs lists) (to_last_edge pairs key c.loop-byte.limit c.in-Some.byte e.0),
    )

pub returns-in-Some-take_value : goal.returns-in-Some-take_value
returns-in-Some-take_value g c pairs lists =
    let kind = kind_with c.args.options in
    let key = c.loop-byte.key.items in
    let i = c.loop-byte.invariant in
    let here = path_here kind c.args.bytes.now key c.loop-byte.places.items c.loop-byte.at pairs (i.0 pairs lists) in
    let e = c.in_default.ensures (behind_all key pairs) here in
    let m = c.in-Some-take_value.ensures.meaning kind (behind_all key pairs) here in
    (sym (m.0 ∙ value_here kind key pairs), agree_more pairs (is_past c.args.key.now.items c.args.limit) (is_past key c.loop-byte.limit) (is_from (key ++ 0 ∷ [])) (i.1 pairs lists) (to_value pairs key c.loop-byte.limit e.0))

pub returns-in_default-pop : goal.returns-in_default-pop
returns-in_default-pop g c pairs lists =
    let kind = kind_with c.args.options in
    let bytes = c.args.bytes.now in
    let key = c.loop-byte.key.items in
    let i = c.loop-byte.invariant in
    let path = i.0 pairs lists in
    let here = path_here kind bytes key c.loop-byte.places.items c.loop-byte.at pairs path in
    let e = c.in_default.ensures (behind_all key pairs) here in
    let m = c.in_default-take_value.ensures.meaning kind (behind_all key pairs) here in
    let empty : value_at simple_ascii (behind_all key pairs) [] ≡ None = sym (value_exact kind (behind_all key pairs)) ∙ sym m.0 in
    let pop = c.in_default-pop.ensures in
    let rest : c.pop.new.self.items ≡ [] = pop.rest ∙ ap (λ n. take (n - 1) c.loop-byte.places.items) pop.cases.0 in
    let none : c.loop-byte.places.items ≡ [] = pop.items ∙ ap (λ x. x ++ []) rest in
    let top : key ≡ [] = path_none kind bytes key c.loop-byte.at pairs (subst (λ ps. IsPath kind bytes key ps c.loop-byte.at pairs) none path) in
    (λ q v there. i.1 pairs lists q v there ∙ to_place pairs key c.loop-byte.limit e.0 empty q v there ∙ ap (λ k. is_from k q) top ∙ from_none q)

pub loop-byte-preserved : goal.loop-byte-preserved
loop-byte-preserved g c =
    let kind = kind_with c.args.options in
    let bytes = c.args.bytes.now in
    let key = c.loop-byte.key.items in
    let front = c.pop-in-loop-byte.new.self.items in
    let places = c.pop.new.self.items in
    let at = c.loop-byte.at in
    let place = c.in-Some-pop.place in
    let byte = c.in-Some-pop-2.byte in
    let i = c.loop-byte.invariant in
    let key_is : key ≡ front ++ byte ∷ [] = c.in-Some-pop-2.ensures.items in
    let places_are : c.loop-byte.places.items ≡ places ++ place ∷ [] = c.in-Some-pop.ensures.items in (
      (λ pairs lists. path_pop kind bytes front places at place pairs byte
          (subst (λ k. IsPath kind bytes k (places ++ place ∷ []) at pairs) key_is (subst (λ ps. IsPath kind bytes key ps at pairs) places_are (i.0 pairs lists)))),
      (λ pairs lists q v there.
          (let here = path_here kind bytes key c.loop-byte.places.items at pairs (i.0 pairs lists) in
          let e = c.in_default.ensures (behind_all key pairs) here in
          let m = c.in_default-take_value.ensures.meaning kind (behind_all key pairs) here in
          let empty : value_at simple_ascii (behind_all key pairs) [] ≡ None = sym (value_exact kind (behind_all key pairs)) ∙ sym m.0 in
          i.1 pairs lists q v there ∙ to_place pairs key c.loop-byte.limit e.0 empty q v there ∙ ap (λ k. is_from k q) key_is)),
    )
