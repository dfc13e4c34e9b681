use Rattle.std.proofs.Common.{◌≡◌, ◌∷◌, ◌++◌, ◌+◌, ◌∙◌, [], arith, ap, sym, subst, drop, take, slice_index, suc, append_assoc}
use Rattle.zerotrie_base.specs.Kind.{kind_with}
use Rattle.zerotrie_base.specs.Maps.{behind_all}
use Rattle.zerotrie_search.specs.Paths.{SameFrom}
use Rattle.zerotrie_search.proofs.OrderLemmas.{no_byte, split_at, take_more}
use Rattle.zerotrie_search.proofs.PathLemmas.{path_here, path_pushed}
use Rattle.zerotrie_search.proofs.sorted.path.follow.Goals as goal

pub returns-in_default-clause-follows : goal.returns-in_default-clause-follows
returns-in_default-clause-follows g c pairs lists tail =
    let kind = kind_with c.args.options in
    let key = c.loop-byte.key.items in
    let at = c.loop-byte.byte-index in
    let sought = c.args.sought.now in
    let byte = slice_index sought at in
    let i = c.loop-byte.invariant in
    let here = path_here kind c.args.bytes.now key c.loop-byte.places.items c.loop-byte.here pairs (i.1 pairs lists) in
    let e = c.in_default.ensures (behind_all key pairs) here in
    let rest = drop (suc at) sought in
    subst (λ x. SameFrom pairs x (key ++ byte ∷ [])) (ap (λ k. k ++ byte ∷ (rest ++ tail)) i.0 ∙ sym (append_assoc (take at sought) (byte ∷ rest) tail) ∙ ap (λ k. k ++ tail) (sym (split_at sought at c.loop-byte-test.true)))
    (no_byte pairs key byte (rest ++ tail) e)

pub loop-byte-preserved : goal.loop-byte-preserved
loop-byte-preserved g c =
    let kind = kind_with c.args.options in
    let bytes = c.args.bytes.now in
    let key = c.loop-byte.key.items in
    let places = c.loop-byte.places.items in
    let at = c.loop-byte.byte-index in
    let sought = c.args.sought.now in
    let byte = slice_index sought at in
    let i = c.loop-byte.invariant in
    let p = c.in_ok-push.ensures in
    let next : suc at ≡ at + 1 = omega arith in (
      p.0 ∙ ap (λ k. k ++ byte ∷ []) i.0 ∙ sym (take_more sought at c.loop-byte-test.true) ∙ ap (λ n. take n sought) next,
      (λ pairs lists. path_pushed kind bytes (key, places) (c.push.new.key.items, c.push.new.places.items) c.loop-byte.here c.push.new.here pairs byte c.in-Some.after p.0 p.1 p.2 (i.1 pairs lists)
          (c.in-Some.ensures (behind_all key pairs) (path_here kind bytes key places c.loop-byte.here pairs (i.1 pairs lists)))),
    )
