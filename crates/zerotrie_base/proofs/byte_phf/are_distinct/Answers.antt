use Rattle.std.proofs.Common.{◌≡◌, ◌∷◌, ◌++◌, ap, subst, get_or, set, true, take, drop, arith, sym, ◌∙◌, eqb, ◌<◌, ◌+◌}
use Rattle.std.specs.List.{IsDistinct}
use Rattle.std.proofs.lemmas.List.{take_more, take-append-drop, drop_more}
use Rattle.zerotrie_base.specs.byte_phf.Search.{IsMarked}
use Rattle.zerotrie_base.proofs.ApartLemmas.{distinct_none}
use Rattle.zerotrie_base.proofs.MarkLemmas.{marked_none, marked_more, free_more, taken_not}
use Rattle.zerotrie_base.proofs.byte_phf.are_distinct.Goals as goal

pub loop-key-init : goal.loop-key-init
loop-key-init c = record { distinct = distinct_none; marked = marked_none }

pub returns-then-seen-key : goal.returns-then-seen-key
returns-then-seen-key c =
    let keys = c.args.keys.now in
    let i = c.loop-key.key-index in
    let below : get_or keys i 0 < 256 = omega (arith, c.type_inv.keys i) in
    let split : take i keys ++ get_or keys i 0 ∷ drop (i + 1) keys ≡ keys = ap (λ r. take i keys ++ r) (sym (drop_more keys i 0 c.loop-key-test.true)) ∙ take-append-drop i keys in
    (λ wrong. absurd (cc), λ d. absurd (taken_not (take i keys) c.loop-key.seen (get_or keys i 0) (drop (i + 1) keys) c.loop-key.invariant.marked below c.if-seen-key.true (subst (IsDistinct eqb) (sym split) d)))

pub loop-key-preserved : goal.loop-key-preserved
loop-key-preserved c =
    let keys = c.args.keys.now in
    let i = c.loop-key.key-index in
    let below : get_or keys i 0 < 256 = omega (arith, c.type_inv.keys i) in
    let more = take_more keys i 0 c.loop-key-test.true in
    record {
      distinct = subst (IsDistinct eqb) (sym more) (free_more (take i keys) c.loop-key.seen (get_or keys i 0) c.loop-key.invariant.marked below c.loop-key.invariant.distinct c.if-seen-key.false);
      marked = subst (λ ks. IsMarked ks (set c.loop-key.seen (get_or keys i 0) true)) (sym more) (marked_more (take i keys) c.loop-key.seen (get_or keys i 0) c.loop-key.invariant.marked below);
    }
