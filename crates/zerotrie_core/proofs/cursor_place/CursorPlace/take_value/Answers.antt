use Rattle.std.proofs.Common.{◌≡◌, ◌∙◌, ◌++◌, ◌-◌, [], ap, length, refl, subst, sym}
use Rattle.std.proofs.lemmas.List.{nil_from_length}
use Rattle.std.proofs.lemmas.Bool.{eqb-true, eqb-false}
use Rattle.zerotrie_core.specs.listing.Runs.{EndsWith}
use Rattle.zerotrie_core.specs.CursorPlaces.{parts_at}
use Rattle.zerotrie_core.proofs.CursorLemmas.Between.{moved, past_value, plain_place}
use Rattle.zerotrie_core.proofs.CursorLemmas.Calls.{inside_take}
use Rattle.zerotrie_core.proofs.cursor_place.CursorPlace.take_value.Goals as goal

pub returns-then-not-is_empty-clause-meaning : goal.returns-then-not-is_empty-clause-meaning
returns-then-not-is_empty-clause-meaning c kind =
    let place = c.within-place in
    rw place.ensures.same
    (inside_take kind (parts_at c.args.bytes.now place.result) (λ e. eqb-false _ _ (sym c.is_empty.ensures ∙ c.if-not-is_empty.true) (ap length (c.parts.ensures.run ∙ e))))

pub returns-clause-meaning : goal.returns-clause-meaning
returns-clause-meaning c kind =
    let bytes = c.args.bytes.now in
    let place = c.within-place in
    let trie = c.parts.result.1.now in
    let rest = c.take_value.new.bytes.now in
    let old = parts_at bytes place.result in
    let none : old.run ≡ [] = sym c.parts.ensures.run ∙ nil_from_length c.parts.result.0.now (eqb-true _ _ (sym c.is_empty.ensures ∙ c.if-not-is_empty.false)) in
    let before = plain_place old trie none (sym c.parts.ensures.trie) in
    let ends : EndsWith (old.run ++ old.trie) rest = subst (λ p. EndsWith (p.run ++ p.trie) rest) (sym before) c.in_ok-value.ensures.ends in
    let begin = place.result.end - length rest in
    let after = past_value bytes place.result (record { run = begin; trie = begin; end = place.result.end }) rest place.ensures.inside ends refl refl refl in
    rw (place.ensures.same ∙ before, moved bytes (record { run = begin; trie = begin; end = place.result.end }) (record { run = []; trie = rest }) after)
    (c.in_ok-value.ensures.meaning kind)

pub returns-clause-run : goal.returns-clause-run
returns-clause-run c =
    let bytes = c.args.bytes.now in
    let place = c.within-place in
    let trie = c.parts.result.1.now in
    let rest = c.take_value.new.bytes.now in
    let old = parts_at bytes place.result in
    let none : old.run ≡ [] = sym c.parts.ensures.run ∙ nil_from_length c.parts.result.0.now (eqb-true _ _ (sym c.is_empty.ensures ∙ c.if-not-is_empty.false)) in
    let before = plain_place old trie none (sym c.parts.ensures.trie) in
    let ends : EndsWith (old.run ++ old.trie) rest = subst (λ p. EndsWith (p.run ++ p.trie) rest) (sym before) c.in_ok-value.ensures.ends in
    let begin = place.result.end - length rest in
    let after = past_value bytes place.result (record { run = begin; trie = begin; end = place.result.end }) rest place.ensures.inside ends refl refl refl in
    rw (place.ensures.same ∙ before, moved bytes (record { run = begin; trie = begin; end = place.result.end }) (record { run = []; trie = rest }) after)
    refl
