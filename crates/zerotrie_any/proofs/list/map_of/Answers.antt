use Rattle.std.proofs.Common.{arith, append-nil, ◌≡◌, [], ℕ, List, Vec, Global, ap, ◌∙◌, refl}
use Rattle.std.proofs.lemmas.Grind.{common_steps}
use Rattle.std.proofs.IntoIterSteps.{All-taken}
use Rattle.zerotrie_core.specs.Maps.{Pairs}
use Rattle.zerotrie_core.specs.Items.{keyed}
use Rattle.zerotrie_core.proofs.CallerLemmas.{put_all, meant_entries}
use Rattle.zerotrie_any.proofs.CollectedLemmas.{collected}
use Rattle.zerotrie_any.proofs.list.map_of.Goals as goal

abbrev items : List (Vec ℕ Global × ℕ) → Pairs
items = keyed (λ k. k.items)

pub returns-clause-listed : goal.returns-clause-listed
returns-clause-listed g c = λ m means.
    let done : c.loop-item.item-iterator.pairs ≡ [] = grind (arith, common_steps) in
    let all : items c.loop-item.pairs.items ≡ means.pairs = rw (done, append-nil) at (c.loop-item.invariant means.pairs means.lists) in
    let h = c.in_ok-from_iter.ensures.ran in
    let given = All-taken h.0 h.1 ((h.3.2 tt).0, (h.3.0, h.3.1, (h.3.2 tt).1)) ∙ h.2.0 in
    collected _ (λ k. k.items) (λ j k. refl) c.loop-item.pairs.items c.in_ok-from_iter.field-0 given h.4 ∙ ap (λ z. put_all z []) all ∙ meant_entries means
