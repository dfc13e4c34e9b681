use Rattle.std.proofs.Common.{arith, append-nil, ◌≡◌, ◌∷◌, ◌++◌, [], ℕ, List, String, Global, ap, sym, subst, ◌∙◌, refl}
use Rattle.std.proofs.lemmas.Grind.{common_steps}
use Rattle.std.proofs.lemmas.List.{map-append, append_assoc}
use Rattle.std.proofs.IntoIterSteps.{All-taken}
use Rattle.std.specs.List.{AllByRecursion}
use Rattle.std.specs.Str.{IsUtf8}
use Rattle.std.specs.String.{string_bytes}
use Rattle.zerotrie_core.specs.Maps.{Pairs}
use Rattle.zerotrie_core.specs.Items.{keyed}
use Rattle.zerotrie_core.proofs.CallerLemmas.{put_all, meant_entries, listed_texts}
use Rattle.zerotrie_any.proofs.CollectedLemmas.{collected}
use Rattle.zerotrie_ascii.proofs.trie.AsciiTrie.to_btreemap.Goals as goal

abbrev items : List (String Global × ℕ) → Pairs
items = keyed (λ k. string_bytes k)

pub loop-item-init : goal.loop-item-init
loop-item-init g c = λ pairs text.
    let listed = c.iter-item-items.ensures.lists pairs text in
    let same : c.into_iter-item-iterator.result.pairs ≡ pairs = ap (λ l. l.pairs) (c.into_iter-item-iterator.ensures.into_iter_gives ∙ listed) in
    let none : items c.new-pairs.result.items ≡ [] = ap items c.new-pairs.ensures.items in
    rw (same, none) (refl, listed_texts g.met.K.AsciiKind.ascii text)

pub loop-item-preserved : goal.loop-item-preserved
loop-item-preserved g c = λ pairs text.
    let s : c.loop-item.item-iterator.pairs ≡ (string_bytes c.in_ok-item.field-0.0, c.in_ok-item.field-0.1) ∷ c.next.new.self.pairs = grind (arith, common_steps) in
    let kept = c.loop-item.invariant pairs text in
    let texts = subst (AllByRecursion (λ e. IsUtf8 e.0)) s kept.1 in
    let one = c.in_ok-item.field-0 in (
      ap (λ es. items es ++ c.next.new.self.pairs) c.in_ok-push.ensures.items
          ∙ ap (λ z. z ++ c.next.new.self.pairs) (map-append (λ e. (string_bytes e.0, e.1)) c.loop-item.pairs.items (one ∷ []))
          ∙ append_assoc (items c.loop-item.pairs.items) ((string_bytes one.0, one.1) ∷ []) c.next.new.self.pairs
          ∙ ap (λ z. items c.loop-item.pairs.items ++ z) (sym s) ∙ kept.0,
      texts.1,
    )

pub returns : goal.returns
returns g c = λ m means.
    let done : c.loop-item.item-iterator.pairs ≡ [] = grind (arith, common_steps) in
    let all : items c.loop-item.pairs.items ≡ means.pairs = rw (done, append-nil) at (c.loop-item.invariant means.pairs means.lists).0 in
    let h = c.in_ok-from_iter.ensures.ran in
    let given = All-taken h.0 h.1 ((h.3.2 tt).0, (h.3.0, h.3.1, (h.3.2 tt).1)) ∙ h.2.0 in
    collected _ (λ k. string_bytes k) (λ j k. refl) c.loop-item.pairs.items c.in_ok-from_iter.field-0 given h.4 ∙ ap (λ z. put_all z []) all ∙ meant_entries means
