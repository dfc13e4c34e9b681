-- Runs of literals that a key goes on with.
use Rattle.std.proofs.Common.{◌≡◌, ℕ, zero, suc, ◌+◌, ◌-◌, ◌<◌, ◌≤◌, List, [], ◌∷◌, length, drop, slice_index, refl, sym, ap, subst, ◌∙◌, arith, inl, inr}
use Rattle.std.proofs.lemmas.Bool.{cases_lt}
use Rattle.std.proofs.lemmas.List.{get_or-drop, length-drop}
use Rattle.zerotrie_base.specs.Kind.{Kind, fold_byte}
use Rattle.zerotrie_base.specs.Nodes.Shape.{literal}
use Rattle.zerotrie_base.specs.reader.Reading.{AlwaysComes}
use Rattle.zerotrie_core.specs.reader.Descending.{NodeGoes}
use Rattle.zerotrie_core.specs.reader.Literals.{AreCommon}
use Rattle.zerotrie_base.proofs.NodeLemmas.Nodes.{literal_shorter}
use Rattle.zerotrie_core.proofs.ReaderLemmas.Edges.{literal_along}
use Rattle.zerotrie_core.proofs.ReaderLemmas.LookUps.{comes_nowhere, comes_more, node_goes}

-- and more that are the same bytes
pub common_more : (kind : Kind) (bytes key : List ℕ) (n m : ℕ) → AreCommon kind bytes key n → n + m ≤ length bytes → n + m ≤ length key
    → ((k : ℕ) → k < m → (slice_index (drop n bytes) k < 128) × (slice_index (drop n bytes) k ≡ slice_index (drop n key) k)) → AreCommon kind bytes key (n + m)
common_more kind bytes key n m common p q all = record {
  within = p;
  short = q;
  literal = λ k h. elim (cases_lt k n) [
    | inl less ↦ common.literal k less
    | inr more ↦
        let e : n + (k - n) ≡ k = omega arith in
        subst (λ j. j < 128) (get_or-drop n bytes (k - n) 0 ∙ ap (slice_index bytes) e) (all (k - n) (omega arith)).0
  ];
  same = λ k h. elim (cases_lt k n) [
    | inl less ↦ common.same k less
    | inr more ↦
        let e : n + (k - n) ≡ k = omega arith in
        ap (fold_byte kind) (sym (get_or-drop n bytes (k - n) 0 ∙ ap (slice_index bytes) e) ∙ (all (k - n) (omega arith)).1 ∙ get_or-drop n key (k - n) 0 ∙ ap (slice_index key) e)
  ];
}

-- fewer of them
pub common_fewer : (kind : Kind) (bytes key : List ℕ) (n m : ℕ) → AreCommon kind bytes key n → m ≤ n → AreCommon kind bytes key m
common_fewer kind bytes key n m common few = record {
  within = omega (arith, common.within);
  short = omega (arith, common.short);
  literal = λ k h. common.literal k (omega arith);
  same = λ k h. common.same k (omega arith);
}

-- the look-up comes after them
pub literals_come : (kind : Kind) (n : ℕ) (bytes key : List ℕ) → AreCommon kind bytes key n → AlwaysComes kind bytes key (drop n bytes) (drop n key) n
literals_come kind zero bytes key common = comes_nowhere kind bytes key
literals_come kind (suc n) [] key common = absurd (omega (arith, common.within))
literals_come kind (suc n) (b ∷ rest) [] common = absurd (omega (arith, common.short))
literals_come kind (suc n) (b ∷ rest) (c ∷ after) common =
    let goes : AlwaysComes kind (b ∷ rest) (c ∷ after) rest after 1 = λ pairs text. (
    let g = literal_along kind b c rest (common.same zero (omega arith)) (b ∷ rest) pairs text (common.literal zero (omega arith), refl) in
    record { below = g.below; inner = g.inner; answers = g.answers after; counts = g.counts after }
    ) in
    let less : AreCommon kind rest after n = record {
      within = omega (arith, common.within);
      short = omega (arith, common.short);
      literal = λ k h. common.literal (suc k) (omega arith);
      same = λ k h. common.same (suc k) (omega arith);
    } in
    subst (AlwaysComes kind (b ∷ rest) (c ∷ after) (drop n rest) (drop n after)) (omega arith)
    (comes_more kind (b ∷ rest) (c ∷ after) rest after (drop n rest) (drop n after) 1 n goes (literals_come kind n rest after less))

-- and after the first one, that was told apart
pub literal_run : (kind : Kind) (b c : ℕ) (rest key after : List ℕ) (more : ℕ) → key ≡ c ∷ after → fold_byte kind b ≡ fold_byte kind c → AreCommon kind rest after more
    → NodeGoes kind (literal b rest) key (drop more rest) (drop more after) (1 + more)
literal_run kind b c rest key after more e same common bytes begins =
    let len = length-drop more rest in
    let whole = ap length begins.1 in
    let one = node_goes kind (literal b rest) c b key after rest e (literal_along kind b c rest same) (literal_shorter kind b rest) bytes begins in
    let within = common.within in
    (omega arith, omega arith, comes_more kind bytes key rest after (drop more rest) (drop more after) 1 more one.2 (literals_come kind more rest after common))
