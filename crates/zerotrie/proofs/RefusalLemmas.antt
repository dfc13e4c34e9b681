-- Why the length of a window's text is refused, and what it is.
use Rattle.std.proofs.Common.{◌≡◌, ℕ, ◌<◌, ◌≤◌, List, [], ◌∷◌, refl, sym, ap, subst, ◌∙◌, arith, Bool, true, inl, inr, length, get_or, zero, suc}
use Rattle.std.specs.Prelude.{◌≢◌, ◌*◌, ◌&&◌, filter, Any, is_some, not, nat_lt}
use Rattle.zerotrie_core.specs.Kind.{simple_ascii}
use Rattle.zerotrie_core.specs.Maps.{Pairs, Ascends, map_of, value_at}
use Rattle.zerotrie_core.specs.Canonical.{size, size_of}
use Rattle.zerotrie_core.specs.Fits.{ExceedsCapacity}
use Rattle.zerotrie_core.specs.Routes.{ascending, IsRefusal}
use Rattle.zerotrie_core.specs.declared.ZeroTrieBuildError.{ZeroTrieBuildError}
use Rattle.zerotrie_core.specs.declared.ZeroTrieBuildError.TheVariants.{NonAsciiError, CapacityExceeded, CouldNotSolvePerfectHash, MixedCase, IllegalDelimiter, DuplicateKey, Unsorted, BufferTooSmall, BufferTooLarge, StackExceeded, OutOfMemory}
use Rattle.zerotrie_core.proofs.CallerLemmas.{entries-map_of}
use Rattle.zerotrie.specs.dense.Layout.{is_dense}
use Rattle.zerotrie.specs.dense.RowFaults.{AreAsciiTexts, IsRowRefusal}
use Rattle.zerotrie.specs.dense.Windows.{within, without, in_window, inside, outside, offset}
use Rattle.zerotrie.specs.dense.Rows.{keys}
use Rattle.zerotrie.proofs.TextLemmas.{either}
use Rattle.zerotrie.proofs.BuildLemmas.{kept_ascends}

plain_kept : (q : ℕ → Bool) (pairs : Pairs) → AreAsciiTexts (keys pairs) → AreAsciiTexts (keys (filter (λ e. q e.1) pairs))
plain_kept q [] plain = tt
plain_kept q (e ∷ pairs) plain = elim (either (q e.1)) [
  | inl t ↦ rw t (plain.0, plain_kept q pairs plain.1)
  | inr f ↦ rw f (plain_kept q pairs plain.1)
]

plain_none : (pairs : Pairs) → AreAsciiTexts (keys pairs) → (k : ℕ) (x : List ℕ × ℕ) → k < length pairs → get_or pairs k x ≡ x → Any (λ b. 128 ≤ b) x.0 → ⊥
plain_none [] plain k x h is any = omega arith
plain_none (e ∷ pairs) plain zero x h is any = plain.0 (subst (λ p. Any (λ b. 128 ≤ b) p.0) (sym is) any)
plain_none (e ∷ pairs) plain (suc k) x h is any = plain_none pairs plain.1 k x (omega arith) is any

refused_by : (pairs row : Pairs) (e : ZeroTrieBuildError) → pairs ≡ inside row → Ascends pairs → AreAsciiTexts (keys pairs)
    → IsRefusal ascending simple_ascii pairs e → e ≢ CouldNotSolvePerfectHash → IsRowRefusal row e
refused_by pairs row OutOfMemory is ascends plain h searched = inl refl
refused_by pairs row CapacityExceeded is ascends plain h searched = elim h [
  | inl m ↦ inl m
  | inr c ↦ inr (refl, subst (λ p. ExceedsCapacity simple_ascii (map_of p)) is c.1.1)
]
refused_by pairs row NonAsciiError is ascends plain h searched = elim h [
  | inl m ↦ inl m
  | inr c ↦ absurd (plain_none pairs plain c.1.0 c.1.1 c.1.2 c.1.3 c.1.4)
]
refused_by pairs row MixedCase is ascends plain h searched = elim h [ inl m ↦ inl m | inr c ↦ absurd (c.1 (λ i d l j x m. refl)) ]
refused_by pairs row Unsorted is ascends plain h searched = elim h [ inl m ↦ inl m | inr c ↦ absurd (c.1 ascends) ]
refused_by pairs row DuplicateKey is ascends plain h searched = elim h [ inl m ↦ inl m | inr c ↦ absurd (c.0 refl) ]
refused_by pairs row CouldNotSolvePerfectHash is ascends plain h searched = absurd (searched refl)
refused_by pairs row IllegalDelimiter is ascends plain h searched = elim h [ inl m ↦ inl m | inr c ↦ absurd c.1 ]
refused_by pairs row BufferTooSmall is ascends plain h searched = elim h [ inl m ↦ inl m | inr c ↦ absurd c.1 ]
refused_by pairs row (BufferTooLarge n) is ascends plain h searched = elim h [ inl m ↦ inl m | inr c ↦ absurd c.1 ]
refused_by pairs row StackExceeded is ascends plain h searched = elim h [ inl m ↦ inl m | inr c ↦ absurd c.1 ]

-- a refusal of the length of a window's text is one of the row
pub row_refused : (pairs row : Pairs) (start : ℕ) (e : ZeroTrieBuildError) → pairs ≡ within start row → start ≡ offset row → Ascends row → AreAsciiTexts (keys row)
    → IsRefusal ascending simple_ascii pairs e → e ≢ CouldNotSolvePerfectHash → IsRowRefusal row e
row_refused pairs row start e is at ascends plain h searched =
    let own : pairs ≡ inside row = is ∙ ap (λ s. within s row) at in
    refused_by pairs row e own (subst Ascends (sym is) (kept_ascends (in_window start) row ascends)) (subst (λ p. AreAsciiTexts (keys p)) (sym is) (plain_kept (in_window start) row plain)) h searched

-- and the length is that of the ascending pairs
pub window_size : (pairs row : Pairs) (start n : ℕ) → pairs ≡ within start row → Ascends row → n ≡ size simple_ascii (map_of pairs) → n ≡ size_of simple_ascii (within start row)
unfolding size
window_size pairs row start n is ascends h =
    h ∙ ap (λ p. size simple_ascii (map_of p)) is ∙ ap (size_of simple_ascii) (entries-map_of (within start row) (kept_ascends (in_window start) row ascends))

-- a row is dense by the length of its window's text and the empty suffix
pub dense_is : (columns len start : ℕ) (row : Pairs) (out : Bool) → start ≡ offset row → len ≡ size_of simple_ascii (within start row) → 2 * columns < len
    → out ≡ is_some (value_at simple_ascii (without start row) []) → not out ≡ is_dense columns row
dense_is columns len start row out at size_is below is =
    let n : len ≡ size_of simple_ascii (inside row) = size_is ∙ ap (λ s. size_of simple_ascii (within s row)) at in
    let test : nat_lt (2 * columns) (size_of simple_ascii (inside row)) ≡ true = (let wide : 2 * columns < size_of simple_ascii (inside row) = omega (arith, n, below) in grind (arith, wide)) in
    ap not (is ∙ ap (λ s. is_some (value_at simple_ascii (without s row) [])) at)
    ∙ sym (ap (λ b. b && not (is_some (value_at simple_ascii (outside row) []))) test)
