-- What a build answers for its pairs.
use Rattle.std.proofs.Common.{◌≡◌, ◌≢◌, ℕ, zero, suc, ◌<◌, ◌≤◌, ◌⊎◌, inl, inr, List, [], ◌∷◌, length, refl, sym, ◌∙◌, subst, arith, get_or, All, Result, Ok, Err}
use Rattle.std.proofs.lemmas.Bool.{cases_lt}
use Rattle.std.specs.Prelude.{Any, IfOk, IfErr}
use Rattle.zerotrie_base.specs.Kind.{Kind, IsAscii, edge_limit}
use Rattle.zerotrie_base.specs.Maps.{Pairs, map_of, Ascends, RepeatsKey}
use Rattle.zerotrie_base.specs.Texts.{Means}
use Rattle.zerotrie_base.specs.Fits.{ExceedsCapacity}
use Rattle.zerotrie_base.specs.Laws.{MeansFits, MeansCanonical}
use Rattle.zerotrie_base.specs.Causes.{Cause}
use Rattle.zerotrie_base.specs.Routes.{any_order, ascending, HasCause, IsBuild, IsRefusal}
use Rattle.zerotrie_base.specs.declared.error.ZeroTrieBuildError.{ZeroTrieBuildError}
use Rattle.zerotrie_base.specs.declared.error.ZeroTrieBuildError.TheVariants.{NonAsciiError, CapacityExceeded, CouldNotSolvePerfectHash, MixedCase, IllegalDelimiter, DuplicateKey, Unsorted, BufferTooSmall, BufferTooLarge, StackExceeded, OutOfMemory}
use Rattle.zerotrie_base.proofs.CallerLemmas.{ascends_apart}
use Rattle.zerotrie_build.specs.Order.{AreKeys}

module _ {X : Type 0} (P Q : X → Type 0) (decide : (x : X) → P x ⊎ Q x) where
  none_there : (k : ℕ) (d : X) → k < length (let none : List X = [] in none) → P d
  none_there k d h = let g : k < 0 = h in absurd (omega arith)

  with_more : (x : X) (xs : List X) → P x → All P xs → (k : ℕ) (d : X) → k < length (x ∷ xs) → P (get_or (x ∷ xs) k d)
  with_more x xs p all zero d h = p
  with_more x xs p all (suc k) d h = all k d (let g : suc k < suc (length xs) = h in omega arith)

  later : (x : X) (xs : List X) → Any Q xs → Any Q (x ∷ xs)
  later x xs a = (suc a.0, a.1, (let h = a.2 in let g : suc a.0 < suc (length xs) = omega arith in g), a.3, a.4)

  -- all are the one, or some is the other
  pub all_or_any : (xs : List X) → All P xs ⊎ Any Q xs
  all_or_any [] = inl none_there
  all_or_any (x ∷ xs) = elim (decide x) [
    | inl p ↦ elim (all_or_any xs) [ inl all ↦ inl (with_more x xs p all) | inr any ↦ inr (later x xs any) ]
    | inr q ↦ inr (0, x, (let g : 0 < suc (length xs) = omega arith in g), refl, q)
  ]

-- not all are bytes of the kind, so some byte is not
pub some_foreign : (kind : Kind) (pairs : Pairs) → (AreKeys kind pairs → ⊥) → Cause kind pairs NonAsciiError
some_foreign kind pairs none =
    elim (all_or_any (λ e. All (λ b. b < edge_limit kind) e.0) (λ e. Any (λ b. edge_limit kind ≤ b) e.0)
    (λ e. all_or_any (λ b. b < edge_limit kind) (λ b. edge_limit kind ≤ b) (λ b. cases_lt b (edge_limit kind)) e.0) pairs) [
      | inl all ↦ absurd (none all)
      | inr any ↦ any
    ]

-- an error is out of memory, or what holds of every other holds of it
pub memory_or : (P : Type 0) (e : ZeroTrieBuildError) → (e ≢ OutOfMemory → P) → (e ≡ OutOfMemory) ⊎ P
memory_or P OutOfMemory other = inl refl
memory_or P CapacityExceeded other = inr (other (λ e. cc))
memory_or P NonAsciiError other = inr (other (λ e. cc))
memory_or P CouldNotSolvePerfectHash other = inr (other (λ e. cc))
memory_or P MixedCase other = inr (other (λ e. cc))
memory_or P IllegalDelimiter other = inr (other (λ e. cc))
memory_or P DuplicateKey other = inr (other (λ e. cc))
memory_or P Unsorted other = inr (other (λ e. cc))
memory_or P BufferTooSmall other = inr (other (λ e. cc))
memory_or P (BufferTooLarge needed) other = inr (other (λ e. cc))
memory_or P StackExceeded other = inr (other (λ e. cc))

-- pairs with distinct keys that could not be measured
pub measured_refusal : (kind : Kind) (pairs : Pairs) (e : ZeroTrieBuildError) → (RepeatsKey pairs → ⊥)
    → (e ≢ OutOfMemory → (e ≡ CapacityExceeded) × ExceedsCapacity kind (map_of pairs)) → IsRefusal any_order kind pairs e
measured_refusal kind pairs e distinct refused =
    memory_or (HasCause any_order kind pairs e) e (λ other. let r = refused other in subst (HasCause any_order kind pairs) (sym r.0) ((λ same. cc), (distinct, r.1)))

-- what is written of pairs with distinct keys is a build of them
pub written_build : {S : Type 0} (kind : Kind) (list : S → List ℕ) (pairs : Pairs) (r : Result S ZeroTrieBuildError) → ((k : Kind) → MeansFits k) → ((k : Kind) → IsAscii k → MeansCanonical k)
    → (RepeatsKey pairs → ⊥) → IfOk r (λ s. Means kind (list s) (map_of pairs))
    → IfErr r (λ e. e ≢ OutOfMemory → (e ≡ CouldNotSolvePerfectHash) × Cause kind pairs e) → IsBuild any_order kind list pairs r
written_build kind list pairs (Ok s) fits canonical distinct means refused = (
  distinct,
  record {
    fits = fits kind (list s) (map_of pairs) means;
    text = λ ascii. canonical kind ascii (list s) (map_of pairs) means;
    means = means;
  },
)
written_build kind list pairs (Err e) fits canonical distinct means refused =
    memory_or (HasCause any_order kind pairs e) e (λ other. let r = refused other in ((λ same. let s : CouldNotSolvePerfectHash ≡ Unsorted = sym r.0 ∙ same in cc), r.1))

-- pairs that ascend are never refused as repeated
pub ascending_refusal : (kind : Kind) (pairs : Pairs) (e : ZeroTrieBuildError) → Ascends pairs → IsRefusal any_order kind pairs e → IsRefusal ascending kind pairs e
ascending_refusal kind pairs e up refusal = elim refusal [
  | inl memory ↦ inl memory
  | inr cause ↦ inr ((λ same. ascends_apart pairs up (subst (Cause kind pairs) same cause.1)), cause.1)
]

-- pairs with distinct keys could not be measured, so their length is refused
pub length_refusal : (kind : Kind) (pairs : Pairs) (e : ZeroTrieBuildError) → (RepeatsKey pairs → ⊥)
    → (e ≢ OutOfMemory → (e ≡ CapacityExceeded) × ExceedsCapacity kind (map_of pairs)) → IsRefusal any_order kind pairs e × (e ≢ CouldNotSolvePerfectHash)
length_refusal kind pairs e distinct refused = (
  measured_refusal kind pairs e distinct refused,
  λ same. let r = refused (λ memory. let x : CouldNotSolvePerfectHash ≡ OutOfMemory = sym same ∙ memory in cc) in let x : CouldNotSolvePerfectHash ≡ CapacityExceeded = sym same ∙ r.0 in cc,
)

-- the length of pairs that ascend, which are in one order or any
pub ascending_length : (kind : Kind) (pairs : Pairs) (e : ZeroTrieBuildError) → Ascends pairs → IsRefusal any_order kind pairs e × (e ≢ CouldNotSolvePerfectHash) → IsRefusal ascending kind pairs e × (e ≢ CouldNotSolvePerfectHash)
ascending_length kind pairs e up refused = (ascending_refusal kind pairs e up refused.0, refused.1)
