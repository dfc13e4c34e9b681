-- What a build of all pairs of an iterator is, into the kind that is taken for them.
use Rattle.std.proofs.Common.{◌≡◌, List, ℕ, Result, Ok, Err, inl, inr, subst}
use Rattle.std.specs.Prelude.{IfOk}
use Rattle.zerotrie_core.specs.Kind.{Kind}
use Rattle.zerotrie_core.specs.Maps.{Pairs}
use Rattle.zerotrie_core.specs.Routes.{any_order, HasCause, IsBuild}
use Rattle.zerotrie_core.specs.declared.ZeroTrieBuildError.{ZeroTrieBuildError}
use Rattle.zerotrie_any.specs.Auto.{auto_kind, IsAutoBuildOfAll}

-- A build of the pairs is one of all that an iterator gives, if what holds of the pairs holds of all that it gives.
pub auto_of_all : {B : Type 0} {OfAll : (Pairs → Type 0) → Type 0} (kind_of : B → Kind) (bytes : B → List ℕ) (kind : Kind) (pairs : Pairs) (r : Result B ZeroTrieBuildError)
    → ((Fact : Pairs → Type 0) → Fact pairs → OfAll Fact) → kind ≡ auto_kind pairs → IfOk r (λ b. kind_of b ≡ kind) → IsBuild any_order kind bytes pairs r
    → IsAutoBuildOfAll OfAll kind_of bytes r
auto_of_all kind_of bytes kind pairs (Ok b) gives is of build =
    gives (λ p. (kind_of b ≡ auto_kind p) × IsBuild any_order (auto_kind p) bytes p (Ok b)) (subst (λ k. (kind_of b ≡ k) × IsBuild any_order k bytes pairs (Ok b)) is (of, build))
auto_of_all kind_of bytes kind pairs (Err e) gives is of refusal = elim refusal [
  | inl memory ↦ inl memory
  | inr cause ↦ inr (gives (λ p. HasCause any_order (auto_kind p) p e) (subst (λ k. HasCause any_order k pairs e) is cause))
]
