-- What a run has noted that was refused.
use Rattle.std.proofs.Common.{◌≡◌, arith, ℕ, Option, Some, None, Bool, true, false, Result, Ok, Err, Vec, Global, refl, ◌∙◌, ap, subst}
use Rattle.std.specs.Prelude.{◌<◌, is_none, unwrap_or}
use Rattle.std.specs.declared.alloc.AllocError.{AllocError}
use Rattle.zerotrie_run.specs.Statuses.{failure, number_of}
use Rattle.zerotrie_run.specs.Told.{ended}
use Rattle.zerotrie_run.specs.declared.status.Status.{Status}

failed_number : (read write closed : Bool) → number_of (failure read write closed) < 3 → ⊥
failed_number true write closed few = omega (arith, few)
failed_number false false closed few = omega (arith, few)
failed_number false true true few = omega (arith, few)
failed_number false true false few = omega (arith, few)

-- a run whose number is below 3 was refused
refused_by : (read write closed : Bool) (refusal : Option Status) (r : Result (Vec ℕ Global) AllocError) → number_of (ended (unwrap_or refusal (failure read write closed)) r) < 3 → is_none refusal ≡ false
refused_by read write closed None (Ok text) few = absurd (failed_number read write closed few)
refused_by read write closed None (Err e) few = absurd (omega (arith, few))
refused_by read write closed (Some s) r few = refl

pub was_refused : (read write closed : Bool) (refusal : Option Status) (status result : Status) (r : Result (Vec ℕ Global) AllocError) → status ≡ unwrap_or refusal (failure read write closed) → result ≡ ended status r
    → number_of result < 3 → is_none refusal ≡ false
was_refused read write closed refusal status result r is ends few = refused_by read write closed refusal r (subst (λ s. number_of s < 3) (ends ∙ ap (λ s. ended s r) is) few)
