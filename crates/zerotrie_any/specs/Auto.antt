-- The kind that is taken for pairs, if none is named.
use Rattle.std.specs.Prelude.{◌≡◌, ℕ, ◌⊎◌, Bool, ◌&&◌, nat_lt, if◌then◌else◌, List, length, Result, Ok, Err}
use Rattle.std.specs.List.{list_all}
use Rattle.zerotrie_core.specs.Kind.{Kind, simple_ascii, perfect_hash}
use Rattle.zerotrie_core.specs.Maps.{Pairs}
use Rattle.zerotrie_core.specs.Routes.{any_order, HasCause, IsBuild}
use Rattle.zerotrie_core.specs.declared.ZeroTrieBuildError.{ZeroTrieBuildError}
use Rattle.zerotrie_core.specs.declared.ZeroTrieBuildError.TheVariants.{OutOfMemory}

-- whether every byte is below 128
abbrev pub is_ascii : List ℕ → Bool
is_ascii key = list_all (λ b. nat_lt b 128) key

-- whether every byte of every key is
abbrev pub are_ascii : Pairs → Bool
are_ascii pairs = list_all (λ e. is_ascii e.0) pairs

-- whether all keys are ASCII and there are fewer than 512
abbrev pub is_simple : Pairs → Bool
is_simple pairs = nat_lt (length pairs) 512 && are_ascii pairs

-- the kind that is taken for the pairs
abbrev pub auto_kind : Pairs → Kind
auto_kind pairs = if is_simple pairs then simple_ascii else perfect_hash

-- What a build answers of all pairs that an iterator gives, into the kind that is taken for them. If memory was
-- refused, it may not have given them all.
abbrev pub IsAutoBuildOfAll : {B : Type 0} → ((Pairs → Type 0) → Type 0) → (B → Kind) → (B → List ℕ) → Result B ZeroTrieBuildError → Type 0
IsAutoBuildOfAll OfAll kind bytes (Ok b) = OfAll (λ pairs. (kind b ≡ auto_kind pairs) × IsBuild any_order (auto_kind pairs) bytes pairs (Ok b))
IsAutoBuildOfAll OfAll kind bytes (Err e) = (e ≡ OutOfMemory) ⊎ OfAll (λ pairs. HasCause any_order (auto_kind pairs) pairs e)
