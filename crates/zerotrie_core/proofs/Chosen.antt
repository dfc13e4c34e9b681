-- What `then_some` answers, by its test.
use Rattle.std.proofs.Common.{◌≡◌, true, false, refl, sym, subst}
use Rattle.std.specs.Prelude.{Bool, Option, Some, None}
use Rattle.std.specs.Bool.{then_some}

pub chosen : {T : Type 0} (P : Option T → Type 0) (b : Bool) (x : T) (r : Option T) → r ≡ then_some b x → (b ≡ true → P (Some x)) → (b ≡ false → P None) → P r
chosen P true x r is holds fails = subst P (sym is) (holds refl)
chosen P false x r is holds fails = subst P (sym is) (fails refl)
