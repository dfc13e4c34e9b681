-- The result of a build.
use Rattle.std.specs.Prelude.{◌≡◌, ℕ, List}
use Rattle.zerotrie_base.specs.Kind.{Kind, IsAscii}
use Rattle.zerotrie_base.specs.Maps.{Pairs, map_of}
use Rattle.zerotrie_base.specs.Texts.{Means}
use Rattle.zerotrie_base.specs.Canonical.{enc}
use Rattle.zerotrie_base.specs.Fits.{Fits}

-- The bytes are a build of the pairs: their map fits the kind, the bytes mean it, and if the tables
-- of the kind are all sorted they are its only encoding.
pub record IsBuilt (kind : Kind) (pairs : Pairs) (bytes : List ℕ) : Type 0 where
  pub fits : Fits kind (map_of pairs)
  pub text : IsAscii kind → bytes ≡ enc kind (map_of pairs)
  pub means : Means kind bytes (map_of pairs)
