-- The request methods, each with its number.
use Rattle.std.specs.Prelude.{[], ◌∷◌, codes}
use Rattle.zerotrie.specs.Maps.{Pairs}

abbrev pub methods : Pairs
methods =
    (codes "CONNECT", 0)
    ∷ (codes "DELETE", 1)
    ∷ (codes "GET", 2)
    ∷ (codes "HEAD", 3)
    ∷ (codes "OPTIONS", 4)
    ∷ (codes "PATCH", 5)
    ∷ (codes "POST", 6)
    ∷ (codes "PUT", 7)
    ∷ (codes "TRACE", 8)
    ∷ []
