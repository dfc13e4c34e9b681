-- Some header fields, each with its number.
use Rattle.std.specs.Prelude.{[], ◌∷◌, codes}
use Rattle.zerotrie.specs.Maps.{Pairs}

abbrev pub fields : Pairs
fields =
    (codes "Accept", 0)
    ∷ (codes "Content-Length", 1)
    ∷ (codes "Content-Type", 2)
    ∷ (codes "DNT", 3)
    ∷ (codes "ETag", 4)
    ∷ (codes "Host", 5)
    ∷ (codes "TE", 6)
    ∷ (codes "WWW-Authenticate", 7)
    ∷ []
