-- Lines that are written one after another.
use Rattle.std.proofs.Common.{◌≡◌, ℕ, List, [], ◌++◌, Option, sym, ◌∙◌, ap, append-nil, subst}
use Rattle.std.specs.Io.KnownBytes.{Appends}
use Rattle.zerotrie_files.proofs.WroteLemmas.{Wrote}

-- all that was to be written
pub wrote_all : (a b : Option (List ℕ)) (rest all : List ℕ) → rest ≡ [] → Wrote a b rest all → Appends a b all
wrote_all a b rest all none w = subst (Appends a b) (sym (append-nil w.done) ∙ ap (λ l. w.done ++ l) (sym none) ∙ w.is) w.appends
