-- What a disk did by one call and then by the next.
use Rattle.std.proofs.Common.{◌≡◌, ◌⊎◌, ◌∙◌, ℕ, true, false, List, [], ◌∷◌, ◌++◌, Option, Some, None, Result, Ok, Err, OnOk, inl, inr, sym, ap, append_assoc, append-nil}
use Rattle.std.specs.declared.io.Error.{Error}
use Rattle.zerotrie_files.specs.declared.found.Mode.{Mode}
use Rattle.zerotrie_files.specs.declared.found.Found.{Found}
use Rattle.zerotrie_files.specs.declared.found.Found.TheVariants.{File}
use Rattle.zerotrie_files.specs.Stores.{IsBeside, names_open_file}
use Rattle.zerotrie_files.specs.Deeds.{Deed, filled, moved, Did, DoesOrFails, Gets, FillsAndMoves, FillsAndMovesIf, Places, PlacesNone, Reaches}
use Rattle.zerotrie_files.specs.Deeds.Reaches.{to_file}

pub did_nothing : (x : Option (List Deed)) → Did [] x x
did_nothing None = tt
did_nothing (Some deeds) = sym (append-nil deeds)

pub did_then : (first second : List Deed) (x y z : Option (List Deed)) → Did first x y → Did second y z → Did (first ++ second) x z
did_then first second None y z p q = tt
did_then first second (Some a) None z p q = absurd p
did_then first second (Some a) (Some b) None p q = absurd q
did_then first second (Some a) (Some b) (Some c) p q = q ∙ ap (λ t. t ++ second) p ∙ append_assoc a first second

-- a file that was filled takes the path, or does not
pub fills_then : (path beside : List ℕ) (mode : Option Mode) (bytes : List ℕ) (r : Result (Unit {0}) Error) (x y z : Option (List Deed)) → Did (filled beside mode bytes ∷ []) x y
    → DoesOrFails (moved beside path) r y z
    → FillsAndMoves path beside mode bytes r x z
fills_then path beside mode bytes (Ok u) x y z fills moves = did_then (filled beside mode bytes ∷ []) (moved beside path ∷ []) x y z fills moves
fills_then path beside mode bytes (Err e) x y z fills moves = inr (did_then (filled beside mode bytes ∷ []) [] x y z fills moves)

-- a new file was made and took the path
pub placed_if : (path beside : List ℕ) (mode : Option Mode) (bytes : List ℕ) (r : Result (Unit {0}) Error) (x y z : Option (List Deed)) → Did [] x y
    → FillsAndMoves path beside mode bytes r y z
    → r ≡ Ok tt
    → FillsAndMovesIf {E = Error} path beside mode bytes (Ok true) x z
placed_if path beside mode bytes r x y z made takes done =
    did_then [] (filled beside mode bytes ∷ moved beside path ∷ []) x y z made (rw done at takes)

one_more : (deed : Deed) (x y z : Option (List Deed)) → Did [] x y → Did [] y z ⊎ Did (deed ∷ []) y z → Did [] x z ⊎ Did (deed ∷ []) x z
one_more deed x y z first (inl second) = inl (did_then [] [] x y z first second)
one_more deed x y z first (inr second) = inr (did_then [] (deed ∷ []) x y z first second)

no_more : (deed : Deed) (x y z : Option (List Deed)) → Did [] x y ⊎ Did (deed ∷ []) x y → Did [] y z → Did [] x z ⊎ Did (deed ∷ []) x z
no_more deed x y z (inl first) second = inl (did_then [] [] x y z first second)
no_more deed x y z (inr first) second = inr (did_then (deed ∷ []) [] x y z first second)

-- it took none, and was removed
pub unplaced_if : (path beside : List ℕ) (mode : Option Mode) (bytes : List ℕ) (r : Result (Unit {0}) Error) (e : Error) (x y z u : Option (List Deed)) → Did [] x y
    → FillsAndMoves path beside mode bytes r y z
    → r ≡ Err e
    → Did [] z u
    → FillsAndMovesIf path beside mode bytes (Err e) x u
unplaced_if path beside mode bytes r e x y z u made takes failed removed =
    no_more (filled beside mode bytes) x z u (one_more (filled beside mode bytes) x y z made (rw failed at takes)) removed

-- after names that are taken, one that is free
pub places_then : (path beside : List ℕ) (mode : Option Mode) (bytes : List ℕ) (x y z : Option (List Deed)) → IsBeside path beside → Did [] x y
    → FillsAndMovesIf {E = Error} path beside mode bytes (Ok true) y z
    → Places path mode bytes x z
places_then path beside mode bytes x y z near tried done = (beside, near, did_then [] (filled beside mode bytes ∷ moved beside path ∷ []) x y z tried done)

-- or one that fails
pub none_then : (path beside : List ℕ) (mode : Option Mode) (bytes : List ℕ) (e : Error) (x y z : Option (List Deed)) → Did [] x y
    → FillsAndMovesIf path beside mode bytes (Err e) y z
    → PlacesNone bytes x z
none_then path beside mode bytes e x y z tried failed = elim (one_more (filled beside mode bytes) x y z tried failed) [
  | inl none ↦ inl none
  | inr one ↦ inr (beside, mode, one)
]

-- of what is not known all is so
pub gets_unknown : (path bytes : List ℕ) (r : Result (Unit {0}) Error) → Gets path bytes r None None
gets_unknown path bytes (Ok u) = tt
gets_unknown path bytes (Err e) = inl tt

pub placed_file : {T : Type 0} (Leads : Found → Type 0) (IsReal : List ℕ → Type 0) (path real bytes : List ℕ) (mode : Mode) (r : Result T Error) (x y : Option (List Deed)) → names_open_file path ≡ false
    → Leads (File mode)
    → IsReal real
    → OnOk r (Places real (Some mode) bytes x y)
    → OnOk r (Reaches Leads IsReal path bytes x y)
placed_file Leads IsReal path real bytes mode (Ok u) x y file leads is placed = to_file file mode real leads is placed
placed_file Leads IsReal path real bytes mode (Err e) x y file leads is placed = tt
