-- Files that killed builds left are removed one after another, and then a file is replaced.
use Rattle.std.proofs.Common.{◌≡◌, ◌⊎◌, ◌∙◌, ℕ, List, [], ◌∷◌, length, take, Option, Some, None, Result, Ok, Err, inl, inr, refl, subst}
use Rattle.std.specs.Prelude.{IfSome}
use Rattle.std.specs.declared.io.Error.{Error}
use Rattle.zerotrie_sealed.specs.Sealed.{magic}
use Rattle.zerotrie_files.specs.Deeds.{Deed, filled, moved, Did, Places, PlacesNone}
use Rattle.zerotrie_files.specs.declared.found.Mode.{Mode}
use Rattle.zerotrie_files.specs.Disks.{Files, Story, Known, Stays, Passes, Same, Gone, IsFront, RemovesHeld}
use Rattle.zerotrie_files.specs.Stores.{AreLeft, MayGo, IsBeside, IsOwnPath, IsCleared, Cleared, Clears, IsSpared, IsWholeAlone, RemovesLeft, ReplacesBeside}
use Rattle.zerotrie_files.proofs.BesideLemmas.{stays_here}
use Rattle.zerotrie_files.proofs.DeedLemmas.{did_then}
use Rattle.zerotrie_files.proofs.DiskLemmas.{known_then, known_by, passes_then, passes_by, is_path_or_not}
use Rattle.zerotrie_files.proofs.NameLemmas.{own_is_another}

-- where no file changes, none is gone
pub none_left : (path : List ℕ) (x y : Option Story) → Known x y Stays → Known x y (RemovesLeft path)
none_left path x y =
    known_by Stays (RemovesLeft path) x y (λ a b stays. passes_by (λ f. Same a.now f ⊎ (Gone path a.now f × MayGo (a.now path))) (Same a.now) a b (λ f s. inl s) stays)

pub none_cleared : (path : List ℕ) (x y : Option Story) → Known x y Stays → Known x y (Clears path)
none_cleared path x y = known_by Stays (Clears path) x y (λ a b stays. passes_by (Cleared path a.now) (Same a.now) a b (λ f s other. inl (s other)) stays)

-- and so where nothing is done
pub nothing_cleared : (path : List ℕ) (x : Option Story) → Known x x (Clears path)
nothing_cleared path x = none_cleared path x x (stays_here x)

left_may_go : (held : Option (List ℕ)) (bytes : List ℕ) → held ≡ Some bytes → AreLeft bytes → MayGo held
left_may_go held bytes is left = rw is left

gone_since : (path : List ℕ) (a b f : Files) → Same a b → MayGo (a path) → Same b f ⊎ Gone path b f → Same a f ⊎ (Gone path a f × MayGo (a path))
gone_since path a b f same may (inl stays) = inl (λ other. stays other ∙ same other)
gone_since path a b f same may (inr gone) = inr ((gone.0, λ other off. gone.1 other off ∙ same other), may)

removed_since : (path front : List ℕ) (r : Result (Unit {0}) Error) (a b c : Story) → take (length front) magic ≡ front → IsFront path front b → Stays a b → RemovesHeld path r b c → RemovesLeft path a c
removed_since path front r a b c begins is stays removes =
    let left : AreLeft is.0 = subst (λ f. take (length f) magic ≡ f) is.2 begins in
    let may : MayGo (a.now path) = subst MayGo (stays.ends path) (left_may_go (b.now path) is.0 is.1 left) in
    passes_then (λ f. Same a.now f ⊎ (Gone path a.now f × MayGo (a.now path))) (Same a.now) (λ f. Same b.now f ⊎ Gone path b.now f) a b c (λ f s. inl s)
    (λ f m. gone_since path a.now b.now f stays.ends may m) stays removes.0

-- a file that is held and was left is removed
pub held_removed : (path front : List ℕ) (r : Result (Unit {0}) Error) (x y z : Option Story) → take (length front) magic ≡ front → IfSome y (IsFront path front) → Known x y Stays
    → Known y z (RemovesHeld path r)
    → Known x z (RemovesLeft path)
held_removed path front r None y z begins is stays removes = tt
held_removed path front r (Some a) None z begins is stays removes = absurd stays
held_removed path front r (Some a) (Some b) None begins is stays removes = absurd removes
held_removed path front r (Some a) (Some b) (Some c) begins is stays removes = removed_since path front r a b c begins is stays removes

-- one file more is gone, or none
cleared_since : (path other : List ℕ) (a b f : Files) → IsCleared path other a b → IsCleared path other b f → IsCleared path other a f
cleared_since path other a b f (inl e) (inl s) = inl (s ∙ e)
cleared_since path other a b f (inl e) (inr m) = inr (m.0, subst MayGo e m.1, m.2)
cleared_since path other a b f (inr g) (inl s) = inr (s ∙ g.0, g.1, g.2)
cleared_since path other a b f (inr g) (inr m) = inr (m.0, g.1, g.2)

cleared_by : (path beside : List ℕ) (b f : Files) → IsBeside path beside → Same b f ⊎ (Gone beside b f × MayGo (b beside)) → Cleared path b f
cleared_by path beside b f near (inl same) = λ other. inl (same other)
cleared_by path beside b f near (inr gone) = λ other. elim (is_path_or_not beside other) [
  | inl e ↦ rw e (inr (gone.0.0, gone.1, near))
  | inr off ↦ inl (gone.0.1 other off)
]

-- a file that is gone, or not, is one of those that were left beside that of the path
pub clears_one : (path beside : List ℕ) (process number : ℕ) (x y : Option Story) → IsOwnPath path process number beside → Known x y (RemovesLeft beside) → Known x y (Clears path)
clears_one path beside process number x y own = let near : IsBeside path beside = (process, number, own) in known_by (RemovesLeft beside) (Clears path) x y
    (λ a b p. passes_by (Cleared path a.now) (λ f. Same a.now f ⊎ (Gone beside a.now f × MayGo (a.now beside))) a b (λ f m. cleared_by path beside a.now f near m) p)

pub clears_then : (path : List ℕ) (x y z : Option Story) → Known x y (Clears path) → Known y z (Clears path) → Known x z (Clears path)
clears_then path x y z = known_then (Clears path) (Clears path) (Clears path) x y z
    (λ a b c p q. passes_then (Cleared path a.now) (Cleared path a.now) (Cleared path b.now) a b c (λ f s. s)
    (λ f m other. cleared_since path other a.now b.now f (p.ends other) (m other)) p q)

-- the file of the path is not one of those that are gone
clear_path : (path : List ℕ) (a b : Files) → Cleared path a b → b path ≡ a path
clear_path path a b cleared = elim (cleared path) [
  | inl e ↦ e
  | inr g ↦ absurd (own_is_another path path g.2.0 g.2.1 g.2.2 refl)
]

spared_since : (path other : List ℕ) (a b f : Files) → IsCleared path other a b → IsSpared path other b f → IsSpared path other a f
spared_since path other a b f (inl e) (inl s) = inl (s ∙ e)
spared_since path other a b f (inl e) (inr m) = inr (subst MayGo e m.0, m.1)
spared_since path other a b f (inr g) s = inr (g.1, g.2)

cleared_spared : (path other : List ℕ) (a f : Files) → IsCleared path other a f → IsSpared path other a f
cleared_spared path other a f (inl e) = inl e
cleared_spared path other a f (inr g) = inr (g.1, g.2)

-- a file that is whole when others are gone was whole before, and at each moment
whole_cleared : (path bytes : List ℕ) (a f : Files) → Cleared path a f → IsWholeAlone path bytes a f
whole_cleared path bytes a f cleared = record { whole = inl (clear_path path a f cleared); others = λ other off. cleared_spared path other a f (cleared other) }

whole_since : (path bytes : List ℕ) (a b f : Files) → Cleared path a b → IsWholeAlone path bytes b f → IsWholeAlone path bytes a f
whole_since path bytes a b f cleared w = record {
  whole = elim w.whole [
    | inl e ↦ inl (e ∙ clear_path path a b cleared)
    | inr e ↦ inr e
  ];
  others = λ other off. spared_since path other a b f (cleared other) (w.others other off);
}

passes_cleared : (path bytes : List ℕ) (a b c : Story) → Clears path a b → Passes (IsWholeAlone path bytes b.now) b c → Passes (IsWholeAlone path bytes a.now) a c
passes_cleared path bytes a b c p q =
    passes_then (IsWholeAlone path bytes a.now) (Cleared path a.now) (IsWholeAlone path bytes b.now) a b c (λ f s. whole_cleared path bytes a.now f s)
    (λ f w. whole_since path bytes a.now b.now f p.ends w) p q

-- the file is replaced
pub replaced_after : (path bytes : List ℕ) (removed : ℕ) (x y z : Option Story) → Known x y (Clears path) → Known y z (ReplacesBeside {T = Unit {0}} {E = Error} path bytes (Ok tt))
    → Known x z (ReplacesBeside {T = ℕ} {E = Error} path bytes (Ok removed))
replaced_after path bytes removed x y z =
    known_then (Clears path) (ReplacesBeside {T = Unit {0}} {E = Error} path bytes (Ok tt)) (ReplacesBeside {T = ℕ} {E = Error} path bytes (Ok removed)) x y z
    (λ a b c p q. (
      passes_cleared path bytes a b c p q.0,
      (q.1.0, λ other off. cleared_since path other a.now b.now c.now (p.ends other) (q.1.1 other off)),
    ))

-- or it can't be
pub failed_after : (path bytes : List ℕ) (e : Error) (x y z : Option Story) → Known x y (Clears path) → Known y z (ReplacesBeside {T = Unit {0}} path bytes (Err e))
    → Known x z (ReplacesBeside {T = ℕ} path bytes (Err e))
failed_after path bytes e x y z =
    known_then (Clears path) (ReplacesBeside {T = Unit {0}} path bytes (Err e)) (ReplacesBeside {T = ℕ} path bytes (Err e)) x y z
    (λ a b c p q. (
      passes_cleared path bytes a b c p q.0,
      (
        q.1.0 ∙ clear_path path a.now b.now p.ends,
        λ kept other. cleared_since path other a.now b.now c.now (p.ends other) (q.1.1 kept other),
        λ other. spared_since path other a.now b.now c.now (p.ends other) (q.1.2 other),
      ),
    ))

pub places_after : (path : List ℕ) (mode : Option Mode) (bytes : List ℕ) (x y z : Option (List Deed)) → Did [] x y → Places path mode bytes y z → Places path mode bytes x z
places_after path mode bytes x y z did placed = (placed.0, placed.1, did_then [] (filled placed.0 mode bytes ∷ moved placed.0 path ∷ []) x y z did placed.2)

pub none_after : (bytes : List ℕ) (x y z : Option (List Deed)) → Did [] x y → PlacesNone bytes y z → PlacesNone bytes x z
none_after bytes x y z did (inl none) = inl (did_then [] [] x y z did none)
none_after bytes x y z did (inr one) = inr (one.0, one.1, did_then [] (filled one.0 one.1 bytes ∷ []) x y z did one.2)
