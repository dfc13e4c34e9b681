-- Tries to replace a file by way of a new one beside it, one after another.
use Rattle.std.proofs.Common.{◌≡◌, ◌≢◌, ◌⊎◌, ◌∙◌, ℕ, true, false, List, [], Option, Some, None, Ok, Err, inl, inr, sym, refl, append-nil}
use Rattle.std.proofs.lemmas.List.Elements.{All-nil}
use Rattle.std.specs.declared.io.Error.{Error}
use Rattle.zerotrie_files.specs.Disks.{Files, Story, Known, Passes, Same, Stays, IsWhole, Restores, Replaces}
use Rattle.zerotrie_files.specs.Stores.{IsBeside, Kept, MayGo, IsWholeAlone, ReplacesBeside}
use Rattle.zerotrie_files.proofs.DiskLemmas.{known_then, known_by, passes_then, passes_by, is_path_or_not}

-- where nothing was done, nothing changed
pub stays_here : (x : Option Story) → Known x x Stays
stays_here None = tt
stays_here (Some a) = record { between = []; is = sym (append-nil a.moments); each = All-nil (Same a.now); ends = λ path. refl }

same_then : (a b f : Files) → Same a b → Same b f → Same a f
same_then a b f one two path = two path ∙ one path

stays_then : (a b d : Story) → Stays a b → Stays b d → Stays a d
stays_then a b d one two =
    passes_then (Same a.now) (Same a.now) (Same b.now) a b d (λ f s. s) (λ f s. same_then a.now b.now f one.ends s) one two

-- a path that is taken, after others that were
pub still_stays : (path beside bytes : List ℕ) (x y z : Option Story) → Known x y Stays → Known y z (Replaces {E = Error} path beside bytes (Ok false)) → Known x z Stays
still_stays path beside bytes x y z = known_then Stays (Replaces {E = Error} path beside bytes (Ok false)) Stays x y z (λ a b d one two. stays_then a b d one two.1.1)

-- where no file changes, the file is whole
same_alone : (path bytes : List ℕ) (a f : Files) → Same a f → IsWholeAlone path bytes a f
same_alone path bytes a f same = record { whole = inl (same path); others = λ other off. inl (same other) }

-- where there is no file one may be made
free_may_go : (held : Option (List ℕ)) → held ≡ None → MayGo held
free_may_go None free = tt
free_may_go (Some bytes) free = cc

-- and where the path beside is free, it is whole too
whole_alone : (path beside bytes : List ℕ) (a b f : Files) → IsBeside path beside → Same a b → b beside ≡ None → IsWhole path beside bytes b f → IsWholeAlone path bytes a f
whole_alone path beside bytes a b f near same free w = record {
  whole = elim w.whole [ inl e ↦ inl (e ∙ same path) | inr e ↦ inr e ];
  others = λ other off. elim (is_path_or_not beside other) [
    | inl e ↦ inr (rw e (free_may_go (a beside) (sym (same beside) ∙ free)), rw e near)
    | inr far ↦ inl (w.others other off far ∙ same other)
  ];
}

-- a file that holds what it held is kept
kept_alone : (path bytes : List ℕ) (a d : Story) → d.now path ≡ a.now path → Restores a d → IsWholeAlone path bytes a.now d.now → Kept path a d
kept_alone path bytes a d same restores w = (same, λ kept other. inl (restores kept other), λ other. elim (is_path_or_not path other) [ inl e ↦ inl (rw e same) | inr off ↦ w.others other off ])

-- no path is tried, or all that are tried are taken
pub none_free : (path bytes : List ℕ) (e : Error) (x y : Option Story) → Known x y Stays → Known x y (ReplacesBeside {T = Unit {0}} path bytes (Err e))
none_free path bytes e x y = known_by Stays (ReplacesBeside {T = Unit {0}} path bytes (Err e)) x y
    (λ a b stays. (
      passes_by (IsWholeAlone path bytes a.now) (Same a.now) a b (λ f s. same_alone path bytes a.now f s) stays,
      kept_alone path bytes a b (stays.ends path) (λ kept. stays.ends) (same_alone path bytes a.now b.now stays.ends),
    ))

passes_alone : (path beside bytes : List ℕ) (a b d : Story) → IsBeside path beside → Stays a b → b.now beside ≡ None → Passes (IsWhole path beside bytes b.now) b d
    → Passes (IsWholeAlone path bytes a.now) a d
passes_alone path beside bytes a b d near stays free p =
    passes_then (IsWholeAlone path bytes a.now) (Same a.now) (IsWhole path beside bytes b.now) a b d (λ f s. same_alone path bytes a.now f s)
    (λ f w. whole_alone path beside bytes a.now b.now f near stays.ends free w) stays p

-- a path that is free, after others that are taken
pub one_free : (path beside bytes : List ℕ) (x y z : Option Story) → IsBeside path beside → Known x y Stays → Known y z (Replaces {E = Error} path beside bytes (Ok true))
    → Known x z (ReplacesBeside {T = Unit {0}} {E = Error} path bytes (Ok tt))
one_free path beside bytes x y z near = known_then Stays (Replaces {E = Error} path beside bytes (Ok true)) (ReplacesBeside {T = Unit {0}} {E = Error} path bytes (Ok tt)) x y z
    (λ a b d stays done. (
      passes_alone path beside bytes a b d near stays done.1.0 done.0,
      (done.1.1.0, λ other off. inl (done.1.1.1 other off ∙ stays.ends other)),
    ))

none_or_some : (o : Option (List ℕ)) → (o ≡ None) ⊎ (o ≢ None)
none_or_some None = inl refl
none_or_some (Some x) = inr (λ e. cc)

fails_free : (path beside bytes : List ℕ) (e : Error) (a b d : Story) → IsBeside path beside → Stays a b → b.now beside ≡ None → Replaces path beside bytes (Err e) b d
    → ReplacesBeside {T = Unit {0}} path bytes (Err e) a d
fails_free path beside bytes e a b d near stays free failed =
    let p = passes_alone path beside bytes a b d near stays free failed.0 in (
      p,
      kept_alone path bytes a d (failed.1.0 ∙ stays.ends path) (λ kept. same_then a.now b.now d.now stays.ends (failed.1.1 kept)) p.ends,
    )

-- one that fails, after others that are taken
pub one_fails : (path beside bytes : List ℕ) (e : Error) (x y z : Option Story) → IsBeside path beside → Known x y Stays → Known y z (Replaces path beside bytes (Err e))
    → Known x z (ReplacesBeside {T = Unit {0}} path bytes (Err e))
one_fails path beside bytes e x y z near = known_then Stays (Replaces path beside bytes (Err e)) (ReplacesBeside {T = Unit {0}} path bytes (Err e)) x y z
    (λ a b d stays failed. elim (none_or_some (b.now beside)) [
      | inl free ↦ fails_free path beside bytes e a b d near stays free failed
      | inr taken ↦ none_free path bytes e (Some a) (Some d) (stays_then a b d stays (failed.1.2 taken))
    ])
