-- Calls to a disk, one after another.
use Rattle.std.proofs.Common.{◌≡◌, ◌≢◌, ◌⊎◌, ◌∙◌, ℕ, Bool, true, false, Decides, bytes_eq, refl, true≢false, List, ◌++◌, Option, Some, None, Result, Ok, Err, MatchResult, inl, inr, sym, ap, append_assoc}
use Rattle.std.specs.declared.io.Error.{Error}
use Rattle.std.proofs.lemmas.List.Elements.{All-append, All-weaker}
use Rattle.std.proofs.lemmas.Slice.Eq.{bytes_eq-Decides}
use Rattle.zerotrie_files.specs.Disks.{Files, Story, Known, Passes, SameBeside, Same, Moved, Holds, Makes, Fills, Renames, Removes, IsWhole, TakesPath, Replaces}

-- what holds over a call and over the next
pub known_then : (F G H : Story → Story → Type 0) (x y z : Option Story) → ((a b c : Story) → F a b → G b c → H a c) → Known x y F → Known y z G → Known x z H
known_then F G H None y z join f g = tt
known_then F G H (Some a) None z join f g = absurd f
known_then F G H (Some a) (Some b) None join f g = absurd g
known_then F G H (Some a) (Some b) (Some c) join f g = join a b c f g

pub known_by : (F H : Story → Story → Type 0) (x y : Option Story) → ((a b : Story) → F a b → H a b) → Known x y F → Known x y H
known_by F H None y by f = tt
known_by F H (Some a) None by f = absurd f
known_by F H (Some a) (Some b) by f = by a b f

-- moments of a call and then those of the next
pub passes_then : (Fact First Second : Files → Type 0) (a b c : Story) → ((f : Files) → First f → Fact f) → ((f : Files) → Second f → Fact f) → Passes First a b → Passes Second b c
    → Passes Fact a c
passes_then Fact First Second a b c one two p q = record {
  between = p.between ++ q.between;
  is = q.is ∙ ap (λ m. m ++ q.between) p.is ∙ append_assoc a.moments p.between q.between;
  each = All-append Fact p.between q.between (All-weaker First Fact one p.between p.each) (All-weaker Second Fact two q.between q.each);
  ends = two c.now q.ends;
}

pub passes_by : (Fact First : Files → Type 0) (a b : Story) → ((f : Files) → First f → Fact f) → Passes First a b → Passes Fact a b
passes_by Fact First a b one p = record { between = p.between; is = p.is; each = All-weaker First Fact one p.between p.each; ends = one b.now p.ends }

-- while another file changes, the file is whole
pub whole_beside : (path beside bytes : List ℕ) (old f : Files) → beside ≢ path → SameBeside beside old f → IsWhole path beside bytes old f
whole_beside path beside bytes old f apart same = record {
  whole = inl (same path (λ e. apart (sym e)));
  others = λ other _ far. same other far;
}

-- and it stays so
pub whole_still : (path beside bytes : List ℕ) (old now f : Files) → beside ≢ path → IsWhole path beside bytes old now → SameBeside beside now f → IsWhole path beside bytes old f
whole_still path beside bytes old now f apart w same = record {
  whole = elim w.whole [
    | inl e ↦ inl (same path (λ e. apart (sym e)) ∙ e)
    | inr e ↦ inr (same path (λ e. apart (sym e)) ∙ e)
  ];
  others = λ other off far. same other far ∙ w.others other off far;
}

-- a file that holds the bytes takes the path
pub whole_moved : (path beside bytes : List ℕ) (old now f : Files) → beside ≢ path → SameBeside beside old now → now beside ≡ Some bytes → Same now f ⊎ Moved beside path now f
    → IsWhole path beside bytes old f
whole_moved path beside bytes old now f apart same holds (inl stays) = record {
  whole = inl (stays path ∙ same path (λ e. apart (sym e)));
  others = λ other _ far. stays other ∙ same other far;
}
whole_moved path beside bytes old now f apart same holds (inr moved) = record {
  whole = inr (moved.there ∙ holds);
  others = λ other off far. moved.others other far off ∙ same other far;
}

decided : (b : Bool) (P : Type 0) → Decides b P → P ⊎ (P → ⊥)
decided true P h = inl (h.0 refl)
decided false P h = inr (λ p. absurd (true≢false (sym (h.1 p))))

-- a path is another or not
pub is_path_or_not : (path other : List ℕ) → (other ≡ path) ⊎ (other ≢ path)
is_path_or_not path other = decided (bytes_eq other path) (other ≡ path) (bytes_eq-Decides other path)

-- the file of the path holds the bytes, and there is none beside it as before
holds_alone : (path beside bytes : List ℕ) (old f : Files) → IsWhole path beside bytes old f → old beside ≡ None → f beside ≡ None → f path ≡ Some bytes → Holds path bytes old f
holds_alone path beside bytes old f w was is holds = (
  holds,
  λ other off. elim (is_path_or_not beside other) [
    | inl e ↦ rw e (is ∙ sym was)
    | inr far ↦ w.others other off far
  ],
)

-- a file that can't be filled takes no path
fills_not : (path beside bytes : List ℕ) (e : Error) (a b : Story) → beside ≢ path → Fills {T = Unit {0}} beside bytes (Err e) a b → TakesPath {T = Unit {0}} path beside bytes (Err e) a b
fills_not path beside bytes e a b apart fills = (
  passes_by (IsWhole path beside bytes a.now) (SameBeside beside a.now) a b (λ f s. whole_beside path beside bytes a.now f apart s) fills.0,
  fills.0.ends path (λ i. apart (sym i)),
)

pub filled_alone : (path beside bytes : List ℕ) (e : Error) (x y : Option Story) → beside ≢ path → Known x y (Fills {T = Unit {0}} beside bytes (Err e))
    → Known x y (TakesPath {T = Unit {0}} path beside bytes (Err e))
filled_alone path beside bytes e x y apart fills =
    known_by (Fills {T = Unit {0}} beside bytes (Err e)) (TakesPath {T = Unit {0}} path beside bytes (Err e)) x y (λ a b h. fills_not path beside bytes e a b apart h) fills

passes_moved : (path beside bytes : List ℕ) (r : Result (Unit {0}) Error) (a b d : Story) → beside ≢ path → Passes (SameBeside beside a.now) a b → b.now beside ≡ Some bytes
    → Renames beside path r b d → Passes (IsWhole path beside bytes a.now) a d
passes_moved path beside bytes r a b d apart p holds moves =
    passes_then (IsWhole path beside bytes a.now) (SameBeside beside a.now) (λ f. Same b.now f ⊎ Moved beside path b.now f) a b d
    (λ f s. whole_beside path beside bytes a.now f apart s) (λ f m. whole_moved path beside bytes a.now b.now f apart p.ends holds m) p moves.0

-- one that is filled takes the path, or does not
then_moved : (path beside bytes : List ℕ) (r : Result (Unit {0}) Error) (a b d : Story) → beside ≢ path → Fills {T = Unit {0}} {E = Error} beside bytes (Ok tt) a b → Renames beside path r b d
    → TakesPath path beside bytes r a d
then_moved path beside bytes (Ok u) a b d apart fills moves = (
  passes_moved path beside bytes (Ok u) a b d apart fills.0 fills.1 moves,
  (moves.1.there ∙ fills.1, moves.1.gone apart),
)
then_moved path beside bytes (Err e) a b d apart fills moves = (
  passes_moved path beside bytes (Err e) a b d apart fills.0 fills.1 moves,
  moves.1 path ∙ fills.0.ends path (λ i. apart (sym i)),
)

pub filled_then : (path beside bytes : List ℕ) (r : Result (Unit {0}) Error) (x y z : Option Story) → beside ≢ path → Known x y (Fills {T = Unit {0}} {E = Error} beside bytes (Ok tt))
    → Known y z (Renames beside path r) → Known x z (TakesPath path beside bytes r)
filled_then path beside bytes r x y z apart fills moves =
    known_then (Fills {T = Unit {0}} {E = Error} beside bytes (Ok tt)) (Renames beside path r) (TakesPath path beside bytes r) x y z
    (λ a b d f m. then_moved path beside bytes r a b d apart f m) fills moves

-- A new file was made, and then it took the path or not.
pub record Tried (path beside bytes : List ℕ) (r : Result (Unit {0}) Error) (a d : Story) : Type 0 where
  pub free : a.now beside ≡ None
  pub passes : Passes (IsWhole path beside bytes a.now) a d
  pub ended : MatchResult r (λ _. (d.now path ≡ Some bytes) × (d.now beside ≡ None)) (λ _. d.now path ≡ a.now path)

-- a file that is whole after a new one was made was whole before
whole_since : (path beside bytes : List ℕ) (old now f : Files) → beside ≢ path → SameBeside beside old now → IsWhole path beside bytes now f → IsWhole path beside bytes old f
whole_since path beside bytes old now f apart same w = record {
  whole = elim w.whole [
    | inl e ↦ inl (e ∙ same path (λ i. apart (sym i)))
    | inr e ↦ inr e
  ];
  others = λ other off far. w.others other off far ∙ same other far;
}

ended_since : (path beside bytes : List ℕ) (r : Result (Unit {0}) Error) (old now f : Files) → beside ≢ path → SameBeside beside old now
    → MatchResult r (λ _. (f path ≡ Some bytes) × (f beside ≡ None)) (λ _. f path ≡ now path)
    → MatchResult r (λ _. (f path ≡ Some bytes) × (f beside ≡ None)) (λ _. f path ≡ old path)
ended_since path beside bytes (Ok u) old now f apart same h = h
ended_since path beside bytes (Err e) old now f apart same h = h ∙ same path (λ i. apart (sym i))

made_then : (path beside bytes : List ℕ) (r : Result (Unit {0}) Error) (a b d : Story) → beside ≢ path → Makes {E = Error} beside (Ok true) a b → TakesPath path beside bytes r b d
    → Tried path beside bytes r a d
made_then path beside bytes r a b d apart made takes = record {
  free = made.1;
  passes =
      passes_then (IsWhole path beside bytes a.now) (SameBeside beside a.now) (IsWhole path beside bytes b.now) a b d (λ f s. whole_beside path beside bytes a.now f apart s)
      (λ f w. whole_since path beside bytes a.now b.now f apart made.0.ends w) made.0 takes.0;
  ended = ended_since path beside bytes r a.now b.now d.now apart made.0.ends takes.1;
}

known_tried : (path beside bytes : List ℕ) (r : Result (Unit {0}) Error) (x y z : Option Story) → beside ≢ path → Known x y (Makes {E = Error} beside (Ok true))
    → Known y z (TakesPath path beside bytes r)
    → Known x z (Tried path beside bytes r)
known_tried path beside bytes r x y z apart made takes =
    known_then (Makes {E = Error} beside (Ok true)) (TakesPath path beside bytes r) (Tried path beside bytes r) x y z (λ a b d m t. made_then path beside bytes r a b d apart m t) made takes

-- one that took the path is whole
replaced : (path beside bytes : List ℕ) (a d : Story) → Tried path beside bytes (Ok tt) a d → Replaces {E = Error} path beside bytes (Ok true) a d
replaced path beside bytes a d h = (h.passes, (h.free, holds_alone path beside bytes a.now d.now h.passes.ends h.free h.ended.1 h.ended.0))

-- a new file took the path
pub then_taken : (path beside bytes : List ℕ) (free : Bool) (r : Result (Unit {0}) Error) (x y z : Option Story) → beside ≢ path → Known x y (Makes {E = Error} beside (Ok free)) → free ≡ true
    → Known y z (TakesPath path beside bytes r)
    → r ≡ Ok tt
    → Known x z (Replaces {E = Error} path beside bytes (Ok true))
then_taken path beside bytes free r x y z apart made is takes done =
    let tried = known_tried path beside bytes r x y z apart (rw is at made) takes in
    known_by (Tried path beside bytes (Ok tt)) (Replaces {E = Error} path beside bytes (Ok true)) x z (replaced path beside bytes) (rw done at tried)

-- where the new file is gone, all files are as they were
same_again : (path beside bytes : List ℕ) (old f : Files) → IsWhole path beside bytes old f → f path ≡ old path → old beside ≡ None → f beside ≡ None → Same old f
same_again path beside bytes old f w same was is other = elim (is_path_or_not path other) [
  | inl e ↦ rw e same
  | inr off ↦ elim (is_path_or_not beside other) [
    | inl e ↦ rw e (is ∙ sym was)
    | inr far ↦ w.others other off far
  ]
]

-- a removal that failed is told
restores : (beside : List ℕ) (w : Result (Unit {0}) Error) (old : Files) (b d : Story) → Removes beside w b d → (d.now beside ≡ None → Same old d.now) → d.unremoved ≡ false → Same old d.now
restores beside (Ok u) old b d removes same kept = same removes.1
restores beside (Err e) old b d removes same kept = absurd (true≢false (sym removes.1 ∙ kept))

left_over : (path beside bytes : List ℕ) (e : Error) (w : Result (Unit {0}) Error) (a b d : Story) → beside ≢ path → Tried path beside bytes (Err e) a b
    → Removes beside w b d
    → Replaces path beside bytes (Err e) a d
left_over path beside bytes e w a b d apart h removes =
    let passes = passes_then (IsWhole path beside bytes a.now) (IsWhole path beside bytes a.now) (SameBeside beside b.now) a b d (λ f w. w)
    (λ f s. whole_still path beside bytes a.now b.now f apart h.passes.ends s) h.passes removes.0 in
    let same : d.now path ≡ a.now path = removes.0.ends path (λ i. apart (sym i)) ∙ h.ended in (
      passes,
      (same, restores beside w a.now b d removes (λ gone. same_again path beside bytes a.now d.now passes.ends same h.free gone), λ some. absurd (some h.free)),
    )

-- a new file took no path, and was removed
pub then_removed : (path beside bytes : List ℕ) (free : Bool) (r w : Result (Unit {0}) Error) (e : Error) (x y z u : Option Story) → beside ≢ path
    → Known x y (Makes {E = Error} beside (Ok free))
    → free ≡ true
    → Known y z (TakesPath path beside bytes r)
    → r ≡ Err e
    → Known z u (Removes beside w)
    → Known x u (Replaces path beside bytes (Err e))
then_removed path beside bytes free r w e x y z u apart made is takes failed removed =
    let tried = known_tried path beside bytes r x y z apart (rw is at made) takes in
    known_then (Tried path beside bytes (Err e)) (Removes beside w) (Replaces path beside bytes (Err e)) x z u (λ a b d h r. left_over path beside bytes e w a b d apart h r) (rw failed at tried)
    removed

-- no file could be made
pub unmade : (path beside bytes : List ℕ) (e : Error) (x y : Option Story) → Known x y (Makes beside (Err e)) → Known x y (Replaces path beside bytes (Err e))
unmade path beside bytes e x y made = known_by (Makes beside (Err e)) (Replaces path beside bytes (Err e)) x y
    (λ a b h. (
      passes_by (IsWhole path beside bytes a.now) (Same a.now) a b (λ f s. record { whole = inl (s path); others = λ other off far. s other }) h.1,
      (h.1.ends path, λ kept. h.1.ends, λ some. h.1),
    ))
    made
