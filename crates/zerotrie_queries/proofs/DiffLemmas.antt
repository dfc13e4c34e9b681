-- The lines of what changed.
use Rattle.std.proofs.Common.{◌≡◌, ℕ, ◌<◌, List, [], ◌∷◌, Bool, true, false, length, refl, sym, ◌∙◌, ap, subst, arith, Option, Result, Ok, Err}
use Rattle.std.proofs.lemmas.Bool.{eq-eqb, ne_eqb}
use Rattle.std.specs.Prelude.{◌==◌, ◌↔◌, ◌&&◌, OnOk, IfOk}
use Rattle.std.specs.FinMap.{entries}
use Rattle.std.specs.Io.KnownBytes.{Appends}
use Rattle.zerotrie_core.specs.Kind.{Kind}
use Rattle.zerotrie_core.specs.Maps.{Pairs, Map, Ascends}
use Rattle.zerotrie_files.specs.Parts.{AppendsPart}
use Rattle.zerotrie_search.specs.SortedLaws.{SortedAscends}
use Rattle.zerotrie_sets.specs.Changes.{changes}
use Rattle.zerotrie_sets.specs.Laws.{CombinedAreMaps, DiffsAreOfMaps, NoChange}
use Rattle.zerotrie_sets.specs.Merges.{Entries}
use Rattle.zerotrie_sets.specs.declared.diff.Change.{Change}
use Rattle.zerotrie_sets.specs.declared.diff.Change.TheVariants.{Added, Removed, Changed}
use Rattle.zerotrie_queries.specs.Diffs.{change_line, change_lines, AreTold, AreToldInPart}
use Rattle.zerotrie_queries.specs.Recased.{ignore_both, recased, second_pairs}
use Rattle.zerotrie_queries.proofs.PartLemmas.{part_none}
use Rattle.zerotrie_queries.proofs.RecasedLemmas.{entries_ascend, second_ascends, second_recased}

-- a line has bytes
pub some_line : (key : List ℕ) (c : Change) → 0 < length (change_line key c)
some_line key (Added new) = omega arith
some_line key (Removed old) = omega arith
some_line key (Changed old new) = omega arith

-- lines were added to a buffer unless no change was left
pub none_if : {X : Type 0} (lines : List ℕ) (left initial : List X) → left ≡ [] → (lines ≡ [] → left ≡ initial) → (0 < length lines → length left < length initial) → lines ≡ [] ↔ initial ≡ []
none_if [] left initial none same fewer = (λ e. sym (same refl) ∙ none, λ e. refl)
none_if (b ∷ lines) left initial none same fewer = (
  λ e. absurd (cc),
  λ e. absurd (let less = fewer (omega arith) in let zero = ap length e in omega (arith, less, zero)),
)

-- more lines than none were added, as changes were left
pub some_if : {X : Type 0} (lines : List ℕ) (left initial : List X) → 0 < length lines → length left < length initial → lines ≡ [] ↔ initial ≡ []
some_if lines left initial some fewer = (
  λ e. absurd (let zero = ap length e in omega (arith, some, zero)),
  λ e. absurd (let zero = ap length e in omega (arith, fewer, zero)),
)

-- a buffer is empty if its length is zero
pub empty_is : (n : ℕ) (lines : List ℕ) (empty : Bool) → empty ≡ (n == 0) → n ≡ length lines → empty ≡ true ↔ lines ≡ []
empty_is n [] empty is len = (λ t. refl, λ e. is ∙ eq-eqb n 0 len)
empty_is n (b ∷ lines) empty is len = (λ t. absurd (let other = sym t ∙ is ∙ ne_eqb n 0 (λ zero. omega (arith, len, zero)) in cc), λ e. absurd (cc))

-- two tries are the same if no block has a line
pub same_all : {X : Type 0} (same empty : Bool) (lines : List ℕ) (now initial : List X) → (same ≡ true → now ≡ initial) → (same ≡ false → initial ≡ [] → ⊥) → lines ≡ [] ↔ now ≡ [] → empty ≡ true ↔ lines ≡ []
    → (same && empty) ≡ true ↔ initial ≡ []
same_all true true lines now initial is other none e = (λ t. sym (is refl) ∙ none.0 (e.0 refl), λ i. refl)
same_all true false lines now initial is other none e = (λ t. absurd (cc), λ i. absurd (let t = e.1 (none.1 (is refl ∙ i)) in cc))
same_all false empty lines now initial is other none e = (λ t. absurd (cc), λ i. absurd (other refl i))

-- if changes are left after a block, some were there before it, and it has lines
pub more_left : {X : Type 0} (same empty : Bool) (lines : List ℕ) (now initial left : List X) → (same ≡ true → now ≡ initial) → lines ≡ [] ↔ now ≡ [] → empty ≡ true ↔ lines ≡ [] → length left < length now
    → ((same && empty) ≡ true → left ≡ initial) × ((same ≡ false → initial ≡ [] → ⊥) → (same && empty) ≡ false → initial ≡ [] → ⊥)
more_left true true lines now initial left is none e fewer = (
  λ t. absurd (let zero = ap length (none.0 (e.0 refl)) in omega (arith, zero, fewer)),
  λ o f i. let zero = ap length (is refl ∙ i) in omega (arith, zero, fewer),
)
more_left true false lines now initial left is none e fewer = (λ t. absurd (cc), λ o f i. let zero = ap length (is refl ∙ i) in omega (arith, zero, fewer))
more_left false empty lines now initial left is none e fewer = (λ t. absurd (cc), λ o f i. o refl i)

pub all_told : (first second : Pairs) (items : Entries Change) (a b : Option (List ℕ)) (same : Bool) → DiffsAreOfMaps → NoChange → Ascends first → Ascends second
    → items ≡ changes first second → Appends a b (change_lines items) → same ≡ true ↔ items ≡ [] → AreTold first second a b same
all_told first second items a b same diffs none one two is wrote equal = record {
  changes = changes first second;
  is = diffs first second one two;
  printed = subst (λ l. Appends a b (change_lines l)) is wrote;
  equal = (λ t. (none first second).0 (sym is ∙ equal.0 t), λ e. equal.1 (is ∙ (none first second).1 e));
}

pub part_told : (first second : Pairs) (items : Entries Change) (a b : Option (List ℕ)) → DiffsAreOfMaps → Ascends first → Ascends second
    → items ≡ changes first second → AppendsPart a b (change_lines items) → AreToldInPart first second a b
part_told first second items a b diffs one two is wrote = record {
  changes = changes first second;
  is = diffs first second one two;
  printed = subst (λ l. AppendsPart a b (change_lines l)) is wrote;
}

-- nothing was told so far
pub none_told : (k j : Kind) (m n : Map) (a : Option (List ℕ)) → SortedAscends → DiffsAreOfMaps → CombinedAreMaps → AreToldInPart (entries m) (second_pairs k j m n) a a
none_told k j m n a ascends diffs combined =
    let first = entries m in
    let second = second_pairs k j m n in
    record {
      changes = changes first second;
      is = diffs first second (entries_ascend ascends m) (second_ascends ascends combined k j m n);
      printed = part_none a (change_lines (changes first second));
    }

-- if both kinds ignore case, what is told of listings of two maps, of the second one with its keys recased, is told of the maps
module _ (k j : Kind) (m n : Map) (first second pairs : Pairs) (a b : Option (List ℕ)) (ignore : ignore_both k j ≡ true) (one : first ≡ entries m) (two : pairs ≡ entries n) (is : second ≡ recased k j m n pairs) where
  second_is : second ≡ second_pairs k j m n
  second_is = is ∙ ap (λ ps. recased k j m n ps) two ∙ second_recased k j m n ignore

  pub told_recased : (same : Bool) → AreTold first second a b same → AreTold (entries m) (second_pairs k j m n) a b same
  told_recased same told = subst (λ ps. AreTold ps (second_pairs k j m n) a b same) one (subst (λ ps. AreTold first ps a b same) second_is told)

  pub part_recased : AreToldInPart first second a b → AreToldInPart (entries m) (second_pairs k j m n) a b
  part_recased told = subst (λ ps. AreToldInPart ps (second_pairs k j m n) a b) one (subst (λ ps. AreToldInPart first ps a b) second_is told)

-- what follows from two clauses of a result
pub ok_both : {E P : Type 0} {Q R : Bool → Type 0} (r : Result Bool E) → ((same : Bool) → P → Q same → R same) → OnOk r P → IfOk r Q → IfOk r R
ok_both (Ok same) f p q = f same p q
ok_both (Err e) f p q = tt
