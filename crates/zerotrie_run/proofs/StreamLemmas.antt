-- How many places of a list are standard input, and what is read of each.
use Rattle.std.proofs.Common.{◌≡◌, ◌≢◌, ◌⊎◌, ◌<◌, ◌≤◌, ◌+◌, ◌∙◌, ℕ, zero, suc, Bool, true, false, List, [], ◌∷◌, Option, drop, get_or, length, refl, subst, arith, inl, inr}
use Rattle.zerotrie_files.specs.Disks.{Story}
use Rattle.zerotrie_files.specs.Faults.{Watched}
use Rattle.zerotrie_run.specs.Runs.{AreAllFiles, HaveTwoStreams, IsRead, streams}
use Rattle.zerotrie_run.specs.declared.command.Place.{Place}
use Rattle.zerotrie_run.specs.declared.command.Place.TheVariants.{File, Stream}

-- one more if one was seen
abbrev pub seen : Bool → ℕ → ℕ
seen true n = suc n
seen false n = n

-- those from a place on are no more than all
pub fewer_left : (places : List Place) (i : ℕ) → streams (drop i places) ≤ streams places
fewer_left places zero = omega arith
fewer_left [] (suc i) = omega arith
fewer_left (File path ∷ places) (suc i) = fewer_left places i
fewer_left (Stream ∷ places) (suc i) = let rest = fewer_left places i in omega (arith, rest)

-- a place of a list is a file, or one stream less is left behind it
step : (places : List Place) (i : ℕ) (d : Place) → i < length places
    → ((get_or places i d ≢ Stream) × (streams (drop i places) ≡ streams (drop (suc i) places)))
    ⊎ ((get_or places i d ≡ Stream) × (streams (drop i places) ≡ suc (streams (drop (suc i) places))))
step [] i d inside = absurd (omega (arith, inside))
step (File path ∷ places) zero d inside = inl ((λ is. absurd (cc)), refl)
step (Stream ∷ places) zero d inside = inr (refl, refl)
step (File path ∷ places) (suc i) d inside = step places i d (omega (arith, inside))
step (Stream ∷ places) (suc i) d inside = step places i d (omega (arith, inside))

pub next_place : (places : List Place) (i : ℕ) (d : Place) → i < length places
    → ((get_or places i d ≢ Stream) × (streams (drop i places) ≡ streams (drop (i + 1) places)))
    ⊎ ((get_or places i d ≡ Stream) × (streams (drop i places) ≡ suc (streams (drop (i + 1) places))))
next_place places i d inside =
    let e : suc i ≡ i + 1 = omega arith in
    subst (λ j. ((get_or places i d ≢ Stream) × (streams (drop i places) ≡ streams (drop j places))) ⊎ ((get_or places i d ≡ Stream) × (streams (drop i places) ≡ suc (streams (drop j places))))) e (step places i d inside)

at_most_one : (n : ℕ) → (1 < n → ⊥) → n ≤ 1
at_most_one zero more = omega arith
at_most_one (suc zero) more = omega arith
at_most_one (suc (suc n)) more = absurd (more (omega arith))

-- what is read of a file does not come from the input
file_read : {R : Type 0} (place : Place) (remaining : R → Option (List ℕ)) (old now : Watched R) (files : Option Story) (bytes : List ℕ) → place ≢ Stream
    → IsRead place (remaining now.inner) files bytes → IsRead place (remaining old.inner) files bytes
file_read (File path) remaining old now files bytes is h = h
file_read Stream remaining old now files bytes is h = absurd (is refl)

-- a place that is read behind others holds what it held at the beginning: no two are standard input
pub read_next : {R : Type 0} (places : List Place) (i : ℕ) (d : Place) (remaining : R → Option (List ℕ)) (old now : Watched R) (files left : Option Story) (bytes : List ℕ) → i < length places
    → (HaveTwoStreams places → ⊥) → (streams (drop i places) ≡ streams places → now ≡ old) → left ≡ files → IsRead (get_or places i d) (remaining now.inner) left bytes
    → IsRead (get_or places i d) (remaining old.inner) files bytes
read_next {R} places i d remaining old now files left bytes inside apart same kept read =
    let h = subst (λ story. IsRead (get_or places i d) (remaining now.inner) story bytes) kept read in
    elim (next_place places i d inside) [
      | inl file ↦ file_read (get_or places i d) remaining old now files bytes file.0 h
      | inr stream ↦
          let fewer = fewer_left places i in
          let most = at_most_one (streams places) apart in
          let more = stream.1 in
          subst (λ input. IsRead (get_or places i d) (remaining input.inner) files bytes) (same (omega (arith, fewer, most, more))) h
    ]

-- the input is what it was if no place before was standard input
pub still_same : {R : Type 0} (places : List Place) (i : ℕ) (d : Place) (old now next : Watched R) → i < length places
    → (streams (drop i places) ≡ streams places → now ≡ old) → (get_or places i d ≡ Stream) ⊎ (next ≡ now)
    → streams (drop (i + 1) places) ≡ streams places → next ≡ old
still_same places i d old now next inside same touched left = elim (next_place places i d inside) [
  | inl file ↦ elim touched [
    | inl is ↦ absurd (file.0 is)
    | inr kept ↦ kept ∙ same (file.1 ∙ left)
  ]
  | inr stream ↦ let fewer = fewer_left places i in let more = stream.1 in absurd (omega (arith, fewer, more, left))
]

-- no place behind is standard input if none is
pub none_left : (places : List Place) (i : ℕ) → AreAllFiles places → streams (drop i places) ≡ streams places
none_left places i none = let fewer = fewer_left places i in omega (arith, fewer, none)
