-- Keys that differ in case, among keys that ascend.
use Rattle.std.proofs.Common.{◌≡◌, ℕ, zero, suc, ◌+◌, ◌<◌, ◌≤◌, ◌⊎◌, inl, inr, List, [], ◌∷◌, length, refl, sym, ◌∙◌, ap, arith, get_or, take, All}
use Rattle.std.proofs.lemmas.Bool.{cases_lt}
use Rattle.std.specs.Prelude.{◌==◌, ◌≢◌}
use Rattle.std.specs.Char.{to_ascii_lowercase}
use Rattle.std.proofs.lemmas.Bool.{eq-eqb, ne_eqb, cases_eq}
use Rattle.std.proofs.lemmas.Str.Ascii.{lowercase_is, lowercase-lowercase}
use Rattle.zerotrie_base.specs.Kind.{Kind, simple_ascii, ignore_case, perfect_hash, extended_capacity, fold_byte, same_byte}
use Rattle.zerotrie_base.specs.Maps.{Pairs, Ascends, IsCaseConsistent, common_front}
use Rattle.zerotrie_base.proofs.CallerLemmas.{compare_first}
use Rattle.zerotrie_build.specs.Refused.{key_at, DifferInCase}
use Rattle.zerotrie_build.specs.passes.OtherCase.{BeginsThen, HasOtherCase, NoneHasOtherCase}
use Rattle.zerotrie_build.proofs.ItemLemmas.{Below}
use Rattle.zerotrie_build.proofs.OrderLemmas.Below.{below_before, before_below}
use Rattle.zerotrie_build.proofs.OrderLemmas.Parting.{common}
use Rattle.zerotrie_build.proofs.OrderLemmas.Sorting.{before_trans}

-- a letter in upper case folds to its other case, and every other byte to itself
lower_cases : (a : ℕ) → (to_ascii_lowercase a ≡ a + 32) ⊎ (to_ascii_lowercase a ≡ a)
lower_cases a =
    elim (cases_lt a 65) [
      | inl low ↦ inr ((lowercase_is a).1 low)
      | inr from ↦ elim (cases_lt a 91) [
        | inl upper ↦ inl ((lowercase_is a).0 (omega arith, omega arith))
        | inr high ↦ inr ((lowercase_is a).2 (omega arith))
      ]
    ]

lower_pair : (a c : ℕ) → a < c → to_ascii_lowercase a ≡ to_ascii_lowercase c → (to_ascii_lowercase a ≢ a) × (c ≡ to_ascii_lowercase a)
lower_pair a c less same =
    elim (lower_cases a) [
      | inl up ↦ elim (lower_cases c) [
        | inl both ↦ absurd (omega arith)
        | inr low ↦ (λ e. omega arith, omega arith)
      ]
      | inr low ↦ elim (lower_cases c) [ inl up ↦ absurd (omega arith) | inr both ↦ absurd (omega arith) ]
    ]

-- of two bytes with one fold the lower folds to the other
fold_pair : (kind : Kind) (a c : ℕ) → a < c → fold_byte kind a ≡ fold_byte kind c → (fold_byte kind a ≢ a) × (c ≡ fold_byte kind a)
fold_pair simple_ascii a c less same = absurd (omega arith)
fold_pair ignore_case a c less same = lower_pair a c less same
fold_pair perfect_hash a c less same = absurd (omega arith)
fold_pair extended_capacity a c less same = absurd (omega arith)

fold_twice : (kind : Kind) (b : ℕ) → fold_byte kind (fold_byte kind b) ≡ fold_byte kind b
fold_twice simple_ascii b = refl
fold_twice ignore_case b = lowercase-lowercase b
fold_twice perfect_hash b = refl
fold_twice extended_capacity b = refl

-- keys whose first bytes are not the same and have one fold differ in case
differ_here : (kind : Kind) (a b : ℕ) (k l : List ℕ) → (a ≡ b → ⊥) → fold_byte kind a ≡ fold_byte kind b → DifferInCase kind (a ∷ k) (b ∷ l)
differ_here kind a b k l apart one e = let f = rw (ne_eqb a b apart, eq-eqb (fold_byte kind a) (fold_byte kind b) one) at e in omega arith

differ_more : (kind : Kind) (a b : ℕ) (k l : List ℕ) → a ≡ b → DifferInCase kind k l → DifferInCase kind (a ∷ k) (b ∷ l)
differ_more kind a b k l same d e = let f = rw (eq-eqb a b same, eq-eqb (fold_byte kind a) (fold_byte kind b) (ap (fold_byte kind) same)) at e in d (omega arith)

differ_rest : (kind : Kind) (a b : ℕ) (k l : List ℕ) → a ≡ b → DifferInCase kind (a ∷ k) (b ∷ l) → DifferInCase kind k l
differ_rest kind a b k l same d e = d (rw (eq-eqb a b same, eq-eqb (fold_byte kind a) (fold_byte kind b) (ap (fold_byte kind) same)) (ap (λ n. 1 + n) e))

-- first bytes that are not the same have one fold, if the keys differ in case
differ_fold : (kind : Kind) (a b : ℕ) (k l : List ℕ) → (a ≡ b → ⊥) → DifferInCase kind (a ∷ k) (b ∷ l) → fold_byte kind a ≡ fold_byte kind b
differ_fold kind a b k l apart d =
    elim (cases_eq (fold_byte kind a) (fold_byte kind b)) [
      | inl one ↦ one
      | inr two ↦ absurd (d (rw (ne_eqb a b apart, ne_eqb (fold_byte kind a) (fold_byte kind b) two) refl))
    ]

pub differ_empty : (kind : Kind) (k : List ℕ) → DifferInCase kind k [] → ⊥
differ_empty kind [] d = d refl
differ_empty kind (a ∷ k) d = d refl

pub differ_itself : (kind : Kind) (k : List ℕ) → DifferInCase kind k k → ⊥
differ_itself kind [] d = d refl
differ_itself kind (a ∷ k) d = differ_itself kind k (differ_rest kind a a k k refl d)

pub differ_sym : (kind : Kind) (k l : List ℕ) → DifferInCase kind k l → DifferInCase kind l k
differ_sym kind [] [] d = absurd (d refl)
differ_sym kind [] (b ∷ l) d = absurd (d refl)
differ_sym kind (a ∷ k) [] d = absurd (d refl)
differ_sym kind (a ∷ k) (b ∷ l) d =
    elim (cases_eq a b) [
      | inl same ↦ differ_more kind b a l k (sym same) (differ_sym kind k l (differ_rest kind a b k l same d))
      | inr apart ↦ differ_here kind b a l k (λ e. apart (sym e)) (sym (differ_fold kind a b k l apart d))
    ]

-- Of three keys that ascend, the first and the last of which differ in case, the first parts from the second by a
-- letter whose other case the last goes on with, or the second and the last differ in case too.
turns_or : (kind : Kind) (e g f : List ℕ) → Below e g → Below g f → DifferInCase kind e f → HasOtherCase kind e g f ⊎ DifferInCase kind g f
turns_or kind [] g f up next d = absurd (d refl)
turns_or kind (a ∷ e) [] f up next d = absurd (cc)
turns_or kind (a ∷ e) (b ∷ g) [] up next d = absurd (d refl)
turns_or kind (a ∷ e) (b ∷ g) (c ∷ f) up next d =
    elim (cases_eq a c) [
      | inl same ↦ elim (compare_first a b e g up) [
        | inl less ↦ elim (compare_first b c g f next) [ inl more ↦ absurd (omega arith) | inr one ↦ absurd (let h = one.0 in omega arith) ]
        | inr two ↦ elim (compare_first b c g f next) [
          | inl more ↦ absurd (let h = two.0 in omega arith)
          | inr one ↦ elim (turns_or kind e g f two.1 one.1 (differ_rest kind a c e f same d)) [
            | inl turns ↦ inl (rw (eq-eqb a b two.0) (sym same, turns))
            | inr differ ↦ inr (differ_more kind b c g f one.0 differ)
          ]
        ]
      ]
      | inr apart ↦
          let fold = differ_fold kind a c e f apart d in
          elim (cases_eq a b) [
            | inl same ↦ inr (differ_here kind b c g f (λ h. apart (same ∙ h)) (ap (fold_byte kind) (sym same) ∙ fold))
            | inr other ↦
                let less : a < b = elim (compare_first a b e g up) [ inl h ↦ h | inr h ↦ absurd (other h.0) ] in
                let least : b ≤ c = elim (compare_first b c g f next) [ inl h ↦ omega arith | inr h ↦ let k = h.0 in omega arith ] in
                inl (rw (ne_eqb a b other) (fold_pair kind a c (omega arith) fold))
          ]
    ]

-- and of two that follow one another it is the letter by which they part
turns_next : (kind : Kind) (e f : List ℕ) → Below e f → DifferInCase kind e f → HasOtherCase kind e f f
turns_next kind [] f up d = absurd (d refl)
turns_next kind (a ∷ e) [] up d = absurd (d refl)
turns_next kind (a ∷ e) (c ∷ f) up d =
    elim (cases_eq a c) [
      | inl same ↦
          let rest : Below e f = elim (compare_first a c e f up) [ inl h ↦ absurd (omega arith) | inr h ↦ h.1 ] in
          rw (eq-eqb a c same) (sym same, turns_next kind e f rest (differ_rest kind a c e f same d))
      | inr apart ↦
          let less : a < c = elim (compare_first a c e f up) [ inl h ↦ h | inr h ↦ absurd (apart h.0) ] in
          rw (ne_eqb a c apart) (fold_pair kind a c less (differ_fold kind a c e f apart d))
    ]

-- where the key parts from the next, and with what the other goes on
pub record TurnsAt (kind : Kind) (key other : List ℕ) (c : ℕ) : Type 0 where
  pub room : c < length key
  pub letter : fold_byte kind (get_or key c 0) ≢ get_or key c 0
  pub begins : BeginsThen (take c key) (fold_byte kind (get_or key c 0)) other

pub turns_at : (kind : Kind) (key next other : List ℕ) → HasOtherCase kind key next other → TurnsAt kind key other (common key next)
turns_at kind [] next other h = absurd h
turns_at kind (a ∷ key) [] [] h = absurd h
turns_at kind (a ∷ key) [] (c ∷ other) h = record {
  room = (let g : 0 < suc (length key) = omega arith in g);
  letter = h.0;
  begins = h.1;
}
turns_at kind (a ∷ key) (b ∷ next) [] h = absurd h
turns_at kind (a ∷ key) (b ∷ next) (c ∷ other) h =
    elim (cases_eq a b) [
      | inl same ↦
          let g = rw (eq-eqb a b same) at h in
          rw (eq-eqb a b same) (later (turns_at kind key next other g.1) g.0)
      | inr apart ↦
          let g = rw (ne_eqb a b apart) at h in
          rw (ne_eqb a b apart) (record {
            room = (let r : 0 < suc (length key) = omega arith in r);
            letter = g.0;
            begins = g.1;
          })
    ]
  where
    later : {n : ℕ} → TurnsAt kind key other n → c ≡ a → TurnsAt kind (a ∷ key) (c ∷ other) (1 + n)
    later {n} t same =
        let next : 1 + n ≡ suc n = omega arith in
        rw next (record {
          room = (let r = t.room in let g : suc n < suc (length key) = omega arith in g);
          letter = t.letter;
          begins = (same, t.begins);
        })

-- a key that goes on so differs in case
pub begins_differ : (kind : Kind) (key other : List ℕ) (c : ℕ) → c < length key → fold_byte kind (get_or key c 0) ≢ get_or key c 0
    → BeginsThen (take c key) (fold_byte kind (get_or key c 0)) other → DifferInCase kind key other
begins_differ kind [] other c room letter h = absurd (let g : c < 0 = room in omega arith)
begins_differ kind (a ∷ key) [] c room letter h = absurd h
begins_differ kind (a ∷ key) (x ∷ other) zero room letter h =
    differ_here kind a x key other (λ e. letter (sym h ∙ sym e)) (sym (fold_twice kind a) ∙ ap (fold_byte kind) (sym h))
begins_differ kind (a ∷ key) (x ∷ other) (suc c) room letter h =
    differ_more kind a x key other (sym h.0) (begins_differ kind key other c (let g : suc c < suc (length key) = room in omega arith) letter h.1)

-- from a key that ascends on, no later one goes on with the other case
abbrev pub NoTurns : Kind → Pairs → Type 0
NoTurns kind [] = Unit {0}
NoTurns kind (e ∷ []) = Unit {0}
NoTurns kind (e ∷ g ∷ pairs) = NoneHasOtherCase kind e.0 g.0 (g ∷ pairs) × NoTurns kind (g ∷ pairs)

pub no_turns : (kind : Kind) (pairs : Pairs) → ((k : ℕ) → suc k < length pairs → NoneHasOtherCase kind (key_at pairs k) (key_at pairs (suc k)) pairs) → NoTurns kind pairs
no_turns kind [] h = tt
no_turns kind (e ∷ []) h = tt
no_turns kind (e ∷ g ∷ pairs) h = (
  λ i d l. h 0 (let r : 1 < suc (suc (length pairs)) = omega arith in r) (suc i) d (let r : suc i < suc (suc (length pairs)) = omega arith in r),
  no_turns kind (g ∷ pairs) (λ k l i d m. h (suc k) (let r : suc (suc k) < suc (suc (length pairs)) = omega arith in r) (suc i) d (let r : suc i < suc (suc (length pairs)) = omega arith in r)),
)

below_all : (e : List ℕ × ℕ) (pairs : Pairs) → Ascends (e ∷ pairs) → All (λ f. Below e.0 f.0) pairs
below_all e [] up i d l = absurd (let g : i < 0 = l in omega arith)
below_all e (g ∷ pairs) up zero d l = up.0
below_all e (g ∷ pairs) up (suc i) d l = below_trans e.0 g.0 (get_or pairs i d).0 up.0 (below_all g pairs up.1 i d (let r : suc i < suc (length pairs) = l in omega arith))
  where
    below_trans : (p q r : List ℕ) → Below p q → Below q r → Below p r
    below_trans [] [] r h k = absurd (cc)
    below_trans [] (y ∷ q) [] h k = absurd (cc)
    below_trans [] (y ∷ q) (z ∷ r) h k = refl
    below_trans p q r h k = before_below p r (before_trans simple_ascii p q r (below_before p q h) (below_before q r k))

-- then no later key differs from it in case
none_differ : (kind : Kind) (e : List ℕ × ℕ) (pairs : Pairs) → Ascends (e ∷ pairs) → NoTurns kind (e ∷ pairs) → All (λ f. DifferInCase kind e.0 f.0 → ⊥) pairs
none_differ kind e [] up none i d l = absurd (let g : i < 0 = l in omega arith)
none_differ kind e (g ∷ pairs) up none zero d l = λ differ. none.0 0 d (let r : 0 < suc (length pairs) = omega arith in r) (turns_next kind e.0 g.0 up.0 differ)
none_differ kind e (g ∷ pairs) up none (suc i) d l =
    let within : i < length pairs = (let r : suc i < suc (length pairs) = l in omega arith) in
    λ differ. elim (turns_or kind e.0 g.0 (get_or pairs i d).0 up.0 (below_all g pairs up.1 i d within) differ) [
      | inl turns ↦ none.0 (suc i) d l turns
      | inr again ↦ none_differ kind g pairs up.1 none.1 i d within again
    ]

agree_if : (kind : Kind) (k l : List ℕ) → (DifferInCase kind k l → ⊥) → common_front (same_byte kind) k l ≡ common_front (λ a b. a == b) k l
agree_if kind k l none = elim (cases_eq (common_front (same_byte kind) k l) (common_front (λ a b. a == b) k l)) [ inl same ↦ same | inr apart ↦ absurd (none apart) ]

-- so keys that ascend agree in case
pub turns_consistent : (kind : Kind) (pairs : Pairs) → Ascends pairs → NoTurns kind pairs → IsCaseConsistent kind pairs
turns_consistent kind [] up none i d l j c m = absurd (let g : i < 0 = l in omega arith)
turns_consistent kind (e ∷ pairs) up none zero d l zero c m = agree_if kind e.0 e.0 (differ_itself kind e.0)
turns_consistent kind (e ∷ pairs) up none zero d l (suc j) c m =
    agree_if kind e.0 (get_or pairs j c).0 (none_differ kind e pairs up none j c (let g : suc j < suc (length pairs) = m in omega arith))
turns_consistent kind (e ∷ pairs) up none (suc i) d l zero c m =
    agree_if kind (get_or pairs i d).0 e.0 (λ differ. none_differ kind e pairs up none i d (let g : suc i < suc (length pairs) = l in omega arith) (differ_sym kind (get_or pairs i d).0 e.0 differ))
turns_consistent kind (e ∷ pairs) up none (suc i) d l (suc j) c m =
    turns_consistent kind pairs (rest pairs up) (less pairs none) i d (let g : suc i < suc (length pairs) = l in omega arith) j c (let g : suc j < suc (length pairs) = m in omega arith)
  where
    rest : (more : Pairs) → Ascends (e ∷ more) → Ascends more
    rest more h = h.1

    less : (more : Pairs) → NoTurns kind (e ∷ more) → NoTurns kind more
    less [] h = tt
    less (g ∷ more) h = h.1
