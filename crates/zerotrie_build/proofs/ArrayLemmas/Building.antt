-- What a build into an array, or into another buffer, answers.
use Rattle.std.proofs.Common.{◌≡◌, ℕ, ◌+◌, ◌-◌, ◌^◌, ◌<◌, ◌≤◌, inl, inr, List, length, refl, sym, ◌∙◌, ap, subst, arith, All, drop}
use Rattle.std.proofs.lemmas.Bool.{cases_lt}
use Rattle.std.specs.FinMap.{entries}
use Rattle.zerotrie_base.specs.Kind.{Kind, IsAscii}
use Rattle.zerotrie_base.specs.Maps.{Pairs, map_of, AscendsIn}
use Rattle.zerotrie_base.specs.Texts.{Lists, Means}
use Rattle.zerotrie_base.specs.Canonical.{size}
use Rattle.zerotrie_base.specs.Stack.{stack, stack_of}
use Rattle.zerotrie_base.specs.Laws.{MeansFits, MeansCanonical}
use Rattle.zerotrie_base.specs.ArrayRoutes.{IsArrayBuilt, IsRefusalWithin}
use Rattle.zerotrie_base.specs.declared.error.ZeroTrieBuildError.{ZeroTrieBuildError}
use Rattle.zerotrie_base.specs.declared.error.ZeroTrieBuildError.TheVariants.{NonAsciiError, BufferTooSmall}
use Rattle.zerotrie_base.proofs.CallerLemmas.{ascends_in_apart, edge_limit_is, same-entries, same-size_of, same-stack_of, listed_size}
use Rattle.zerotrie_build.specs.array.Texts.{EndsIn}
use Rattle.zerotrie_build.specs.array.Growing.{IsRefusedBuild, IsWritten, IsDisorder}
use Rattle.zerotrie_build.proofs.Building.{some_foreign}

-- the size and the need of the map of pairs
pub size_is : (kind : Kind) (pairs : Pairs) (bytes : List ℕ) → Lists kind bytes pairs → size kind (map_of pairs) ≡ length bytes
unfolding size
size_is kind pairs bytes lists = same-size_of kind (entries (map_of pairs)) pairs (same-entries pairs) ∙ listed_size lists

pub stack_is : (kind : Kind) (pairs : Pairs) → stack kind (map_of pairs) ≡ stack_of kind pairs
unfolding stack
stack_is kind pairs = same-stack_of kind (entries (map_of pairs)) pairs (same-entries pairs)

pub too_much : (kind : Kind) (n k : ℕ) (pairs : Pairs) (e : ZeroTrieBuildError) → AscendsIn kind pairs → IsRefusedBuild kind k pairs e → IsRefusalWithin kind n k pairs e
too_much kind n k pairs e up stuck = elim stuck [
  | inl wide ↦ subst (IsRefusalWithin kind n k pairs) (sym wide.0) ((λ needed same. cc), (ascends_in_apart kind pairs up, wide.1))
  | inr many ↦ subst (IsRefusalWithin kind n k pairs) (sym many.0) ((λ needed same. cc), (ascends_in_apart kind pairs up, (let s = stack_is kind pairs in let m = many.1 in omega arith)))
]

pub not_ascii : (kind : Kind) (n k : ℕ) (pairs : Pairs) → IsAscii kind → (All (λ e. All (λ b. b < 128) e.0) pairs → ⊥) → IsRefusalWithin kind n k pairs NonAsciiError
not_ascii kind n k pairs is_ascii none =
    ((λ needed same. cc), some_foreign kind pairs (λ all. none (λ i d l j e m. let limit = edge_limit_is kind is_ascii in let b = all i d l j e m in omega arith)))

pub disorder : (kind : Kind) (n k : ℕ) (pairs : Pairs) (e : ZeroTrieBuildError) → IsDisorder kind pairs e → IsRefusalWithin kind n k pairs e
disorder kind n k pairs e why = elim why [
  | inl unsorted ↦ subst (IsRefusalWithin kind n k pairs) (sym unsorted.0) ((λ needed same. cc), unsorted.1)
  | inr mixed ↦ subst (IsRefusalWithin kind n k pairs) (sym mixed.0) ((λ needed same. cc), mixed.1)
]

pub too_small : (kind : Kind) (n k : ℕ) (pairs : Pairs) (bytes : List ℕ) → AscendsIn kind pairs → Lists kind bytes pairs → n < length bytes → IsRefusalWithin kind n k pairs BufferTooSmall
too_small kind n k pairs bytes up lists long = ((λ needed same. cc), (ascends_in_apart kind pairs up, (let s = size_is kind pairs bytes lists in omega arith)))

pub array_built : (kind : Kind) (k : ℕ) (pairs : Pairs) (bytes : List ℕ) → ((kind : Kind) → MeansFits kind) → ((kind : Kind) → IsAscii kind → MeansCanonical kind) → AscendsIn kind pairs → Lists kind bytes pairs → length bytes < 2 ^ 64
    → stack_of kind pairs ≤ k → IsArrayBuilt kind k pairs bytes
array_built kind k pairs bytes fits canonical up lists short enough =
    let means : Means kind bytes (map_of pairs) = record { short = short; pairs = pairs; lists = lists; is = refl } in
    record {
      ascends = up;
      built = record {
        fits = fits kind bytes (map_of pairs) means;
        text = λ ascii. canonical kind ascii bytes (map_of pairs) means;
        means = means;
      };
      within = let s = stack_is kind pairs in omega arith;
    }

-- a count below the greatest number is exact
counted : (buffer bytes : List ℕ) (len : ℕ) → EndsIn buffer len bytes → len + 1 < 2 ^ 64 → len ≡ length bytes
counted buffer bytes len ends short = elim (cases_lt (length bytes) (2 ^ 64)) [
  | inl low ↦ ends.exact low
  | inr high ↦ absurd (let c = ends.capped high in omega arith)
]

-- the buffer has room for the bytes
pub filled : (kind : Kind) (k : ℕ) (pairs : Pairs) (buffer : List ℕ) (len : ℕ) → ((kind : Kind) → MeansFits kind) → ((kind : Kind) → IsAscii kind → MeansCanonical kind) → IsWritten kind k pairs buffer len
    → len ≤ length buffer → length buffer + 1 < 2 ^ 64 → IsArrayBuilt kind k pairs (drop (length buffer - len) buffer) × (size kind (map_of pairs) ≡ len)
filled kind k pairs buffer len fits canonical w within room =
    let e = counted buffer w.bytes len w.ends (omega arith) in
    let is : drop (length buffer - len) buffer ≡ w.bytes = ap (λ l. drop (length buffer - l) buffer) e ∙ w.ends.written (omega arith) in
    let built = array_built kind k pairs w.bytes fits canonical w.ascends w.lists (omega arith) w.enough in
    (subst (IsArrayBuilt kind k pairs) (sym is) built, size_is kind pairs w.bytes w.lists ∙ sym e)

-- the buffer has room for as many bytes as were counted before
pub filled_whole : (kind : Kind) (k : ℕ) (pairs : Pairs) (first buffer : List ℕ) (len again : ℕ) → ((kind : Kind) → MeansFits kind) → ((kind : Kind) → IsAscii kind → MeansCanonical kind) → IsWritten kind k pairs first len
    → IsWritten kind k pairs buffer again → length buffer ≡ len → len + 1 < 2 ^ 64 → IsArrayBuilt kind k pairs buffer × (size kind (map_of pairs) ≡ len)
filled_whole kind k pairs first buffer len again fits canonical w v room short =
    let e = counted first w.bytes len w.ends short in
    let size_w = size_is kind pairs w.bytes w.lists in
    let size_v = size_is kind pairs v.bytes v.lists in
    let none : length buffer - length v.bytes ≡ 0 = omega arith in
    let is : buffer ≡ v.bytes = ap (λ n. drop n buffer) (sym none) ∙ v.ends.written (omega arith) in
    (subst (IsArrayBuilt kind k pairs) (sym is) (array_built kind k pairs v.bytes fits canonical v.ascends v.lists (omega arith) v.enough), size_w ∙ sym e)

-- more bytes were counted than there may be
pub lost : (kind : Kind) (n k : ℕ) (pairs : Pairs) (buffer : List ℕ) (len : ℕ) → IsWritten kind k pairs buffer len → n < len → n < 2 ^ 64 → IsRefusalWithin kind n k pairs BufferTooSmall
lost kind n k pairs buffer len w more short =
    too_small kind n k pairs w.bytes w.ascends w.lists (elim (cases_lt (length w.bytes) (2 ^ 64)) [ inl low ↦ let e = w.ends.exact low in omega arith | inr high ↦ omega arith ])
