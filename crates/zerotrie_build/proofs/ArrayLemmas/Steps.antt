-- What the steps of the walk do, by the texts and the siblings.
use Rattle.std.proofs.Common.{◌≡◌, ℕ, suc, ◌+◌, ◌-◌, ◌^◌, ◌<◌, ◌≤◌, ◌⊎◌, inl, inr, List, [], ◌∷◌, ◌++◌, length, refl, sym, ◌∙◌, ap, subst, arith, take, drop, get_or, All, reverse, Result, Ok, Err}
use Rattle.std.proofs.lemmas.Bool.{cases_lt}
use Rattle.std.specs.Prelude.{OnOk}
use Rattle.std.proofs.lemmas.List.{drop_more, take-append-drop, reverse-append, length-reverse, length-drop}
use Rattle.std.proofs.Math.Seq.{take-length}
use Rattle.zerotrie_base.specs.Kind.{Kind, IsAscii}
use Rattle.zerotrie_base.specs.Maps.{Pairs}
use Rattle.zerotrie_base.specs.Branches.{total, branch_front}
use Rattle.zerotrie_base.specs.declared.error.ZeroTrieBuildError.{ZeroTrieBuildError}
use Rattle.zerotrie_base.specs.declared.error.ZeroTrieBuildError.TheVariants.{CapacityExceeded, StackExceeded}
use Rattle.zerotrie_build.specs.declared.array.text.Sibling.{Sibling}
use Rattle.zerotrie_build.specs.declared.array.text.Text.{Text}
use Rattle.zerotrie_build.specs.Order.{Before}
use Rattle.zerotrie_build.specs.array.Texts.{Counts, EndsIn, Has, Prepends, newest_first, bytes_of, lens_of}
use Rattle.zerotrie_build.specs.array.Growing.{NoneAt, AllAt, ReadyFor, IsClosedTo, IsReady, Joins, LevelTooWide, RefusedAt, RefusedFrom, RefusedBefore}
use Rattle.zerotrie_build.proofs.OrderLemmas.Parting.{common}
use Rattle.zerotrie_build.proofs.ArrayLemmas.Parting.{parted, at_most_front}
use Rattle.zerotrie_build.proofs.ArrayLemmas.Runs.{among_right}
use Rattle.zerotrie_build.proofs.ArrayLemmas.Closing.{with_literal, opens, closed, too_wide, too_many, two_aside, two_before, set_aside, goes_on}

pub on_ok_both : {T E : Type 0} (P Q : Type 0) (r : Result T E) → OnOk r P → OnOk r Q → OnOk r (P × Q)
on_ok_both P Q (Ok x) p q = (p, q)
on_ok_both P Q (Err e) p q = tt

all_at_more : (d : ℕ) (taken : List Sibling) (s : Sibling) → AllAt d taken → s.depth ≡ d → AllAt d (taken ++ s ∷ [])
all_at_more d [] s all e = (e, tt)
all_at_more d (t ∷ taken) s all e = (all.0, all_at_more d taken s all.1 e)

pub level_more : (d : ℕ) (ss : List Sibling) (start : ℕ) (e : Sibling) → 0 < start → start ≤ length ss → (get_or ss (start - 1) e).depth ≡ d → AllAt d (newest_first (drop start ss)) → AllAt d (newest_first (drop (start - 1) ss))
level_more d ss start e some within at level =
    let next : (start - 1) + 1 ≡ start = omega arith in
    let s = get_or ss (start - 1) e in
    let cut : drop (start - 1) ss ≡ s ∷ drop start ss = drop_more ss (start - 1) e (omega arith) ∙ ap (λ n. s ∷ drop n ss) next in
    subst (λ x. AllAt d (newest_first x)) (sym cut) (subst (AllAt d) (sym (reverse-append (s ∷ []) (drop start ss))) (all_at_more d (newest_first (drop start ss)) s level at))

-- the siblings after a place, and those before it
pub split_at : (ss : List Sibling) (start : ℕ) → newest_first ss ≡ newest_first (drop start ss) ++ newest_first (take start ss)
split_at ss start = ap reverse (sym (take-append-drop start ss)) ∙ reverse-append (take start ss) (drop start ss)

-- what a range to the end lends
pub to_end : (ss : List Sibling) (start : ℕ) → take (length ss - start) (drop start ss) ≡ drop start ss
to_end ss start = ap (λ n. take n (drop start ss)) (sym (length-drop start ss)) ∙ take-length (drop start ss)

pub has_same : (t u : Text) (bytes : List ℕ) → t.buffer.now ≡ u.buffer.now → t.len ≡ u.len → Has t bytes → Has u bytes
has_same t u bytes e f h = subst (λ l. EndsIn u.buffer.now l bytes) f (subst (λ b. EndsIn b t.len bytes) e h)

pub sum_exact : (t r : ℕ) → (t < 2 ^ 64 → r ≡ t) → (2 ^ 64 ≤ t → 2 ^ 32 ≤ r) → r < 2 ^ 32 → r ≡ t
sum_exact t r exact capped small = elim (cases_lt t (2 ^ 64)) [ inl low ↦ exact low | inr high ↦ absurd (let c = capped high in omega arith) ]

pub sum_wide : (t r : ℕ) → (t < 2 ^ 64 → r ≡ t) → (2 ^ 64 ≤ t → 2 ^ 32 ≤ r) → 2 ^ 32 ≤ r → 2 ^ 32 ≤ t
sum_wide t r exact capped large = elim (cases_lt t (2 ^ 64)) [ inl low ↦ let e = exact low in omega arith | inr high ↦ omega arith ]

-- a branch is made of the siblings after a place
pub joins_at : (d : ℕ) (old mid new : Text) (ss branch left : List Sibling) (start : ℕ) → branch ≡ drop start ss → left ≡ take start ss → AllAt d (newest_first (drop start ss)) → NoneAt d (newest_first (take start ss))
    → mid.buffer.now ≡ old.buffer.now → mid.len ≡ old.len → mid.front ≡ total (lens_of (newest_first branch)) → total (lens_of (newest_first branch)) < 2 ^ 32
    → Prepends mid new (branch_front (bytes_of (newest_first branch)) (lens_of (newest_first branch))) → Joins d old new (newest_first ss) (newest_first left)
joins_at d old mid new ss branch left start is left_is level none written len front narrow p =
    let taken = newest_first branch in record {
      taken = taken;
      split = split_at ss start ∙ ap (λ x. newest_first x ++ newest_first (take start ss)) (sym is) ∙ ap (λ x. taken ++ newest_first x) (sym left_is);
      level = subst (λ x. AllAt d (newest_first x)) (sym is) level;
      no_more = subst (λ x. NoneAt d (newest_first x)) (sym left_is) none;
      narrow = narrow;
      has = λ behind h. p.has behind (has_same old mid behind (sym written) (sym len) h);
      counts = p.counts (total (lens_of taken)) (subst (λ c. Counts c (total (lens_of taken))) (sym front) (record { small = λ l. refl; large = λ l. l }));
    }

pub wide_at : (d : ℕ) (ss branch : List Sibling) (start : ℕ) → branch ≡ drop start ss → AllAt d (newest_first (drop start ss)) → NoneAt d (newest_first (take start ss)) → 2 ^ 32 ≤ total (lens_of (newest_first branch)) → LevelTooWide d (newest_first ss)
wide_at d ss branch start is level none wide = record {
  taken = newest_first branch;
  after = newest_first (take start ss);
  split = split_at ss start ∙ ap (λ x. newest_first x ++ newest_first (take start ss)) (sym is);
  level = subst (λ x. AllAt d (newest_first x)) (sym is) level;
  no_more = none;
  wide = wide;
}

-- The text is set aside and a branch is made of it and the siblings at its depth.
pub closes_branch : (kind : Kind) (k : ℕ) (key : List ℕ) (d : ℕ) (old mid new : Text) (before aside after : List Sibling) (listed : Pairs) → IsAscii kind → d < length key → All (λ b. b < 128) key
    → (NoneAt d (newest_first before) → ⊥) → length before < k → newest_first aside ≡ record { depth = d; byte = get_or key d 0; len = old.front } ∷ newest_first before
    → mid.buffer.now ≡ old.buffer.now → mid.len ≡ old.len → Joins d mid new (newest_first aside) (newest_first after)
    → IsClosedTo kind k key (suc d) old before listed → IsClosedTo kind k key d new after listed
closes_branch kind k key d old mid new before aside after listed is_ascii within ascii some room is written len j standing =
    let bytes = standing.0 in
    let h = has_same old mid bytes (sym written) (sym len) standing.1 in
    let o = opens kind k key d old.front (newest_first before) j.taken (newest_first after) bytes listed within (ascii d 0 within) some (let l = length-reverse before in omega arith) (sym is ∙ j.split) j.level j.no_more standing.2 in
    (branch_front (bytes_of j.taken) (lens_of j.taken) ++ bytes, j.has bytes h, closed kind k key d new.front j.taken (newest_first after) bytes listed is_ascii o j.narrow j.counts)

-- their texts are too long together
pub stuck_wide : (kind : Kind) (k : ℕ) (key : List ℕ) (d : ℕ) (old : Text) (before aside : List Sibling) (listed : Pairs) (e : ZeroTrieBuildError) → IsAscii kind → d < length key → All (λ b. b < 128) key
    → (NoneAt d (newest_first before) → ⊥) → length before < k → newest_first aside ≡ record { depth = d; byte = get_or key d 0; len = old.front } ∷ newest_first before
    → e ≡ CapacityExceeded → LevelTooWide d (newest_first aside) → IsClosedTo kind k key (suc d) old before listed → RefusedAt kind k key d listed e
stuck_wide kind k key d old before aside listed e is_ascii within ascii some room is error t standing =
    let o = opens kind k key d old.front (newest_first before) t.taken t.after standing.0 listed within (ascii d 0 within) some (let l = length-reverse before in omega arith) (sym is ∙ t.split) t.level t.no_more standing.2 in
    inl (error, too_wide kind k key d t.taken t.after standing.0 listed is_ascii o (omega arith) t.wide)

-- too many siblings wait
pub stuck_many : (kind : Kind) (k : ℕ) (key : List ℕ) (d : ℕ) (old : Text) (before : List Sibling) (listed : Pairs) (e : ZeroTrieBuildError) → d < length key → All (λ b. b < 128) key
    → (NoneAt d (newest_first before) → ⊥) → k ≤ length before → e ≡ StackExceeded → IsClosedTo kind k key (suc d) old before listed → RefusedAt kind k key d listed e
stuck_many kind k key d old before listed e within ascii some full error standing =
    inr (
      error,
      λ all among.
          too_many kind k key d (newest_first before) old.front standing.0 listed all within ascii standing.2 (let l = length-reverse before in omega arith) among
          (two_aside kind k key d (newest_first before) old.front standing.0 listed all within ascii standing.2 some among),
    )

-- a literal is put in front
pub closes_literal : (kind : Kind) (k : ℕ) (key : List ℕ) (d : ℕ) (old new : Text) (siblings : List Sibling) (listed : Pairs) → d < length key → All (λ b. b < 128) key → NoneAt d (newest_first siblings)
    → Prepends old new (get_or key d 0 ∷ []) → IsClosedTo kind k key (suc d) old siblings listed → IsClosedTo kind k key d new siblings listed
closes_literal kind k key d old new siblings listed within ascii none p standing = (
  get_or key d 0 ∷ standing.0,
  p.has standing.0 standing.1,
  with_literal kind k key d (get_or key d 0) (newest_first siblings) old.front new.front standing.0 listed within refl (ascii d 0 within) none
      (λ m c. p.counts m c) standing.2,
)

-- the key before is a front of the key
pub goes_before : (kind : Kind) (k : ℕ) (before key : List ℕ) (text : Text) (siblings : List Sibling) (listed : Pairs) → Before kind before key → common before key ≡ length before
    → IsClosedTo kind k key (common before key) text siblings listed → IsReady kind k before text siblings listed
goes_before kind k before key text siblings listed sorted ends standing = (
  standing.0,
  standing.1,
  goes_on kind k before key (common before key) (newest_first siblings) text.front standing.0 listed (parted kind before key sorted) ends standing.2,
)

-- the text is set aside for the key before
pub parts_before : (kind : Kind) (k : ℕ) (before key : List ℕ) (old new : Text) (siblings aside : List Sibling) (listed : Pairs) → Before kind before key → All (λ b. b < 128) key → common before key < length before
    → length siblings < k → newest_first aside ≡ record { depth = common before key; byte = get_or key (common before key) 0; len = old.front } ∷ newest_first siblings → new.front ≡ 0
    → new.buffer.now ≡ old.buffer.now → new.len ≡ old.len
    → IsClosedTo kind k key (suc (common before key)) old siblings listed → IsReady kind k before new aside listed
parts_before kind k before key old new siblings aside listed sorted ascii longer room is front written len standing =
    let p = parted kind before key sorted in
    let c = common before key in
    let w = set_aside kind k before key c (get_or key c 0) old.front (newest_first siblings) standing.0 listed p longer refl (ascii c 0 p.room) (let l = length-reverse siblings in omega arith) standing.2 in (
      standing.0,
      has_same old new standing.0 (sym written) (sym len) standing.1,
      subst (λ ss. ReadyFor kind k before ss new.front standing.0 listed) (sym is)
          (subst (λ f. ReadyFor kind k before (record { depth = c; byte = get_or key c 0; len = old.front } ∷ newest_first siblings) f standing.0 listed) (sym front) w),
    )

-- too many siblings wait for the key before
pub stuck_before : (kind : Kind) (k : ℕ) (before key : List ℕ) (text : Text) (siblings : List Sibling) (listed : Pairs) (e : ZeroTrieBuildError) → Before kind before key → All (λ b. b < 128) key
    → common before key < length before → k ≤ length siblings → e ≡ StackExceeded → IsClosedTo kind k key (suc (common before key)) text siblings listed → RefusedBefore kind k before listed e
stuck_before kind k before key text siblings listed e sorted ascii longer full error standing =
    let p = parted kind before key sorted in
    let c = common before key in
    inr (
      error,
      λ v all among.
          too_many kind k key c (newest_first siblings) text.front standing.0 listed all p.room ascii standing.2 (let l = length-reverse siblings in omega arith) (λ f b h. among f b (among_right ((before, v) ∷ []) listed f b h))
          (two_before kind k before key v c (newest_first siblings) text.front standing.0 listed all p.room ascii p longer standing.2 among),
    )

-- what stops the walk below the key stops it before the key before
pub stuck_from : (kind : Kind) (k : ℕ) (before key : List ℕ) (stop : ℕ) (listed : Pairs) (e : ZeroTrieBuildError) → Before kind before key
    → ((length before ≡ common before key) × (common before key ≤ stop)) ⊎ (common before key < stop) → RefusedFrom kind k key stop listed e → RefusedBefore kind k before listed e
stuck_from kind k before key stop listed e sorted where_stopped stuck = elim stuck.3 [
  | inl wide ↦ inl (wide.0, (take stuck.0 key, at_most_front kind before key stuck.0 sorted (further where_stopped), wide.1))
  | inr many ↦ inr (many.0, λ v all among. many.1 all (λ f b h. among f b (among_right ((before, v) ∷ []) listed f b h)))
]
  where
    further : ((length before ≡ common before key) × (common before key ≤ stop)) ⊎ (common before key < stop) → ((length before ≡ common before key) × (common before key ≤ stuck.0)) ⊎ (common before key < stuck.0)
    further w = let a = stuck.1 in elim w [ inl ends ↦ inl (ends.0, let b = ends.1 in omega arith) | inr more ↦ inr (omega arith) ]
