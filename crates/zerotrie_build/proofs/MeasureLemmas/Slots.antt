-- The slots of a branch while its targets are measured.
use Rattle.std.proofs.Common.{◌≡◌, ℕ, zero, suc, ◌+◌, ◌-◌, ◌^◌, ◌<◌, ◌≤◌, inl, inr, Bool, true, false, List, [], ◌∷◌, ◌++◌, length, refl, sym, ◌∙◌, ap, subst, arith, get_or, map, replicate, append_assoc, length-append}
use Rattle.std.proofs.lemmas.List.{append-nil, length-map}
use Rattle.std.specs.Prelude.{slice_set, if◌then◌else◌}
use Rattle.std.specs.List.{concat}
use Rattle.std.specs.FinMap.{entries}
use Rattle.zerotrie_base.specs.Kind.{Kind, fold_byte, edge_limit, greatest_width, is_hashed, ordered as in_order, simple_ascii, ignore_case, perfect_hash, extended_capacity}
use Rattle.zerotrie_base.specs.Maps.{Pairs, map_of, behind_all, edges}
use Rattle.zerotrie_base.specs.Canonical.{size, size_of}
use Rattle.zerotrie_base.specs.Fits.{ExceedsCapacity}
use Rattle.zerotrie_base.proofs.CallerLemmas.{Rises, AllAbove, rises_increasing, fold_ascii, size_none, same-size_of, same-entries}
use Rattle.zerotrie_build.specs.Order.{AreKeys}
use Rattle.zerotrie_build.specs.declared.windows.Window.{Window}
use Rattle.zerotrie_build.specs.declared.windows.Step.TheVariants.{End, Branch}
use Rattle.zerotrie_build.specs.declared.measure.OpenBranch.{OpenBranch}
use Rattle.zerotrie_build.specs.passes.Windows.{window, step_of}
use Rattle.zerotrie_build.specs.passes.Measured.{Passes, NoneFirst, ends_from, slots_of, HasFirstTargets, AreSlotsOf}
use Rattle.zerotrie_build.specs.passes.Measured.AreSlotsOf.{kept}
use Rattle.zerotrie_build.specs.passes.Measured.AreSlotsOfEach.{none as kept_none}
use Rattle.zerotrie_build.specs.passes.Walking.{IsBehindFront, IsPlaced, slots_so_far, with_len}
use Rattle.zerotrie_build.proofs.Nodes.{power_some}
use Rattle.zerotrie_build.proofs.Overflow.{same_edges}
use Rattle.zerotrie_build.proofs.WindowLemmas.Windows.{cut_none}
use Rattle.zerotrie_build.proofs.WindowLemmas.Groups.{edges_grouped}
use Rattle.zerotrie_build.proofs.WindowLemmas.NodeRuns.{along, step_branch}

-- the fold of a byte of the kind is a byte
fold_low : (kind : Kind) (b : ℕ) → b < edge_limit kind → fold_byte kind b < 256
fold_low simple_ascii b h = omega arith
fold_low ignore_case b h = (let f = fold_ascii ignore_case b h in omega arith)
fold_low perfect_hash b h = h
fold_low extended_capacity b h = h

count_above : (kind : Kind) (x : ℕ) (es : List ℕ) → x < 256 → AllAbove kind x es → Rises kind es → ((i d : ℕ) → i < length es → get_or es i d < edge_limit kind) → length es + suc x ≤ 256
count_above kind x [] h above up low = omega arith
count_above kind x (e ∷ es) h above up low =
    let more = count_above kind (fold_byte kind e) es (fold_low kind e (low 0 0 (omega arith))) up.0 up.1 (λ i d l. low (suc i) d (omega arith)) in
    omega (arith, above.0)

-- a branch has 256 edges at most
pub rises_count : (kind : Kind) (es : List ℕ) → Rises kind es → ((i d : ℕ) → i < length es → get_or es i d < edge_limit kind) → length es ≤ 256
rises_count kind [] up low = omega arith
rises_count kind (e ∷ es) up low =
    let more = count_above kind (fold_byte kind e) es (fold_low kind e (low 0 0 (omega arith))) up.0 up.1 (λ i d l. low (suc i) d (omega arith)) in
    omega arith

-- a text of 2^64 bytes or more
pub exceeds_size : (kind : Kind) (all : Pairs) → 2 ^ 64 ≤ size_of kind all → ExceedsCapacity kind (map_of all)
unfolding size
exceeds_size kind all large = let same = same-size_of kind (entries (map_of all)) all (same-entries all) in inl (omega arith)

no_edges : (kind : Kind) → is_hashed kind 0 ≡ false
no_edges simple_ascii = refl
no_edges ignore_case = refl
no_edges perfect_hash = refl
no_edges extended_capacity = refl

pub not_branch : (kind : Kind) (all : Pairs) (w : Window) → step_of kind all w ≡ End → step_of kind all w ≡ Branch → ⊥
not_branch kind all w end branch = let e = sym end ∙ branch in cc

pub edges_behind : (kind : Kind) (all : Pairs) (w : Window) (at : IsBehindFront all w) (es : List ℕ) → in_order kind (edges (window all w)) ≡ es → in_order kind (edges (behind_all at.0 all)) ≡ es
edges_behind kind all w at es is = ap (in_order kind) (same_edges (behind_all at.0 all) (window all w) at.1) ∙ is

pub at_end : (kind : Kind) (all : Pairs) (w : Window) → NoneFirst kind all w → w.to ≤ w.from → step_of kind all w ≡ End
at_end kind all w (inl end) past = end
at_end kind all w (inr branch) past = absurd (let p = (step_branch kind all w branch).inside in omega arith)

no_slots : (kind : Kind) → slots_of kind [] [] ≡ []
no_slots kind = ap (λ b. (if b then ends_from 0 [] else []) ++ []) (no_edges kind)

-- a window without a branch
pub kept_end : (kind : Kind) (all : Pairs) (w behind : Window) (n : ℕ) → IsPlaced kind all w → AreKeys kind all → Passes kind all w behind n → NoneFirst kind all behind → behind.to ≤ behind.from → AreSlotsOf kind all w [] × (n ≡ size_of kind (window all w))
kept_end kind all w behind n placed keys run stops past =
    let a = along run placed.within keys placed.ordered in
    let order = a.order placed.order in
    let end = at_end kind all behind stops past in
    let empty : window all behind ≡ [] = cut_none all behind.from behind.to behind.depth past in
    let size = a.size in
    let zero_size : size_of kind (window all behind) ≡ 0 = ap (size_of kind) empty ∙ size_none kind in
    let at = a.at placed.behind in
    let o : HasFirstTargets kind all w [] = record {
      within = placed.within;
      ordered = placed.ordered;
      behind = behind;
      bytes = n;
      run = run;
      stops = stops;
      parts = omega arith;
      groups = omega arith;
      rises = rises_increasing kind [] tt;
      low = λ i d h. absurd (omega arith);
      front = at.0;
      edges_are = edges_behind kind all behind at [] (ap (λ ps. in_order kind (edges ps)) empty ∙ edges_grouped kind [] [] tt tt (λ b h. absurd (cc)));
      none = λ e. (refl, omega arith);
      some = λ e. absurd (not_branch kind all behind end e);
      narrow = power_some (greatest_width kind + 1);
    } in
    (subst (AreSlotsOf kind all w) (no_slots kind) (kept o kept_none), omega arith)

-- one slot of a list
set_middle : (xs : List ℕ) (y v : ℕ) (ys : List ℕ) → slice_set (xs ++ y ∷ ys) (length xs) v ≡ xs ++ v ∷ ys
set_middle [] y v ys = refl
set_middle (x ∷ xs) y v ys = ap (λ r. x ∷ r) (set_middle xs y v ys)

pub get_middle : (xs : List ℕ) (y d : ℕ) (ys : List ℕ) → get_or (xs ++ y ∷ ys) (length xs) d ≡ y
get_middle [] y d ys = refl
get_middle (x ∷ xs) y d ys = get_middle xs y d ys

concat_snoc : (below : List (List ℕ)) (own : List ℕ) → concat (below ++ own ∷ []) ≡ concat below ++ own
concat_snoc [] own = append-nil own
concat_snoc (b ∷ below) own = ap (λ x. b ++ x) (concat_snoc below own) ∙ sym (append_assoc b (concat below) own)

ends_snoc : (n : ℕ) (below : List (List ℕ)) (own : List ℕ) → ends_from n (map length (below ++ own ∷ [])) ≡ ends_from n (map length below) ++ (n + (length (concat below) + length own)) ∷ []
ends_snoc n [] own = let z : length own ≡ 0 + length own = omega arith in ap (λ m. (n + m) ∷ []) z
ends_snoc n (b ∷ below) own =
    let e : n + length b + (length (concat below) + length own) ≡ n + (length (concat (b ∷ below)) + length own) = (let l = length-append b (concat below) in omega arith) in
    ap (λ r. (n + length b) ∷ r) (ends_snoc (n + length b) below own ∙ ap (λ x. ends_from (n + length b) (map length below) ++ x ∷ []) e)

pub length-ends_from : (n : ℕ) (ms : List ℕ) → length (ends_from n ms) ≡ length ms
length-ends_from n [] = refl
length-ends_from n (m ∷ ms) = ap suc (length-ends_from (n + m) ms)

pub length-zeros : (n : ℕ) → length (replicate {A = ℕ} n 0) ≡ n
length-zeros zero = refl
length-zeros (suc n) = ap suc (length-zeros n)

-- the slots of a branch while a target is measured, as what stands in front of its slot and after it
pub so_far_at : (kind : Kind) (lens : List ℕ) (e : ℕ) (ends : List ℕ) (below : List (List ℕ)) (before more : List ℕ) → (before ++ slots_so_far kind lens (e ∷ ends) below) ++ more
    ≡ (before ++ lens) ++ e ∷ (ends ++ (((if is_hashed kind (length (lens ++ e ∷ ends)) then ends_from 0 (map length below) ++ replicate (length (e ∷ ends)) 0 else []) ++ concat below) ++ more))
so_far_at kind lens e ends below before more =
    let spare = (if is_hashed kind (length (lens ++ e ∷ ends)) then ends_from 0 (map length below) ++ replicate (length (e ∷ ends)) 0 else []) ++ concat below in
    append_assoc before ((lens ++ e ∷ ends) ++ spare) more
    ∙ ap (λ x. before ++ x) (append_assoc (lens ++ e ∷ ends) spare more ∙ append_assoc lens (e ∷ ends) (spare ++ more))
    ∙ sym (append_assoc before lens (e ∷ (ends ++ (spare ++ more))))

-- one more length
lens_more : (lens : List ℕ) (len : ℕ) (ends rest : List ℕ) → (lens ++ len ∷ (ends ++ rest)) ≡ ((lens ++ len ∷ []) ++ ends) ++ rest
lens_more lens len ends rest = sym (append_assoc lens (len ∷ []) (ends ++ rest)) ∙ sym (append_assoc (lens ++ len ∷ []) ends rest)

count_more : (lens : List ℕ) (e len : ℕ) (ends : List ℕ) → length (lens ++ e ∷ ends) ≡ length ((lens ++ len ∷ []) ++ ends)
count_more lens e len ends =
    let a = length-append lens (e ∷ ends) in let b = length-append (lens ++ len ∷ []) ends in let c = length-append lens (len ∷ []) in omega arith

plain_with : (kind : Kind) (f : OpenBranch) (len : ℕ) (slots : List ℕ) → is_hashed kind (f.end - f.first) ≡ false → with_len kind f len slots ≡ slice_set slots f.next len
plain_with kind f len slots plain = rw plain refl

hashed_with : (kind : Kind) (f : OpenBranch) (len : ℕ) (slots : List ℕ) → is_hashed kind (f.end - f.first) ≡ true
    → with_len kind f len slots ≡ slice_set (slice_set slots f.next len) (f.next + (f.end - f.first)) (length slots - (f.end + (f.end - f.first)))
hashed_with kind f len slots wide = rw wide refl

set_first : (kind : Kind) (f : OpenBranch) (before lens : List ℕ) (e : ℕ) (ends : List ℕ) (below : List (List ℕ)) (own : List ℕ) (len : ℕ) → f.first ≡ length before → f.next ≡ f.first + length lens
    → slice_set ((before ++ slots_so_far kind lens (e ∷ ends) below) ++ own) f.next len
    ≡ (before ++ lens) ++ len ∷ (ends ++ (((if is_hashed kind (length (lens ++ e ∷ ends)) then ends_from 0 (map length below) ++ replicate (length (e ∷ ends)) 0 else []) ++ concat below) ++ own))
set_first kind f before lens e ends below own len first next =
    let rest = ends ++ (((if is_hashed kind (length (lens ++ e ∷ ends)) then ends_from 0 (map length below) ++ replicate (length (e ∷ ends)) 0 else []) ++ concat below) ++ own) in
    let at : f.next ≡ length (before ++ lens) = (let l = length-append before lens in omega arith) in
    ap (λ x. slice_set x f.next len) (so_far_at kind lens e ends below before own) ∙ ap (λ n. slice_set ((before ++ lens) ++ e ∷ rest) n len) at ∙ set_middle (before ++ lens) e len rest

-- the slots, when a target more is measured
pub with_len_is : (kind : Kind) (f : OpenBranch) (before lens : List ℕ) (e : ℕ) (ends : List ℕ) (below : List (List ℕ)) (own : List ℕ) (len : ℕ) → f.first ≡ length before → f.next ≡ f.first + length lens
    → f.end ≡ f.next + 1 + length ends → length below ≡ length lens
    → with_len kind f len ((before ++ slots_so_far kind lens (e ∷ ends) below) ++ own) ≡ before ++ slots_so_far kind (lens ++ len ∷ []) ends (below ++ own ∷ [])
with_len_is kind f before lens e ends below own len first next end same = by (is_hashed kind (f.end - f.first)) refl
  where
    slots : List ℕ
    slots = (before ++ slots_so_far kind lens (e ∷ ends) below) ++ own

    edges : f.end - f.first ≡ length (lens ++ e ∷ ends)
    edges = let a = length-append lens (e ∷ ends) in omega arith

    many : f.end - f.first ≡ length ((lens ++ len ∷ []) ++ ends)
    many = edges ∙ count_more lens e len ends

    -- the end of the list, in either case
    goal_from : (spare : List ℕ) → (if is_hashed kind (length ((lens ++ len ∷ []) ++ ends)) then ends_from 0 (map length (below ++ own ∷ [])) ++ replicate (length ends) 0 else []) ≡ spare
        → (before ++ lens) ++ len ∷ (ends ++ (spare ++ (concat below ++ own))) ≡ before ++ slots_so_far kind (lens ++ len ∷ []) ends (below ++ own ∷ [])
    goal_from spare is =
        append_assoc before lens (len ∷ (ends ++ (spare ++ (concat below ++ own))))
        ∙ ap (λ x. before ++ x) (lens_more lens len ends (spare ++ (concat below ++ own)) ∙ ap (λ x. ((lens ++ len ∷ []) ++ ends) ++ (x ++ (concat below ++ own))) (sym is)
        ∙ ap (λ x. ((lens ++ len ∷ []) ++ ends) ++ ((if is_hashed kind (length ((lens ++ len ∷ []) ++ ends)) then ends_from 0 (map length (below ++ own ∷ [])) ++ replicate (length ends) 0 else []) ++ x)) (sym (concat_snoc below own)))

    by : (b : Bool) → is_hashed kind (f.end - f.first) ≡ b → with_len kind f len slots ≡ before ++ slots_so_far kind (lens ++ len ∷ []) ends (below ++ own ∷ [])
    by false plain =
        let old : is_hashed kind (length (lens ++ e ∷ ends)) ≡ false = ap (is_hashed kind) (sym edges) ∙ plain in
        let new : is_hashed kind (length ((lens ++ len ∷ []) ++ ends)) ≡ false = ap (is_hashed kind) (sym many) ∙ plain in
        plain_with kind f len slots plain ∙ set_first kind f before lens e ends below own len first next
        ∙ ap (λ b. (before ++ lens) ++ len ∷ (ends ++ (((if b then ends_from 0 (map length below) ++ replicate (length (e ∷ ends)) 0 else []) ++ concat below) ++ own))) old
        ∙ goal_from [] (ap (λ b. if b then ends_from 0 (map length (below ++ own ∷ [])) ++ replicate (length ends) 0 else []) new)
    by true wide =
        let old : is_hashed kind (length (lens ++ e ∷ ends)) ≡ true = ap (is_hashed kind) (sym edges) ∙ wide in
        let new : is_hashed kind (length ((lens ++ len ∷ []) ++ ends)) ≡ true = ap (is_hashed kind) (sym many) ∙ wide in
        let es = ends_from 0 (map length below) in
        let zs : List ℕ = replicate (length ends) 0 in
        let n = length slots - (f.end + (f.end - f.first)) in
        let front = ((before ++ lens) ++ len ∷ ends) ++ es in
        let first_set = set_first kind f before lens e ends below own len first next
        ∙ ap (λ b. (before ++ lens) ++ len ∷ (ends ++ (((if b then es ++ replicate (length (e ∷ ends)) 0 else []) ++ concat below) ++ own))) old
        ∙ ap (λ x. (before ++ lens) ++ len ∷ (ends ++ x)) (append_assoc (es ++ 0 ∷ zs) (concat below) own ∙ append_assoc es (0 ∷ zs) (concat below ++ own))
        ∙ sym (append_assoc (before ++ lens) (len ∷ ends) (es ++ 0 ∷ (zs ++ (concat below ++ own)))) ∙ sym (append_assoc ((before ++ lens) ++ len ∷ ends) es (0 ∷ (zs ++ (concat below ++ own)))) in
        let a = length-append before lens in let b = length-append (before ++ lens) (len ∷ ends) in let c = length-append ((before ++ lens) ++ len ∷ ends) es in
        let d = length-ends_from 0 (map length below) in let d' = length-map below length in
        let at : f.next + (f.end - f.first) ≡ length front = omega arith in
        let rest = ((es ++ 0 ∷ zs) ++ concat below) ++ own in
        let long = ap length (so_far_at kind lens e ends below before own ∙ ap (λ b. (before ++ lens) ++ e ∷ (ends ++ (((if b then es ++ replicate (length (e ∷ ends)) 0 else []) ++ concat below) ++ own))) old) in
        let l1 = length-append (before ++ lens) (e ∷ (ends ++ rest)) in let l2 = length-append ends rest in let l3 = length-append ((es ++ 0 ∷ zs) ++ concat below) own in
        let l4 = length-append (es ++ 0 ∷ zs) (concat below) in let l5 = length-append es (0 ∷ zs) in let l6 = length-zeros (length ends) in
        let value : n ≡ 0 + (length (concat below) + length own) = omega arith in
        hashed_with kind f len slots wide ∙ ap (λ x. slice_set x (f.next + (f.end - f.first)) n) first_set ∙ ap (λ k. slice_set (front ++ 0 ∷ (zs ++ (concat below ++ own))) k n) at
        ∙ set_middle front 0 n (zs ++ (concat below ++ own))
        ∙ append_assoc ((before ++ lens) ++ len ∷ ends) es (n ∷ (zs ++ (concat below ++ own))) ∙ append_assoc (before ++ lens) (len ∷ ends) (es ++ n ∷ (zs ++ (concat below ++ own)))
        ∙ ap (λ x. (before ++ lens) ++ len ∷ (ends ++ x)) (lens_more es n zs (concat below ++ own) ∙ ap (λ v. ((es ++ v ∷ []) ++ zs) ++ (concat below ++ own)) value)
        ∙ goal_from ((es ++ (0 + (length (concat below) + length own)) ∷ []) ++ zs)
        (ap (λ b. if b then ends_from 0 (map length (below ++ own ∷ [])) ++ zs else []) new ∙ ap (λ x. x ++ zs) (ends_snoc 0 below own))
