-- Lists of pairs that answer alike for each exact key.
use Rattle.std.proofs.Common.{◌≡◌, ℕ, zero, suc, ◌+◌, ◌≤◌, List, [], ◌∷◌, ◌++◌, length, refl, sym, ◌∙◌, ap, arith, map, Bool, true, false, cond, eqb, Option, Some, None, inl, inr, ◌⊎◌, leb}
use Rattle.std.specs.Prelude.{◌||◌, ◌&&◌, filter, is_some}
use Rattle.std.specs.List.{range_with_len}
use Rattle.std.specs.FinMap.{entries, find, get-from_entries, get-entries, same_map, slice_cmp-IsAntisymmetric, nat_cmp-IsAntisymmetric}
use Rattle.std.specs.Cmp.{unsigned_ties, eq_by_cmp_equiv}
use Rattle.std.specs.Cmp.Lexicographic.{slice_cmp, nat_list_cmp_total, lists_ties}
use Rattle.std.specs.Ordering.{nat_cmp, eq_by_cmp}
use Rattle.std.proofs.Math.Path.{fun_ext}
use Rattle.std.proofs.lemmas.Bool.{eqb-true, eq-eqb}
use Rattle.zerotrie_base.specs.Kind.{Kind, simple_ascii, ordered, has_spans}
use Rattle.zerotrie_base.specs.Numbers.{span_form, spelled_as}
use Rattle.zerotrie_base.specs.Maps.{Pairs, map_of, value_at, same_key, begins_some, edges, residual, behind_all, longest, high_edge, run_to, run_of}
use Rattle.zerotrie_base.specs.Branches.{total}
use Rattle.zerotrie_base.specs.Canonical.{enc_to, enc_of, size_to, size_of, rest_size, span_size, branch_size, node, value_node}
use Rattle.zerotrie_base.specs.Fits.{targets_size}

abbrev pub Same : Pairs → Pairs → Type 0
Same p q = (key : List ℕ) → value_at simple_ascii p key ≡ value_at simple_ascii q key

pub same-sym : (p q : Pairs) → Same p q → Same q p
same-sym p q s key = sym (s key)

-- keys are equal as the order of the map says
same_as_order : (p q : List ℕ) → same_key simple_ascii p q ≡ eq_by_cmp (slice_cmp nat_cmp) q p
same_as_order p q = lists_ties nat_cmp unsigned_ties p q ∙ (eq_by_cmp_equiv nat_list_cmp_total).symm p q

pub value_at-find : (pairs : Pairs) (key : List ℕ) → value_at simple_ascii pairs key ≡ find (slice_cmp nat_cmp) key pairs
value_at-find [] key = refl
value_at-find (e ∷ pairs) key = rw (same_as_order e.0 key, value_at-find pairs key) refl

-- the map of a list answers as the list
pub same-entries : (pairs : Pairs) → Same (entries (map_of pairs)) pairs
same-entries pairs key =
    value_at-find (entries (map_of pairs)) key
    ∙ sym (get-entries (map_of pairs) key)
    ∙ get-from_entries nat_list_cmp_total pairs key
    ∙ sym (value_at-find pairs key)

pub same-map : (p q : Pairs) → Same p q → map_of p ≡ map_of q
same-map p q s =
    same_map nat_list_cmp_total (slice_cmp-IsAntisymmetric nat_cmp-IsAntisymmetric) (map_of p) (map_of q)
    (λ key. get-from_entries nat_list_cmp_total p key ∙ sym (value_at-find p key) ∙ s key ∙ value_at-find q key ∙ sym (get-from_entries nat_list_cmp_total q key))

-- a key is one with itself alone
pub exact_itself : (key : List ℕ) → same_key simple_ascii key key ≡ true
exact_itself [] = refl
exact_itself (b ∷ key) = rw (eq-eqb b b refl) (exact_itself key)

both : (a b : Bool) → (a && b) ≡ true → (a ≡ true) × (b ≡ true)
both true b e = (refl, e)
both false b e = absurd (cc)

pub exact_same : (p q : List ℕ) → same_key simple_ascii p q ≡ true → p ≡ q
exact_same [] [] e = refl
exact_same [] (b ∷ q) e = absurd (cc)
exact_same (a ∷ p) [] e = absurd (cc)
exact_same (a ∷ p) (b ∷ q) e = let r = both (eqb a b) (same_key simple_ascii p q) e in let h = eqb-true a b r.0 in let t = exact_same p q r.1 in cc

-- the value of the empty key is the same to each kind
pub value_exact : (kind : Kind) (pairs : Pairs) → value_at kind pairs [] ≡ value_at simple_ascii pairs []
value_exact kind [] = refl
value_exact kind (([], v) ∷ pairs) = refl
value_exact kind ((b ∷ key, v) ∷ pairs) = value_exact kind pairs

pub same-value : (kind : Kind) (p q : Pairs) → Same p q → value_at kind p [] ≡ value_at kind q []
same-value kind p q s = value_exact kind p ∙ s [] ∙ sym (value_exact kind q)

-- what stands after b answers as the list does for the keys that begin with b
behind_one : (same : Bool) (k key : List ℕ) (v : ℕ) (p : Pairs) (x : Option ℕ) → value_at simple_ascii p key ≡ x
    → value_at simple_ascii (cond same ((k, v) ∷ p) p) key ≡ cond (same && same_key simple_ascii k key) (Some v) x
behind_one true k key v p x e = ap (λ y. cond (same_key simple_ascii k key) (Some v) y) e
behind_one false k key v p x e = e

pub value_at-residual : (b : ℕ) (pairs : Pairs) (key : List ℕ) → value_at simple_ascii (residual b pairs) key ≡ value_at simple_ascii pairs (b ∷ key)
value_at-residual b [] key = refl
value_at-residual b (([], v) ∷ pairs) key = value_at-residual b pairs key
value_at-residual b ((c ∷ k, v) ∷ pairs) key = behind_one (eqb c b) k key v (residual b pairs) (value_at simple_ascii pairs (b ∷ key)) (value_at-residual b pairs key)

pub same-residual : (b : ℕ) (p q : Pairs) → Same p q → Same (residual b p) (residual b q)
same-residual b p q s key = value_at-residual b p key ∙ s (b ∷ key) ∙ sym (value_at-residual b q key)

pub same-behind : (front : List ℕ) (p q : Pairs) → Same p q → Same (behind_all front p) (behind_all front q)
same-behind [] p q s = s
same-behind (b ∷ front) p q s = same-behind front (residual b p) (residual b q) (same-residual b p q s)

-- whether there is a pair
abbrev pub some_pair : Pairs → Bool
some_pair [] = false
some_pair (e ∷ pairs) = true

pub first_found : (e : List ℕ × ℕ) (pairs : Pairs) → value_at simple_ascii (e ∷ pairs) e.0 ≡ Some e.1
first_found e pairs = rw (exact_itself e.0) refl

none_some : (v : ℕ) (x : Option ℕ) → x ≡ None → x ≡ Some v → ⊥
none_some v x e f = absurd (cc)

pub same-some : (p q : Pairs) → Same p q → some_pair p ≡ some_pair q
same-some [] [] s = refl
same-some [] (e ∷ q) s = absurd (none_some e.1 (value_at simple_ascii (e ∷ q) e.0) (sym (s e.0)) (first_found e q))
same-some (e ∷ p) [] s = absurd (none_some e.1 (value_at simple_ascii (e ∷ p) e.0) (s e.0) (first_found e p))
same-some (e ∷ p) (f ∷ q) s = refl

pub same-none : (p : Pairs) → Same p [] → p ≡ []
same-none [] s = refl
same-none (e ∷ p) s = absurd (none_some e.1 (value_at simple_ascii (e ∷ p) e.0) (s e.0) (first_found e p))

begins_one : (same : Bool) (k : List ℕ) (v : ℕ) (p : Pairs) (x : Bool) → x ≡ some_pair p → (same || x) ≡ some_pair (cond same ((k, v) ∷ p) p)
begins_one true k v p x e = refl
begins_one false k v p x e = e

pub begins_behind : (pairs : Pairs) (b : ℕ) → begins_some pairs b ≡ some_pair (residual b pairs)
begins_behind [] b = refl
begins_behind (([], v) ∷ pairs) b = begins_behind pairs b
begins_behind ((c ∷ k, v) ∷ pairs) b = begins_one (eqb c b) k v (residual b pairs) (begins_some pairs b) (begins_behind pairs b)

pub same-begins : (p q : Pairs) → Same p q → (b : ℕ) → begins_some p b ≡ begins_some q b
same-begins p q s b = begins_behind p b ∙ same-some (residual b p) (residual b q) (same-residual b p q s) ∙ sym (begins_behind q b)

first_bytes : (ℕ → Bool) → List ℕ
first_bytes begins = filter begins (range_with_len 0 256)

pub same-edges : (p q : Pairs) → Same p q → edges p ≡ edges q
unfolding edges first_bytes
same-edges p q s = ap first_bytes (fun_ext (same-begins p q s))

-- the keys found are no longer than the longest
later_found : (e : List ℕ × ℕ) (pairs : Pairs) (key : List ℕ) (v : ℕ) → value_at simple_ascii pairs key ≡ Some v → (w : ℕ) × (value_at simple_ascii (e ∷ pairs) key ≡ Some w)
later_found e pairs key v h = chosen (same_key simple_ascii e.0 key) e.1 v (value_at simple_ascii pairs key) h
  where
    chosen : (same : Bool) (u v : ℕ) (x : Option ℕ) → x ≡ Some v → (w : ℕ) × (cond same (Some u) x ≡ Some w)
    chosen true u v x h = (u, refl)
    chosen false u v x h = (v, h)

pub longest_most : (pairs : Pairs) (n : ℕ) → ((key : List ℕ) (v : ℕ) → value_at simple_ascii pairs key ≡ Some v → length key ≤ n) → longest pairs ≤ n
longest_most [] n h = omega arith
longest_most (e ∷ pairs) n h =
    let here = h e.0 e.1 (first_found e pairs) in
    let rest = longest_most pairs n (λ key v found. let later = later_found e pairs key v found in h key later.0 later.1) in
    omega arith

here_or_later : (same : Bool) (u v : ℕ) (x : Option ℕ) → cond same (Some u) x ≡ Some v → (same ≡ true) ⊎ (x ≡ Some v)
here_or_later true u v x h = inl refl
here_or_later false u v x h = inr h

pub longest_least : (pairs : Pairs) (key : List ℕ) (v : ℕ) → value_at simple_ascii pairs key ≡ Some v → length key ≤ longest pairs
longest_least [] key v h = absurd (none_some v None refl h)
longest_least (e ∷ pairs) key v h =
    elim (here_or_later (same_key simple_ascii e.0 key) e.1 v (value_at simple_ascii pairs key) h) [
      | inl here ↦ let n = ap length (exact_same e.0 key here) in omega arith
      | inr later ↦ let n = longest_least pairs key v later in omega arith
    ]

longest_under : (p q : Pairs) → Same p q → longest p ≤ longest q
longest_under p q s = longest_most p (longest q) (λ key v found. longest_least q key v (sym (s key) ∙ found))

pub same-longest : (p q : Pairs) → Same p q → longest p ≡ longest q
same-longest p q s =
    let a = longest_under p q s in
    let b = longest_under q p (same-sym p q s) in
    omega arith

-- maps of functions that agree
pub map_agree : {A : Type 0} (f g : ℕ → A) (es : List ℕ) → ((b : ℕ) → f b ≡ g b) → map f es ≡ map g es
map_agree f g es h = ap (λ t. map t es) (fun_ext h)

pub same-enc : (d : ℕ) (kind : Kind) (p q : Pairs) → Same p q → enc_to d kind p ≡ enc_to d kind q
same-enc zero kind p q s = refl
same-enc (suc d) kind p q s =
    let es = ordered kind (edges p) in
    ap (λ v. value_node v ++ node es (map (λ b. enc_to d kind (residual b p)) es)) (same-value kind p q s)
    ∙ ap (λ ts. value_node (value_at kind q []) ++ node es ts) (map_agree (λ b. enc_to d kind (residual b p)) (λ b. enc_to d kind (residual b q)) es (λ b. same-enc d kind (residual b p) (residual b q) (same-residual b p q s)))
    ∙ ap (λ fs. value_node (value_at kind q []) ++ node (ordered kind fs) (map (λ b. enc_to d kind (residual b q)) (ordered kind fs))) (same-edges p q s)

pub same-enc_of : (kind : Kind) (p q : Pairs) → Same p q → enc_of kind p ≡ enc_of kind q
unfolding enc_of
same-enc_of kind p q s = ap (λ n. enc_to (suc n) kind p) (same-longest p q s) ∙ same-enc (suc (longest q)) kind p q s

-- pairs that answer alike begin with one run
same-run_to : (d : ℕ) (p q : Pairs) → Same p q → run_to d p ≡ run_to d q
same-run_to zero p q s = refl
same-run_to (suc d) p q s =
    ap (λ o. cond (is_some o) [] (high_edge (edges p) (λ b. run_to d (residual b p)))) (s [])
    ∙ ap (λ es. cond (is_some (value_at simple_ascii q [])) [] (high_edge es (λ b. run_to d (residual b p)))) (same-edges p q s)
    ∙ ap (λ behind. cond (is_some (value_at simple_ascii q [])) [] (high_edge (edges q) behind)) (fun_ext (λ b. same-run_to d (residual b p) (residual b q) (same-residual b p q s)))

pub same-run_of : (p q : Pairs) → Same p q → run_of p ≡ run_of q
unfolding run_of
same-run_of p q s = ap (λ d. run_to d p) (same-longest p q s) ∙ same-run_to (longest q) p q s

-- sizes go by those of the pairs after an edge and after a span
pub rest_agree : (kind : Kind) (f g : Pairs → ℕ) (p q : Pairs) → ((b : ℕ) → f (residual b p) ≡ g (residual b q)) → ((b : ℕ) → span_size f p b ≡ span_size g q b) → (es : List ℕ) → rest_size kind f p es ≡ rest_size kind g q es
rest_agree kind f g p q same spans [] = refl
rest_agree kind f g p q same spans (b ∷ []) =
    ap (λ n. cond (leb 128 b && has_spans kind) n (1 + f (residual b p))) (spans b) ∙ ap (λ n. cond (leb 128 b && has_spans kind) (span_size g q b) (1 + n)) (same b)
rest_agree kind f g p q same spans (b ∷ c ∷ more) = ap (λ lengths. branch_size kind lengths + total lengths) (map_agree (λ e. f (residual e p)) (λ e. g (residual e q)) (b ∷ c ∷ more) same)

pub same-size : (d : ℕ) (kind : Kind) (p q : Pairs) → Same p q → size_to d kind p ≡ size_to d kind q
same-size zero kind p q s = refl
same-size (suc d) kind p q s =
    let spans : (b : ℕ) → span_size (size_to d kind) p b ≡ span_size (size_to d kind) q b = λ b.
    (let behind = same-residual b p q s in
    ap (λ run. length (spelled_as span_form (length (b ∷ run))) + length (b ∷ run) + size_to d kind (behind_all run (residual b p))) (same-run_of (residual b p) (residual b q) behind)
    ∙ ap (λ n. length (spelled_as span_form (length (b ∷ run_of (residual b q)))) + length (b ∷ run_of (residual b q)) + n)
    (same-size d kind _ _ (same-behind (run_of (residual b q)) (residual b p) (residual b q) behind))) in
    ap (λ v. length (value_node v) + rest_size kind (size_to d kind) p (edges p)) (same-value kind p q s)
    ∙ ap (λ n. length (value_node (value_at kind q [])) + n)
    (rest_agree kind (size_to d kind) (size_to d kind) p q (λ b. same-size d kind (residual b p) (residual b q) (same-residual b p q s)) spans (edges p)
    ∙ ap (rest_size kind (size_to d kind) q) (same-edges p q s))

pub same-size_of : (kind : Kind) (p q : Pairs) → Same p q → size_of kind p ≡ size_of kind q
unfolding size_of
same-size_of kind p q s = ap (λ n. size_to (suc n) kind p) (same-longest p q s) ∙ same-size (suc (longest q)) kind p q s

pub same-targets : (kind : Kind) (p q : Pairs) → Same p q → targets_size kind p ≡ targets_size kind q
unfolding targets_size
same-targets kind p q s =
    ap total (map_agree (λ b. size_of kind (residual b p)) (λ b. size_of kind (residual b q)) (edges p) (λ b. same-size_of kind (residual b p) (residual b q) (same-residual b p q s)))
    ∙ ap (λ es. total (map (λ b. size_of kind (residual b q)) es)) (same-edges p q s)
