-- The length of the texts of pairs, by what stands first in them.
use Rattle.std.proofs.Common.{◌≡◌, ℕ, zero, suc, ◌+◌, ◌<◌, ◌≤◌, List, [], ◌∷◌, ◌++◌, length, refl, sym, ◌∙◌, ap, arith, map, Bool, true, false, cond, eqb, None, length-append}
use Rattle.std.specs.Prelude.{◌&&◌}
use Rattle.std.proofs.lemmas.Bool.{le-leb, lt-leb}
use Rattle.zerotrie_base.specs.Kind.{Kind, has_spans}
use Rattle.zerotrie_base.specs.Numbers.{value_form, span_form, spelled_as}
use Rattle.zerotrie_base.specs.Maps.{Pairs, with_front, with_run, value_at, edges, residual, behind_all, longest, run_of}
use Rattle.zerotrie_base.specs.Branches.{total}
use Rattle.zerotrie_base.specs.Texts.{AreHigh}
use Rattle.zerotrie_base.specs.Canonical.{size_to, size_of, rest_size, span_size, branch_size, value_node}
use Rattle.zerotrie_base.specs.Fits.{targets_size}
use Rattle.zerotrie_base.proofs.MapLemmas.Edges.{edges_front, edges_none, edges_value, residual-front}
use Rattle.zerotrie_base.proofs.MapLemmas.Values.{value_at-no_key}
use Rattle.zerotrie_base.proofs.MapLemmas.Spans.{value_at-no_run, residual-run, behind_run, edges_run, run_of-run}
use Rattle.zerotrie_base.proofs.MapLemmas.Alike.{map_agree, rest_agree}
use Rattle.zerotrie_base.proofs.CanonicalLemmas.Canonical.{Shorter, Shorter-front, shorter_none, bytes_end}

pub longest_shorter : (pairs : Pairs) (d : ℕ) → longest pairs < d → Shorter d pairs
longest_shorter [] d h = tt
longest_shorter (e ∷ pairs) d h = (omega arith, longest_shorter pairs d (omega arith))

residual_here : (d : ℕ) (key : List ℕ) (v : ℕ) (rest : Pairs) (same : Bool) → suc (length key) < suc d → Shorter d rest → Shorter d (cond same ((key, v) ∷ rest) rest)
residual_here d key v rest true h s = (omega arith, s)
residual_here d key v rest false h s = s

pub Shorter-residual : (d b : ℕ) (pairs : Pairs) → Shorter (suc d) pairs → Shorter d (residual b pairs)
Shorter-residual d b [] s = tt
Shorter-residual d b (([], v) ∷ pairs) s = Shorter-residual d b pairs s.1
Shorter-residual d b ((c ∷ key, v) ∷ pairs) s = residual_here d key v (residual b pairs) (eqb c b) s.0 (Shorter-residual d b pairs s.1)

Shorter-more : (d : ℕ) (pairs : Pairs) → Shorter d pairs → Shorter (suc d) pairs
Shorter-more d [] s = tt
Shorter-more d (e ∷ pairs) s = (omega (arith, s.0), Shorter-more d pairs s.1)

Shorter-behind : (d : ℕ) (run : List ℕ) (pairs : Pairs) → Shorter d pairs → Shorter d (behind_all run pairs)
Shorter-behind d [] pairs s = s
Shorter-behind d (b ∷ run) pairs s = Shorter-behind d run (residual b pairs) (Shorter-residual d b pairs (Shorter-more d pairs s))

Shorter-run : (d b : ℕ) (run : List ℕ) (pairs : Pairs) → Shorter (suc d) (with_run (b ∷ run) pairs) → Shorter d pairs
Shorter-run d b run [] s = tt
Shorter-run d b run (e ∷ pairs) s = (let n = length-append run e.0 in omega (arith, s.0), Shorter-run d b run pairs s.1)

size_to_none : (kind : Kind) (d : ℕ) → size_to d kind [] ≡ 0
size_to_none kind zero = refl
size_to_none kind (suc d) = ap (λ es. 0 + rest_size kind (size_to d kind) [] es) edges_none

-- the size does not depend on how much longer than the keys the bound is
size_any : (kind : Kind) (d e : ℕ) (pairs : Pairs) → Shorter d pairs → Shorter e pairs → size_to d kind pairs ≡ size_to e kind pairs
size_any kind zero e pairs s t = ap (size_to zero kind) (shorter_none pairs s) ∙ sym (size_to_none kind e) ∙ ap (size_to e kind) (sym (shorter_none pairs s))
size_any kind (suc d) zero pairs s t = ap (size_to (suc d) kind) (shorter_none pairs t) ∙ size_to_none kind (suc d) ∙ ap (size_to zero kind) (sym (shorter_none pairs t))
size_any kind (suc d) (suc e) pairs s t =
    let behind : (b : ℕ) (run : List ℕ) → size_to d kind (behind_all run (residual b pairs)) ≡ size_to e kind (behind_all run (residual b pairs)) = λ b run.
    size_any kind d e (behind_all run (residual b pairs)) (Shorter-behind d run (residual b pairs) (Shorter-residual d b pairs s)) (Shorter-behind e run (residual b pairs) (Shorter-residual e b pairs t)) in
    ap (λ n. length (value_node (value_at kind pairs [])) + n)
    (rest_agree kind (size_to d kind) (size_to e kind) pairs pairs (λ b. behind b [])
    (λ b. let run = b ∷ run_of (residual b pairs) in ap (λ n. length (spelled_as span_form (length run)) + length run + n) (behind b (run_of (residual b pairs)))) (edges pairs))

pub size_of_to : (kind : Kind) (d : ℕ) (pairs : Pairs) → Shorter d pairs → size_of kind pairs ≡ size_to d kind pairs
unfolding size_of
size_of_to kind d pairs s = size_any kind (suc (longest pairs)) d pairs (longest_shorter pairs (suc (longest pairs)) (omega arith)) s

-- no pairs
pub size_none : (kind : Kind) → size_of kind [] ≡ 0
size_none kind = size_of_to kind 0 [] tt

-- a value in front
pub size_value : (kind : Kind) (v : ℕ) (pairs : Pairs) → value_at kind pairs [] ≡ None → size_of kind (([], v) ∷ pairs) ≡ length (spelled_as value_form v) + size_of kind pairs
size_value kind v pairs none =
    let d = longest pairs in
    let short = longest_shorter pairs (suc d) (omega arith) in
    let f = size_to d kind in
    let with = size_of_to kind (suc d) (([], v) ∷ pairs) (omega arith, short) in
    let without = size_of_to kind (suc d) pairs short ∙ ap (λ o. length (value_node o) + rest_size kind f pairs (edges pairs)) none in
    let rest : rest_size kind f (([], v) ∷ pairs) (edges (([], v) ∷ pairs)) ≡ rest_size kind f pairs (edges pairs) = rest_agree kind f f (([], v) ∷ pairs) pairs (λ b. refl) (λ b. refl) (edges (([], v) ∷ pairs)) ∙ ap (rest_size kind f pairs) (edges_value v pairs) in
    with ∙ ap (λ n. length (spelled_as value_form v) + n) (rest ∙ (let zero' : rest_size kind f pairs (edges pairs) ≡ 0 + rest_size kind f pairs (edges pairs) = omega arith in zero') ∙ sym without)

-- pairs without the empty key go by their edges
by_edges : (kind : Kind) (d : ℕ) (pairs : Pairs) (es : List ℕ) → Shorter (suc d) pairs → value_at kind pairs [] ≡ None → edges pairs ≡ es → size_of kind pairs ≡ rest_size kind (size_to d kind) pairs es
by_edges kind d pairs es short none is =
    size_of_to kind (suc d) pairs short
    ∙ ap (λ o. length (value_node o) + rest_size kind (size_to d kind) pairs (edges pairs)) none
    ∙ ap (λ fs. 0 + rest_size kind (size_to d kind) pairs fs) is
    ∙ omega arith

-- a literal in front
pub size_literal : (kind : Kind) (b : ℕ) (pairs : Pairs) → b < 128 → (pairs ≡ [] → ⊥) → size_of kind (with_front b pairs) ≡ 1 + size_of kind pairs
size_literal kind b pairs low some =
    let all = with_front b pairs in
    let d = longest all in
    let short = longest_shorter all (suc d) (omega arith) in
    by_edges kind d all (b ∷ []) short (value_at-no_key kind b pairs) (edges_front b pairs (omega arith) some)
    ∙ ap (λ high. cond (high && has_spans kind) (span_size (size_to d kind) all b) (1 + size_to d kind (residual b all))) (lt-leb 128 b low)
    ∙ ap (λ ps. 1 + size_to d kind ps) (residual-front b pairs)
    ∙ ap (λ n. 1 + n) (sym (size_of_to kind d pairs (Shorter-front d b pairs short)))

-- a span in front, with all bytes from 128 on that the keys have in common
pub size_span : (kind : Kind) (run : List ℕ) (pairs : Pairs) → has_spans kind ≡ true → (run ≡ [] → ⊥) → AreHigh run → (pairs ≡ [] → ⊥) → run_of pairs ≡ []
    → size_of kind (with_run run pairs) ≡ length (spelled_as span_form (length run)) + length run + size_of kind pairs
size_span kind [] pairs spans there high some ends = absurd (there refl)
size_span kind (b ∷ run) pairs spans there high some ends =
    let all = with_run (b ∷ run) pairs in
    let d = longest all in
    let short = longest_shorter all (suc d) (omega arith) in
    let f = size_to d kind in
    let goes_on : run_of (residual b all) ≡ run = ap run_of (residual-run b run pairs) ∙ run_of-run run pairs high.2 some ∙ ap (λ r. run ++ r) ends ∙ bytes_end run in
    by_edges kind d all (b ∷ []) short (value_at-no_run kind (b ∷ run) pairs there) (edges_run b run pairs high.1 some)
    ∙ ap (λ h. cond (h && has_spans kind) (span_size f all b) (1 + f (residual b all))) (le-leb 128 b high.0)
    ∙ ap (λ h. cond h (span_size f all b) (1 + f (residual b all))) spans
    ∙ ap (λ r. length (spelled_as span_form (length (b ∷ r))) + length (b ∷ r) + f (behind_all (b ∷ r) all)) goes_on
    ∙ ap (λ ps. length (spelled_as span_form (length (b ∷ run))) + length (b ∷ run) + f ps) (behind_run (b ∷ run) pairs)
    ∙ ap (λ n. length (spelled_as span_form (length (b ∷ run))) + length (b ∷ run) + n) (sym (size_of_to kind d pairs (Shorter-run d b run pairs short)))

rest_many : (kind : Kind) (f : Pairs → ℕ) (pairs : Pairs) (es : List ℕ) → 2 ≤ length es → rest_size kind f pairs es ≡ branch_size kind (map (λ b. f (residual b pairs)) es) + total (map (λ b. f (residual b pairs)) es)
rest_many kind f pairs [] two = absurd (omega arith)
rest_many kind f pairs (b ∷ []) two = absurd (omega arith)
rest_many kind f pairs (b ∷ c ∷ more) two = refl

-- a branch
pub size_branch : (kind : Kind) (pairs : Pairs) → 2 ≤ length (edges pairs) → value_at kind pairs [] ≡ None
    → size_of kind pairs ≡ branch_size kind (map (λ b. size_of kind (residual b pairs)) (edges pairs)) + targets_size kind pairs
unfolding targets_size
size_branch kind pairs two none =
    let d = longest pairs in
    let short = longest_shorter pairs (suc d) (omega arith) in
    by_edges kind d pairs (edges pairs) short none refl
    ∙ rest_many kind (size_to d kind) pairs (edges pairs) two
    ∙ ap (λ ls. branch_size kind ls + total ls) (map_agree (λ b. size_to d kind (residual b pairs)) (λ b. size_of kind (residual b pairs)) (edges pairs) (λ b. sym (size_of_to kind d (residual b pairs) (Shorter-residual d b pairs short))))
