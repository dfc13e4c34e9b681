-- A branch is written in front of its targets, in the order of its search table.
use Rattle.std.proofs.Common.{◌≡◌, ◌≢◌, ℕ, ◌+◌, ◌-◌, ◌*◌, ◌^◌, ◌<◌, ◌≤◌, inl, inr, List, [], ◌∷◌, ◌++◌, length, refl, sym, ◌∙◌, ap, subst, arith, get_or, take, drop, map, append_assoc, length-append, All, Bool, true, false, cond, lit<}
use Rattle.std.specs.List.{concat, range_with_len, AllByRecursion}
use Rattle.std.specs.List.Sorted.{IsPermutation}
use Rattle.std.proofs.Math.Nat.{pow-le-pow_right, mul-le-mul}
use Rattle.std.specs.FinMap.{entries}
use Rattle.std.proofs.lemmas.List.FromFn.{length-range_with_len}
use Rattle.std.proofs.lemmas.List.Sorted.{IsPermutation-map, IsPermutation-sym, length_permutation, sum_by-IsPermutation}
use Rattle.std.proofs.lemmas.Map.Views.{All-map-IsPermutation}
use Rattle.zerotrie_base.specs.Kind.{Kind, simple_ascii, ignore_case, perfect_hash, extended_capacity, edge_limit, greatest_width, is_hashed, ordered as in_order}
use Rattle.zerotrie_base.specs.Maps.{Pairs, map_of, edges, behind_all}
use Rattle.zerotrie_base.specs.Branches.{IsTable, total, width, branch_front, table_size}
use Rattle.zerotrie_base.specs.Texts.Lists.{branch}
use Rattle.zerotrie_base.specs.Canonical.{size_of, branch_size}
use Rattle.zerotrie_base.specs.Causes.{AreCrooked, Cause}
use Rattle.zerotrie_base.specs.declared.error.ZeroTrieBuildError.{ZeroTrieBuildError}
use Rattle.zerotrie_base.specs.declared.error.ZeroTrieBuildError.TheVariants.{CouldNotSolvePerfectHash, OutOfMemory}
use Rattle.zerotrie_base.proofs.CallerLemmas.{table_distinct, length-table, front_len, length-branch_front, total-lengths, greatest_width_most, same-entries, same-behind, same-edges}
use Rattle.zerotrie_build.specs.Order.{Ordered}
use Rattle.zerotrie_build.specs.declared.windows.Window.{Window}
use Rattle.zerotrie_build.specs.declared.branch.Position.{Position}
use Rattle.zerotrie_build.specs.declared.branch.Next.{Next}
use Rattle.zerotrie_build.specs.declared.branch.Next.TheVariants.{Go}
use Rattle.zerotrie_build.specs.declared.windows.Step.TheVariants.{End, Branch}
use Rattle.zerotrie_build.specs.passes.Windows.{window, edge_of, step_of}
use Rattle.zerotrie_build.specs.passes.Measured.{NoneFirst, HasFirstTargets, TargetWindows, sizes_of}
use Rattle.zerotrie_build.specs.passes.Written.{Written}
use Rattle.zerotrie_build.specs.passes.Writes.{HasRoom, Writes, NodesWritten}
use Rattle.zerotrie_build.specs.passes.Writing.{no_window, window_at, edge_no, target_lens, position_at, text_of, placed_next, next_of, Listed, Texts, IsLayout, HasSlots, IsPending}
use Rattle.zerotrie_build.proofs.OrderLemmas.Sorting.{ordered_distinct}
use Rattle.zerotrie_build.proofs.WriteLemmas.Puts.{puts_then, grows, count_map}
use Rattle.zerotrie_build.proofs.WindowLemmas.Windows.{cut_none, step_end}
use Rattle.zerotrie_build.proofs.WriteLemmas.Layouts.{up_of, map_both, named, numbers_within}
use Rattle.zerotrie_build.proofs.WriteLemmas.Slots.{Opened, opened, parts_same, each_count, slots_lens, next_leads, none_ends}
use Rattle.zerotrie_build.proofs.WriteLemmas.Listed.{listed_nothing}
use Rattle.zerotrie_build.proofs.WriteLemmas.Fronts.{Going, on_stop, behind_same}
use Rattle.zerotrie_build.proofs.WriteLemmas.Targets.{apart_distinct, apart_up, groups_answers, moved, answers_same, texts_each, groups_some, map_same, texts_count, by_recursion, sizes_at, sizes_count, texts_sizes, edges_most, branch_made}

-- What is known of the targets of a branch, in the order of its table.
pub record Turned (kind : Kind) (all : Pairs) (cs : List Window) (table numbers : List ℕ) : Type 0 where
  pub count : length numbers ≡ length cs
  pub within : AllByRecursion (λ j. j < length cs) numbers
  pub perm : IsPermutation cs (map (window_at cs) numbers)
  pub is_table : IsTable kind (map (edge_of all) (map (window_at cs) numbers)) table
  pub low : All (λ b. b < edge_limit kind) (map (edge_of all) (map (window_at cs) numbers))
  pub most : length (map (edge_of all) (map (window_at cs) numbers)) ≤ 256
  pub lens : target_lens (sizes_of kind all cs) numbers ≡ sizes_of kind all (map (window_at cs) numbers)
  pub sum : total (sizes_of kind all (map (window_at cs) numbers)) ≡ total (sizes_of kind all cs)

-- together the targets are as long in one order as in another
pub sizes_moved : (kind : Kind) (all : Pairs) (cs : List Window) (numbers : List ℕ) → IsPermutation (range_with_len 0 (length cs)) numbers → total (sizes_of kind all (map (window_at cs) numbers)) ≡ total (sizes_of kind all cs)
sizes_moved kind all cs numbers permutation =
    let range = range_with_len 0 (length cs) in
    let all_named : map (window_at cs) range ≡ cs = named (λ (x : Window). x) cs no_window ∙ map_same cs in
    let vs = map (window_at cs) numbers in
    let perm : IsPermutation cs vs = subst (λ x. IsPermutation x vs) all_named (IsPermutation-map (window_at cs) range numbers permutation) in
    let size : Window → ℕ = λ x. size_of kind (window all x) in
    let sum = sum_by-IsPermutation (λ x. x) (map size cs) (map size vs) (IsPermutation-map size cs vs perm) in
    ap total (map_both (size_of kind) (window all) vs) ∙ sum ∙ ap total (sym (map_both (size_of kind) (window all) cs))

pub turned : {kind : Kind} {all : Pairs} {w : Window} {cs : List Window} {table numbers : List ℕ} → HasFirstTargets kind all w cs → IsLayout kind (edge_no all cs) (length cs) table numbers → Turned kind all cs table numbers
turned {kind = kind} {all = all} {w = w} {cs = cs} {table = table} {numbers = numbers} o laid =
    let n = length cs in
    let range = range_with_len 0 n in
    let all_named : map (window_at cs) range ≡ cs = named (λ (x : Window). x) cs no_window ∙ map_same cs in
    let vs = map (window_at cs) numbers in
    let perm : IsPermutation cs vs = subst (λ x. IsPermutation x vs) all_named (IsPermutation-map (window_at cs) range numbers laid.permutation) in
    let within = by_recursion n numbers (λ k h. numbers_within n numbers laid.permutation k 0 h) in
    let most = edges_most kind (map (edge_of all) cs) o.rises o.low in
    let es = count_map (edge_of all) cs in
    let es_count = count_map (edge_of all) vs ∙ length_permutation cs vs perm in
    record {
      count = length_permutation range numbers laid.permutation ∙ length-range_with_len 0 n;
      within = within;
      perm = perm;
      is_table = subst (λ x. IsTable kind x table) (sym (map_both (edge_of all) (window_at cs) numbers)) laid.is_table;
      low = All-map-IsPermutation (edge_of all) (λ b. b < edge_limit kind) cs vs perm o.low;
      most = omega arith;
      lens = sizes_at kind all cs numbers within;
      sum = sizes_moved kind all cs numbers laid.permutation;
    }

-- a branch in front of texts of its targets
pub branch_text : {kind : Kind} {all : Pairs} {w : Window} {cs : List Window} {table numbers : List ℕ} (o : HasFirstTargets kind all w cs) (texts : List (List ℕ)) → Turned kind all cs table numbers
    → o.behind.to ≤ length all → 2 ≤ length numbers → Texts kind all (map (window_at cs) numbers) texts → Listed kind (branch_front table (sizes_of kind all (map (window_at cs) numbers)) ++ concat texts) (window all o.behind)
branch_text {kind = kind} {all = all} {cs = cs} {table = table} {numbers = numbers} o texts b within two h =
    let vs = map (window_at cs) numbers in
    let es = map (edge_of all) vs in
    let last = o.behind in
    let each = texts_each kind all vs texts (apart_distinct kind all vs (table_distinct b.is_table))
    (λ i l e. let m = moved vs cs i (IsPermutation-sym cs vs b.perm) l in groups_some all last.depth last.from last.to cs within o.groups m.0 m.1 (ap (window all) m.2 ∙ e)) h in
    let window_answers = groups_answers all last.depth last.from last.to cs o.groups (apart_up kind all cs (up_of _ o.rises)) in
    let texts_are = texts_count kind all vs texts h in
    let es_are = count_map (edge_of all) vs in
    let vs_are = count_map (window_at cs) numbers in
    let long = total-lengths texts in
    let lens = texts_sizes kind all vs texts h in
    let sum = ap total lens in
    let whole = b.sum in
    let narrow = o.narrow in
    let made = branch_made kind es table texts (omega arith) b.most (texts_are ∙ sym es_are) b.low b.is_table (omega arith) in
    record {
      listed = each.listed;
      lists = subst (λ x. Rattle.zerotrie_base.specs.Texts.Lists kind (branch_front table x ++ concat texts) each.listed) (sym lens) (branch made each.each);
      same = answers_same all vs cs each.listed (window all last) (IsPermutation-sym cs vs b.perm) each.answers window_answers.1;
    }

-- how long a branch in front of its targets is
pub front_size : {kind : Kind} {all : Pairs} {w : Window} {cs : List Window} {table numbers : List ℕ} → HasFirstTargets kind all w cs → Turned kind all cs table numbers
    → (length (branch_front table (sizes_of kind all (map (window_at cs) numbers))) ≡ branch_size kind (sizes_of kind all cs))
    × (table_size kind (length cs) + (length cs - 1) ≤ length (branch_front table (sizes_of kind all (map (window_at cs) numbers))))
front_size {kind = kind} {all = all} {cs = cs} {table = table} {numbers = numbers} o b =
    let vs = map (window_at cs) numbers in
    let lens = sizes_of kind all vs in
    let ls = sizes_of kind all cs in
    let es = map (edge_of all) vs in
    let n0 = count_map (window_at cs) numbers in
    let n1 = sizes_count kind all vs in
    let n2 = sizes_count kind all cs in
    let n3 = count_map (edge_of all) vs in
    let c = b.count in
    let a = length-branch_front table lens in
    let bare = length-branch_front [] ls in
    let f : front_len (total lens) (length lens) ≡ front_len (total ls) (length ls) = ap (λ x. front_len x (length lens)) b.sum ∙ ap (front_len (total ls)) (let e : length lens ≡ length ls = omega arith in e) in
    let size = length-table b.is_table in
    let here : table_size kind (length es) ≡ table_size kind (length cs) = ap (table_size kind) (let e : length es ≡ length cs = omega arith in e) in
    let there : table_size kind (length ls) ≡ table_size kind (length cs) = ap (table_size kind) n2 in
    let offsets : length cs - 1 ≤ front_len (total lens) (length lens) = (let m = mul-le-mul {n₁ = 1} {m₁ = length lens - 1} {n₂ = width (total lens) + 1} {m₂ = length lens - 1} (omega arith) (omega arith) in omega arith) in
    (omega arith, omega arith)

-- what of the slots leads to the targets of a branch
pub branch_slots : {kind : Kind} {all : Pairs} {slots : List ℕ} {slot end : ℕ} {w : Window} {old new : Written} {rest : Window} (k : Opened kind all slots slot end w)
    → Going kind all w k.known.bytes k.known.behind old new rest → step_of kind all rest ≡ Branch → HasSlots kind all rest slots slot
branch_slots {kind = kind} {all = all} k g e =
    let o = k.known in
    let s = on_stop g.run (inr e) in
    let n = o.some (ap (step_of kind all) s.0 ∙ e) in
    record {
      windows = k.cs;
      parts = subst (λ x. TargetWindows all x k.cs) s.0 o.parts;
      some = (let t = n.0 in omega arith);
      rises = o.rises;
      lens = sizes_of kind all k.cs;
      below = k.below;
      more = k.more;
      slots_are = k.slots_are;
      lens_each = sizes_count kind all k.cs;
      below_each = each_count k.each;
    }

-- what stands after the values, literals and spans of a window is known, and so are the targets
branch_same : {kind : Kind} {all : Pairs} {slots : List ℕ} {slot end last : ℕ} {w : Window} {old new : Written} {rest : Window} (k : Opened kind all slots slot end w) (other : Opened kind all slots slot last w)
    → Going kind all w k.known.bytes k.known.behind old new rest → NoneFirst kind all rest → (other.known.behind ≡ rest) × (other.cs ≡ k.cs)
branch_same {all = all} k other g stops =
    let s = on_stop g.run stops in
    let same = behind_same other.known.run other.known.stops k.known.run k.known.stops in
    (same ∙ s.0, parts_same all k.known.behind other.cs k.cs (subst (λ x. TargetWindows all x other.cs) same other.known.parts) k.known.parts)

-- the windows that were found are those of the targets
pub branch_windows : {kind : Kind} {all : Pairs} {slots : List ℕ} {slot end : ℕ} {w : Window} {old new : Written} {rest : Window} (k : Opened kind all slots slot end w)
    → Going kind all w k.known.bytes k.known.behind old new rest → step_of kind all rest ≡ Branch → {table numbers : List ℕ} (ws : List Window) → TargetWindows all rest ws
    → IsLayout kind (edge_no all ws) (length ws) table numbers → (ws ≡ k.cs) × IsLayout kind (edge_no all k.cs) (length k.cs) table numbers
branch_windows {kind = kind} {all = all} {rest = rest} k g e {table = table} {numbers = numbers} ws parts laid =
    let same = parts_same all rest ws k.cs parts (subst (λ x. TargetWindows all x k.cs) (on_stop g.run (inr e)).0 k.known.parts) in
    (same, subst (λ x. IsLayout kind (edge_no all x) (length x) table numbers) same laid)

branch_two : {kind : Kind} {all : Pairs} {slots : List ℕ} {slot end : ℕ} {w : Window} {old new : Written} {rest : Window} (k : Opened kind all slots slot end w)
    → Going kind all w k.known.bytes k.known.behind old new rest → step_of kind all rest ≡ Branch → 2 ≤ length k.cs
branch_two {kind = kind} {all = all} k g e = let s = on_stop g.run (inr e) in (k.known.some (ap (step_of kind all) s.0 ∙ e)).0

-- the slots with the lengths of the targets
pub branch_lens : {kind : Kind} {all : Pairs} {slots : List ℕ} {slot end : ℕ} {w : Window} {old new : Written} {rest : Window} {table numbers : List ℕ} (k : Opened kind all slots slot end w)
    → Going kind all w k.known.bytes k.known.behind old new rest → step_of kind all rest ≡ Branch → IsLayout kind (edge_no all k.cs) (length k.cs) table numbers
    → (n : ℕ) → n ≡ length numbers → (take (slot + n - slot) (drop slot slots) ≡ sizes_of kind all k.cs) × (slot + n ≤ length slots)
branch_lens {kind = kind} {all = all} {slots = slots} {slot = slot} k g e laid n count =
    let two = branch_two k g e in
    let many = count ∙ (turned k.known laid).count in
    let l = slots_lens kind slots slot (length k.cs) (sizes_of kind all k.cs) k.below k.more (sizes_count kind all k.cs) (omega arith) k.slots_are in
    (ap (λ x. take x (drop slot slots)) (let z : slot + n - slot ≡ length k.cs = omega arith in z) ∙ l.0, (let r = l.1 in omega arith))

-- what the writing of a branch asks
pub branch_numbers : {kind : Kind} {all : Pairs} {w : Window} {cs : List Window} {table numbers : List ℕ} → HasFirstTargets kind all w cs → IsLayout kind (edge_no all cs) (length cs) table numbers
    → (ls ns : List ℕ) → ls ≡ sizes_of kind all cs → ns ≡ numbers → All (λ i. i < length ls) ns
branch_numbers {kind = kind} {all = all} {cs = cs} {numbers = numbers} o laid ls ns ls_is ns_is =
    let long = ap length ls_is ∙ sizes_count kind all cs in
    subst (λ x. (k d : ℕ) → k < length x → get_or x k d < length ls) (sym ns_is) (λ k d h. let below = numbers_within (length cs) numbers laid.permutation k d h in omega arith)

targets_lens : {kind : Kind} {all : Pairs} {w : Window} {cs : List Window} {table numbers : List ℕ} → HasFirstTargets kind all w cs → IsLayout kind (edge_no all cs) (length cs) table numbers
    → (ls ns : List ℕ) → ls ≡ sizes_of kind all cs → ns ≡ numbers → target_lens ls ns ≡ sizes_of kind all (map (window_at cs) numbers)
targets_lens {kind = kind} {all = all} {cs = cs} o laid ls ns ls_is ns_is = ap (λ x. target_lens x ns) ls_is ∙ ap (λ x. target_lens (sizes_of kind all cs) x) ns_is ∙ (turned o laid).lens

pub branch_small : {kind : Kind} {all : Pairs} {w : Window} {cs : List Window} {table numbers : List ℕ} → HasFirstTargets kind all w cs → IsLayout kind (edge_no all cs) (length cs) table numbers
    → (ls ns : List ℕ) → ls ≡ sizes_of kind all cs → ns ≡ numbers → total (target_lens ls ns) < 2 ^ 64
branch_small {kind = kind} o laid ls ns ls_is ns_is =
    let narrow = o.narrow in
    let widest = greatest_width_most kind in
    let most : 256 ^ (greatest_width kind + 1) ≤ 256 ^ 8 = pow-le-pow_right (lit< tt) (let k : greatest_width kind + 1 ≤ 8 = omega arith in k) in
    let whole : 256 ^ 8 ≡ 2 ^ 64 = refl in
    let is = ap total (targets_lens o laid ls ns ls_is ns_is) ∙ (turned o laid).sum in
    omega arith

front_same : (table tb lens ls : List ℕ) → tb ≡ table → ls ≡ lens → branch_front tb ls ≡ branch_front table lens
front_same table tb lens ls a b = ap (λ x. branch_front x ls) a ∙ ap (branch_front table) b

pub branch_room : {kind : Kind} {all : Pairs} {slots : List ℕ} {slot end : ℕ} {w : Window} {old new : Written} {rest : Window} {table numbers : List ℕ} (k : Opened kind all slots slot end w)
    → Going kind all w k.known.bytes k.known.behind old new rest → step_of kind all rest ≡ Branch → HasRoom old (size_of kind (window all w))
    → IsLayout kind (edge_no all k.cs) (length k.cs) table numbers → (tb ls ns : List ℕ) → tb ≡ table → ls ≡ sizes_of kind all k.cs → ns ≡ numbers → HasRoom new (length (branch_front tb (target_lens ls ns)))
branch_room {kind = kind} {all = all} {table = table} {numbers = numbers} k g e room laid tb ls ns tb_is ls_is ns_is =
    let o = k.known in
    let s = on_stop g.run (inr e) in
    let n = o.some (ap (step_of kind all) s.0 ∙ e) in
    let b = turned o laid in
    let long = front_size o b in
    let l0 = long.0 in
    let is = ap length (front_same table tb _ (target_lens ls ns) tb_is (targets_lens o laid ls ns ls_is ns_is)) in
    let a = grows g.puts in let l = g.puts.same in let z = g.sized in let c = s.1 in let d = n.1 in
    omega arith

-- what is written after a branch is no more than its bytes
next_count : (kind : Kind) (slots : List ℕ) (slot : ℕ) (cs : List Window) (numbers : List ℕ) → 2 ≤ length cs → length numbers ≡ length cs → length (next_of kind slots slot cs numbers) ≤ table_size kind (length cs) + (length cs - 1)
next_count kind slots slot cs numbers two many = counted (is_hashed kind (length cs))
  where
    ends : List ℕ
    ends = take (length cs) (drop (slot + length cs) slots)

    from : ℕ
    from = slot + 2 * length cs

    count_placed : (ns : List ℕ) → length (placed_next ends from cs ns) ≡ 2 * length ns
    count_placed [] = refl
    count_placed (i ∷ ns) = let r = count_placed ns in omega arith

    last : Next
    last = Go (position_at (window_at cs (length cs - 1)).to (from + get_or ends (length cs - 1) 0))

    first : Next
    first = Go (position_at (window_at cs 0).from (slot + length cs))

    counted : (b : Bool) → length (cond b (placed_next ends from cs numbers ++ last ∷ []) (first ∷ map text_of cs)) ≤ cond b (2 * length cs + 1) (length cs) + (length cs - 1)
    counted true = let a = length-append (placed_next ends from cs numbers) (last ∷ []) in let p = count_placed numbers in omega (arith, two, many)
    counted false = let a = count_map text_of cs in omega (arith, two)

leads_at : {kind : Kind} {all : Pairs} {slots : List ℕ} {slot end : ℕ} {w : Window} (k : Opened kind all slots slot end w) (cs : List Window) (numbers : List ℕ) → k.cs ≡ cs → 0 < length cs
    → AllByRecursion (λ j. j < length cs) numbers → (is_hashed kind (length cs) ≡ false → map (window_at cs) numbers ≡ cs)
    → (next : List Next) (ws : List Window) → IsPending kind all slots (position_at w.to end) next ws → (at : Position) → IsPending kind all slots at (next_of kind slots slot cs numbers ++ next) (map (window_at cs) numbers ++ ws)
leads_at {kind = kind} {all = all} {slots = slots} {slot = slot} {end = end} {w = w} k cs numbers same =
    subst (λ x. 0 < length x → AllByRecursion (λ j. j < length x) numbers → (is_hashed kind (length x) ≡ false → map (window_at x) numbers ≡ x)
    → (next : List Next) (ws : List Window) → IsPending kind all slots (position_at w.to end) next ws → (at : Position) → IsPending kind all slots at (next_of kind slots slot x numbers ++ next) (map (window_at x) numbers ++ ws))
    same (next_leads k numbers)

-- a branch was written
pub front_branch : {kind : Kind} {all : Pairs} {slots : List ℕ} {slot end : ℕ} {w : Window} {old new : Written} {rest : Window} {table numbers : List ℕ} (newer : Written) (k : Opened kind all slots slot end w)
    → Going kind all w k.known.bytes k.known.behind old new rest → step_of kind all rest ≡ Branch → IsLayout kind (edge_no all k.cs) (length k.cs) table numbers
    → (tb ls ns : List ℕ) → tb ≡ table → ls ≡ sizes_of kind all k.cs → ns ≡ numbers → Writes new newer (branch_front tb (target_lens ls ns))
    → (next : List Next) → next ≡ next_of kind slots slot k.cs numbers → NodesWritten kind all slots slot w next old newer
front_branch {kind = kind} {all = all} {slots = slots} {slot = slot} {end = end} {w = w} {old = old} {new = new} {rest = rest} {table = table} {numbers = numbers} newer k g e laid tb ls ns tb_is ls_is ns_is p next next_is =
    let o = k.known in
    let cs = k.cs in
    let vs = map (window_at cs) numbers in
    let s = on_stop g.run (inr e) in
    let n = o.some (ap (step_of kind all) s.0 ∙ e) in
    let b = turned o laid in
    let front = branch_front table (sizes_of kind all vs) in
    let put : Writes new newer front = subst (Writes new newer) (front_same table tb (sizes_of kind all vs) (target_lens ls ns) tb_is (targets_lens o laid ls ns ls_is ns_is)) p in
    let to_is = g.to_is in
    let inside = o.within in
    let whole = ap (λ x. x.to) s.0 in
    let same = b.sum in
    let two : 2 ≤ length numbers = (let c = b.count in let t = n.0 in omega arith) in
    let long = front_size o b in
    record {
      targets = vs;
      front = g.done ++ front;
      puts = puts_then g.puts put;
      sized = (let a = length-append g.done front in let z = g.sized in let c = s.1 in let d = n.1 in let l = long.0 in omega arith);
      many = (let a = length-append g.done front in let l = long.1 in let c = ap length next_is in let m = next_count kind slots slot cs numbers n.0 b.count in omega arith);
      lists = λ texts h. subst (λ x. Listed kind x (window all w)) (sym (append_assoc g.done front (concat texts)))
          (g.lists (front ++ concat texts) (subst (λ x. Listed kind (front ++ concat texts) (window all x)) s.0 (branch_text o texts b (omega arith) two h)));
      leads = λ last more ws kept then.
          (let other = opened kept in
          subst (λ x. IsPending kind all slots (position_at w.to slot) (x ++ more) (vs ++ ws)) (sym next_is)
          (leads_at other cs numbers (branch_same k other g (inr e)).1 (let t = n.0 in omega arith) b.within
          (λ h. ap (map (window_at cs)) (laid.in_order h) ∙ named (λ (x : Window). x) cs no_window ∙ map_same cs) more ws then (position_at w.to slot)));
    }

-- no branch was there to write
pub front_end : {kind : Kind} {all : Pairs} {slots : List ℕ} {slot end : ℕ} {w : Window} {old new : Written} {rest : Window} (k : Opened kind all slots slot end w)
    → Going kind all w k.known.bytes k.known.behind old new rest → step_of kind all rest ≡ End → (next : List Next) → next ≡ [] → NodesWritten kind all slots slot w next old new
front_end {kind = kind} {all = all} {slots = slots} {slot = slot} {w = w} {old = old} {new = new} {rest = rest} k g e next none =
    let s = on_stop g.run (inl e) in
    let n = k.known.none (ap (step_of kind all) s.0 ∙ e) in
    subst (λ x. NodesWritten kind all slots slot w x old new) (sym none) (record {
      targets = [];
      front = g.done;
      puts = g.puts;
      sized = (let b = g.sized in let c = s.1 in let d = n.1 in let z : total [] ≡ 0 = refl in omega arith);
      many = omega arith;
      lists = λ texts h. whole texts h;
      leads = λ last more ws kept then.
          (let other = opened kept in
          subst (λ x. IsPending kind all slots (position_at w.to x) more ws) (none_ends other ((branch_same k other g (inl e)).1 ∙ n.0)) then);
    })
  where
    whole : (texts : List (List ℕ)) → Texts kind all [] texts → Listed kind (g.done ++ concat texts) (window all w)
    whole [] h = g.lists [] (subst (Listed kind []) (sym (cut_none all rest.from rest.to rest.depth (step_end kind all rest e))) (listed_nothing kind))
    whole (t ∷ ts) h = absurd h

hashed_order : (kind : Kind) (n : ℕ) (es : List ℕ) → is_hashed kind n ≡ true → in_order kind es ≡ es
hashed_order simple_ascii n es h = absurd (cc)
hashed_order ignore_case n es h = absurd (cc)
hashed_order perfect_hash n es h = refl
hashed_order extended_capacity n es h = refl

-- why a branch was refused
pub branch_refused : {kind : Kind} {all : Pairs} {slots : List ℕ} {slot end : ℕ} {w : Window} {old new : Written} {rest : Window} (err : ZeroTrieBuildError) (k : Opened kind all slots slot end w)
    → Ordered kind all → Going kind all w k.known.bytes k.known.behind old new rest → step_of kind all rest ≡ Branch
    → (err ≢ OutOfMemory → (err ≡ CouldNotSolvePerfectHash) × ((cs : List Window) → TargetWindows all rest cs → AreCrooked kind (map (edge_of all) cs)))
    → err ≢ OutOfMemory → (err ≡ CouldNotSolvePerfectHash) × Cause kind all err
branch_refused {kind = kind} {all = all} err k up g e why some =
    let r = why some in
    let o = k.known in
    let es = map (edge_of all) k.cs in
    let crooked : AreCrooked kind es = r.1 k.cs (subst (λ x. TargetWindows all x k.cs) (on_stop g.run (inr e)).0 o.parts) in
    let behind = behind_all o.front all in
    let are : es ≡ edges (behind_all o.front (entries (map_of all))) =
    sym o.edges_are ∙ hashed_order kind (length es) (edges behind) crooked.0
    ∙ sym (same-edges (behind_all o.front (entries (map_of all))) behind (same-behind o.front (entries (map_of all)) all (same-entries all))) in
    (r.0, subst (Cause kind all) (sym r.0) (ordered_distinct kind all up, (o.front, subst (AreCrooked kind) are crooked)))
