-- A branch whose targets no offset reaches.
use Rattle.std.proofs.Common.{◌≡◌, ℕ, inr, List, length, sym, ◌∙◌, ap, arith, map, Bool}
use Rattle.std.specs.Prelude.{filter}
use Rattle.std.specs.List.{range_with_len}
use Rattle.std.specs.FinMap.{entries}
use Rattle.std.proofs.Math.Path.{fun_ext}
use Rattle.zerotrie_base.specs.Kind.{Kind}
use Rattle.zerotrie_base.specs.Maps.{Pairs, map_of, begins_some, edges, residual, behind_all}
use Rattle.zerotrie_base.specs.Branches.{total}
use Rattle.zerotrie_base.specs.Canonical.{size_of}
use Rattle.zerotrie_base.specs.Fits.{targets_size, OverflowsAt, ExceedsCapacity}
use Rattle.zerotrie_base.proofs.CallerLemmas.{same-entries, same-sym, same-behind, same-edges, same-targets, some_pair, begins_behind, map_agree}

filter_agree : (p q : ℕ → Bool) (zs : List ℕ) → ((b : ℕ) → p b ≡ q b) → filter p zs ≡ filter q zs
filter_agree p q zs h = ap (λ t. filter t zs) (fun_ext h)

-- edges and sizes go by the residuals
pub same_edges : (xs ys : Pairs) → ((b : ℕ) → residual b xs ≡ residual b ys) → edges xs ≡ edges ys
unfolding edges
same_edges xs ys h = filter_agree (begins_some xs) (begins_some ys) (range_with_len 0 256) (λ b. begins_behind xs b ∙ ap some_pair (h b) ∙ sym (begins_behind ys b))

pub same_targets_size : (kind : Kind) (xs ys : Pairs) → ((b : ℕ) → residual b xs ≡ residual b ys) → targets_size kind xs ≡ targets_size kind ys
unfolding targets_size
same_targets_size kind xs ys h =
    ap total (map_agree (λ b. size_of kind (residual b xs)) (λ b. size_of kind (residual b ys)) (edges xs) (λ b. ap (size_of kind) (h b)))
    ∙ ap (λ es. total (map (λ b. size_of kind (residual b ys)) es)) (same_edges xs ys h)

-- A branch of the pairs is one of their map.
pub exceeds : (kind : Kind) (front : List ℕ) (all : Pairs) → OverflowsAt kind front all → ExceedsCapacity kind (map_of all)
exceeds kind front all over =
    let same = same-behind front all (entries (map_of all)) (same-sym (entries (map_of all)) all (same-entries all)) in
    let e = ap length (same-edges (behind_all front all) (behind_all front (entries (map_of all))) same) in
    let t = same-targets kind (behind_all front all) (behind_all front (entries (map_of all))) same in
    let a = over.0 in
    let b = over.1 in
    inr (front, (omega arith, omega arith))
