use Rattle.std.proofs.Common.{◌≡◌, ◌+◌, ◌-◌, ◌*◌, ◌%◌, ◌^◌, ◌≤◌, length, refl, sym, ◌∙◌, ap, arith}
use Rattle.std.proofs.Math.Nat.{mul-le-mul}
use Rattle.zerotrie_base.specs.Numbers.{branch_form, spelled_as}
use Rattle.zerotrie_base.specs.Branches.{total as total_of, table_size, width}
use Rattle.zerotrie_base.proofs.CallerLemmas.{width_is}
use Rattle.zerotrie_build.proofs.WindowLemmas.Groups.{branch_size_is, table_hashed, table_sorted}
use Rattle.zerotrie_build.proofs.measure.branch_len.Goals as goal
use Rattle.zerotrie_build.proofs.measure.branch_len.Goals.{then-is_hashed, else-is_hashed}

pub overflow_mul-width : goal.overflow_mul-width
overflow_mul-width g c = record {
  fits = (
      let f = c.ranges.total.fits in
      let p : 256 ^ (7 + 1) ≡ 2 ^ 64 = refl in
      let w = c.least_width-width.ensures.small in omega arith);
}

pub overflow_add-width : goal.overflow_add-width
overflow_add-width g c = record {
  fits = (
      let f = c.ranges.total.fits in
      let p : 256 ^ (7 + 1) ≡ 2 ^ 64 = refl in
      let w = c.least_width-width.ensures.small in
      let few = c.requires.few in omega arith);
}

pub overflow_add-result-2 : goal.overflow_add-result-2
overflow_add-result-2 g c = record {
  fits = (
      let f = c.ranges.total.fits in
      let p : 256 ^ (7 + 1) ≡ 2 ^ 64 = refl in
      let w = c.least_width-width.ensures.small in omega arith);
}

pub overflow_mul-result : goal.overflow_mul-result
overflow_mul-result g c = record {
  fits = (
      let f = c.ranges.total.fits in
      let p : 256 ^ (7 + 1) ≡ 2 ^ 64 = refl in
      let w = c.least_width-width.ensures.small in
      let few = c.requires.few in
      let offsets : (c.least_width-width.result + 1) * (c.args.edges - 1) ≤ 8 * 255 = mul-le-mul {n₂ = 8} {m₂ = 255} (omega arith) (omega arith) in
      omega arith);
}

pub overflow_add-result-3 : goal.overflow_add-result-3
overflow_add-result-3 g c = record {
  fits = (
      let f = c.ranges.total.fits in
      let p : 256 ^ (7 + 1) ≡ 2 ^ 64 = refl in
      let w = c.least_width-width.ensures.small in
      let few = c.requires.few in
      let head = c.number_len.ensures.few in
      let offsets : (c.least_width-width.result + 1) * (c.args.edges - 1) ≤ 8 * 255 = mul-le-mul {n₂ = 8} {m₂ = 255} (omega arith) (omega arith) in
      let table : c.if-is_hashed.table ≤ 2 * 256 + 1 = elim c.if-is_hashed.branch [
        | then-is_hashed w ↦ let is = w.table-is in omega arith
        | else-is_hashed w ↦ let is = w.table-is in omega arith
      ] in
      omega arith);
}

pub returns : goal.returns
returns g c lengths count sum =
    let kind = g.K.ZeroTrieWithOptions.kind in
    let n = c.args.edges in
    let w = c.least_width-width.result in
    let wide : w ≡ width (total_of lengths) = width_is c.args.total w c.least_width-width.ensures.width ∙ ap width (sym sum) in
    let head = c.number_len.ensures.len branch_form refl in
    let head_is : length (spelled_as branch_form (256 * w + n % 256)) ≡ length (spelled_as branch_form (256 * width (total_of lengths) + length lengths % 256)) =
    ap (λ x. length (spelled_as branch_form (256 * x + n % 256))) wide ∙ ap (λ m. length (spelled_as branch_form (256 * width (total_of lengths) + m % 256))) (sym count) in
    let offsets : (w + 1) * (n - 1) ≡ (width (total_of lengths) + 1) * (length lengths - 1) = ap (λ x. (x + 1) * (n - 1)) wide ∙ ap (λ m. (width (total_of lengths) + 1) * (m - 1)) (sym count) in
    let table : c.if-is_hashed.table ≡ table_size kind (length lengths) = elim c.if-is_hashed.branch [
      | then-is_hashed w ↦ w.table-is ∙ sym (table_hashed kind n (sym c.is_hashed.ensures ∙ w.if-is_hashed.true)) ∙ ap (table_size kind) (sym count)
      | else-is_hashed w ↦ w.table-is ∙ sym (table_sorted kind n (sym c.is_hashed.ensures ∙ w.if-is_hashed.false)) ∙ ap (table_size kind) (sym count)
    ] in
    let size = branch_size_is kind lengths in
    omega arith
