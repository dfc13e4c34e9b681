-- The table of the checksum is that of its definition.
use Rattle.std.proofs.Common.{◌≡◌, ℕ, zero, suc, ◌+◌, ◌*◌, ◌<◌, List, [], ◌++◌, map, length, get_or, refl, ap, ◌∙◌, zero-add, arith}
use Rattle.std.proofs.lemmas.List.{get_or_append_left, get_or-append-add, get_or-map, length-map}
use Rattle.std.proofs.lemmas.List.FromFn.{get_or-map-range_with_len, length-map-range_with_len}
use Rattle.std.specs.List.{range_with_len}
use Rattle.zerotrie_sealed.specs.Checksum.{times_x, times_power}
use Rattle.zerotrie_sealed.specs.declared.tables.TheConstants.{POWERS}
use Rattle.zerotrie_sealed.proofs.Remainders.{times_power-add}

-- so many rows, each the one before it times x^8
unfoldable rows : ℕ → List ℕ → List ℕ
rows zero row = []
rows (suc n) row = row ++ rows n (map (times_power 8) row)

powers_are_rows : POWERS ≡ rows 16 (map (times_power 8) (range_with_len 0 256))
unfolding rows times_x times_power
powers_are_rows = refl

rows-at : (n : ℕ) (row : List ℕ) (j b : ℕ) → length row ≡ 256 → j < n → b < 256
    → get_or (rows n row) (256 * j + b) 0 ≡ times_power (8 * j) (get_or row b 0)
unfolding rows times_power
rows-at zero row j b long within low = absurd (omega arith)
rows-at (suc n) row zero b long within low =
    let e : 256 * zero + b ≡ b = omega arith in
    rw e (get_or_append_left row (rows n (map (times_power 8) row)) 0 b (omega arith))
rows-at (suc n) row (suc j) b long within low =
    let next : List ℕ = map (times_power 8) row in
    let e : 256 * suc j + b ≡ length row + (256 * j + b) = omega arith in
    let f : 8 + 8 * j ≡ 8 * suc j = omega arith in
    rw e (get_or-append-add row (rows n next) (256 * j + b) 0)
    ∙ rows-at n next j b (length-map row (times_power 8) ∙ long) (omega arith) low
    ∙ ap (times_power (8 * j)) (get_or-map (times_power 8) row b 0 0 (omega arith))
    ∙ times_power-add 8 (8 * j) (get_or row b 0)
    ∙ ap (λ m. times_power m (get_or row b 0)) f

rows-powers : (table row : List ℕ) → table ≡ rows 16 row → length row ≡ 256 → ((b : ℕ) → b < 256 → get_or row b 0 ≡ times_power 8 b)
    → (k b : ℕ) → k < 16 → b < 256 → get_or table (256 * k + b) 0 ≡ times_power (8 * (k + 1)) b
rows-powers table row same long first k b within low =
    let e : 8 + 8 * k ≡ 8 * (k + 1) = omega arith in
    ap (λ l. get_or l (256 * k + b) 0) same
    ∙ rows-at 16 row k b long within low
    ∙ ap (times_power (8 * k)) (first b low)
    ∙ times_power-add 8 (8 * k) b
    ∙ ap (λ m. times_power m b) e

-- what stands at each place of the table
pub powers-at : (k b : ℕ) → k < 16 → b < 256 → get_or POWERS (256 * k + b) 0 ≡ times_power (8 * (k + 1)) b
powers-at =
    rows-powers POWERS (map (times_power 8) (range_with_len 0 256)) powers_are_rows
    (length-map-range_with_len (times_power 8) 0 256)
    (λ b low. get_or-map-range_with_len (times_power 8) 0 256 b b 0 low (zero-add b))
