-- Bytes in hexadecimal.
use Rattle.std.proofs.Common.{◌≡◌, ℕ, ◌+◌, ◌-◌, ◌/◌, ◌%◌, ◌^◌, ◌<◌, List, [], ◌∷◌, ◌++◌, length, drop, get_or, refl, sym, ◌∙◌, ap, false, drop-cons, add-one, append_assoc}
use Rattle.std.specs.Fmt.{padded_integral, format_spec, digits, digit_glyph}
use Rattle.std.proofs.lemmas.Fmt.{hex_byte}
use Rattle.zerotrie_session.specs.Replies.{hex_digits}

-- what `{:02x}` writes
abbrev pub two_digits : ℕ → List ℕ
two_digits b = padded_integral (format_spec 32 0 4 2 (2 ^ 64 - 1)) false [] (digits 16 false b)

-- one more byte
pub hex_more : (bytes : List ℕ) (i : ℕ) (old new whole : List ℕ) → i < length bytes → get_or bytes i 0 < 256 → old ++ hex_digits (drop i bytes) ≡ whole → new ≡ old ++ two_digits (get_or bytes i 0) → new ++ hex_digits (drop (i + 1) bytes) ≡ whole
hex_more bytes i old new whole h small so_far more =
    let at : drop i bytes ≡ get_or bytes i 0 ∷ drop (i + 1) bytes = rw (add-one, drop-cons bytes i 0) refl in
    ap (λ l. l ++ hex_digits (drop (i + 1) bytes)) (more ∙ ap (λ d. old ++ d) (hex_byte false (get_or bytes i 0) small))
    ∙ append_assoc old (digit_glyph false (get_or bytes i 0 / 16) ∷ digit_glyph false (get_or bytes i 0 % 16) ∷ []) (hex_digits (drop (i + 1) bytes))
    ∙ ap (λ l. old ++ hex_digits l) (sym at)
    ∙ so_far
