-- Bytes that look like text.
use Rattle.std.specs.Prelude.{ℕ, ◌==◌, ◌&&◌, ◌||◌, nat_le, nat_lt, not, Bool, List, length}
use Rattle.std.specs.List.{list_all}
use Rattle.std.specs.Str.{is_utf8}

-- a byte that may be in a line of text, or between lines: a tab, a line feed, a carriage return, or no control character
abbrev pub is_text_byte : ℕ → Bool
is_text_byte b = (b == 9) || ((b == 10) || ((b == 13) || (nat_le 32 b && not (b == 127))))

-- each is one
abbrev pub are_text_bytes : List ℕ → Bool
are_text_bytes bytes = list_all is_text_byte bytes

-- some bytes that are UTF-8 and have no control characters but tabs and the ends of lines
abbrev pub looks_like_text : List ℕ → Bool
looks_like_text bytes = nat_lt 0 (length bytes) && (are_text_bytes bytes && is_utf8 bytes)
