-- Text by its characters.
use Rattle.std.specs.Prelude.{◌≡◌, ◌<◌, ◌≤◌, ℕ, List, ◌++◌, length, take, Option, Some, None, false, if◌then◌else◌}
use Rattle.std.specs.Str.{chars, is_utf8}

-- a number of text by its characters, if it is text
abbrev pub text_measure : (List ℕ → ℕ) → List ℕ → Option ℕ
text_measure measure key = if is_utf8 key then Some (measure (chars key)) else None

-- no front of the bytes but the empty one is text
abbrev pub NoText : List ℕ → Type 0
NoText bytes = (n : ℕ) → 0 < n → n ≤ length bytes → is_utf8 (take n bytes) ≡ false

-- what the characters of text reach that begins with some bytes and continues with this, or another value if it
-- is not text
abbrev pub text_reach : {A : Type 0} → A → (List ℕ → A) → List ℕ → List ℕ → A
text_reach most reach pending key = if is_utf8 (pending ++ key) then reach (chars (pending ++ key)) else most
