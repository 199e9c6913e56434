-- The size of a login in words: its bits, two words of 64 bits for each 128 columns or part of 128, and its public columns.
-- Source: document 01, "Forms that give way" (a packed login row of w128 u128 values becomes 2 w128 words); document 02, U6 (m - 2 public
-- words for each login).
-- Assumes nothing.
use Rattle.std.specs.Prelude.{ℕ, ◌+◌, ◌-◌, ◌*◌, ◌/◌}

-- how many words the bits of a login with w columns have
unfoldable pub login_words : ℕ → ℕ
login_words w = 2 * ((w + 127) / 128)

-- how many words its w - 1 public columns have
abbrev pub public_words : ℕ → ℕ
public_words w = 2 * w - 2
