-- How an eq table grows by one variable. Only the contracts of private functions speak of this.
-- Assumes nothing.
use Rattle.std.specs.Prelude.{List, [], ◌∷◌, ℕ, ◌+◌, ◌*◌, get_or, set}
use Rattle.magnetar_field.specs.Gf128.{◌⊕◌, ◌⊗◌}

-- each entry v becomes the two entries v (1 + r) = v + v r and v r
unfoldable pub doubled : ℕ → List ℕ → List ℕ
doubled r [] = []
doubled r (v ∷ vs) = (v ⊕ v ⊗ r) ∷ (v ⊗ r ∷ doubled r vs)

-- entry k split in place into the entries 2k and 2k + 1
abbrev pub split_entry : List ℕ → ℕ → ℕ → List ℕ
split_entry t k r = set (set t (2 * k) (get_or t k 0 ⊕ get_or t k 0 ⊗ r)) (2 * k + 1) (get_or t k 0 ⊗ r)
