-- What the contracts of the round's private functions cite. No public contract cites it.
-- Assumes nothing.
use Rattle.std.specs.Prelude.{◌≡◌, List, ℕ}
use Rattle.magnetar_field.specs.Tabulate.{tabulate}
use Rattle.magnetar_keccak.specs.State.{lane}
use Rattle.magnetar_keccak.specs.Keccak.{effect}

-- d has what theta adds to each column of a
pub record Effects (a d : List ℕ) : Type 0 where
  pub list : d ≡ tabulate (effect a) 5

-- the plane y of the state s
abbrev pub plane : List ℕ → ℕ → List ℕ
plane s y = tabulate (λ x. lane s x y) 5
