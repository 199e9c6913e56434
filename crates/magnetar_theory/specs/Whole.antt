-- What the two theorems on a whole run say, over GF(2^128).
-- Source: document 01, "The run" (good; demand 3's lists).
-- Assumes nothing.
use Rattle.std.specs.Prelude.{List, ℕ, length, take}
use Rattle.magnetar_theory.specs.Tau.{Zeros}
use Rattle.magnetar_theory.specs.Run.{Relation, residues, vectors}
use Rattle.magnetar_theory.specs.Lists.{lists}
use Rattle.magnetar_theory.specs.Absorbed.{absorbed_count}
use Rattle.magnetar_theory.specs.Gf128.{Element, gf128}

module _ (R : Relation gf128) (xs ws : List (List Element)) where
  -- every row of both systems holds for every login
  abbrev pub Good : Type 0
  Good = Zeros gf128 (residues gf128 R.bin (vectors gf128 ws xs)) × Zeros gf128 (residues gf128 R.fld (vectors gf128 ws xs))

  -- the list of a draw, from the proof's elements absorbed before it and the draws before it
  abbrev pub list_of : ℕ → List Element → List Element → List Element
  list_of s w earlier = lists gf128 s R xs ws (take (absorbed_count s R.bin.log_rows R.fld.log_rows (length earlier)) w) earlier
