-- The two theorems on a whole run over GF(2^128), and the sizes of the lists.
-- Assumes nothing.
use mathlib.Core.Path.{◌≡◌, sym}
use mathlib.Core.List.{List, map}
use mathlib.Core.Logic.{◌⊎◌, inl, inr}
use Prim.Native.Nat.{ℕ, ◌≤◌}
use lib.ListN.{length}
use Rattle.magnetar_theory.specs.Run.{Relation, Draws, Sizes, Accepted, true_value, honest_proof}
use Rattle.magnetar_theory.proofs.Run.{whole-complete}
use Rattle.magnetar_theory.specs.Lists.{lists, proof_of, DrawInList, drawn}
use Rattle.magnetar_theory.proofs.Lists.{few-lists, flat_sound, hit-map}
use Rattle.magnetar_theory.proofs.Absorbed.{absorbed-lists}
use Rattle.magnetar_theory.specs.Gf128.{Element, gf128}
use Rattle.magnetar_theory.proofs.Gf128.{gf128_laws}
use Rattle.magnetar_theory.specs.Whole.{Good, list_of}

module _ (R : Relation gf128) (xs ws : List (List Element)) where
  -- no list has more than three elements
  pub list-sizes : (s : ℕ) (w p : List Element) → length (lists gf128 s R xs ws w p) ≤ 3
  list-sizes s w p = few-lists gf128 gf128_laws s R xs ws w p

  -- an accepted run whose segment values are true: the batch is good, or some draw is in its list
  pub sound : (w : List Element) (D : Draws gf128) → Sizes gf128 R xs ws D → Accepted gf128 R xs D (proof_of gf128 (length D.shared) R w)
      → (proof_of gf128 (length D.shared) R w).values ≡ map (true_value gf128 D ws) R.segs
      → Good R xs ws ⊎ DrawInList gf128 (list_of R xs ws (length D.shared) w) (drawn gf128 D)
  sound w D S H T = go (flat_sound gf128 gf128_laws R xs ws w D S H T)
    where
      go : Good R xs ws ⊎ DrawInList gf128 (lists gf128 (length D.shared) R xs ws w) (drawn gf128 D) → Good R xs ws
          ⊎ DrawInList gf128 (list_of R xs ws (length D.shared) w) (drawn gf128 D)
      go (inl g) = inl g
      go (inr h) = inr (hit-map gf128 (lists gf128 (length D.shared) R xs ws w) (list_of R xs ws (length D.shared) w) (drawn gf128 D)
          (λ p q. sym (absorbed-lists gf128 (length D.shared) R xs ws w p)) h)

  -- the honest proof of a good batch is accepted
  pub complete : (D : Draws gf128) (S : Sizes gf128 R xs ws D) → Good R xs ws → Accepted gf128 R xs D (honest_proof gf128 R xs ws D)
  complete D S g = whole-complete gf128 gf128_laws R xs ws D S g.0 g.1
