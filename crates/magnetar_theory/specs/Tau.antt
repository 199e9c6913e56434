-- The challenge tau, which makes one sum of all rows: the list of the elements that hide a row that fails.
-- Source: Spartan (Setty, CRYPTO 2020), the challenge tau of the first sum-check; document 01, "The run" (demand 3's lists).
-- Assumes nothing.
use Rattle.std.specs.Prelude.{◌≡◌, cond, ℕ, ◌<◌, length, take, get_or}
use mathlib.Core.List.{List, [], ◌∷◌, Memᴰ}
use Rattle.magnetar_theory.specs.Field.{Field, all_zero}
use Rattle.magnetar_theory.specs.EqTable.{bind_low}

module _ (F : Field) where
  open F use {K, 𝟎, 𝟏, ◌⊕◌, ◌⊗◌, same, roots}

  infixl 60 ◌⊕◌
  infixl 70 ◌⊗◌
  -- every entry is zero
  abbrev pub Zeros : List K → Type 0
  Zeros [] = Unit {0}
  Zeros (x ∷ t) = (x ≡ 𝟎) × Zeros t

  -- the roots of c + d r, if it is not zero
  abbrev pub line_roots : K → K → List K
  line_roots c d = cond (all_zero F (c ∷ d ∷ [])) [] (roots (c ∷ d ∷ []))

  -- the roots of the first pair of neighbours whose line is not zero
  abbrev pub first_roots : List K → List K
  first_roots [] = []
  first_roots (x ∷ []) = line_roots x (x ⊕ 𝟎)
  first_roots (x ∷ y ∷ t) = cond (all_zero F (x ∷ (x ⊕ y) ∷ [])) (first_roots t) (roots (x ∷ (x ⊕ y) ∷ []))

  -- the lowest variables bound, one after the other
  abbrev pub bind_lows : List K → List K → List K
  bind_lows [] t = t
  bind_lows (r ∷ rs) t = bind_lows rs (bind_low F r t)

  -- the list for tau_j, from the table and the earlier elements of tau
  abbrev pub tau_list : List K → List K → List K
  tau_list t earlier = first_roots (bind_lows earlier t)

  -- some tau_j is in its list
  abbrev pub BadTau : List K → List K → Type 0
  BadTau t taus = (j : ℕ) × (j < length taus) × Memᴰ (get_or taus j 𝟎) (tau_list t (take j taus))
