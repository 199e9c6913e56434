-- The challenge alpha, which makes one claim of all terminal values: the list of the elements that hide a wrong one.
-- Source: Spartan (Setty, CRYPTO 2020), the combination of the terminal values; document 01, "The run" (alpha; demand 3's lists).
-- Assumes nothing.
use Rattle.std.specs.Prelude.{cond, ℕ, ◌<◌, length, take, get_or}
use mathlib.Core.List.{List, [], ◌∷◌, Memᴰ}
use Rattle.magnetar_theory.specs.Field.{Field, all_zero}

module _ (F : Field) where
  open F use {K, 𝟎, 𝟏, ◌⊕◌, ◌⊗◌, same, roots}

  infixl 60 ◌⊕◌
  infixl 70 ◌⊗◌
  -- the sums entry by entry
  abbrev pub diffs : List K → List K → List K
  diffs [] ts = []
  diffs (v ∷ vs) [] = []
  diffs (v ∷ vs) (t ∷ ts) = (v ⊕ t) ∷ diffs vs ts

  -- the root of c + d r, if d is not zero
  abbrev pub slope_roots : K → K → List K
  slope_roots c d = cond (same d 𝟎) [] (roots (c ∷ d ∷ []))

  -- with the combination of the earlier ones in c: the root of c + alpha_k d_k where d_k is the last that is not zero
  abbrev pub last_roots : K → List K → List K → List K
  last_roots c [] earlier = []
  last_roots c (d ∷ ds) [] = cond (all_zero F ds) (slope_roots c d) []
  last_roots c (d ∷ ds) (a ∷ earlier) = last_roots (c ⊕ a ⊗ d) ds earlier

  -- the list for alpha_k, from the values and the earlier elements of alpha
  abbrev pub alpha_list : List K → List K → List K → List K
  alpha_list vs ts earlier = last_roots 𝟎 (diffs vs ts) earlier

  -- some alpha_k is in its list
  abbrev pub BadAlpha : List K → List K → List K → Type 0
  BadAlpha vs ts al = (k : ℕ) × (k < length al) × Memᴰ (get_or al k 𝟎) (alpha_list vs ts (take k al))
