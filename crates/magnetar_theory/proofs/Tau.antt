-- A table whose sum against the eq table of tau is zero is all zero, or some tau_j is in its list, of at most one element.
-- Assumes nothing: the field and its laws are parameters.
use mathlib.Core.Path.{◌≡◌, refl, sym, ap₂, ◌∙◌}
use mathlib.Core.Bool.{Bool, true, false, ◌&&◌, cond, false≢true}
use mathlib.Core.List.{List, [], ◌∷◌, Memᴰ}
use mathlib.Core.Logic.{◌⊎◌, inl, inr}
use Prim.Native.Nat.{ℕ, zero, suc, ◌+◌, ◌^◌, ◌≤◌}
use native.Mathlib.Nat.{two-pow-succ}
use native.Mathlib.Omega.{arith}
use lib.ListN.{length}
use Rattle.magnetar_theory.specs.Field.{Field, Laws, eval, all_zero}
use Rattle.magnetar_theory.proofs.Ring.{ring}
use Rattle.magnetar_theory.proofs.SumCheck.{eq-of-sum-zero}
use Rattle.magnetar_theory.specs.EqTable.{eq_table, dot, bind_low}
use Rattle.magnetar_theory.proofs.EqTable.{dot-spread}
use Rattle.magnetar_theory.specs.Tau.{Zeros, line_roots, first_roots, bind_lows, tau_list, BadTau}

module _ (F : Field) where
  open F use {K, 𝟎, 𝟏, ◌⊕◌, ◌⊗◌, same, roots}

  infixl 60 ◌⊕◌
  infixl 70 ◌⊗◌
  module _ (L : Laws F) where
    pub zeros : (t : List K) → all_zero F t ≡ true → Zeros F t
    zeros [] h = tt
    zeros (c ∷ t) h = go (same c 𝟎) refl h (zeros t)
      where
        go : (b : Bool) → same c 𝟎 ≡ b → (b && all_zero F t) ≡ true → (all_zero F t ≡ true → Zeros F t) → Zeros F (c ∷ t)
        go true e h ih = (L.is-ring.same_true c 𝟎 e, ih h)
        go false e h ih = absurd (false≢true h)

    pub same-zero : (c : K) → c ≡ 𝟎 → same c 𝟎 ≡ true
    same-zero c h = go (same c 𝟎) refl
      where
        go : (b : Bool) → same c 𝟎 ≡ b → b ≡ true
        go true e = refl
        go false e = absurd (L.is-ring.same_false c 𝟎 e h)

    pub all-zero : (t : List K) → Zeros F t → all_zero F t ≡ true
    all-zero [] z = refl
    all-zero (c ∷ t) z = ap₂ ◌&&◌ (same-zero c z.0) (all-zero t z.1)

    pub eval-line : (c d r : K) → eval F (c ∷ d ∷ []) r ≡ c ⊕ r ⊗ d
    eval-line c d r = simp (ring, L.is-ring, eval)

    -- a root of c + d r is listed, or both are zero
    pub line-root : (c d r : K) → c ⊕ r ⊗ d ≡ 𝟎 → ((c ≡ 𝟎) × (d ≡ 𝟎)) ⊎ Memᴰ r (line_roots F c d)
    line-root c d r h = go (all_zero F (c ∷ d ∷ [])) refl
      where
        go : (b : Bool) → all_zero F (c ∷ d ∷ []) ≡ b → ((c ≡ 𝟎) × (d ≡ 𝟎)) ⊎ Memᴰ r (cond b [] (roots (c ∷ d ∷ [])))
        go true e = inl ((zeros (c ∷ d ∷ []) e).0, (zeros (c ∷ d ∷ []) e).1.0)
        go false e = inr (L.root_listed (c ∷ d ∷ []) r e (eval-line c d r ∙ h))

    second : (x y : K) → x ≡ 𝟎 → x ⊕ y ≡ 𝟎 → y ≡ 𝟎
    second x y h k = sym (eq-of-sum-zero F L x y k) ∙ h

    -- a table that is zero once its lowest variable is bound at r was zero, or r is listed
    step : (t : List K) (r : K) → Zeros F (bind_low F r t) → Zeros F t ⊎ Memᴰ r (first_roots F t)
    step [] r z = inl tt
    step (x ∷ []) r z = go (line-root x (x ⊕ 𝟎) r z.0)
      where
        go : ((x ≡ 𝟎) × (x ⊕ 𝟎 ≡ 𝟎)) ⊎ Memᴰ r (line_roots F x (x ⊕ 𝟎)) → Zeros F (x ∷ []) ⊎ Memᴰ r (line_roots F x (x ⊕ 𝟎))
        go (inl h) = inl (h.0, tt)
        go (inr m) = inr m
    step (x ∷ y ∷ t) r z = go (all_zero F (x ∷ (x ⊕ y) ∷ [])) refl (step t r z.1)
      where
        go : (b : Bool) → all_zero F (x ∷ (x ⊕ y) ∷ []) ≡ b → Zeros F t ⊎ Memᴰ r (first_roots F t) → Zeros F (x ∷ y ∷ t)
            ⊎ Memᴰ r (cond b (first_roots F t) (roots (x ∷ (x ⊕ y) ∷ [])))
        go true e (inr m) = inr m
        go true e (inl h) = let k : Zeros F (x ∷ (x ⊕ y) ∷ []) = zeros (x ∷ (x ⊕ y) ∷ []) e in inl (k.0, (second x y k.0 k.1.0, h))
        go false e h = inr (L.root_listed (x ∷ (x ⊕ y) ∷ []) r e (eval-line x (x ⊕ y) r ∙ z.0))

    length-bind_low : (r : K) (t : List K) (n : ℕ) → length t ≤ n + n → length (bind_low F r t) ≤ n
    length-bind_low r [] n h = omega arith
    length-bind_low r (x ∷ []) n h = omega arith
    length-bind_low r (x ∷ y ∷ t) zero h = absurd (omega arith)
    length-bind_low r (x ∷ y ∷ t) (suc n) h = omega (arith, length-bind_low r t n (omega arith))

    pub tau-sound : (taus t : List K) → length t ≤ 2 ^ length taus → dot F (eq_table F taus) t ≡ 𝟎 → Zeros F t ⊎ BadTau F t taus
    tau-sound [] [] h e = inl tt
    tau-sound [] (x ∷ []) h e = inl (one x ∙ e, tt)
      where
        one : (x : K) → x ≡ 𝟏 ⊗ x ⊕ 𝟎
        one x = simp (ring, L.is-ring)
    tau-sound [] (x ∷ y ∷ t) h e = absurd (omega arith)
    tau-sound (p ∷ taus) t h e = go (tau-sound taus (bind_low F p t)
        (length-bind_low p t (2 ^ length taus) (omega (arith, two-pow-succ (length taus)))) (sym (dot-spread F L p (eq_table F taus) t) ∙ e))
      where
        go : Zeros F (bind_low F p t) ⊎ BadTau F (bind_low F p t) taus → Zeros F t ⊎ BadTau F t (p ∷ taus)
        go (inr (j, k, m)) = inr (suc j, omega arith, m)
        go (inl z) = here (step t p z)
          where
            here : Zeros F t ⊎ Memᴰ p (first_roots F t) → Zeros F t ⊎ BadTau F t (p ∷ taus)
            here (inl z) = inl z
            here (inr m) = inr (zero, omega arith, m)

    pub line-few : (c d : K) → length (line_roots F c d) ≤ 1
    line-few c d = go (all_zero F (c ∷ d ∷ [])) refl
      where
        go : (b : Bool) → all_zero F (c ∷ d ∷ []) ≡ b → length (cond b [] (roots (c ∷ d ∷ []))) ≤ 1
        go true e = omega arith
        go false e = L.roots_few c (d ∷ []) e

    first-few : (t : List K) → length (first_roots F t) ≤ 1
    first-few [] = omega arith
    first-few (x ∷ []) = line-few x (x ⊕ 𝟎)
    first-few (x ∷ y ∷ t) = go (all_zero F (x ∷ (x ⊕ y) ∷ [])) refl (first-few t)
      where
        go : (b : Bool) → all_zero F (x ∷ (x ⊕ y) ∷ []) ≡ b → length (first_roots F t) ≤ 1
            → length (cond b (first_roots F t) (roots (x ∷ (x ⊕ y) ∷ []))) ≤ 1
        go true e h = h
        go false e h = L.roots_few x ((x ⊕ y) ∷ []) e

    pub tau-few : (t earlier : List K) → length (tau_list F t earlier) ≤ 1
    tau-few t earlier = first-few (bind_lows F earlier t)
