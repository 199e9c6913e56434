-- The pairs of an eq table: where the next variable is 0 and where it is 1 stand the entries of the eq table over the others, times
-- 1 + t and times t, with t for the variable's element of the point.
-- Assumes nothing.
use mathlib.Core.Path.{◌≡◌, refl, sym, ap, ap₂, ◌∙◌}
use mathlib.Core.List.{List, [], ◌∷◌, ◌++◌, append-nil}
use Prim.Native.Nat.{ℕ, zero, suc, ◌+◌, ◌^◌, ◌<◌}
use native.Mathlib.Omega.{arith}
use lib.ListN.{length, get_or, take, drop, length-append, length-take, length-drop, take-append-drop, get_or-append}
use lib.Seq.{get_or-append-add, length-take-le, drop-cons}
use Rattle.magnetar_multilinear.specs.Multilinear.{insert_zero}
use Rattle.magnetar_theory.specs.Field.{Field, Laws}
use Rattle.magnetar_theory.specs.EqTable.{spread, scale, eq_table}
use Rattle.magnetar_theory.proofs.Ring.{ring}
use Rattle.magnetar_theory.proofs.EqTable.{eq_table-snoc, length-eq_table, length-scale}
use Rattle.magnetar_sumcheck_verifier.specs.Order.{next_var}
use Rattle.magnetar_sumcheck_verifier.proofs.Tables.{insert-low, insert-top}
use Rattle.magnetar_sumcheck_verifier.proofs.Pairs.{next-high, next_low, next-top}

-- a list without its entry v
abbrev pub without : {A : Type 0} → ℕ → List A → List A
without v t = take v t ++ drop (suc v) t

pub length_without : {A : Type 0} (v n : ℕ) (t : List A) → length t ≡ suc n → v < suc n → length (without v t) ≡ n
length_without v n t l h = length-append (take v t) (drop (suc v) t) ∙ omega (arith, length-take v t, length-drop (suc v) t)

module _ (F : Field) (L : Laws F) where
  open F use {K, 𝟎, 𝟏, ◌⊕◌, ◌⊗◌}

  infixl 60 ◌⊕◌
  infixl 70 ◌⊗◌
  zero-product : (k : K) → 𝟎 ≡ k ⊗ 𝟎
  zero-product k = simp (ring, L.is-ring)

  pub get_d-scale : (k : K) (t : List K) (i : ℕ) → get_or (scale F k t) i 𝟎 ≡ k ⊗ get_or t i 𝟎
  get_d-scale k [] i = zero-product k
  get_d-scale k (x ∷ t) zero = refl
  get_d-scale k (x ∷ t) (suc i) = get_d-scale k t i

  twice : (i : ℕ) → suc i + suc i ≡ suc (suc (i + i))
  twice i = omega arith

  spread-even : (p : K) (t : List K) (i : ℕ) → get_or (spread F p t) (i + i) 𝟎 ≡ (𝟏 ⊕ p) ⊗ get_or t i 𝟎
  spread-even p [] i = zero-product (𝟏 ⊕ p)
  spread-even p (e ∷ t) zero = refl
  spread-even p (e ∷ t) (suc i) = ap (λ (j : ℕ). get_or (spread F p (e ∷ t)) j 𝟎) (twice i) ∙ spread-even p t i

  spread-odd : (p : K) (t : List K) (i : ℕ) → get_or (spread F p t) (suc (i + i)) 𝟎 ≡ p ⊗ get_or t i 𝟎
  spread-odd p [] i = zero-product p
  spread-odd p (e ∷ t) zero = refl
  spread-odd p (e ∷ t) (suc i) = ap (λ (j : ℕ). get_or (spread F p (e ∷ t)) (suc j) 𝟎) (twice i) ∙ spread-odd p t i

  top-zero : (ps : List K) (p : K) (i : ℕ) → i < 2 ^ length ps → get_or (eq_table F (ps ++ (p ∷ []))) i 𝟎 ≡ (𝟏 ⊕ p) ⊗ get_or (eq_table F ps) i 𝟎
  top-zero ps p i h =
      ap (λ (t : List K). get_or t i 𝟎) (eq_table-snoc F L ps p)
      ∙ get_or-append (scale F (𝟏 ⊕ p) (eq_table F ps)) (scale F p (eq_table F ps)) 𝟎 i
      (rw (length-scale F L (𝟏 ⊕ p) (eq_table F ps), length-eq_table F L ps) h)
      ∙ get_d-scale (𝟏 ⊕ p) (eq_table F ps) i

  top_one : (ps : List K) (p : K) (i : ℕ) → get_or (eq_table F (ps ++ (p ∷ []))) (2 ^ length ps + i) 𝟎 ≡ p ⊗ get_or (eq_table F ps) i 𝟎
  top_one ps p i =
      ap₂ (λ (t : List K) (j : ℕ). get_or t (j + i) 𝟎) (eq_table-snoc F L ps p)
      (sym (length-scale F L (𝟏 ⊕ p) (eq_table F ps) ∙ length-eq_table F L ps))
      ∙ get_or-append-add (scale F (𝟏 ⊕ p) (eq_table F ps)) (scale F p (eq_table F ps)) i 𝟎 ∙ get_d-scale p (eq_table F ps) i

  -- a list by its last entry
  last-split : (t : List K) (n : ℕ) → length t ≡ suc n → t ≡ take n t ++ (get_or t n 𝟎 ∷ [])
  last-split t n l =
      sym (take-append-drop n t) ∙ ap (λ (r : List K). take n t ++ r) (drop-cons t n 𝟎 (omega arith)
      ∙ ap (λ (r : List K). get_or t n 𝟎 ∷ r) (nil (drop (suc n) t) (omega (arith, length-drop (suc n) t))))
    where
      nil : (t : List K) → length t ≡ 0 → t ≡ []
      nil [] h = refl
      nil (x ∷ t) h = absurd (omega arith)

  without-last : (t : List K) (n : ℕ) → length t ≡ suc n → without n t ≡ take n t
  without-last t n l = ap (λ (r : List K). take n t ++ r) (nil (drop (suc n) t) (omega (arith, length-drop (suc n) t)))
      ∙ append-nil (take n t)
    where
      nil : (t : List K) → length t ≡ 0 → t ≡ []
      nil [] h = refl
      nil (x ∷ t) h = absurd (omega arith)

  pub eq-pair₀ : (s n : ℕ) (p : List K) (i : ℕ) → length p ≡ suc n → i < 2 ^ n
      → get_or (eq_table F p) (insert_zero (next_var s (suc n)) i) 𝟎
      ≡ (𝟏 ⊕ get_or p (next_var s (suc n)) 𝟎) ⊗ get_or (eq_table F (without (next_var s (suc n)) p)) i 𝟎
  unfolding next_var
  eq-pair₀ zero n [] i l h = absurd (omega arith)
  eq-pair₀ zero n (x ∷ p) i l h = ap (λ (j : ℕ). get_or (eq_table F (x ∷ p)) j 𝟎) (insert-low i) ∙ spread-even x (eq_table F p) i
  eq-pair₀ (suc s) n p i l h = rw (next-high s n, insert-top n i h, without-last p n l)
      (ap (λ (t : List K). get_or (eq_table F t) i 𝟎) (last-split p n l)
      ∙ top-zero (take n p) (get_or p n 𝟎) i (rw (length-take-le n p (omega arith)) h))

  pub eq-pair₁ : (s n : ℕ) (p : List K) (i : ℕ) → length p ≡ suc n → i < 2 ^ n
      → get_or (eq_table F p) (insert_zero (next_var s (suc n)) i + 2 ^ next_var s (suc n)) 𝟎
      ≡ get_or p (next_var s (suc n)) 𝟎 ⊗ get_or (eq_table F (without (next_var s (suc n)) p)) i 𝟎
  unfolding next_var
  eq-pair₁ zero n [] i l h = absurd (omega arith)
  eq-pair₁ zero n (x ∷ p) i l h = ap (λ (j : ℕ). get_or (eq_table F (x ∷ p)) j 𝟎) (next_low i) ∙ spread-odd x (eq_table F p) i
  eq-pair₁ (suc s) n p i l h = rw (next-high s n, next-top n i h, without-last p n l)
      (ap₂ (λ (t : List K) (m : ℕ). get_or (eq_table F t) (2 ^ m + i) 𝟎) (last-split p n l) (sym (length-take-le n p (omega arith)))
      ∙ top_one (take n p) (get_or p n 𝟎) i)
