-- How many elements all lists met along one run have together.
-- Assumes nothing: the field and its laws are parameters.
use mathlib.Core.Path.{◌≡◌, refl, sym, ap, ap₂, ◌∙◌}
use mathlib.Core.Bool.{Bool, true, false, cond, false≢true}
use mathlib.Core.List.{List, [], ◌∷◌, ◌++◌}
use Prim.Native.Nat.{ℕ, zero, suc, ◌+◌, ◌*◌, ◌≤◌, max}
use native.Mathlib.Nat.{suc-mul, zero-add, le-max_left, le-max_right}
use native.Mathlib.Omega.{arith}
use lib.Dec.{ltb}
use lib.ListN.{length, take, drop, length-drop}
use borrow.Author.Tests.{ltb-true, ltb-false, lt-ltb, le-ltb}
use Rattle.magnetar_theory.specs.Field.{Field, Laws, all_zero}
use Rattle.magnetar_theory.specs.SumCheck.{bad_challenges}
use Rattle.magnetar_theory.specs.Table.{table_rounds}
use Rattle.magnetar_theory.specs.Cells.{inner_cells}
use Rattle.magnetar_theory.specs.Tau.{Zeros, tau_list}
use Rattle.magnetar_theory.proofs.Tau.{zeros, same-zero, tau-few}
use Rattle.magnetar_theory.specs.Alpha.{alpha_list, diffs, last_roots, slope_roots}
use Rattle.magnetar_theory.proofs.Alpha.{slope-few}
use Rattle.magnetar_theory.specs.Inner.{zip_inner}
use Rattle.magnetar_theory.specs.Run.{Relation, System, bin_good, residues, vectors, true_terminals, combo, folded}
use Rattle.magnetar_theory.specs.Lists.{section, elements_from, six_at, outer, lists, lists_of}
use Rattle.magnetar_theory.proofs.Lists.{bad-few, words-few, outer-few}
use Rattle.magnetar_theory.specs.Count.{draws, natural_sum}

ltb-suc : (m n : ℕ) → ltb (suc m) (suc n) ≡ ltb m n
ltb-suc m n = go (ltb m n) refl
  where
    go : (b : Bool) → ltb m n ≡ b → ltb (suc m) (suc n) ≡ b
    go true e = lt-ltb (suc m) (suc n) (omega (arith, ltb-true m n e))
    go false e = le-ltb (suc m) (suc n) (omega (arith, ltb-false m n e))

module _ (F : Field) where
  open F use {K, 𝟎, 𝟏, ◌⊕◌, ◌⊗◌, same, roots}

  infixl 60 ◌⊕◌
  infixl 70 ◌⊗◌
  -- the lengths of the lists met along the draws, added up
  abbrev pub met : (List K → List K) → List K → ℕ
  met l [] = 0
  met l (a ∷ d) = length (l []) + met (λ p. l (a ∷ p)) d

  pub met-sum : (l : List K → List K) (d : List K) → met l d ≡ natural_sum (length d) (λ k. length (l (take k d)))
  met-sum l [] = refl
  met-sum l (a ∷ d) = ap (λ (n : ℕ). length (l []) + n) (met-sum (λ p. l (a ∷ p)) d)

  pub met-same : (l l' : List K → List K) (d : List K) → ((p : List K) → l p ≡ l' p) → met l d ≡ met l' d
  met-same l l' [] h = refl
  met-same l l' (a ∷ d) h = ap₂ (λ (m n : ℕ). m + n) (ap length (h [])) (met-same (λ p. l (a ∷ p)) (λ p. l' (a ∷ p)) d (λ p. h (a ∷ p)))

  met-few : (N : ℕ) (l : List K → List K) (d : List K) → ((p : List K) → length (l p) ≤ N) → met l d ≤ length d * N
  met-few N l [] h = omega arith
  met-few N l (a ∷ d) h = omega (arith, h [], met-few N (λ p. l (a ∷ p)) d (λ p. h (a ∷ p)), suc-mul (length d) N)

  met-part : (N n : ℕ) (l : List K → List K) (d : List K) → ((p : List K) → length (l p) ≤ N) → met l (take n d) ≤ n * N
  met-part N zero l d h = omega arith
  met-part N (suc n) l [] h = omega arith
  met-part N (suc n) l (a ∷ d) h = omega (arith, h [], met-part N n (λ p. l (a ∷ p)) d (λ p. h (a ∷ p)), suc-mul n N)

  section-zero : (g : List K → List K) (r : List K → List K → List K) (p : List K) → section F 0 g r p ≡ r [] p
  unfolding section
  section-zero g r p = rw (le-ltb (length p) 0 (omega arith))

  section-none : (n : ℕ) (g : List K → List K) (r : List K → List K → List K) → section F (suc n) g r [] ≡ g []
  unfolding section
  section-none n g r = rw (lt-ltb 0 (suc n) (omega arith))

  section-next : (n : ℕ) (g : List K → List K) (r : List K → List K → List K) (a : K) (p : List K) → section F (suc n) g r (a ∷ p)
      ≡ section F n (λ e. g (a ∷ e)) (λ t. r (a ∷ t)) p
  unfolding section
  section-next n g r a p = rw (ltb-suc (length p) n)

  met-section : (n : ℕ) (g : List K → List K) (r : List K → List K → List K) (d : List K) → met (section F n g r) d
      ≡ met g (take n d) + met (r (take n d)) (drop n d)
  met-section zero g r d = met-same (section F 0 g r) (r []) d (section-zero g r) ∙ sym (zero-add (met (r []) d))
  met-section (suc n) g r [] = refl
  met-section (suc n) g r (a ∷ d) = ap₂ (λ (x y : ℕ). x + y) (ap length (section-none n g r))
      (met-same (λ p. section F (suc n) g r (a ∷ p)) (section F n (λ e. g (a ∷ e)) (λ t. r (a ∷ t))) d (section-next n g r a)
      ∙ met-section n (λ e. g (a ∷ e)) (λ t. r (a ∷ t)) d)
      ∙ group (length (g [])) (met (λ e. g (a ∷ e)) (take n d)) (met (r (a ∷ take n d)) (drop n d))
    where
      group : (x y z : ℕ) → x + (y + z) ≡ x + y + z
      group x y z = omega arith

  met-within : (n m B C : ℕ) (g : List K → List K) (r : List K → List K → List K) (d : List K) → length d ≤ n + m
      → ((e : List K) → met g (take n e) ≤ B) → ((t e : List K) → length e ≤ m → met (r t) e ≤ C) → met (section F n g r) d ≤ B + C
  met-within n m B C g r d l h k = omega (arith, met-section n g r d, h d, k (take n d) (drop n d) (omega (arith, length-drop n d)))

  cond-most : (b : Bool) (u v : List K) (m n : ℕ) → length u ≤ m → length v ≤ n → length (cond b u v) ≤ cond b m n
  cond-most true u v m n h k = h
  cond-most false u v m n h k = k

  both_most : (b : Bool) (u v : List K) (n : ℕ) → length u ≤ n → length v ≤ n → length (cond b u v) ≤ n
  both_most true u v n h k = h
  both_most false u v n h k = k

  module _ (L : Laws F) where
    -- no alpha has a list where all differences are zero
    last_none : (c : K) (ds al : List K) → Zeros F ds → met (last_roots F c ds) al ≤ 0
    last_none c [] [] z = omega arith
    last_none c [] (a ∷ al) z = omega (arith, last_none c [] al z)
    last_none c (d ∷ ds) [] z = omega arith
    last_none c (d ∷ ds) (a ∷ al) z = omega (
      arith,
      none (all_zero F ds) (same d 𝟎) (same-zero F L d z.0),
      last_none (c ⊕ a ⊗ d) ds al
          z.1,
    )
      where
        none : (b t : Bool) → t ≡ true → length (cond b (cond t [] (roots (c ∷ d ∷ []))) []) ≤ 0
        none b true e = both_most b [] [] 0 (omega arith) (omega arith)
        none b false e = absurd (false≢true e)

    -- one alpha alone has a list
    last-met : (c : K) (ds al : List K) → met (last_roots F c ds) al ≤ 1
    last-met c [] [] = omega arith
    last-met c [] (a ∷ al) = omega (arith, last-met c [] al)
    last-met c (d ∷ ds) [] = omega arith
    last-met c (d ∷ ds) (a ∷ al) = go (all_zero F ds) refl (last-met (c ⊕ a ⊗ d) ds al)
      where
        go : (b : Bool) → all_zero F ds ≡ b → met (last_roots F (c ⊕ a ⊗ d) ds) al ≤ 1
            → length (cond b (slope_roots F c d) []) + met (last_roots F (c ⊕ a ⊗ d) ds) al ≤ 1
        go true e h = omega (arith, slope-few F L c d, last_none (c ⊕ a ⊗ d) ds al (zeros F L ds e))
        go false e h = omega arith

    pub alpha-met : (vs ts al : List K) → met (alpha_list F vs ts) al ≤ 1
    alpha-met vs ts al = last-met 𝟎 (diffs F vs ts) al

    module _ (s : ℕ) (R : Relation F) (xs ws : List (List K)) (w : List K) where
      abbrev tau_of : System F → List K → List K
      tau_of Y e = tau_list F (residues F Y (vectors F ws xs)) e

      tau-one : (Y : System F) (e : List K) → length (tau_of Y e) ≤ 1
      tau-one Y e = tau-few F L (residues F Y (vectors F ws xs)) e

      round : (Y : System F) (taus e : List K) (i : ℕ) → length (outer F s R xs ws w Y taus Y.log_rows e (elements_from F i 4 w)) ≤ 3
      round Y taus e i = outer-few F L s R xs ws w Y taus Y.log_rows e i

      abbrev inner_of : (sh rb rf al e : List K) → List K
      inner_of sh rb rf al e = bad_challenges F (table_rounds F (inner_cells F))
          (record { tops = 0; lows = suc R.log_half; cells = zip_inner F (combo F R rb rf al) (folded F R xs ws sh) }) e
          (elements_from F (8 * s + 4 * R.bin.log_rows + 4 * R.fld.log_rows + 6 + 3 * length e) 3 w)

      inner-two : (sh rb rf al e : List K) → length (inner_of sh rb rf al e) ≤ 2
      inner-two sh rb rf al e = bad-few F L s R xs ws w (inner_cells F) 2 (λ a b. omega arith)
          (record { tops = 0; lows = suc R.log_half; cells = zip_inner F (combo F R rb rf al) (folded F R xs ws sh) }) e
          (elements_from F (8 * s + 4 * R.bin.log_rows + 4 * R.fld.log_rows + 6 + 3 * length e) 3 w)
          (words-few F L s R xs ws w (8 * s + 4 * R.bin.log_rows + 4 * R.fld.log_rows + 6 + 3 * length e) 3)

      -- all lists met along one run, by the system followed
      met_by : (good : Bool) (d : List K) → length d ≤ draws s R.bin.log_rows R.fld.log_rows R.log_half
          → met (lists_of F s R xs ws w good) d ≤ (R.bin.log_rows + s) * cond good 0 1 +
          ((R.fld.log_rows + s) * cond good 1 0 + (s * 3 +
          (R.bin.log_rows * cond good 0 3 + (R.fld.log_rows * cond good 3 0 + (1 + suc R.log_half * 2)))))
      unfolding lists_of
      met_by good d h = met-within _ _ _ _ _ _ d h (λ d. met-part _ _ _ d λ e. cond-most good _ _ 0 1 (omega arith) (tau-one R.bin e))
          λ tb d h. met-within _ _ _ _ _ _ d h (λ d. met-part _ _ _ d λ e. cond-most good _ _ 1 0 (tau-one R.fld e) (omega arith))
          λ tf d h. met-within _ _ _ _ _ _ d h (λ d. met-part _ _ _ d λ e. both_most good _ _ 3 (round R.fld tf e (8 * length e + 4))
          (round R.bin tb e (8 * length e)))
          λ sh d h. met-within _ _ _ _ _ _ d h (λ d. met-part _ _ _ d λ e. cond-most good _ _ 0 3 (omega arith)
          (round R.bin tb (sh ++ e) (8 * s + 4 * length e)))
          λ rb d h. met-within _ _ _ _ _ _ d h (λ d. met-part _ _ _ d λ e. cond-most good _ _ 3 0
          (round R.fld tf (sh ++ e) (8 * s + 4 * R.bin.log_rows + 4 * length e)) (omega arith))
          λ rf d h. met-within _ _ _ _ _ _ d h (λ d. alpha-met (six_at F (8 * s + 4 * R.bin.log_rows + 4 * R.fld.log_rows) w)
          (true_terminals F R xs ws sh rb rf) (take 6 d))
          λ al d h. omega (arith, h, met-few 2 (inner_of sh rb rf al) d (inner-two sh rb rf al))

      -- all lists met along one run: 4 J + 1 + 2 log m, where 2 ^ J is the logins times the rows of the larger system and m is the columns
      pub met-lists : (d : List K) → length d ≤ draws s R.bin.log_rows R.fld.log_rows R.log_half
          → met (lists F s R xs ws w) d ≤ 4 * (s + max R.bin.log_rows R.fld.log_rows) + 1 + 2 * suc R.log_half
      met-lists d h = go (bin_good F R xs ws) (met (lists F s R xs ws w) d) R.bin.log_rows R.fld.log_rows R.log_half
          (met_by (bin_good F R xs ws) d h)
        where
          go : (good : Bool) (k b f m : ℕ) → k ≤ (b + s) * cond good 0 1 + ((f + s) * cond good 1 0 +
              (s * 3 + (b * cond good 0 3 + (f * cond good 3 0 + (1 + suc m * 2))))) → k ≤ 4 * (s + max b f) + 1 + 2 * suc m
          go true k b f m h = omega (arith, le-max_right b f)
          go false k b f m h = omega (arith, le-max_left b f)
