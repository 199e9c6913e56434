-- The list of a draw uses no element of the proof that was not absorbed before that draw.
-- Assumes nothing: the field and its laws are parameters.
use mathlib.Core.Path.{◌≡◌, refl, ap, ap₂, ◌∙◌}
use mathlib.Core.Bool.{Bool, true, false, cond}
use mathlib.Core.List.{List, [], ◌∷◌, ◌++◌}
use Prim.Native.Nat.{ℕ, zero, suc, ◌+◌, ◌-◌, ◌*◌, ◌≤◌, ◌<◌, min}
use native.Mathlib.Omega.{arith}
use lib.Dec.{ltb}
use lib.ListN.{length, take, drop, length-drop}
use lib.Seq.{take-take, get_or-take}
use borrow.Author.Tests.{ltb-true, ltb-false}
use Rattle.magnetar_theory.specs.Field.{Field}
use Rattle.magnetar_theory.specs.SumCheck.{bad_challenges}
use Rattle.magnetar_theory.specs.Table.{table_rounds}
use Rattle.magnetar_theory.specs.Cells.{inner_cells}
use Rattle.magnetar_theory.specs.Alpha.{alpha_list}
use Rattle.magnetar_theory.specs.Inner.{zip_inner}
use Rattle.magnetar_theory.specs.Run.{Relation, bin_good, true_terminals, combo, folded}
use Rattle.magnetar_theory.specs.Lists.{section, elements_from, six_at, lists, lists_of, outer}
use Rattle.magnetar_theory.specs.Absorbed.{absorbed_after, absorbed_count}

at-shared : (s g k i : ℕ) → i < s → k ≡ suc i → 8 * i + 8 ≤ absorbed_after s g k
at-shared s g k i h e = some (4 * min g (k - s)) (6 * min 1 (k - s - g)) (3 * (k - s - g - 6)) part
  where
    part : 8 * i + 8 ≤ 8 * min s k
    part = omega arith

    some : (b c d : ℕ) → 8 * i + 8 ≤ 8 * min s k → 8 * i + 8 ≤ 8 * min s k + b + c + d
    some b c d h = omega arith

at_row : (s g k i : ℕ) → i < g → k ≡ s + suc i → 8 * s + 4 * i + 4 ≤ absorbed_after s g k
at_row s g k i h e = some (6 * min 1 (k - s - g)) (3 * (k - s - g - 6)) part
  where
    part : 8 * s + 4 * i + 4 ≤ 8 * min s k + 4 * min g (k - s)
    part = omega arith

    some : (c d : ℕ) → 8 * s + 4 * i + 4 ≤ 8 * min s k + 4 * min g (k - s) → 8 * s + 4 * i + 4 ≤ 8 * min s k + 4 * min g (k - s) + c + d
    some c d h = omega arith

at-alpha : (s g k : ℕ) → s + g < k → 8 * s + 4 * g + 6 ≤ absorbed_after s g k
at-alpha s g k h = omega (arith, first, second, third)
  where
    first : min s k ≡ s
    first = omega arith

    second : min g (k - s) ≡ g
    second = omega arith

    third : min 1 (k - s - g) ≡ 1
    third = omega arith

at_inner : (s g k i : ℕ) → k ≡ s + g + 6 + suc i → 8 * s + 4 * g + 6 + 3 * i + 3 ≤ absorbed_after s g k
at_inner s g k i h = omega (arith, first, second, third, fourth)
  where
    first : min s k ≡ s
    first = omega arith

    second : min g (k - s) ≡ g
    second = omega arith

    third : min 1 (k - s - g) ≡ 1
    third = omega arith

    fourth : k - s - g - 6 ≡ suc i
    fourth = omega arith

module _ (F : Field) where
  open F use {K, 𝟎, 𝟏, ◌⊕◌, ◌⊗◌}

  words_take : (i n m : ℕ) (w : List K) → i + n ≤ m → elements_from F i n (take m w) ≡ elements_from F i n w
  words_take zero n m w h = take-take n m w (omega arith)
  words_take (suc i) n zero w h = absurd (omega arith)
  words_take (suc i) n (suc m) [] h = refl
  words_take (suc i) n (suc m) (x ∷ w) h = words_take i n m w (omega arith)

  six-take : (i m : ℕ) (w : List K) → i + 6 ≤ m → six_at F i (take m w) ≡ six_at F i w
  six-take i m w h = λ j. get_or-take m w i 𝟎 a0 j ∷ get_or-take m w (i + 1) 𝟎 a1 j ∷ get_or-take m w (i + 2) 𝟎 a2 j ∷ get_or-take m w
      (i + 3) 𝟎 a3 j ∷ get_or-take m w (i + 4) 𝟎 a4 j ∷ get_or-take m w (i + 5) 𝟎 a5 j ∷ []
    where
      a0 : i < m
      a0 = omega arith

      a1 : i + 1 < m
      a1 = omega arith

      a2 : i + 2 < m
      a2 = omega arith

      a3 : i + 3 < m
      a3 = omega arith

      a4 : i + 4 < m
      a4 = omega arith

      a5 : i + 5 < m
      a5 = omega arith

  section-same : (n : ℕ) (g g' : List K → List K) (r r' : List K → List K → List K) (p : List K) → (length p < n → g p ≡ g' p)
      → (n ≤ length p → r (take n p) (drop n p) ≡ r' (take n p) (drop n p)) → section F n g r p ≡ section F n g' r' p
  unfolding section
  section-same n g g' r r' p h k = go (ltb (length p) n) refl
    where
      go : (b : Bool) → ltb (length p) n ≡ b → cond b (g p) (r (take n p) (drop n p)) ≡ cond b (g' p) (r' (take n p) (drop n p))
      go true e = h (ltb-true (length p) n e)
      go false e = k (ltb-false (length p) n e)

  words-absorbed : (i n B m : ℕ) (w : List K) → i + n ≤ B → B ≤ m → elements_from F i n (take m w) ≡ elements_from F i n w
  words-absorbed i n B m w h k = words_take i n m w (omega arith)

  left : (n : ℕ) (p : List K) → n ≤ length p → length p ≡ n + length (drop n p)
  left n p h = omega (arith, length-drop n p)

  module _ (s : ℕ) (R : Relation F) (xs ws : List (List K)) (w : List K) where
    -- with the parts that are over counted off
    module _ (p : List K) where
      abbrev p₁ : List K
      p₁ = drop (R.bin.log_rows + s) p

      abbrev p₂ : List K
      p₂ = drop (R.fld.log_rows + s) p₁

      abbrev p₃ : List K
      p₃ = drop s p₂

      abbrev p₄ : List K
      p₄ = drop R.bin.log_rows p₃

      abbrev p₅ : List K
      p₅ = drop R.fld.log_rows p₄

      abbrev p₆ : List K
      p₆ = drop 6 p₅

      abbrev after : ℕ
      after = suc (length p) - (R.bin.log_rows + s + (R.fld.log_rows + s))

      after-tau : R.bin.log_rows + s ≤ length p → R.fld.log_rows + s ≤ length p₁ → after ≡ suc (length p₂)
      after-tau h₁ h₂ = count (R.bin.log_rows + s) (R.fld.log_rows + s) (length p) (length p₁) (length p₂)
          (left (R.bin.log_rows + s) p h₁) (left (R.fld.log_rows + s) p₁ h₂)
        where
          count : (a b n n₁ n₂ : ℕ) → n ≡ a + n₁ → n₁ ≡ b + n₂ → suc n - (a + b) ≡ suc n₂
          count a b n n₁ n₂ h k = omega arith

    -- the list of a draw uses no element that was not absorbed before it
    pub absorbed-lists : (p : List K) → lists F s R xs ws (take (absorbed_count s R.bin.log_rows R.fld.log_rows (length p)) w) p
        ≡ lists F s R xs ws w p
    unfolding lists_of outer
    absorbed-lists p = section-same _ _ _ _ _ p (λ _. refl)
        λ h₁. section-same _ _ _ _ _ (p₁ p) (λ _. refl)
        λ h₂. section-same _ _ _ _ _ (p₂ p) (λ q. ap₂
        (λ (m₁ m₂ : List K). cond (bin_good F R xs ws) (outer F s R xs ws w R.fld (take (R.fld.log_rows + s) (p₁ p)) R.fld.log_rows
        (p₂ p) m₁) (outer F s R xs ws w R.bin (take (R.bin.log_rows + s) p) R.bin.log_rows (p₂ p) m₂))
        (words-absorbed (8 * length (p₂ p) + 4) 4 (8 * length (p₂ p) + 8) H w (omega arith)
        (at-shared s g (after p) (length (p₂ p)) q (after-tau p h₁ h₂)))
        (words-absorbed (8 * length (p₂ p)) 4 (8 * length (p₂ p) + 8) H w (omega arith)
        (at-shared s g (after p) (length (p₂ p)) q (after-tau p h₁ h₂))))
        λ h₃. section-same _ _ _ _ _ (p₃ p) (λ q. ap (λ (m : List K). cond (bin_good F R xs ws) []
        (outer F s R xs ws w R.bin (take (R.bin.log_rows + s) p) R.bin.log_rows (take s (p₂ p) ++ p₃ p) m))
        (words-absorbed (8 * s + 4 * length (p₃ p)) 4 (8 * s + 4 * length (p₃ p) + 4) H w (omega arith)
        (at_row s g (after p) (length (p₃ p)) (omega arith) (after-tau p h₁ h₂ ∙ omega (arith, left s (p₂ p) h₃)))))
        λ h₄. section-same _ _ _ _ _ (p₄ p) (λ q. ap (λ (m : List K). cond (bin_good F R xs ws)
        (outer F s R xs ws w R.fld (take (R.fld.log_rows + s) (p₁ p)) R.fld.log_rows (take s (p₂ p) ++ p₄ p) m) [])
        (words-absorbed (8 * s + 4 * R.bin.log_rows + 4 * length (p₄ p)) 4 (8 * s + 4 * (R.bin.log_rows + length (p₄ p)) + 4) H w
        (omega arith) (at_row s g (after p) (R.bin.log_rows + length (p₄ p)) (omega arith)
        (after-tau p h₁ h₂ ∙ omega (arith, left s (p₂ p) h₃, left R.bin.log_rows (p₃ p) h₄)))))
        λ h₅. section-same _ _ _ _ _ (p₅ p) (λ q. ap (λ (t : List K). alpha_list F t
        (true_terminals F R xs ws (take s (p₂ p)) (take R.bin.log_rows (p₃ p)) (take R.fld.log_rows (p₄ p))) (p₅ p))
        (six-take (8 * s + 4 * R.bin.log_rows + 4 * R.fld.log_rows) H w
        (at_most (at-alpha s g (after p) (more (after p) (length (p₂ p)) (length (p₃ p)) (length (p₄ p)) (length (p₅ p))
        (after-tau p h₁ h₂) (left s (p₂ p) h₃) (left R.bin.log_rows (p₃ p) h₄) (left R.fld.log_rows (p₄ p) h₅))))))
        λ h₆. ap (bad_challenges F (table_rounds F (inner_cells F))
        (record {
          tops = 0;
          lows = suc R.log_half;
          cells = zip_inner F
              (combo F R (take R.bin.log_rows (p₃ p)) (take R.fld.log_rows (p₄ p)) (take 6 (p₅ p)))
              (folded F R xs ws (take s (p₂ p)));
        }) (p₆ p))
        (words-absorbed (8 * s + 4 * R.bin.log_rows + 4 * R.fld.log_rows + 6 + 3 * length (p₆ p)) 3
        (8 * s + 4 * (R.bin.log_rows + R.fld.log_rows) + 6 + 3 * length (p₆ p) + 3) H w (omega arith)
        (at_inner s g (after p) (length (p₆ p)) (last (after p) (length (p₂ p)) (length (p₃ p)) (length (p₄ p)) (length (p₅ p))
        (length (p₆ p)) (after-tau p h₁ h₂) (left s (p₂ p) h₃) (left R.bin.log_rows (p₃ p) h₄) (left R.fld.log_rows (p₄ p) h₅)
        (left 6 (p₅ p) h₆))))
      where
        g : ℕ
        g = R.bin.log_rows + R.fld.log_rows

        H : ℕ
        H = absorbed_count s R.bin.log_rows R.fld.log_rows (length p)

        at_most : 8 * s + 4 * (R.bin.log_rows + R.fld.log_rows) + 6 ≤ H → 8 * s + 4 * R.bin.log_rows + 4 * R.fld.log_rows + 6 ≤ H
        at_most h = same H h
          where
            same : (m : ℕ) → 8 * s + 4 * (R.bin.log_rows + R.fld.log_rows) + 6 ≤ m
                → 8 * s + 4 * R.bin.log_rows + 4 * R.fld.log_rows + 6 ≤ m
            same m h = omega arith

        more : (a n₂ n₃ n₄ n₅ : ℕ) → a ≡ suc n₂ → n₂ ≡ s + n₃ → n₃ ≡ R.bin.log_rows + n₄ → n₄ ≡ R.fld.log_rows + n₅
            → s + (R.bin.log_rows + R.fld.log_rows) < a
        more a n₂ n₃ n₄ n₅ h₁ h₂ h₃ h₄ = omega arith

        last : (a n₂ n₃ n₄ n₅ n₆ : ℕ) → a ≡ suc n₂ → n₂ ≡ s + n₃ → n₃ ≡ R.bin.log_rows + n₄ → n₄ ≡ R.fld.log_rows + n₅ → n₅ ≡ 6 + n₆ → a
            ≡ s + (R.bin.log_rows + R.fld.log_rows) + 6 + suc n₆
        last a n₂ n₃ n₄ n₅ n₆ h₁ h₂ h₃ h₄ h₅ = omega arith
