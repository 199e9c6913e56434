-- The theory's pairs of cells, entry by entry.
-- Assumes nothing.
use mathlib.Core.Path.{◌≡◌, refl, sym, ap, ap₂, ◌∙◌}
use mathlib.Core.List.{List, [], ◌∷◌}
use Prim.Native.Nat.{ℕ, zero, suc, ◌+◌, ◌^◌, ◌<◌}
use native.Mathlib.Nat.{two-pow-succ, pow-zero}
use native.Mathlib.Omega.{arith}
use lib.ListN.{length, get_or, take, drop, length-take, length-drop}
use lib.Seq.{get_or-take, get_or-drop}
use Rattle.magnetar_field.proofs.Tabulation.{tabulate-ext}
use Rattle.magnetar_field.specs.Tabulate.{tabulate}
use Rattle.magnetar_multilinear.specs.Multilinear.{insert_zero}
use Rattle.magnetar_theory.specs.Field.{Field}
use Rattle.magnetar_theory.specs.Table.{Cells, low_pairs, pair_up, pairs}
use Rattle.magnetar_sumcheck_verifier.specs.Order.{next_var}
use Rattle.magnetar_sumcheck_verifier.proofs.Tables.{insert-low, insert-top}

pub next-high : (s n : ℕ) → next_var (suc s) (suc n) ≡ n
unfolding next_var
next-high s n = omega arith

-- of n variables that are left s are high ones and b low ones; where no high ones are left, nothing is said of b
abbrev pub Left : ℕ → ℕ → ℕ → Type 0
Left zero b n = Unit {0}
Left (suc s) b n = suc s + b ≡ n

-- the place of pair i's entry where the next variable is 1
pub next_low : (i : ℕ) → insert_zero 0 i + 2 ^ 0 ≡ suc (i + i)
next_low i = rw (insert-low i, pow-zero) (omega arith)

pub next-top : (n i : ℕ) → i < 2 ^ n → insert_zero n i + 2 ^ n ≡ 2 ^ n + i
next-top n i h = rw (insert-top n i h) (omega arith)

module _ {A B : Type 0} (d : A) (f : A → A → B) where
  -- what f makes of the pair i of a table's entries that differ in variable v
  abbrev pub pair_at : ℕ → List A → ℕ → B
  pair_at v t i = f (get_or t (insert_zero v i) d) (get_or t (insert_zero v i + 2 ^ v) d)

  abbrev pub by_low : List A → ℕ → B
  by_low t i = f (get_or t (i + i) d) (get_or t (suc (i + i)) d)

  shift : (x y : A) (t : List A) (i : ℕ) → by_low (x ∷ y ∷ t) (suc i) ≡ by_low t i
  shift x y t i = ap (λ (k : ℕ). f (get_or (x ∷ y ∷ t) k d) (get_or (x ∷ y ∷ t) (suc k) d)) two
    where
      two : suc i + suc i ≡ suc (suc (i + i))
      two = omega arith

  pub low-cons : (x y : A) (t : List A) (n : ℕ) → tabulate (by_low (x ∷ y ∷ t)) (suc n) ≡ f x y ∷ tabulate (by_low t) n
  unfolding tabulate
  low-cons x y t n = ap (λ (l : List B). f x y ∷ l) (tabulate-ext (λ i. by_low (x ∷ y ∷ t) (suc i)) (by_low t) n (λ i h. shift x y t i))

  pub by-low : (t : List A) (n : ℕ) → tabulate (pair_at 0 t) n ≡ tabulate (by_low t) n
  by-low t n = tabulate-ext (pair_at 0 t) (by_low t) n (λ i h. ap₂ (λ (j k : ℕ). f (get_or t j d) (get_or t k d)) (insert-low i) (next_low i))

  abbrev pub by_two : List A → List A → ℕ → B
  by_two s t i = f (get_or s i d) (get_or t i d)

  pub by-top : (t : List A) (n : ℕ) → length t ≡ 2 ^ suc n → tabulate (pair_at n t) (2 ^ n)
      ≡ tabulate (by_two (take (2 ^ n) t) (drop (2 ^ n) t)) (2 ^ n)
  by-top t n l = tabulate-ext (pair_at n t) (by_two (take (2 ^ n) t) (drop (2 ^ n) t)) (2 ^ n)
      (λ i h. ap₂ f (ap (λ (j : ℕ). get_or t j d) (insert-top n i h) ∙ sym (get_or-take (2 ^ n) t i d h))
      (ap (λ (j : ℕ). get_or t j d) (next-top n i h) ∙ sym (get_or-drop (2 ^ n) t i d)))

module _ {A : Type 0} where
  half-take : (t : List A) (n : ℕ) → length t ≡ 2 ^ suc n → length (take (2 ^ n) t) ≡ 2 ^ n
  half-take t n l = omega (arith, length-take (2 ^ n) t, two-pow-succ n)

  half-drop : (t : List A) (n : ℕ) → length t ≡ 2 ^ suc n → length (drop (2 ^ n) t) ≡ 2 ^ n
  half-drop t n l = omega (arith, length-drop (2 ^ n) t, two-pow-succ n)

module _ (F : Field) (X : Cells F) where
  open X use {C, none}

  low-pairs : (t : List C) (n : ℕ) → length t ≡ n + n → low_pairs F X t ≡ tabulate (by_low none (λ (x y : C). (x, y)) t) n
  unfolding tabulate
  low-pairs [] zero l = refl
  low-pairs [] (suc n) l = absurd (omega arith)
  low-pairs (x ∷ []) zero l = absurd (omega arith)
  low-pairs (x ∷ []) (suc n) l = absurd (omega arith)
  low-pairs (x ∷ y ∷ t) zero l = absurd (omega arith)
  low-pairs (x ∷ y ∷ t) (suc n) l = ap (λ (r : List (C × C)). (x, y) ∷ r) (low-pairs t n (omega arith))
      ∙ sym (low-cons none (λ (x y : C). (x, y)) x y t n)

  up-pairs : (s t : List C) (n : ℕ) → length s ≡ n → length t ≡ n → pair_up F X s t ≡ tabulate (by_two none (λ (x y : C). (x, y)) s t) n
  unfolding tabulate
  up-pairs [] [] zero l k = refl
  up-pairs [] [] (suc n) l k = absurd (omega arith)
  up-pairs [] (y ∷ t) zero l k = absurd (omega arith)
  up-pairs [] (y ∷ t) (suc n) l k = absurd (omega arith)
  up-pairs (x ∷ s) [] zero l k = absurd (omega arith)
  up-pairs (x ∷ s) [] (suc n) l k = absurd (omega arith)
  up-pairs (x ∷ s) (y ∷ t) zero l k = absurd (omega arith)
  up-pairs (x ∷ s) (y ∷ t) (suc n) l k = ap (λ (r : List (C × C)). (x, y) ∷ r) (up-pairs s t n (omega arith) (omega arith))

  -- the pairs of the next variable, of suc n that are left
  pub pairs-are : (s b n : ℕ) (t : List C) → Left s b (suc n) → length t ≡ 2 ^ suc n
      → pairs F X s b t ≡ tabulate (pair_at none (λ (x y : C). (x, y)) (next_var s (suc n)) t) (2 ^ n)
  unfolding next_var
  pairs-are zero b n t e l = low-pairs t (2 ^ n) (l ∙ two-pow-succ n) ∙ sym (by-low none (λ (x y : C). (x, y)) t (2 ^ n))
  pairs-are (suc s) b n t e l =
      ap (λ (k : ℕ). pair_up F X (take (2 ^ k) t) (drop (2 ^ k) t)) same
      ∙ up-pairs (take (2 ^ n) t) (drop (2 ^ n) t) (2 ^ n) (half-take t n l) (half-drop t n l)
      ∙ sym (by-top none (λ (x y : C). (x, y)) t n l)
      ∙ ap (λ (v : ℕ). tabulate (pair_at none (λ (x y : C). (x, y)) v t) (2 ^ n)) (sym (next-high s n))
    where
      same : s + b ≡ n
      same = omega arith
