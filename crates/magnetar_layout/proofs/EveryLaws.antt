-- The test of each member of a list: as std has it, in a loop, and what a passed list says.
-- Assumes nothing.
use mathlib.Core.Path.{◌≡◌, refl, ◌∙◌}
use mathlib.Core.Bool.{Bool, true, false, ◌&&◌, false≢true}
use mathlib.Core.List.{List, [], ◌∷◌}
use Prim.Native.Nat.{ℕ, zero, suc, ◌+◌, ◌≤◌, ◌<◌}
use native.Mathlib.Nat.{le_of_suc-le-suc}
use native.Mathlib.Numerals.{add-one}
use native.Mathlib.Omega.{arith}
use lib.ListN.{length, get_or, drop, drop_of_length-le}
use lib.Seq.{drop-cons}
use Rattle.std.specs.List.{list_all}
use Rattle.magnetar_layout.specs.Every.{every}

-- std's word for it
pub every-list_all : {A : Type 0} (p : A → Bool) (s : List A) → every p s ≡ list_all p s
unfolding every
every-list_all p [] = refl
every-list_all p (x ∷ s) = rw (every-list_all p s)

-- what is left of the list decides
abbrev pub Left : {A : Type 0} → (A → Bool) → List A → ℕ → Type 0
Left p s i = every p (drop i s) ≡ every p s

module _ {A : Type 0} (p : A → Bool) (d : A) (s : List A) (i : ℕ) where
  pub every_more : i < length s → p (get_or s i d) ≡ true → Left p s i → Left p s (i + 1)
  unfolding every
  every_more h t l = step ∙ l
    where
      step : every p (drop (i + 1) s) ≡ every p (drop i s)
      step = rw (add-one, drop-cons s i d, t)

  pub every-not : i < length s → p (get_or s i d) ≡ false → Left p s i → false ≡ every p s
  unfolding every
  every-not h t l = step ∙ l
    where
      step : false ≡ every p (drop i s)
      step = rw (drop-cons s i d, t)

  pub every-end : length s ≤ i → Left p s i → true ≡ every p s
  unfolding every
  every-end h l = step ∙ l
    where
      step : true ≡ every p (drop i s)
      step = rw (drop_of_length-le s h)

-- ---- what a passed list says of its members
pub both : (a b : Bool) → (a && b) ≡ true → (a ≡ true) × (b ≡ true)
both true b e = (refl, e)
both false b e = absurd (false≢true e)

module _ {A : Type 0} (p : A → Bool) where
  pub every-tail : (x : A) (s : List A) → every p (x ∷ s) ≡ true → every p s ≡ true
  unfolding every
  every-tail x s e = (both (p x) (every p s) e).1

  pub every_drop : (i : ℕ) (s : List A) → every p s ≡ true → every p (drop i s) ≡ true
  every_drop zero s e = e
  every_drop (suc i) [] e = e
  every_drop (suc i) (x ∷ s) e = every_drop i s (every-tail x s e)

  pub every-at : (d : A) (s : List A) (i : ℕ) → i < length s → every p s ≡ true → p (get_or s i d) ≡ true
  unfolding every
  every-at d [] i h e = absurd (omega arith)
  every-at d (x ∷ s) zero h e = (both (p x) (every p s) e).0
  every-at d (x ∷ s) (suc i) h e = every-at d s i (le_of_suc-le-suc h) (both (p x) (every p s) e).1
