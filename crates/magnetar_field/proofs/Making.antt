-- A loop that stores f i at each index i of a list, the first one first.
-- Assumes nothing.
use Rattle.std.proofs.Common.{◌≡◌, ℕ, zero, suc, ◌+◌, ◌<◌, ◌≤◌, List, [], ◌∷◌, ◌++◌, length, get_or, drop, set, sym, refl, ap, ◌∙◌, le_of_suc-le-suc, add-one, arith}
use lib.Seq.{drop-nil}
use Rattle.magnetar_field.specs.Tabulate.{tabulate}

module _ {A : Type 0} where
  set_next : (f : ℕ → A) (i : ℕ) (a : List A) → i < length a → set (tabulate f i ++ drop i a) i (f i) ≡ tabulate f (suc i) ++ drop (suc i) a
  unfolding tabulate
  set_next f i [] h = absurd (omega arith)
  set_next f zero (x ∷ a) h = refl
  set_next f (suc i) (x ∷ a) h = ap (λ (l : List A). f 0 ∷ l) (set_next (λ j. f (suc j)) i a (le_of_suc-le-suc h))

  get-rest : (f : ℕ → A) (i k : ℕ) (a : List A) (d : A) → i ≤ k → get_or (tabulate f i ++ drop i a) k d ≡ get_or a k d
  unfolding tabulate
  get-rest f zero k a d h = refl
  get-rest f (suc i) zero a d h = absurd (omega arith)
  get-rest f (suc i) (suc k) [] d h =
      ap (λ (l : List A). get_or (tabulate (λ j. f (suc j)) i ++ l) k d) (sym (drop-nil {A = A} i)) ∙ get-rest (λ j. f (suc j)) i k [] d (le_of_suc-le-suc h)
  get-rest f (suc i) (suc k) (x ∷ a) d h = get-rest (λ j. f (suc j)) i k a d (le_of_suc-le-suc h)

-- the first i entries of b are made, and the rest are a's
pub record Made {A : Type 0} (f : ℕ → A) (a b : List A) (i : ℕ) : Type 0 where
  pub list : b ≡ tabulate f i ++ drop i a

pub made_none : {A : Type 0} (f : ℕ → A) (a : List A) → Made f a a 0
unfolding tabulate
made_none f a = record { list = refl }

-- what stands from i on is still a's
pub made-get : {A : Type 0} (f : ℕ → A) (a b : List A) (i k : ℕ) (d : A) → Made f a b i → i ≤ k → get_or b k d ≡ get_or a k d
made-get f a b i k d m h = rw m.list (get-rest f i k a d h)

pub made_more : {A : Type 0} (f : ℕ → A) (a b : List A) (i : ℕ) (v : A) → Made f a b i → i < length a → v ≡ f i → Made f a (set b i v) (i + 1)
made_more f a b i v m h e = record { list = rw (m.list, e, add-one) (set_next f i a h) }
