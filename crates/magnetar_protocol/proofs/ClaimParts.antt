-- The parts of the returned claims: they are true exactly where each segment value is the true value at the points of the draws.
-- Assumes nothing.
use mathlib.Core.Path.{◌≡◌, sym, ap, ◌∙◌}
use mathlib.Core.List.{List, ◌++◌}
use Prim.Native.Nat.{ℕ, ◌+◌, ◌-◌, ◌<◌}
use native.Mathlib.Omega.{arith}
use lib.ListN.{length, get_or, take, drop, length-append, length-reverse}
use lib.Seq.{take_at, drop_at, drop-drop}
use Rattle.magnetar_matrix.specs.Batch.{Relation, Batch, claim_value}
use Rattle.magnetar_layout.specs.Layout.{offset, local_vars}
use Rattle.magnetar_protocol.specs.Shape.{log_logins, log_cols}
use Rattle.magnetar_protocol.specs.Draws.{Draws, login_point, low_point}
use Rattle.magnetar_protocol.specs.RunSizes.{SizedRelation}
use Rattle.magnetar_protocol.specs.Run.{true_value, inst_of, low_of, values_of, ClaimsTrue}
use Rattle.magnetar_protocol.proofs.SizeFacts.{Cut, low_size}

-- three lists one behind the other
module _ (a l v : List ℕ) (s h : ℕ) (la : length a ≡ s) (ll : length l ≡ h) where
  first : take s (a ++ (l ++ v)) ≡ a
  first = take_at a (l ++ v) s la

  second : take h (drop s (a ++ (l ++ v))) ≡ l
  second = ap (take h) (drop_at a (l ++ v) s la) ∙ take_at l v h ll

  third : drop (s + h) (a ++ (l ++ v)) ≡ v
  third = sym (drop-drop h s (a ++ (l ++ v))) ∙ ap (drop h) (drop_at a (l ++ v) s la) ∙ drop_at l v h ll

module _ (r : Relation) (R : SizedRelation r) (D : Draws) (C : Cut r D) where
  inst-size : length (login_point D) ≡ log_logins r
  unfolding login_point
  inst-size = length-reverse D.shared ∙ C.shared

  module _ (v : List ℕ) where
    inst-is : inst_of r (login_point D ++ (low_point r D ++ v)) ≡ login_point D
    inst-is = first (login_point D) (low_point r D) v (log_logins r) (log_cols r - 1) inst-size (low_size r R D C)

    low-is : low_of r (login_point D ++ (low_point r D ++ v)) ≡ low_point r D
    low-is = second (login_point D) (low_point r D) v (log_logins r) (log_cols r - 1) inst-size (low_size r R D C)

    values-is : values_of r (login_point D ++ (low_point r D ++ v)) ≡ v
    values-is = third (login_point D) (low_point r D) v (log_logins r) (log_cols r - 1) inst-size (low_size r R D C)

    -- the sum that claim i is about
    sum_is : (b : Batch) (i : ℕ)
        → claim_value r.q b (inst_of r (login_point D ++ (low_point r D ++ v)))
        (take (local_vars r.lengths i) (low_of r (login_point D ++ (low_point r D ++ v)))) (offset r.lengths i) (get_or r.lengths i 0)
        ≡ true_value r b D i
    unfolding true_value
    sum_is b i = λ j. claim_value r.q b (inst-is j) (take (local_vars r.lengths i) (low-is j)) (offset r.lengths i)
        (get_or r.lengths i 0)

    pub true-values : (b : Batch) → ClaimsTrue r b (login_point D ++ (low_point r D ++ v)) → (i : ℕ) → i < length r.lengths
        → get_or v i 0 ≡ true_value r b D i
    true-values b t i h = ap (λ (l : List ℕ). get_or l i 0) (sym values-is) ∙ t i h ∙ sum_is b i

    pub values-true : (b : Batch) → ((i : ℕ) → i < length r.lengths → get_or v i 0 ≡ true_value r b D i)
        → ClaimsTrue r b (login_point D ++ (low_point r D ++ v))
    values-true b t i h = ap (λ (l : List ℕ). get_or l i 0) values-is ∙ t i h ∙ sym (sum_is b i)

    pub claims-length : length (login_point D ++ (low_point r D ++ v)) ≡ log_logins r + (log_cols r - 1) + length v
    claims-length = length-append (login_point D) (low_point r D ++ v) ∙ sums (length-append (low_point r D) v) inst-size (low_size r R D C)
      where
        sums : {t a l s h : ℕ} → t ≡ l + length v → a ≡ s → l ≡ h → a + t ≡ s + h + length v
        sums e f g = omega arith
