-- The honest proof is elements.
-- Assumes nothing.
use mathlib.Core.List.{List, [], ◌∷◌, ◌++◌}
use Prim.Native.Nat.{ℕ, zero, suc, ◌^◌, ◌<◌}
use lib.ListN.{length, get_or, take, drop}
use lib.Pow.{pow_pos}
use Rattle.magnetar_field.specs.Tabulate.{tabulate}
use Rattle.magnetar_multilinear.specs.Multilinear.{mle}
use Rattle.magnetar_field.proofs.Polynomial.{AllBelow}
use Rattle.magnetar_field.proofs.Product.{⊗-lt}
use Rattle.magnetar_field.proofs.Xor.{⊕-lt}
use Rattle.magnetar_sumcheck_verifier.specs.Messages.{inner_messages}
use Rattle.magnetar_sumcheck_verifier.proofs.Verifier.{MessagesBelow}
use Rattle.magnetar_sumcheck_verifier.proofs.Protocol.{outer_below, inner_below}
use Rattle.magnetar_matrix.specs.Sum.{sum_below}
use Rattle.magnetar_matrix.specs.Batch.{Relation, Batch, PublicColumns, claim_value}
use Rattle.magnetar_protocol.specs.Shape.{log_logins}
use Rattle.magnetar_protocol.specs.Draws.{Draws}
use Rattle.magnetar_protocol.specs.Checks.{combined}
use Rattle.magnetar_protocol.specs.Run.{true_value}
use Rattle.magnetar_protocol.specs.RunSizes.{Elements}
use Rattle.magnetar_protocol.specs.Prover.{joined, interleaved, outer_rounds, bin_rounds, fld_rounds, terminal_values, folded_z, true_values, honest_proof}
use Rattle.magnetar_protocol.proofs.Elements.{dot-lt}

-- ---- lists
pub elements-of : (l : List ℕ) → AllBelow (2 ^ 128) l → Elements l
elements-of [] h i = pow_pos 128
elements-of (x ∷ l) h zero = h.0
elements-of (x ∷ l) h (suc i) = elements-of l h.1 i

pub both : (s t : List ℕ) → AllBelow (2 ^ 128) s → AllBelow (2 ^ 128) t → AllBelow (2 ^ 128) (s ++ t)
both [] t h k = k
both (x ∷ s) t h k = (h.0, both s t h.1 k)

take_below : (n : ℕ) (ms : List (List ℕ)) → MessagesBelow ms → MessagesBelow (take n ms)
take_below zero ms h = tt
take_below (suc n) [] h = tt
take_below (suc n) (m ∷ ms) h = (h.0, take_below n ms h.1)

drop-below : (n : ℕ) (ms : List (List ℕ)) → MessagesBelow ms → MessagesBelow (drop n ms)
drop-below zero ms h = h
drop-below (suc n) [] h = tt
drop-below (suc n) (m ∷ ms) h = drop-below n ms h.1

pub joined-below : (ms : List (List ℕ)) → MessagesBelow ms → AllBelow (2 ^ 128) (joined ms)
unfolding joined
joined-below [] h = tt
joined-below (m ∷ ms) h = both m (joined ms) h.0 (joined-below ms h.1)

pub interleaved-below : (ms ns : List (List ℕ)) → MessagesBelow ms → MessagesBelow ns → AllBelow (2 ^ 128) (interleaved ms ns)
unfolding interleaved
interleaved-below [] ns h k = tt
interleaved-below (m ∷ ms) [] h k = tt
interleaved-below (m ∷ ms) (n ∷ ns) h k = both m (n ++ interleaved ms ns) h.0 (both n (interleaved ms ns) k.0 (interleaved-below ms ns h.1 k.1))

pub tabulate-below : (f : ℕ → ℕ) (n : ℕ) → ((i : ℕ) → f i < 2 ^ 128) → AllBelow (2 ^ 128) (tabulate f n)
unfolding tabulate
tabulate-below f zero h = tt
tabulate-below f (suc n) h = (h 0, tabulate-below (λ i. f (suc i)) n (λ i. h (suc i)))

-- ---- values
pub mle-lt : (t p : List ℕ) → mle t p < 2 ^ 128
unfolding mle
mle-lt t p = dot-lt t _

pub sum_lt : (n : ℕ) (f : ℕ → ℕ) → ((i : ℕ) → f i < 2 ^ 128) → sum_below n f < 2 ^ 128
unfolding sum_below
sum_lt zero f h = pow_pos 128
sum_lt (suc n) f h = ⊕-lt 128 (sum_below n f) (f n) (sum_lt n f h) (h n)

true-lt : (r : Relation) (b : Batch) (D : Draws) (i : ℕ) → true_value r b D i < 2 ^ 128
unfolding true_value claim_value
true-lt r b D i = sum_lt r.q _ (λ u. sum_lt (get_or r.lengths i 0) _ (λ k. ⊗-lt _ _))

module _ (r : Relation) (b : Batch) (x : PublicColumns) (D : Draws) where
  bin-below : MessagesBelow (bin_rounds r b x D)
  unfolding outer_rounds
  bin-below = outer_below _ (D.shared ++ D.row_bin)

  fld-below : MessagesBelow (fld_rounds r b x D)
  unfolding outer_rounds
  fld-below = outer_below _ (D.shared ++ D.row_fld)

  abbrev bin : List (List ℕ)
  bin = bin_rounds r b x D

  abbrev fld : List (List ℕ)
  fld = fld_rounds r b x D

  -- from each part on
  end_below : AllBelow (2 ^ 128) (mle (folded_z r b x D) D.inner ∷ true_values r b D)
  unfolding true_values
  end_below = (mle-lt (folded_z r b x D) D.inner, tabulate-below (true_value r b D) (length r.lengths) (true-lt r b D))

  inner-on : AllBelow (2 ^ 128) (joined (inner_messages (combined r D) (folded_z r b x D) D.inner)
      ++ (mle (folded_z r b x D) D.inner ∷ true_values r b D))
  inner-on =
      both (joined (inner_messages (combined r D) (folded_z r b x D) D.inner)) (mle (folded_z r b x D) D.inner ∷ true_values r b D)
      (joined-below (inner_messages (combined r D) (folded_z r b x D) D.inner)
      (inner_below (combined r D) (folded_z r b x D) D.inner)) end_below

  terminals-below : AllBelow (2 ^ 128) (terminal_values r b x D)
  unfolding terminal_values
  terminals-below = (mle-lt _ _, (mle-lt _ _, (mle-lt _ _, (mle-lt _ _, (mle-lt _ _, (mle-lt _ _, tt))))))

  terminals-on : AllBelow (2 ^ 128) (terminal_values r b x D
      ++ (joined (inner_messages (combined r D) (folded_z r b x D) D.inner) ++ (mle (folded_z r b x D) D.inner ∷ true_values r b D)))
  terminals-on = both (terminal_values r b x D) (joined (inner_messages (combined r D) (folded_z r b x D) D.inner)
      ++ (mle (folded_z r b x D) D.inner ∷ true_values r b D)) terminals-below inner-on

  pub honest-elements : Elements (honest_proof r b x D)
  unfolding honest_proof
  honest-elements =
      elements-of (honest_proof r b x D)
      (both (interleaved (take (log_logins r) bin) (take (log_logins r) fld))
      (joined (drop (log_logins r) bin) ++ (joined (drop (log_logins r) fld) ++ later))
      (interleaved-below (take (log_logins r) bin) (take (log_logins r) fld) (take_below (log_logins r) bin bin-below)
      (take_below (log_logins r) fld fld-below))
      (both (joined (drop (log_logins r) bin)) (joined (drop (log_logins r) fld) ++ later)
      (joined-below (drop (log_logins r) bin) (drop-below (log_logins r) bin bin-below))
      (both (joined (drop (log_logins r) fld)) later (joined-below (drop (log_logins r) fld)
      (drop-below (log_logins r) fld fld-below)) terminals-on)))
    where
      later : List ℕ
      later = terminal_values r b x D ++ (joined (inner_messages (combined r D) (folded_z r b x D) D.inner)
          ++ (mle (folded_z r b x D) D.inner ∷ true_values r b D))
