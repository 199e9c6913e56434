-- A run cut at the alphas: the draws of its two parts, and what is known before the inner rounds.
-- Assumes nothing.
use mathlib.Core.Path.{◌≡◌, ap, ◌∙◌}
use mathlib.Core.List.{List, ◌++◌}
use Prim.Native.Nat.{ℕ, ◌+◌, ◌-◌, ◌≤◌}
use native.Mathlib.Omega.{arith}
use lib.ListN.{length, take, drop, length-drop}
use lib.Seq.{take-append-le, drop-append-le, take_all, drop_at}
use Rattle.magnetar_matrix.specs.Batch.{Relation}
use Rattle.magnetar_protocol.specs.Shape.{log_logins, log_bin, log_fld, log_cols}
use Rattle.magnetar_protocol.specs.Draws.{draw_count, draws_of, login_point}
use Rattle.magnetar_protocol.specs.Checks.{combined}

module _ (r : Relation) where
  -- the draws d up to the alphas, and those of the inner rounds e
  module _ (d e : List ℕ) (hd : length d ≡ draw_count r - log_cols r) (he : length e ≡ log_cols r) where
    front : (a n : ℕ) → a + n ≤ length d → take n (drop a (d ++ e)) ≡ take n (drop a d)
    front a n h = ap (take n) (drop-append-le a d e (omega arith)) ∙ take-append-le n (drop a d) e (rw length-drop (omega arith))

    pub draws-split : draws_of r (d ++ e) ≡ record {
      tau_bin = (draws_of r d).tau_bin;
      tau_fld = (draws_of r d).tau_fld;
      shared = (draws_of r d).shared;
      row_bin = (draws_of r d).row_bin;
      row_fld = (draws_of r d).row_fld;
      alphas = (draws_of r d).alphas;
      inner = e;
    }
    unfolding draws_of
    draws-split = λ j. record {
      tau_bin = front 0 (log_logins r + log_bin r) (omega arith) j;
      tau_fld = front (log_logins r + log_bin r) (log_logins r + log_fld r) (omega arith) j;
      shared = front (log_logins r + log_bin r + (log_logins r + log_fld r)) (log_logins r) (omega arith) j;
      row_bin = front (log_logins r + log_bin r + (log_logins r + log_fld r) + log_logins r) (log_bin r) (omega arith) j;
      row_fld = front (log_logins r + log_bin r + (log_logins r + log_fld r) + log_logins r + log_bin r) (log_fld r) (omega arith) j;
      alphas = front (log_logins r + log_bin r + (log_logins r + log_fld r) + log_logins r + log_bin r + log_fld r) 6 (omega arith) j;
      inner = (ap (take (log_cols r)) (drop_at d e (log_logins r + log_bin r + (log_logins r + log_fld r) + log_logins r + log_bin r + log_fld r + 6) (omega arith)) ∙ take_all (log_cols r) e (omega arith)) j;
    }

    -- the combined table and the point of the logins are known before the inner rounds
    pub combined-split : combined r (draws_of r (d ++ e)) ≡ combined r (draws_of r d)
    unfolding combined
    combined-split = ap (combined r) draws-split

    pub logins-split : login_point (draws_of r (d ++ e)) ≡ login_point (draws_of r d)
    unfolding login_point
    logins-split = ap login_point draws-split
