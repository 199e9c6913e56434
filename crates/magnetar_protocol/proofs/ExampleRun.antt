-- The sizes, goodness and layout of the second example: what the two theorems ask for can be had, and both are applied to it.
-- Assumes nothing.
use mathlib.Core.Path.{◌≡◌, refl, sym, subst}
use mathlib.Core.Bool.{false≢true}
use mathlib.Core.List.{[], ◌∷◌}
use mathlib.Core.Logic.{◌⊎◌}
use Prim.Native.Nat.{ℕ, zero, suc, ◌^◌, ◌<◌}
use native.Mathlib.Omega.{arith}
use lib.Dec.{lit<, lit≤}
use lib.ListN.{length, get_or}
use Rattle.magnetar_field.specs.Gf128.{◌⊕◌, ◌⊗◌, sum_times, times_x}
use Rattle.magnetar_field.specs.Sizes.{log₂, halvings}
use Rattle.magnetar_layout.specs.Every.{every}
use Rattle.magnetar_matrix.specs.Matrix.{sum_over, row_total, share, times_at}
use Rattle.magnetar_matrix.specs.Batch.{public_columns, bit_of, assignment, Satisfied, NoBitOutside, Good}
use Rattle.magnetar_layout.specs.Layout.{next_multiple, offsets_from, offsets, end_from, layout_end, is_length, within, outside}
use Rattle.magnetar_protocol.specs.Run.{ClaimsTrue}
use Rattle.magnetar_protocol.specs.RunSizes.{SizedRelation, SizedBatch, SizedPublic, SizedRun}
use Rattle.magnetar_protocol.specs.Soundness.{BadDraw}
use Rattle.magnetar_protocol.specs.Prover.{prover_proof, CompleteRun}
use Rattle.magnetar_protocol.proofs.HonestBelow.{elements-of}
use Rattle.magnetar_protocol.proofs.Soundness.{soundness}
use Rattle.magnetar_protocol.proofs.Completeness.{prover-sized, completeness}
use Rattle.magnetar_protocol.proofs.Examples.{small, small_batch, small_columns, exchanged, small_draws}

-- ---- sizes
relation : SizedRelation small
unfolding log₂ halvings every is_length layout_end end_from next_multiple
relation = record {
  columns = record { low = lit≤ tt; high = lit≤ tt; power = refl };
  logins = record { low = lit≤ tt; high = lit≤ tt; power = refl };
  bin = record {
    rows = record { low = lit≤ tt; high = lit≤ tt; power = refl };
    total = lit≤ tt;
    a = record { rows = refl; cols = refl; few = lit≤ tt; inside = refl };
    b = record { rows = refl; cols = refl; few = lit≤ tt; inside = refl };
    c = record { rows = refl; cols = refl; few = lit≤ tt; inside = refl };
  };
  fld = record {
    rows = record { low = lit≤ tt; high = lit≤ tt; power = refl };
    total = lit≤ tt;
    a = record { rows = refl; cols = refl; few = lit≤ tt; inside = refl };
    b = record { rows = refl; cols = refl; few = lit≤ tt; inside = refl };
    c = record { rows = refl; cols = refl; few = lit≤ tt; inside = refl };
  };
  layout = record { small = lit≤ tt; power = refl; lengths = refl; ends = lit≤ tt };
  segments = lit≤ tt;
}

batch : SizedBatch small small_batch
batch = record { logins = refl; columns = columns; bits = bits }
  where
    columns : (u : ℕ) → u < 2 → length (get_or small_batch u []) ≡ 2
    columns zero h = refl
    columns (suc zero) h = refl
    columns (suc (suc u)) h = absurd (omega arith)

    bits : (u y : ℕ) → bit_of small_batch u y < 2
    bits u y = unfold bit_of in at u y
      where
        at : (u y : ℕ) → get_or (get_or small_batch u []) y 0 < 2
        at zero zero = lit< tt
        at zero (suc zero) = lit< tt
        at zero (suc (suc y)) = lit< tt
        at (suc zero) zero = lit< tt
        at (suc zero) (suc zero) = lit< tt
        at (suc zero) (suc (suc y)) = lit< tt
        at (suc (suc u)) y = lit< tt

public : SizedPublic small small_columns
public = record { logins = refl; columns = columns; elements = elements }
  where
    columns : (u : ℕ) → u < 2 → suc (length (public_columns small_columns u)) ≡ 2
    columns zero h = refl
    columns (suc zero) h = refl
    columns (suc (suc u)) h = absurd (omega arith)

    elements : (u y : ℕ) → get_or (public_columns small_columns u) y 0 < 2 ^ 128
    elements zero = elements-of (5 ∷ []) (lit< tt, tt)
    elements (suc zero) = elements-of (9 ∷ []) (lit< tt, tt)
    elements (suc (suc u)) = elements-of [] tt

pub small-sized : SizedRun small small_batch small_columns small_draws
unfolding log₂ halvings
small-sized = record {
  relation = relation;
  batch = batch;
  public = public;
  draws = refl;
  elements_d = elements-of small_draws (
    lit< tt,
    (
      lit< tt,
      (
        lit< tt,
        (
          lit< tt,
          (
            lit< tt,
            (
              lit< tt,
              (
                lit< tt,
                (
                  lit< tt,
                  (
                    lit< tt,
                    (
                      lit< tt,
                      (
                        lit< tt,
                        (lit< tt, (lit< tt, (lit< tt, (lit< tt, tt)))),
                      ),
                    ),
                  ),
                ),
              ),
            ),
          ),
        ),
      ),
    ),
  );
}

-- ---- the batch
pub small-laid : NoBitOutside small small_batch
unfolding outside within offsets offsets_from next_multiple
small-laid u zero h k o = absurd (false≢true o)
small-laid u (suc zero) h k o = absurd (false≢true o)
small-laid u (suc (suc y)) h k o = absurd (omega arith)

pub small-good : Good small small_batch small_columns
unfolding Satisfied assignment times_at row_total sum_over share ◌⊗◌ ◌⊕◌ sum_times times_x
small-good = record { clear = small-laid; bin = bin; fld = fld }
  where
    bin : Satisfied small.bin 2 small_batch small_columns
    bin zero zero h k = refl
    bin zero (suc zero) h k = refl
    bin zero (suc (suc i)) h k = absurd (omega arith)
    bin (suc zero) zero h k = refl
    bin (suc zero) (suc zero) h k = refl
    bin (suc zero) (suc (suc i)) h k = absurd (omega arith)
    bin (suc (suc u)) i h k = absurd (omega arith)

    fld : Satisfied small.fld 2 small_batch small_columns
    fld zero zero h k = refl
    fld zero (suc zero) h k = refl
    fld zero (suc (suc i)) h k = absurd (omega arith)
    fld (suc zero) zero h k = refl
    fld (suc zero) (suc zero) h k = refl
    fld (suc zero) (suc (suc i)) h k = absurd (omega arith)
    fld (suc (suc u)) i h k = absurd (omega arith)

-- it is not, where the logins have each other's columns
pub exchanged-not-good : Good small small_batch exchanged → ⊥
unfolding Satisfied assignment times_at row_total sum_over share ◌⊗◌ ◌⊕◌ sum_times times_x
exchanged-not-good g = let e : ◌≡◌ {A = ℕ} 9 5 = g.fld 0 0 (lit< tt) (lit< tt) in omega arith

-- so the honest proof of this batch is accepted, and the claims are true
pub small-complete : CompleteRun small small_batch small_columns small_draws
small-complete = completeness small small_batch small_columns small_draws small-sized small-good

-- and the theorem on an accepted run speaks of these words: all that it draws holds of them
pub small-sound : Good small small_batch small_columns ⊎ BadDraw small small_batch small_columns (prover_proof small small_batch small_columns small_draws) small_draws
small-sound = soundness small small_batch small_columns (prover_proof small small_batch small_columns small_draws) small_draws
    (prover-sized small small_batch small_columns small_draws small-sized) small-complete.accepted small-laid
    (subst (ClaimsTrue small small_batch) (sym small-complete.same_claims) small-complete.true_claims)
