-- The batch of ExampleBad that is not good and is accepted: the theorem on an accepted run speaks of it, so some draw is bad.
-- Assumes nothing.
use mathlib.Core.Path.{◌≡◌, refl, ap}
use mathlib.Core.Bool.{true}
use mathlib.Core.List.{List, [], ◌∷◌}
use mathlib.Core.Logic.{◌⊎◌, inl, inr}
use Prim.Native.Nat.{ℕ, zero, suc, ◌^◌, ◌<◌}
use native.Mathlib.Omega.{arith}
use borrow.Author.Tests.{ltb-true}
use lib.Dec.{ltb, lit<, lit≤}
use lib.ListN.{length, get_or}
use lib.Pow.{pow_pos}
use Rattle.magnetar_field.specs.Sizes.{log₂, halvings}
use Rattle.magnetar_layout.specs.Every.{every}
use Rattle.magnetar_layout.specs.Layout.{next_multiple, end_from, layout_end, is_length}
use Rattle.magnetar_layout.proofs.EveryLaws.{both}
use Rattle.magnetar_matrix.specs.Batch.{public_columns, bit_of, Good}
use Rattle.magnetar_protocol.specs.Run.{claims, ClaimsTrue}
use Rattle.magnetar_protocol.specs.RunSizes.{Elements, SizedRelation, SizedBatch, SizedPublic, SizedProof}
use Rattle.magnetar_protocol.specs.Soundness.{BadDraw}
use Rattle.magnetar_protocol.proofs.Soundness.{soundness}
use Rattle.magnetar_protocol.proofs.ExampleBad.{lie, lie_batch, lie_columns, lie_words, zeros, lie-not-good, lie-answers}

-- ---- sizes
pub below : (l : List ℕ) → every (λ (x : ℕ). ltb x (2 ^ 128)) l ≡ true → Elements l
unfolding every
below [] e i = pow_pos 128
below (x ∷ l) e zero = ltb-true x (2 ^ 128) (both (ltb x (2 ^ 128)) (every (λ (x : ℕ). ltb x (2 ^ 128)) l) e).0
below (x ∷ l) e (suc i) = below l (both (ltb x (2 ^ 128)) (every (λ (x : ℕ). ltb x (2 ^ 128)) l) e).1 i

pub relation : SizedRelation lie
unfolding log₂ halvings every is_length layout_end end_from next_multiple
relation = record {
  columns = record { low = lit≤ tt; high = lit≤ tt; power = refl };
  logins = record { low = lit≤ tt; high = lit≤ tt; power = refl };
  bin = record {
    rows = record { low = lit≤ tt; high = lit≤ tt; power = refl };
    total = lit≤ tt;
    a = record { rows = refl; cols = refl; few = lit≤ tt; inside = refl };
    b = record { rows = refl; cols = refl; few = lit≤ tt; inside = refl };
    c = record { rows = refl; cols = refl; few = lit≤ tt; inside = refl };
  };
  fld = record {
    rows = record { low = lit≤ tt; high = lit≤ tt; power = refl };
    total = lit≤ tt;
    a = record { rows = refl; cols = refl; few = lit≤ tt; inside = refl };
    b = record { rows = refl; cols = refl; few = lit≤ tt; inside = refl };
    c = record { rows = refl; cols = refl; few = lit≤ tt; inside = refl };
  };
  layout = record { small = lit≤ tt; power = refl; lengths = refl; ends = lit≤ tt };
  segments = lit≤ tt;
}

bit : (u y : ℕ) → bit_of lie_batch u y ≡ 0
unfolding bit_of
bit zero zero = refl
bit zero (suc y) = refl
bit (suc u) y = refl

batch : SizedBatch lie lie_batch
batch = record { logins = refl; columns = columns; bits = λ u y. rw (bit u y) (lit< tt) }
  where
    columns : (u : ℕ) → u < 1 → length (get_or lie_batch u []) ≡ 1
    columns zero h = refl
    columns (suc u) h = absurd (omega arith)

pub public : SizedPublic lie lie_columns
public = record { logins = refl; columns = columns; elements = elements }
  where
    columns : (u : ℕ) → u < 1 → suc (length (public_columns lie_columns u)) ≡ 1
    columns zero h = refl
    columns (suc u) h = absurd (omega arith)

    elements : (u y : ℕ) → get_or (public_columns lie_columns u) y 0 < 2 ^ 128
    elements zero y = pow_pos 128
    elements (suc u) y = pow_pos 128

pub lie-sized : SizedProof lie lie_batch lie_columns lie_words zeros
unfolding log₂ halvings every
lie-sized = record {
  run = record {
    relation = relation;
    batch = batch;
    public = public;
    draws = refl;
    elements_d = below zeros refl;
  };
  words = refl;
  elements_w = below lie_words refl;
}

lie-claims : ClaimsTrue lie lie_batch (claims lie lie_words zeros)
lie-claims i h = absurd (omega arith)

pub lie-bad : BadDraw lie lie_batch lie_columns lie_words zeros
lie-bad =
    second (soundness lie lie_batch lie_columns lie_words zeros lie-sized (ap (λ (l : List ℕ). get_or l 0 0) lie-answers) (λ u y h k o. bit u y) lie-claims)
  where
    second : Good lie lie_batch lie_columns ⊎ BadDraw lie lie_batch lie_columns lie_words zeros → BadDraw lie lie_batch lie_columns lie_words zeros
    second (inl g) = absurd (lie-not-good g)
    second (inr d) = d
