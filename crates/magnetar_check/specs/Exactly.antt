-- When the row check answers good, and when it names a stray bit. Each statement is the type of the law that it names, in proofs/Exactly.
-- Source: document 02, U3; document 01, "Matrices and layout" (good).
-- Assumes nothing.
use Rattle.std.specs.Prelude.{◌≡◌, ℕ, ◌/◌, List, length}
use Rattle.magnetar_matrix.specs.Batch.{Batch, PublicColumns, Good}
use Rattle.magnetar_matrix.specs.Packed.{unpacked, public_of}
use Rattle.magnetar_matrix.specs.RowCheck.{FirstStray}
use Rattle.magnetar_matrix.specs.RowCheck.Verdict.{good, stray}
use Rattle.magnetar_relation.specs.Rules.{Rules, relation_of}
use Rattle.magnetar_check.specs.Check.{check_refusal, check_outcome}
use Rattle.magnetar_check.specs.Check.Outcome.{judged}

module _ (R : Rules) (ws x scratch : List ℕ) where
  -- the batch, and the public columns, that are lent
  abbrev pub lent_batch : Batch
  lent_batch = unpacked R.q (R.m / 2) ws

  abbrev pub lent_columns : PublicColumns
  lent_columns = public_of R.q (R.m / 2) x

  -- `good-exactly`: it answers good exactly where it refuses nothing and the batch is good
  pub record GoodExactly : Type 0 where
    pub said : (check_outcome R ws x scratch).answer ≡ judged good
        → (check_refusal R ws x (length scratch) ≡ 0) × Good (relation_of R) lent_batch lent_columns
    pub says : check_refusal R ws x (length scratch) ≡ 0 → Good (relation_of R) lent_batch lent_columns
        → (check_outcome R ws x scratch).answer ≡ judged good

  -- `stray-exactly`: it names the bit of login u at column y exactly where it refuses nothing and this is the first stray bit
  pub record StrayExactly (u y : ℕ) : Type 0 where
    pub said : (check_outcome R ws x scratch).answer ≡ judged (stray u y)
        → (check_refusal R ws x (length scratch) ≡ 0) × FirstStray (relation_of R) lent_batch u y
    pub says : check_refusal R ws x (length scratch) ≡ 0 → FirstStray (relation_of R) lent_batch u y
        → (check_outcome R ws x scratch).answer ≡ judged (stray u y)
