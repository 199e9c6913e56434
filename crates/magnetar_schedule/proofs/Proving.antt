-- The prover's run step by step (specs/Stepwise) over a relation and a batch. Its draws, words and transcript are those of specs/RealRun
-- (proofs/ProverRun), which does not need it.
-- Assumes nothing.
use Prim.Native.Nat.{◌/◌}
use Rattle.magnetar_hash.specs.declared.transcript.Transcript.{Transcript}
use Rattle.magnetar_matrix.specs.Batch.{Relation, Batch, PublicColumns, folded, public_folded}
use Rattle.magnetar_protocol.specs.Draws.{Draws, draws_of, login_point}
use Rattle.magnetar_protocol.specs.Checks.{combined}
use Rattle.magnetar_protocol.specs.Prover.{product_table}
use Rattle.magnetar_schedule.specs.Stepwise.{Steps, Tables, tau_steps, outer_all, inner_all}

-- the products of the six matrices and the z of every login
abbrev pub product_tables : Relation → Batch → PublicColumns → Tables
product_tables r b x = record {
  bin_a = product_table r b x r.bin.a;
  bin_b = product_table r b x r.bin.b;
  bin_c = product_table r b x r.bin.c;
  fld_a = product_table r b x r.fld.a;
  fld_b = product_table r b x r.fld.b;
  fld_c = product_table r b x r.fld.c;
}

-- the run up to the alphas
unfoldable pub outer_proving : Relation → Batch → PublicColumns → Transcript → Steps
outer_proving r b x t = outer_all r (product_tables r b x) (tau_steps r t)

-- the draws up to the alphas, taken apart
abbrev pub outer_draws : Relation → Batch → PublicColumns → Transcript → Draws
outer_draws r b x t = draws_of r (outer_proving r b x t).run_state.draws

-- the whole run
unfoldable pub proving : Relation → Batch → PublicColumns → Transcript → Steps
proving r b x t =
    let p = login_point (outer_draws r b x t) in
    inner_all r (combined r (outer_draws r b x t)) (folded r.q (r.m / 2) b p) (public_folded r.q (r.m / 2) x p) (outer_proving r b x t)
