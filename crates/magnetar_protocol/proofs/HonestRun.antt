-- The honest proof is those of the theory.
-- Assumes nothing.
use mathlib.Core.Path.{◌≡◌, refl, sym, ap, ap₂, ◌∙◌}
use mathlib.Core.List.{List, ◌++◌, map, reverse}
use Prim.Native.Nat.{ℕ, suc, ◌+◌, ◌*◌, ◌^◌, ◌≤◌, ◌<◌}
use native.Mathlib.Omega.{arith}
use lib.ListN.{length, get_or, length-append, length-map}
use lib.Dec.{lit<}
use lib.Pow.{pow-add}
use Rattle.magnetar_field.specs.Sizes.{log₂}
use Rattle.magnetar_multilinear.specs.Multilinear.{mle}
use Rattle.magnetar_field.proofs.Tabulation.{tabulate-get}
use Rattle.magnetar_sumcheck_verifier.specs.Messages.{Outer, outer_start, inner_messages}
use Rattle.magnetar_sumcheck_verifier.proofs.OuterRun as O
use Rattle.magnetar_sumcheck_verifier.proofs.OuterRun.{start-stands}
use Rattle.magnetar_sumcheck_verifier.proofs.InnerRun as I
use Rattle.magnetar_sumcheck_verifier.proofs.Protocol.{element-mle}
use Rattle.magnetar_matrix.specs.Matrix.{Matrix, System}
use Rattle.magnetar_matrix.specs.Batch.{Relation, Batch, PublicColumns}
use Rattle.magnetar_theory.specs.SumCheck.{honest}
use Rattle.magnetar_theory.specs.Table.{table_rounds}
use Rattle.magnetar_theory.specs.Cells.{outer_cells, inner_cells}
use Rattle.magnetar_theory.specs.EqTable.{eq_table as eq_table_e, dot as dot_e}
use Rattle.magnetar_theory.specs.Matrix.{apply_all}
use Rattle.magnetar_theory.specs.Outer.{start}
use Rattle.magnetar_theory.specs.Inner.{zip_inner}
use Rattle.magnetar_theory.specs.Run.{vectors, begin, combo, folded as folded_e, inner, honest_proof as honest_e}
use Rattle.magnetar_theory.specs.Gf128.{Element, element, gf128}
use Rattle.magnetar_protocol.specs.Shape.{log_logins, log_bin, log_fld, log_cols, proof_elements}
use Rattle.magnetar_protocol.specs.Proof.{terminal, segment_values}
use Rattle.magnetar_protocol.specs.Draws.{Draws, login_point}
use Rattle.magnetar_protocol.specs.Checks.{combined}
use Rattle.magnetar_protocol.specs.Run.{true_value}
use Rattle.magnetar_protocol.specs.RunSizes.{SizedSystem, SizedRelation, SizedBatch, SizedPublic}
use Rattle.magnetar_protocol.specs.Theory.{els, log_half, entries_e, system_e, relation_e, public_e, batch_e, draws_e, proof_e}
use Rattle.magnetar_protocol.specs.Prover.{product_table, outer_rounds, terminal_values, folded_z, true_values, honest_proof}
use Rattle.magnetar_protocol.proofs.Elements.{map-append, map-reverse}
use Rattle.magnetar_protocol.proofs.Pieces.{bin-are, fld-are, inner-are, vz-is, terminal-is}
use Rattle.magnetar_protocol.proofs.SizeFacts.{cols-suc, Cut, inner-is}
use Rattle.magnetar_protocol.proofs.Combined.{combined-is, combined-length}
use Rattle.magnetar_protocol.proofs.AcceptedRun.{ab-is}
use Rattle.magnetar_protocol.proofs.TrueClaims.{true_claims}
use Rattle.magnetar_protocol.proofs.HonestParts.{bin-part, fld-part, inner-part, terminal-part, value-part, segment-part, honest-length}
use Rattle.magnetar_protocol.proofs.HonestTables.{product_is, product-length, folded-is, folded_z-length}

module _ (r : Relation) (b : Batch) (x : PublicColumns) (D : Draws) (R : SizedRelation r) (B : SizedBatch r b) (X : SizedPublic r x)
    (C : Cut r D) where
  abbrev W : List ℕ
  W = honest_proof r b x D

  abbrev zs : List (List Element)
  zs = vectors gf128 (batch_e b) (public_e x)

  -- ---- the outer sum-checks
  module _ (s : System) (Z : SizedSystem r.m r.q s) (tau rows : List ℕ) (ht : length tau ≡ log_logins r + length rows)
      (hr : length rows ≡ log₂ s.a.rows) where
    rows-a : s.a.rows ≡ 2 ^ log₂ s.a.rows
    rows-a = Z.rows.power

    table-size : (m : Matrix) → m.rows ≡ 2 ^ log₂ s.a.rows → length (product_table r b x m) ≡ 2 ^ length tau
    table-size m e =
        product-length r b x m ∙ ap₂ ◌*◌ R.logins.power (e ∙ ap (λ (k : ℕ). 2 ^ k) (sym hr))
        ∙ sym (pow-add 2 (log_logins r) (length rows))
        ∙ ap (λ (k : ℕ). 2 ^ k) (sym ht)

    pub outer-are : map els (outer_rounds r b x D s tau rows)
        ≡ honest gf128 (table_rounds gf128 (outer_cells gf128))
        (begin gf128 (system_e s) (els tau) zs (length (els D.shared)) (length (els rows))) (els D.shared ++ els rows)
    unfolding outer_rounds
    outer-are =
        O.messages-are (D.shared ++ rows) (outer_start (log_logins r) tau (product_table r b x s.a) (product_table r b x s.b)
        (product_table r b x s.c))
        (start gf128 (els (product_table r b x s.a)) (els (product_table r b x s.b)) (els (product_table r b x s.c)) (els tau)
        (log_logins r) (length rows))
        (start-stands (log_logins r) (length rows) tau (product_table r b x s.a) (product_table r b x s.b) (product_table r b x s.c) ht
        (table-size s.a rows-a) (table-size s.b (Z.b.rows ∙ rows-a)) (table-size s.c (Z.c.rows ∙ rows-a)))
        (fits (outer_start (log_logins r) tau (product_table r b x s.a) (product_table r b x s.b) (product_table r b x s.c)) started)
        ∙ (λ i. honest gf128 (table_rounds gf128 (outer_cells gf128))
        (start gf128 (product_is r b x B X (2 ^ log₂ s.a.rows) s.a rows-a i)
        (product_is r b x B X (2 ^ log₂ s.a.rows) s.b (Z.b.rows ∙ rows-a) i)
        (product_is r b x B X (2 ^ log₂ s.a.rows) s.c (Z.c.rows ∙ rows-a) i) (els tau) (count i) (sym (length-map rows element) i))
        (map-append element D.shared rows i))
      where
        count : log_logins r ≡ length (els D.shared)
        count = sym C.shared ∙ sym (length-map D.shared element)

        started : (outer_start (log_logins r) tau (product_table r b x s.a) (product_table r b x s.b) (product_table r b x s.c)).tau
            ≡ tau
        started = unfold outer_start in refl

        fits : (S : Outer) → S.tau ≡ tau → length (D.shared ++ rows) ≤ length S.tau
        fits S e = rw e (omega (arith, length-append D.shared rows, C.shared))

  -- ---- the terminals
  at-point : (n : ℕ) (m : Matrix) (rows : List ℕ) → m.rows ≡ n
      → element (mle (product_table r b x m) (rows ++ login_point D))
      ≡ dot_e gf128 (eq_table_e gf128 (els rows ++ reverse (els D.shared))) (apply_all gf128 n (entries_e m) zs)
  unfolding login_point
  at-point n m rows e =
      element-mle (product_table r b x m) (rows ++ reverse D.shared)
      ∙ ap₂ (λ (p t : List Element). dot_e gf128 (eq_table_e gf128 p) t)
      (map-append element rows (reverse D.shared) ∙ ap (λ (l : List Element). els rows ++ l) (map-reverse element D.shared))
      (product_is r b x B X n m e)

  terminal-of : (i : ℕ) (v : ℕ) → i < 6 → get_or (terminal_values r b x D) i 0 ≡ v → element (terminal r W i) ≡ element v
  terminal-of i v h e = ap element (terminal-part r b x D C i h ∙ e)

  long : length W ≡ proof_elements r
  long = honest-length r b x D C

  -- ---- all words
  pub words_are : proof_e r W ≡ honest_e gf128 (relation_e r) (public_e x) (batch_e b) (draws_e r D)
  unfolding terminal_values
  words_are = λ i. record {
    bin_ms = (bin-are r W ∙ ap (map els) (bin-part r b x D C)
        ∙ outer-are r.bin R.bin D.tau_bin D.row_bin (C.tau_bin ∙ ap (λ (k : ℕ). log_logins r + k) (sym C.row_bin))
        C.row_bin) i;
    fld_ms = (fld-are r W ∙ ap (map els) (fld-part r b x D C)
        ∙ outer-are r.fld R.fld D.tau_fld D.row_fld (C.tau_fld ∙ ap (λ (k : ℕ). log_logins r + k) (sym C.row_fld))
        C.row_fld) i;
    ab = (ab-is r W D R C long ∙ terminal-of 0 _ (lit< tt) refl
        ∙ at-point (2 ^ log_bin r) r.bin.a D.row_bin R.bin.rows.power) i;
    bb = (terminal-is r W 1 ∙ terminal-of 1 _ (lit< tt) refl
        ∙ at-point (2 ^ log_bin r) r.bin.b D.row_bin (R.bin.b.rows ∙ R.bin.rows.power)) i;
    cb = (terminal-is r W 2 ∙ terminal-of 2 _ (lit< tt) refl
        ∙ at-point (2 ^ log_bin r) r.bin.c D.row_bin (R.bin.c.rows ∙ R.bin.rows.power)) i;
    af = (terminal-is r W 3 ∙ terminal-of 3 _ (lit< tt) refl ∙ at-point (2 ^ log_fld r) r.fld.a D.row_fld R.fld.rows.power) i;
    bf = (terminal-is r W 4 ∙ terminal-of 4 _ (lit< tt) refl
        ∙ at-point (2 ^ log_fld r) r.fld.b D.row_fld (R.fld.b.rows ∙ R.fld.rows.power)) i;
    cf = (terminal-is r W 5 ∙ terminal-of 5 _ (lit< tt) refl
        ∙ at-point (2 ^ log_fld r) r.fld.c D.row_fld (R.fld.c.rows ∙ R.fld.rows.power)) i;
    inner_ms = (inner-are r W cols ∙ ap (map els) (inner-part r b x D C) ∙ inner-messages) i;
    vz = (vz-is r W cols ∙ ap element (value-part r b x D C) ∙ element-mle (folded_z r b x D) D.inner
        ∙ ap₂ (λ (p t : List Element). dot_e gf128 (eq_table_e gf128 p) t) (sym (inner-is r R D C)) (folded-is r b x D R B X C)) i;
    values = (true_claims r b D R B C W long true-values) i;
  }
    where
      cols : log_cols r ≡ suc (log_half r)
      cols = cols-suc r R

      inner-long : suc (log_half r) ≡ length D.inner
      inner-long = sym cols ∙ sym C.inner

      inner-messages : map els (inner_messages (combined r D) (folded_z r b x D) D.inner)
          ≡ honest gf128 (table_rounds gf128 (inner_cells gf128)) (record {
            tops = 0;
            lows = length
                (inner gf128 (draws_e r D));
            cells = zip_inner gf128
                (combo gf128 (relation_e r) (els D.row_bin) (els D.row_fld) (els D.alphas))
                (folded_e gf128 (relation_e r) (public_e x) (batch_e b) (els D.shared));
          }) (inner gf128 (draws_e r D))
      inner-messages =
          I.messages-are (length (inner gf128 (draws_e r D))) D.inner (combined r D) (folded_z r b x D) (suc (log_half r))
          (omega (arith, inner-long)) (combined-length r D R) (folded_z-length r b x D R)
          ∙ (λ i. honest gf128 (table_rounds gf128 (inner_cells gf128)) (record {
            tops = 0;
            lows = length
                (inner gf128 (draws_e r D));
            cells = zip_inner gf128 (combined-is r D R i) (folded-is r b x D R B X C i);
          })
          (sym (inner-is r R D C) i))

      true-values : (i : ℕ) → i < length r.lengths → get_or (segment_values r W) i 0 ≡ true_value r b D i
      true-values i h = ap (λ (l : List ℕ). get_or l i 0) (segment-part r b x D C)
          ∙ unfold true_values in tabulate-get (true_value r b D) (length r.lengths) i 0 h
