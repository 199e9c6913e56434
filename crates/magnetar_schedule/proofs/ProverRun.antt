-- The prover's run step by step has the draws, the words and the transcript of specs/RealRun.
-- Assumes nothing.
use mathlib.Core.Path.{◌≡◌, refl, sym, ap, ap₂, ◌∙◌}
use mathlib.Core.List.{List, [], ◌∷◌, ◌++◌}
use Prim.Native.Nat.{ℕ, zero, suc, ◌+◌, ◌-◌, ◌*◌, ◌/◌, ◌^◌, ◌≤◌, ◌<◌}
use native.Mathlib.Omega.{arith}
use mathlib.Core.Bool.{Bool, true, false, cond}
use lib.Dec.{eqb}
use lib.ListN.{length, get_or, take, drop}
use lib.Pow.{pow_pos, pow-add}
use lib.Seq.{take_at, drop_at, length-take-le}
use Rattle.magnetar_field.specs.Gf128.{◌⊗◌}
use Rattle.magnetar_field.specs.Sizes.{log₂}
use Rattle.magnetar_field.specs.Tabulate.{tabulate}
use Rattle.magnetar_multilinear.specs.Multilinear.{mle}
use Rattle.magnetar_field.proofs.Tabulation.{tabulate-ext}
use Rattle.magnetar_field.proofs.Polynomial.{AllBelow}
use Rattle.magnetar_field.proofs.Product.{⊗-lt}
use Rattle.magnetar_field.proofs.Xor.{⊕-lt}
use Rattle.magnetar_hash.specs.declared.transcript.Transcript.{Transcript}
use Rattle.magnetar_sumcheck_verifier.specs.Messages.{Outer, outer_start, outer_messages, inner_messages}
use Rattle.magnetar_matrix.specs.Sum.{blocks}
use Rattle.magnetar_matrix.specs.Matrix.{Entry, Matrix, System, sum_over, row_total, share, times_at, times}
use Rattle.magnetar_matrix.specs.Batch.{Relation, Batch, PublicColumns, batch_products, folded, public_folded}
use Rattle.magnetar_layout.specs.Layout.{offset}
use Rattle.magnetar_protocol.specs.Shape.{log_logins, log_cols}
use Rattle.magnetar_protocol.specs.Draws.{Draws, login_point, low_point}
use Rattle.magnetar_schedule.specs.Schedule.{schedule}
use Rattle.magnetar_schedule.specs.ScheduleRun.{RunState, run_from}
use Rattle.magnetar_protocol.specs.Checks.{combined}
use Rattle.magnetar_protocol.specs.Run.{true_value, claims}
use Rattle.magnetar_protocol.specs.RunSizes.{SizedSystem, SizedRelation, Elements}
use Rattle.magnetar_protocol.specs.Theory.{log_half}
use Rattle.magnetar_protocol.specs.Prover.{joined, interleaved, product_table, outer_rounds, bin_rounds, fld_rounds, terminal_values, folded_z, true_values, honest_proof, prover_proof, prover_claims}
use Rattle.magnetar_schedule.specs.Stepwise.{segment_value}
use Rattle.magnetar_schedule.specs.RealRun.{verifier_draws, prover_draws, prover_transcript, sent_proof}
use Rattle.magnetar_schedule.proofs.Proving.{product_tables, outer_draws, proving}
use Rattle.magnetar_layout.proofs.Places.{Placed, placed}
use Rattle.magnetar_protocol.proofs.SegmentSums.{pow-le}
use Rattle.magnetar_protocol.proofs.SizeFacts.{cols-suc, half_pow, Cut, low_size}
use Rattle.magnetar_protocol.proofs.HonestTables.{product-length, folded_z-length}
use Rattle.magnetar_protocol.proofs.HonestParts.{outer-count}
use Rattle.magnetar_protocol.proofs.HonestBelow.{elements-of, both, tabulate-below}
use Rattle.magnetar_schedule.proofs.StepLaws.{folds, messages-append, binds}
use Rattle.magnetar_schedule.proofs.Bindings.{binds-left, left-a, left-b, left-c, segment-is, folded-elements, half-elements}
use Rattle.magnetar_schedule.proofs.Stepwise.{tau-bin-length, tau-fld-length, shared-length, row-bin-length, row-fld-length, alpha-length, left_of, bin_at_start, fld_at_start, ends-bin, ends-fld, outer_sent, inner_of, inner-of-length, last_sent, proving-sent, plays-the-same, outer-parts, parts, parts_are}
use Rattle.magnetar_schedule.proofs.ProverDraws.{drawn-only, prover-claims}

-- ---- the products are elements
sum-over-lt : (f : Entry → ℕ) (es : List Entry) → ((e : Entry) → f e < 2 ^ 128) → sum_over f es < 2 ^ 128
unfolding sum_over
sum-over-lt f [] h = pow_pos 128
sum-over-lt f (e ∷ es) h = ⊕-lt 128 (f e) (sum_over f es) (h e) (sum-over-lt f es h)

times-lt : (m : Matrix) (z : List ℕ) (i : ℕ) → times_at m z i < 2 ^ 128
unfolding times_at row_total share
times-lt m z i = sum-over-lt _ m.entries (λ e. either (eqb e.row i) (e.value ⊗ get_or z e.col 0) (⊗-lt e.value (get_or z e.col 0)))
  where
    either : (t : Bool) (v : ℕ) → v < 2 ^ 128 → cond t v 0 < 2 ^ 128
    either true v h = h
    either false v h = pow_pos 128

blocks-below : (f : ℕ → List ℕ) (n : ℕ) → ((u : ℕ) → AllBelow (2 ^ 128) (f u)) → AllBelow (2 ^ 128) (blocks f n)
unfolding blocks
blocks-below f zero h = tt
blocks-below f (suc n) h = both (blocks f n) (f n) (blocks-below f n h) (h n)

product-elements : (r : Relation) (b : Batch) (x : PublicColumns) (m : Matrix) → Elements (product_table r b x m)
unfolding product_table batch_products times
product-elements r b x m =
    elements-of (product_table r b x m) (blocks-below _ r.q (λ u. tabulate-below _ m.rows (times-lt m _)))

module _ (r : Relation) (b : Batch) (x : PublicColumns) (t : Transcript) where
  abbrev D : Draws
  D = parts r b x t

  -- the bits and the public halves, folded at a point
  abbrev bits_at : List ℕ → List ℕ
  bits_at p = folded r.q (r.m / 2) b p

  abbrev half_at : List ℕ → List ℕ
  half_at p = public_folded r.q (r.m / 2) x p

  pub parts_cut : Cut r (parts r b x t)
  parts_cut = record {
    tau_bin = tau-bin-length r (product_tables r b x) t;
    tau_fld = tau-fld-length r (product_tables r b x) t;
    shared = shared-length r (product_tables r b x) t;
    row_bin = row-bin-length r (product_tables r b x) t;
    row_fld = row-fld-length r (product_tables r b x) t;
    alphas = alpha-length r (product_tables r b x) t;
    inner = inner-of-length r b x t;
  }

  -- ---- the rounds
  bin-first : take (log_logins r) (bin_rounds r b x D) ≡ outer_messages (bin_at_start r (product_tables r b x) t) D.shared
  unfolding outer_rounds
  bin-first =
      ap (take (log_logins r)) (messages-append D.shared D.row_bin (bin_at_start r (product_tables r b x) t))
      ∙ take_at _ _ (log_logins r) (outer-count (bin_at_start r (product_tables r b x) t) D.shared ∙ parts_cut.shared)

  bin-later : drop (log_logins r) (bin_rounds r b x D) ≡ outer_messages (folds D.shared (bin_at_start r (product_tables r b x) t)) D.row_bin
  unfolding outer_rounds
  bin-later =
      ap (drop (log_logins r)) (messages-append D.shared D.row_bin (bin_at_start r (product_tables r b x) t))
      ∙ drop_at (outer_messages (bin_at_start r (product_tables r b x) t) D.shared) _ (log_logins r)
      (outer-count (bin_at_start r (product_tables r b x) t) D.shared ∙ parts_cut.shared)

  fld-first : take (log_logins r) (fld_rounds r b x D) ≡ outer_messages (fld_at_start r (product_tables r b x) t) D.shared
  unfolding outer_rounds
  fld-first =
      ap (take (log_logins r)) (messages-append D.shared D.row_fld (fld_at_start r (product_tables r b x) t))
      ∙ take_at _ _ (log_logins r) (outer-count (fld_at_start r (product_tables r b x) t) D.shared ∙ parts_cut.shared)

  fld-later : drop (log_logins r) (fld_rounds r b x D) ≡ outer_messages (folds D.shared (fld_at_start r (product_tables r b x) t)) D.row_fld
  unfolding outer_rounds
  fld-later =
      ap (drop (log_logins r)) (messages-append D.shared D.row_fld (fld_at_start r (product_tables r b x) t))
      ∙ drop_at (outer_messages (fld_at_start r (product_tables r b x) t) D.shared) _ (log_logins r)
      (outer-count (fld_at_start r (product_tables r b x) t) D.shared ∙ parts_cut.shared)

  -- ---- the combined table and the folded bits, which the draws up to the alphas decide
  combined-same : combined r (outer_draws r b x t) ≡ combined r D
  unfolding combined
  combined-same = ap (combined r) (outer-parts r b x t)

  point-same : login_point (outer_draws r b x t) ≡ login_point D
  unfolding login_point
  point-same = ap login_point (outer-parts r b x t)

  module _ (R : SizedRelation r) where
    -- ---- the terminals
    table-size : (s : System) (tau : List ℕ) → SizedSystem r.m r.q s → length tau ≡ log_logins r + log₂ s.a.rows
        → (m : Matrix) → m.rows ≡ s.a.rows → length (product_table r b x m) ≡ 2 ^ length tau
    table-size s tau Z ht m e =
        product-length r b x m ∙ ap₂ ◌*◌ R.logins.power (e ∙ Z.rows.power)
        ∙ sym (pow-add 2 (log_logins r) (log₂ s.a.rows))
        ∙ ap (λ (k : ℕ). 2 ^ k) (sym ht)

    module _ (s : System) (Z : SizedSystem r.m r.q s) (tau rows : List ℕ) (ht : length tau ≡ log_logins r + log₂ s.a.rows)
        (hr : length rows ≡ log₂ s.a.rows) where
      abbrev at_end : Outer
      at_end = folds rows (folds D.shared (outer_start (log_logins r) tau (product_table r b x s.a) (product_table r b x s.b)
          (product_table r b x s.c)))

      long : length tau ≡ length D.shared + length rows
      long = ht ∙ ap₂ ◌+◌ (sym parts_cut.shared) (sym hr)

      end-a : get_or at_end.a 0 0 ≡ mle (product_table r b x s.a) (rows ++ login_point D)
      unfolding login_point
      end-a = left-a D.shared rows tau (product_table r b x s.a) (product_table r b x s.b) (product_table r b x s.c) (log_logins r)
          parts_cut.shared long (table-size s tau Z ht s.a refl) (product-elements r b x s.a)

      end-b : get_or at_end.b 0 0 ≡ mle (product_table r b x s.b) (rows ++ login_point D)
      unfolding login_point
      end-b = left-b D.shared rows tau (product_table r b x s.a) (product_table r b x s.b) (product_table r b x s.c) (log_logins r)
          parts_cut.shared long (table-size s tau Z ht s.b Z.b.rows) (product-elements r b x s.b)

      end-c : get_or at_end.c 0 0 ≡ mle (product_table r b x s.c) (rows ++ login_point D)
      unfolding login_point
      end-c = left-c D.shared rows tau (product_table r b x s.a) (product_table r b x s.b) (product_table r b x s.c) (log_logins r)
          parts_cut.shared long (table-size s tau Z ht s.c Z.c.rows) (product-elements r b x s.c)

    left-same : left_of r (product_tables r b x) t (ends-bin r (product_tables r b x) t) (ends-fld r (product_tables r b x) t) ≡ terminal_values r b x D
    unfolding terminal_values
    left-same = λ j.
        end-a r.bin R.bin D.tau_bin D.row_bin parts_cut.tau_bin parts_cut.row_bin j
        ∷ end-b r.bin R.bin D.tau_bin D.row_bin parts_cut.tau_bin parts_cut.row_bin j
        ∷ end-c r.bin R.bin D.tau_bin D.row_bin parts_cut.tau_bin parts_cut.row_bin j
        ∷ end-a r.fld R.fld D.tau_fld D.row_fld parts_cut.tau_fld parts_cut.row_fld j
        ∷ end-b r.fld R.fld D.tau_fld D.row_fld parts_cut.tau_fld parts_cut.row_fld j
        ∷ end-c r.fld R.fld D.tau_fld D.row_fld parts_cut.tau_fld parts_cut.row_fld j
        ∷ []

    -- ---- v_z and the segment values
    z-elements : Elements (folded_z r b x D)
    unfolding folded_z
    z-elements = elements-of (bits_at (login_point D) ++ half_at (login_point D)) (both (bits_at (login_point D)) (half_at (login_point D))
        (folded-elements r.q (r.m / 2) b (login_point D)) (half-elements r.q (r.m / 2) x (login_point D)))

    z-is : get_or (binds D.inner (folded_z r b x D)) 0 0 ≡ mle (folded_z r b x D) D.inner
    z-is = binds-left D.inner (folded_z r b x D)
        (folded_z-length r b x D R ∙ ap (λ (k : ℕ). 2 ^ k) (sym (cols-suc r R) ∙ sym parts_cut.inner)) z-elements

    value-is : (i : ℕ) → i < length r.lengths
        → segment_value r (combined r D) (bits_at (login_point D)) (half_at (login_point D)) (low_point r D) i ≡ true_value r b D i
    unfolding segment_value true_value
    value-is i h =
        segment-is r.q (r.m / 2) b (login_point D) (take (log₂ n) (low_point r D)) (offset r.lengths i) n
        (p.size.power ∙ ap (λ (k : ℕ). 2 ^ k) (sym short)) p.ends
      where
        n : ℕ
        n = get_or r.lengths i 0

        p : Placed (r.m / 2) (offset r.lengths i) (get_or r.lengths i 0) (r.m / 2)
        p = placed (r.m / 2) r.lengths i R.layout h

        fits : log₂ n ≤ log_half r
        fits = pow-le (log₂ n) (log_half r) (small (half_pow r R) p.size.power p.size.most)
          where
            small : {k a c d : ℕ} → a ≡ c → k ≡ d → k ≤ a → d ≤ c
            small e f l = omega arith

        short : length (take (log₂ n) (low_point r D)) ≡ log₂ n
        short = length-take-le (log₂ n) (low_point r D) (below (low_size r R D parts_cut) fits)
          where
            below : {k a c : ℕ} → a ≡ c → k ≤ c → k ≤ a
            below e l = omega arith

    values-are : tabulate (segment_value r (combined r D) (bits_at (login_point D)) (half_at (login_point D)) (low_point r D))
        (length r.lengths) ≡ true_values r b D
    unfolding true_values
    values-are = tabulate-ext _ (true_value r b D) (length r.lengths) value-is

    -- ---- all words
    last-same : last_sent r b x t D.inner
        ≡ joined (inner_messages (combined r D) (folded_z r b x D) D.inner) ++ (mle (folded_z r b x D) D.inner ∷ true_values r b D)
    unfolding folded_z low_point
    last-same =
        (λ j. sent (combined-same j) (point-same j))
        ∙ ap₂ (λ (v : ℕ) (l : List ℕ). joined (inner_messages (combined r D) (folded_z r b x D) D.inner) ++ (v ∷ l)) z-is values-are
      where
        sent : List ℕ → List ℕ → List ℕ
        sent c p =
            joined (inner_messages c (bits_at p ++ half_at p) D.inner)
            ++ (get_or (binds D.inner (bits_at p ++ half_at p)) 0 0
            ∷ tabulate (segment_value r c (bits_at p) (half_at p) (take (log_cols r - 1) D.inner)) (length r.lengths))

    words_same : outer_sent r (product_tables r b x) t (last_sent r b x t (inner_of r b x t)) ≡ honest_proof r b x D
    unfolding honest_proof
    words_same = λ j.
        interleaved (sym bin-first j) (sym fld-first j)
        ++ (joined (sym bin-later j) ++ (joined (sym fld-later j) ++ (left-same j ++ last-same j)))

    -- the words of the run are the honest proof at its draws, which are drawn again from them
    words_are : (proving r b x t).sent ≡ prover_proof r b x (proving r b x t).run_state.draws
    unfolding prover_proof
    words_are = proving-sent r b x t ∙ words_same ∙ ap (honest_proof r b x) (sym (parts_are r b x t))

    pub proving-draws-are : prover_draws r b x t ≡ (proving r b x t).run_state.draws
    unfolding verifier_draws
    proving-draws-are = drawn-only r b x t (proving r b x t).run_state.draws
        (ap (λ (w : List ℕ). (run_from w (schedule r) t).draws) (sym words_are) ∙ ap (λ (p : RunState). p.draws) (plays-the-same r b x t))

    pub proving-words : (proving r b x t).sent ≡ prover_proof r b x (prover_draws r b x t)
    proving-words = words_are ∙ ap (prover_proof r b x) (sym proving-draws-are)

    pub proving-transcript : (proving r b x t).run_state.transcript ≡ prover_transcript r b x t
    unfolding prover_transcript sent_proof
    proving-transcript = ap (λ (p : RunState). p.transcript) (sym (plays-the-same r b x t))
        ∙ ap (λ (w : List ℕ). (run_from w (schedule r) t).transcript) proving-words

    -- the claims that are read from its words and draws are the prover's
    pub proving-claims : claims r (proving r b x t).sent (proving r b x t).run_state.draws ≡ prover_claims r b (prover_draws r b x t)
    proving-claims = ap₂ (claims r) proving-words (sym proving-draws-are) ∙ prover-claims r b x t
