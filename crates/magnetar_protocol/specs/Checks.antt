-- What the verifier checks, in its order, with the draws as plain elements. Each check has the number of its refusal.
-- Source: document 01, "Who can be turned back" (21 to 29, in the Rust's order); document 02, U6 (each login's own public columns); the
-- Rust's `verify_virtual_spartan` and `fold_public_part`; Spartan (Setty, CRYPTO 2020), the verifier of both sum-checks.
-- Assumes nothing.
use Rattle.std.specs.Prelude.{Bool, cond, List, [], ◌∷◌, ◌++◌, ℕ, zero, suc, ◌+◌, ◌*◌, ◌/◌, eqb, get_or, take, drop}
use Rattle.magnetar_field.specs.Gf128.{◌⊕◌, ◌⊗◌}
use Rattle.magnetar_field.specs.Tabulate.{tabulate}
use Rattle.magnetar_multilinear.specs.EqTable.{eq_at}
use Rattle.magnetar_multilinear.specs.Multilinear.{dot, mle}
use Rattle.magnetar_sumcheck_verifier.specs.Round.{holds, running}
use Rattle.magnetar_sumcheck_verifier.specs.Order.{eq_points}
use Rattle.magnetar_sumcheck_verifier.specs.Outer.{outer_end}
use Rattle.magnetar_sumcheck_verifier.specs.Inner.{inner_end}
use Rattle.magnetar_matrix.specs.Combined.{combined_table}
use Rattle.magnetar_matrix.specs.Batch.{Relation, PublicColumns, public_folded}
use Rattle.magnetar_layout.specs.Layout.{local_vars, suffix}
use Rattle.magnetar_protocol.specs.Shape.{log_logins, log_bin, log_fld, log_cols, after_taus, after_shared, after_bin, after_outer, after_alphas, after_inner}
use Rattle.magnetar_protocol.specs.Proof.{bin_messages, fld_messages, terminals, terminal, inner_rounds, value_z, segment_values}
use Rattle.magnetar_protocol.specs.Draws.{Draws, login_point, low_point, top_element}

-- a check that passes or gives a refusal, and how many events of the schedule come before it
pub record Check : Type 0 where
  pub refusal : ℕ
  pub passes : Bool
  pub events : ℕ

-- round i of a sum-check with the first claim c: its message adds up to the claim that the rounds before it leave
unfoldable pub round_holds : ℕ → List (List ℕ) → List ℕ → ℕ → Bool
round_holds c ms rs i = holds (get_or ms i []) (running c (take i ms) (take i rs))

-- the claim of the inner sum-check: the terminals, each times its alpha
unfoldable pub inner_claim : Relation → List ℕ → Draws → ℕ
inner_claim r w d = dot d.alphas (terminals r w)

-- the six matrices at the row points, combined by the alphas: an element for each column (`build_m_combo`)
unfoldable pub combined : Relation → Draws → List ℕ
combined r d = combined_table r.m r.bin r.fld d.alphas d.row_bin d.row_fld

-- the values vs of the segments of lengths ns from segment i on, each times eq(r_low behind r_local, the segment's `b_i`)
unfoldable pub segment_sum : (ns low : List ℕ) → ℕ → List ℕ → ℕ
segment_sum ns low i [] = 0
segment_sum ns low i (v ∷ vs) = eq_at (drop (local_vars ns i) low) (suffix ns i) ⊗ v ⊕ segment_sum ns low (suc i) vs

module _ (r : Relation) (w : List ℕ) (d : Draws) where
  -- round i of the outer sum-check of bin
  abbrev pub bin_round : ℕ → Bool
  bin_round i = round_holds 0 (bin_messages r w) (d.shared ++ d.row_bin) i

  -- and of fld
  abbrev pub fld_round : ℕ → Bool
  fld_round i = round_holds 0 (fld_messages r w) (d.shared ++ d.row_fld) i

  -- the shared rounds, bin before fld in each
  unfoldable pub shared_checks : ℕ → ℕ → List Check
  shared_checks i zero = []
  shared_checks i (suc n) =
      record { refusal = 21; passes = bin_round i; events = after_taus r + 2 * suc i }
      ∷ record { refusal = 22; passes = fld_round i; events = after_taus r + 2 * suc i }
      ∷ shared_checks (suc i) n

  -- the row rounds of bin, and then those of fld
  unfoldable pub row_checks : List Check
  row_checks =
      tabulate (λ i. record { refusal = 23; passes = bin_round (log_logins r + i); events = after_shared r + 2 * suc i }) (log_bin r)
      ++ tabulate (λ i. record { refusal = 24; passes = fld_round (log_logins r + i); events = after_bin r + 2 * suc i }) (log_fld r)

  -- the running claim at the end is eq(tau, point) (va vb + vc): the point is the row challenges, then the shared ones reversed
  unfoldable pub terminal_checks : List Check
  terminal_checks =
      record {
        refusal = 25;
        passes = eqb (running 0 (bin_messages r w) (d.shared ++ d.row_bin))
            (outer_end (eq_points d.tau_bin (d.row_bin ++ login_point d)) (terminal r w 0) (terminal r w 1) (terminal r w 2));
        events = after_outer r;
      }
      ∷ record {
        refusal = 26;
        passes = eqb (running 0 (fld_messages r w) (d.shared ++ d.row_fld))
            (outer_end (eq_points d.tau_fld (d.row_fld ++ login_point d)) (terminal r w 3) (terminal r w 4) (terminal r w 5));
        events = after_outer r;
      }
      ∷ []

  -- the inner rounds, and the claim that they leave: it is v times v_z, v being the combined table at the point of the challenges
  abbrev pub inner_checks_at : (v : ℕ) → List Check
  inner_checks_at v =
      tabulate (λ i. record { refusal = 27; passes = round_holds (inner_claim r w d) (inner_rounds r w) d.inner i; events = after_alphas r + 2 * i }) (log_cols r)
      ++ record { refusal = 28; passes = eqb (running (inner_claim r w d) (inner_rounds r w) d.inner) (inner_end v (value_z r w)); events = after_inner r }
      ∷ []

  unfoldable pub inner_checks : (table : List ℕ) → List Check
  inner_checks table = inner_checks_at (mle table d.inner)

  -- v_z is (1 + top) times the segment sum plus top times p, p being the folded public half at the low point
  abbrev pub identity_check_at : (p : ℕ) → List Check
  identity_check_at p =
      record {
        refusal = 29;
        passes = eqb ((1 ⊕ top_element r d) ⊗ segment_sum r.lengths (low_point r d) 0 (segment_values r w) ⊕ top_element r d ⊗ p) (value_z r w);
        events = after_inner r + 1;
      }
      ∷ []

  unfoldable pub identity_check : (half : List ℕ) → List Check
  identity_check half = identity_check_at (mle half (low_point r d))

-- all of them, with the public columns x of each login
unfoldable pub checks : Relation → PublicColumns → (w : List ℕ) → Draws → List Check
checks r x w d =
    shared_checks r w d 0 (log_logins r)
    ++ (row_checks r w d ++ (terminal_checks r w d ++ (inner_checks r w d (combined r d)
    ++ identity_check r w d (public_folded r.q (r.m / 2) x (login_point d)))))

-- the number of the first check that does not pass, or 0
unfoldable pub first_failure : List Check → ℕ
first_failure [] = 0
first_failure (c ∷ cs) = cond c.passes (first_failure cs) c.refusal

-- how many events come before it, or n where every check passes
unfoldable pub first_stop : List Check → ℕ → ℕ
first_stop [] n = n
first_stop (c ∷ cs) n = cond c.passes (first_stop cs n) c.events
