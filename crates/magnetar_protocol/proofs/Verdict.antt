-- The verifier's answer is 0 exactly where the rounds of the three sum-checks pass, their terminal equations hold, and so does
-- the identity of the segments.
-- Assumes nothing.
use mathlib.Core.Path.{◌≡◌, refl, sym, ap, ap₂, ◌∙◌, subst}
use mathlib.Core.Bool.{Bool, true, false}
use mathlib.Core.List.{List, [], ◌∷◌, ◌++◌, append_assoc}
use Prim.Native.Nat.{ℕ, zero, suc, ◌+◌, ◌-◌, ◌*◌, ◌/◌, ◌≤◌, ◌<◌}
use native.Mathlib.Nat.{zero-add}
use native.Mathlib.Omega.{arith}
use lib.Dec.{ltb, eqb}
use lib.ListN.{length, length-append}
use borrow.Author.Tests.{ltb-true, ltb-false, eqb-true, eq-eqb}
use Rattle.magnetar_field.specs.Gf128.{◌⊕◌, ◌⊗◌}
use Rattle.magnetar_field.specs.Tabulate.{tabulate}
use Rattle.magnetar_multilinear.specs.Multilinear.{mle}
use Rattle.magnetar_field.proofs.Tabulation.{tabulate-length}
use Rattle.magnetar_sumcheck_verifier.specs.Round.{running}
use Rattle.magnetar_sumcheck_verifier.proofs.Verifier.{passes}
use Rattle.magnetar_sumcheck_verifier.specs.Order.{eq_points}
use Rattle.magnetar_sumcheck_verifier.specs.Outer.{outer_end}
use Rattle.magnetar_sumcheck_verifier.specs.Inner.{inner_end}
use Rattle.magnetar_matrix.specs.Batch.{Relation, PublicColumns, public_folded}
use Rattle.magnetar_protocol.specs.Shape.{log_logins, log_bin, log_fld, log_cols, after_taus, after_shared, after_bin, after_outer, after_alphas, after_inner}
use Rattle.magnetar_protocol.specs.Proof.{part, bin_messages, fld_messages, terminal, inner_rounds, value_z, segment_values}
use Rattle.magnetar_protocol.specs.Draws.{Draws, login_point, low_point, top_element}
use Rattle.magnetar_protocol.specs.Checks.{Check, round_holds, first_failure, checks, bin_round, fld_round, shared_checks, row_checks, terminal_checks, inner_checks, identity_check, inner_claim, combined, segment_sum}
use Rattle.magnetar_protocol.proofs.Passed.{rounds-pass, pass-rounds, one_passes, passes-one, all_pass, pass_all}
use Rattle.magnetar_protocol.proofs.SizeFacts.{Cut}

-- what the verifier finds
pub record Holds (r : Relation) (x : PublicColumns) (w : List ℕ) (D : Draws) : Type 0 where
  pub bin : passes 0 (bin_messages r w) (D.shared ++ D.row_bin) ≡ true
  pub fld : passes 0 (fld_messages r w) (D.shared ++ D.row_fld) ≡ true
  pub bin-end : running 0 (bin_messages r w) (D.shared ++ D.row_bin)
      ≡ outer_end (eq_points D.tau_bin (D.row_bin ++ login_point D)) (terminal r w 0) (terminal r w 1) (terminal r w 2)
  pub fld-end : running 0 (fld_messages r w) (D.shared ++ D.row_fld)
      ≡ outer_end (eq_points D.tau_fld (D.row_fld ++ login_point D)) (terminal r w 3) (terminal r w 4) (terminal r w 5)
  pub inner : passes (inner_claim r w D) (inner_rounds r w) D.inner ≡ true
  pub inner-end : running (inner_claim r w D) (inner_rounds r w) D.inner ≡ inner_end (mle (combined r D) D.inner) (value_z r w)
  pub identity : (1 ⊕ top_element r D) ⊗ segment_sum r.lengths (low_point r D) 0 (segment_values r w)
      ⊕ top_element r D ⊗ mle (public_folded r.q (r.m / 2) x (login_point D)) (low_point r D) ≡ value_z r w

module _ (r : Relation) (x : PublicColumns) (w : List ℕ) (D : Draws) where
  -- ---- the shared rounds
  shared-pass : (i n : ℕ) (rest : List Check) → first_failure (shared_checks r w D i n ++ rest) ≡ 0
      → ((j : ℕ) → j < n → (bin_round r w D (i + j) ≡ true) × (fld_round r w D (i + j) ≡ true)) × (first_failure rest ≡ 0)
  unfolding shared_checks
  shared-pass i zero rest e = ((λ j h. absurd (omega arith)), e)
  shared-pass i (suc n) rest e =
      let a = one_passes 20 (bin_round r w D i) (after_taus r + 2 * suc i) _ e in
      let b = one_passes 21 (fld_round r w D i) (after_taus r + 2 * suc i) (shared_checks r w D (suc i) n ++ rest) a.1 in
      let c = shared-pass (suc i) n rest b.1 in
      (at i n a.0 b.0 c.0, c.1)
    where
      at : (i n : ℕ) → bin_round r w D i ≡ true → fld_round r w D i ≡ true
          → ((j : ℕ) → j < n → (bin_round r w D (suc i + j) ≡ true) × (fld_round r w D (suc i + j) ≡ true))
          → (j : ℕ) → j < suc n → (bin_round r w D (i + j) ≡ true) × (fld_round r w D (i + j) ≡ true)
      at i n a b c zero h = rw (zero_right i) (a, b)
        where
          zero_right : (i : ℕ) → i + 0 ≡ i
          zero_right i = omega arith
      at i n a b c (suc j) h = rw (suc-right i j) (c j (omega arith))
        where
          suc-right : (i j : ℕ) → i + suc j ≡ suc i + j
          suc-right i j = omega arith

  pass-shared : (i n : ℕ) (rest : List Check) → ((j : ℕ) → j < n → (bin_round r w D (i + j) ≡ true) × (fld_round r w D (i + j) ≡ true))
      → first_failure rest ≡ 0
      → first_failure (shared_checks r w D i n ++ rest) ≡ 0
  unfolding shared_checks
  pass-shared i zero rest h e = e
  pass-shared i (suc n) rest h e =
      passes-one 20 (bin_round r w D i) (after_taus r + 2 * suc i)
      (record { refusal = 22; passes = fld_round r w D i; events = after_taus r + 2 * suc i } ∷ (shared_checks r w D (suc i) n ++ rest))
      (here i n h).0
      (passes-one 21 (fld_round r w D i) (after_taus r + 2 * suc i) (shared_checks r w D (suc i) n ++ rest) (here i n h).1
      (pass-shared (suc i) n rest (later i n h) e))
    where
      here : (i n : ℕ) → ((j : ℕ) → j < suc n → (bin_round r w D (i + j) ≡ true) × (fld_round r w D (i + j) ≡ true))
          → (bin_round r w D i ≡ true) × (fld_round r w D i ≡ true)
      here i n h = subst (λ (k : ℕ). (bin_round r w D k ≡ true) × (fld_round r w D k ≡ true)) (omega arith) (h 0 (omega arith))

      later : (i n : ℕ) → ((j : ℕ) → j < suc n → (bin_round r w D (i + j) ≡ true) × (fld_round r w D (i + j) ≡ true))
          → (j : ℕ) → j < n → (bin_round r w D (suc i + j) ≡ true) × (fld_round r w D (suc i + j) ≡ true)
      later i n h j k = subst (λ (k : ℕ). (bin_round r w D k ≡ true) × (fld_round r w D k ≡ true)) (omega arith) (h (suc j) (omega arith))

  -- ---- all checks in one row
  abbrev tab : ℕ → (ℕ → Bool) → (ℕ → ℕ) → ℕ → List Check
  tab k f g n = tabulate (λ i. record { refusal = k; passes = f i; events = g i }) n

  -- the events before the checks of the rows and of the inner rounds
  abbrev at_bin : ℕ → ℕ
  at_bin i = after_shared r + 2 * suc i

  abbrev at_fld : ℕ → ℕ
  at_fld i = after_bin r + 2 * suc i

  abbrev at_inner : ℕ → ℕ
  at_inner i = after_alphas r + 2 * i

  abbrev inner_round : ℕ → Bool
  inner_round i = round_holds (inner_claim r w D) (inner_rounds r w) D.inner i

  bin_end : Bool
  bin_end = eqb (running 0 (bin_messages r w) (D.shared ++ D.row_bin))
      (outer_end (eq_points D.tau_bin (D.row_bin ++ login_point D)) (terminal r w 0) (terminal r w 1) (terminal r w 2))

  fld_end : Bool
  fld_end = eqb (running 0 (fld_messages r w) (D.shared ++ D.row_fld))
      (outer_end (eq_points D.tau_fld (D.row_fld ++ login_point D)) (terminal r w 3) (terminal r w 4) (terminal r w 5))

  inner_last : Bool
  inner_last = eqb (running (inner_claim r w D) (inner_rounds r w) D.inner) (inner_end (mle (combined r D) D.inner) (value_z r w))

  identical : Bool
  identical = eqb ((1 ⊕ top_element r D) ⊗ segment_sum r.lengths (low_point r D) 0 (segment_values r w)
      ⊕ top_element r D ⊗ mle (public_folded r.q (r.m / 2) x (login_point D)) (low_point r D)) (value_z r w)

  abbrev from_inner : List Check
  from_inner = tab 27 inner_round at_inner (log_cols r) ++ (record { refusal = 28; passes = inner_last; events = after_inner r } ∷ record { refusal = 29; passes = identical; events = after_inner r + 1 }
      ∷ [])

  abbrev from_ends : List Check
  from_ends = record { refusal = 25; passes = bin_end; events = after_outer r } ∷ record { refusal = 26; passes = fld_end; events = after_outer r } ∷ from_inner

  abbrev from_rows : List Check
  from_rows = tab 23 (λ i. bin_round r w D (log_logins r + i)) at_bin (log_bin r)
      ++ (tab 24 (λ i. fld_round r w D (log_logins r + i)) at_fld (log_fld r) ++ from_ends)

  opened : checks r x w D ≡ shared_checks r w D 0 (log_logins r) ++ from_rows
  unfolding checks row_checks terminal_checks inner_checks identity_check bin_end fld_end inner_last identical
  opened = ap (λ (l : List Check). shared_checks r w D 0 (log_logins r) ++ l)
      (ap (λ (l : List Check). tab 23 (λ i. bin_round r w D (log_logins r + i)) at_bin (log_bin r)
      ++ tab 24 (λ i. fld_round r w D (log_logins r + i)) at_fld (log_fld r) ++ (record { refusal = 25; passes = bin_end; events = after_outer r }
      ∷ record { refusal = 26; passes = fld_end; events = after_outer r } ∷ l))
      (append_assoc (tab 27 inner_round at_inner (log_cols r)) (record { refusal = 28; passes = inner_last; events = after_inner r } ∷ [])
      (record { refusal = 29; passes = identical; events = after_inner r + 1 } ∷ []))
      ∙ append_assoc (tab 23 (λ i. bin_round r w D (log_logins r + i)) at_bin (log_bin r))
      (tab 24 (λ i. fld_round r w D (log_logins r + i)) at_fld (log_fld r)) from_ends)

  -- ---- sizes
  bin-length : length (bin_messages r w) ≡ log_logins r + log_bin r
  unfolding bin_messages
  bin-length = length-append (tabulate (λ i. part (8 * i) 4 w) (log_logins r)) _
      ∙ ap₂ ◌+◌ (tabulate-length _ (log_logins r)) (tabulate-length _ (log_bin r))

  fld-length : length (fld_messages r w) ≡ log_logins r + log_fld r
  unfolding fld_messages
  fld-length = length-append (tabulate (λ i. part (8 * i + 4) 4 w) (log_logins r)) _
      ∙ ap₂ ◌+◌ (tabulate-length _ (log_logins r)) (tabulate-length _ (log_fld r))

  inner-length : length (inner_rounds r w) ≡ log_cols r
  unfolding inner_rounds
  inner-length = tabulate-length _ (log_cols r)

  either : (f : ℕ → Bool) (s b : ℕ) → ((j : ℕ) → j < s → f j ≡ true) → ((j : ℕ) → j < b → f (s + j) ≡ true) → (i : ℕ) → i < s + b
      → f i ≡ true
  either f s b h k i l = go (ltb i s) refl
    where
      go : (t : Bool) → ltb i s ≡ t → f i ≡ true
      go true e = h i (ltb-true i s e)
      go false e = let m : s ≤ i = ltb-false i s e in subst (λ (j : ℕ). f j ≡ true) (back m) (k (i - s) (omega (arith, m)))
        where
          back : s ≤ i → s + (i - s) ≡ i
          back m = omega arith

  module _ (C : Cut r D) where
    bin-count : length (D.shared ++ D.row_bin) ≡ log_logins r + log_bin r
    bin-count = length-append D.shared D.row_bin ∙ ap₂ ◌+◌ C.shared C.row_bin

    fld-count : length (D.shared ++ D.row_fld) ≡ log_logins r + log_fld r
    fld-count = length-append D.shared D.row_fld ∙ ap₂ ◌+◌ C.shared C.row_fld

    pub holds_of : first_failure (checks r x w D) ≡ 0 → Holds r x w D
    unfolding bin_end fld_end inner_last identical
    holds_of e =
        let a = shared-pass 0 (log_logins r) from_rows (subst (λ (l : List Check). first_failure l ≡ 0) opened e) in
        let b = all_pass 22 (λ i. bin_round r w D (log_logins r + i)) at_bin (log_bin r)
        (tab 24 (λ i. fld_round r w D (log_logins r + i)) at_fld (log_fld r) ++ from_ends) a.1 in
        let c = all_pass 23 (λ i. fld_round r w D (log_logins r + i)) at_fld (log_fld r) from_ends b.1 in
        let p = one_passes 24 bin_end (after_outer r) (record { refusal = 26; passes = fld_end; events = after_outer r } ∷ from_inner) c.1 in
        let q = one_passes 25 fld_end (after_outer r) from_inner p.1 in
        let g = all_pass 26 inner_round at_inner (log_cols r) (record { refusal = 28; passes = inner_last; events = after_inner r }
        ∷ record { refusal = 29; passes = identical; events = after_inner r + 1 } ∷ []) q.1 in
        let t = one_passes 27 inner_last (after_inner r) (record { refusal = 29; passes = identical; events = after_inner r + 1 } ∷ []) g.1 in
        let z = one_passes 28 identical (after_inner r + 1) [] t.1 in
        record {
          bin = rounds-pass 0 (bin_messages r w) (D.shared ++ D.row_bin) (bin-length ∙ sym bin-count)
              (λ i h. either (bin_round r w D) (log_logins r) (log_bin r)
              (λ j k. subst (λ (n : ℕ). bin_round r w D n ≡ true) (zero-add j) (a.0 j k).0) b.0 i (rw bin-count at h));
          fld = rounds-pass 0 (fld_messages r w) (D.shared ++ D.row_fld) (fld-length ∙ sym fld-count)
              (λ i h. either (fld_round r w D) (log_logins r) (log_fld r)
              (λ j k. subst (λ (n : ℕ). fld_round r w D n ≡ true) (zero-add j) (a.0 j k).1) c.0 i (rw fld-count at h));
          bin-end = eqb-true _ _ p.0;
          fld-end = eqb-true _ _ q.0;
          inner = rounds-pass (inner_claim r w D) (inner_rounds r w) D.inner (inner-length ∙ sym C.inner)
              (λ i h. g.0 i (rw C.inner at h));
          inner-end = eqb-true _ _ t.0;
          identity = eqb-true _ _ z.0;
        }

    pub of-holds : Holds r x w D → first_failure (checks r x w D) ≡ 0
    unfolding bin_end fld_end inner_last identical
    of-holds H =
        subst (λ (l : List Check). first_failure l ≡ 0) (sym opened)
        (pass-shared 0 (log_logins r) from_rows
        (λ j k. (
          subst (λ (n : ℕ). bin_round r w D n ≡ true) (sym (zero-add j)) (bin_at j (omega arith)),
          subst
              (λ (n : ℕ). fld_round r w D n ≡ true) (sym (zero-add j)) (fld-at j (omega arith)),
        ))
        (pass_all 22 (λ i. bin_round r w D (log_logins r + i)) at_bin (log_bin r)
        (tab 24 (λ i. fld_round r w D (log_logins r + i)) at_fld (log_fld r) ++ from_ends) (λ j k. bin_at (log_logins r + j) (omega arith))
        (pass_all 23 (λ i. fld_round r w D (log_logins r + i)) at_fld (log_fld r) from_ends (λ j k. fld-at (log_logins r + j) (omega arith))
        (passes-one 24 bin_end (after_outer r) (record { refusal = 26; passes = fld_end; events = after_outer r } ∷ from_inner) (eq-eqb _ _ H.bin-end)
        (passes-one 25 fld_end (after_outer r) from_inner (eq-eqb _ _ H.fld-end)
        (pass_all 26 inner_round at_inner (log_cols r) (record { refusal = 28; passes = inner_last; events = after_inner r } ∷ record { refusal = 29; passes = identical; events = after_inner r + 1 } ∷ [])
        (λ j k. pass-rounds (inner_claim r w D) (inner_rounds r w) D.inner H.inner j (rw C.inner k))
        (passes-one 27 inner_last (after_inner r) (record { refusal = 29; passes = identical; events = after_inner r + 1 } ∷ []) (eq-eqb _ _ H.inner-end)
        (passes-one 28 identical (after_inner r + 1) [] (eq-eqb _ _ H.identity) nothing))))))))
      where
        bin_at : (i : ℕ) → i < log_logins r + log_bin r → bin_round r w D i ≡ true
        bin_at i h = pass-rounds 0 (bin_messages r w) (D.shared ++ D.row_bin) H.bin i (rw bin-count h)

        fld-at : (i : ℕ) → i < log_logins r + log_fld r → fld_round r w D i ≡ true
        fld-at i h = pass-rounds 0 (fld_messages r w) (D.shared ++ D.row_fld) H.fld i (rw fld-count h)

        nothing : first_failure [] ≡ 0
        nothing = unfold first_failure in refl
