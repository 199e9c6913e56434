-- The parts of the honest proof is the honest messages and values.
-- Assumes nothing.
use mathlib.Core.Path.{◌≡◌, refl, sym, ap, ap₂, ◌∙◌}
use mathlib.Core.List.{List, [], ◌∷◌, ◌++◌}
use Prim.Native.Nat.{ℕ, suc, ◌+◌, ◌-◌, ◌*◌, ◌<◌}
use native.Mathlib.Nat.{zero-add, add-zero}
use native.Mathlib.Omega.{arith}
use lib.ListN.{length, get_or, take, drop, length-append, length-drop, take-append-drop, get_or-append}
use lib.Seq.{drop_at, get_or-drop, length-take-le}
use Rattle.magnetar_field.specs.Tabulate.{tabulate}
use Rattle.magnetar_multilinear.specs.Multilinear.{mle}
use Rattle.magnetar_field.proofs.Tabulation.{tabulate-length}
use Rattle.magnetar_sumcheck_verifier.specs.Outer.{outer_message, times_eq}
use Rattle.magnetar_sumcheck_verifier.specs.Inner.{inner_message, inner_sums}
use Rattle.magnetar_sumcheck_verifier.specs.Messages.{Outer, outer_next, outer_fold, outer_messages, inner_messages}
use Rattle.magnetar_multilinear.specs.Multilinear.{bind_var}
use Rattle.magnetar_matrix.specs.Batch.{Relation, Batch, PublicColumns}
use Rattle.magnetar_protocol.specs.Shape.{log_logins, log_bin, log_fld, log_cols, before_terminals, before_inner, before_end, proof_elements}
use Rattle.magnetar_protocol.specs.Proof.{part, bin_messages, fld_messages, terminal, inner_rounds, value_z, segment_values}
use Rattle.magnetar_protocol.specs.Draws.{Draws}
use Rattle.magnetar_protocol.specs.Checks.{combined}
use Rattle.magnetar_protocol.specs.Prover.{joined, interleaved, outer_rounds, bin_rounds, fld_rounds, terminal_values, folded_z, true_values, honest_proof}
use Rattle.magnetar_protocol.proofs.SizeFacts.{Cut}
use Rattle.magnetar_protocol.proofs.Chunks.{Each, each_take, each-drop, joined_length, interleaved-length, past, chunks, first-turns, second-turns}

-- ---- sizes of messages
pub outer-each : (S : Outer) (rs : List ℕ) → Each 4 (outer_messages S rs)
unfolding outer_messages outer_next outer_message times_eq
outer-each S [] = tt
outer-each S (r ∷ rs) = (refl, outer-each (outer_fold r S) rs)

pub outer-count : (S : Outer) (rs : List ℕ) → length (outer_messages S rs) ≡ length rs
unfolding outer_messages
outer-count S [] = refl
outer-count S (r ∷ rs) = ap suc (outer-count (outer_fold r S) rs)

pub inner-each : (t z rs : List ℕ) → Each 3 (inner_messages t z rs)
unfolding inner_messages inner_message inner_sums
inner-each t z [] = tt
inner-each t z (r ∷ rs) = (refl, inner-each (bind_var 0 r t) (bind_var 0 r z) rs)

pub inner-count : (t z rs : List ℕ) → length (inner_messages t z rs) ≡ length rs
unfolding inner_messages
inner-count t z [] = refl
inner-count t z (r ∷ rs) = ap suc (inner-count (bind_var 0 r t) (bind_var 0 r z) rs)

module _ (r : Relation) (b : Batch) (x : PublicColumns) (D : Draws) (C : Cut r D) where
  abbrev bin : List (List ℕ)
  bin = bin_rounds r b x D

  abbrev fld : List (List ℕ)
  fld = fld_rounds r b x D

  abbrev inn : List (List ℕ)
  inn = inner_messages (combined r D) (folded_z r b x D) D.inner

  abbrev W : List ℕ
  W = honest_proof r b x D

  abbrev s : ℕ
  s = log_logins r

  bin-each : Each 4 bin
  unfolding outer_rounds
  bin-each = outer-each _ (D.shared ++ D.row_bin)

  fld-each : Each 4 fld
  unfolding outer_rounds
  fld-each = outer-each _ (D.shared ++ D.row_fld)

  bin-count : length bin ≡ s + log_bin r
  unfolding outer_rounds
  bin-count = outer-count _ (D.shared ++ D.row_bin) ∙ length-append D.shared D.row_bin ∙ ap₂ ◌+◌ C.shared C.row_bin

  fld-count : length fld ≡ s + log_fld r
  unfolding outer_rounds
  fld-count = outer-count _ (D.shared ++ D.row_fld) ∙ length-append D.shared D.row_fld ∙ ap₂ ◌+◌ C.shared C.row_fld

  inn-count : length inn ≡ log_cols r
  inn-count = inner-count (combined r D) (folded_z r b x D) D.inner ∙ C.inner

  bin₀ : length (take s bin) ≡ s
  bin₀ = length-take-le s bin (omega (arith, bin-count))

  fld₀ : length (take s fld) ≡ s
  fld₀ = length-take-le s fld (omega (arith, fld-count))

  bin₁ : length (drop s bin) ≡ log_bin r
  bin₁ = length-drop s bin ∙ omega (arith, bin-count)

  fld₁ : length (drop s fld) ≡ log_fld r
  fld₁ = length-drop s fld ∙ omega (arith, fld-count)

  -- ---- what stands from each place on
  abbrev end₅ : List ℕ
  end₅ = mle (folded_z r b x D) D.inner ∷ true_values r b D

  abbrev end₄ : List ℕ
  end₄ = joined inn ++ end₅

  abbrev end₃ : List ℕ
  end₃ = terminal_values r b x D ++ end₄

  abbrev end₂ : List ℕ
  end₂ = joined (drop s fld) ++ end₃

  abbrev end₁ : List ℕ
  end₁ = joined (drop s bin) ++ end₂

  whole : W ≡ interleaved (take s bin) (take s fld) ++ end₁
  unfolding honest_proof
  whole = refl

  at₁ : drop (8 * s) W ≡ end₁
  at₁ = ap (drop (8 * s)) whole ∙ drop_at (interleaved (take s bin) (take s fld)) end₁ (8 * s)
      (interleaved-length (take s bin) (take s fld) (each_take 4 s bin bin-each) (each_take 4 s fld fld-each) (fld₀ ∙ sym bin₀)
      ∙ ap (λ (k : ℕ). 8 * k) bin₀)

  at₂ : drop (8 * s + 4 * log_bin r) W ≡ end₂
  at₂ = past (8 * s) (4 * log_bin r) W (joined (drop s bin)) end₂ at₁
      (joined_length 4 (drop s bin) (each-drop 4 s bin bin-each) ∙ ap (λ (k : ℕ). 4 * k) bin₁)

  pub at₃ : drop (before_terminals r) W ≡ end₃
  at₃ = past (8 * s + 4 * log_bin r) (4 * log_fld r) W (joined (drop s fld)) end₃ at₂
      (joined_length 4 (drop s fld) (each-drop 4 s fld fld-each) ∙ ap (λ (k : ℕ). 4 * k) fld₁)

  at₄ : drop (before_inner r) W ≡ end₄
  unfolding terminal_values
  at₄ = past (before_terminals r) 6 W (terminal_values r b x D) end₄ at₃ refl

  at₅ : drop (before_end r) W ≡ end₅
  at₅ = past (before_inner r) (3 * log_cols r) W (joined inn) end₅ at₄
      (joined_length 3 inn (inner-each (combined r D) (folded_z r b x D) D.inner) ∙ ap (λ (k : ℕ). 3 * k) inn-count)

  -- ---- the parts
  pub bin-part : bin_messages r W ≡ bin
  unfolding bin_messages
  bin-part =
      ap₂ ◌++◌
      (ap (tabulate (λ i. part (8 * i) 4 W)) (sym bin₀) ∙ first-turns 0 W (λ i. 8 * i) (take s bin) (take s fld) end₁
      (each_take 4 s bin bin-each) (each_take 4 s fld fld-each) (fld₀ ∙ sym bin₀) whole (λ i. sym (zero-add (8 * i))))
      (ap (tabulate (λ i. part (8 * s + 4 * i) 4 W)) (sym bin₁)
      ∙ chunks 4 (8 * s) W (λ i. 8 * s + 4 * i) (drop s bin) end₂ (each-drop 4 s bin bin-each) at₁ (λ i. refl))
      ∙ take-append-drop s bin

  pub fld-part : fld_messages r W ≡ fld
  unfolding fld_messages
  fld-part =
      ap₂ ◌++◌
      (ap (tabulate (λ i. part (8 * i + 4) 4 W)) (sym fld₀)
      ∙ second-turns 0 W (λ i. 8 * i + 4) (take s bin) (take s fld) end₁ (each_take 4 s bin bin-each) (each_take 4 s fld fld-each)
      (fld₀ ∙ sym bin₀) whole (λ i. omega arith))
      (ap (tabulate (λ i. part (8 * s + 4 * log_bin r + 4 * i) 4 W)) (sym fld₁)
      ∙ chunks 4 (8 * s + 4 * log_bin r) W (λ i. 8 * s + 4 * log_bin r + 4 * i) (drop s fld) end₃ (each-drop 4 s fld fld-each) at₂
      (λ i. refl))
      ∙ take-append-drop s fld

  pub inner-part : inner_rounds r W ≡ inn
  unfolding inner_rounds
  inner-part = ap (tabulate (λ i. part (before_inner r + 3 * i) 3 W)) (sym inn-count)
      ∙ chunks 3 (before_inner r) W (λ i. before_inner r + 3 * i) inn end₅ (inner-each (combined r D) (folded_z r b x D) D.inner) at₄
      (λ i. refl)

  pub terminal-part : (i : ℕ) → i < 6 → terminal r W i ≡ get_or (terminal_values r b x D) i 0
  unfolding terminal_values
  terminal-part i h = sym (get_or-drop (before_terminals r) W i 0) ∙ ap (λ (l : List ℕ). get_or l i 0) at₃
      ∙ get_or-append (terminal_values r b x D) end₄ 0 i h

  pub value-part : value_z r W ≡ mle (folded_z r b x D) D.inner
  unfolding value_z
  value-part = ap (λ (k : ℕ). get_or W k 0) (sym (add-zero (before_end r))) ∙ sym (get_or-drop (before_end r) W 0 0)
      ∙ ap (λ (l : List ℕ). get_or l 0 0) at₅

  pub segment-part : segment_values r W ≡ true_values r b D
  unfolding segment_values
  segment-part = past (before_end r) 1 W (mle (folded_z r b x D) D.inner ∷ []) (true_values r b D) at₅ refl

  -- as many as document 01 says
  pub honest-length : length W ≡ proof_elements r
  honest-length = sums (length W) (before_end r) (length (true_values r b D)) (length r.lengths)
      (sym (length-drop (before_end r) W) ∙ ap length at₅) count
    where
      count : length (true_values r b D) ≡ length r.lengths
      count = unfold true_values in tabulate-length _ (length r.lengths)

      sums : (n e v l : ℕ) → n - e ≡ suc v → v ≡ l → n ≡ e + 1 + l
      sums n e v l h k = omega arith
