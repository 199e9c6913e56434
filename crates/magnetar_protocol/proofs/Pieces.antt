-- The parts of the proof's elements are those that the theory takes.
-- Assumes nothing.
use mathlib.Core.Path.{◌≡◌, refl, sym, ap, ap₂, ◌∙◌}
use mathlib.Core.List.{List, ◌∷◌, ◌++◌, map}
use Prim.Native.Nat.{ℕ, zero, suc, ◌+◌, ◌*◌}
use native.Mathlib.Nat.{mul-suc}
use native.Mathlib.Omega.{arith}
use lib.ListN.{get_or, take, drop}
use lib.Seq.{drop-drop}
use Rattle.magnetar_field.specs.Tabulate.{tabulate}
use Rattle.magnetar_matrix.specs.Batch.{Relation}
use Rattle.magnetar_theory.specs.Lists.{rounds}
use Rattle.magnetar_theory.specs.Gf128.{element, gf128}
use Rattle.magnetar_protocol.specs.Shape.{log_logins, log_bin, log_fld, log_cols, before_terminals, before_inner, before_end}
use Rattle.magnetar_protocol.specs.Proof.{bin_messages, fld_messages, terminal, inner_rounds, value_z, segment_values}
use Rattle.magnetar_protocol.specs.Theory.{els, log_half, proof_e}
use Rattle.magnetar_protocol.proofs.Elements.{map-append, map-take, map-drop, els-at}

-- c messages of n elements, the first at o, each st elements after the one before
rounds-are : (c st n o : ℕ) (w : List ℕ) (g : ℕ → ℕ) → ((i : ℕ) → g i ≡ o + st * i)
    → rounds gf128 c st n (drop o (els w)) ≡ map els (tabulate (λ i. take n (drop (g i) w)) c)
unfolding tabulate
rounds-are zero st n o w g h = refl
rounds-are (suc c) st n o w g h =
    ap₂ ◌∷◌ (sym (map-take element n (drop (g 0) w) ∙ ap (take n) (map-drop element (g 0) w ∙ ap (λ (k : ℕ). drop k (els w)) first)))
    (ap (rounds gf128 c st n) (drop-drop st o (els w)) ∙ rounds-are c st n (o + st) w (λ i. g (suc i)) (λ i. h (suc i) ∙ next i))
  where
    first : g 0 ≡ o
    first = h 0 ∙ omega arith

    next : (i : ℕ) → o + st * suc i ≡ o + st + st * i
    next i = omega (arith, mul-suc st i)

module _ (r : Relation) (w : List ℕ) where
  pub bin-are : (proof_e r w).bin_ms ≡ map els (bin_messages r w)
  unfolding bin_messages
  bin-are =
      ap₂ ◌++◌ (rounds-are (log_logins r) 8 4 0 w (λ i. 8 * i) (λ i. omega arith))
      (rounds-are (log_bin r) 4 4 (8 * log_logins r) w (λ i. 8 * log_logins r + 4 * i) (λ i. refl))
      ∙ sym (map-append els (tabulate (λ i. take 4 (drop (8 * i) w)) (log_logins r))
      (tabulate (λ i. take 4 (drop (8 * log_logins r + 4 * i) w)) (log_bin r)))

  pub fld-are : (proof_e r w).fld_ms ≡ map els (fld_messages r w)
  unfolding fld_messages
  fld-are =
      ap₂ ◌++◌ (rounds-are (log_logins r) 8 4 4 w (λ i. 8 * i + 4) (λ i. omega arith))
      (rounds-are (log_fld r) 4 4 (8 * log_logins r + 4 * log_bin r) w (λ i. 8 * log_logins r + 4 * log_bin r + 4 * i) (λ i. refl))
      ∙ sym (map-append els (tabulate (λ i. take 4 (drop (8 * i + 4) w)) (log_logins r))
      (tabulate (λ i. take 4 (drop (8 * log_logins r + 4 * log_bin r + 4 * i) w)) (log_fld r)))

  module _ (cols : log_cols r ≡ suc (log_half r)) where
    pub inner-are : (proof_e r w).inner_ms ≡ map els (inner_rounds r w)
    unfolding inner_rounds
    inner-are =
        ap (λ (c : ℕ). rounds gf128 c 3 3 (drop (before_inner r) (els w))) (sym cols)
        ∙ rounds-are (log_cols r) 3 3 (before_inner r) w (λ i. before_inner r + 3 * i) (λ i. refl)

    pub vz-is : (proof_e r w).vz ≡ element (value_z r w)
    unfolding value_z
    vz-is = ap (λ (k : ℕ). get_or (els w) (before_inner r + 3 * k) (element 0)) (sym cols) ∙ els-at w (before_end r)

    pub values_of : (proof_e r w).values ≡ els (segment_values r w)
    unfolding segment_values
    values_of = ap (λ (k : ℕ). drop k (els w)) place ∙ sym (map-drop element (before_end r + 1) w)
      where
        place : before_terminals r + 7 + 3 * suc (log_half r) ≡ before_end r + 1
        place = omega arith

  pub terminal-is : (i : ℕ) → get_or (els w) (before_terminals r + i) (element 0) ≡ element (terminal r w i)
  terminal-is i = els-at w (before_terminals r + i)
