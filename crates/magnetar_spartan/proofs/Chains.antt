-- The numbers that the refusals compare: a layout whose columns are a size, and products that stay small.
-- Assumes nothing.
use mathlib.Core.Path.{◌≡◌, refl, sym, ap, ◌∙◌, subst}
use mathlib.Core.Bool.{Bool, true, false, not}
use Rattle.std.specs.Prelude.{Result, Ok, Err, if◌then◌else◌}
use lib.Dec.{leb, ltb}
use lib.ListN.{length}
use mathlib.Core.List.{List}
use Prim.Native.Nat.{ℕ, ◌+◌, ◌-◌, ◌*◌, ◌≤◌, ◌^◌, ◌/◌}
use native.Mathlib.Nat.{le_trans, mul-le-mul_left, mul-le-mul_right}
use borrow.Author.Tests.{le-leb, lt-leb, eq-eqb, ltb-true, ltb-false}
use Rattle.magnetar_field.specs.Sizes.{log₂}
use native.Mathlib.Omega.{arith}
use Rattle.magnetar_layout.specs.Tests.{or_refuse, first_refusal, is_size, layout_tests, room_test_of, Sized}
use Rattle.magnetar_layout.specs.Entries.{layout_refusal}
use Rattle.magnetar_layout.specs.Login.{login_words}
use Rattle.magnetar_layout.proofs.Laid.{even-size}
use Rattle.magnetar_field.specs.declared.refusal.Refusal.{Refusal}
use Rattle.magnetar_field.specs.declared.refusal.Refusal.TheVariants.{Room}
use Rattle.magnetar_field.specs.Number.{number_of}
use Rattle.magnetar_protocol.specs.Shape.{proof_total, proof_elements, claim_count, sizes_only}
use Rattle.magnetar_protocol.specs.RunTests.{run_tests}
use Rattle.magnetar_protocol.specs.Draws.{draw_count, draw_total}
use Rattle.magnetar_protocol.specs.Scratch.{verifier_scratch, prover_scratch, verifier_scratch_words, prover_scratch_words}
use Rattle.magnetar_protocol.specs.Scratch.{ScratchWords}
use Rattle.magnetar_protocol.specs.declared.rounds.Rounds.{Rounds}
use Rattle.magnetar_protocol.specs.Rounds.{rounds_of}
use Rattle.magnetar_protocol.specs.Scratch.{asked}
use Rattle.magnetar_protocol.proofs.Guards.{verifier-within, prover-within}
use Rattle.magnetar_layout.proofs.Passing.{required}
use Rattle.magnetar_spartan.proofs.PassedTests.{some}

-- a login of at most 32768 columns has at most 512 words
pub login-most : (w : ℕ) → w ≤ 32768 → login_words w ≤ 512
unfolding login_words
login-most w h = omega arith

-- ---- a size that passes
pub size-passes : (n : ℕ) → Sized 2 65536 n → or_refuse 1 (not (is_size 2 65536 n)) 0 ≡ 0
unfolding is_size or_refuse
size-passes n z = rw (le-leb 2 n z.low, le-leb n 65536 z.high, eq-eqb n (2 ^ log₂ n) z.power)

-- the layout's own refusal, where the columns are a size
pub layout-tests : (m : ℕ) (ns : List ℕ) → Sized 2 65536 m → layout_refusal (m / 2) ns ≡ first_refusal 0 (layout_tests (m / 2) ns)
unfolding layout_refusal
layout-tests m ns z = ap (λ (n : ℕ). first_refusal n (layout_tests (m / 2) ns)) (size-passes (2 * (m / 2)) (subst (Sized 2 65536) (sym (even-size m z)) z))

-- the packed words of q logins
pub product-most : (q k : ℕ) → q ≤ 4096 → k ≤ 512 → q * k ≤ 2097152
product-most q k h l = le_trans (mul-le-mul_left q l) (mul-le-mul_right 512 h)

-- ---- room, as it is compared
not-leb : (a b : ℕ) → ltb b a ≡ not (leb a b)
not-leb a b = go (ltb b a) refl
  where
    go : (c : Bool) → ltb b a ≡ c → ltb b a ≡ not (leb a b)
    go true e = rw (e, lt-leb a b (ltb-true b a e))
    go false e = rw (e, le-leb a b (ltb-false b a e))

pub roomy : (w k n : ℕ) (r : Result Unit Refusal) → k ≡ w → r ≡ (if leb k n then Ok tt else Err Room) → number_of r ≡ first_refusal 0 (room_test_of w n)
roomy w k n r e h = required r (leb k n) Room h ∙ rw (← not-leb, e)

-- the sizes of a run are refused by nothing
module _ (m q b f : ℕ) (none : first_refusal 0 (run_tests m q b f) ≡ 0) where
  pub verifier-asks : (r : Refusal) → asked (Err r) ≡ verifier_scratch_words m q b f → ⊥
  unfolding verifier_scratch_words
  verifier-asks r h = some r (ap (λ (a : ScratchWords). a.code) h ∙ none)

  pub verifier-asked : (n : ℕ) → asked (Ok n) ≡ verifier_scratch_words m q b f → n ≡ verifier_scratch m q b f
  verifier-asked n h = ap (λ (a : ScratchWords). a.words) h ∙ verifier-within m q b f none

  pub prover-asks : (r : Refusal) → asked (Err r) ≡ prover_scratch_words m q b f → ⊥
  unfolding prover_scratch_words
  prover-asks r h = some r (ap (λ (a : ScratchWords). a.code) h ∙ none)

  pub prover-asked : (n : ℕ) → asked (Ok n) ≡ prover_scratch_words m q b f → n ≡ prover_scratch m q b f
  prover-asked n h = ap (λ (a : ScratchWords). a.words) h ∙ prover-within m q b f none

-- ---- the words of a proof and of the claims, by the rounds
pub proof-is : (m q b f : ℕ) (ns : List ℕ) (r : Rounds) (n : ℕ) → r ≡ rounds_of m q b f → n ≡ 2 * proof_total r.shared r.bin r.fld r.inner (length ns)
    → n ≡ 2 * proof_elements (sizes_only m q b f ns)
proof-is m q b f ns r n e h = h ∙ rw e

pub claims-are : (m q b f : ℕ) (ns : List ℕ) (r : Rounds) (n : ℕ) → r ≡ rounds_of m q b f → n ≡ 2 * (r.shared + (r.inner - 1) + length ns)
    → n ≡ 2 * claim_count (sizes_only m q b f ns)
claims-are m q b f ns r n e h = h ∙ rw e

pub draws-are : (m q b f : ℕ) (ns : List ℕ) (r : Rounds) (n : ℕ) → r ≡ rounds_of m q b f → n ≡ 2 * draw_total r.shared r.bin r.fld r.inner
    → n ≡ 2 * draw_count (sizes_only m q b f ns)
draws-are m q b f ns r n e h = h ∙ rw e
