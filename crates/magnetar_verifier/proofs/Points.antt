-- eq of two points as it is answered.
-- Assumes nothing.
use mathlib.Core.Path.{◌≡◌, ap, ◌∙◌}
use Prim.Native.Nat.{ℕ, ◌*◌, ◌/◌, ◌%◌, ◌≤◌}
use native.Mathlib.Omega.{arith}
use borrow.Author.Tests.{eq-eqb, le-ltb}
use Rattle.std.specs.Prelude.{Result, Ok, Err}
use Rattle.std.specs.Result.{result_unwrap_or}
use Rattle.magnetar_field.specs.declared.gf128.Gf128.{Gf128}
use Rattle.magnetar_field.specs.declared.refusal.Refusal.{Refusal}
use Rattle.magnetar_field.specs.Gf128.{value}
use Rattle.magnetar_multilinear.specs.Entries.{answer, answered}
use Rattle.magnetar_sumcheck_prover.specs.Entries.{points_refusal}

-- the element of an answer that is not refused
pub answer-value : (r : Result Gf128 Refusal) (d : Gf128) (n v : ℕ) → n ≡ 0 → answer r ≡ answered n v → value (result_unwrap_or r d) ≡ v
answer-value (Ok g) d n v z e = let f = e ∙ ap (λ (k : ℕ). answered k v) z in cc
answer-value (Err r) d n v z e = let f = e ∙ ap (λ (k : ℕ). answered k v) z in cc

pub points_none : (t c s : ℕ) → t % 2 ≡ 0 → c ≡ t → 2 * s ≤ t → points_refusal t c s ≡ 0
unfolding points_refusal
points_none t c s even same few = simp (eq-eqb (t % 2) 0 even, eq-eqb c t same, le-ltb (t / 2) s (omega arith))
