use mathlib.Core.Path.{refl}
use native.Mathlib.Omega.{arith}
use Rattle.magnetar_matrix.specs.Packed.{packed_bit}
use Rattle.magnetar_matrix.proofs.Digits.{bit-missing}
use Rattle.magnetar_matrix.proofs.step.bit_at.Goals as goal

pub returns-then-k-login : goal.returns-then-k-login
unfolding packed_bit
returns-then-k-login c = record { value = refl; upper_bound = omega arith }

pub returns-else-k-login-clause-value : goal.returns-else-k-login-clause-value
returns-else-k-login-clause-value c = bit-missing _ _ (omega arith)
