use Rattle.std.proofs.Common.{◌∙◌, arith}
use Rattle.magnetar_field.proofs.Power.{power-bit-zero, power-bit-one}
use Rattle.magnetar_field.proofs.gf128.pow_bit.Goals.{then-bit-eq0, else-bit-eq0}
use Rattle.magnetar_field.proofs.gf128.pow_bit.Goals as goal

pub returns-clause-result : goal.returns-clause-result
returns-clause-result c = elim c.if-bit-eq0.branch [
  | then-bit-eq0 w ↦ rw w.result-is (power-bit-zero _ _ _ c.requires.1 w.if-bit-eq0.true)
  | else-bit-eq0 w ↦ rw w.result-is (w.mul.ensures ∙ power-bit-one _ _ _ c.requires.2 (omega arith))
]
