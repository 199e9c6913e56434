use Rattle.magnetar_matrix.specs.Matrix.{binary}
use Rattle.magnetar_matrix.specs.Lent.{matrix_of}
use Rattle.magnetar_r1cs.specs.Entries.{binary_refusal}
use Rattle.magnetar_r1cs.proofs.r1cs.is_binary.Goals as goal

pub returns : goal.returns
unfolding binary_refusal binary matrix_of
returns g c = rw (← c.in_ok-lone.ensures, c.all_bits.ensures)
