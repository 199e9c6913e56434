use Rattle.magnetar_prover.proofs.EqTablePlaced.{eq-table-placed}
use native.Mathlib.Omega.{arith}
use Rattle.magnetar_prover.proofs.ends.begin_table.Goals as goal

pub returns : goal.returns
returns c = let x = c.args in
    eq-table-placed x.draws.now x.s.now c.build-done.new.out x.o x.x x.w (omega arith) (omega arith) (omega arith) c.requires.w_value c.build-done.ensures.table
