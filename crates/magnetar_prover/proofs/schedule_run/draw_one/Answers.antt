use native.Mathlib.Omega.{arith}
use Rattle.magnetar_prover.proofs.Staging.{drawn-one}
use Rattle.magnetar_prover.proofs.schedule_run.draw_one.Goals as goal

pub returns : goal.returns
returns c = λ w next was whole rest g.
    drawn-one _ c.draw-u.result (omega arith) c.draw-u.ensures c.drawn_to.ensures g
