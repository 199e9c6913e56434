use native.Mathlib.Omega.{arith}
use Rattle.magnetar_matrix.proofs.Walked.{walked_start}
use Rattle.magnetar_r1cs.proofs.Walks.{added, all-added}
use Rattle.magnetar_r1cs.proofs.masks.flips_of.Goals as goal

pub loop-i-init : goal.loop-i-init
loop-i-init g c = walked_start _ _ _

pub loop-i-preserved : goal.loop-i-preserved
loop-i-preserved g c =
    rw c.add_flip.ensures (added (g.E.Entries.numbers c.args.es.now) c.loop-i.i _ _ _ c.loop-i.invariant c.at.result (omega arith) c.at.ensures)

pub returns : goal.returns
returns g c = all-added (g.E.Entries.numbers c.args.es.now) c.loop-i.i _ _ _ c.loop-i.invariant (omega arith)
