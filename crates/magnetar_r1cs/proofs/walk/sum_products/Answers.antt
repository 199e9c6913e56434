use Prim.Native.Nat.{◌<◌}
use native.Mathlib.Omega.{arith}
use Rattle.magnetar_matrix.specs.Table.{cross}
use Rattle.magnetar_matrix.proofs.Walked.{summed-start}
use Rattle.magnetar_r1cs.proofs.Lone.{col-inside}
use Rattle.magnetar_r1cs.proofs.Walks.{next, summed, all-summed}
use Rattle.magnetar_r1cs.proofs.walk.sum_products.Goals as goal

pub loop-i-init : goal.loop-i-init
loop-i-init g c = summed-start _ _

pub overflow_add-n : goal.overflow_add-n
overflow_add-n g c =
    let n = next (g.E.Entries.numbers c.args.es.now) c.loop-i.i c.at-e.result (omega arith) c.at-e.ensures in
    let h : c.at-e.result.col < 65536 = col-inside 65536 65536 _ _ c.loop-i.i c.requires.1 n in
    omega arith

pub loop-i-preserved : goal.loop-i-preserved
unfolding cross
loop-i-preserved g c =
    rw (c.add-sum.ensures, c.scale.ensures, c.value.ensures, c.mul-f.ensures, c.get.ensures, c.get-in-loop-i.ensures)
    (summed (g.E.Entries.numbers c.args.es.now) c.loop-i.i _ _ c.loop-i.invariant c.at-e.result (omega arith) c.at-e.ensures)

pub returns : goal.returns
returns g c = all-summed (g.E.Entries.numbers c.args.es.now) c.loop-i.i _ _ c.loop-i.invariant (omega arith)
