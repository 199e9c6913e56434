use native.Mathlib.Omega.{arith}
use Rattle.magnetar_batch.proofs.TableWalk.{moved, moved_none}
use Rattle.magnetar_batch.proofs.table.move_table.Goals as goal

pub returns-then-m-s : goal.returns-then-m-s
returns-then-m-s c =
    let x = c.args in
    moved x.m x.s.now _ _ x.out.now (omega arith) c.copy.ensures c.clear.ensures

pub returns-else-m-s : goal.returns-else-m-s
returns-else-m-s c =
    let x = c.args in
    moved_none x.m x.s.now _ x.out.now (omega arith) c.copy-else-m-s.ensures
