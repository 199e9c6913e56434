use native.Mathlib.Omega.{arith}
use Rattle.magnetar_field.specs.Gf128.{value}
use Rattle.magnetar_batch.proofs.TableWalk.{eq-behind-read, eq-behind-none}
use Rattle.magnetar_batch.proofs.table.eq_from.Goals as goal

pub returns-then-m-s : goal.returns-then-m-s
returns-then-m-s c =
    let x = c.args in
    eq-behind-read x.m x.n c.min-l.result c.log2.result (value x.c) x.p x.s.now _ (omega arith) (omega arith) c.log2.ensures.0 c.build-done.ensures.table

pub returns-else-m-s : goal.returns-else-m-s
returns-else-m-s c = let x = c.args in eq-behind-none x.m _ _ x.s.now (omega arith)
