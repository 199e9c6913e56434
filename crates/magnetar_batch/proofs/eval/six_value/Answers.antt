use native.Mathlib.Omega.{arith}
use Rattle.magnetar_matrix.specs.Numbers.{entries_by, counts}
use Rattle.magnetar_batch.proofs.ValueWalk.{six-ends}
use Rattle.magnetar_batch.proofs.eval.six_value.Goals as goal

pub returns : goal.returns
returns g c =
    let x = c.args in
    let N = g.E.Entries.numbers x.es.now in
    six-ends x.m x.sh (counts N) (entries_by N) x.al x.pb x.pf x.c _ _ (rw (c.ends_of-ends.ensures, c.len.ensures)) (omega arith) x.s.now
    _ _ _ _ _ _ _ c.columns_behind.ensures c.system_value-x.ensures c.system_value-y.ensures c.clear_both.ensures c.add.ensures
