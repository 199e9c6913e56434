use Rattle.magnetar_matrix.specs.Numbers.{entries_by}
use Rattle.magnetar_batch.proofs.TableWalk.{both-added}
use Rattle.magnetar_batch.proofs.combo.combine.Goals as goal

pub returns : goal.returns
returns g c =
    let x = c.args in
    both-added x.m x.sh (entries_by (g.E.Entries.numbers x.es.now)) x.al x.pb x.pf _ (rw (c.ends_of-ends.ensures, c.len.ensures)) x.s.now _ _ _ _
    c.clear_front.ensures c.add_system.ensures c.add_system-2.ensures c.clear_behind.ensures
