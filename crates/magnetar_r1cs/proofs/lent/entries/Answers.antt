use mathlib.Core.Path.{sym}
use Rattle.magnetar_layout.specs.Tests.{counted, placed}
use Rattle.magnetar_layout.proofs.Passing.{out-front, late}
use Rattle.magnetar_matrix.specs.Lent.{Lent}
use Rattle.magnetar_matrix.specs.Numbers.{lent_by}
use Rattle.magnetar_r1cs.proofs.Lone.{places-is}
use Rattle.magnetar_r1cs.proofs.lent.entries.Goals as goal

pub returns-in_err-counts : goal.returns-in_err-counts
returns-in_err-counts g c =
    let a : Lent = lent_by c.args.rows c.args.cols (g.E.Entries.numbers c.args.es.now) in
    out-front (counted a) (placed a) _ _ c.from_residual.ensures.1 c.in_err-counts.ensures

pub returns : goal.returns
returns g c =
    let a : Lent = lent_by c.args.rows c.args.cols (g.E.Entries.numbers c.args.es.now) in
    late (counted a) (placed a) c.in_ok-counts.ensures (places-is a _ (sym c.in_ok-counts.ensures) (rw c.all_inside.ensures at c.require.ensures))
