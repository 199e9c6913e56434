use native.Mathlib.Omega.{arith}
use Rattle.magnetar_check.proofs.RowWalk.{row_here, row-short}
use Rattle.magnetar_check.proofs.check.first_row.Goals as goal

pub returns-then-n-s-clause-first : goal.returns-then-n-s-clause-first
returns-then-n-s-clause-first c = row-short c.args.n c.args.s.now (omega arith)

pub returns-clause-first : goal.returns-clause-first
returns-clause-first c = row_here c.args.n _ c.args.s.now (omega arith) c.first_failing.ensures.first
