use mathlib.Core.Path.{sym, ◌∙◌}
use native.Mathlib.Omega.{arith}
use Rattle.magnetar_field.specs.Words.{elements}
use Rattle.magnetar_matrix.specs.RowCheck.{holds_at}
use Rattle.magnetar_matrix.proofs.FirstRow.{below-start, below_more, first-is, first-end, rows-past}
use Rattle.magnetar_check.proofs.rows.first_failing.Goals as goal

pub returns-then-n-s-clause-first : goal.returns-then-n-s-clause-first
returns-then-n-s-clause-first c = rows-past c.args.s.now c.args.n (omega arith)

pub loop-row-init : goal.loop-row-init
loop-row-init c = below-start (holds_at (elements c.args.s.now) c.args.n)

pub returns-then-not-equal-clause-first : goal.returns-then-not-equal-clause-first
unfolding holds_at
returns-then-not-equal-clause-first c =
    first-is (holds_at (elements c.args.s.now) c.args.n) c.args.n c.loop-row.row (omega arith) c.loop-row.invariant
    (rw (
      ← c.get.ensures,
      ← c.get-in-loop-row.ensures,
      ← c.get-in-loop-row-2.ensures,
      ← c.mul-p.ensures,
    ) (sym c.equal.ensures ∙ c.if-not-equal.true))

pub loop-row-preserved : goal.loop-row-preserved
unfolding holds_at
loop-row-preserved c =
    below_more (holds_at (elements c.args.s.now) c.args.n) c.loop-row.row c.loop-row.invariant
    (rw (
      ← c.get.ensures,
      ← c.get-in-loop-row.ensures,
      ← c.get-in-loop-row-2.ensures,
      ← c.mul-p.ensures,
    ) (sym c.equal.ensures ∙ c.if-not-equal.false))

pub returns-clause-first : goal.returns-clause-first
returns-clause-first c = first-end (holds_at (elements c.args.s.now) c.args.n) c.args.n c.loop-row.row (omega arith) c.loop-row.invariant
