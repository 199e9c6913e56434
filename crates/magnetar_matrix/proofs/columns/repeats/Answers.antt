use mathlib.Core.Path.{sym}
use native.Mathlib.Omega.{arith}
use Rattle.magnetar_matrix.proofs.PublicParts.{repeated-short, repeated-starts}
use Rattle.magnetar_matrix.proofs.columns.repeats.Goals as goal

pub returns-then-k-s : goal.returns-then-k-s
returns-then-k-s c = sym (repeated-short _ _ (omega arith))

pub returns : goal.returns
returns c =
    let p = c.split_at.ensures in
    repeated-starts c.args.k c.args.s.now (omega arith) _ (rw (← p.front, ← p.back) c.starts_with.ensures.value)
