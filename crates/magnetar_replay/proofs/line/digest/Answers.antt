use Rattle.std.proofs.Common.{get_or, arith}
use Rattle.magnetar_field.proofs.Tabulation.{tabulate-of}
use Rattle.magnetar_replay.proofs.line.digest.Goals as goal

pub returns : goal.returns
returns c =
    tabulate-of c.loop-i.digest (λ i. get_or c.args.bytes.now i 0) 32 0 c.loop-i.invariant.whole (λ i l. c.loop-i.invariant.so_far i (omega arith))
