use native.Mathlib.Omega.{arith}
use Rattle.magnetar_layout.proofs.Laid.{fits, each-size}
use Rattle.magnetar_layout.proofs.Readings.{log-le}
use Rattle.magnetar_layout.proofs.layout.suffix_bits.Goals as goal

pub overflow_sub-result : goal.overflow_sub-result
overflow_sub-result c =
    let o = fits _ _ c.in_ok-refusal.ensures in
    let z = each-size _ _ c.args.i o.lengths (omega arith) in
    rw (c.log2-then-i-lens.ensures.0, c.log2.ensures.0) (log-le _ _ z.power o.power z.most)
