use Rattle.std.proofs.Common.{◌<◌, ◌^◌, length, arith}
use Rattle.magnetar_sumcheck_prover.specs.Entries.{inner_refusal}
use Rattle.magnetar_sumcheck_prover.proofs.Message.{inner-out}
use Rattle.magnetar_sumcheck_prover.proofs.Refusals.{table-small}
use Rattle.magnetar_sumcheck_prover.proofs.engine.inner_message.Goals as goal

pub over-s-requires : goal.over-s-requires
over-s-requires c =
    let h : length c.args.t.now < 2 ^ 64 = omega arith in
    let s = table-small c.args.v (length c.args.t.now) h (grind arith) in (s.0, omega arith)

pub returns-clause-message : goal.returns-clause-message
unfolding inner_refusal
returns-clause-message c =
    let x = c.args in
    inner-out x.out.now x.t.now x.z.now _ x.v c.over-s.result (grind arith) c.over-s.ensures
    (grind arith)
