use Rattle.std.proofs.Common.{◌<◌, ◌^◌, length, arith}
use Rattle.magnetar_field.specs.Gf128.{value}
use Rattle.magnetar_sumcheck_prover.specs.Entries.{outer_refusal}
use Rattle.magnetar_sumcheck_prover.proofs.Message.{outer-out}
use Rattle.magnetar_sumcheck_prover.proofs.Refusals.{table-small}
use Rattle.magnetar_sumcheck_prover.proofs.engine.outer_message.Goals as goal

pub over-s-requires : goal.over-s-requires
over-s-requires c =
    let h : length c.args.a.now < 2 ^ 64 = omega arith in
    let s = table-small c.args.v (length c.args.a.now) h (grind arith) in (s.0, grind arith)

pub returns-clause-message : goal.returns-clause-message
unfolding outer_refusal
returns-clause-message c =
    let x = c.args in
    outer-out x.out.now x.e.now x.a.now x.b.now x.c.now _ x.v (value x.k) (value x.t) c.over-s.result (grind arith) c.over-s.ensures
    c.put_outer.ensures
