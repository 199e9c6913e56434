use Rattle.std.proofs.Common.{◌≡◌, ◌<◌, ◌^◌, true, length, arith}
use Rattle.magnetar_sumcheck_prover.specs.Entries.{is_table}
use Rattle.magnetar_sumcheck_prover.proofs.Refusals.{table-small}
use Rattle.magnetar_sumcheck_prover.proofs.EqFactor.{drop-out}
use Rattle.magnetar_sumcheck_prover.proofs.public.drop_var.Goals as goal

pub drop_pairs-requires : goal.drop_pairs-requires
drop_pairs-requires c =
    let h : length c.args.table.now < 2 ^ 64 = omega arith in
    let s = table-small c.args.v (length c.args.table.now) h (grind arith) in (s.0, omega (arith, s.1))

pub returns-clause-dropped : goal.returns-clause-dropped
returns-clause-dropped c =
    let x = c.args in
    let h : length x.table.now < 2 ^ 64 = omega arith in
    let e : is_table x.v (length x.table.now) ≡ true = grind arith in
    let s = table-small x.v (length x.table.now) h e in
    drop-out x.v x.table.now c.drop_pairs.new.t s.1 e c.drop_pairs.auto.t (λ i. grind arith) (λ i. grind arith) c.drop_pairs.ensures
