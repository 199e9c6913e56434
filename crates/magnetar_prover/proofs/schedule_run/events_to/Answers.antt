use mathlib.Core.Path.{refl}
use Rattle.magnetar_prover.proofs.WholeSchedule.{run-all}
use Rattle.magnetar_prover.proofs.schedule_run.events_to.Goals as goal

pub returns : goal.returns
returns c =
    let a = c.args in
    let e = c.of-rounds.ensures.rounds in
    let all = run-all a.m a.q a.rb a.rf a.lens.now a.t (rw e) (rw e) (rw e) (rw e) refl c.outer-a.ensures c.inner-b.ensures in
    record { transcript = all.0; draws = all.1 }
