use Rattle.magnetar_hash.specs.Bytes.{ascii}
use Rattle.magnetar_schedule.specs.Schedule.{numbered}
use Rattle.magnetar_prover.proofs.WholeSchedule.{inner-all}
use Rattle.magnetar_prover.proofs.schedule_run.inner.Goals as goal

pub returns : goal.returns
unfolding ascii numbered
returns c =
    let x = c.args in
    inner-all x.c x.n c.run_singles-d.ensures c.draw_times-e.ensures c.run_rounds-f.ensures
    c.absorb_one-g.ensures c.run_singles.ensures
