use Rattle.magnetar_hash.specs.Bytes.{ascii}
use Rattle.magnetar_schedule.specs.Schedule.{numbered}
use Rattle.magnetar_prover.proofs.WholeSchedule.{outer-all}
use Rattle.magnetar_prover.proofs.schedule_run.outer.Goals as goal

pub returns : goal.returns
unfolding ascii numbered
returns c =
    let x = c.args in
    outer-all x.rounds.shared x.rounds.bin x.rounds.fld c.draw_times-c.ensures c.draw_times-d.ensures c.run_rounds-e.ensures
    c.run_rounds-g.ensures c.run_rounds.ensures
