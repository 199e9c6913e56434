use mathlib.Core.Path.{◌∙◌}
use Rattle.magnetar_field.specs.Gf128.{value}
use Rattle.magnetar_batch.proofs.ValueWalk.{power, highest-bound}
use Rattle.magnetar_batch.proofs.value.bind_highest.Goals as goal

pub returns : goal.returns
returns c =
    let x = c.args in
    let g = c.requires in
    let e = power x.j g.0 c.power_of_two-e.result c.power_of_two-e.ensures in
    rw e (highest-bound x.j (value x.r) x.t.now c.bind_var-done.new.table g.0 g.1 (c.bind_var-done.ensures.bound ∙ rw e))
