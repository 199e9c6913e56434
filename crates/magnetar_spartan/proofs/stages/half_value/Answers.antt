use mathlib.Core.Path.{◌∙◌}
use Rattle.magnetar_spartan.proofs.PublicValue.{front-dot, front-behind}
use Rattle.magnetar_spartan.proofs.stages.half_value.Goals as goal

pub returns : goal.returns
returns c =
    let x = c.args in
    let g = c.requires in record {
      value = c.dot.ensures ∙ front-dot x.w x.s.now x.p.now c.build.new.out g.0 g.1 g.2 c.build.ensures.table;
      behind = front-behind x.w x.s.now x.p.now c.build.new.out g.0 g.1 g.2 c.build.ensures.table;
    }
