use Rattle.magnetar_spartan.proofs.StageLaws.{window-is}
use Rattle.magnetar_spartan.proofs.combine.window.Goals as goal

pub returns : goal.returns
returns g c = window-is _ c.args.k c.min-a.result c.args.d.now _ c.min-a.ensures c.requires c.told-d c.copy_from_slice.ensures.after
