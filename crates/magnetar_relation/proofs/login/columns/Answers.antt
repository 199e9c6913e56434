use Rattle.magnetar_relation.proofs.LoginLaws.{columns-cut}
use Rattle.magnetar_relation.proofs.login.columns.Goals as goal

pub returns : goal.returns
returns c = columns-cut c.args.w c.args.x.now c.args.u _ _ _ (cc) c.login_start-a.ensures c.after.ensures
