use Rattle.magnetar_relation.proofs.LoginLaws.{part_cut}
use Rattle.magnetar_relation.proofs.login.part.Goals as goal

pub returns : goal.returns
returns c = part_cut c.args.w c.args.packed.now c.args.u _ _ _ c.login_words-k.ensures c.login_start-a.ensures c.after.ensures
