use Rattle.magnetar_relation.proofs.StrayLaws.{Clear}
use Rattle.magnetar_relation.proofs.stray.first_login.Given as goal

abbrev pub invariant-loop-login : goal.invariant-loop-login
invariant-loop-login l = Clear l.q l.w l.lens l.packed l.login
