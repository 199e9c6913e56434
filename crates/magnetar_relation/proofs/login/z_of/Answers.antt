use mathlib.Core.Path.{◌∙◌}
use native.Mathlib.Omega.{arith}
use Rattle.magnetar_field.specs.Words.{elements}
use Rattle.magnetar_relation.proofs.LoginLaws.{low_word, z-is-bit, z-is-one, z-is-public}
use Rattle.magnetar_relation.proofs.login.z_of.Goals as goal

pub returns-then-c-w : goal.returns-then-c-w
returns-then-c-w c =
    let x = c.args in
    low_word c.bit_at.result ∙ c.bit_at.ensures.value ∙ z-is-bit x.w x.login.now (elements x.x.now) x.c (omega arith)

pub returns-then-c-w-2 : goal.returns-then-c-w-2
returns-then-c-w-2 c =
    let x = c.args in
    z-is-one x.w x.login.now (elements x.x.now) x.c c.if-c-w-2.true

pub returns-else-c-w-2 : goal.returns-else-c-w-2
returns-else-c-w-2 c =
    let x = c.args in
    c.get.ensures ∙ z-is-public x.w x.login.now (elements x.x.now) x.c (omega arith)
