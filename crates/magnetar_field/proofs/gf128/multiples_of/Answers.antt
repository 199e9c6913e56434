use Rattle.std.proofs.Common.{refl, rules}
use Rattle.magnetar_field.proofs.Comb.{append-word, multiples-start}
use Rattle.magnetar_field.proofs.gf128.multiples_of.Goals as goal

pub loop-k-init : goal.loop-k-init
loop-k-init c =
    let x = c.args in
    multiples-start _ x.a.lo x.a.hi x.lo.now x.hi.now (append-word 64 x.a.hi x.a.lo (search rules) (search rules)) refl c.requires.0 c.requires.1
