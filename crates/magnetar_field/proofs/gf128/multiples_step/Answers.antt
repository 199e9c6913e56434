use Rattle.magnetar_field.proofs.Comb.{append-word, multiples-more}
use Rattle.std.proofs.Common.{rules}
use Rattle.magnetar_field.proofs.gf128.multiples_step.Goals as goal

pub returns : goal.returns
returns c =
    let x = c.args in
    let t = c.times_x-twice in
    let m = c.add-more in
    multiples-more _ x.k _ _ t.result.lo t.result.hi m.result.lo m.result.hi (append-word 64 x.a.hi x.a.lo (search rules) (search rules))
    c.requires.2 c.requires.0 c.requires.1 t.ensures m.ensures
