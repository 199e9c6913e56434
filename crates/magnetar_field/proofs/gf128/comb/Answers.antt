use Rattle.std.proofs.Common.{◌^◌, ◌<◌, rules}
use Rattle.magnetar_field.specs.Gf128.{◌⊕◌}
use Rattle.magnetar_field.proofs.Comb.{comb-words, comb-top, comb-fits}
use Rattle.magnetar_field.proofs.gf128.comb.Goals as goal

pub returns : goal.returns
unfolding ◌⊕◌
returns c =
    let a = c.args.acc in
    let x = c.args.x in
    let y = c.args.y in
    let a0 : a.w0 < 2 ^ 64 = search rules in
    let a1 : a.w1 < 2 ^ 64 = search rules in
    let a2 : a.w2 < 2 ^ 64 = search rules in
    let xl : x.lo < 2 ^ 64 = search rules in
    let xh : x.hi < 2 ^ 64 = search rules in
    let yl : y.lo < 2 ^ 64 = search rules in
    let yh : y.hi < 2 ^ 64 = search rules in record {
      sum = comb-words a.w0 a.w1 a.w2 a.w3 x.lo x.hi y.lo y.hi a0 a1 a2 c.requires xl xh yl yh;
      small = comb-top a.w0 a.w1 a.w2 a.w3 x.lo x.hi y.lo y.hi a0 a1 a2 c.requires xl xh yl yh;
      words = comb-fits a.w0 a.w1 a.w2 a.w3 x.lo x.hi y.lo y.hi a0 a1 a2 c.requires xl xh yl yh;
    }
