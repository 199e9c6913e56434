use Rattle.std.proofs.Common.{◌<◌, ◌∙◌, arith, rules}
use Rattle.magnetar_field.proofs.Comb.{append-word, wide-lt, multiples-self, combed-start, combed-room, combed-more, combed-end}
use Rattle.magnetar_field.proofs.gf128.clmul128.Goals as goal

pub loop-i-init : goal.loop-i-init
loop-i-init c =
    let x = c.args in
    let m = c.multiples_of.ensures in
    let e = multiples-self _ _ _ (append-word 64 x.a.hi x.a.lo (search rules) (search rules)) m in record {
      multiples = rw e m;
      w0 = search rules;
      w1 = search rules;
      w2 = search rules;
      combed = combed-start _ x.b.lo x.b.hi (search rules) (search rules);
    }

pub comb-acc-requires : goal.comb-acc-requires
comb-acc-requires c = combed-room _ _ _ _ _ _ (omega arith) c.loop-i.invariant.combed

pub loop-i-preserved : goal.loop-i-preserved
loop-i-preserved c =
    let l = c.loop-i in
    let v = l.invariant in
    let x = c.args in
    let a = l.acc in
    let t : 0 < l.i = omega arith in
    let small = wide-lt a.w0 a.w1 a.w2 a.w3 v.w0 v.w1 v.w2 (combed-room _ _ _ _ _ _ t v.combed) in
    let j = c.nibble-j in
    let k = c.nibble-k in
    let s = c.comb-acc.ensures in record {
      multiples = v.multiples;
      w0 = s.words.0;
      w1 = s.words.1;
      w2 = s.words.2;
      combed =
          combed-more _ x.b.lo x.b.hi _ _ _ _ _ _ l.i (search rules) (search rules) small t (omega arith) v.combed s.small s.sum
          (v.multiples.multiple j.result (omega arith) ∙ rw j.ensures) (v.multiples.multiple k.result (omega arith) ∙ rw k.ensures);
    }

pub returns : goal.returns
returns c =
    let x = c.args in
    let b = append-word 64 x.a.hi x.a.lo (search rules) (search rules) in
    let e = multiples-self _ _ _ b c.multiples_of.ensures in
    rw e at (combed-end _ _ _ _ _ _ (rw e b) (search rules) (search rules) (omega arith) c.loop-i.invariant.combed)
