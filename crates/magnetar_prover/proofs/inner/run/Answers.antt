use Prim.Native.Nat.{◌*◌, ◌-◌, ℕ}
use Rattle.magnetar_prover.proofs.InnerWhole.{whole_is}
use Rattle.magnetar_prover.proofs.Slots.{fore-length, part_length, put-length}
use lib.ListN.{drop, length, replicate}
use lib.Seq.{length-take-le}
use mathlib.Core.List.{◌++◌}
use mathlib.Core.Path.{◌∙◌, ◌≡◌, ap, sym}
use native.Mathlib.Omega.{arith}
use Rattle.magnetar_prover.proofs.inner.run.Goals as goal

pub returns : goal.returns
returns c = let x = c.args in
    let p = c.requires in
    let l : length c.lay_out.new.s ≡ 12 * x.w
    = c.lay_out.auto.s ∙ p.s_len.0 in
    let f : length c.rounds-u.new.s ≡ 8 * x.w = c.rounds-u.auto.s ∙ length-take-le _ _ (omega (arith, l)) in
    let g : length (c.rounds-u.new.s ++ drop (8 * x.w) c.lay_out.new.s) ≡ 12 * x.w = fore-length c.lay_out.new.s c.rounds-u.new.s (8 * x.w) (omega
    (arith, l)) f ∙ l in
    let d : length c.rounds-u.new.draws ≡ 2 * x.k = c.rounds-u.auto.draws ∙ p.draws_len.0 in
    let k : length c.send_segments-r.new.s ≡ 12 * x.w - 8 * x.w
    = c.send_segments-r.auto.s ∙ part_length _ (8 * x.w) (12 * x.w) (omega (arith, g)) in
    let e = put-length (c.rounds-u.new.s ++ drop (8 * x.w) c.lay_out.new.s) c.send_segments-r.new.s (8 * x.w) (12 * x.w) (omega arith) (omega (
      arith,
      g,
    )) k ∙ (g ∙ sym p.s_len.0) in
    let a = c.lay_out in
    let b = c.rounds-u in record {
      run = whole_is x.k x.w x.lens.now x.s.now a.new.s b.new.s x.proof.now b.new.proof c.send_z-v.new.proof c.send_segments-r.new.proof x.draws.now
          b.new.draws x.t b.result c.send_z-v.result c.send_segments-r.result l p.s_len.1 f d
          a.ensures.table a.ensures.z a.ensures.copy b.ensures c.send_z-v.ensures.transcript c.send_z-v.ensures.sent c.send_segments-r.ensures;
      cleared = c.clear.ensures ∙ ap (λ (n : ℕ). replicate n 0) e;
    }
