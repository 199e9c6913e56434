use lib.Dec.{lit<}
use Rattle.magnetar_field.specs.Tabulate.{tabulate}
use Rattle.magnetar_keccak.specs.Keccak.{theta, rho, pi}
use Rattle.magnetar_keccak.proofs.Lanes.{chi-from}
use Rattle.magnetar_keccak.proofs.keccak.plane_at.Goals as goal

pub returns : goal.returns
unfolding tabulate
returns c =
    let s = pi (rho (theta c.args.a.now)) in
    let y = c.args.y in
    let h = c.requires.1 in
    let p = c.moved-p.ensures in
    let q = c.moved-q.ensures in
    let r = c.moved-r.ensures in
    let t = c.moved-s.ensures in
    let u = c.moved-t.ensures in
    rw (
      chi-from s 0 y _ _ _ _ (lit< tt) h c.chi.ensures p q r,
      chi-from s 1 y _ _ _ _ (lit< tt) h c.chi-2.ensures q r t,
      chi-from s 2 y _ _ _ _ (lit< tt) h c.chi-3.ensures r t u,
      chi-from s 3 y _ _ _ _ (lit< tt) h c.chi-4.ensures t u p,
      chi-from s 4 y _ _ _ _ (lit< tt) h c.chi-5.ensures u p q,
    )
