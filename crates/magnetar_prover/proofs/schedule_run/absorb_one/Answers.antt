use mathlib.Core.Path.{refl}
use Prim.Native.Nat.{ℕ, ◌^◌, ◌<◌}
use lib.ListN.{get_or}
use native.Mathlib.Omega.{arith}
use Rattle.magnetar_prover.proofs.Staging.{absorbed-one, part-words, part-next}
use Rattle.magnetar_prover.proofs.schedule_run.absorb_one.Goals as goal

pub returns : goal.returns
returns c =
    let a = c.args in
    let p = a.proof.now in
    let i = c.ahead-a in
    let j = c.ahead-b in
    let fit : (k : ℕ) → get_or p k 0 < 2 ^ 64 = λ k. omega (arith, c.type_inv.proof k) in
    λ next out was whole rest g.
    absorbed-one _ _ a.k (omega arith) (part-words p a.s.place a.k i.result j.result fit i.ensures j.ensures)
    c.absorb.ensures refl refl
    (part-next p a.s.place a.k i.result j.result i.ensures j.ensures) g
