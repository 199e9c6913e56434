use mathlib.Core.Path.{◌≡◌, refl, ◌∙◌}
use native.Mathlib.Omega.{arith}
use native.Mathlib.Numerals.{add-one}
use Rattle.magnetar_keccak.specs.Keccak.{rounds, permuted}
use Rattle.magnetar_keccak.proofs.keccak.permute.Goals as goal

pub loop-i-init : goal.loop-i-init
unfolding rounds
loop-i-init c = refl

pub loop-i-preserved : goal.loop-i-preserved
unfolding rounds
loop-i-preserved c = c.round-c.ensures ∙ rw (add-one, c.loop-i.invariant)

pub returns : goal.returns
unfolding permuted
returns c =
    let e : c.loop-i.i ≡ 24 = omega arith in
    c.loop-i.invariant ∙ rw e
