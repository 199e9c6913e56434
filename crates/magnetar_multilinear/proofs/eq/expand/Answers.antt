use mathlib.Core.Path.{◌≡◌, refl, ap}
use Prim.Native.Nat.{ℕ, ◌≤◌, ◌*◌, ◌/◌}
use native.Mathlib.Omega.{arith}
use lib.ListN.{length}
use Rattle.magnetar_field.specs.Words.{elements}
use Rattle.magnetar_field.proofs.Elements.{elements-length}
use Rattle.magnetar_multilinear.proofs.Doublings.{split-none, split-more}
use borrow.Author.Rules.{rules}
use Rattle.magnetar_multilinear.proofs.eq.expand.Goals as goal

pub loop-i-init : goal.loop-i-init
loop-i-init c = (refl, split-none _ _ _)

pub loop-i-preserved : goal.loop-i-preserved
loop-i-preserved c =
    let l = c.loop-i in
    let out = c.args.out.now in
    let room : 2 * c.args.m ≤ length (elements l.out) = rw elements-length (omega arith) in
    let same : length (elements l.out) ≡ length (elements out) = rw (elements-length, elements-length) (ap (λ (n : ℕ). n / 2) l.invariant.0) in
    (search rules, rw c.split_entry.ensures (split-more _ _ _ _ _ (omega arith) (omega arith) room same l.invariant.1))
