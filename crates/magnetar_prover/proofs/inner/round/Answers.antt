use Prim.Native.Nat.{◌*◌, ◌+◌, ◌≤◌}
use Rattle.magnetar_field.specs.Gf128.{value}
use Rattle.magnetar_prover.proofs.InnerSteps.{inner-stepped, inner-three}
use Rattle.magnetar_prover.proofs.Sent.{drawn-more, sent-more, sent-there}
use Rattle.magnetar_prover.specs.Entries.{table_at}
use Rattle.magnetar_sumcheck_verifier.specs.Inner.{inner_message}
use lib.ListN.{length}
use mathlib.Core.Path.{◌∙◌, ◌≡◌, ap, refl}
use native.Mathlib.Omega.{arith}
use Rattle.magnetar_prover.proofs.inner.round.Goals as goal

pub returns : goal.returns
returns c =
    let x = c.args in
    let m = inner_message 0 (table_at 0 x.n x.s.now) (table_at (2 * x.m) x.n x.s.now) in
    let k : 6 * x.i ≡ 2 * (3 * x.i) = omega arith in
    let r : 6 * x.i + 6 ≤ length x.proof.now = c.requires.i_bound.1 in
    let q : 2 * x.i + 2 ≤ length x.draws.now = c.requires.i_bound.2 in
    let written = c.message.ensures in
    let there = sent-there x.proof.now c.message.new.out m (6 * x.i) 6 (3 * x.i) 3 k refl r (inner-three 0 _ _) written in
    inner-stepped x.m x.n (3 * x.i) x.i (value c.element-r.result) x.t
    c.inner_round-u.result x.proof.now _ x.draws.now c.put.new.s x.s.now c.bind.new.s
    (c.inner_round-u.ensures ∙ rw there)
    (sent-more x.proof.now c.message.new.out m (6 * x.i) 6 (3 * x.i) 3 k refl r (inner-three 0 _ _) written)
    (ap value c.element-r.ensures)
    (drawn-more x.draws.now c.put.new.s x.i (value c.element-r.result) c.put.ensures q)
    c.bind.ensures.table c.bind.ensures.z
