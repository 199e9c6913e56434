use Prim.Native.Nat.{◌*◌, ◌+◌, ◌-◌, ◌/◌, ℕ}
use Rattle.magnetar_field.specs.Gf128.{value}
use Rattle.magnetar_prover.proofs.Slots.{part-is, part-size}
use Rattle.magnetar_prover.proofs.Whole.{outer-written}
use lib.ListN.{drop, length, take}
use lib.Seq.{length-take-le}
use mathlib.Core.Path.{◌∙◌, ◌≡◌, ap, sym}
use native.Mathlib.Omega.{arith}
use Rattle.magnetar_prover.proofs.outer.Turn.put_message.Goals as goal

pub returns : goal.returns
returns c = let x = c.args in
    let p = c.requires in
    let w = p.table in
    let a = part-size x.s.now x.self.w x.self.n (omega arith) in
    let b = part-size x.s.now (2 * x.self.w) x.self.n (omega arith) in
    let d = part-size x.s.now (3 * x.self.w) x.self.n (omega arith) in
    let e : length (take (x.self.n / 2) x.s.now) ≡ x.self.n / 2 = length-take-le (x.self.n / 2) x.s.now (omega arith) in
    c.outer_message-done.ensures.message
    ∙ (outer-written x.out.now (take (x.self.n / 2) x.s.now) (take (x.self.w + x.self.n - x.self.w) (drop x.self.w x.s.now)) (take (2 * x.self.w + x.self.n - 2
    * x.self.w) (drop (2 * x.self.w) x.s.now)) (take (3 * x.self.w + x.self.n - 3 * x.self.w) (drop (3 * x.self.w) x.s.now)) x.self.v (value x.self.k)
    (value x.self.t) w.vars p.s_len.3 (a ∙ w.size) (b ∙ sym a) (d ∙ sym a) (e ∙ ap (λ (i : ℕ). i / 2) (sym a)) w.var w.few
    ∙ rw (part-is x.s.now x.self.w x.self.n, part-is x.s.now (2 * x.self.w) x.self.n, part-is x.s.now (3 * x.self.w) x.self.n))
