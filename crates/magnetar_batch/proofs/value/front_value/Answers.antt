use Rattle.std.specs.Prelude.{◌≡◌, ℕ, ◌^◌, ◌≤◌, true}
use mathlib.Core.Path.{sym, ap, ◌∙◌}
use native.Mathlib.Omega.{arith}
use lib.ListN.{length-take}
use Rattle.magnetar_field.specs.Gf128.{value}
use Rattle.magnetar_field.specs.Sizes.{log₂}
use Rattle.magnetar_layout.specs.Tests.{is_size}
use Rattle.magnetar_layout.proofs.SizeLaws.{sized, log-most}
use Rattle.magnetar_batch.proofs.ValueWalk.{front-some, front-short, front-none}
use Rattle.magnetar_batch.proofs.value.front_value.Goals as goal
use Rattle.magnetar_batch.proofs.value.front_value.Goals.{else-is_size-via-then-is_size+else-n-s, else-is_size-via-else-is_size}

-- the logarithm of a size
small : (n k : ℕ) → is_size 1 65536 n ≡ true → k ≡ log₂ n → k ≤ 16
small n k t e = let z = sized 1 65536 n t in omega (arith, e, log-most n z.high z.power)

pub slice_bounds-bind_all-end-then-n-s-2 : goal.slice_bounds-bind_all-end-then-n-s-2
slice_bounds-bind_all-end-then-n-s-2 c =
    let told = sym c.is_size.ensures ∙ c.if-is_size.true in
    rw length-take (omega (arith, small c.args.n c.log2-l.result told c.log2-l.ensures.0))

pub bind_all-requires : goal.bind_all-requires
bind_all-requires c =
    let told = sym c.is_size.ensures ∙ c.if-is_size.true in
    let z = sized 1 65536 c.args.n told in
    let k = small c.args.n c.log2-l.result told c.log2-l.ensures.0 in (
      omega (arith, k),
      rw length-take (omega (arith, k)),
      rw length-take (omega (arith, c.if-n-s.true, ap (λ (k : ℕ). 2 ^ k) c.log2-l.ensures.0, z.power)),
    )

pub returns-then-n-s : goal.returns-then-n-s
returns-then-n-s c =
    let v = c.bind_all in
    let x = c.args in
    front-some x.n x.p x.s.now c.log2-l.result (value v.result) v.new.t (sym c.is_size.ensures ∙ c.if-is_size.true) c.if-n-s.true
    c.log2-l.ensures.0 v.ensures.0 v.ensures.1

pub returns-else-is_size : goal.returns-else-is_size
returns-else-is_size c =
    let x = c.args in
    elim c.else-is_size.branch [
      | else-is_size-via-then-is_size+else-n-s w ↦ front-short x.n x.p x.s.now (sym c.is_size.ensures ∙ w.if-is_size.true) (omega (arith, w.if-n-s.false))
      | else-is_size-via-else-is_size w ↦ front-none x.n x.p x.s.now (sym c.is_size.ensures ∙ w.if-is_size.false)
    ]
