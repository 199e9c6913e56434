-- Laws of `lanes`: what stands at x, y.
-- Assumes nothing.
use mathlib.Core.Path.{◌≡◌, ap, ◌∙◌}
use mathlib.Core.List.{List}
use Prim.Native.Nat.{ℕ, ◌+◌, ◌*◌, ◌/◌, ◌%◌, ◌<◌}
use native.Mathlib.Nat.{mod-lt, zero-lt-suc}
use native.Mathlib.Omega.{arith}
use lib.ListN.{length, get_or, length-set}
use Rattle.magnetar_field.proofs.Tabulation.{tabulate-length, tabulate-get}
use Rattle.magnetar_keccak.specs.State.{◌⊕◌, ◌·◌, complement, rotate, lane, lanes}
use Rattle.magnetar_keccak.specs.Offsets.{offset}
use Rattle.magnetar_keccak.specs.Keccak.{effect, theta, rho, pi, chi, iota, round, rounds, permuted}
use Rattle.magnetar_keccak.specs.Planes.{Effects}
use Rattle.magnetar_keccak.proofs.Rotate.{rotate-mod}

pub get-lanes : (f : ℕ → ℕ → ℕ) (x y : ℕ) → x < 5 → y < 5 → lane (lanes f) x y ≡ f x y
get-lanes f x y hx hy =
    let i : (5 * y + x) % 5 ≡ x = omega arith in
    let j : (5 * y + x) / 5 ≡ y = omega arith in
    tabulate-get (λ i. f (i % 5) (i / 5)) 25 (5 * y + x) 0 (omega arith) ∙ ap (λ (k : ℕ). f k ((5 * y + x) / 5)) i ∙ ap (f x) j

-- the lane at x, y after theta, rho and pi
pub moved-lane
    : (a : List ℕ) (x y : ℕ)
    → x < 5
    → y < 5
    → lane (pi (rho (theta a))) x y
    ≡ rotate (lane a ((x + 3 * y) % 5) x ⊕ effect a ((x + 3 * y) % 5)) (offset ((x + 3 * y) % 5) x)
unfolding pi rho theta
moved-lane a x y hx hy =
    let u : ℕ = (x + 3 * y) % 5 in
    let hu : u < 5 = mod-lt (x + 3 * y) (zero-lt-suc 4) in
    get-lanes (λ x y. lane (rho (theta a)) ((x + 3 * y) % 5) x) x y hx hy
    ∙ get-lanes (λ x y. rotate (lane (theta a) x y) (offset x y)) u x hu hx
    ∙ ap (λ (w : ℕ). rotate w (offset u x)) (get-lanes (λ x y. lane a x y ⊕ effect a x) u x hu hx)

-- the same lane from a state and what theta adds to its columns
pub moved-from
    : (a d : List ℕ) (x y o : ℕ)
    → Effects a d
    → x < 5
    → y < 5
    → o ≡ offset ((5 * x + (x + 3 * y) % 5) % 5) ((5 * x + (x + 3 * y) % 5) / 5) % 64
    → rotate (get_or a (5 * x + (x + 3 * y) % 5) 0 ⊕ get_or d ((x + 3 * y) % 5) 0) o ≡ lane (pi (rho (theta a))) x y
moved-from a d x y o e hx hy h =
    let hu : (x + 3 * y) % 5 < 5 = mod-lt (x + 3 * y) (zero-lt-suc 4) in
    let i : (5 * x + (x + 3 * y) % 5) % 5 ≡ (x + 3 * y) % 5 = omega arith in
    let j : (5 * x + (x + 3 * y) % 5) / 5 ≡ x = omega arith in
    rw (h, i, j, rotate-mod, e.list, tabulate-get (effect a) 5 ((x + 3 * y) % 5) 0 hu, moved-lane a x y hx hy)

-- the lane at x, y after chi
pub chi-lane
    : (a : List ℕ) (x y : ℕ)
    → x < 5
    → y < 5
    → lane (chi a) x y ≡ lane a x y ⊕ complement (lane a ((x + 1) % 5) y) · lane a ((x + 2) % 5) y
unfolding chi
chi-lane a x y hx hy = get-lanes (λ x y. lane a x y ⊕ complement (lane a ((x + 1) % 5) y) · lane a ((x + 2) % 5) y) x y hx hy

pub chi-from
    : (a : List ℕ) (x y u v w r : ℕ)
    → x < 5
    → y < 5
    → r ≡ u ⊕ complement v · w
    → u ≡ lane a x y
    → v ≡ lane a ((x + 1) % 5) y
    → w ≡ lane a ((x + 2) % 5) y
    → r ≡ lane (chi a) x y
chi-from a x y u v w r hx hy e eu ev ew = rw (e, eu, ev, ew, chi-lane a x y hx hy)

pub length-chi : (a : List ℕ) → length (chi a) ≡ 25
unfolding chi
length-chi a = tabulate-length _ 25

pub length-permuted : (a : List ℕ) → length (permuted a) ≡ 25
unfolding permuted rounds round iota
length-permuted a = length-set (chi (pi (rho (theta (rounds 23 a))))) 0 _ ∙ length-chi (pi (rho (theta (rounds 23 a))))
