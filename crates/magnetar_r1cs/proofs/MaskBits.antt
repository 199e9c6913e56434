-- Document 01: bit t of mask low rows + r is the output of login t d + low at row r.
-- Assumes nothing.
use mathlib.Core.Path.{◌≡◌, refl, sym, ap, ◌∙◌}
use mathlib.Core.Bool.{Bool, true, false}
use mathlib.Core.List.{List, [], ◌++◌}
use Prim.Native.Nat.{ℕ, zero, suc, ◌+◌, ◌-◌, ◌*◌, ◌/◌, ◌%◌, ◌^◌, ◌<◌}
use native.Mathlib.Nat.{mod-eq_of_lt}
use native.Mathlib.Omega.{arith}
use lib.Dec.{ltb}
use lib.Pow.{low, high, field, mod-mod-pow}
use borrow.Author.Tests.{ltb-true, ltb-false}
use lib.ListN.{length, get_or, get_or-append}
use lib.Seq.{get_or-append-add}
use Rattle.magnetar_field.specs.Tabulate.{tabulate}
use Rattle.magnetar_field.proofs.Tabulation.{tabulate-length, tabulate-get}
use Rattle.magnetar_matrix.specs.Sum.{blocks}
use Rattle.magnetar_matrix.specs.Matrix.{times_at, bit_valued}
use Rattle.magnetar_matrix.specs.Batch.{assignment}
use Rattle.magnetar_matrix.specs.Packed.{unpacked}
use Rattle.magnetar_matrix.specs.Lent.{Lent, matrix_of}
use Rattle.magnetar_r1cs.specs.Masks.{bits_below, mask_at, masks}
use Rattle.magnetar_matrix.proofs.LoginParts.{part-ends}
use Rattle.magnetar_matrix.proofs.Blocks.{blocks-length}
use Rattle.magnetar_r1cs.proofs.Flipped.{bits-lt, output-lt, login-below}

-- ---- a number by its bits
low_bit : (a n t : ℕ) → t < n → a % 2 ^ n / 2 ^ t % 2 ≡ a / 2 ^ t % 2
low_bit a n t h =
    let e : n ≡ (n - t) + t = omega arith in
    let k : n - t ≡ (n - t - 1) + 1 = omega arith in
    let f : a % 2 ^ n / 2 ^ t ≡ a / 2 ^ t % 2 ^ (n - t) = ap (λ (m : ℕ). a % 2 ^ m / 2 ^ t) e ∙ field a (n - t) t in
    ap (λ (m : ℕ). m % 2) (f ∙ ap (λ (m : ℕ). a / 2 ^ t % 2 ^ m) k) ∙ mod-mod-pow (a / 2 ^ t) (n - t - 1) 1

bit-step : (b x n t : ℕ) → b < 2 ^ n → x < 2 → t < suc n → (y : ℕ) → (t ≡ n → x ≡ y) → (t < n → b / 2 ^ t % 2 ≡ y) → (b + x * 2 ^ n) / 2 ^ t % 2 ≡ y
bit-step b x n t hb hx ht y same below = go (ltb t n) refl
  where
    turn : b + x * 2 ^ n ≡ x * 2 ^ n + b
    turn = omega arith

    go : (c : Bool) → ltb t n ≡ c → (b + x * 2 ^ n) / 2 ^ t % 2 ≡ y
    go true c =
        let h : t < n = ltb-true t n c in
        rw turn (sym (low_bit (x * 2 ^ n + b) n t h) ∙ rw (low x n hb) (below h))
    go false c =
        let e : t ≡ n = omega (arith, ltb-false t n c) in
        rw (turn, e, high x n hb) (mod-eq_of_lt hx ∙ same e)

pub bit-of : (f : ℕ → ℕ) (n t : ℕ) → ((i : ℕ) → i < n → f i < 2) → t < n → bits_below f n / 2 ^ t % 2 ≡ f t
unfolding bits_below
bit-of f zero t h l = absurd (omega arith)
bit-of f (suc n) t h l =
    bit-step (bits_below f n) (f n) n t (bits-lt f n (λ i b. h i (omega arith))) (h n (omega arith)) l (f t)
    (λ e. ap f (sym e)) (λ b. bit-of f n t (λ i c. h i (omega arith)) b)

-- ---- a member of vectors that are set one behind the other
blocks_step : (f : ℕ → List ℕ) (s : List ℕ) (m d u i : ℕ) → length s ≡ d * m → u < suc d → i < m
    → (u < d → get_or s (u * m + i) 0 ≡ get_or (f u) i 0) → get_or (s ++ f d) (u * m + i) 0 ≡ get_or (f u) i 0
blocks_step f s m d u i l hu hi before = go (ltb u d) refl
  where
    go : (c : Bool) → ltb u d ≡ c → get_or (s ++ f d) (u * m + i) 0 ≡ get_or (f u) i 0
    go true c =
        let h : u < d = ltb-true u d c in
        get_or-append s (f d) 0 (u * m + i) (omega (arith, part-ends m d u h)) ∙ before h
    go false c =
        let e : u ≡ d = omega (arith, ltb-false u d c) in
        rw (e, ← l) (get_or-append-add s (f d) i 0)

blocks-get : (f : ℕ → List ℕ) (m d u i : ℕ) → ((v : ℕ) → length (f v) ≡ m) → u < d → i < m → get_or (blocks f d) (u * m + i) 0 ≡ get_or (f u) i 0
unfolding blocks
blocks-get f m zero u i h hu hi = absurd (omega arith)
blocks-get f m (suc d) u i h hu hi = blocks_step f (blocks f d) m d u i (blocks-length f d m h) hu hi (λ b. blocks-get f m d u i h b hi)

-- ---- the bits of the masks
pub mask-bit : (a : Lent) (ws : List ℕ) (q w d n : ℕ) → bit_valued w (matrix_of a) ≡ true → n * d ≡ q → (low r t : ℕ) → low < d → r < a.rows → t < n
    → get_or (masks (matrix_of a) (unpacked q w ws) d n) (low * a.rows + r) 0 / 2 ^ t % 2
    ≡ times_at (matrix_of a) (assignment (unpacked q w ws) [] (t * d + low)) r
unfolding masks mask_at matrix_of
mask-bit a ws q w d n bits all l r t hl hr ht =
    let e : get_or (masks (matrix_of a) (unpacked q w ws) d n) (l * a.rows + r) 0 ≡ mask_at (matrix_of a) (unpacked q w ws) d n l r =
    blocks-get (λ v. tabulate (mask_at (matrix_of a) (unpacked q w ws) d n v) a.rows) a.rows d l r
    (λ v. tabulate-length (mask_at (matrix_of a) (unpacked q w ws) d n v) a.rows) hl hr
    ∙ tabulate-get (mask_at (matrix_of a) (unpacked q w ws) d n l) a.rows r 0 hr in
    ap (λ (m : ℕ). m / 2 ^ t % 2) e
    ∙ bit-of (λ i. times_at (matrix_of a) (assignment (unpacked q w ws) [] (i * d + l)) r) n t
    (λ i b. output-lt a ws q w d n bits all (i * d + l) r (login-below i d l n q b hl all)) ht
