-- The words of a login among the packed words of a batch.
-- Assumes nothing.
use mathlib.Core.Path.{◌≡◌, refl}
use mathlib.Core.List.{List, []}
use Prim.Native.Nat.{ℕ, zero, suc, ◌+◌, ◌-◌, ◌*◌, ◌≤◌, ◌<◌}
use native.Mathlib.Nat.{mul-le-mul_left, mul-le-mul_right, le_trans, suc-mul}
use native.Mathlib.Omega.{arith}
use lib.ListN.{take, drop}
use Rattle.magnetar_field.specs.Tabulate.{tabulate}
use Rattle.magnetar_field.proofs.Tabulation.{tabulate-get, tabulate-ext}
use Rattle.magnetar_matrix.specs.Sum.{sum_below}
use Rattle.magnetar_matrix.specs.Batch.{bit_of}
use Rattle.magnetar_matrix.specs.Packed.{login_words, packed_bit, login_part, unpacked}

pub words-most : (w : ℕ) → w ≤ 32768 → login_words w ≤ 512
unfolding login_words
words-most w h = omega arith

-- ---- the words of a login are a part of the packed words
pub part-ends : (k q u : ℕ) → u < q → u * k + k ≤ q * k
part-ends k q u h =
    let s : suc u * k ≤ q * k = mul-le-mul_right k h in
    omega (arith, s, suc-mul u k)

pub product-most : (q k : ℕ) → q ≤ 4096 → k ≤ 512 → q * k ≤ 2097152
product-most q k h l = le_trans (mul-le-mul_left q l) (mul-le-mul_right 512 h)

-- the part of login u, among the words of q logins with k words each
pub record Part (n k u q : ℕ) : Type 0 where
  pub ends : u * k + k ≤ n
  pub small : n ≤ 2097152

pub part-of : (w : ℕ) (n k u q : ℕ) → q ≤ 4096 → k ≤ 512 → k ≡ login_words w → n ≡ q * login_words w → u < q → Part n k u q
part-of w n k u q hq hk e l h =
    let m : n ≡ q * k = rw e l in
    record { ends = rw m (part-ends k q u h); small = rw m (product-most q k hq hk) }

pub part-is : (w : ℕ) (ws : List ℕ) (u k : ℕ) → k ≡ login_words w → take (u * k + k - u * k) (drop (u * k) ws) ≡ login_part w ws u
unfolding login_part
part-is w ws u k e = let d : u * k + k - u * k ≡ k = omega arith in rw (d, e)

-- ---- the bits of the batch that the words hold
pub bit-unpacked : (q w : ℕ) (ws : List ℕ) (u y : ℕ) → u < q → y < w → bit_of (unpacked q w ws) u y ≡ packed_bit (login_part w ws u) y
unfolding bit_of unpacked
bit-unpacked q w ws u y h g =
    rw (tabulate-get (λ v. tabulate (packed_bit (login_part w ws v)) w) q u [] h) (tabulate-get (packed_bit (login_part w ws u)) w y 0 g)

-- ---- unused bits never matter: words whose bits agree below w hold the same batch
pub unused-bits : (q w : ℕ) (ws vs : List ℕ)
    → ((u y : ℕ) → u < q → y < w → packed_bit (login_part w ws u) y ≡ packed_bit (login_part w vs u) y) → unpacked q w ws ≡ unpacked q w vs
unfolding unpacked
unused-bits q w ws vs h =
    tabulate-ext (λ u. tabulate (packed_bit (login_part w ws u)) w) (λ u. tabulate (packed_bit (login_part w vs u)) w) q
    (λ u a. tabulate-ext (packed_bit (login_part w ws u)) (packed_bit (login_part w vs u)) w (λ y b. h u y a b))

-- ---- sums
pub sum-ext : (n : ℕ) (f g : ℕ → ℕ) → ((i : ℕ) → i < n → f i ≡ g i) → sum_below n f ≡ sum_below n g
unfolding sum_below
sum-ext zero f g h = refl
sum-ext (suc n) f g h = rw (sum-ext n f g (λ i l. h i (omega arith)), h n (omega arith))
