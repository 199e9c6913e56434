-- The loop that binds a variable in place, the first entry first: it reads only what it has not overwritten.
-- Assumes nothing.
use mathlib.Core.Path.{◌≡◌, ap, ◌∙◌}
use mathlib.Core.List.{List, ◌++◌}
use Prim.Native.Nat.{ℕ, zero, suc, ◌+◌, ◌-◌, ◌*◌, ◌/◌, ◌%◌, ◌^◌, ◌≤◌, ◌<◌}
use native.Mathlib.Nat.{mod-lt, mul-mod_left, div-add-mod', mul-le-mul_right, div-lt_iff_lt-mul, mul_left_comm, pow-suc}
use native.Mathlib.Omega.{arith}
use lib.ListN.{length, get_or, set, take, drop, length-take}
use lib.Pow.{pow_pos, pow-add}
use Rattle.magnetar_multilinear.specs.Binding.{BindFits}
use lib.Seq.{get_or-take}
use Rattle.magnetar_multilinear.specs.Multilinear.{line, insert_zero, bind_var}
use Rattle.magnetar_field.proofs.Tabulation.{tabulate-ext}
use Rattle.magnetar_field.proofs.Making.{Made, made_none, made-get, made_more}

-- ---- the two places that entry i is made of, with blocks of b entries
twice : (q b : ℕ) → q * (2 * b) ≡ q * b + q * b
twice q b = mul_left_comm q 2 b ∙ omega arith

pub place-le : (i b : ℕ) → i / b * (2 * b) + i % b ≤ 2 * i
place-le i b = omega (arith, twice (i / b) b, div-add-mod' i b)

pub place-ge : (i b : ℕ) → i ≤ i / b * (2 * b) + i % b
place-ge i b = omega (arith, twice (i / b) b, div-add-mod' i b)

pub place-lt : (i b n : ℕ) → 0 < b → n % b ≡ 0 → i < n → i / b * (2 * b) + i % b + b < 2 * n
place-lt i b n pos whole h =
    let m : i % b < b = mod-lt i pos in
    let e : n / b * b ≡ n = omega (arith, div-add-mod' n b) in
    let q : i / b < n / b = (div-lt_iff_lt-mul pos).1 (rw e h) in
    let l : (i / b + 1) * b ≤ n / b * b = mul-le-mul_right b (omega arith) in
    omega (arith, twice (i / b) b, l, e, m)

-- entry i of the table t with variable v bound to r
pub bound_at : ℕ → ℕ → List ℕ → ℕ → ℕ
bound_at v r t i = line r (get_or t (i / 2 ^ v * (2 * 2 ^ v) + i % 2 ^ v) 0) (get_or t (i / 2 ^ v * (2 * 2 ^ v) + i % 2 ^ v + 2 ^ v) 0)

pub bound-start : (v r : ℕ) (t : List ℕ) → Made (bound_at v r t) t t 0
bound-start v r t = made_none (bound_at v r t) t

pub bound-more : (v r : ℕ) (t₀ t : List ℕ) (i b k : ℕ) → Made (bound_at v r t₀) t₀ t i → i < length t₀ → b ≡ 2 ^ v → k ≡ i / b * (2 * b) + i % b
    → Made (bound_at v r t₀) t₀ (set t i (line r (get_or t k 0) (get_or t (k + b) 0))) (i + 1)
unfolding bound_at
bound-more v r t₀ t i b k m h eb ek =
    made_more (bound_at v r t₀) t₀ t i _ m h
    (rw (made-get (bound_at v r t₀) t₀ t i k 0 m (rw ek (place-ge i b)), made-get (bound_at v r t₀) t₀ t i (k + b) 0 m (later i k b (rw ek (place-ge i b))), ek, eb))
  where
    later : (i k b : ℕ) → i ≤ k → i ≤ k + b
    later i k b h = omega arith

pub bound-end : (v r : ℕ) (t₀ t : List ℕ) (n i : ℕ) → Made (bound_at v r t₀) t₀ t i → i ≡ n → n % 2 ^ v ≡ 0 → 2 * n ≤ length t₀
    → t ≡ bind_var v r (take (2 * n) t₀) ++ drop n t₀
unfolding bind_var insert_zero bound_at
bound-end v r t₀ t n i m e whole room =
    let half : length (take (2 * n) t₀) / 2 ≡ n = rw length-take (omega arith) in
    m.list ∙ rw (e, half) (ap (λ (l : List ℕ). l ++ drop n t₀) (tabulate-ext _ _ n at))
  where
    at : (j : ℕ) → j < n → bound_at v r t₀ j ≡ line r (get_or (take (2 * n) t₀) (j / 2 ^ v * (2 * 2 ^ v) + j % 2 ^ v) 0) (get_or (take (2 * n) t₀) (j / 2 ^ v * (2 * 2 ^ v) + j % 2 ^ v + 2 ^ v) 0)
    at j h =
        let b : j / 2 ^ v * (2 * 2 ^ v) + j % 2 ^ v + 2 ^ v < 2 * n = place-lt j (2 ^ v) n (pow_pos v) whole h in
        let a : j / 2 ^ v * (2 * 2 ^ v) + j % 2 ^ v < 2 * n = omega arith in
        unfold bound_at in rw (get_or-take (2 * n) t₀ _ 0 a, get_or-take (2 * n) t₀ _ 0 b)

-- a power of two of elements, and a variable of it
pub power-fits : (words n v : ℕ) → n < 63 → v < n → words ≡ 2 * 2 ^ n → BindFits words (words / 4) v
power-fits words zero v h l e = absurd (omega arith)
power-fits words (suc k) v h l e =
    let q : words / 4 ≡ 2 ^ k = omega (arith, pow-suc 2 k) in
    record { small = omega arith; room = omega arith; whole = rw q (power-whole k v (omega arith)) }
  where
    sum : (k v : ℕ) → v ≤ k → k ≡ k - v + v
    sum k v l = omega arith

    power-whole : (k v : ℕ) → v ≤ k → 2 ^ k % 2 ^ v ≡ 0
    power-whole k v l = ap (λ (n : ℕ). 2 ^ n % 2 ^ v) (sum k v l) ∙ ap (λ (n : ℕ). n % 2 ^ v) (pow-add 2 (k - v) v) ∙ mul-mod_left (2 ^ (k - v)) (2 ^ v)

-- a quarter of the words is half of the elements
pub quarter : (words n v : ℕ) → v < n → words ≡ 2 * 2 ^ n → 2 * (words / 4) ≡ words / 2
quarter words zero v l e = absurd (omega arith)
quarter words (suc k) v l e = omega (arith, pow-suc 2 k)
