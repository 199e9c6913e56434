-- A word of 8 bytes that lies across two lanes.
-- Assumes nothing.
use Rattle.std.proofs.Common.{◌≡◌, ℕ, ◌+◌, ◌-◌, ◌*◌, ◌/◌, ◌%◌, ◌^◌, ◌<◌, ◌≤◌, List, ◌++◌, length, sym, ap, ◌∙◌, add-zero, mod-lt, arith, pow_pos, shr_lt}
use native.Mathlib.Nat.{mul-mod_left}
use lib.Pow.{mod-pow-add, shl-shr}
use Rattle.magnetar_hash.specs.Bytes.{le_bytes}
use Rattle.magnetar_hash.specs.Sha3.{rate}
use Rattle.magnetar_hash.specs.Sponge.{Sponge, sponge, Fed}
use Rattle.magnetar_hash.proofs.Bytes.{length-le, le-append, le-mod}
use Rattle.magnetar_hash.proofs.Stream.{fed-fill}

-- o bytes of the first lane are taken already: the low bytes of w go there, and the others to the next lane

low_part : (w o : ℕ) → o ≤ 8 → w * 2 ^ (8 * o) % 2 ^ 64 / 2 ^ (8 * o) ≡ w % 2 ^ (8 * (8 - o))
low_part w o h =
    let e : 64 ≡ 8 * (8 - o) + 8 * o = omega arith in
    ap (λ (k : ℕ). w * 2 ^ (8 * o) % 2 ^ k / 2 ^ (8 * o)) e
    ∙ ap (λ (x : ℕ). x / 2 ^ (8 * o)) (mod-pow-add (w * 2 ^ (8 * o)) (8 * (8 - o)) (8 * o))
    ∙ rw (shl-shr, mul-mod_left, add-zero, shl-shr)

pub low-lt : (w o : ℕ) → o ≤ 8 → w * 2 ^ (8 * o) % 2 ^ 64 / 2 ^ (8 * o) < 2 ^ (8 * (8 - o))
low-lt w o h = rw (low_part w o h) (mod-lt w (pow_pos (8 * (8 - o))))

pub high_lt : (w o : ℕ) → o ≤ 8 → w < 2 ^ 64 → w / 2 ^ (64 - 8 * o) < 2 ^ (8 * o)
high_lt w o h l =
    let e : 8 * o + (64 - 8 * o) ≡ 64 = omega arith in
    let k : w < 2 ^ (8 * o + (64 - 8 * o)) = rw e l in
    shr_lt (8 * o) (64 - 8 * o) k

pub split-word
    : (w o : ℕ)
    → o ≤ 8
    → le_bytes (8 - o) (w * 2 ^ (8 * o) % 2 ^ 64 / 2 ^ (8 * o)) ++ le_bytes o (w / 2 ^ (64 - 8 * o)) ≡ le_bytes 8 w
split-word w o h =
    let e : (8 - o) + o ≡ 8 = omega arith in
    let f : 64 - 8 * o ≡ 8 * (8 - o) = omega arith in
    rw (low_part w o h, f, le-mod) (sym (le-append (8 - o) o w) ∙ ap (λ (k : ℕ). le_bytes k w) e)

-- the place where a run ends
pub run_end : {t p s : List ℕ} {m n : ℕ} → m < rate → Fed t m p s n → n ≡ (m + length p) % rate
run_end {t} {p} {s} {m} {n} h f = ap (λ (u : Sponge). u.fill) f.state ∙ fed-fill (sponge t m) p h

pub lane-end : {t s : List ℕ} {m n : ℕ} (w o : ℕ) → m < rate → Fed t m (le_bytes (8 - o) w) s n → o ≡ m % 8 → n % 8 ≡ 0
lane-end {t} {s} {m} {n} w o h f e =
    let r = run_end h f in
    let l : length (le_bytes (8 - o) w) ≡ 8 - o = length-le (8 - o) w in
    let q : n ≡ (m + (8 - o)) % rate = r ∙ ap (λ (k : ℕ). (m + k) % rate) l in
    omega arith
