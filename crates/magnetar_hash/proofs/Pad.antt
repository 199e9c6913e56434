-- The padding, taken in as one byte or as its first and its last.
-- Assumes nothing.
use Rattle.std.proofs.Common.{◌≡◌, ℕ, suc, ◌+◌, ◌-◌, ◌<◌, List, [], ◌∷◌, ◌++◌, replicate, sym, ap, ◌∙◌, arith}
use Rattle.magnetar_hash.specs.Bytes.{le_bytes}
use Rattle.magnetar_hash.specs.Sha3.{rate, padding}
use Rattle.magnetar_hash.specs.Sponge.{Sponge, sponge, fed, Fed}
use Rattle.magnetar_hash.proofs.Stream.{fed-append, fed-zeros}
use Rattle.magnetar_hash.proofs.Word.{run_end}

-- one byte of the block is left
pub pad-one : {s t : List ℕ} {n k : ℕ} → n ≡ 135 → Fed s 135 (le_bytes 1 0x86) t k → t ≡ (fed (sponge s n) (padding (rate - n))).lanes
unfolding padding le_bytes
pad-one {s} {t} {n} {k} e f = rw e (ap (λ (u : Sponge). u.lanes) f.state)

middle : (t : List ℕ) (n k : ℕ) → n < 135 → k ≡ n + 1 → fed (sponge t k) (replicate (134 - n) 0) ≡ sponge t 135
middle t n k h e =
    let l : k + (134 - n) ≡ 135 = omega arith in
    fed-zeros t k (134 - n) (omega arith) ∙ ap (sponge t) l

-- more are left
pub pad-two
    : {s t u : List ℕ} {n k j : ℕ}
    → n < 135
    → Fed s n (le_bytes 1 0x06) t k
    → Fed t 135 (le_bytes 1 0x80) u j
    → u ≡ (fed (sponge s n) (padding (rate - n))).lanes
unfolding padding le_bytes
pad-two {s} {t} {u} {n} {k} {j} h f g =
    let z : List ℕ = replicate (134 - n) 0 in
    let e : rate - n ≡ suc (suc (134 - n)) = omega arith in
    let r = run_end {n = k} (omega arith) f in
    let l : k ≡ n + 1 = omega arith in
    let a : fed (sponge s n) (0x06 ∷ (z ++ 0x80 ∷ [])) ≡ sponge u j =
    fed-append (sponge s n) (0x06 ∷ []) (z ++ 0x80 ∷ [])
    ∙ ap (λ (v : Sponge). fed v (z ++ 0x80 ∷ [])) (sym f.state)
    ∙ fed-append (sponge t k) z (0x80 ∷ [])
    ∙ ap (λ (v : Sponge). fed v (0x80 ∷ [])) (middle t n k h l)
    ∙ sym g.state
    in
    rw e (ap (λ (v : Sponge). v.lanes) (sym a))
