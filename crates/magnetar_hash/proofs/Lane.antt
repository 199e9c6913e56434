-- Bytes that lie in one lane are taken in at once.
-- Assumes nothing.
use Rattle.std.proofs.Common.{◌≡◌, ℕ, zero, suc, ◌+◌, ◌*◌, ◌/◌, ◌%◌, ◌^◌, ◌<◌, ◌≤◌, List, length, get_or, set, sym, ap, ◌∙◌, ap₂, mod-lt, mod-eq_of_lt, zero-lt-suc, mul_assoc, add-mul, div-add-mod', arith, length-set, get_or-set_same, set-set, pow-add, shl_lt, shl_exact, shr_lt}
use lib.Bits.{xor_shifted, xor_comm}
use Rattle.magnetar_keccak.specs.State.{◌⊕◌}
use Rattle.magnetar_keccak.specs.Keccak.{permuted}
use Rattle.magnetar_keccak.proofs.Xor.{⊕-assoc}
use Rattle.magnetar_hash.specs.Bytes.{le_bytes}
use Rattle.magnetar_hash.specs.Sha3.{rate, add_byte}
use Rattle.magnetar_hash.specs.Sponge.{Sponge, sponge, turned, fed, ValidFill, Fed}
use Rattle.magnetar_hash.proofs.Stream.{turned-part, turned-full, fed_by}

-- the lowest byte and the rest, each at its place, are the number
join-bytes : (w o : ℕ) → w % 256 * 2 ^ (8 * o) ⊕ w / 256 * 2 ^ (8 * (o + 1)) ≡ w * 2 ^ (8 * o)
unfolding ◌⊕◌
join-bytes w o =
    let e : 8 * (o + 1) ≡ 8 + 8 * o = omega arith in
    let l : w % 256 * 2 ^ (8 * o) < 2 ^ (8 + 8 * o) = shl_lt 8 (8 * o) (mod-lt w (zero-lt-suc 255)) in
    rw e
    (xor_comm (w % 256 * 2 ^ (8 * o)) (w / 256 * 2 ^ (8 + 8 * o))
    ∙ xor_shifted (w / 256) (8 + 8 * o) (w % 256 * 2 ^ (8 * o)) l
    ∙ ap (λ (p : ℕ). w / 256 * p + w % 256 * 2 ^ (8 * o)) (pow-add 2 8 (8 * o))
    ∙ ap (λ (x : ℕ). x + w % 256 * 2 ^ (8 * o)) (sym (mul_assoc (w / 256) 256 (2 ^ (8 * o))))
    ∙ sym (add-mul (w / 256 * 256) (w % 256) (2 ^ (8 * o)))
    ∙ ap (λ (x : ℕ). x * 2 ^ (8 * o)) (div-add-mod' w 256))

-- the state with the number w added to the lane of byte j, from that byte on
abbrev pub in_lane : List ℕ → ℕ → ℕ → List ℕ
in_lane s j w = set s (j / 8) (get_or s (j / 8) 0 ⊕ w * 2 ^ (8 * (j % 8)))

in-lane-step
    : (s : List ℕ) (j w : ℕ)
    → length s ≡ 25
    → j < rate
    → j % 8 + 2 ≤ 8
    → in_lane (add_byte s j (w % 256)) (j + 1) (w / 256) ≡ in_lane s j w
unfolding add_byte
in-lane-step s j w l h g =
    let k : (j + 1) / 8 ≡ j / 8 = omega arith in
    let o : (j + 1) % 8 ≡ j % 8 + 1 = omega arith in
    let b : j / 8 < length s = omega arith in
    rw
    (k, o, get_or-set_same s (j / 8) (get_or s (j / 8) 0 ⊕ w % 256 * 2 ^ (8 * (j % 8))) 0 b, set-set, ⊕-assoc, join-bytes w (j % 8))

pub fed-lane
    : (n : ℕ) (s : List ℕ) (j w : ℕ)
    → length s ≡ 25
    → j < rate
    → 0 < n
    → j % 8 + n ≤ 8
    → w < 2 ^ (8 * n)
    → fed (sponge s j) (le_bytes n w) ≡ turned (in_lane s j w) (j + n)
unfolding fed le_bytes add_byte
fed-lane zero s j w l h p g f = absurd (omega arith)
fed-lane (suc zero) s j w l h p g f = ap (λ (b : ℕ). turned (in_lane s j b) (j + 1)) (mod-eq_of_lt f)
fed-lane (suc (suc n)) s j w l h p g f =
    let r : j + 1 < rate = omega arith in
    let e : 8 * suc (suc n) ≡ 8 * suc n + 8 = omega arith in
    let t : List ℕ = add_byte s j (w % 256) in
    ap (λ (u : Sponge). fed u (le_bytes (suc n) (w / 256))) (turned-part t (j + 1) r)
    ∙ fed-lane (suc n) t (j + 1) (w / 256) (length-set s (j / 8) (get_or s (j / 8) 0 ⊕ w % 256 * 2 ^ (8 * (j % 8))) ∙ l) r (omega arith)
    (omega arith)
    (shr_lt (8 * suc n) 8 (rw e at f))
    ∙ ap₂ turned (in-lane-step s j w l h (omega arith)) (omega arith)

-- ---- the same, as the code has it: w is shifted to its place in a word of 64 bits

abbrev pub shifted : List ℕ → ℕ → ℕ → List ℕ
shifted s j w = set s (j / 8) (get_or s (j / 8) 0 ⊕ w * 2 ^ (8 * (j % 8)) % 2 ^ 64)

module _ (s : List ℕ) (j n w : ℕ) (h : ValidFill s j × (0 < n) × (j % 8 + n ≤ 8) × (w < 2 ^ (8 * n))) where
  turned-lane : fed (sponge s j) (le_bytes n w) ≡ turned (shifted s j w) (j + n)
  turned-lane = rw (shl_exact (8 * n) (8 * (j % 8)) 64 h.3 (omega arith)) (fed-lane n s j w h.0.size h.0.room h.1 h.2 h.3)

  pub lane-part : j + n < rate → Fed s j (le_bytes n w) (shifted s j w) (j + n)
  lane-part r = fed_by h.0 (sym (turned-lane ∙ turned-part (shifted s j w) (j + n) r))

  pub lane-full : {t : List ℕ} → rate ≤ j + n → t ≡ permuted (shifted s j w) → Fed s j (le_bytes n w) t 0
  lane-full r e = fed_by h.0 (ap (λ (u : List ℕ). sponge u 0) e ∙ sym (turned-lane ∙ turned-full (shifted s j w) (j + n) r))
