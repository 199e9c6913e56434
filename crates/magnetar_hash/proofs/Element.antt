-- The bytes of an element.
-- Assumes nothing.
use Rattle.std.proofs.Common.{◌≡◌, ℕ, ◌+◌, ◌*◌, ◌^◌, ◌<◌, ◌≤◌, List, ◌++◌, length, take, drop, sym, ap, ◌∙◌, ap₂, mul_comm, add_comm, length-take-le, take-add}
use lib.Pow.{high, low}
use Rattle.magnetar_hash.specs.Bytes.{le_bytes, number}
use Rattle.magnetar_field.specs.Gf128.{value}
use Rattle.magnetar_hash.specs.declared.transcript.Transcript.{Transcript}
use Rattle.magnetar_hash.specs.Transcript.{element}
use Rattle.magnetar_hash.proofs.Bytes.{le-append, le-mod}
use Rattle.magnetar_hash.proofs.Number.{number_append}

-- the low word's bytes, then the high word's
pub le-halves : (lo hi : ℕ) → lo < 2 ^ 64 → le_bytes 16 (hi * 2 ^ 64 + lo) ≡ le_bytes 8 lo ++ le_bytes 8 hi
le-halves lo hi h =
    le-append 8 8 (hi * 2 ^ 64 + lo)
    ∙ ap₂ (λ (x y : List ℕ). x ++ y) (sym (le-mod 8 (hi * 2 ^ 64 + lo)) ∙ ap (le_bytes 8) (low hi 64 h)) (ap (le_bytes 8) (high hi 64 h))

-- the element's number is that of the first 16 bytes of the state
pub value-element : (t : Transcript) → 8 ≤ length t.state → value (element t) ≡ number (take 16 t.state)
unfolding element
value-element t h =
    let s = t.state in
    let l : length (take 8 s) ≡ 8 = length-take-le 8 s h in
    let e : number (take 16 s) ≡ number (take 8 s) + 2 ^ 64 * number (take 8 (drop 8 s)) =
    ap number (take-add 8 8 s)
    ∙ number_append (take 8 s) (take 8 (drop 8 s))
    ∙ ap (λ (k : ℕ). number (take 8 s) + 2 ^ (8 * k) * number (take 8 (drop 8 s))) l
    in
    rw (e, add_comm (number (take 8 s)), mul_comm (2 ^ 64))
