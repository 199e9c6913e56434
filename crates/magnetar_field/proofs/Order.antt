-- x^(2^128) is x, by computation of both halves; so 128 squarings give every element back.
-- Assumes nothing.
use Rattle.std.proofs.Common.{◌≡◌, ℕ, zero, suc, ◌+◌, ◌^◌, ◌<◌, sym, refl, ap, ◌∙◌, ap₂, mod-eq_of_lt, suc-add, zero-add, lit<}
use native.Mathlib.Nat.{le_of_suc-le}
use lib.Pow.{pow-lt}
use Rattle.magnetar_field.specs.Gf128.{◌⊕◌, ◌⊗◌, times_x}
use Rattle.magnetar_field.proofs.Xor.{ext}
use Rattle.magnetar_field.proofs.Product.{xpow, xpow-one, xpow-suc, ⊗-pow}
use Rattle.magnetar_field.proofs.Square.{sq, sq_n, sq_ns, sqs, sqs-sq_ns, sqs-⊕, sqs-⊗, sqs-one}

-- repeated squaring, n + m times
pub sqs-add : (n m a : ℕ) → sqs (n + m) a ≡ sqs m (sqs n a)
unfolding sqs
sqs-add zero m a = ap (λ (k : ℕ). sqs k a) (zero-add m)
sqs-add (suc n) m a = ap (λ (k : ℕ). sqs k a) (suc-add n m) ∙ sqs-add n m (sq a)

-- x^(2^64)
abbrev pub half : ℕ
half = 0x61651fea6b5832b944e598a795a299f6

to-half : sq_ns 64 2 ≡ half
unfolding sq_ns sq_n times_x ◌⊕◌
to-half = refl

from-half : sq_ns 64 half ≡ 2
unfolding sq_ns sq_n times_x ◌⊕◌
from-half = refl

pub sqs-half : sqs 64 2 ≡ half
sqs-half = sqs-sq_ns 64 2 (lit< tt) ∙ to-half

cycle : sqs 128 2 ≡ 2
cycle = sqs-add 64 64 2 ∙ ap (sqs 64) sqs-half ∙ sqs-sq_ns 64 half (lit< tt) ∙ from-half

pow-⊗ : (i : ℕ) → suc i < 128 → 2 ^ suc i ≡ 2 ^ i ⊗ 2
unfolding xpow
pow-⊗ i h = sym (
    ⊗-pow (2 ^ i) 1 (lit< tt) ∙ ap times_x (mod-eq_of_lt (pow-lt (le_of_suc-le h)) ∙ sym (xpow-one i (le_of_suc-le h)))
    ∙ sym (xpow-suc i 1) ∙ xpow-one (suc i) h)

sqs-pow : (i : ℕ) → i < 128 → sqs 128 (2 ^ i) ≡ 2 ^ i
sqs-pow zero h = sqs-one 128
sqs-pow (suc i) h =
    ap (sqs 128) (pow-⊗ i h) ∙ sqs-⊗ 128 (2 ^ i) 2
    ∙ ap₂ ◌⊗◌ (sqs-pow i (le_of_suc-le h)) cycle ∙ sym (pow-⊗ i h)

pub sqs-id : (a : ℕ) → a < 2 ^ 128 → sqs 128 a ≡ a
sqs-id a h = ext (sqs 128) (λ (x : ℕ). x) (sqs-⊕ 128) (λ x y. refl) 128 sqs-pow a h
