-- Lengths that add up to the bytes lent: what is left of them on the way.
-- Assumes nothing.
use Rattle.std.proofs.Common.{◌≡◌, ℕ, ◌+◌, ◌-◌, ◌<◌, ◌≤◌, Bool, true, false, eqb, List, length, get_or, drop, sym, refl, ap, ◌∙◌, add-one, arith, drop_of_length-le, drop-cons, eq-eqb, ne_eqb, eqb-true}
use borrow.Author.Tests.{eqb-false}
use Rattle.magnetar_hash.specs.Parts.{total_length}

pub sum-next : (lens : List ℕ) (i : ℕ) → i < length lens → total_length (drop i lens) ≡ get_or lens i 0 + total_length (drop (i + 1) lens)
unfolding total_length
sum-next lens i h = rw (add-one, drop-cons lens i 0 h)

sum-end : (lens : List ℕ) (i : ℕ) → length lens ≤ i → total_length (drop i lens) ≡ 0
unfolding total_length
sum-end lens i h = ap total_length (drop_of_length-le lens {i = i} h)

-- of `size`, `left` is not yet used up by i lengths
pub record Used (lens : List ℕ) (size left i : ℕ) : Type 0 where
  pub within : left ≤ size
  pub total : total_length lens ≡ total_length (drop i lens) + (size - left)

pub used-none : (lens : List ℕ) (size : ℕ) → Used lens size size 0
used-none lens size = record { within = omega arith; total = omega arith }

pub used-more
    : {lens : List ℕ} {size left i : ℕ}
    → Used lens size left i
    → i < length lens
    → get_or lens i 0 ≤ left
    → Used lens size (left - get_or lens i 0) (i + 1)
used-more {lens} {size} {left} {i} u h l =
    record { within = omega (arith, u.within); total = omega (arith, u.within, u.total, sum-next lens i h) }

pub used_over
    : {lens : List ℕ} {size left i : ℕ}
    → Used lens size left i
    → i < length lens
    → left < get_or lens i 0
    → false ≡ eqb (total_length lens) size
used_over {lens} {size} {left} {i} u h l =
    sym (ne_eqb (total_length lens) size (λ e. omega (arith, u.within, u.total, sum-next lens i h)))

zero_left : (size left : ℕ) → left ≤ size → eqb left 0 ≡ eqb (size - left) size
zero_left size left h = go (eqb left 0) refl
  where
    go : (b : Bool) → eqb left 0 ≡ b → eqb left 0 ≡ eqb (size - left) size
    go true e = e ∙ sym (eq-eqb (size - left) size (omega (arith, eqb-true left 0 e)))
    go false e = e ∙ sym (ne_eqb (size - left) size (λ d. eqb-false left 0 e (omega arith)))

pub used_all : {lens : List ℕ} {size left i : ℕ} → Used lens size left i → length lens ≤ i → eqb left 0 ≡ eqb (total_length lens) size
used_all {lens} {size} {left} {i} u h =
    let e : total_length lens ≡ size - left = omega (arith, u.total, sum-end lens i h) in
    rw e (zero_left size left u.within)
