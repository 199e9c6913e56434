-- Words of which the first are changed or cleared, and words in front of 256.
-- Assumes nothing.
use mathlib.Core.Path.{◌≡◌, refl, sym, ap, ◌∙◌}
use mathlib.Core.Bool.{Bool, true, false}
use lib.Dec.{leb}
use mathlib.Core.List.{List, ◌++◌}
use Prim.Native.Nat.{ℕ, ◌+◌, ◌-◌, ◌*◌, ◌≤◌, ◌<◌, min}
use native.Mathlib.Omega.{arith}
use lib.ListN.{length, drop, replicate, length-append, length-drop, length-replicate}
use lib.Seq.{take_all, drop-append-add, drop-drop}
use borrow.Author.Tests.{le-leb, leb-true, leb-false}
use Rattle.magnetar_field.specs.Words.{overlaid}
use Rattle.magnetar_relation.specs.Steps.{cleared_to}
use Rattle.magnetar_relation.proofs.StepLaws.{cleared-none}

-- words as many as s, which are those of s from word k on
pub record Beyond (k : ℕ) (s u : List ℕ) : Type 0 where
  pub long : length u ≡ length s
  pub rest : drop k u ≡ drop k s

-- words in front, of which k or fewer are changed
pub in-front : (k : ℕ) (s t r : List ℕ) → length t ≤ k → length t + length r ≡ length s → r ≡ drop (length t) s → Beyond k s (t ++ r)
in-front k s t r h l e =
    let j : length t + (k - length t) ≡ k = omega arith in
    record {
      long = length-append t r ∙ l;
      rest = past (k - length t) (sym j) ∙ (ap (drop (k - length t)) e ∙ (drop-drop (k - length t) (length t) s ∙ ap (λ (i : ℕ). drop i s) j));
    }
  where
    past : (j : ℕ) → k ≡ length t + j → drop k (t ++ r) ≡ drop j r
    past j q = ap (λ (i : ℕ). drop i (t ++ r)) q ∙ drop-append-add t r j

-- words in front of 256 words of 0
pub over : (d : List ℕ) → length d ≤ 256 → overlaid d (replicate 256 0) ≡ d ++ drop (length d) (replicate 256 0)
unfolding overlaid
over d few =
    ap (λ (u : List ℕ). u ++ drop (length d) (replicate 256 0))
    (take_all (length (replicate {A = ℕ} 256 0)) d (omega (arith, few, length-replicate {A = ℕ} 256 0)))

-- words of which the first are cleared, whatever they were
pub cleared-same : (n : ℕ) (s u : List ℕ) → 2 * n ≤ length s → Beyond (2 * n) s u → cleared_to n u ≡ cleared_to n s
unfolding cleared_to
cleared-same n s u h b = rw (b.long, le-leb (2 * n) (length s) h, b.rest)

-- and cleared before
pub cleared-twice : (k n : ℕ) (s : List ℕ) → k ≤ n → 2 * n ≤ length s → cleared_to n (cleared_to k s) ≡ cleared_to n s
unfolding cleared_to
cleared-twice k n s h f = cleared-same n s (cleared_to k s) f (rw (le-leb (2 * k) (length s) (omega arith)) b)
  where
    z : List ℕ
    z = replicate (2 * k) 0

    l : length z ≡ 2 * k
    l = length-replicate (2 * k) 0

    b : Beyond (2 * n) s (z ++ drop (2 * k) s)
    b = in-front (2 * n) s z (drop (2 * k) s) (omega (arith, l)) (rw (l, length-drop) (omega arith)) (ap (λ (i : ℕ). drop i s) (sym l))

-- cleared as far as a sum that stops at the largest word t; the words s are fewer than twice that
pub cleared-most : (t m b q k n : ℕ) (s : List ℕ) → k ≡ min (m + b) t → n ≡ min (k + q) t → length s < 2 * t → cleared_to n s ≡ cleared_to (m + b + q) s
cleared-most t m b q k n s ek en h = go (leb (m + b + q) t) refl
  where
    go : (c : Bool) → leb (m + b + q) t ≡ c → cleared_to n s ≡ cleared_to (m + b + q) s
    go true e = let i : n ≡ m + b + q = omega (arith, ek, en, leb-true (m + b + q) t e) in ap (λ (j : ℕ). cleared_to j s) i
    go false e =
        let f = leb-false (m + b + q) t e in
        sym (cleared-none n s (omega (arith, ek, en, f, h))) ∙ cleared-none (m + b + q) s (omega (arith, f, h))
