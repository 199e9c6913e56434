-- eq of two points part by part.
-- Assumes nothing.
use mathlib.Core.Path.{◌≡◌, sym, ap, ◌∙◌}
use mathlib.Core.List.{List, [], ◌∷◌, ◌++◌, reverse, append-nil}
use Prim.Native.Nat.{ℕ, ◌+◌, ◌*◌, ◌/◌, ◌%◌, ◌^◌, ◌<◌}
use native.Mathlib.Omega.{arith}
use lib.Dec.{lit<}
use lib.ListN.{length, take, drop, drop_of_length-le, length-take, take-append-drop}
use lib.Seq.{take_all}
use Rattle.magnetar_field.specs.Gf128.{◌⊕◌, ◌⊗◌}
use Rattle.magnetar_field.proofs.Product.{⊗-lt, one-⊗, ⊗-assoc}
use Rattle.magnetar_field.specs.Words.{elements}
use Rattle.magnetar_field.proofs.Elements.{elements-length, elements-drop}
use Rattle.magnetar_sumcheck_verifier.specs.Order.{eq_points, point}
use Rattle.magnetar_verifier.proofs.Pieces.{elements-take}

eq_points-lt : (ps qs : List ℕ) → eq_points ps qs < 2 ^ 128
unfolding eq_points
eq_points-lt [] qs = lit< tt
eq_points-lt (p ∷ ps) [] = lit< tt
eq_points-lt (p ∷ ps) (q ∷ qs) = ⊗-lt (1 ⊕ p ⊕ q) (eq_points ps qs)

pub eq_points-append : (a b c e : List ℕ) → length a ≡ length c → eq_points (a ++ b) (c ++ e) ≡ eq_points a c ⊗ eq_points b e
unfolding eq_points
eq_points-append [] b [] e h = sym (one-⊗ (eq_points b e) (eq_points-lt b e))
eq_points-append [] b (y ∷ c) e h = absurd (omega arith)
eq_points-append (x ∷ a) b [] e h = absurd (omega arith)
eq_points-append (x ∷ a) b (y ∷ c) e h =
    ap (λ (k : ℕ). (1 ⊕ x ⊕ y) ⊗ k) (eq_points-append a b c e (omega arith)) ∙ sym (⊗-assoc (1 ⊕ x ⊕ y) (eq_points a c) (eq_points b e))

-- no high variables, and no others
pub point-rising : (cs : List ℕ) → point 0 cs ≡ cs
unfolding point
point-rising cs = append-nil cs

pub point-falling : (cs : List ℕ) (n : ℕ) → length cs ≡ n → point n cs ≡ reverse cs
unfolding point
point-falling cs n e = rw (drop_of_length-le cs {i = n} (omega arith), take_all n cs (omega arith))

in_parts : (n k : ℕ) (tau : List ℕ) → k ≡ 2 * n → elements tau ≡ elements (take k tau) ++ elements (drop k tau)
in_parts n k tau e = rw (e, elements-take n tau, ← elements-drop n tau) (sym (take-append-drop n (elements tau)))

-- tau in two parts: the first one with the row challenges, the other with the shared ones reversed
pub eq-parts : (tau low high rows shared : List ℕ) (x y : ℕ) → length rows % 2 ≡ 0 → length shared % 2 ≡ 0
    → length tau ≡ length rows + length shared → low ≡ take (length rows) tau → high ≡ drop (length rows) tau
    → x ≡ eq_points (elements low) (point 0 (elements rows)) → y ≡ eq_points (elements high) (point (length shared / 2) (elements shared))
    → x ⊗ y ≡ eq_points (elements tau) (elements rows ++ reverse (elements shared))
eq-parts tau low high rows shared x y er es et el eh ex ey =
    rw (ex, ey, el, eh, point-rising (elements rows), point-falling (elements shared) (length shared / 2) (elements-length shared))
    (sym (ap (λ (l : List ℕ). eq_points l (elements rows ++ reverse (elements shared))) (in_parts (length rows / 2) (length rows) tau (omega arith))
    ∙ eq_points-append (elements (take (length rows) tau)) (elements (drop (length rows) tau)) (elements rows) (reverse (elements shared))
    (rw (elements-length, elements-length, length-take) (omega arith))))
