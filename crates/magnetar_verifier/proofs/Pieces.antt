-- Parts of a slice of words as parts of its elements.
-- Assumes nothing.
use mathlib.Core.Path.{◌≡◌, refl, ap, ◌∙◌}
use mathlib.Core.List.{List, [], ◌∷◌}
use Prim.Native.Nat.{ℕ, zero, suc, ◌+◌, ◌-◌, ◌*◌, ◌/◌, ◌^◌, ◌≤◌, ◌<◌}
use native.Mathlib.Omega.{arith}
use lib.ListN.{length, get_or, take, drop, length-drop}
use lib.Seq.{get_or-take, get_or-drop, length-take-le}
use Rattle.std.proofs.lemmas.List.{drop-take, take-take, drop-drop}
use Rattle.magnetar_field.specs.Words.{elements}
use Rattle.magnetar_field.proofs.Elements.{elements-length, elements-drop}
use Rattle.magnetar_protocol.specs.Proof.{part}

two-suc : (i : ℕ) → 2 * suc i ≡ suc (suc (2 * i))
two-suc i = omega arith

pub elements-take : (n : ℕ) (s : List ℕ) → elements (take (2 * n) s) ≡ take n (elements s)
unfolding elements
elements-take zero s = refl
elements-take (suc n) [] = rw two-suc
elements-take (suc n) (x ∷ []) = rw two-suc (refl)
elements-take (suc n) (x ∷ (y ∷ s)) = rw two-suc (ap (λ (l : List ℕ). (y * 2 ^ 64 + x) ∷ l) (elements-take n s))

-- the words of n elements from place i on
pub elements-part : (i n a e : ℕ) (s : List ℕ) → a ≡ 2 * i → e ≡ a + 2 * n → elements (take (e - a) (drop a s)) ≡ part i n (elements s)
elements-part i n a e s p q =
    let k : e - a ≡ 2 * n = omega arith in
    rw (k, p, elements-drop i s) (elements-take n (drop (2 * i) s))

pub part-get : (i n j : ℕ) (s : List ℕ) → j < n → get_or (part i n s) j 0 ≡ get_or s (i + j) 0
part-get i n j s h = get_or-take n (drop i s) j 0 h ∙ get_or-drop i s j 0

pub part_length : (i n : ℕ) (s : List ℕ) → 2 * i + 2 * n ≤ length s → length (part i n (elements s)) ≡ n
part_length i n s h = length-take-le n (drop i (elements s)) (rw (length-drop, elements-length) (omega arith))

-- a part of a part
pub part-part : (i n a k : ℕ) (w : List ℕ) → a + k ≤ n → part a k (part i n w) ≡ part (i + a) k w
part-part i n a k w h =
    let e : a + (n - a) ≡ n = omega arith in
    ap (λ (l : List ℕ). take k l) (rw e at (drop-take a (n - a) (drop i w)))
    ∙ take-take k (n - a) (drop a (drop i w)) (omega arith) ∙ ap (λ (l : List ℕ). take k l) (drop-drop a i w)

-- half of the words of n elements
pub half-of : {k : ℕ} (n : ℕ) → k ≡ 2 * n → k / 2 ≡ n
half-of n e = omega arith

-- the last of n messages of so many elements
pub message-within : (i width n j : ℕ) → j < n → i + width * j + width ≤ i + width * n
message-within i width n j h = omega (arith, go n j h)
  where
    go : (n j : ℕ) → j < n → width * j + width ≤ width * n
    go zero j h = absurd (omega arith)
    go (suc n) zero h = omega arith
    go (suc n) (suc j) h = omega (arith, go n j (omega arith))
