-- Numbers cut where a list ends: parts of it, and the entries of a system.
-- Assumes nothing.
use mathlib.Core.Path.{◌≡◌, refl, sym, ap, ◌∙◌}
use mathlib.Core.Bool.{Bool, true, false}
use mathlib.Core.List.{List}
use Prim.Native.Nat.{ℕ, ◌+◌, ◌-◌, min}
use native.Mathlib.Omega.{arith}
use lib.Dec.{ltb}
use lib.ListN.{length, take, drop, drop_of_length-le, length-drop}
use lib.Seq.{take_all}
use borrow.Author.Tests.{ltb-true, ltb-false}
use Rattle.magnetar_matrix.specs.Matrix.{Entry}
use Rattle.magnetar_relation.specs.declared.shapes.SystemShape.{SystemShape}
use Rattle.magnetar_relation.specs.Rules.{system_at}

-- ---- parts of a list
pub take-cut : {A : Type 0} (k : ℕ) (l : List A) → take (min k (length l)) l ≡ take k l
take-cut k l = go (ltb (length l) k) refl
  where
    go : (b : Bool) → ltb (length l) k ≡ b → take (min k (length l)) l ≡ take k l
    go false t =
        let m : min k (length l) ≡ k = omega (arith, ltb-false (length l) k t) in
        rw m
    go true t =
        let h = ltb-true (length l) k t in
        let m : min k (length l) ≡ length l = omega (arith, h) in
        rw m (take_all (length l) l (omega arith) ∙ sym (take_all k l (omega (arith, h))))

pub drop-cut : {A : Type 0} (x : ℕ) (l : List A) → drop (min x (length l)) l ≡ drop x l
drop-cut x l = go (ltb (length l) x) refl
  where
    go : (b : Bool) → ltb (length l) x ≡ b → drop (min x (length l)) l ≡ drop x l
    go false t =
        let m : min x (length l) ≡ x = omega (arith, ltb-false (length l) x t) in
        rw m
    go true t =
        let h = ltb-true (length l) x t in
        let m : min x (length l) ≡ length l = omega (arith, h) in
        rw m (drop_of_length-le l {i = length l} (omega arith) ∙ sym (drop_of_length-le l {i = x} (omega (arith, h))))

-- two places from which the same is left
pub same_drop : {A : Type 0} (i j : ℕ) (l : List A) → min i (length l) ≡ min j (length l) → drop i l ≡ drop j l
same_drop i j l e = sym (drop-cut i l) ∙ (ap (λ (k : ℕ). drop k l) e ∙ drop-cut j l)

-- ---- a system whose entries start at a place that was cut
pub system-cut : (t : SystemShape) (a a' : ℕ) (es : List Entry) → a' ≡ min a (length es) → system_at t a' es ≡ system_at t a es
system-cut t a a' es e = rw (
  same_drop a' a es (omega (arith, e)),
  same_drop (a' + t.a.entries) (a + t.a.entries) es (omega (arith, e)),
  same_drop (a' + t.a.entries + t.b.entries) (a + t.a.entries + t.b.entries) es (omega (arith, e)),
)

-- ---- the k entries from a on, up to a place e that was cut
pub range-is : {A : Type 0} (l : List A) (a k e : ℕ) → e ≡ min (a + k) (length l) → take (e - a) (drop a l) ≡ take k (drop a l)
range-is l a k e q =
    let c : min k (length (drop a l)) ≡ min (e - a) (length (drop a l)) = rw length-drop (omega (arith, q)) in
    sym (take-cut (e - a) (drop a l)) ∙ (ap (λ (i : ℕ). take i (drop a l)) (sym c) ∙ take-cut k (drop a l))
