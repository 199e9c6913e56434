-- The multilinear extension: binding the highest variable keeps the value.
-- Assumes nothing.
use mathlib.Core.Path.{◌≡◌, refl, sym, ap, ap₂, ◌∙◌}
use mathlib.Core.List.{List, [], ◌∷◌, ◌++◌}
use Prim.Native.Nat.{ℕ, zero, suc, ◌+◌, ◌-◌, ◌*◌, ◌/◌, ◌%◌, ◌^◌, ◌≤◌, ◌<◌}
use native.Mathlib.Nat.{pow-suc, div-eq_of_lt, mod-eq_of_lt, zero-mul, zero-add, le_of_suc-le-suc}
use native.Mathlib.Omega.{arith}
use mathlib.Core.Bool.{Bool, true, false}
use lib.Dec.{ltb}
use borrow.Author.Tests.{ltb-true, ltb-false}
use lib.ListN.{length, get_or, take, drop, length-append, length-take, length-drop, get_or-append}
use lib.Pow.{pow_pos}
use lib.Seq.{ext_get_or, get_or-take, get_or-drop, get_or-append-add}
use Rattle.magnetar_field.specs.Gf128.{◌⊕◌, ◌⊗◌}
use Rattle.magnetar_multilinear.specs.EqTable.{eq_factor, odd, eq_at, eq_table}
use Rattle.magnetar_multilinear.specs.Multilinear.{dot, mle, line, insert_zero, bind_var}
use Rattle.magnetar_field.proofs.Xor.{⊕-assoc, ⊕-zero, zero-⊕, ⊕-self, ⊕-four, ⊕-lt}
use Rattle.magnetar_field.proofs.Product.{⊗-assoc, ⊗-left-comm, ⊗-⊕, ⊕-⊗, ⊗-one, one-⊗, ⊗-zero, ⊗-lt}
use Rattle.magnetar_field.proofs.Tabulation.{tabulate-of}
use Rattle.magnetar_multilinear.proofs.EqTables.{eq_table-length, eq_table-get, eq_table-nil, eq_at-cons}

-- ---- sums of products
pub dot-lt : (xs ys : List ℕ) → dot xs ys < 2 ^ 128
unfolding dot
dot-lt [] ys = pow_pos 128
dot-lt (x ∷ xs) [] = pow_pos 128
dot-lt (x ∷ xs) (y ∷ ys) = ⊕-lt 128 (x ⊗ y) (dot xs ys) (⊗-lt x y) (dot-lt xs ys)

pub dot-nil : (xs : List ℕ) → dot xs [] ≡ 0
unfolding dot
dot-nil [] = refl
dot-nil (x ∷ xs) = refl

-- each entry times c
pub scale : ℕ → List ℕ → List ℕ
scale c [] = []
scale c (y ∷ ys) = c ⊗ y ∷ scale c ys

scale-length : (c : ℕ) (ys : List ℕ) → length (scale c ys) ≡ length ys
unfolding scale
scale-length c [] = refl
scale-length c (y ∷ ys) = ap suc (scale-length c ys)

scale-get : (c : ℕ) (ys : List ℕ) (i : ℕ) → get_or (scale c ys) i 0 ≡ c ⊗ get_or ys i 0
unfolding scale
scale-get c [] i = sym (⊗-zero c)
scale-get c (y ∷ ys) zero = refl
scale-get c (y ∷ ys) (suc i) = scale-get c ys i

pub dot-scale : (c : ℕ) (xs ys : List ℕ) → dot xs (scale c ys) ≡ c ⊗ dot xs ys
unfolding dot scale
dot-scale c [] ys = sym (⊗-zero c)
dot-scale c (x ∷ xs) [] = sym (⊗-zero c)
dot-scale c (x ∷ xs) (y ∷ ys) = ap₂ ◌⊕◌ (⊗-left-comm x c y) (dot-scale c xs ys) ∙ sym (⊗-⊕ c (x ⊗ y) (dot xs ys))

-- a sum in two parts
pub dot-append : (xs ys zs : List ℕ) → dot xs (ys ++ zs) ≡ dot (take (length ys) xs) ys ⊕ dot (drop (length ys) xs) zs
unfolding dot
dot-append xs [] zs = sym (zero-⊕ (dot xs zs))
dot-append [] (y ∷ ys) zs = sym (⊕-self 0)
dot-append (x ∷ xs) (y ∷ ys) zs = ap (λ (n : ℕ). x ⊗ y ⊕ n) (dot-append xs ys zs) ∙ sym (⊕-assoc (x ⊗ y) _ _)

-- ---- lines through the entries of two tables
pub lines : ℕ → List ℕ → List ℕ → List ℕ
lines r [] ys = []
lines r (x ∷ xs) [] = []
lines r (x ∷ xs) (y ∷ ys) = line r x y ∷ lines r xs ys

lines-length : (r : ℕ) (xs ys : List ℕ) → length xs ≡ length ys → length (lines r xs ys) ≡ length xs
unfolding lines
lines-length r [] ys e = refl
lines-length r (x ∷ xs) [] e = absurd (omega arith)
lines-length r (x ∷ xs) (y ∷ ys) e = ap suc (lines-length r xs ys (omega arith))

lines-get : (r : ℕ) (xs ys : List ℕ) (i : ℕ) → i < length xs → i < length ys → get_or (lines r xs ys) i 0 ≡ line r (get_or xs i 0) (get_or ys i 0)
unfolding lines
lines-get r [] ys i h g = absurd (omega arith)
lines-get r (x ∷ xs) [] i h g = absurd (omega arith)
lines-get r (x ∷ xs) (y ∷ ys) zero h g = refl
lines-get r (x ∷ xs) (y ∷ ys) (suc i) h g = lines-get r xs ys i (le_of_suc-le-suc h) (le_of_suc-le-suc g)

line-⊗ : (r x y e : ℕ) → line r x y ⊗ e ≡ line r (x ⊗ e) (y ⊗ e)
unfolding line
line-⊗ r x y e = ⊕-⊗ x (r ⊗ (x ⊕ y)) e ∙ ap (λ (z : ℕ). x ⊗ e ⊕ z) (⊗-assoc r (x ⊕ y) e ∙ ap (λ (z : ℕ). r ⊗ z) (⊕-⊗ x y e))

line-⊕ : (r a b c d : ℕ) → line r a b ⊕ line r c d ≡ line r (a ⊕ c) (b ⊕ d)
unfolding line
line-⊕ r a b c d =
    ⊕-four a (r ⊗ (a ⊕ b)) c (r ⊗ (c ⊕ d)) ∙ ap (λ (z : ℕ). a ⊕ c ⊕ z) (sym (⊗-⊕ r (a ⊕ b) (c ⊕ d)) ∙ ap (λ (z : ℕ). r ⊗ z) (⊕-four a b c d))

pub dot-lines : (r : ℕ) (xs ys es : List ℕ) → length xs ≡ length ys → dot (lines r xs ys) es ≡ line r (dot xs es) (dot ys es)
unfolding dot lines
dot-lines r [] [] es e = unfold line in sym (zero-⊕ (r ⊗ (0 ⊕ 0)) ∙ ap (λ (z : ℕ). r ⊗ z) (⊕-self 0) ∙ ⊗-zero r)
dot-lines r [] (y ∷ ys) es e = absurd (omega arith)
dot-lines r (x ∷ xs) [] es e = absurd (omega arith)
dot-lines r (x ∷ xs) (y ∷ ys) [] e = unfold line in sym (zero-⊕ (r ⊗ (0 ⊕ 0)) ∙ ap (λ (z : ℕ). r ⊗ z) (⊕-self 0) ∙ ⊗-zero r)
dot-lines r (x ∷ xs) (y ∷ ys) (v ∷ vs) e =
    ap₂ ◌⊕◌ (line-⊗ r x y v) (dot-lines r xs ys vs (omega arith)) ∙ line-⊕ r (x ⊗ v) (y ⊗ v) (dot xs vs) (dot ys vs)

-- (1 + r) a + r b
pub line-sum : (r a b : ℕ) → a < 2 ^ 128 → line r a b ≡ eq_factor r false ⊗ a ⊕ eq_factor r true ⊗ b
unfolding line eq_factor
line-sum r a b h =
    ap (λ (z : ℕ). a ⊕ z) (⊗-⊕ r a b) ∙ sym (⊕-assoc a (r ⊗ a) (r ⊗ b)) ∙ ap (λ (z : ℕ). z ⊕ r ⊗ b) (sym (⊕-⊗ 1 r a ∙ ap (λ (z : ℕ). z ⊕ r ⊗ a) (one-⊗ a h)))

-- ---- eq with one more variable at the top
eq_at-low : (p : List ℕ) (r i : ℕ) → i < 2 ^ length p → eq_at (p ++ (r ∷ [])) i ≡ eq_factor r false ⊗ eq_at p i
eq_at-low [] r i h = let e : i ≡ 0 = omega arith in rw e (eq_at-cons r [] 0)
eq_at-low (q ∷ p) r i h =
    eq_at-cons q (p ++ (r ∷ [])) i ∙ ap (λ (z : ℕ). eq_factor q (odd i) ⊗ z) (eq_at-low p r (i / 2) (omega (arith, pow-suc 2 (length p))))
    ∙ ⊗-left-comm (eq_factor q (odd i)) (eq_factor r false) (eq_at p (i / 2)) ∙ ap (λ (z : ℕ). eq_factor r false ⊗ z) (sym (eq_at-cons q p i))

eq_at-high : (p : List ℕ) (r i : ℕ) → i < 2 ^ length p → eq_at (p ++ (r ∷ [])) (2 ^ length p + i) ≡ eq_factor r true ⊗ eq_at p i
eq_at-high [] r i h = let e : i ≡ 0 = omega arith in rw e (eq_at-cons r [] 1)
eq_at-high (q ∷ p) r i h =
    let a : (2 ^ suc (length p) + i) / 2 ≡ 2 ^ length p + i / 2 = omega (arith, pow-suc 2 (length p)) in
    let b : (2 ^ suc (length p) + i) % 2 ≡ i % 2 = omega (arith, pow-suc 2 (length p)) in
    eq_at-cons q (p ++ (r ∷ [])) (2 ^ suc (length p) + i)
    ∙ rw (a, b) (ap (λ (z : ℕ). eq_factor q (odd i) ⊗ z) (eq_at-high p r (i / 2) (omega (arith, pow-suc 2 (length p))))
    ∙ ⊗-left-comm (eq_factor q (odd i)) (eq_factor r true) (eq_at p (i / 2)) ∙ ap (λ (z : ℕ). eq_factor r true ⊗ z) (sym (eq_at-cons q p i)))

eq_table-snoc : (p : List ℕ) (r : ℕ) → eq_table (p ++ (r ∷ [])) ≡ scale (eq_factor r false) (eq_table p) ++ scale (eq_factor r true) (eq_table p)
eq_table-snoc p r =
    ext_get_or 0 _ _ size (λ i h. entry i (rw (eq_table-length, longer) at h) (ltb i (2 ^ length p)) refl)
  where
    longer : length (p ++ (r ∷ [])) ≡ suc (length p)
    longer = length-append p (r ∷ []) ∙ omega arith

    half : (c : ℕ) → length (scale c (eq_table p)) ≡ 2 ^ length p
    half c = scale-length c (eq_table p) ∙ eq_table-length p

    size : length (eq_table (p ++ (r ∷ []))) ≡ length (scale (eq_factor r false) (eq_table p) ++ scale (eq_factor r true) (eq_table p))
    size = rw (eq_table-length, longer, length-append, half, half) (omega (arith, pow-suc 2 (length p)))

    both : (c i : ℕ) → i < 2 ^ length p → get_or (scale c (eq_table p)) i 0 ≡ c ⊗ eq_at p i
    both c i h = scale-get c (eq_table p) i ∙ ap (λ (z : ℕ). c ⊗ z) (eq_table-get p i h)

    entry : (i : ℕ) → i < 2 ^ suc (length p) → (b : Bool) → ltb i (2 ^ length p) ≡ b
        → get_or (eq_table (p ++ (r ∷ []))) i 0 ≡ get_or (scale (eq_factor r false) (eq_table p) ++ scale (eq_factor r true) (eq_table p)) i 0
    entry i h true e =
        let l : i < 2 ^ length p = ltb-true i (2 ^ length p) e in
        eq_table-get (p ++ (r ∷ [])) i (rw longer h) ∙ eq_at-low p r i l
        ∙ sym (get_or-append (scale (eq_factor r false) (eq_table p)) _ 0 i (rw half l) ∙ both (eq_factor r false) i l)
    entry i h false e =
        let l : 2 ^ length p ≤ i = ltb-false i (2 ^ length p) e in
        let s : 2 ^ length p + (i - 2 ^ length p) ≡ i = omega arith in
        let g : i - 2 ^ length p < 2 ^ length p = omega (arith, pow-suc 2 (length p)) in
        let t : length (scale (eq_factor r false) (eq_table p)) + (i - 2 ^ length p) ≡ i = rw half s in
        eq_table-get (p ++ (r ∷ [])) i (rw longer h) ∙ ap (eq_at (p ++ (r ∷ []))) (sym s) ∙ eq_at-high p r (i - 2 ^ length p) g
        ∙ sym (ap (λ (n : ℕ). get_or (scale (eq_factor r false) (eq_table p) ++ scale (eq_factor r true) (eq_table p)) n 0) (sym t)
        ∙ get_or-append-add (scale (eq_factor r false) (eq_table p)) (scale (eq_factor r true) (eq_table p)) (i - 2 ^ length p) 0 ∙ both (eq_factor r true) (i - 2 ^ length p) g)

-- ---- binding the highest variable
insert-small : (v i : ℕ) → i < 2 ^ v → insert_zero v i ≡ i
unfolding insert_zero
insert-small v i h = rw (div-eq_of_lt h, mod-eq_of_lt h, zero-mul, zero-add)

pub bind_var-top : (n r : ℕ) (t : List ℕ) → length t ≡ 2 * 2 ^ n → bind_var n r t ≡ lines r (take (2 ^ n) t) (drop (2 ^ n) t)
unfolding bind_var
bind_var-top n r t e =
    sym (tabulate-of (lines r (take (2 ^ n) t) (drop (2 ^ n) t)) _ (length t / 2) 0 (lines-length r _ _ (rw (length-take, length-drop) (omega arith)) ∙ rw length-take (omega arith)) at)
  where
    at : (i : ℕ) → i < length t / 2 → get_or (lines r (take (2 ^ n) t) (drop (2 ^ n) t)) i 0 ≡ line r (get_or t (insert_zero n i) 0) (get_or t (insert_zero n i + 2 ^ n) 0)
    at i h =
        let l : i < 2 ^ n = omega arith in
        let z : insert_zero n i ≡ i = insert-small n i l in
        let c : i + 2 ^ n ≡ 2 ^ n + i = omega arith in
        lines-get r (take (2 ^ n) t) (drop (2 ^ n) t) i (rw length-take (omega arith)) (rw length-drop (omega arith))
        ∙ rw (z, get_or-take (2 ^ n) t i 0, get_or-drop (2 ^ n) t i 0, c)

pub mle-snoc : (t p : List ℕ) (r : ℕ) → length t ≡ 2 * 2 ^ length p → mle t (p ++ (r ∷ [])) ≡ mle (bind_var (length p) r t) p
unfolding mle
mle-snoc t p r e =
    let h : length (scale (eq_factor r false) (eq_table p)) ≡ 2 ^ length p = scale-length (eq_factor r false) (eq_table p) ∙ eq_table-length p in
    ap (dot t) (eq_table-snoc p r) ∙ dot-append t (scale (eq_factor r false) (eq_table p)) (scale (eq_factor r true) (eq_table p))
    ∙ rw (h, dot-scale, dot-scale)
    (sym (line-sum r (dot (take (2 ^ length p) t) (eq_table p)) (dot (drop (2 ^ length p) t) (eq_table p)) (dot-lt (take (2 ^ length p) t) (eq_table p)))
    ∙ sym (dot-lines r (take (2 ^ length p) t) (drop (2 ^ length p) t) (eq_table p) (rw (length-take, length-drop) (omega arith)))
    ∙ ap (λ (l : List ℕ). dot l (eq_table p)) (sym (bind_var-top (length p) r t e)))

-- with no variable left, the value is the entry
pub mle-nil : (t : List ℕ) → get_or t 0 0 < 2 ^ 128 → mle t [] ≡ get_or t 0 0
unfolding mle dot
mle-nil [] h = refl
mle-nil (x ∷ t) h = rw eq_table-nil (ap₂ ◌⊕◌ (⊗-one x h) (dot-nil t) ∙ ⊕-zero x)
