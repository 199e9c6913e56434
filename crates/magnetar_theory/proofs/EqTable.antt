-- A table bound at a point, in either order, is its sum against the point's eq table; eq of two points is a product.
-- Assumes nothing: the field and its laws are parameters.
use mathlib.Core.Path.{◌≡◌, refl, sym, ap, ap₂, ◌∙◌}
use mathlib.Core.List.{List, [], ◌∷◌, ◌++◌, reverse, reverse-cons, append_assoc, append-nil}
use Prim.Native.Nat.{ℕ, suc, ◌+◌, ◌^◌}
use native.Mathlib.Nat.{two-pow-succ}
use native.Mathlib.Omega.{arith}
use lib.ListN.{length, take, drop, length-append, length-reverse}
use Rattle.magnetar_theory.specs.Field.{Field, Laws}
use Rattle.magnetar_theory.proofs.Ring.{ring, mul_left_comm}
use Rattle.magnetar_theory.specs.Cells.{line_at}
use Rattle.magnetar_theory.specs.EqTable.{spread, eq_table, dot, bind_low, mix_lists, bind_top, bind_run, first, eq_product, scale}

module _ (F : Field) where
  open F use {K, 𝟎, 𝟏, ◌⊕◌, ◌⊗◌}

  infixl 60 ◌⊕◌
  infixl 70 ◌⊗◌
  pub dot-nil : (e : List K) → dot F e [] ≡ 𝟎
  dot-nil [] = refl
  dot-nil (e ∷ es) = refl

  module _ (L : Laws F) where
    two-terms : (p e x y d : K) → (𝟏 ⊕ p) ⊗ e ⊗ x ⊕ (p ⊗ e ⊗ y ⊕ d) ≡ e ⊗ line_at F p x y ⊕ d
    two-terms p e x y d = simp (ring, L.is-ring, line_at)

    one-term : (p e x : K) → (𝟏 ⊕ p) ⊗ e ⊗ x ⊕ 𝟎 ≡ e ⊗ line_at F p x 𝟎 ⊕ 𝟎
    one-term p e x = simp (ring, L.is-ring, line_at)

    pub dot-spread : (p : K) (e t : List K) → dot F (spread F p e) t ≡ dot F e (bind_low F p t)
    dot-spread p [] t = refl
    dot-spread p (e ∷ es) [] = refl
    dot-spread p (e ∷ es) (x ∷ []) = one-term p e x ∙ ap (λ (w : K). e ⊗ line_at F p x 𝟎 ⊕ w) (sym (dot-nil es))
    dot-spread p (e ∷ es) (x ∷ y ∷ t) = two-terms p e x y (dot F (spread F p es) t)
        ∙ ap (λ (w : K). e ⊗ line_at F p x y ⊕ w) (dot-spread p es t)

    first-is : (t : List K) → first F t ≡ dot F (𝟏 ∷ []) t
    first-is [] = refl
    first-is (x ∷ t) = simp (ring, L.is-ring, dot)

    -- all variables, lowest first
    pub bind-low : (b : ℕ) (rs : List K) (t : List K) → first F (bind_run F 0 b rs t) ≡ dot F (eq_table F rs) t
    bind-low b [] t = first-is t
    bind-low b (r ∷ rs) t = bind-low b rs (bind_low F r t) ∙ sym (dot-spread r (eq_table F rs) t)

    pub spread-append : (p : K) (s t : List K) → spread F p (s ++ t) ≡ spread F p s ++ spread F p t
    spread-append p [] t = refl
    spread-append p (x ∷ s) t = ap (λ (w : List K). (𝟏 ⊕ p) ⊗ x ∷ p ⊗ x ∷ w) (spread-append p s t)

    pub spread-scale : (p k : K) (t : List K) → spread F p (scale F k t) ≡ scale F k (spread F p t)
    spread-scale p k [] = refl
    spread-scale p k (x ∷ t) = λ i. mul_left_comm F L.is-ring (𝟏 ⊕ p) k x i ∷ mul_left_comm F L.is-ring p k x i ∷ spread-scale p k t i

    -- one more element at the end: the table once with 1 + r and once with r
    pub eq_table-snoc : (ps : List K) (r : K) → eq_table F (ps ++ (r ∷ [])) ≡ scale F (𝟏 ⊕ r) (eq_table F ps) ++ scale F r (eq_table F ps)
    eq_table-snoc [] r = refl
    eq_table-snoc (p ∷ ps) r = ap (spread F p) (eq_table-snoc ps r)
        ∙ spread-append p (scale F (𝟏 ⊕ r) (eq_table F ps)) (scale F r (eq_table F ps))
        ∙ ap₂ ◌++◌ (spread-scale p (𝟏 ⊕ r) (eq_table F ps)) (spread-scale p r (eq_table F ps))

    pub length-scale : (k : K) (t : List K) → length (scale F k t) ≡ length t
    length-scale k [] = refl
    length-scale k (x ∷ t) = ap suc (length-scale k t)

    pub length-eq_table : (ps : List K) → length (eq_table F ps) ≡ 2 ^ length ps
    length-eq_table [] = refl
    length-eq_table (p ∷ ps) = twice (eq_table F ps) ∙ omega (arith, length-eq_table ps, two-pow-succ (length ps))
      where
        twice : (t : List K) → length (spread F p t) ≡ length t + length t
        twice [] = refl
        twice (x ∷ t) = omega (arith, twice t)

    pub add-zero-left : (x : K) → x ≡ 𝟎 ⊕ x
    add-zero-left x = simp (ring, L.is-ring)

    pub dot-append : (e f t : List K) → dot F (e ++ f) t ≡ dot F e (take (length e) t) ⊕ dot F f (drop (length e) t)
    dot-append [] f t = add-zero-left (dot F f t)
    dot-append (e ∷ es) f [] = add-zero-left 𝟎 ∙ ap (λ (w : K). 𝟎 ⊕ w) (sym (dot-nil f))
    dot-append (e ∷ es) f (x ∷ t) = ap (λ (w : K). e ⊗ x ⊕ w) (dot-append es f t)
        ∙ sym (L.is-ring.add_assoc (e ⊗ x) (dot F es (take (length es) t)) (dot F f (drop (length es) t)))

    mix-terms : (r e x y c d : K) → ((𝟏 ⊕ r) ⊗ e ⊗ x ⊕ c) ⊕ (r ⊗ e ⊗ y ⊕ d) ≡ e ⊗ line_at F r x y ⊕ (c ⊕ d)
    mix-terms r e x y c d = simp (ring, L.is-ring, line_at)

    dot-zero : (k e d : K) → 𝟎 ≡ k ⊗ e ⊗ 𝟎 ⊕ 𝟎
    dot-zero k e d = simp (ring, L.is-ring)

    dot-scales : (r : K) (e xs ys : List K) → dot F (scale F (𝟏 ⊕ r) e) xs ⊕ dot F (scale F r e) ys ≡ dot F e (mix_lists F r xs ys)
    dot-scales r [] xs ys = L.is-ring.add-zero 𝟎
    dot-scales r (e ∷ es) [] [] = L.is-ring.add-zero 𝟎
    dot-scales r (e ∷ es) [] (y ∷ ys) = ap (λ (w : K). w ⊕ (r ⊗ e ⊗ y ⊕ dot F (scale F r es) ys)) (dot-zero (𝟏 ⊕ r) e 𝟎)
        ∙ mix-terms r e 𝟎 y 𝟎 (dot F (scale F r es) ys)
        ∙ ap (λ (w : K). e ⊗ line_at F r 𝟎 y ⊕ (w ⊕ dot F (scale F r es) ys)) (sym (dot-nil (scale F (𝟏 ⊕ r) es)))
        ∙ ap (λ (w : K). e ⊗ line_at F r 𝟎 y ⊕ w) (dot-scales r es [] ys)
    dot-scales r (e ∷ es) (x ∷ xs) [] = ap (λ (w : K). ((𝟏 ⊕ r) ⊗ e ⊗ x ⊕ dot F (scale F (𝟏 ⊕ r) es) xs) ⊕ w) (dot-zero r e 𝟎)
        ∙ mix-terms r e x 𝟎 (dot F (scale F (𝟏 ⊕ r) es) xs) 𝟎
        ∙ ap (λ (w : K). e ⊗ line_at F r x 𝟎 ⊕ (dot F (scale F (𝟏 ⊕ r) es) xs ⊕ w)) (sym (dot-nil (scale F r es)))
        ∙ ap (λ (w : K). e ⊗ line_at F r x 𝟎 ⊕ w) (dot-scales r es xs [])
    dot-scales r (e ∷ es) (x ∷ xs) (y ∷ ys) = mix-terms r e x y (dot F (scale F (𝟏 ⊕ r) es) xs) (dot F (scale F r es) ys)
        ∙ ap (λ (w : K). e ⊗ line_at F r x y ⊕ w) (dot-scales r es xs ys)

    -- the last element of the point binds the highest variable
    pub dot-snoc : (ps : List K) (r : K) (t : List K) → dot F (eq_table F (ps ++ (r ∷ []))) t
        ≡ dot F (eq_table F ps) (bind_top F (2 ^ length ps) r t)
    dot-snoc ps r t = rw (
      eq_table-snoc ps r,
      dot-append (scale F (𝟏 ⊕ r) (eq_table F ps)) (scale F r (eq_table F ps)) t,
      length-scale (𝟏 ⊕ r)
          (eq_table F ps),
      length-eq_table ps,
    )
        (dot-scales r (eq_table F ps) (take (2 ^ length ps) t) (drop (2 ^ length ps) t))

    -- the high variables first, highest first, and then the low ones, lowest first
    pub bind-run : (rs cs : List K) (t : List K) → first F (bind_run F (length rs) (length cs) (rs ++ cs) t)
        ≡ dot F (eq_table F (cs ++ reverse rs)) t
    bind-run [] cs t = bind-low (length cs) cs t ∙ ap (λ (w : List K). dot F (eq_table F w) t) (sym (append-nil cs))
    bind-run (r ∷ rs) cs t = bind-run rs cs (bind_top F (2 ^ (length rs + length cs)) r t)
        ∙ ap (λ (n : ℕ). dot F (eq_table F (cs ++ reverse rs)) (bind_top F (2 ^ n) r t)) size
        ∙ sym (dot-snoc (cs ++ reverse rs) r t) ∙ ap (λ (w : List K). dot F (eq_table F w) t) (append_assoc cs (reverse rs) (r ∷ [])
        ∙ ap (λ (w : List K). cs ++ w) (sym (reverse-cons r rs)))
      where
        size : length rs + length cs ≡ length (cs ++ reverse rs)
        size = simp (length-append, length-reverse) (omega arith)

    pub dot-scale : (k : K) (e t : List K) → dot F e (scale F k t) ≡ k ⊗ dot F e t
    dot-scale k [] t = simp (ring, L.is-ring, dot)
    dot-scale k (e ∷ es) [] = simp (ring, L.is-ring, dot)
    dot-scale k (e ∷ es) (x ∷ t) = ap (λ (w : K). e ⊗ (k ⊗ x) ⊕ w) (dot-scale k es t) ∙ step e x (dot F es t)
      where
        step : (e x d : K) → e ⊗ (k ⊗ x) ⊕ k ⊗ d ≡ k ⊗ (e ⊗ x ⊕ d)
        step e x d = simp (ring, L.is-ring)

    bind-spread : (r p : K) (t : List K) → bind_low F r (spread F p t) ≡ scale F (𝟏 ⊕ p ⊕ r) t
    bind-spread r p [] = refl
    bind-spread r p (x ∷ t) = λ i. step x i ∷ bind-spread r p t i
      where
        step : (x : K) → line_at F r ((𝟏 ⊕ p) ⊗ x) (p ⊗ x) ≡ (𝟏 ⊕ p ⊕ r) ⊗ x
        step x = simp (ring, L.is-ring, line_at)

    -- the eq table of a point at a point is the product
    pub eq-eq : (ps rs : List K) → length ps ≡ length rs → dot F (eq_table F rs) (eq_table F ps) ≡ eq_product F ps rs
    eq-eq [] [] h = simp (ring, L.is-ring, dot)
    eq-eq [] (r ∷ rs) h = absurd (omega arith)
    eq-eq (p ∷ ps) [] h = absurd (omega arith)
    eq-eq (p ∷ ps) (r ∷ rs) h = dot-spread r (eq_table F rs) (spread F p (eq_table F ps))
        ∙ ap (dot F (eq_table F rs)) (bind-spread r p (eq_table F ps)) ∙ dot-scale (𝟏 ⊕ p ⊕ r) (eq_table F rs) (eq_table F ps)
        ∙ ap (λ (w : K). (𝟏 ⊕ p ⊕ r) ⊗ w) (eq-eq ps rs (omega arith))
