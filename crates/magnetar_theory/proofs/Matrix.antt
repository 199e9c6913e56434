-- The table of all products of a matrix, summed against an eq table, is the matrix's column sums against the folded vector.
-- Assumes nothing: the field and its laws are parameters.
use mathlib.Core.Path.{◌≡◌, refl, sym, ap, ap₂, ◌∙◌}
use mathlib.Core.List.{List, [], ◌∷◌, ◌++◌, map}
use Prim.Native.Nat.{ℕ, zero, suc, ◌^◌}
use native.Mathlib.Omega.{arith}
use lib.ListN.{length, get_or, replicate, length-replicate}
use lib.Seq.{take_at, drop_at}
use Rattle.magnetar_theory.specs.Field.{Field, Laws}
use Rattle.magnetar_theory.proofs.Ring.{ring}
use Rattle.magnetar_theory.specs.SumCheck.{add_lists}
use Rattle.magnetar_theory.specs.EqTable.{spread, eq_table, dot, scale}
use Rattle.magnetar_theory.proofs.EqTable.{spread-append, spread-scale, length-scale, length-eq_table, dot-nil, dot-append, dot-scale, add-zero-left}
use Rattle.magnetar_theory.specs.Matrix.{Entry, add_at, apply, columns, apply_all, fold, AllLength}

module _ (F : Field) where
  open F use {K, 𝟎, 𝟏, ◌⊕◌, ◌⊗◌}

  infixl 60 ◌⊕◌
  infixl 70 ◌⊗◌
  module _ (L : Laws F) where
    pub dot-comm : (s t : List K) → dot F s t ≡ dot F t s
    dot-comm [] t = sym (dot-nil F t)
    dot-comm (x ∷ s) [] = refl
    dot-comm (x ∷ s) (y ∷ t) = ap₂ ◌⊕◌ (L.is-ring.mul_comm x y) (dot-comm s t)

    dot-replicate : (n : ℕ) (e : List K) → dot F e (replicate n 𝟎) ≡ 𝟎
    dot-replicate n [] = refl
    dot-replicate zero (x ∷ e) = refl
    dot-replicate (suc n) (x ∷ e) = ap (λ (w : K). x ⊗ 𝟎 ⊕ w) (dot-replicate n e) ∙ none x
      where
        none : (x : K) → x ⊗ 𝟎 ⊕ 𝟎 ≡ 𝟎
        none x = simp (ring, L.is-ring)

    dot-add_at : (e t : List K) (i : ℕ) (v : K) → length e ≡ length t → dot F e (add_at F i v t) ≡ get_or e i 𝟎 ⊗ v ⊕ dot F e t
    dot-add_at [] [] i v l = simp (ring, L.is-ring)
    dot-add_at [] (y ∷ t) i v l = absurd (omega arith)
    dot-add_at (x ∷ e) [] i v l = absurd (omega arith)
    dot-add_at (x ∷ e) (y ∷ t) zero v l = here x y v (dot F e t)
      where
        here : (x y v d : K) → x ⊗ (y ⊕ v) ⊕ d ≡ x ⊗ v ⊕ (x ⊗ y ⊕ d)
        here x y v d = simp (ring, L.is-ring)
    dot-add_at (x ∷ e) (y ∷ t) (suc i) v l = ap (λ (w : K). x ⊗ y ⊕ w) (dot-add_at e t i v (omega arith))
        ∙ there (x ⊗ y) (get_or e i 𝟎 ⊗ v) (dot F e t)
      where
        there : (a b d : K) → a ⊕ (b ⊕ d) ≡ b ⊕ (a ⊕ d)
        there a b d = simp (ring, L.is-ring)

    length-add_at : (t : List K) (i : ℕ) (v : K) → length (add_at F i v t) ≡ length t
    length-add_at [] i v = refl
    length-add_at (x ∷ t) zero v = refl
    length-add_at (x ∷ t) (suc i) v = ap suc (length-add_at t i v)

    pub length-apply : (R : ℕ) (M : List (Entry F)) (z : List K) → length (apply F R M z) ≡ R
    length-apply R [] z = length-replicate R 𝟎
    length-apply R (m ∷ M) z = length-add_at (apply F R M z) m.row (m.val ⊗ get_or z m.col 𝟎) ∙ length-apply R M z

    pub length-columns : (n : ℕ) (M : List (Entry F)) (e : List K) → length (columns F n M e) ≡ n
    length-columns n [] e = length-replicate n 𝟎
    length-columns n (m ∷ M) e = length-add_at (columns F n M e) m.col (m.val ⊗ get_or e m.row 𝟎) ∙ length-columns n M e

    -- the weighted sum of the rows of M z is the columns' sums against z
    pub transpose : (R n : ℕ) (M : List (Entry F)) (e z : List K) → length e ≡ R → length z ≡ n → dot F e (apply F R M z)
        ≡ dot F z (columns F n M e)
    transpose R n [] e z h k = dot-replicate R e ∙ sym (dot-replicate n z)
    transpose R n (m ∷ M) e z h k = dot-add_at e (apply F R M z) m.row (m.val ⊗ get_or z m.col 𝟎) (h ∙ sym (length-apply R M z))
        ∙ ap₂ ◌⊕◌ (swap (get_or e m.row 𝟎) m.val (get_or z m.col 𝟎)) (transpose R n M e z h k)
        ∙ sym (dot-add_at z (columns F n M e) m.col (m.val ⊗ get_or e m.row 𝟎) (k ∙ sym (length-columns n M e)))
      where
        swap : (a b c : K) → a ⊗ (b ⊗ c) ≡ c ⊗ (b ⊗ a)
        swap a b c = simp (ring, L.is-ring)

    -- the eq table of a joined point: for each entry of the high part, the low part scaled by it
    abbrev pub blocks : List K → List K → List K
    blocks [] e = []
    blocks (u ∷ us) e = scale F u e ++ blocks us e

    blocks-spread : (us e : List K) (p : K) → spread F p (blocks us e) ≡ blocks us (spread F p e)
    blocks-spread [] e p = refl
    blocks-spread (u ∷ us) e p = spread-append F L p (scale F u e) (blocks us e) ∙ ap₂ ◌++◌ (spread-scale F L p u e) (blocks-spread us e p)

    pub eq_table-append : (ps qs : List K) → eq_table F (ps ++ qs) ≡ blocks (eq_table F qs) (eq_table F ps)
    eq_table-append [] qs = ones (eq_table F qs)
      where
        ones : (t : List K) → t ≡ blocks t (𝟏 ∷ [])
        ones [] = refl
        ones (x ∷ t) = ap₂ ◌∷◌ (sym (L.is-ring.mul-one x)) (ones t)
    eq_table-append (p ∷ ps) qs = ap (spread F p) (eq_table-append ps qs) ∙ blocks-spread (eq_table F qs) (eq_table F ps) p

    pub dot-scale-left : (k : K) (e t : List K) → dot F (scale F k e) t ≡ k ⊗ dot F e t
    dot-scale-left k e t = dot-comm (scale F k e) t ∙ dot-scale F L k t e ∙ ap (λ (w : K). k ⊗ w) (dot-comm t e)

    -- block by block
    dot-blocks : (us e : List K) (R : ℕ) (M : List (Entry F)) (zs : List (List K)) → length e ≡ R → dot F (blocks us e) (apply_all F R M zs)
        ≡ dot F us (map (λ (z : List K). dot F e (apply F R M z)) zs)
    dot-blocks [] e R M zs h = refl
    dot-blocks (u ∷ us) e R M [] h = dot-nil F (blocks (u ∷ us) e)
    dot-blocks (u ∷ us) e R M (z ∷ zs) h = dot-append F L (scale F u e) (blocks us e) (apply F R M z ++ apply_all F R M zs)
        ∙ ap₂ (λ (a b : List K). dot F (scale F u e) a ⊕ dot F (blocks us e) b)
        (take_at (apply F R M z) (apply_all F R M zs) (length (scale F u e)) size)
        (drop_at (apply F R M z) (apply_all F R M zs) (length (scale F u e)) size)
        ∙ ap₂ ◌⊕◌ (dot-scale-left u e (apply F R M z)) (dot-blocks us e R M zs h)
      where
        size : length (apply F R M z) ≡ length (scale F u e)
        size = length-apply R M z ∙ sym h ∙ sym (length-scale F L u e)

    dot-add : (e s t : List K) → dot F e (add_lists F s t) ≡ dot F e s ⊕ dot F e t
    dot-add [] s t = add-zero-left F L 𝟎
    dot-add (x ∷ e) [] t = add-zero-left F L (dot F (x ∷ e) t)
    dot-add (x ∷ e) (y ∷ s) [] = sym (L.is-ring.add-zero (dot F (x ∷ e) (y ∷ s)))
    dot-add (x ∷ e) (y ∷ s) (w ∷ t) = ap (λ (v : K). x ⊗ (y ⊕ w) ⊕ v) (dot-add e s t) ∙ terms x y w (dot F e s) (dot F e t)
      where
        terms : (a v t p q : K) → a ⊗ (v ⊕ t) ⊕ (p ⊕ q) ≡ (a ⊗ v ⊕ p) ⊕ (a ⊗ t ⊕ q)
        terms a v t p q = simp (ring, L.is-ring)

    pub dot-fold : (n : ℕ) (t es : List K) (zs : List (List K)) → dot F t (fold F n es zs) ≡ dot F es (map (λ (z : List K). dot F z t) zs)
    dot-fold n t [] zs = dot-replicate n t
    dot-fold n t (e ∷ es) [] = dot-replicate n t
    dot-fold n t (e ∷ es) (z ∷ zs) = dot-add t (scale F e z) (fold F n es zs)
        ∙ ap₂ ◌⊕◌ (dot-scale F L e t z ∙ ap (λ (w : K). e ⊗ w) (dot-comm t z)) (dot-fold n t es zs)

    length-add : (n : ℕ) (s t : List K) → length s ≡ n → length t ≡ n → length (add_lists F s t) ≡ n
    length-add n [] t h k = k
    length-add n (x ∷ s) [] h k = h
    length-add zero (x ∷ s) (y ∷ t) h k = absurd (omega arith)
    length-add (suc n) (x ∷ s) (y ∷ t) h k = ap suc (length-add n s t (omega arith) (omega arith))

    pub length-fold : (n : ℕ) (es : List K) (zs : List (List K)) → AllLength F n zs → length (fold F n es zs) ≡ n
    length-fold n [] zs h = length-replicate n 𝟎
    length-fold n (e ∷ es) [] h = length-replicate n 𝟎
    length-fold n (e ∷ es) (z ∷ zs) h = length-add n (scale F e z) (fold F n es zs) (length-scale F L e z ∙ h.0)
        (length-fold n es zs h.1)

    each : (R n : ℕ) (M : List (Entry F)) (e es : List K) (zs : List (List K)) → length e ≡ R → AllLength F n zs
        → dot F es (map (λ (z : List K). dot F e (apply F R M z)) zs) ≡ dot F es (map (λ (z : List K). dot F z (columns F n M e)) zs)
    each R n M e [] zs h k = refl
    each R n M e (u ∷ us) [] h k = refl
    each R n M e (u ∷ us) (z ∷ zs) h k = ap₂ (λ (a b : K). u ⊗ a ⊕ b) (transpose R n M e z h k.0) (each R n M e us zs h k.1)

    pub matrix : (n : ℕ) (M : List (Entry F)) (rows inst : List K) (zs : List (List K)) → AllLength F n zs
        → dot F (eq_table F (rows ++ inst)) (apply_all F (2 ^ length rows) M zs)
        ≡ dot F (columns F n M (eq_table F rows)) (fold F n (eq_table F inst) zs)
    matrix n M rows inst zs h = ap (λ (w : List K). dot F w (apply_all F (2 ^ length rows) M zs)) (eq_table-append rows inst)
        ∙ dot-blocks (eq_table F inst) (eq_table F rows) (2 ^ length rows) M zs (length-eq_table F L rows)
        ∙ each (2 ^ length rows) n M (eq_table F rows) (eq_table F inst) zs (length-eq_table F L rows) h
        ∙ sym (dot-fold n (columns F n M (eq_table F rows)) (eq_table F inst) zs)
