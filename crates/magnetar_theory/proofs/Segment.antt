-- The sum against the eq table of a vector that is zero outside aligned segments, segment by segment.
-- Assumes nothing: the field and its laws are parameters.
use mathlib.Core.Path.{◌≡◌, refl, sym, ap, ap₂, ◌∙◌}
use mathlib.Core.List.{List, [], ◌∷◌, ◌++◌}
use Prim.Native.Nat.{ℕ, zero, suc, ◌+◌, ◌-◌, ◌*◌, ◌^◌, ◌≤◌, ◌<◌}
use native.Mathlib.Nat.{suc-mul, zero-mul, two-pow-succ, sub-zero, suc-sub-suc}
use native.Mathlib.Omega.{arith}
use lib.ListN.{length, take, drop, get_or, replicate, length-drop, take-append-drop}
use lib.Seq.{take_at, drop_at, drop-append-add, drop-drop, length-take-le}
use lib.Pow.{pow_pos}
use Rattle.magnetar_theory.specs.SumCheck.{total, add_lists}
use Rattle.magnetar_theory.specs.Field.{Field, Laws}
use Rattle.magnetar_theory.proofs.Ring.{ring}
use Rattle.magnetar_theory.specs.EqTable.{eq_table, spread, dot, scale}
use Rattle.magnetar_theory.proofs.EqTable.{dot-nil, length-scale, length-eq_table, dot-append, eq_table-snoc}
use Rattle.magnetar_theory.specs.Matrix.{fold}
use Rattle.magnetar_theory.proofs.Matrix.{blocks, eq_table-append, dot-scale-left}
use Rattle.magnetar_theory.proofs.Outer.{dot-zeros}
use Rattle.magnetar_theory.specs.Segment.{Segment, offset, after, ZeroOutside, segment_part}

fits : (v b n : ℕ) → b * 2 ^ v + 2 ^ v ≤ 2 ^ n → (v ≤ n) × (b < 2 ^ (n - v))
fits zero b n h = (omega arith, rw sub-zero (omega arith))
fits (suc v) b zero h = absurd (omega (arith, two-pow-succ v, pow_pos v))
fits (suc v) b (suc n) h = go (fits v b n (omega (arith, rw (two-pow-succ v, two-pow-succ n) at h)))
  where
    go : (v ≤ n) × (b < 2 ^ (n - v)) → (suc v ≤ suc n) × (b < 2 ^ (suc n - suc v))
    go t = (omega arith, rw suc-sub-suc t.1)

module _ (F : Field) where
  open F use {K, 𝟎, 𝟏, ◌⊕◌, ◌⊗◌}

  infixl 60 ◌⊕◌
  infixl 70 ◌⊗◌
  -- the sum over the segments of eq(high part of r, number) times the segment's own sum
  abbrev pub by_segments : List Segment → List K → List K → K
  by_segments [] r w = 𝟎
  by_segments (g ∷ gs) r w = get_or (eq_table F (drop g.log_len r)) g.number 𝟎 ⊗ dot F (eq_table F (take g.log_len r))
      (segment_part F g w) ⊕ by_segments gs r w

  module _ (L : Laws F) where
    dot-split : (n : ℕ) (e t : List K) → dot F e t ≡ dot F (take n e) (take n t) ⊕ dot F (drop n e) (drop n t)
    dot-split zero e t = sym (start (dot F e t))
      where
        start : (x : K) → 𝟎 ⊕ x ≡ x
        start x = simp (ring, L.is-ring)
    dot-split (suc n) [] t = sym (L.is-ring.add-zero 𝟎)
    dot-split (suc n) (x ∷ e) [] = sym (ap (λ (w : K). 𝟎 ⊕ w) (dot-nil F (drop n e)) ∙ L.is-ring.add-zero 𝟎)
    dot-split (suc n) (x ∷ e) (y ∷ t) = ap (λ (w : K). x ⊗ y ⊕ w) (dot-split n e t)
        ∙ sym (L.is-ring.add_assoc (x ⊗ y) (dot F (take n e) (take n t)) (dot F (drop n e) (drop n t)))

    block : (us e : List K) (b : ℕ) → b < length us → take (length e) (drop (b * length e) (blocks F L us e)) ≡ scale F (get_or us b 𝟎) e
    block [] e b h = absurd (omega arith)
    block (u ∷ us) e zero h = rw zero-mul (take_at (scale F u e) (blocks F L us e) (length e) (length-scale F L u e))
    block (u ∷ us) e (suc b) h = ap (λ (k : ℕ). take (length e) (drop k (scale F u e ++ blocks F L us e))) (suc-mul b (length e) ∙ sizes)
        ∙ ap (take (length e)) (drop-append-add (scale F u e) (blocks F L us e) (b * length e)) ∙ block us e b (omega arith)
      where
        sizes : b * length e + length e ≡ length (scale F u e) + b * length e
        sizes = omega (arith, length-scale F L u e)

    -- the entries of the eq table that a segment has
    segment-eq : (g : Segment) (r : List K) → g.log_len ≤ length r → g.number < 2 ^ (length r - g.log_len)
        → segment_part F g (eq_table F r) ≡ scale F (get_or (eq_table F (drop g.log_len r)) g.number 𝟎) (eq_table F (take g.log_len r))
    segment-eq g r h k = ap (segment_part F g) (ap (eq_table F) (sym (take-append-drop v r)) ∙ eq_table-append F L (take v r) (drop v r))
        ∙ ap (λ (n : ℕ). take n (drop (g.number * n) (blocks F L (eq_table F (drop v r)) (eq_table F (take v r))))) (sym size)
        ∙ block (eq_table F (drop v r)) (eq_table F (take v r)) g.number many
      where
        v : ℕ
        v = g.log_len

        size : length (eq_table F (take v r)) ≡ 2 ^ v
        size = length-eq_table F L (take v r) ∙ ap (λ (n : ℕ). 2 ^ n) (length-take-le v r h)

        many : g.number < length (eq_table F (drop v r))
        many = rw (length-eq_table F L (drop v r), length-drop v r) k

    segment-dot : (g : Segment) (r w : List K) → g.log_len ≤ length r → g.number < 2 ^ (length r - g.log_len)
        → dot F (segment_part F g (eq_table F r)) (segment_part F g w)
        ≡ get_or (eq_table F (drop g.log_len r)) g.number 𝟎 ⊗ dot F (eq_table F (take g.log_len r)) (segment_part F g w)
    segment-dot g r w h k = ap (λ (e : List K). dot F e (segment_part F g w)) (segment-eq g r h k)
        ∙ dot-scale-left F L (get_or (eq_table F (drop g.log_len r)) g.number 𝟎) (eq_table F (take g.log_len r)) (segment_part F g w)

    pub segments : (gs : List Segment) (c : ℕ) (r w : List K) → ZeroOutside F c (2 ^ length r) gs w → dot F (drop c (eq_table F r)) (drop c w)
        ≡ by_segments gs r w
    segments [] c r w z = dot-zeros F L (drop c (eq_table F r)) (drop c w) z
    segments (g ∷ gs) c r w (p, q, z, l) = step gap here (segments gs (after g) r w l)
      where
        E : List K
        E = eq_table F r

        far : c + (offset g - c) ≡ offset g
        far = omega arith

        to : (t : List K) → drop (offset g - c) (drop c t) ≡ drop (offset g) t
        to t = drop-drop (offset g - c) c t ∙ ap (λ (n : ℕ). drop n t) far

        gap : dot F (drop c E) (drop c w) ≡ 𝟎 ⊕ dot F (drop (offset g) E) (drop (offset g) w)
        gap = dot-split (offset g - c) (drop c E) (drop c w)
            ∙ ap₂ ◌⊕◌ (dot-zeros F L (take (offset g - c) (drop c E)) (take (offset g - c) (drop c w)) z) (ap₂ (dot F) (to E) (to w))

        here : dot F (drop (offset g) E) (drop (offset g) w)
            ≡ dot F (segment_part F g E) (segment_part F g w) ⊕ dot F (drop (after g) E) (drop (after g) w)
        here = dot-split (2 ^ g.log_len) (drop (offset g) E) (drop (offset g) w)
            ∙ ap (λ (x : K). dot F (segment_part F g E) (segment_part F g w) ⊕ x)
            (ap₂ (dot F) (drop-drop (2 ^ g.log_len) (offset g) E) (drop-drop (2 ^ g.log_len) (offset g) w))

        ok : (g.log_len ≤ length r) × (g.number < 2 ^ (length r - g.log_len))
        ok = fits g.log_len g.number (length r) q

        clean : (x : K) → 𝟎 ⊕ x ≡ x
        clean x = simp (ring, L.is-ring)

        step : dot F (drop c E) (drop c w) ≡ 𝟎 ⊕ dot F (drop (offset g) E) (drop (offset g) w)
            → dot F (drop (offset g) E) (drop (offset g) w)
            ≡ dot F (segment_part F g E) (segment_part F g w) ⊕ dot F (drop (after g) E) (drop (after g) w)
            → dot F (drop (after g) E) (drop (after g) w) ≡ by_segments gs r w → dot F (drop c E) (drop c w) ≡ by_segments (g ∷ gs) r w
        step a b d = a ∙ clean (dot F (drop (offset g) E) (drop (offset g) w)) ∙ b ∙ ap₂ ◌⊕◌ (segment-dot g r w ok.0 ok.1) d

    -- the whole vector: the half of the segments and the half after it, by the last element of the point
    pub halves : (r : List K) (m : K) (w x : List K) → length w ≡ 2 ^ length r → dot F (eq_table F (r ++ (m ∷ []))) (w ++ x)
        ≡ (𝟏 ⊕ m) ⊗ dot F (eq_table F r) w ⊕ m ⊗ dot F (eq_table F r) x
    halves r m w x h = ap (λ (e : List K). dot F e (w ++ x)) (eq_table-snoc F L r m)
        ∙ dot-append F L (scale F (𝟏 ⊕ m) (eq_table F r)) (scale F m (eq_table F r)) (w ++ x)
        ∙ ap₂ ◌⊕◌ (ap (dot F (scale F (𝟏 ⊕ m) (eq_table F r))) (take_at w x (length (scale F (𝟏 ⊕ m) (eq_table F r))) size)
        ∙ dot-scale-left F L (𝟏 ⊕ m) (eq_table F r) w)
        (ap (dot F (scale F m (eq_table F r))) (drop_at w x (length (scale F (𝟏 ⊕ m) (eq_table F r))) size)
        ∙ dot-scale-left F L m (eq_table F r) x)
      where
        size : length w ≡ length (scale F (𝟏 ⊕ m) (eq_table F r))
        size = h ∙ sym (length-eq_table F L r) ∙ sym (length-scale F L (𝟏 ⊕ m) (eq_table F r))

    -- the entries of an eq table sum to one
    pub eq-total : (r : List K) → total F (eq_table F r) ≡ 𝟏
    eq-total [] = L.is-ring.add-zero 𝟏
    eq-total (p ∷ r) = both (eq_table F r) ∙ eq-total r
      where
        pair : (p e s : K) → (𝟏 ⊕ p) ⊗ e ⊕ (p ⊗ e ⊕ s) ≡ e ⊕ s
        pair p e s = simp (ring, L.is-ring)

        both : (t : List K) → total F (spread F p t) ≡ total F t
        both [] = refl
        both (e ∷ t) = pair p e (total F (spread F p t)) ∙ ap (λ (w : K). e ⊕ w) (both t)

    -- equal vectors, weighted by the entries of an eq table, add up to one of them
    pub fold-equal : (n : ℕ) (x r : List K) → length x ≡ n → fold F n (eq_table F r) (replicate (2 ^ length r) x) ≡ x
    fold-equal n x r h = ap (λ (k : ℕ). fold F n (eq_table F r) (replicate k x)) (sym (length-eq_table F L r)) ∙ weighted n x (eq_table F r) h
        ∙ ap (λ (e : K). scale F e x) (eq-total r) ∙ once x
      where
        zeros : (n : ℕ) (x : List K) → length x ≡ n → replicate n 𝟎 ≡ scale F 𝟎 x
        zeros zero [] h = refl
        zeros zero (y ∷ x) h = absurd (omega arith)
        zeros (suc n) [] h = absurd (omega arith)
        zeros (suc n) (y ∷ x) h = ap₂ ◌∷◌ (none y) (zeros n x (omega arith))
          where
            none : (y : K) → 𝟎 ≡ 𝟎 ⊗ y
            none y = simp (ring, L.is-ring)

        both : (d e : K) (x : List K) → add_lists F (scale F d x) (scale F e x) ≡ scale F (d ⊕ e) x
        both d e [] = refl
        both d e (y ∷ x) = ap₂ ◌∷◌ (terms d e y) (both d e x)
          where
            terms : (d e y : K) → d ⊗ y ⊕ e ⊗ y ≡ (d ⊕ e) ⊗ y
            terms d e y = simp (ring, L.is-ring)

        once : (x : List K) → scale F 𝟏 x ≡ x
        once [] = refl
        once (y ∷ x) = ap₂ ◌∷◌ (one y) (once x)
          where
            one : (y : K) → 𝟏 ⊗ y ≡ y
            one y = simp (ring, L.is-ring)

        weighted : (n : ℕ) (x es : List K) → length x ≡ n → fold F n es (replicate (length es) x) ≡ scale F (total F es) x
        weighted n x [] h = zeros n x h
        weighted n x (e ∷ es) h = ap (add_lists F (scale F e x)) (weighted n x es h) ∙ both e (total F es) x
