-- Two lists of values with the same combination by alpha are equal, or some alpha_k is in its list, of at most one element.
-- Assumes nothing: the field and its laws are parameters.
use mathlib.Core.Path.{◌≡◌, refl, sym, ap, ap₂, ◌∙◌}
use mathlib.Core.Bool.{Bool, true, false, ◌&&◌, cond}
use mathlib.Core.List.{List, [], ◌∷◌, Memᴰ}
use mathlib.Core.Logic.{◌⊎◌, inl, inr}
use Prim.Native.Nat.{ℕ, zero, suc, ◌≤◌, ◌<◌}
use native.Mathlib.Omega.{arith}
use lib.ListN.{length, take, get_or}
use Rattle.magnetar_theory.specs.Field.{Field, Laws, all_zero}
use Rattle.magnetar_theory.proofs.Ring.{ring}
use Rattle.magnetar_theory.proofs.SumCheck.{eq-of-sum-zero}
use Rattle.magnetar_theory.specs.EqTable.{dot}
use Rattle.magnetar_theory.specs.Tau.{Zeros}
use Rattle.magnetar_theory.proofs.Tau.{all-zero, eval-line}
use Rattle.magnetar_theory.specs.Alpha.{diffs, slope_roots, last_roots, alpha_list, BadAlpha}

module _ (F : Field) where
  open F use {K, 𝟎, 𝟏, ◌⊕◌, ◌⊗◌, same, roots}

  infixl 60 ◌⊕◌
  infixl 70 ◌⊗◌
  module _ (L : Laws F) where
    abbrev Found : K → List K → List K → Type 0
    Found c ds al = (k : ℕ) × (k < length al) × Memᴰ (get_or al k 𝟎) (last_roots F c ds (take k al))

    regroup : (c a d s : K) → (c ⊕ a ⊗ d) ⊕ s ≡ c ⊕ (a ⊗ d ⊕ s)
    regroup c a d s = L.is-ring.add_assoc c (a ⊗ d) s

    -- a polynomial whose second coefficient is not zero is not zero
    sloped : (c d : K) → same d 𝟎 ≡ false → all_zero F (c ∷ d ∷ []) ≡ false
    sloped c d e = ap (λ (b : Bool). same c 𝟎 && (b && true)) e ∙ some (same c 𝟎)
      where
        some : (b : Bool) → (b && (false && true)) ≡ false
        some true = refl
        some false = refl

    slope-root : (c d a : K) → c ⊕ a ⊗ d ≡ 𝟎 → ((c ≡ 𝟎) × (d ≡ 𝟎)) ⊎ Memᴰ a (slope_roots F c d)
    slope-root c d a h = go (same d 𝟎) refl
      where
        alone : (c a : K) → c ⊕ a ⊗ 𝟎 ≡ c
        alone c a = simp (ring, L.is-ring)

        go : (b : Bool) → same d 𝟎 ≡ b → ((c ≡ 𝟎) × (d ≡ 𝟎)) ⊎ Memᴰ a (cond b [] (roots (c ∷ d ∷ [])))
        go true e = let z : d ≡ 𝟎 = L.is-ring.same_true d 𝟎 e in inl (sym (alone c a) ∙ ap (λ (v : K). c ⊕ a ⊗ v) (sym z) ∙ h, z)
        go false e = inr (L.root_listed (c ∷ d ∷ []) a (sloped c d e) (eval-line F L c d a ∙ h))

    last-root : (c d a : K) (ds : List K) → Zeros F ds → c ⊕ a ⊗ d ≡ 𝟎 → ((c ≡ 𝟎) × (d ≡ 𝟎)) ⊎ Memᴰ a (last_roots F c (d ∷ ds) [])
    last-root c d a ds z h = rw (all-zero F L ds z) (slope-root c d a h)

    search-last : (al ds : List K) (c : K) → length al ≡ length ds → c ⊕ dot F al ds ≡ 𝟎 → ((c ≡ 𝟎) × Zeros F ds) ⊎ Found c ds al
    search-last [] [] c l e = inl (sym (L.is-ring.add-zero c) ∙ e, tt)
    search-last [] (d ∷ ds) c l e = absurd (omega arith)
    search-last (a ∷ al) [] c l e = absurd (omega arith)
    search-last (a ∷ al) (d ∷ ds) c l e = go (search-last al ds (c ⊕ a ⊗ d) (omega arith) (regroup c a d (dot F al ds) ∙ e))
      where
        go : ((c ⊕ a ⊗ d ≡ 𝟎) × Zeros F ds) ⊎ Found (c ⊕ a ⊗ d) ds al → ((c ≡ 𝟎) × Zeros F (d ∷ ds)) ⊎ Found c (d ∷ ds) (a ∷ al)
        go (inr (k, h, m)) = inr (suc k, omega arith, m)
        go (inl (h, z)) = here (last-root c d a ds z h)
          where
            here : ((c ≡ 𝟎) × (d ≡ 𝟎)) ⊎ Memᴰ a (last_roots F c (d ∷ ds) []) → ((c ≡ 𝟎) × Zeros F (d ∷ ds)) ⊎ Found c (d ∷ ds) (a ∷ al)
            here (inl (p, q)) = inl (p, (q, z))
            here (inr m) = inr (zero, omega arith, m)

    equal : (vs ts : List K) → length vs ≡ length ts → Zeros F (diffs F vs ts) → vs ≡ ts
    equal [] [] l z = refl
    equal [] (t ∷ ts) l z = absurd (omega arith)
    equal (v ∷ vs) [] l z = absurd (omega arith)
    equal (v ∷ vs) (t ∷ ts) l z = ap₂ ◌∷◌ (eq-of-sum-zero F L v t z.0) (equal vs ts (omega arith) z.1)

    length-diffs : (vs ts : List K) → length vs ≡ length ts → length (diffs F vs ts) ≡ length vs
    length-diffs [] ts l = refl
    length-diffs (v ∷ vs) [] l = omega arith
    length-diffs (v ∷ vs) (t ∷ ts) l = ap suc (length-diffs vs ts (omega arith))

    dot-diffs : (al vs ts : List K) → length vs ≡ length ts → dot F al (diffs F vs ts) ≡ dot F al vs ⊕ dot F al ts
    dot-diffs [] vs ts l = zero-sum
      where
        zero-sum : 𝟎 ≡ 𝟎 ⊕ 𝟎
        zero-sum = simp (ring, L.is-ring)
    dot-diffs (a ∷ al) [] [] l = simp (ring, L.is-ring)
    dot-diffs (a ∷ al) [] (t ∷ ts) l = absurd (omega arith)
    dot-diffs (a ∷ al) (v ∷ vs) [] l = absurd (omega arith)
    dot-diffs (a ∷ al) (v ∷ vs) (t ∷ ts) l = ap (λ (w : K). a ⊗ (v ⊕ t) ⊕ w) (dot-diffs al vs ts (omega arith))
        ∙ terms a v t (dot F al vs) (dot F al ts)
      where
        terms : (a v t p q : K) → a ⊗ (v ⊕ t) ⊕ (p ⊕ q) ≡ (a ⊗ v ⊕ p) ⊕ (a ⊗ t ⊕ q)
        terms a v t p q = simp (ring, L.is-ring)

    pub alpha-sound : (al vs ts : List K) → length al ≡ length vs → length vs ≡ length ts → dot F al vs ≡ dot F al ts → (vs ≡ ts)
        ⊎ BadAlpha F vs ts al
    alpha-sound al vs ts l k e = go (search-last al (diffs F vs ts) 𝟎 (l ∙ sym (length-diffs vs ts k)) zero-dot)
      where
        double : (x : K) → 𝟎 ⊕ (x ⊕ x) ≡ 𝟎
        double x = simp (ring, L.is-ring)

        zero-dot : 𝟎 ⊕ dot F al (diffs F vs ts) ≡ 𝟎
        zero-dot = ap (λ (w : K). 𝟎 ⊕ w) (dot-diffs al vs ts k ∙ ap (λ (w : K). w ⊕ dot F al ts) e) ∙ double (dot F al ts)

        go : ((𝟎 ≡ 𝟎) × Zeros F (diffs F vs ts)) ⊎ Found 𝟎 (diffs F vs ts) al → (vs ≡ ts) ⊎ BadAlpha F vs ts al
        go (inl (_, z)) = inl (equal vs ts k z)
        go (inr m) = inr m

    pub slope-few : (c d : K) → length (slope_roots F c d) ≤ 1
    slope-few c d = go (same d 𝟎) refl
      where
        go : (b : Bool) → same d 𝟎 ≡ b → length (cond b [] (roots (c ∷ d ∷ []))) ≤ 1
        go true e = omega arith
        go false e = L.roots_few c (d ∷ []) (sloped c d e)

    head_few : (c d : K) (b : Bool) → length (cond b (slope_roots F c d) []) ≤ 1
    head_few c d true = slope-few c d
    head_few c d false = omega arith

    last-few : (c : K) (ds earlier : List K) → length (last_roots F c ds earlier) ≤ 1
    last-few c [] earlier = omega arith
    last-few c (d ∷ ds) [] = head_few c d (all_zero F ds)
    last-few c (d ∷ ds) (a ∷ earlier) = last-few (c ⊕ a ⊗ d) ds earlier

    pub alpha-few : (vs ts earlier : List K) → length (alpha_list F vs ts earlier) ≤ 1
    alpha-few vs ts earlier = last-few 𝟎 (diffs F vs ts) earlier
