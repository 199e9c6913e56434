-- The sum-check is sound up to the lists of bad challenges, and complete.
-- Assumes nothing: the field and its laws are parameters.
use mathlib.Core.Path.{◌≡◌, refl, sym, ap, ◌∙◌}
use mathlib.Core.Bool.{Bool, true, false, ◌&&◌, cond, false≢true}
use mathlib.Core.List.{List, [], ◌∷◌, Memᴰ}
use mathlib.Core.Logic.{◌⊎◌, inl, inr}
use Prim.Native.Nat.{ℕ, zero, suc, ◌≤◌}
use native.Mathlib.Omega.{arith}
use lib.ListN.{length}
use Rattle.magnetar_theory.specs.Field.{Field, Laws, eval, all_zero}
use Rattle.magnetar_theory.proofs.Ring.{ring}
use Rattle.magnetar_theory.specs.SumCheck.{Rounds, total, check_sum, Checks, running, add_lists, roots_of_diff, bind_all, BadChallenge, honest}

module _ (F : Field) where
  open F use {K, 𝟎, 𝟏, ◌⊕◌, ◌⊗◌, same, roots}

  infixl 60 ◌⊕◌
  infixl 70 ◌⊗◌
  module _ (G : Rounds F) where
    open G use {St, value, bind, poly}

    pub record RoundLaws : Type 0 where
      pub poly_value : (S : St) (r : K) → eval F (poly S) r ≡ value (bind r S)
      pub poly_sum : (S : St) → eval F (poly S) 𝟎 ⊕ eval F (poly S) 𝟏 ≡ value S

module _ (F : Field) (L : Laws F) where
  open F use {K, 𝟎, 𝟏, ◌⊕◌, ◌⊗◌, same, roots}

  infixl 60 ◌⊕◌
  infixl 70 ◌⊗◌
  pub eval-add_lists : (p q : List K) (x : K) → eval F (add_lists F p q) x ≡ eval F p x ⊕ eval F q x
  eval-add_lists [] q x = simp (ring, L.is-ring)
  eval-add_lists (c ∷ p) [] x = simp (ring, L.is-ring)
  eval-add_lists (c ∷ p) (d ∷ q) x = rw (eval-add_lists p q x) (simp (ring, L.is-ring))

  -- p(0) is the first coefficient, and p(1) the sum of all
  pub eval-zero : (p : List K) (c : K) → eval F (c ∷ p) 𝟎 ≡ c
  eval-zero p c = simp (ring, L.is-ring, eval)

  pub eval-one : (p : List K) → eval F p 𝟏 ≡ total F p
  eval-one [] = refl
  eval-one (c ∷ p) = rw (eval, eval-one p) (simp (ring, L.is-ring))

  pub check_sum-is : (p : List K) → check_sum F p ≡ eval F p 𝟎 ⊕ eval F p 𝟏
  check_sum-is [] = simp (ring, L.is-ring, eval)
  check_sum-is (c ∷ p) = rw (eval-zero p c, eval-one (c ∷ p)) (simp (ring, L.is-ring))

  pub eq-of-sum-zero : (x y : K) → x ⊕ y ≡ 𝟎 → x ≡ y
  eq-of-sum-zero x y h = sym (L.is-ring.add-zero x) ∙ ap (λ (w : K). x ⊕ w) (sym h) ∙ simp (ring, L.is-ring)

  -- a polynomial whose coefficients are all zero is zero everywhere
  pub eval-all_zero : (p : List K) (x : K) → all_zero F p ≡ true → eval F p x ≡ 𝟎
  eval-all_zero [] x h = refl
  eval-all_zero (c ∷ p) x h = go (same c 𝟎) refl h (eval-all_zero p x)
    where
      go : (b : Bool) → same c 𝟎 ≡ b → (b && all_zero F p) ≡ true → (all_zero F p ≡ true → eval F p x ≡ 𝟎) → eval F (c ∷ p) x ≡ 𝟎
      go true e h ih = rw (eval, ih h, L.is-ring.same_true c 𝟎 e) (simp (ring, L.is-ring))
      go false e h ih = absurd (false≢true h)

  -- two polynomials: the same values everywhere, or each point where they agree is listed
  pub agree : (p q : List K) → ((x : K) → eval F p x ≡ eval F q x) ⊎ ((r : K) → eval F p r ≡ eval F q r → Memᴰ r (roots_of_diff F p q))
  agree p q = go (all_zero F (add_lists F p q)) refl
    where
      go : (b : Bool) → all_zero F (add_lists F p q) ≡ b → ((x : K) → eval F p x ≡ eval F q x)
          ⊎ ((r : K) → eval F p r ≡ eval F q r → Memᴰ r (cond b [] (roots (add_lists F p q))))
      go true e = inl (λ x. eq-of-sum-zero _ _ (sym (eval-add_lists p q x) ∙ eval-all_zero (add_lists F p q) x e))
      go false e = inr (λ r h. L.root_listed (add_lists F p q) r e (eval-add_lists p q r ∙ rw h (L.is-ring.add-self (eval F q r))))

  pub length-add_lists : (p q : List K) (n : ℕ) → length p ≤ n → length q ≤ n → length (add_lists F p q) ≤ n
  length-add_lists [] q n h k = k
  length-add_lists (c ∷ p) [] n h k = h
  length-add_lists (c ∷ p) (d ∷ q) zero h k = absurd (omega arith)
  length-add_lists (c ∷ p) (d ∷ q) (suc n) h k = omega (arith, length-add_lists p q n (omega arith) (omega arith))

  -- two polynomials of at most d + 1 coefficients: the list has at most d elements
  pub few : (p q : List K) (d : ℕ) → length p ≤ suc d → length q ≤ suc d → length (roots_of_diff F p q) ≤ d
  few p q d h k = go (add_lists F p q) (length-add_lists p q (suc d) h k)
    where
      go : (s : List K) → length s ≤ suc d → length (cond (all_zero F s) [] (roots s)) ≤ d
      go [] h = omega arith
      go (c ∷ s) h = cases (all_zero F (c ∷ s)) refl
        where
          cases : (b : Bool) → all_zero F (c ∷ s) ≡ b → length (cond b [] (roots (c ∷ s))) ≤ d
          cases true e = omega arith
          cases false e = omega (arith, L.roots_few c s e)

  module _ (G : Rounds F) (GL : RoundLaws F G) where
    open G use {St, value, bind, poly}

    pub sound : (ms : List (List K)) (rs : List K) (c : K) (S : St) → Checks F c ms rs → running F c ms rs ≡ value (bind_all F G rs S)
        → (c ≡ value S) ⊎ BadChallenge F G S ms rs
    sound [] [] c S h e = inl e
    sound [] (r ∷ rs) c S h e = elim h [ ]
    sound (m ∷ ms) [] c S h e = elim h [ ]
    sound (m ∷ ms) (r ∷ rs) c S h e = go (sound ms rs (eval F m r) (bind r S) h.1 e) (agree m (poly S))
      where
        go : (eval F m r ≡ value (bind r S)) ⊎ BadChallenge F G (bind r S) ms rs → ((x : K) → eval F m x ≡ eval F (poly S) x)
            ⊎ ((r : K) → eval F m r ≡ eval F (poly S) r → Memᴰ r (roots_of_diff F m (poly S))) → (c ≡ value S)
            ⊎ BadChallenge F G S (m ∷ ms) (r ∷ rs)
        go (inr (i, k, l)) a = inr (suc i, omega arith, l)
        go (inl v) (inl a) = inl (sym h.0 ∙ check_sum-is m ∙ rw (a 𝟎, a 𝟏) (GL.poly_sum S))
        go (inl v) (inr a) = inr (zero, omega arith, a r (v ∙ sym (GL.poly_value S r)))

    pub complete : (rs : List K) (S : St) → Checks F (value S) (honest F G S rs) rs
        × (running F (value S) (honest F G S rs) rs ≡ value (bind_all F G rs S))
    complete [] S = (tt, refl)
    complete (r ∷ rs) S = go (eval F (poly S) r) (sym (GL.poly_value S r)) (complete rs (bind r S))
      where
        go : (v : K) → value (bind r S) ≡ v → Checks F (value (bind r S)) (honest F G (bind r S) rs) rs
            × (running F (value (bind r S)) (honest F G (bind r S) rs) rs ≡ value (bind_all F G rs (bind r S)))
            → ((check_sum F (poly S) ≡ value S) × Checks F v (honest F G (bind r S) rs) rs)
            × (running F v (honest F G (bind r S) rs) rs ≡ value (bind_all F G rs (bind r S)))
        go v e ih = ((check_sum-is (poly S) ∙ GL.poly_sum S, rw e at ih.0), rw e at ih.1)
