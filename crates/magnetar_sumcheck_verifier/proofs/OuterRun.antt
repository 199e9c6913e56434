-- The outer prover over numbers follows the theory: what it holds stands for a state of the theory's sum-check, its message is that
-- state's polynomial, and its fold binds that state's next variable. So its messages are the honest ones.
-- Assumes nothing.
use mathlib.Core.Path.{◌≡◌, refl, sym, ap, ap₂, ◌∙◌, subst}
use mathlib.Core.List.{List, [], ◌∷◌, map}
use Prim.Native.Nat.{ℕ, zero, suc, ◌+◌, ◌-◌, ◌/◌, ◌%◌, ◌^◌, ◌≤◌, ◌<◌}
use native.Mathlib.Nat.{two-pow-succ}
use native.Mathlib.Omega.{arith}
use lib.Dec.{eqb}
use lib.Seq.{ext_get_or}
use lib.ListN.{length, get_or, length-map}
use lib.Pow.{pow_pos}
use Rattle.magnetar_field.proofs.Tabulation.{tabulate-ext, tabulate-length, tabulate-get}
use Rattle.magnetar_field.specs.Gf128.{◌⊕◌, ◌⊗◌}
use Rattle.magnetar_field.specs.Tabulate.{tabulate}
use Rattle.magnetar_multilinear.specs.EqTable.{eq_factor, odd, eq_at, eq_table}
use Rattle.magnetar_multilinear.specs.Multilinear.{line, insert_zero, bind_var}
use Rattle.magnetar_theory.specs.SumCheck.{honest}
use Rattle.magnetar_theory.specs.Table.{State, table_rounds, less, pairs, poly_all, mix_all}
use Rattle.magnetar_theory.specs.Cells.{line_at, OuterCell, outer_cells}
use Rattle.magnetar_theory.specs.EqTable.{scale, eq_table as eq_table_e}
use Rattle.magnetar_theory.specs.Outer.{zip_outer, start}
use Rattle.magnetar_theory.specs.Gf128.{Element, element, element_sum, element_product, gf128}
use Rattle.magnetar_theory.proofs.Ring.{ring, one-mul}
use Rattle.magnetar_theory.proofs.EqTable.{length-eq_table, length-scale}
use Rattle.magnetar_theory.proofs.EqEntry.{factor, eq_at as eq_at_e, eq-index}
use Rattle.magnetar_theory.proofs.Gf128.{element-⊕, element-⊗, gf128_laws}
use Rattle.magnetar_sumcheck_verifier.specs.Sum.{sum_below}
use Rattle.magnetar_sumcheck_verifier.specs.Order.{next_var, fewer, at₀, at₁, slope}
use Rattle.magnetar_sumcheck_verifier.specs.Outer.{coefficient₀, coefficient₁, coefficient₂, weighted, times_eq, outer_message, drop_var}
use Rattle.magnetar_sumcheck_verifier.specs.Messages.{Outer, outer_var, outer_tau, outer_next, outer_fold, outer_start, outer_messages}
use Rattle.magnetar_sumcheck_verifier.proofs.Hom.{element-line}
use Rattle.magnetar_sumcheck_verifier.proofs.Tables.{get_d_map}
use Rattle.magnetar_sumcheck_verifier.proofs.Pairs.{Left, pairs-are}
use Rattle.magnetar_sumcheck_verifier.proofs.EqPairs.{without, get_d-scale, eq-pair₀, eq-pair₁, length_without}
use Rattle.magnetar_sumcheck_verifier.proofs.OuterRound.{sum_f, times_eq_f, outer_pair, q₀, q₁, q₂, outer-poly, weight-line}

abbrev els : List ℕ → List Element
els t = map element t

-- ---- eq tables
bit-factor : (p b : ℕ) → b < 2 → element (eq_factor p (eqb b 1)) ≡ factor gf128 (element p) b
unfolding eq_factor
bit-factor p zero h = element-⊕ 1 p
bit-factor p (suc zero) h = refl
bit-factor p (suc (suc b)) h = absurd (omega arith)

element-eq_at : (p : List ℕ) (i : ℕ) → element (eq_at p i) ≡ eq_at_e gf128 (els p) i
unfolding eq_at
element-eq_at [] i = refl
element-eq_at (x ∷ p) i = element-⊗ (eq_factor x (odd i)) (eq_at p (i / 2))
    ∙ ap₂ element_product (bit-factor x (i % 2) (omega arith)) (element-eq_at p (i / 2))

pub element-eq_table : (p : List ℕ) → els (eq_table p) ≡ eq_table_e gf128 (els p)
unfolding eq_table
element-eq_table p = ext_get_or (element 0) (els (tabulate (eq_at p) (2 ^ length p))) (eq_table_e gf128 (els p)) sizes
    (λ i h. get_d_map element (tabulate (eq_at p) (2 ^ length p)) i 0 ∙ ap element (tabulate-get (eq_at p) (2 ^ length p) i 0 (small i h))
    ∙ element-eq_at p i ∙ sym (eq-index gf128 gf128_laws (els p) i (rw (length-map p element) (small i h))))
  where
    count : length (els (tabulate (eq_at p) (2 ^ length p))) ≡ 2 ^ length p
    count = length-map (tabulate (eq_at p) (2 ^ length p)) element ∙ tabulate-length (eq_at p) (2 ^ length p)

    sizes : length (els (tabulate (eq_at p) (2 ^ length p))) ≡ length (eq_table_e gf128 (els p))
    sizes = count ∙ ap (λ (n : ℕ). 2 ^ n) (sym (length-map p element)) ∙ sym (length-eq_table gf128 gf128_laws (els p))

    small : (i : ℕ) → i < length (els (tabulate (eq_at p) (2 ^ length p))) → i < 2 ^ length p
    small i h = rw count at h

-- ---- sums
sum-front : (f : ℕ → ℕ) (n : ℕ) → element (sum_below (suc n) f) ≡ element_sum (element (f 0)) (element (sum_below n (λ i. f (suc i))))
unfolding sum_below
sum-front f zero = element-⊕ 0 (f 0) ∙ gf128_laws.is-ring.add_comm (element 0) (element (f 0))
sum-front f (suc n) = element-⊕ (sum_below (suc n) f) (f (suc n)) ∙ ap (λ (x : Element). element_sum x (element (f (suc n)))) (sum-front f n)
    ∙ gf128_laws.is-ring.add_assoc (element (f 0)) (element (sum_below n (λ i. f (suc i)))) (element (f (suc n)))
    ∙ ap (element_sum (element (f 0))) (sym (element-⊕ (sum_below n (λ i. f (suc i))) (f (suc n))))

pub element-sum : (f : ℕ → ℕ) (g : ℕ → Element) (n : ℕ) → ((i : ℕ) → i < n → element (f i) ≡ g i) → element (sum_below n f) ≡ sum_f gf128 g n
unfolding sum_below
element-sum f g zero h = refl
element-sum f g (suc n) h = sum-front f n ∙ ap₂ element_sum (h 0 (omega arith)) (element-sum (λ i. f (suc i)) (λ i. g (suc i)) n
    (λ i k. h (suc i) (omega arith)))

-- ---- the state that a prover's tables stand for
pub record Stands (S : Outer) (T : State gf128 (outer_cells gf128)) : Type 0 where
  pub tops : T.tops ≡ S.high
  pub lows : Left S.high T.lows (length S.tau)
  pub cells : T.cells ≡ zip_outer gf128 (els S.a) (els S.b) (els S.c) (scale gf128 (element S.k)
      (eq_table_e gf128 (els S.tau)))
  pub eq : els S.e ≡ eq_table_e gf128 (els S.tau)
  pub size_a : length S.a ≡ 2 ^ length S.tau
  pub size_b : length S.b ≡ 2 ^ length S.tau
  pub size_c : length S.c ≡ 2 ^ length S.tau

-- the entries of zipped tables of one length
get_d_zip : (a b c e : List Element) (i : ℕ) → length b ≡ length a → length c ≡ length a → length e ≡ length a
    → get_or (zip_outer gf128 a b c e) i (outer_cells gf128).none
    ≡ record { a = get_or a i (element 0); b = get_or b i (element 0); c = get_or c i (element 0); e = get_or e i (element 0) }
get_d_zip [] [] [] [] i h k l = refl
get_d_zip [] (y ∷ b) c e i h k l = absurd (omega arith)
get_d_zip [] [] (z ∷ c) e i h k l = absurd (omega arith)
get_d_zip [] [] [] (w ∷ e) i h k l = absurd (omega arith)
get_d_zip (x ∷ a) [] c e i h k l = absurd (omega arith)
get_d_zip (x ∷ a) (y ∷ b) [] e i h k l = absurd (omega arith)
get_d_zip (x ∷ a) (y ∷ b) (z ∷ c) [] i h k l = absurd (omega arith)
get_d_zip (x ∷ a) (y ∷ b) (z ∷ c) (w ∷ e) zero h k l = refl
get_d_zip (x ∷ a) (y ∷ b) (z ∷ c) (w ∷ e) (suc i) h k l = get_d_zip a b c e i (omega arith) (omega arith) (omega arith)

length-zip : (a b c e : List Element) → length b ≡ length a → length c ≡ length a → length e ≡ length a → length (zip_outer gf128 a b c e)
    ≡ length a
length-zip [] b c e h k l = refl
length-zip (x ∷ a) [] c e h k l = absurd (omega arith)
length-zip (x ∷ a) (y ∷ b) [] e h k l = absurd (omega arith)
length-zip (x ∷ a) (y ∷ b) (z ∷ c) [] h k l = absurd (omega arith)
length-zip (x ∷ a) (y ∷ b) (z ∷ c) (w ∷ e) h k l = ap suc (length-zip a b c e (omega arith) (omega arith) (omega arith))

map-without : (w : ℕ) (t : List ℕ) → els (without w t) ≡ without w (els t)
map-without zero [] = refl
map-without zero (x ∷ t) = refl
map-without (suc w) [] = refl
map-without (suc w) (x ∷ t) = ap (λ (l : List Element). element x ∷ l) (map-without w t)

next-lt : (s n : ℕ) → next_var s (suc n) < suc n
unfolding next_var
next-lt zero n = omega arith
next-lt (suc s) n = omega arith

less-fewer : (s : ℕ) → less s ≡ fewer s
less-fewer zero = refl
less-fewer (suc s) = refl

left_less : (s b n : ℕ) → Left s b (suc n) → Left (fewer s) b n
left_less zero b n h = tt
left_less (suc zero) b n h = tt
left_less (suc (suc s)) b n h = omega arith

module _ (S : Outer) (T : State gf128 (outer_cells gf128)) (C : Stands S T) (n : ℕ) (left : length S.tau ≡ suc n) where
  v : ℕ
  v = next_var S.high (suc n)

  var-is : outer_var S ≡ v
  unfolding v
  var-is = ap (next_var S.high) left

  size : (t : List ℕ) → length t ≡ 2 ^ length S.tau → length (els t) ≡ 2 ^ suc n
  size t h = length-map t element ∙ h ∙ ap (λ (m : ℕ). 2 ^ m) left

  -- entry j of the eq table over the variables that stay
  rest : ℕ → Element
  unfolding v
  rest i = get_or (eq_table_e gf128 (without v (els S.tau))) i (element 0)

  tau : Element
  tau = get_or (els S.tau) (next_var S.high (suc n)) (element 0)

  weights : List Element
  weights = scale gf128 (element S.k) (eq_table_e gf128 (els S.tau))

  length-weights : length weights ≡ 2 ^ suc n
  unfolding weights
  length-weights = length-scale gf128 gf128_laws (element S.k) (eq_table_e gf128 (els S.tau))
      ∙ length-eq_table gf128 gf128_laws (els S.tau) ∙ ap (λ (m : ℕ). 2 ^ m) (length-map S.tau element ∙ left)

  -- pair i of the cells
  lo : List ℕ → ℕ → Element
  lo t i = get_or (els t) (insert_zero (next_var S.high (suc n)) i) (element 0)

  hi : List ℕ → ℕ → Element
  hi t i = get_or (els t) (insert_zero (next_var S.high (suc n)) i + 2 ^ next_var S.high (suc n)) (element 0)

  abbrev pair_of : ℕ → OuterCell gf128 × OuterCell gf128
  pair_of i = outer_pair gf128 (element S.k) tau rest (lo S.a) (hi S.a) (lo S.b) (hi S.b) (lo S.c) (hi S.c) i

  cells_at : (j : ℕ) → get_or T.cells j (outer_cells gf128).none
      ≡ record {
        a = get_or (els S.a) j (element 0);
        b = get_or (els S.b) j (element 0);
        c = get_or (els S.c) j
            (element 0);
        e = get_or weights j (element 0);
      }
  unfolding weights
  cells_at j = ap (λ (t : List (OuterCell gf128)). get_or t j (outer_cells gf128).none) C.cells
      ∙ get_d_zip (els S.a) (els S.b) (els S.c) weights j (size S.b C.size_b ∙ sym (size S.a C.size_a))
      (size S.c C.size_c ∙ sym (size S.a C.size_a)) (length-weights ∙ sym (size S.a C.size_a))

  weight₀ : (i : ℕ) → i < 2 ^ n → get_or weights (insert_zero (next_var S.high (suc n)) i) (element 0)
      ≡ element_product (element S.k) (element_product (element_sum (element 1) tau) (rest i))
  unfolding weights rest tau v
  weight₀ i h = get_d-scale gf128 gf128_laws (element S.k) (eq_table_e gf128 (els S.tau)) (insert_zero (next_var S.high (suc n)) i)
      ∙ ap (element_product (element S.k)) (eq-pair₀ gf128 gf128_laws S.high n (els S.tau) i (length-map S.tau element ∙ left) h)

  weight₁ : (i : ℕ) → i < 2 ^ n → get_or weights (insert_zero (next_var S.high (suc n)) i + 2 ^ next_var S.high (suc n)) (element 0)
      ≡ element_product (element S.k) (element_product tau (rest i))
  unfolding weights rest tau v
  weight₁ i h = get_d-scale gf128 gf128_laws (element S.k) (eq_table_e gf128 (els S.tau))
      (insert_zero (next_var S.high (suc n)) i + 2 ^ next_var S.high (suc n))
      ∙ ap (element_product (element S.k)) (eq-pair₁ gf128 gf128_laws S.high n (els S.tau) i (length-map S.tau element ∙ left) h)

  length-cells : length T.cells ≡ 2 ^ suc n
  unfolding weights
  length-cells = ap length C.cells ∙ length-zip (els S.a) (els S.b) (els S.c) weights (size S.b C.size_b
      ∙ sym (size S.a C.size_a)) (size S.c C.size_c ∙ sym (size S.a C.size_a))
      (length-weights ∙ sym (size S.a C.size_a)) ∙ size S.a C.size_a

  pairs_of : pairs gf128 (outer_cells gf128) T.tops T.lows T.cells ≡ tabulate pair_of (2 ^ n)
  unfolding lo hi
  pairs_of = ap (λ (s : ℕ). pairs gf128 (outer_cells gf128) s T.lows T.cells) C.tops
      ∙ pairs-are gf128 (outer_cells gf128) S.high T.lows n T.cells (subst (Left S.high T.lows) left C.lows) length-cells
      ∙ tabulate-ext _ pair_of (2 ^ n) (λ i h. λ j. (full₀ i h j, full₁ i h j))
    where
      full₀ : (i : ℕ) → i < 2 ^ n → get_or T.cells (insert_zero (next_var S.high (suc n)) i) (outer_cells gf128).none ≡ (pair_of i).0
      full₀ i h = cells_at (insert_zero (next_var S.high (suc n)) i)
          ∙ (λ j. record { a = lo S.a i; b = lo S.b i; c = lo S.c i; e = weight₀ i h j })

      full₁ : (i : ℕ) → i < 2 ^ n → get_or T.cells (insert_zero (next_var S.high (suc n)) i + 2 ^ next_var S.high
          (suc n)) (outer_cells gf128).none ≡ (pair_of i).1
      full₁ i h = cells_at (insert_zero (next_var S.high (suc n)) i + 2 ^ next_var S.high (suc n))
          ∙ (λ j. record { a = hi S.a i; b = hi S.b i; c = hi S.c i; e = weight₁ i h j })

  -- ---- the eq table over the variables that stay
  size-e : length S.e ≡ 2 ^ suc n
  size-e = sym (length-map S.e element) ∙ ap length C.eq ∙ length-eq_table gf128 gf128_laws (els S.tau)
      ∙ ap (λ (m : ℕ). 2 ^ m) (length-map S.tau element ∙ left)

  half : (t : List ℕ) → length t ≡ 2 ^ suc n → length t / 2 ≡ 2 ^ n
  half t h = omega (arith, two-pow-succ n)

  element-at₀ : (t : List ℕ) (i : ℕ) → element (at₀ (outer_var S) t i) ≡ lo t i
  unfolding at₀ lo v
  element-at₀ t i = ap (λ (w : ℕ). element (get_or t (insert_zero w i) 0)) var-is
      ∙ sym (get_d_map element t (insert_zero (next_var S.high (suc n)) i) 0)

  element-at₁ : (t : List ℕ) (i : ℕ) → element (at₁ (outer_var S) t i) ≡ hi t i
  unfolding at₁ hi v
  element-at₁ t i = ap (λ (w : ℕ). element (get_or t (insert_zero w i + 2 ^ w) 0)) var-is
      ∙ sym (get_d_map element t (insert_zero (next_var S.high (suc n)) i + 2 ^ next_var S.high (suc n)) 0)

  element-slope : (t : List ℕ) (i : ℕ) → element (slope (outer_var S) t i) ≡ element_sum (lo t i) (hi t i)
  unfolding slope
  element-slope t i = element-⊕ (at₀ (outer_var S) t i) (at₁ (outer_var S) t i) ∙ ap₂ element_sum (element-at₀ t i) (element-at₁ t i)

  element-tau : element (outer_tau S) ≡ tau
  unfolding tau v
  element-tau = ap (λ (w : ℕ). element (get_or S.tau w 0)) var-is ∙ sym (get_d_map element S.tau (next_var S.high (suc n)) 0)

  both_halves : (t e : Element) → element_sum (element_product (element_sum (element 1) t) e) (element_product t e) ≡ e
  both_halves t e = simp (ring, gf128_laws.is-ring)

  dropped : (i : ℕ) → i < 2 ^ n → element (get_or (drop_var (outer_var S) S.e) i 0) ≡ rest i
  unfolding drop_var rest lo hi tau v
  dropped i h = ap element (tabulate-get (slope (outer_var S) S.e) (length S.e / 2) i 0 (rw (half S.e size-e) h))
      ∙ element-slope S.e i
      ∙ ap₂ element_sum (ap (λ (t : List Element). get_or t (insert_zero (next_var S.high (suc n)) i) (element 0)) C.eq
      ∙ eq-pair₀ gf128 gf128_laws S.high n (els S.tau) i (length-map S.tau element ∙ left) h)
      (ap (λ (t : List Element). get_or t (insert_zero (next_var S.high (suc n)) i + 2 ^ next_var S.high (suc n)) (element 0)) C.eq
      ∙ eq-pair₁ gf128 gf128_laws S.high n (els S.tau) i (length-map S.tau element ∙ left) h)
      ∙ both_halves tau (rest i)

  length-dropped : length (drop_var (outer_var S) S.e) ≡ 2 ^ n
  unfolding drop_var
  length-dropped = tabulate-length (slope (outer_var S) S.e) (length S.e / 2) ∙ half S.e size-e

  -- ---- the message
  element-first : (i : ℕ) → element (coefficient₀ (outer_var S) S.a S.b S.c i)
      ≡ element_sum (element_product (lo S.a i) (lo S.b i)) (lo S.c i)
  unfolding coefficient₀
  element-first i = element-⊕ (at₀ (outer_var S) S.a i ⊗ at₀ (outer_var S) S.b i) (at₀ (outer_var S) S.c i)
      ∙ ap₂ element_sum (element-⊗ (at₀ (outer_var S) S.a i) (at₀ (outer_var S) S.b i)
      ∙ ap₂ element_product (element-at₀ S.a i) (element-at₀ S.b i)) (element-at₀ S.c i)

  element-second : (i : ℕ) → element (coefficient₁ (outer_var S) S.a S.b S.c i)
      ≡ element_sum (element_sum (element_product (lo S.a i) (element_sum (lo S.b i) (hi S.b i))) (element_product (element_sum (lo S.a i) (hi S.a i))
      (lo S.b i)))
      (element_sum (lo S.c i) (hi S.c i))
  unfolding coefficient₁
  element-second i = element-⊕ (at₀ (outer_var S) S.a i ⊗ slope (outer_var S) S.b i ⊕ slope (outer_var S) S.a i ⊗ at₀ (outer_var S)
      S.b i) (slope (outer_var S) S.c i)
      ∙ ap₂ element_sum (element-⊕ (at₀ (outer_var S) S.a i ⊗ slope (outer_var S) S.b i)
      (slope (outer_var S) S.a i ⊗ at₀ (outer_var S) S.b i)
      ∙ ap₂ element_sum (element-⊗ (at₀ (outer_var S) S.a i) (slope (outer_var S) S.b i)
      ∙ ap₂ element_product (element-at₀ S.a i) (element-slope S.b i))
      (element-⊗ (slope (outer_var S) S.a i) (at₀ (outer_var S) S.b i) ∙ ap₂ element_product (element-slope S.a i) (element-at₀ S.b i)))
      (element-slope S.c i)

  element-third : (i : ℕ) → element (coefficient₂ (outer_var S) S.a S.b i)
      ≡ element_product (element_sum (lo S.a i) (hi S.a i)) (element_sum (lo S.b i) (hi S.b i))
  unfolding coefficient₂
  element-third i = element-⊗ (slope (outer_var S) S.a i) (slope (outer_var S) S.b i)
      ∙ ap₂ element_product (element-slope S.a i) (element-slope S.b i)

  element-weighted : (f : ℕ → ℕ) (g : ℕ → Element) → ((i : ℕ) → element (f i) ≡ g i)
      → element (weighted (drop_var (outer_var S) S.e) f (length (drop_var (outer_var S) S.e)))
      ≡ sum_f gf128 (λ i. element_product (rest i) (g i)) (2 ^ n)
  unfolding weighted
  element-weighted f g h = ap (λ (m : ℕ). element (sum_below m (λ i. get_or (drop_var (outer_var S) S.e) i 0 ⊗ f i))) length-dropped
      ∙ element-sum (λ i. get_or (drop_var (outer_var S) S.e) i 0 ⊗ f i) (λ i. element_product (rest i) (g i)) (2 ^ n)
      (λ i k. element-⊗ (get_or (drop_var (outer_var S) S.e) i 0) (f i) ∙ ap₂ element_product (dropped i k) (h i))

  element-times_eq : (k t x y z : ℕ) → els (times_eq k t x y z) ≡ times_eq_f gf128 (element k) (element t) (element x) (element y) (element z)
  unfolding times_eq
  element-times_eq k t x y z = λ i. p₀ i ∷ p₁ i ∷ p₂ i ∷ element-⊗ k z i ∷ []
    where
      line₁ : (x y : ℕ) → element ((1 ⊕ t) ⊗ x ⊕ y) ≡ element_sum (element_product (element_sum (element 1) (element t)) (element x)) (element y)
      line₁ x y = element-⊕ ((1 ⊕ t) ⊗ x) y ∙ ap (λ (w : Element). element_sum w (element y)) (element-⊗ (1 ⊕ t) x
          ∙ ap (λ (w : Element). element_product w (element x)) (element-⊕ 1 t))

      p₀ : element (k ⊗ ((1 ⊕ t) ⊗ x)) ≡ element_product (element k) (element_product (element_sum (element 1) (element t)) (element x))
      p₀ = element-⊗ k ((1 ⊕ t) ⊗ x) ∙ ap (element_product (element k)) (element-⊗ (1 ⊕ t) x
          ∙ ap (λ (w : Element). element_product w (element x)) (element-⊕ 1 t))

      p₁ : element (k ⊗ ((1 ⊕ t) ⊗ y ⊕ x)) ≡ element_product (element k) (element_sum (element_product (element_sum (element 1) (element t)) (element
          y)) (element x))
      p₁ = element-⊗ k ((1 ⊕ t) ⊗ y ⊕ x) ∙ ap (element_product (element k)) (line₁ y x)

      p₂ : element (k ⊗ ((1 ⊕ t) ⊗ z ⊕ y)) ≡ element_product (element k) (element_sum (element_product (element_sum (element 1) (element t)) (element
          z)) (element y))
      p₂ = element-⊗ k ((1 ⊕ t) ⊗ z ⊕ y) ∙ ap (element_product (element k)) (line₁ z y)

  positive : (m : ℕ) × (2 ^ n ≡ suc m)
  positive = (2 ^ n - 1, omega (arith, pow_pos n))

  -- the message is the polynomial of the state
  pub next-is : els (outer_next S) ≡ (table_rounds gf128 (outer_cells gf128)).poly T
  unfolding outer_next outer_message
  next-is = element-times_eq S.k (outer_tau S) _ _ _
      ∙ (λ i. times_eq_f gf128 (element S.k) (element-tau i)
      (element-weighted (coefficient₀ (outer_var S) S.a S.b S.c) _ element-first i)
      (element-weighted (coefficient₁ (outer_var S) S.a S.b S.c) _ element-second i)
      (element-weighted (coefficient₂ (outer_var S) S.a S.b) _ element-third i))
      ∙ sym (ap (poly_all gf128 (outer_cells gf128)) pairs_of ∙ poly positive.0 (2 ^ n) positive.1)
    where
      poly : (m k : ℕ) → k ≡ suc m → poly_all gf128 (outer_cells gf128) (tabulate pair_of k)
          ≡ times_eq_f gf128 (element S.k) tau (sum_f gf128
          (q₀ gf128 (element S.k) tau rest (lo S.a) (hi S.a) (lo S.b) (hi S.b) (lo S.c) (hi S.c)) k)
          (sum_f gf128 (q₁ gf128 (element S.k) tau rest (lo S.a) (hi S.a) (lo S.b) (hi S.b) (lo S.c) (hi S.c)) k)
          (sum_f gf128 (q₂ gf128 (element S.k) tau rest (lo S.a) (hi S.a) (lo S.b) (hi S.b) (lo S.c) (hi S.c)) k)
      poly m k e = rw e (outer-poly gf128 gf128_laws m (element S.k) tau rest (lo S.a) (hi S.a) (lo S.b) (hi S.b) (lo S.c)
          (hi S.c))

  -- ---- the fold
  length-bound : (r : ℕ) (t : List ℕ) → length t ≡ 2 ^ length S.tau → length (bind_var (outer_var S) r t) ≡ 2 ^ n
  unfolding bind_var
  length-bound r t h = tabulate-length _ (length t / 2) ∙ half t (h ∙ ap (λ (m : ℕ). 2 ^ m) left)

  element-bound : (r : ℕ) (t : List ℕ) (i : ℕ) → length t ≡ 2 ^ length S.tau → i < 2 ^ n
      → get_or (els (bind_var (outer_var S) r t)) i (element 0) ≡ line_at gf128 (element r) (lo t i) (hi t i)
  element-bound r t i h k = get_d_map element (bind_var (outer_var S) r t) i 0 ∙ ap element at_i
      ∙ element-line r (at₀ (outer_var S) t i) (at₁ (outer_var S) t i)
      ∙ ap₂ (line_at gf128 (element r)) (element-at₀ t i) (element-at₁ t i)
    where
      small : i < length t / 2
      small = rw (half t (h ∙ ap (λ (m : ℕ). 2 ^ m) left)) k

      at_i : get_or (bind_var (outer_var S) r t) i 0 ≡ line r (at₀ (outer_var S) t i) (at₁ (outer_var S) t i)
      at_i = unfold bind_var at₀ at₁ in tabulate-get
          (λ i. line r (get_or t (insert_zero (outer_var S) i) 0) (get_or t (insert_zero (outer_var S) i + 2 ^ outer_var S) 0))
          (length t / 2) i 0 small

  mixed : (r : Element) (g : ℕ → OuterCell gf128 × OuterCell gf128) (m : ℕ) → mix_all gf128 (outer_cells gf128) r (tabulate g m)
      ≡ tabulate (λ i. (outer_cells gf128).mix r (g i).0 (g i).1) m
  unfolding tabulate
  mixed r g zero = refl
  mixed r g (suc m) = ap (λ (t : List (OuterCell gf128)). (outer_cells gf128).mix r (g 0).0 (g 0).1 ∷ t) (mixed r (λ i. g (suc i)) m)

  element-k : (r : ℕ) → element (S.k ⊗ (1 ⊕ outer_tau S ⊕ r)) ≡ element_product (element S.k) (element_sum (element_sum (element 1) tau) (element r))
  element-k r = element-⊗ S.k (1 ⊕ outer_tau S ⊕ r)
      ∙ ap (element_product (element S.k)) (element-⊕ (1 ⊕ outer_tau S) r
      ∙ ap (λ (w : Element). element_sum w (element r)) (element-⊕ 1 (outer_tau S) ∙ ap (element_sum (element 1)) element-tau))

  tau-rest : els (without (outer_var S) S.tau) ≡ without (next_var S.high (suc n)) (els S.tau)
  unfolding v
  tau-rest = map-without (outer_var S) S.tau ∙ ap (λ (w : ℕ). without w (els S.tau)) var-is

  length_rest : length (without (outer_var S) S.tau) ≡ n
  unfolding v
  length_rest = ap (λ (w : ℕ). length (without w S.tau)) var-is
      ∙ length_without (next_var S.high (suc n)) n S.tau left (next-lt S.high n)

  count-rest : length (eq_table_e gf128 (without (next_var S.high (suc n)) (els S.tau))) ≡ 2 ^ n
  count-rest = length-eq_table gf128 gf128_laws (without (next_var S.high (suc n)) (els S.tau))
      ∙ ap (λ (m : ℕ). 2 ^ m) (length_without (next_var S.high (suc n)) n (els S.tau) (length-map S.tau element ∙ left)
      (next-lt S.high n))

  eq-rest : els (drop_var (outer_var S) S.e) ≡ eq_table_e gf128 (without (next_var S.high (suc n)) (els S.tau))
  unfolding rest v
  eq-rest = ext_get_or (element 0) (els (drop_var (outer_var S) S.e)) (eq_table_e gf128 (without (next_var S.high (suc n)) (els S.tau)))
      (count ∙ sym count-rest)
      (λ i h. get_d_map element (drop_var (outer_var S) S.e) i 0 ∙ dropped i (rw count at h))
    where
      count : length (els (drop_var (outer_var S) S.e)) ≡ 2 ^ n
      count = length-map (drop_var (outer_var S) S.e) element ∙ length-dropped

  size-bound : (r : ℕ) (t : List ℕ) → length t ≡ 2 ^ length S.tau → length (els (bind_var (outer_var S) r t)) ≡ 2 ^ n
  size-bound r t h = length-map (bind_var (outer_var S) r t) element ∙ length-bound r t h

  -- the weights after the round
  weights-after : ℕ → List Element
  weights-after r = scale gf128 (element (S.k ⊗ (1 ⊕ outer_tau S ⊕ r)))
      (eq_table_e gf128 (without (next_var S.high (suc n)) (els S.tau)))

  size-after : (r : ℕ) → length (weights-after r) ≡ 2 ^ n
  unfolding weights-after
  size-after r = length-scale gf128 gf128_laws (element (S.k ⊗ (1 ⊕ outer_tau S ⊕ r)))
      (eq_table_e gf128 (without (next_var S.high (suc n)) (els S.tau))) ∙ count-rest

  weight-after : (r i : ℕ) → get_or (weights-after r) i (element 0)
      ≡ element_product (element_product (element S.k) (element_sum (element_sum (element 1) tau) (element r))) (rest i)
  unfolding weights-after rest v
  weight-after r i = get_d-scale gf128 gf128_laws (element (S.k ⊗ (1 ⊕ outer_tau S ⊕ r)))
      (eq_table_e gf128 (without (next_var S.high (suc n)) (els S.tau))) i
      ∙ ap (λ (w : Element). element_product w (get_or (eq_table_e gf128 (without (next_var S.high (suc n)) (els S.tau))) i (element 0)))
      (element-k r)

  zip-after : ℕ → List (OuterCell gf128)
  zip-after r = zip_outer gf128 (els (bind_var (outer_var S) r S.a)) (els (bind_var (outer_var S) r S.b))
      (els (bind_var (outer_var S) r S.c)) (weights-after r)

  cells-after : (r : ℕ) → mix_all gf128 (outer_cells gf128) (element r) (pairs gf128 (outer_cells gf128) T.tops T.lows T.cells)
      ≡ zip-after r
  unfolding zip-after
  cells-after r = ap (mix_all gf128 (outer_cells gf128) (element r)) pairs_of ∙ mixed (element r) pair_of (2 ^ n)
      ∙ ext_get_or (outer_cells gf128).none (tabulate cell (2 ^ n)) (zip-after r) (tabulate-length cell (2 ^ n) ∙ sym zip-size)
      (λ i h. tabulate-get cell (2 ^ n) i (outer_cells gf128).none (rw (tabulate-length cell (2 ^ n)) at h)
      ∙ same i (rw (tabulate-length cell (2 ^ n)) at h) ∙ sym (entry i))
    where
      cell : ℕ → OuterCell gf128
      cell i = (outer_cells gf128).mix (element r) (pair_of i).0 (pair_of i).1

      lb : length (els (bind_var (outer_var S) r S.b)) ≡ length (els (bind_var (outer_var S) r S.a))
      lb = size-bound r S.b C.size_b ∙ sym (size-bound r S.a C.size_a)

      lc : length (els (bind_var (outer_var S) r S.c)) ≡ length (els (bind_var (outer_var S) r S.a))
      lc = size-bound r S.c C.size_c ∙ sym (size-bound r S.a C.size_a)

      le : length (weights-after r) ≡ length (els (bind_var (outer_var S) r S.a))
      le = size-after r ∙ sym (size-bound r S.a C.size_a)

      zip-size : length (zip-after r) ≡ 2 ^ n
      zip-size = length-zip (els (bind_var (outer_var S) r S.a)) (els (bind_var (outer_var S) r S.b))
          (els (bind_var (outer_var S) r S.c)) (weights-after r) lb lc le ∙ size-bound r S.a C.size_a

      entry : (i : ℕ) → get_or (zip-after r) i (outer_cells gf128).none
          ≡ record {
            a = get_or (els (bind_var (outer_var S) r S.a)) i (element 0);
            b = get_or (els (bind_var (outer_var S) r S.b)) i
                (element 0);
            c = get_or (els (bind_var (outer_var S) r S.c)) i (element 0);
            e = get_or (weights-after r) i (element 0);
          }
      entry i = get_d_zip (els (bind_var (outer_var S) r S.a)) (els (bind_var (outer_var S) r S.b)) (els (bind_var (outer_var S) r S.c))
          (weights-after r) i lb lc le

      same : (i : ℕ) → i < 2 ^ n → cell i
          ≡ record {
            a = get_or (els (bind_var (outer_var S) r S.a)) i (element 0);
            b = get_or (els (bind_var (outer_var S) r S.b)) i
                (element 0);
            c = get_or (els (bind_var (outer_var S) r S.c)) i (element 0);
            e = get_or (weights-after r) i (element 0);
          }
      same i h = λ j. record {
        a = sym (element-bound r S.a i C.size_a h) j;
        b = sym (element-bound r S.b i C.size_b h) j;
        c = sym (element-bound r S.c i C.size_c h) j;
        e = (weight-line gf128 gf128_laws (element S.k) tau (rest i) (element r) ∙ sym (weight-after r i)) j;
      }

  pub fold-stands : (r : ℕ) → Stands (outer_fold r S) ((table_rounds gf128 (outer_cells gf128)).bind (element r) T)
  unfolding outer_fold
  fold-stands r = record {
    tops = ap less C.tops ∙ less-fewer S.high;
    lows = subst (Left (fewer S.high) T.lows) (sym length_rest)
        (left_less S.high T.lows n (subst (Left S.high T.lows) left C.lows));
    cells = cells-after r ∙ after r;
    eq = eq-rest ∙ ap (eq_table_e gf128) (sym tau-rest);
    size_a = length-bound r S.a C.size_a ∙ ap (λ (m : ℕ). 2 ^ m) (sym length_rest);
    size_b = length-bound r S.b C.size_b ∙ ap (λ (m : ℕ). 2 ^ m) (sym length_rest);
    size_c = length-bound r S.c C.size_c ∙ ap (λ (m : ℕ). 2 ^ m) (sym length_rest);
  }
    where
      after : (r : ℕ) → zip-after r ≡ zip_outer gf128 (els (bind_var (outer_var S) r S.a)) (els (bind_var (outer_var S) r S.b)) (els
          (bind_var (outer_var S) r S.c))
          (scale gf128 (element (S.k ⊗ (1 ⊕ outer_tau S ⊕ r))) (eq_table_e gf128 (els (without (outer_var S) S.tau))))
      after r = unfold zip-after weights-after in ap
          (λ (t : List Element). zip_outer gf128 (els (bind_var (outer_var S) r S.a)) (els (bind_var (outer_var S) r S.b))
          (els (bind_var (outer_var S) r S.c))
          (scale gf128 (element (S.k ⊗ (1 ⊕ outer_tau S ⊕ r))) (eq_table_e gf128 t))) (sym tau-rest)

  pub fold-left : (r : ℕ) → length (outer_fold r S).tau ≡ n
  unfolding outer_fold
  fold-left r = length_rest

-- ---- all rounds
pub messages-are : (rs : List ℕ) (S : Outer) (T : State gf128 (outer_cells gf128)) → Stands S T → length rs ≤ length S.tau
    → map els (outer_messages S rs) ≡ honest gf128 (table_rounds gf128 (outer_cells gf128)) T (els rs)
unfolding outer_messages
messages-are [] S T C h = refl
messages-are (r ∷ rs) S T C h = ap₂ ◌∷◌ (next-is S T C (length S.tau - 1) (omega arith))
    (messages-are rs (outer_fold r S) ((table_rounds gf128 (outer_cells gf128)).bind (element r) T)
    (fold-stands S T C (length S.tau - 1) (omega arith) r)
    (omega (arith, fold-left S T C (length S.tau - 1) (omega arith) r)))

-- at the start
one-scale : (t : List Element) → scale gf128 (element 1) t ≡ t
one-scale [] = refl
one-scale (x ∷ t) = ap₂ ◌∷◌ (one-mul gf128 gf128_laws.is-ring x) (one-scale t)

pub start-stands : (s b : ℕ) (tau ta tb tc : List ℕ) → length tau ≡ s + b → length ta ≡ 2 ^ length tau → length tb ≡ 2 ^ length tau
    → length tc ≡ 2 ^ length tau
    → Stands (outer_start s tau ta tb tc) (start gf128 (els ta) (els tb) (els tc) (els tau) s b)
unfolding outer_start
start-stands s b tau ta tb tc l h k m = record {
  tops = refl;
  lows = whole s l;
  cells = ap (zip_outer gf128 (els ta) (els tb) (els tc)) (sym (one-scale (eq_table_e gf128 (els tau))));
  eq = element-eq_table tau;
  size_a = h;
  size_b = k;
  size_c = m;
}
  where
    whole : (s : ℕ) → length tau ≡ s + b → Left s b (length tau)
    whole zero l = tt
    whole (suc s) l = sym l
