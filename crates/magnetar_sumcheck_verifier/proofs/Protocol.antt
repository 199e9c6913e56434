-- The laws of both sum-checks over numbers: the message's value at the challenge is the sum that is left, its values at 0 and at 1 add up
-- to the sum before; honest messages pass, and checks that pass with a true end leave a true claim or a challenge in its list.
-- Assumes nothing.
use mathlib.Core.Path.{◌≡◌, refl, sym, ap, ap₂, ◌∙◌, subst}
use mathlib.Core.Bool.{true}
use mathlib.Core.List.{List, [], ◌∷◌, ◌++◌, map, reverse, reverse-cons}
use mathlib.Core.Logic.{◌⊎◌, inl, inr}
use Prim.Native.Nat.{ℕ, zero, suc, ◌+◌, ◌/◌, ◌^◌, ◌≤◌, ◌<◌}
use native.Mathlib.Omega.{arith}
use lib.ListN.{length, get_or, length-map, length-append}
use lib.Seq.{take_at, drop_at}
use lib.Pow.{pow_pos}
use Rattle.magnetar_field.specs.Gf128.{◌⊕◌, ◌⊗◌}
use Rattle.magnetar_field.specs.Polynomial.{eval}
use Rattle.magnetar_multilinear.specs.EqTable.{eq_table}
use Rattle.magnetar_multilinear.specs.Multilinear.{bind_var, dot, mle}
use Rattle.magnetar_field.proofs.Polynomial.{AllBelow, eval-lt}
use Rattle.magnetar_field.proofs.Product.{⊗-lt}
use Rattle.magnetar_field.proofs.Xor.{⊕-lt, ⊕-self, eq-of-⊕}
use Rattle.magnetar_theory.specs.SumCheck.{Checks, running as running_e, BadChallenge, honest}
use Rattle.magnetar_theory.specs.Table.{State, table_rounds}
use Rattle.magnetar_theory.specs.Cells.{outer_cells, inner_cells}
use Rattle.magnetar_theory.specs.EqTable.{eq_table as eq_table_e, dot as dot_e, eq_product}
use Rattle.magnetar_theory.specs.Outer.{row_values, start}
use Rattle.magnetar_theory.specs.Inner.{zip_inner}
use Rattle.magnetar_theory.specs.Tau.{Zeros, BadTau}
use Rattle.magnetar_theory.specs.Gf128.{Element, element, element_sum, element_product, gf128}
use Rattle.magnetar_theory.proofs.Matrix.{dot-comm}
use Rattle.magnetar_theory.proofs.Outer.{outer-sound, outer-complete}
use Rattle.magnetar_theory.proofs.Inner.{inner-sound, inner-complete}
use Rattle.magnetar_theory.proofs.Gf128.{element-⊕, element-⊗, element-inj, gf128_laws}
use Rattle.magnetar_sumcheck_verifier.specs.Sum.{sum_below}
use Rattle.magnetar_sumcheck_verifier.specs.Round.{running}
use Rattle.magnetar_sumcheck_verifier.specs.Order.{point, eq_points}
use Rattle.magnetar_sumcheck_verifier.specs.Outer.{times_eq, outer_message, outer_end}
use Rattle.magnetar_sumcheck_verifier.specs.Inner.{inner_sums, inner_message, inner_end}
use Rattle.magnetar_sumcheck_verifier.specs.Messages.{Outer, outer_next, outer_fold, outer_start, outer_messages, inner_messages}
use Rattle.magnetar_sumcheck_verifier.proofs.Verifier.{passes, MessagesBelow, passes-checks, checks-passes, running-is}
use Rattle.magnetar_sumcheck_verifier.proofs.OuterRun as O
use Rattle.magnetar_sumcheck_verifier.proofs.OuterRun.{element-eq_table, start-stands}
use Rattle.magnetar_sumcheck_verifier.proofs.InnerRun as I

abbrev els : List ℕ → List Element
els t = map element t

-- ---- values as elements
pub element-dot : (s t : List ℕ) → element (dot s t) ≡ dot_e gf128 (els s) (els t)
unfolding dot
element-dot [] t = refl
element-dot (x ∷ s) [] = refl
element-dot (x ∷ s) (y ∷ t) = element-⊕ (x ⊗ y) (dot s t) ∙ ap₂ element_sum (element-⊗ x y) (element-dot s t)

pub dot-lt : (s t : List ℕ) → dot s t < 2 ^ 128
unfolding dot
dot-lt [] t = pow_pos 128
dot-lt (x ∷ s) [] = pow_pos 128
dot-lt (x ∷ s) (y ∷ t) = ⊕-lt 128 (x ⊗ y) (dot s t) (⊗-lt x y) (dot-lt s t)

pub element-mle : (t p : List ℕ) → element (mle t p) ≡ dot_e gf128 (eq_table_e gf128 (els p)) (els t)
unfolding mle
element-mle t p = element-dot t (eq_table p) ∙ ap (dot_e gf128 (els t)) (element-eq_table p)
    ∙ dot-comm gf128 gf128_laws (els t) (eq_table_e gf128 (els p))

pub element-eq_points : (ps qs : List ℕ) → element (eq_points ps qs) ≡ eq_product gf128 (els ps) (els qs)
unfolding eq_points
element-eq_points [] qs = refl
element-eq_points (p ∷ ps) [] = refl
element-eq_points (p ∷ ps) (q ∷ qs) =
    element-⊗ (1 ⊕ p ⊕ q) (eq_points ps qs) ∙ ap₂ element_product (element-⊕ (1 ⊕ p) q
    ∙ ap (λ (x : Element). element_sum x (element q)) (element-⊕ 1 p)) (element-eq_points ps qs)

els-append : (s t : List ℕ) → els (s ++ t) ≡ els s ++ els t
els-append [] t = refl
els-append (x ∷ s) t = ap (λ (l : List Element). element x ∷ l) (els-append s t)

els-reverse : (s : List ℕ) → els (reverse s) ≡ reverse (els s)
els-reverse [] = refl
els-reverse (x ∷ s) = ap els (reverse-cons x s) ∙ els-append (reverse s) (x ∷ [])
    ∙ ap (λ (l : List Element). l ++ (element x ∷ [])) (els-reverse s) ∙ sym (reverse-cons (element x) (els s))

-- the point of high challenges rs and low ones cs
pub point-is : (rs cs : List ℕ) → point (length rs) (rs ++ cs) ≡ cs ++ reverse rs
unfolding point
point-is rs cs = ap₂ ◌++◌ (drop_at rs cs (length rs) refl) (ap reverse (take_at rs cs (length rs) refl))

els-point : (rs cs : List ℕ) → els (point (length rs) (rs ++ cs)) ≡ els cs ++ reverse (els rs)
els-point rs cs = ap els (point-is rs cs) ∙ els-append cs (reverse rs) ∙ ap (λ (l : List Element). els cs ++ l) (els-reverse rs)

-- ---- bounds
times_eq-below : (k t x y z : ℕ) → AllBelow (2 ^ 128) (times_eq k t x y z)
unfolding times_eq
times_eq-below k t x y z = (⊗-lt k ((1 ⊕ t) ⊗ x), (⊗-lt k ((1 ⊕ t) ⊗ y ⊕ x), (⊗-lt k ((1 ⊕ t) ⊗ z ⊕ y), (⊗-lt k z, tt))))

pub outer_next-below : (S : Outer) → AllBelow (2 ^ 128) (outer_next S)
unfolding outer_next outer_message
outer_next-below S = times_eq-below _ _ _ _ _

pub outer_below : (S : Outer) (rs : List ℕ) → MessagesBelow (outer_messages S rs)
unfolding outer_messages
outer_below S [] = tt
outer_below S (r ∷ rs) = (outer_next-below S, outer_below (outer_fold r S) rs)

sum_lt : (f : ℕ → ℕ) (n : ℕ) → ((i : ℕ) → f i < 2 ^ 128) → sum_below n f < 2 ^ 128
unfolding sum_below
sum_lt f zero h = pow_pos 128
sum_lt f (suc n) h = ⊕-lt 128 (sum_below n f) (f n) (sum_lt f n h) (h n)

pub inner_message-below : (v : ℕ) (t z : List ℕ) → AllBelow (2 ^ 128) (inner_message v t z)
unfolding inner_message inner_sums
inner_message-below v t z = (
  sum_lt _ (length t / 2) (λ i. ⊗-lt _ _),
  (
    sum_lt _ (length t / 2) (λ i. ⊕-lt 128 _ _ (⊗-lt _ _) (⊗-lt _ _)),
    (sum_lt _ (length t / 2) (λ i. ⊗-lt _ _), tt),
  ),
)

pub inner_below : (t z rs : List ℕ) → MessagesBelow (inner_messages t z rs)
unfolding inner_messages
inner_below t z [] = tt
inner_below t z (r ∷ rs) = (inner_message-below 0 t z, inner_below (bind_var 0 r t) (bind_var 0 r z) rs)

running-lt : (c : ℕ) (ms : List (List ℕ)) (rs : List ℕ) → c < 2 ^ 128 → MessagesBelow ms → running c ms rs < 2 ^ 128
unfolding running
running-lt c [] rs h b = h
running-lt c (m ∷ ms) [] h b = h
running-lt c (m ∷ ms) (r ∷ rs) h b = running-lt (eval m r) ms rs (eval-lt m r b.0) b.1

-- ---- the outer sum-check
-- tables over as many variables as there are challenges, rs for the high ones and cs for the low ones
pub record OuterSizes (tau a b c rs cs : List ℕ) : Type 0 where
  pub size_tau : length tau ≡ length rs + length cs
  pub size_a : length a ≡ 2 ^ (length rs + length cs)
  pub size_b : length b ≡ 2 ^ (length rs + length cs)
  pub size_c : length c ≡ 2 ^ (length rs + length cs)

-- the value at the end: eq(tau, p) (a(p) b(p) + c(p)), where p is the point of the challenges
abbrev pub true_end : (tau a b c rs cs : List ℕ) → ℕ
true_end tau a b c rs cs =
    outer_end (eq_points tau (point (length rs) (rs ++ cs))) (mle a (point (length rs) (rs ++ cs))) (mle b (point (length rs) (rs ++ cs)))
    (mle c (point (length rs) (rs ++ cs)))

-- every row holds: a b + c is zero everywhere
abbrev pub Rows : (a b c : List ℕ) → Type 0
Rows a b c = Zeros gf128 (row_values gf128 (els a) (els b) (els c))

-- the rows hold as numbers where they hold as elements
row_is : (x y z : ℕ) → element_sum (element_product (element x) (element y)) (element z) ≡ element (x ⊗ y ⊕ z)
row_is x y z = sym (element-⊕ (x ⊗ y) z ∙ ap (λ (w : Element). element_sum w (element z)) (element-⊗ x y))

pub rows_of : (a b c : List ℕ) → length b ≡ length a → length c ≡ length a
    → ((i : ℕ) → i < length a → get_or a i 0 ⊗ get_or b i 0 ≡ get_or c i 0) → Rows a b c
rows_of [] b c h k e = tt
rows_of (x ∷ a) [] c h k e = tt
rows_of (x ∷ a) (y ∷ b) [] h k e = tt
rows_of (x ∷ a) (y ∷ b) (z ∷ c) h k e = (
  row_is x y z ∙ ap (λ (w : ℕ). element (w ⊕ z)) (e 0 (omega arith)) ∙ ap element (⊕-self z),
  rows_of a b c (omega arith) (omega arith) (λ i l. e (suc i) (omega arith)),
)

pub of-rows : (a b c : List ℕ) → length b ≡ length a → length c ≡ length a → AllBelow (2 ^ 128) c → Rows a b c
    → (i : ℕ) → i < length a → get_or a i 0 ⊗ get_or b i 0 ≡ get_or c i 0
of-rows [] b c h k l z i q = absurd (omega arith)
of-rows (x ∷ a) [] c h k l z i q = absurd (omega arith)
of-rows (x ∷ a) (y ∷ b) [] h k l z i q = absurd (omega arith)
of-rows (x ∷ a) (y ∷ b) (w ∷ c) h k l z zero q =
    eq-of-⊕ (element-inj (x ⊗ y ⊕ w) 0 (⊕-lt 128 (x ⊗ y) w (⊗-lt x y) l.0) (pow_pos 128) (sym (row_is x y w) ∙ z.0))
of-rows (x ∷ a) (y ∷ b) (w ∷ c) h k l z (suc i) q = of-rows a b c (omega arith) (omega arith) l.1 z.1 i (omega arith)

module _ (tau a b c rs cs : List ℕ) (Z : OuterSizes tau a b c rs cs) where
  els-length : (t : List ℕ) → length t ≡ 2 ^ (length rs + length cs) → length (els t) ≡ 2 ^ (length (els rs) + length (els cs))
  els-length t h = length-map t element ∙ h ∙ ap₂ (λ (m n : ℕ). 2 ^ (m + n)) (sym (length-map rs element)) (sym (length-map cs element))

  tau-length : length (els tau) ≡ length (els rs) + length (els cs)
  tau-length = length-map tau element ∙ Z.size_tau ∙ ap₂ ◌+◌ (sym (length-map rs element)) (sym (length-map cs element))

  end_is : element (true_end tau a b c rs cs)
      ≡ element_product (eq_product gf128 (els tau) (els cs ++ reverse (els rs)))
      (element_sum (element_product (dot_e gf128 (eq_table_e gf128 (els cs ++ reverse (els rs))) (els a))
      (dot_e gf128 (eq_table_e gf128 (els cs ++ reverse (els rs))) (els b)))
      (dot_e gf128 (eq_table_e gf128 (els cs ++ reverse (els rs))) (els c)))
  unfolding outer_end
  end_is = element-⊗ (eq_points tau p) (mle a p ⊗ mle b p ⊕ mle c p)
      ∙ ap₂ element_product (element-eq_points tau p ∙ ap (eq_product gf128 (els tau)) (els-point rs cs))
      (element-⊕ (mle a p ⊗ mle b p) (mle c p) ∙ ap₂ element_sum (element-⊗ (mle a p) (mle b p) ∙ ap₂ element_product (at a) (at b)) (at c))
    where
      p : List ℕ
      p = point (length rs) (rs ++ cs)

      at : (t : List ℕ) → element (mle t p) ≡ dot_e gf128 (eq_table_e gf128 (els cs ++ reverse (els rs))) (els t)
      at t = element-mle t p ∙ ap (λ (q : List Element). dot_e gf128 (eq_table_e gf128 q) (els t)) (els-point rs cs)

  -- the state at the start
  abbrev pub begin : State gf128 (outer_cells gf128)
  begin = start gf128 (els a) (els b) (els c) (els tau) (length (els rs)) (length (els cs))

  -- if all checks pass and the end is true, every row holds, or an element of tau or a challenge is in its list
  pub outer-accepted : (ms : List (List ℕ)) → passes 0 ms (rs ++ cs) ≡ true → running 0 ms (rs ++ cs) ≡ true_end tau a b c rs cs
      → Rows a b c ⊎ (BadTau gf128 (row_values gf128 (els a) (els b) (els c)) (els tau)
      ⊎ BadChallenge gf128 (table_rounds gf128 (outer_cells gf128)) begin (map els ms) (els rs ++ els cs))
  outer-accepted ms h e = outer-sound gf128 gf128_laws (els a) (els b) (els c) (els tau) (els rs) (els cs) (els-length a Z.size_a)
      (els-length b Z.size_b ∙ sym (els-length a Z.size_a)) (els-length c Z.size_c ∙ sym (els-length a Z.size_a)) tau-length
      (map els ms)
      (subst (Checks gf128 (element 0) (map els ms)) (els-append rs cs) (passes-checks 0 ms (rs ++ cs) h))
      (ap (running_e gf128 (element 0) (map els ms)) (sym (els-append rs cs)) ∙ sym (running-is 0 ms (rs ++ cs)) ∙ ap element e ∙ end_is)

  -- the honest prover's messages
  abbrev pub honest_outer : List (List ℕ)
  honest_outer = outer_messages (outer_start (length rs) tau a b c) (rs ++ cs)

  honest-is : map els honest_outer ≡ honest gf128 (table_rounds gf128 (outer_cells gf128)) begin (els rs ++ els cs)
  honest-is = O.messages-are (rs ++ cs) (outer_start (length rs) tau a b c)
      (start gf128 (els a) (els b) (els c) (els tau) (length rs) (length cs))
      (start-stands (length rs) (length cs) tau a b c Z.size_tau (Z.size_a ∙ whole) (Z.size_b ∙ whole) (Z.size_c ∙ whole))
      (fits (outer_start (length rs) tau a b c) started)
      ∙ ap₂ (λ (m n : ℕ). honest gf128 (table_rounds gf128 (outer_cells gf128)) (start gf128 (els a) (els b) (els c) (els tau) m n)
      (els (rs ++ cs))) (sym (length-map rs element)) (sym (length-map cs element))
      ∙ ap (honest gf128 (table_rounds gf128 (outer_cells gf128)) begin) (els-append rs cs)
    where
      whole : 2 ^ (length rs + length cs) ≡ 2 ^ length tau
      whole = ap (λ (n : ℕ). 2 ^ n) (sym Z.size_tau)

      started : (outer_start (length rs) tau a b c).tau ≡ tau
      started = unfold outer_start in refl

      fits : (S : Outer) → S.tau ≡ tau → length (rs ++ cs) ≤ length S.tau
      fits S e = rw e (omega (arith, length-append rs cs, Z.size_tau))

  -- if every row holds, the honest messages pass every check, and the end is true
  pub outer-honest : Rows a b c → (passes 0 honest_outer (rs ++ cs) ≡ true) × (running 0 honest_outer (rs ++ cs) ≡ true_end tau a b c rs cs)
  outer-honest z = (
    checks-passes 0 honest_outer (rs ++ cs) (pow_pos 128) (outer_below (outer_start (length rs) tau a b c) (rs ++ cs))
        (subst (λ (l : List Element). Checks gf128 (element 0) (map els honest_outer) l) (sym (els-append rs cs))
        (subst (λ (m : List (List Element)). Checks gf128 (element 0) m (els rs ++ els cs)) (sym honest-is) done.0)),
    element-inj (running 0 honest_outer (rs ++ cs)) (true_end tau a b c rs cs)
        (running-lt 0 honest_outer (rs ++ cs) (pow_pos 128) (outer_below (outer_start (length rs) tau a b c) (rs ++ cs))) (end_lt)
        (running-is 0 honest_outer (rs ++ cs) ∙ ap₂ (running_e gf128 (element 0)) honest-is (els-append rs cs) ∙ done.1 ∙ sym end_is),
  )
    where
      done : Checks gf128 (element 0) (honest gf128 (table_rounds gf128 (outer_cells gf128)) begin (els rs ++ els cs)) (els rs ++ els cs)
          × (running_e gf128 (element 0) (honest gf128 (table_rounds gf128 (outer_cells gf128)) begin (els rs ++ els cs)) (els rs ++ els cs)
          ≡ element_product (eq_product gf128 (els tau) (els cs ++ reverse (els rs)))
          (element_sum (element_product (dot_e gf128 (eq_table_e gf128 (els cs ++ reverse (els rs))) (els a))
          (dot_e gf128 (eq_table_e gf128 (els cs ++ reverse (els rs))) (els b)))
          (dot_e gf128 (eq_table_e gf128 (els cs ++ reverse (els rs))) (els c))))
      done = outer-complete gf128 gf128_laws (els a) (els b) (els c) (els tau) (els rs) (els cs) (els-length a Z.size_a)
          (els-length b Z.size_b ∙ sym (els-length a Z.size_a))
          (els-length c Z.size_c ∙ sym (els-length a Z.size_a)) tau-length z

      end_lt : true_end tau a b c rs cs < 2 ^ 128
      end_lt = unfold outer_end in ⊗-lt _ _

-- ---- the inner sum-check
module _ (t z rs : List ℕ) (lt : length t ≡ 2 ^ length rs) (lz : length z ≡ 2 ^ length rs) where
  inner-length : length (els t) ≡ 2 ^ length (els rs)
  inner-length = length-map t element ∙ lt ∙ ap (λ (n : ℕ). 2 ^ n) (sym (length-map rs element))

  inner-same : length (els z) ≡ length (els t)
  inner-same = length-map z element ∙ lz ∙ sym lt ∙ sym (length-map t element)

  inner-end : element (inner_end (mle t rs) (mle z rs))
      ≡ element_product (dot_e gf128 (eq_table_e gf128 (els rs)) (els t)) (dot_e gf128 (eq_table_e gf128 (els rs)) (els z))
  unfolding inner_end
  inner-end = element-⊗ (mle t rs) (mle z rs) ∙ ap₂ element_product (element-mle t rs) (element-mle z rs)

  abbrev pub inner_begin : State gf128 (inner_cells gf128)
  inner_begin = record { tops = 0; lows = length (els rs); cells = zip_inner gf128 (els t) (els z) }

  -- if all checks pass and the end is true, the claim is the sum, or a challenge is in its list
  pub inner-accepted : (v : ℕ) (ms : List (List ℕ)) → passes v ms rs ≡ true → running v ms rs ≡ inner_end (mle t rs) (mle z rs)
      → (element v ≡ element (dot t z)) ⊎ BadChallenge gf128 (table_rounds gf128 (inner_cells gf128)) inner_begin (map els ms) (els rs)
  inner-accepted v ms h e = go (inner-sound gf128 gf128_laws (els t) (els z) (els rs) inner-length inner-same (element v) (map els ms)
      (passes-checks v ms rs h) (sym (running-is v ms rs) ∙ ap element e ∙ inner-end))
    where
      go : (element v ≡ dot_e gf128 (els t) (els z)) ⊎ BadChallenge gf128 (table_rounds gf128 (inner_cells gf128)) inner_begin (map els ms) (els rs)
          → (element v ≡ element (dot t z)) ⊎ BadChallenge gf128 (table_rounds gf128 (inner_cells gf128)) inner_begin (map els ms) (els rs)
      go (inl p) = inl (p ∙ sym (element-dot t z))
      go (inr m) = inr m

  abbrev pub honest_inner : List (List ℕ)
  honest_inner = inner_messages t z rs

  inner-honest-is : map els honest_inner ≡ honest gf128 (table_rounds gf128 (inner_cells gf128)) inner_begin (els rs)
  inner-honest-is = I.messages-are (length (els rs)) rs t z (length rs) (omega arith) lt lz

  -- the honest messages pass every check from the true sum, and the end is true
  pub inner-honest : (passes (dot t z) honest_inner rs ≡ true) × (running (dot t z) honest_inner rs ≡ inner_end (mle t rs) (mle z rs))
  inner-honest = (
    checks-passes (dot t z) honest_inner rs (dot-lt t z) (inner_below t z rs) (rw (element-dot t z, inner-honest-is) done.0),
    element-inj (running (dot t z) honest_inner rs) (inner_end (mle t rs) (mle z rs))
        (running-lt (dot t z) honest_inner rs (dot-lt t z) (inner_below t z rs)) (unfold inner_end in ⊗-lt _ _)
        (running-is (dot t z) honest_inner rs ∙ ap₂ (λ (v : Element) (m : List (List Element)). running_e gf128 v m
        (els rs)) (element-dot t z) inner-honest-is ∙ done.1 ∙ sym inner-end),
  )
    where
      done : Checks gf128 (dot_e gf128 (els t) (els z)) (honest gf128 (table_rounds gf128 (inner_cells gf128)) inner_begin (els rs)) (els rs)
          × (running_e gf128 (dot_e gf128 (els t) (els z)) (honest gf128 (table_rounds gf128 (inner_cells gf128)) inner_begin (els rs)) (els rs)
          ≡ element_product (dot_e gf128 (eq_table_e gf128 (els rs)) (els t)) (dot_e gf128 (eq_table_e gf128 (els rs)) (els z)))
      done = inner-complete gf128 gf128_laws (els t) (els z) (els rs) inner-length inner-same
