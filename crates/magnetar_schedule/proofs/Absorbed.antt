-- The schedule absorbs the proof's elements in their order, and before draw k exactly those that the list of draw k sees.
-- Assumes nothing.
use mathlib.Core.Path.{◌≡◌, refl, sym, ap, ap₂, ◌∙◌, subst}
use mathlib.Core.Bool.{Bool, true, false}
use mathlib.Core.List.{List, [], ◌∷◌, ◌++◌}
use Prim.Native.Nat.{ℕ, zero, suc, ◌+◌, ◌-◌, ◌*◌, ◌<◌, ◌≤◌, min}
use native.Mathlib.Nat.{zero-add, add-zero, sub-zero, mul-suc}
use native.Mathlib.Omega.{arith}
use borrow.Author.Tests.{ltb-true, ltb-false}
use lib.Dec.{ltb}
use lib.ListN.{length, replicate}
use Rattle.magnetar_hash.specs.Bytes.{ascii}
use Rattle.magnetar_matrix.specs.Batch.{Relation}
use Rattle.magnetar_theory.specs.Absorbed.{absorbed_count}
use Rattle.magnetar_protocol.specs.Shape.{log_logins, log_bin, log_fld, log_cols, before_terminals, before_inner, before_end, proof_elements}
use Rattle.magnetar_schedule.specs.Schedule.{Event, absorb, draw, numbered, rounds, singles, schedule, absorbed_until, InOrder}
use Rattle.magnetar_protocol.specs.Soundness.{absorbed_before}
use Rattle.magnetar_schedule.proofs.Counts.{draws_in, draws_in-replicate, draws_in-rounds, draws_in-singles}
use Rattle.magnetar_schedule.specs.Theorems.{AbsorbedInOrder, AbsorbedBefore}

-- ---- how many elements events absorb in all
abbrev pub absorbed_in : List Event → ℕ
absorbed_in [] = 0
absorbed_in (absorb l i n ∷ es) = n + absorbed_in es
absorbed_in (draw l ∷ es) = absorbed_in es

in-replicate : (n : ℕ) (l : List ℕ) → absorbed_in (replicate n (draw l)) ≡ 0
in-replicate zero l = refl
in-replicate (suc n) l = in-replicate n l

in-rounds : (label : ℕ → List ℕ) (first size i n : ℕ) → absorbed_in (rounds label first size i n) ≡ size * n
unfolding rounds
in-rounds label first size i zero = sym (omega arith)
in-rounds label first size i (suc n) = ap (λ (k : ℕ). size + k) (in-rounds label first size (suc i) n) ∙ more size n
  where
    more : (size n : ℕ) → size + size * n ≡ size * suc n
    more size n = omega (arith, mul-suc size n)

in-singles : (label : ℕ → List ℕ) (first i n : ℕ) → absorbed_in (singles label first i n) ≡ n
unfolding singles
in-singles label first i zero = refl
in-singles label first i (suc n) = ap (λ (k : ℕ). 1 + k) (in-singles label first (suc i) n) ∙ omega arith

-- ---- in order
order-append : (n : ℕ) (a b : List Event) → InOrder n a → InOrder (n + absorbed_in a) b → InOrder n (a ++ b)
unfolding InOrder
order-append n [] b h k = subst (λ (m : ℕ). InOrder m b) (add-zero n) k
order-append n (absorb l i m ∷ a) b h k = (h.0, order-append (n + m) a b h.1 (subst (λ (j : ℕ). InOrder j b) (more n m (absorbed_in a)) k))
  where
    more : (n m a : ℕ) → n + (m + a) ≡ n + m + a
    more n m a = omega arith
order-append n (draw l ∷ a) b h k = order-append n a b h k

order-then : (n m : ℕ) (a b : List Event) → absorbed_in a ≡ m → InOrder n a → InOrder (n + m) b → InOrder n (a ++ b)
order-then n m a b e h k = order-append n a b h (subst (λ (j : ℕ). InOrder (n + j) b) (sym e) k)

order-replicate : (m n : ℕ) (l : List ℕ) → InOrder m (replicate n (draw l))
unfolding InOrder
order-replicate m zero l = tt
order-replicate m (suc n) l = order-replicate m n l

order-rounds : (label : ℕ → List ℕ) (first size i n m : ℕ) → first + size * i ≡ m → InOrder m (rounds label first size i n)
unfolding InOrder rounds
order-rounds label first size i zero m h = tt
order-rounds label first size i (suc n) m h = (h, order-rounds label first size (suc i) n (m + size) (more first size i m h))
  where
    more : (first size i m : ℕ) → first + size * i ≡ m → first + size * suc i ≡ m + size
    more first size i m h = omega (arith, mul-suc size i)

order-singles : (label : ℕ → List ℕ) (first i n m : ℕ) → first + i ≡ m → InOrder m (singles label first i n)
unfolding InOrder singles
order-singles label first i zero m h = tt
order-singles label first i (suc n) m h = (h, order-singles label first (suc i) n (m + 1) (omega arith))

-- ---- before draw k
until-in : (a b : List Event) (k : ℕ) → k < draws_in a → absorbed_until (a ++ b) k ≡ absorbed_until a k
unfolding absorbed_until
until-in [] b k h = absurd (omega arith)
until-in (absorb l i n ∷ a) b k h = ap (λ (m : ℕ). n + m) (until-in a b k h)
until-in (draw l ∷ a) b zero h = refl
until-in (draw l ∷ a) b (suc k) h = until-in a b k (omega arith)

until-past : (a b : List Event) (k : ℕ) → draws_in a ≤ k → absorbed_until (a ++ b) k ≡ absorbed_in a + absorbed_until b (k - draws_in a)
unfolding absorbed_until
until-past [] b k h = ap (absorbed_until b) (sym (sub-zero k)) ∙ sym (zero-add (absorbed_until b (k - 0)))
until-past (absorb l i n ∷ a) b k h = ap (λ (m : ℕ). n + m) (until-past a b k h) ∙ more n (absorbed_in a) (absorbed_until b (k - draws_in a))
  where
    more : (n a b : ℕ) → n + (a + b) ≡ n + a + b
    more n a b = omega arith
until-past (draw l ∷ a) b zero h = absurd (omega arith)
until-past (draw l ∷ a) b (suc k) h =
    until-past a b k (omega arith) ∙ ap (λ (m : ℕ). absorbed_in a + absorbed_until b m) (one k (draws_in a))
  where
    one : (k n : ℕ) → k - n ≡ suc k - suc n
    one k n = omega arith

until-replicate : (n : ℕ) (l : List ℕ) (k : ℕ) → absorbed_until (replicate n (draw l)) k ≡ 0
unfolding absorbed_until
until-replicate zero l k = refl
until-replicate (suc n) l zero = refl
until-replicate (suc n) l (suc k) = until-replicate n l k

until-rounds : (label : ℕ → List ℕ) (first size i n k : ℕ) → k < n → absorbed_until (rounds label first size i n) k ≡ size * suc k
unfolding absorbed_until rounds
until-rounds label first size i zero k h = absurd (omega arith)
until-rounds label first size i (suc n) zero h = omega (arith, mul-suc size 0)
until-rounds label first size i (suc n) (suc k) h =
    ap (λ (m : ℕ). size + m) (until-rounds label first size (suc i) n k (omega arith)) ∙ more size k
  where
    more : (size k : ℕ) → size + size * suc k ≡ size * suc (suc k)
    more size k = omega (arith, mul-suc size (suc k))

-- o elements have been absorbed before the events a, which hold n draws and absorb m elements; b comes after them
section : (a b : List Event) (o n m k v : ℕ) → draws_in a ≡ n → absorbed_in a ≡ m → (k < n → o + absorbed_until a k ≡ v)
    → ((j : ℕ) → k ≡ n + j → o + m + absorbed_until b j ≡ v) → o + absorbed_until (a ++ b) k ≡ v
section a b o n m k v hn hm within after = go (ltb k n) refl
  where
    grouped : (a b c : ℕ) → a + (b + c) ≡ a + b + c
    grouped a b c = omega arith

    rest : n ≤ k → k ≡ n + (k - n)
    rest l = omega arith

    go : (t : Bool) → ltb k n ≡ t → o + absorbed_until (a ++ b) k ≡ v
    go true e =
        let l : k < n = ltb-true k n e in
        ap (λ (j : ℕ). o + j) (until-in a b k (rw hn l)) ∙ within l
    go false e =
        let l : n ≤ k = ltb-false k n e in
        ap (λ (j : ℕ). o + j) (until-past a b k (rw hn l)) ∙ ap₂ (λ (i j : ℕ). o + (i + absorbed_until b (k - j))) hm hn
        ∙ grouped o m (absorbed_until b (k - n)) ∙ after (k - n) (rest l)

-- ---- the numbers of specs/Soundness, section by section
module _ (s g h : ℕ) where
  absorbed-is : (k K b d : ℕ) → suc k - (g + s + (h + s)) ≡ K → K - s ≡ b → b - (g + h) ≡ d
      → absorbed_count s g h k ≡ 8 * min s K + 4 * min (g + h) b + 6 * min 1 d + 3 * (d - 6)
  absorbed-is k K b d e₁ e₂ e₃ = rw (e₁, e₂, e₃) refl

  at-tau : (k : ℕ) → k < s + g + (s + h) → 0 ≡ absorbed_count s g h k
  at-tau k l = sym (absorbed-is k 0 0 0 (omega arith) (omega arith) (omega arith) ∙ omega arith)

  at-shared : (k j : ℕ) → k ≡ s + g + (s + h + j) → j < s → 8 * suc j ≡ absorbed_count s g h k
  at-shared k j e l = sym (absorbed-is k (suc j) 0 0 (omega arith) (omega arith) (omega arith) ∙ omega arith)

  at_rows : (k j : ℕ) → k ≡ s + g + (s + h + (s + j)) → j < g + h → 8 * s + 4 * suc j ≡ absorbed_count s g h k
  at_rows k j e l = sym (absorbed-is k (s + suc j) (suc j) 0 (omega arith) (omega arith) (omega arith) ∙ omega arith)

  at-alphas : (k j : ℕ) → k ≡ s + g + (s + h + (s + (g + (h + j)))) → j < 6 → 8 * s + 4 * g + 4 * h + 6 ≡ absorbed_count s g h k
  at-alphas k j e l = sym (absorbed-is k (s + (g + h + suc j)) (g + h + suc j) (suc j) (omega arith) (omega arith) (omega arith) ∙ omega arith)

  at_inner : (k j : ℕ) → k ≡ s + g + (s + h + (s + (g + (h + (6 + j))))) → 8 * s + 4 * g + 4 * h + 6 + 3 * suc j ≡ absorbed_count s g h k
  at_inner k j e =
      sym (absorbed-is k (s + (g + h + (6 + suc j))) (g + h + (6 + suc j)) (6 + suc j) (omega arith) (omega arith) (omega arith) ∙ omega arith)

module _ (r : Relation) where
  abbrev s : ℕ
  s = log_logins r

  abbrev g : ℕ
  g = log_bin r

  abbrev h : ℕ
  h = log_fld r

  -- the parts of the schedule, from the last one on
  abbrev last : List Event
  last = absorb (ascii "vs-vz") (before_end r) 1 ∷ singles (numbered "vs-seg-") (before_end r + 1) 0 (length r.lengths)

  abbrev inners : List Event
  inners = rounds (λ _. ascii "vs-inner") (before_inner r) 3 0 (log_cols r)

  abbrev alphas : List Event
  alphas = replicate 6 (draw (ascii "vs-alpha"))

  abbrev ends : List Event
  ends = singles (numbered "vs-terminal-") (before_terminals r) 0 6

  abbrev rows_fld : List Event
  rows_fld = rounds (numbered "vs-out-rowfld-") (8 * s + 4 * g) 4 0 h

  abbrev rows_bin : List Event
  rows_bin = rounds (numbered "vs-out-rowbin-") (8 * s) 4 0 g

  abbrev shareds : List Event
  shareds = rounds (numbered "vs-out-shared-") 0 8 0 s

  abbrev taus_fld : List Event
  taus_fld = replicate (s + h) (draw (ascii "vs-tau-fld"))

  abbrev taus_bin : List Event
  taus_bin = replicate (s + g) (draw (ascii "vs-tau-bin"))

  schedule-is : schedule r ≡ taus_bin ++ (taus_fld ++ (shareds ++ (rows_bin ++ (rows_fld ++ (ends ++ (alphas ++ (inners ++ last)))))))
  unfolding schedule
  schedule-is = refl

  -- the proof's elements are absorbed in their order, and all of them
  in-append : (a b : List Event) → absorbed_in (a ++ b) ≡ absorbed_in a + absorbed_in b
  in-append [] b = sym (zero-add (absorbed_in b))
  in-append (absorb l i n ∷ a) b = ap (λ (m : ℕ). n + m) (in-append a b) ∙ more n (absorbed_in a) (absorbed_in b)
    where
      more : (n a b : ℕ) → n + (a + b) ≡ n + a + b
      more n a b = omega arith
  in-append (draw l ∷ a) b = in-append a b

  pub all-absorbed : absorbed_in (schedule r) ≡ proof_elements r
  all-absorbed = ap absorbed_in schedule-is ∙ simp (in-append, in-replicate, in-rounds, in-singles) (omega arith)

  pub in_order : AbsorbedInOrder r
  in_order =
      subst (InOrder 0) (sym schedule-is)
      (order-then 0 0 taus_bin _ (in-replicate (s + g) (ascii "vs-tau-bin")) (order-replicate 0 (s + g) (ascii "vs-tau-bin"))
      (order-then 0 0 taus_fld _ (in-replicate (s + h) (ascii "vs-tau-fld")) (order-replicate 0 (s + h) (ascii "vs-tau-fld"))
      (order-then 0 (8 * s) shareds _ (in-rounds (numbered "vs-out-shared-") 0 8 0 s) (order-rounds (numbered "vs-out-shared-") 0 8 0 s 0 refl)
      (order-then (0 + 8 * s) (4 * g) rows_bin _ (in-rounds (numbered "vs-out-rowbin-") (8 * s) 4 0 g)
      (order-rounds (numbered "vs-out-rowbin-") (8 * s) 4 0 g (0 + 8 * s) (omega arith))
      (order-then (0 + 8 * s + 4 * g) (4 * h) rows_fld _ (in-rounds (numbered "vs-out-rowfld-") (8 * s + 4 * g) 4 0 h)
      (order-rounds (numbered "vs-out-rowfld-") (8 * s + 4 * g) 4 0 h (0 + 8 * s + 4 * g) (omega arith))
      (order-then (0 + 8 * s + 4 * g + 4 * h) 6 ends _ (in-singles (numbered "vs-terminal-") (before_terminals r) 0 6)
      (order-singles (numbered "vs-terminal-") (before_terminals r) 0 6 (0 + 8 * s + 4 * g + 4 * h) (omega arith))
      (order-then (0 + 8 * s + 4 * g + 4 * h + 6) 0 alphas _ refl (order-replicate (0 + 8 * s + 4 * g + 4 * h + 6) 6 (ascii "vs-alpha"))
      (order-then (0 + 8 * s + 4 * g + 4 * h + 6 + 0) (3 * log_cols r) inners _ (in-rounds (λ _. ascii "vs-inner") (before_inner r) 3 0 (log_cols r))
      (order-rounds (λ _. ascii "vs-inner") (before_inner r) 3 0 (log_cols r) (0 + 8 * s + 4 * g + 4 * h + 6 + 0) (omega arith)) ending))))))))
    where
      ending : InOrder (0 + 8 * s + 4 * g + 4 * h + 6 + 0 + 3 * log_cols r) last
      ending = unfold InOrder in (
        omega arith,
        order-singles (numbered "vs-seg-") (before_end r + 1) 0 (length r.lengths) (0 + 8 * s + 4 * g + 4 * h + 6 + 0 + 3 * log_cols r + 1)
            (omega arith),
      )

  pub absorbed-before : AbsorbedBefore r
  unfolding absorbed_before
  absorbed-before k l =
      ap (λ (es : List Event). absorbed_until es k) schedule-is
      ∙ sym (zero-add (absorbed_until (taus_bin ++ E₁) k))
      ∙ section taus_bin E₁ 0 (s + g) 0 k v (draws_in-replicate (s + g) (ascii "vs-tau-bin")) (in-replicate (s + g) (ascii "vs-tau-bin"))
      (λ i. ap (λ (m : ℕ). 0 + m) (until-replicate (s + g) (ascii "vs-tau-bin") k) ∙ at-tau s g h k (omega arith))
      (λ k₁ e₁. section taus_fld E₂ 0 (s + h) 0 k₁ v (draws_in-replicate (s + h) (ascii "vs-tau-fld")) (in-replicate (s + h) (ascii "vs-tau-fld"))
      (λ i. ap (λ (m : ℕ). 0 + m) (until-replicate (s + h) (ascii "vs-tau-fld") k₁) ∙ at-tau s g h k (omega arith))
      (λ k₂ e₂. section shareds E₃ 0 s (8 * s) k₂ v (draws_in-rounds (numbered "vs-out-shared-") 0 8 0 s) (in-rounds (numbered "vs-out-shared-") 0 8 0 s)
      (λ i. ap (λ (m : ℕ). 0 + m) (until-rounds (numbered "vs-out-shared-") 0 8 0 s k₂ i) ∙ zero-add (8 * suc k₂)
      ∙ at-shared s g h k k₂ (omega arith) i)
      (λ k₃ e₃. section rows_bin E₄ (0 + 8 * s) g (4 * g) k₃ v (draws_in-rounds (numbered "vs-out-rowbin-") (8 * s) 4 0 g)
      (in-rounds (numbered "vs-out-rowbin-") (8 * s) 4 0 g)
      (λ i. ap (λ (m : ℕ). 0 + 8 * s + m) (until-rounds (numbered "vs-out-rowbin-") (8 * s) 4 0 g k₃ i) ∙ none (4 * suc k₃)
      ∙ at_rows s g h k k₃ (omega arith) (omega arith))
      (λ k₄ e₄. section rows_fld E₅ (0 + 8 * s + 4 * g) h (4 * h) k₄ v (draws_in-rounds (numbered "vs-out-rowfld-") (8 * s + 4 * g) 4 0 h)
      (in-rounds (numbered "vs-out-rowfld-") (8 * s + 4 * g) 4 0 h)
      (λ i. ap (λ (m : ℕ). 0 + 8 * s + 4 * g + m) (until-rounds (numbered "vs-out-rowfld-") (8 * s + 4 * g) 4 0 h k₄ i) ∙ later k₄
      ∙ at_rows s g h k (g + k₄) (omega arith) (omega arith))
      (λ k₅ e₅. section ends (alphas ++ (inners ++ last)) (0 + 8 * s + 4 * g + 4 * h) 0 6 k₅ v
      (draws_in-singles (numbered "vs-terminal-") (before_terminals r) 0 6) (in-singles (numbered "vs-terminal-") (before_terminals r) 0 6)
      (λ i. absurd (omega arith))
      (λ k₆ e₆. section alphas (inners ++ last) (0 + 8 * s + 4 * g + 4 * h + 6) 6 0 k₆ v refl refl
      (λ i. ap (λ (m : ℕ). 0 + 8 * s + 4 * g + 4 * h + 6 + m) (until-replicate 6 (ascii "vs-alpha") k₆) ∙ six
      ∙ at-alphas s g h k k₆ (omega arith) i)
      (λ k₇ e₇. let c : k₇ < log_cols r = omega arith in
      ap (λ (m : ℕ). 0 + 8 * s + 4 * g + 4 * h + 6 + 0 + m)
      (until-in inners last k₇ (rw draws_in-rounds c) ∙ until-rounds (λ _. ascii "vs-inner") (before_inner r) 3 0 (log_cols r) k₇ c)
      ∙ end k₇ ∙ at_inner s g h k k₇ (omega arith))))))))
    where
      v : ℕ
      v = absorbed_count s g h k

      none : (m : ℕ) → 0 + 8 * s + m ≡ 8 * s + m
      none m = omega arith

      later : (j : ℕ) → 0 + 8 * s + 4 * g + 4 * suc j ≡ 8 * s + 4 * suc (g + j)
      later j = omega arith

      six : 0 + 8 * s + 4 * g + 4 * h + 6 + 0 ≡ 8 * s + 4 * g + 4 * h + 6
      six = omega arith

      end : (j : ℕ) → 0 + 8 * s + 4 * g + 4 * h + 6 + 0 + 3 * suc j ≡ 8 * s + 4 * g + 4 * h + 6 + 3 * suc j
      end j = omega arith

      E₅ : List Event
      E₅ = ends ++ (alphas ++ (inners ++ last))

      E₄ : List Event
      E₄ = rows_fld ++ E₅

      E₃ : List Event
      E₃ = rows_bin ++ E₄

      E₂ : List Event
      E₂ = shareds ++ E₃

      E₁ : List Event
      E₁ = taus_fld ++ E₂
