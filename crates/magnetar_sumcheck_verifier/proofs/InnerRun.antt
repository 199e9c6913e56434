-- The inner prover over numbers follows the theory: its messages are the honest ones.
-- Assumes nothing.
use mathlib.Core.Path.{◌≡◌, refl, sym, ap, ap₂, ◌∙◌}
use mathlib.Core.List.{List, [], ◌∷◌, map}
use Prim.Native.Nat.{ℕ, zero, suc, ◌+◌, ◌-◌, ◌/◌, ◌^◌, ◌≤◌, ◌<◌}
use native.Mathlib.Nat.{two-pow-succ}
use native.Mathlib.Omega.{arith}
use lib.Seq.{ext_get_or}
use lib.ListN.{length, get_or, length-map}
use lib.Pow.{pow_pos}
use Rattle.magnetar_field.proofs.Tabulation.{tabulate-ext, tabulate-length, tabulate-get}
use Rattle.magnetar_field.specs.Gf128.{◌⊕◌, ◌⊗◌}
use Rattle.magnetar_field.specs.Tabulate.{tabulate}
use Rattle.magnetar_multilinear.specs.Multilinear.{line, insert_zero, bind_var}
use Rattle.magnetar_theory.specs.Field.{Field, Laws}
use Rattle.magnetar_theory.specs.SumCheck.{add_lists, honest}
use Rattle.magnetar_theory.specs.Table.{table_rounds, pairs, poly_all, mix_all}
use Rattle.magnetar_theory.specs.Cells.{line_at, InnerCell, inner_cells}
use Rattle.magnetar_theory.specs.Inner.{zip_inner}
use Rattle.magnetar_theory.specs.Gf128.{Element, element, element_sum, element_product, gf128}
use Rattle.magnetar_theory.proofs.Ring.{ring}
use Rattle.magnetar_theory.proofs.Gf128.{element-⊕, element-⊗, gf128_laws}
use Rattle.magnetar_sumcheck_verifier.specs.Sum.{sum_below}
use Rattle.magnetar_sumcheck_verifier.specs.Order.{next_var, at₀, at₁, slope}
use Rattle.magnetar_sumcheck_verifier.specs.Inner.{inner_sums, inner_message}
use Rattle.magnetar_sumcheck_verifier.specs.Messages.{inner_messages}
use Rattle.magnetar_sumcheck_verifier.proofs.Hom.{element-line}
use Rattle.magnetar_sumcheck_verifier.proofs.Tables.{get_d_map}
use Rattle.magnetar_sumcheck_verifier.proofs.Pairs.{pairs-are}
use Rattle.magnetar_sumcheck_verifier.proofs.OuterRound.{sum_f}
use Rattle.magnetar_sumcheck_verifier.proofs.OuterRun.{element-sum}

abbrev els : List ℕ → List Element
els t = map element t

-- ---- the polynomial, over any field
module _ (F : Field) (L : Laws F) where
  open F use {K, 𝟎, 𝟏, ◌⊕◌, ◌⊗◌}

  infixl 60 ◌⊕◌
  infixl 70 ◌⊗◌
  one-sum : (x : K) → x ≡ x ⊕ 𝟎
  one-sum x = simp (ring, L.is-ring)

  abbrev inner_pair : (t₀ t₁ z₀ z₁ : ℕ → K) → ℕ → InnerCell F × InnerCell F
  inner_pair t₀ t₁ z₀ z₁ i = (record { t = t₀ i; z = z₀ i }, record { t = t₁ i; z = z₁ i })

  pub inner-poly : (n : ℕ) (t₀ t₁ z₀ z₁ : ℕ → K) → poly_all F (inner_cells F) (tabulate (inner_pair t₀ t₁ z₀ z₁) (suc n))
      ≡ sum_f F (λ i. t₀ i ⊗ z₀ i) (suc n) ∷ sum_f F (λ i. t₀ i ⊗ (z₀ i ⊕ z₁ i) ⊕ (t₀ i ⊕ t₁ i) ⊗ z₀ i) (suc n) ∷ sum_f F
      (λ i. (t₀ i ⊕ t₁ i) ⊗ (z₀ i ⊕ z₁ i)) (suc n) ∷ []
  unfolding tabulate
  inner-poly zero t₀ t₁ z₀ z₁ = λ i. one-sum (t₀ 0 ⊗ z₀ 0) i ∷ one-sum (t₀ 0 ⊗ (z₀ 0 ⊕ z₁ 0) ⊕ (t₀ 0 ⊕ t₁ 0) ⊗ z₀ 0) i ∷ one-sum
      ((t₀ 0 ⊕ t₁ 0) ⊗ (z₀ 0 ⊕ z₁ 0)) i ∷ []
  inner-poly (suc n) t₀ t₁ z₀ z₁ = ap (add_lists F ((inner_cells F).line (record { t = t₀ 0; z = z₀ 0 }) (record { t = t₁ 0; z = z₁ 0 })))
      (inner-poly n (λ i. t₀ (suc i)) (λ i. t₁ (suc i)) (λ i. z₀ (suc i)) (λ i. z₁ (suc i)))

-- ---- the cells of two tables
get_d_zip : (t z : List Element) (i : ℕ) → length z ≡ length t → get_or (zip_inner gf128 t z) i (inner_cells gf128).none
    ≡ record { t = get_or t i (element 0); z = get_or z i (element 0) }
get_d_zip [] [] i h = refl
get_d_zip [] (y ∷ z) i h = absurd (omega arith)
get_d_zip (x ∷ t) [] i h = absurd (omega arith)
get_d_zip (x ∷ t) (y ∷ z) zero h = refl
get_d_zip (x ∷ t) (y ∷ z) (suc i) h = get_d_zip t z i (omega arith)

length-zip : (t z : List Element) → length z ≡ length t → length (zip_inner gf128 t z) ≡ length t
length-zip [] z h = refl
length-zip (x ∷ t) [] h = absurd (omega arith)
length-zip (x ∷ t) (y ∷ z) h = ap suc (length-zip t z (omega arith))

mixed : (r : Element) (g : ℕ → InnerCell gf128 × InnerCell gf128) (m : ℕ) → mix_all gf128 (inner_cells gf128) r (tabulate g m)
    ≡ tabulate (λ i. (inner_cells gf128).mix r (g i).0 (g i).1) m
unfolding tabulate
mixed r g zero = refl
mixed r g (suc m) = ap (λ (t : List (InnerCell gf128)). (inner_cells gf128).mix r (g 0).0 (g 0).1 ∷ t) (mixed r (λ i. g (suc i)) m)

half : (n : ℕ) (t : List ℕ) → length t ≡ 2 ^ suc n → length t / 2 ≡ 2 ^ n
half n t h = omega (arith, two-pow-succ n)

-- the entries of pair i
lo : List ℕ → ℕ → Element
lo t i = element (at₀ 0 t i)

hi : List ℕ → ℕ → Element
hi t i = element (at₁ 0 t i)

element-slope : (t : List ℕ) (i : ℕ) → element (slope 0 t i) ≡ element_sum (lo t i) (hi t i)
unfolding slope lo hi
element-slope t i = element-⊕ (at₀ 0 t i) (at₁ 0 t i)

length-bound : (n r : ℕ) (t : List ℕ) → length t ≡ 2 ^ suc n → length (bind_var 0 r t) ≡ 2 ^ n
unfolding bind_var
length-bound n r t h = tabulate-length _ (length t / 2) ∙ half n t h

element-bound : (n r : ℕ) (t : List ℕ) (i : ℕ) → length t ≡ 2 ^ suc n → i < 2 ^ n → get_or (els (bind_var 0 r t)) i (element 0)
    ≡ line_at gf128 (element r) (lo t i) (hi t i)
unfolding lo hi
element-bound n r t i h k = get_d_map element (bind_var 0 r t) i 0 ∙ ap element at_i ∙ element-line r (at₀ 0 t i) (at₁ 0 t i)
  where
    small : i < length t / 2
    small = rw (half n t h) k

    at_i : get_or (bind_var 0 r t) i 0 ≡ line r (at₀ 0 t i) (at₁ 0 t i)
    at_i = unfold bind_var at₀ at₁ in tabulate-get (λ i. line r (get_or t (insert_zero 0 i) 0) (get_or t (insert_zero 0 i + 2 ^ 0) 0))
        (length t / 2) i 0 small

module _ (b n : ℕ) (t z : List ℕ) (lt : length t ≡ 2 ^ suc n) (lz : length z ≡ 2 ^ suc n) where
  same : length (els z) ≡ length (els t)
  same = length-map z element ∙ lz ∙ sym lt ∙ sym (length-map t element)

  abbrev pair_of : ℕ → InnerCell gf128 × InnerCell gf128
  pair_of i = inner_pair gf128 gf128_laws (lo t) (hi t) (lo z) (hi z) i

  pairs_of : pairs gf128 (inner_cells gf128) 0 b (zip_inner gf128 (els t) (els z)) ≡ tabulate pair_of (2 ^ n)
  unfolding next_var lo hi at₀ at₁
  pairs_of = pairs-are gf128 (inner_cells gf128) 0 b n (zip_inner gf128 (els t) (els z)) tt
      (length-zip (els t) (els z) same ∙ length-map t element ∙ lt)
      ∙ tabulate-ext _ pair_of (2 ^ n) (λ i h. λ j. (entry (insert_zero 0 i) j, entry (insert_zero 0 i + 2 ^ 0) j))
    where
      entry : (k : ℕ) → get_or (zip_inner gf128 (els t) (els z)) k (inner_cells gf128).none
          ≡ record { t = element (get_or t k 0); z = element (get_or z k 0) }
      entry k = get_d_zip (els t) (els z) k same ∙ (λ j. record { t = get_d_map element t k 0 j; z = get_d_map element z k 0 j })

  -- the message is the polynomial of the state
  pub next-is : els (inner_message 0 t z) ≡ poly_all gf128 (inner_cells gf128) (pairs gf128 (inner_cells gf128) 0 b
      (zip_inner gf128 (els t) (els z)))
  unfolding inner_message inner_sums
  next-is = ap (λ (m : ℕ). els (inner_sums 0 t z m)) (half n t lt) ∙ (λ i. c₀ i ∷ c₁ i ∷ c₂ i ∷ [])
      ∙ sym (ap (poly_all gf128 (inner_cells gf128)) pairs_of ∙ poly (2 ^ n - 1) (2 ^ n) (omega (arith, pow_pos n)))
    where
      c₀ : element (sum_below (2 ^ n) (λ i. at₀ 0 t i ⊗ at₀ 0 z i)) ≡ sum_f gf128 (λ i. element_product (lo t i) (lo z i)) (2 ^ n)
      c₀ = unfold lo in element-sum (λ i. at₀ 0 t i ⊗ at₀ 0 z i) (λ i. element_product (lo t i) (lo z i)) (2 ^ n)
          (λ i h. element-⊗ (at₀ 0 t i) (at₀ 0 z i))

      c₁ : element (sum_below (2 ^ n) (λ i. at₀ 0 t i ⊗ slope 0 z i ⊕ slope 0 t i ⊗ at₀ 0 z i))
          ≡ sum_f gf128 (λ i. element_sum (element_product (lo t i) (element_sum (lo z i) (hi z i))) (element_product (element_sum (lo t i) (hi t i))
          (lo z i))) (2 ^ n)
      c₁ = unfold lo in element-sum (λ i. at₀ 0 t i ⊗ slope 0 z i ⊕ slope 0 t i ⊗ at₀ 0 z i)
          (λ i. element_sum (element_product (lo t i) (element_sum (lo z i) (hi z i))) (element_product (element_sum (lo t i) (hi t i)) (lo z i))) (2 ^ n)
          (λ i h. element-⊕ (at₀ 0 t i ⊗ slope 0 z i) (slope 0 t i ⊗ at₀ 0 z i)
          ∙ ap₂ element_sum (element-⊗ (at₀ 0 t i) (slope 0 z i) ∙ ap (element_product (lo t i)) (element-slope z i))
          (element-⊗ (slope 0 t i) (at₀ 0 z i) ∙ ap (λ (w : Element). element_product w (lo z i)) (element-slope t i)))

      c₂ : element (sum_below (2 ^ n) (λ i. slope 0 t i ⊗ slope 0 z i))
          ≡ sum_f gf128 (λ i. element_product (element_sum (lo t i) (hi t i)) (element_sum (lo z i) (hi z i))) (2 ^ n)
      c₂ = element-sum (λ i. slope 0 t i ⊗ slope 0 z i) (λ i. element_product (element_sum (lo t i) (hi t i)) (element_sum (lo z i) (hi z i))) (2 ^ n)
          (λ i h. element-⊗ (slope 0 t i) (slope 0 z i) ∙ ap₂ element_product (element-slope t i) (element-slope z i))

      poly : (m k : ℕ) → k ≡ suc m → poly_all gf128 (inner_cells gf128) (tabulate pair_of k)
          ≡ sum_f gf128 (λ i. element_product (lo t i) (lo z i)) k ∷ sum_f gf128
          (λ i. element_sum (element_product (lo t i) (element_sum (lo z i) (hi z i))) (element_product (element_sum (lo t i) (hi t i)) (lo z i))) k ∷
          sum_f gf128
          (λ i. element_product (element_sum (lo t i) (hi t i)) (element_sum (lo z i) (hi z i))) k ∷ []
      poly m k e = rw e (inner-poly gf128 gf128_laws m (lo t) (hi t) (lo z) (hi z))

  -- the fold binds the state's lowest variable
  pub fold_is : (r : ℕ) → mix_all gf128 (inner_cells gf128) (element r) (pairs gf128 (inner_cells gf128) 0 b (zip_inner gf128 (els t) (els z)))
      ≡ zip_inner gf128 (els (bind_var 0 r t)) (els (bind_var 0 r z))
  fold_is r = ap (mix_all gf128 (inner_cells gf128) (element r)) pairs_of ∙ mixed (element r) pair_of (2 ^ n)
      ∙ ext_get_or (inner_cells gf128).none (tabulate cell (2 ^ n)) after
      (tabulate-length cell (2 ^ n) ∙ sym (length-zip (els (bind_var 0 r t)) (els (bind_var 0 r z)) sizes ∙ count t lt))
      (λ i h. tabulate-get cell (2 ^ n) i (inner_cells gf128).none (rw (tabulate-length cell (2 ^ n)) at h)
      ∙ entry i (rw (tabulate-length cell (2 ^ n)) at h) ∙ sym (get_d_zip (els (bind_var 0 r t)) (els (bind_var 0 r z)) i sizes))
    where
      cell : ℕ → InnerCell gf128
      cell i = (inner_cells gf128).mix (element r) (pair_of i).0 (pair_of i).1

      after : List (InnerCell gf128)
      after = zip_inner gf128 (els (bind_var 0 r t)) (els (bind_var 0 r z))

      count : (u : List ℕ) → length u ≡ 2 ^ suc n → length (els (bind_var 0 r u)) ≡ 2 ^ n
      count u h = length-map (bind_var 0 r u) element ∙ length-bound n r u h

      sizes : length (els (bind_var 0 r z)) ≡ length (els (bind_var 0 r t))
      sizes = count z lz ∙ sym (count t lt)

      entry : (i : ℕ) → i < 2 ^ n → cell i ≡ record {
        t = get_or (els (bind_var 0 r t)) i (element 0);
        z = get_or (els (bind_var 0 r z)) i
            (element 0);
      }
      entry i h = λ j. record { t = sym (element-bound n r t i lt h) j; z = sym (element-bound n r z i lz h) j }

-- ---- all rounds
pub messages-are : (b : ℕ) (rs t z : List ℕ) (n : ℕ) → length rs ≤ n → length t ≡ 2 ^ n → length z ≡ 2 ^ n
    → map els (inner_messages t z rs) ≡ honest gf128 (table_rounds gf128
    (inner_cells gf128)) (record { tops = 0; lows = b; cells = zip_inner gf128 (els t) (els z) }) (els rs)
unfolding inner_messages
messages-are b [] t z n h lt lz = refl
messages-are b (r ∷ rs) t z zero h lt lz = absurd (omega arith)
messages-are b (r ∷ rs) t z (suc n) h lt lz = ap₂ ◌∷◌ (next-is b n t z lt lz)
    (messages-are b rs (bind_var 0 r t) (bind_var 0 r z) n (omega arith) (length-bound n r t lt) (length-bound n r z lz)
    ∙ ap (λ (c : List (InnerCell gf128)). honest gf128 (table_rounds gf128 (inner_cells gf128)) (record { tops = 0; lows = b; cells = c })
    (els rs)) (sym (fold_is b n t z lt lz r)))
