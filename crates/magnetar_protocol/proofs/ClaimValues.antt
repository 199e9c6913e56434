-- The value that a claim is about is the theory's: a sum over logins and positions, as a dot product of dot products.
-- Assumes nothing.
use mathlib.Core.Path.{◌≡◌, refl, sym, ap, ap₂, ◌∙◌}
use mathlib.Core.List.{List, [], ◌∷◌, map}
use Prim.Native.Nat.{ℕ, zero, suc, ◌+◌, ◌/◌, ◌^◌, ◌≤◌, ◌<◌}
use native.Mathlib.Omega.{arith}
use lib.ListN.{length, get_or, take, drop, length-map, length-drop}
use lib.Seq.{get_or-take, get_or-drop, length-take-le}
use Rattle.magnetar_field.specs.Gf128.{◌⊕◌, ◌⊗◌}
use Rattle.magnetar_field.specs.Sizes.{log₂}
use Rattle.magnetar_multilinear.specs.EqTable.{eq_at, eq_table}
use Rattle.magnetar_field.proofs.Product.{⊗-⊕, ⊗-zero}
use Rattle.magnetar_multilinear.proofs.EqTables.{eq_table-length, eq_table-get}
use Rattle.magnetar_matrix.specs.Sum.{sum_below}
use Rattle.magnetar_matrix.specs.Batch.{Batch, bit_of, claim_value}
use Rattle.magnetar_theory.specs.EqTable.{eq_table as eq_table_e, dot as dot_e}
use Rattle.magnetar_theory.specs.Segment.{Segment}
use Rattle.magnetar_theory.specs.Gf128.{Element, element, element_sum, element_product, gf128}
use Rattle.magnetar_theory.proofs.Gf128.{element-⊗}
use Rattle.magnetar_sumcheck_verifier.proofs.OuterRound.{sum_f}
use Rattle.magnetar_sumcheck_verifier.proofs.OuterRun.{element-eq_table, element-sum}
use Rattle.magnetar_protocol.specs.Theory.{els, batch_e, segments_e}
use Rattle.magnetar_protocol.proofs.Elements.{els-at}

-- ---- sums
pub sum_below-is : (n : ℕ) (f : ℕ → ℕ) (g : ℕ → Element) → ((i : ℕ) → i < n → element (f i) ≡ g i) → element (sum_below n f) ≡ sum_f gf128 g n
sum_below-is n f g h = element-sum f g n h

pub sum-times : (n c : ℕ) (f : ℕ → ℕ) → sum_below n (λ i. c ⊗ f i) ≡ c ⊗ sum_below n f
unfolding sum_below
sum-times zero c f = sym (⊗-zero c)
sum-times (suc n) c f = ap (λ (v : ℕ). v ⊕ c ⊗ f n) (sum-times n c f) ∙ sym (⊗-⊕ c (sum_below n f) (f n))

sum-ext : (m : ℕ) (f g : ℕ → ℕ) → ((u : ℕ) → f u ≡ g u) → sum_below m f ≡ sum_below m g
unfolding sum_below
sum-ext zero f g h = refl
sum-ext (suc m) f g h = ap₂ ◌⊕◌ (sum-ext m f g h) (h m)

dot-sum : (e t : List Element) (n : ℕ) → length e ≡ n → length t ≡ n
    → dot_e gf128 e t ≡ sum_f gf128 (λ i. element_product (get_or e i (element 0)) (get_or t i (element 0))) n
dot-sum [] t zero h k = refl
dot-sum [] t (suc n) h k = absurd (omega arith)
dot-sum (x ∷ e) [] zero h k = absurd (omega arith)
dot-sum (x ∷ e) [] (suc n) h k = absurd (omega arith)
dot-sum (x ∷ e) (y ∷ t) zero h k = absurd (omega arith)
dot-sum (x ∷ e) (y ∷ t) (suc n) h k = ap (element_sum (element_product x y)) (dot-sum e t n (omega arith) (omega arith))

-- entry i of a mapped list, whatever the defaults
pub map_at : {A B : Type 0} (f : A → B) (l : List A) (i : ℕ) (d : B) (e : A) → i < length l → get_or (map f l) i d ≡ f (get_or l i e)
map_at f [] i d e h = absurd (omega arith)
map_at f (x ∷ l) zero d e h = refl
map_at f (x ∷ l) (suc i) d e h = map_at f l i d e (omega arith)

-- ---- a dot product with an eq table
pub eq-dot : (p : List ℕ) (t : List Element) (n : ℕ) (f : ℕ → ℕ) → n ≡ 2 ^ length p → length t ≡ n
    → ((i : ℕ) → i < n → get_or t i (element 0) ≡ element (f i))
    → dot_e gf128 (eq_table_e gf128 (els p)) t ≡ element (sum_below n (λ i. eq_at p i ⊗ f i))
eq-dot p t n f h k e =
    ap (λ (l : List Element). dot_e gf128 l t) (sym (element-eq_table p))
    ∙ dot-sum (els (eq_table p)) t n (length-map (eq_table p) element ∙ eq_table-length p ∙ sym h) k
    ∙ sym (sum_below-is n (λ i. eq_at p i ⊗ f i) (λ i. element_product (get_or (els (eq_table p)) i (element 0)) (get_or t i (element 0)))
    (λ i l. element-⊗ (eq_at p i) (f i) ∙ ap₂ element_product (ap element (sym (eq_table-get p i (rw h at l))) ∙ sym (els-at (eq_table p) i))
    (sym (e i l))))

-- the claim on the n columns from o on
pub claim-is : (q : ℕ) (b : Batch) (p l : List ℕ) (o n : ℕ) → q ≡ 2 ^ length p → length b ≡ q → n ≡ 2 ^ length l
    → ((u : ℕ) → u < q → o + n ≤ length (get_or b u []))
    → element (claim_value q b p l o n)
    ≡ dot_e gf128 (eq_table_e gf128 (els p)) (map (λ (w : List Element). dot_e gf128 (eq_table_e gf128 (els l)) (take n (drop o w))) (batch_e b))
unfolding claim_value
claim-is q b p l o n hq hb hn fits =
    ap element (sums q)
    ∙ sym (eq-dot p (map at-login (batch_e b)) q (λ u. sum_below n (λ k. eq_at l k ⊗ bit_of b u (o + k))) hq
    (length-map (batch_e b) at-login ∙ length-map b els ∙ hb) each)
  where
    at-login : List Element → Element
    at-login w = dot_e gf128 (eq_table_e gf128 (els l)) (take n (drop o w))

    sums : (m : ℕ) → sum_below m (λ u. sum_below n (λ k. eq_at p u ⊗ (eq_at l k ⊗ bit_of b u (o + k))))
        ≡ sum_below m (λ u. eq_at p u ⊗ sum_below n (λ k. eq_at l k ⊗ bit_of b u (o + k)))
    sums m = sum-ext m (λ u. sum_below n (λ k. eq_at p u ⊗ (eq_at l k ⊗ bit_of b u (o + k))))
        (λ u. eq_at p u ⊗ sum_below n (λ k. eq_at l k ⊗ bit_of b u (o + k))) (λ u. sum-times n (eq_at p u) (λ k. eq_at l k ⊗ bit_of b u (o + k)))

    each : (u : ℕ) → u < q → get_or (map at-login (batch_e b)) u (element 0) ≡ element (sum_below n (λ k. eq_at l k ⊗ bit_of b u (o + k)))
    each u h =
        map_at at-login (batch_e b) u (element 0) (els []) (rw (length-map b els) (omega arith))
        ∙ ap at-login (map_at els b u (els []) [] (omega arith))
        ∙ eq-dot l (take n (drop o (els (get_or b u [])))) n (λ k. bit_of b u (o + k)) hn
        (length-take-le n (drop o (els (get_or b u []))) (rw (length-drop o (els (get_or b u [])), length-map (get_or b u []) element)
        (omega (arith, fits u h))))
        (λ k i. get_or-take n (drop o (els (get_or b u []))) k (element 0) i ∙ get_or-drop o (els (get_or b u [])) k (element 0)
        ∙ els-at (get_or b u []) (o + k) ∙ unfold bit_of in refl)

-- ---- all claims
pub values-are : (f : Segment → Element) (os ns vs : List ℕ) → length os ≡ length ns → length vs ≡ length ns
    → ((i : ℕ) → i < length ns → element (get_or vs i 0) ≡ f (record { log_len = log₂ (get_or ns i 0); number = get_or os i 0 / get_or ns i 0 }))
    → els vs ≡ map f (segments_e os ns)
values-are f [] [] [] h k e = refl
values-are f [] [] (v ∷ vs) h k e = absurd (omega arith)
values-are f [] (n ∷ ns) vs h k e = absurd (omega arith)
values-are f (o ∷ os) [] vs h k e = absurd (omega arith)
values-are f (o ∷ os) (n ∷ ns) [] h k e = absurd (omega arith)
values-are f (o ∷ os) (n ∷ ns) (v ∷ vs) h k e = ap₂ ◌∷◌ (e 0 (omega arith))
    (values-are f os ns vs (omega arith) (omega arith) (λ i l. e (suc i) (omega arith)))
