-- Where all logins have the same public columns, every definition gives what it gave while one list of columns was lent for all of them.
-- Assumes nothing.
use mathlib.Core.Path.{◌≡◌, refl, sym, ap, ap₂, ◌∙◌, subst}
use mathlib.Core.List.{List, [], ◌∷◌, ◌++◌, map}
use Prim.Native.Nat.{ℕ, zero, suc, ◌/◌, ◌^◌, ◌<◌}
use native.Mathlib.Omega.{arith}
use lib.Dec.{lit<}
use lib.ListN.{length, get_or, replicate, length-map, length-replicate, length-reverse, get_or-replicate}
use lib.Pow.{pow_pos}
use Rattle.magnetar_field.specs.Gf128.{◌⊗◌}
use Rattle.magnetar_field.proofs.Polynomial.{AllBelow}
use Rattle.magnetar_field.proofs.Product.{⊗-lt}
use Rattle.magnetar_multilinear.specs.EqTable.{eq_at}
use Rattle.magnetar_matrix.specs.Sum.{blocks}
use Rattle.magnetar_matrix.specs.Matrix.{Matrix, System, times_at, times}
use Rattle.magnetar_matrix.specs.Batch.{Relation, Batch, public_half, assignment, Satisfied, batch_products, folded, public_folded_at, public_folded}
use Rattle.magnetar_theory.specs.EqTable.{eq_table as eq_table_e}
use Rattle.magnetar_theory.specs.Matrix.{fold, AllLength}
use Rattle.magnetar_theory.specs.Gf128.{Element, element, number, gf128}
use Rattle.magnetar_theory.proofs.Gf128.{number_of, gf128_laws}
use Rattle.magnetar_theory.proofs.Segment.{fold-equal}
use Rattle.magnetar_protocol.specs.Shape.{log_logins}
use Rattle.magnetar_protocol.specs.Draws.{Draws, login_point}
use Rattle.magnetar_protocol.specs.Checks.{combined, checks, shared_checks, row_checks, terminal_checks, inner_checks, identity_check}
use Rattle.magnetar_protocol.specs.RunSizes.{Elements}
use Rattle.magnetar_protocol.specs.Theory.{els}
use Rattle.magnetar_protocol.specs.Prover.{product_table, outer_rounds, terminal_values, folded_z, honest_proof}
use Rattle.magnetar_protocol.specs.EqualColumns.{equal_columns, shared_z, words_from, SizedEqual, GoodEqual, ProductsEqual, HalfEqual, ChecksEqual, VectorsEqual, WordsEqual}
use Rattle.magnetar_protocol.proofs.Elements.{els-at}
use Rattle.magnetar_protocol.proofs.HonestBelow.{tabulate-below, sum_lt}
use Rattle.magnetar_protocol.proofs.AcceptedHolds.{all-below}
use Rattle.magnetar_protocol.proofs.Folds.{fold_is}

-- ---- sizes
pub sized-equal : (r : Relation) (c : List ℕ) → SizedEqual r c
sized-equal r c h e = record {
  logins = length-replicate r.q c;
  columns = λ u k. ap (λ (l : List ℕ). suc (length l)) (get_or-replicate r.q u c [] k) ∙ h;
  elements = λ u y. each r.q u y;
}
  where
    each : (q u y : ℕ) → get_or (get_or (replicate q c) u []) y 0 < 2 ^ 128
    each zero u y = pow_pos 128
    each (suc q) zero y = e y
    each (suc q) (suc u) y = each q u y

-- ---- goodness
-- the z of a login
z-equal : (b : Batch) (c : List ℕ) (q u : ℕ) → u < q → assignment b (equal_columns q c) u ≡ shared_z b c u
unfolding assignment
z-equal b c q u h = ap (λ (l : List ℕ). get_or b u [] ++ (1 ∷ l)) (get_or-replicate q u c [] h)

abbrev Row : System → List ℕ → ℕ → Type 0
Row s z i = times_at s.a z i ⊗ times_at s.b z i ≡ times_at s.c z i

pub good-equal : (r : Relation) (b : Batch) (c : List ℕ) → GoodEqual r b c
unfolding Satisfied
good-equal r b c = (
  (λ g. (
    g.clear,
    λ u i h k. subst (λ (z : List ℕ). Row r.bin z i) (z-equal b c r.q u h) (g.bin u i h k),
    λ u i h k. subst (λ (z : List ℕ). Row r.fld z i) (z-equal b c r.q u h) (g.fld u i h k),
  )),
  (λ g. record {
    clear = g.0;
    bin = λ u i h k. subst (λ (z : List ℕ). Row r.bin z i) (sym (z-equal b c r.q u h)) (g.1 u i h k);
    fld = λ u i h k. subst (λ (z : List ℕ). Row r.fld z i) (sym (z-equal b c r.q u h)) (g.2 u i h k);
  }),
)

-- ---- the products
blocks-ext : (f g : ℕ → List ℕ) (n : ℕ) → ((u : ℕ) → u < n → f u ≡ g u) → blocks f n ≡ blocks g n
unfolding blocks
blocks-ext f g zero h = refl
blocks-ext f g (suc n) h = ap₂ ◌++◌ (blocks-ext f g n (λ u k. h u (omega arith))) (h n (omega arith))

pub products-equal : (m : Matrix) (b : Batch) (c : List ℕ) (q : ℕ) → ProductsEqual m b c q
unfolding batch_products
products-equal m b c q = blocks-ext (λ u. times m (assignment b (equal_columns q c) u)) (λ u. times m (shared_z b c u)) q
    (λ u h. ap (times m) (z-equal b c q u h))

-- ---- the folded half
numbers : (l : List ℕ) → AllBelow (2 ^ 128) l → map number (els l) ≡ l
numbers [] h = refl
numbers (x ∷ l) h = ap₂ ◌∷◌ (number_of x h.0) (numbers l h.1)

all-equal : (n q : ℕ) (x : List Element) → length x ≡ n → AllLength gf128 n (replicate q x)
all-equal n zero x h = tt
all-equal n (suc q) x h = (h, all-equal n q x h)

pub half-equal : (q : ℕ) (c p : List ℕ) → HalfEqual q c p
unfolding public_folded public_folded_at
half-equal q c p many e =
    sym (numbers (public_folded q (suc (length c)) (equal_columns q c) p)
    (tabulate-below (public_folded_at q (equal_columns q c) p) (suc (length c)) (λ y. sum_lt q _ (λ u. ⊗-lt (eq_at p u) _))))
    ∙ ap (map number) as-elements ∙ numbers (1 ∷ c) (lit< tt, all-below c e)
  where
    half : List Element
    half = els (1 ∷ c)

    long : length half ≡ suc (length c)
    long = length-map (1 ∷ c) element

    point : q ≡ 2 ^ length (els p)
    point = many ∙ ap (λ (k : ℕ). 2 ^ k) (sym (length-map p element))

    at : (u y : ℕ) → u < q → get_or (get_or (replicate q half) u []) y (element 0) ≡ element (get_or (public_half (equal_columns q c) u) y 0)
    at u y h =
        ap (λ (z : List Element). get_or z y (element 0)) (get_or-replicate q u half [] h) ∙ els-at (1 ∷ c) y
        ∙ ap (λ (l : List ℕ). element (get_or (1 ∷ l) y 0)) (sym (get_or-replicate q u c [] h))

    as-elements : els (public_folded q (suc (length c)) (equal_columns q c) p) ≡ half
    as-elements =
        fold_is (suc (length c)) q p (λ u y. get_or (public_half (equal_columns q c) u) y 0) (replicate q half) many (length-replicate q half)
        (all-equal (suc (length c)) q half long) at
        ∙ ap (λ (k : ℕ). fold gf128 (suc (length c)) (eq_table_e gf128 (els p)) (replicate k half)) point
        ∙ fold-equal gf128 gf128_laws (suc (length c)) half (els p) long

module _ (r : Relation) (c : List ℕ) (d : Draws) (many : r.q ≡ 2 ^ length d.shared) (size : suc (length c) ≡ r.m / 2)
    (e : Elements c) where
  half-at-point : public_folded r.q (r.m / 2) (equal_columns r.q c) (login_point d) ≡ 1 ∷ c
  unfolding login_point
  half-at-point =
      ap (λ (n : ℕ). public_folded r.q n (equal_columns r.q c) (login_point d)) (sym size)
      ∙ half-equal r.q c (login_point d) (many ∙ ap (λ (k : ℕ). 2 ^ k) (sym (length-reverse d.shared))) e

-- ---- the verifier
pub checks-equal : (r : Relation) (c w : List ℕ) (d : Draws) → ChecksEqual r c w d
unfolding checks
checks-equal r c w d many size e =
    ap (λ (half : List ℕ). shared_checks r w d 0 (log_logins r)
    ++ (row_checks r w d ++ (terminal_checks r w d ++ (inner_checks r w d (combined r d) ++ identity_check r w d half))))
    (half-at-point r c d many size e)

pub vectors-equal : (b : Batch) (c : List ℕ) → VectorsEqual b c
vectors-equal [] c = refl
vectors-equal (w ∷ b) c = ap (λ (l : List (List Element)). (els w ++ els (1 ∷ c)) ∷ l) (vectors-equal b c)

-- ---- the prover
pub words-equal : (r : Relation) (b : Batch) (d : Draws) (c : List ℕ) → WordsEqual r b d c
unfolding honest_proof outer_rounds terminal_values folded_z product_table
words-equal r b d c many size e = λ j. words_from r b d (λ m. products-equal m b c r.q j)
    (folded r.q (r.m / 2) b (login_point d) ++ half-at-point r c d many size e j)
