-- The fold of the public halves: what a login adds, and what is held back for the next one.
-- Assumes nothing.
use Rattle.std.specs.Prelude.{◌≡◌, ℕ, zero, suc, ◌+◌, ◌-◌, ◌*◌, ◌^◌, ◌<◌, ◌≤◌, Bool, true, false, eqb, ltb, List, ◌∷◌, length, get_or, take, drop}
use mathlib.Core.Path.{refl, sym, ap, ◌∙◌}
use native.Mathlib.Numerals.{add-one}
use native.Mathlib.Omega.{arith}
use borrow.Author.Tests.{eqb-true, eqb-false, ltb-true, ltb-false}
use lib.ListN.{length-take, get_or-eq_default}
use lib.Seq.{get_or-take, take_all}
use Rattle.magnetar_field.specs.Gf128.{◌⊕◌, ◌⊗◌}
use Rattle.magnetar_field.specs.Tabulate.{tabulate}
use Rattle.magnetar_field.specs.Words.{elements}
use Rattle.magnetar_field.proofs.Xor.{⊕-zero}
use Rattle.magnetar_field.proofs.Product.{⊗-zero, zero-⊗, ⊗-one, ⊕-⊗}
use Rattle.magnetar_field.proofs.Tabulation.{tabulate-ext}
use Rattle.magnetar_multilinear.specs.EqTable.{eq_at, eq_table}
use Rattle.magnetar_multilinear.proofs.EqTables.{eq_table-get}
use Rattle.magnetar_matrix.specs.Sum.{sum_below}
use Rattle.magnetar_matrix.specs.Batch.{public_half, public_folded_at, public_folded}
use Rattle.magnetar_matrix.specs.Packed.{public_words, public_part, public_of}
use Rattle.magnetar_matrix.specs.Table.{added_at, raised}
use Rattle.magnetar_matrix.proofs.TableLaws.{added-length, added-here, added-there, raised_is, raised-ext, raised-twice, raised-length, raised-get}
use Rattle.magnetar_matrix.proofs.LoginParts.{sum-ext}
use Rattle.magnetar_matrix.proofs.PublicParts.{public-of}
use Rattle.magnetar_matrix.proofs.Carried.{mine-is, next-is}
use Rattle.magnetar_batch.specs.Fold.{half_times, half_sum}

-- ---- one login, column after column
past : (x : List ℕ) (j i : ℕ) → j ≤ i → get_or (take j x) i 0 ≡ 0
past x j i h = get_or-eq_default (take j x) 0 {n = i} (rw (length-take j x) (omega arith))

-- v added at column k of what f has added
raised-more : (f g : ℕ → ℕ) (t : List ℕ) (k v : ℕ) → f k ≡ 0 → g k ≡ v → ((i : ℕ) → (i ≡ k → ⊥) → f i ≡ g i) → added_at (raised f t) k v ≡ raised g t
raised-more f g t k v none here there =
    raised_is g t (added_at (raised f t) k v) (added-length (raised f t) k v ∙ raised-length f t) (λ i h. go i h (eqb i k) refl)
  where
    go : (i : ℕ) → i < length t → (b : Bool) → eqb i k ≡ b → get_or (added_at (raised f t) k v) i 0 ≡ get_or t i 0 ⊕ g i
    go i h true b =
        let e : i ≡ k = eqb-true i k b in
        let l : k < length (raised f t) = rw (raised-length f t, ← e) h in
        rw (e, added-here (raised f t) k v l, raised-get f t k (rw e at h), none, ⊕-zero, here)
    go i h false b = let n = eqb-false i k b in rw (added-there (raised f t) k v i n, raised-get f t i h, there i n)

-- e times the first j of the columns x, from column 1 on
abbrev pub first_columns : (x : List ℕ) → (e j y : ℕ) → ℕ
first_columns x e j y = e ⊗ get_or (0 ∷ take j x) y 0

pub columns-start : (x t : List ℕ) (e : ℕ) → t ≡ raised (first_columns x e 0) t
columns-start x t e = raised_is (first_columns x e 0) t t refl (λ i _. rw (none i, ⊕-zero))
  where
    none : (i : ℕ) → first_columns x e 0 i ≡ 0
    none zero = ⊗-zero e
    none (suc i) = rw (past x 0 i (omega arith)) (⊗-zero e)

pub columns-more : (x t : List ℕ) (e j : ℕ) → added_at (raised (first_columns x e j) t) (suc j) (e ⊗ get_or x j 0) ≡ raised (first_columns x e (suc j)) t
columns-more x t e j =
    raised-more (first_columns x e j) (first_columns x e (suc j)) t (suc j) (e ⊗ get_or x j 0)
    (rw (past x j j (omega arith)) (⊗-zero e)) (rw (get_or-take (suc j) x j 0 (omega arith))) there
  where
    same : (i : ℕ) → (i ≡ j → ⊥) → (b : Bool) → ltb i j ≡ b → get_or (take j x) i 0 ≡ get_or (take (suc j) x) i 0
    same i n true b =
        let l : i < j = ltb-true i j b in
        rw (get_or-take j x i 0 l, get_or-take (suc j) x i 0 (omega arith))
    same i n false b =
        let l : j ≤ i = ltb-false i j b in
        rw (past x j i l, past x (suc j) i (omega (arith, n)))

    there : (i : ℕ) → (i ≡ suc j → ⊥) → first_columns x e j i ≡ first_columns x e (suc j) i
    there zero n = refl
    there (suc i) n = rw (same i (λ h. n (ap suc h)) (ltb i j) refl)

-- and e at column 0
pub half-end : (x t s : List ℕ) (e j : ℕ) → e < 2 ^ 128 → j ≡ length x → s ≡ raised (first_columns x e j) t → added_at s 0 e ≡ raised (half_times x e) t
unfolding half_times
half-end x t s e j b h g =
    let k : take j x ≡ x = take_all j x (omega arith) in
    let f : s ≡ raised (λ y. e ⊗ get_or (0 ∷ x) y 0) t =
    g ∙ raised-ext (first_columns x e j) (λ y. e ⊗ get_or (0 ∷ x) y 0) t (λ y. ap (λ (l : List ℕ). e ⊗ get_or (0 ∷ l) y 0) k) in
    ap (λ (l : List ℕ). added_at l 0 e) f ∙ raised-more (λ y. e ⊗ get_or (0 ∷ x) y 0) (half_times x e) t 0 e (⊗-zero e) (⊗-one e b) there
  where
    there : (i : ℕ) → (i ≡ 0 → ⊥) → e ⊗ get_or (0 ∷ x) i 0 ≡ e ⊗ get_or (1 ∷ x) i 0
    there zero n = absurd (n refl)
    there (suc i) n = refl

-- ---- what is held back
pub nothing-held : (x t : List ℕ) (e : ℕ) → e ≡ 0 → raised (half_times x e) t ≡ t
unfolding half_times
nothing-held x t e h = sym (raised_is (half_times x e) t t refl (λ i _. rw (h, zero-⊗, ⊕-zero)))

-- the login's element f besides what was held back, e
held_more : (x t : List ℕ) (e f : ℕ) → raised (half_times x (e ⊕ f)) t ≡ raised (half_times x f) (raised (half_times x e) t)
unfolding half_times
held_more x t e f =
    raised-ext (half_times x (e ⊕ f)) (λ y. half_times x e y ⊕ half_times x f y) t (λ y. ⊕-⊗ e f (get_or (1 ∷ x) y 0))
    ∙ sym (raised-twice (half_times x e) (half_times x f) t)

-- ---- all logins; fs are their elements
module _ (w : ℕ) (x fs t₀ : List ℕ) where
  -- what is there with e held back for login u is what the logins before it add
  pub Held : (u e : ℕ) → List ℕ → Type 0
  Held u e t = raised (half_times (elements (public_part w x u)) e) t ≡ raised (half_sum w x fs u) t₀

  pub held_start : (e : ℕ) → e ≡ 0 → Held 0 e t₀
  unfolding Held half_sum sum_below
  held_start e h = nothing-held (elements (public_part w x 0)) t₀ e h ∙ raised_is (half_sum w x fs 0) t₀ t₀ refl (λ y _. sym (⊕-zero (get_or t₀ y 0)))

  -- one login more: its words in front of those from login u on, the next one's behind them
  pub held_next : (k u e f r : ℕ) (t t' : List ℕ) → k ≡ public_words w → f ≡ e ⊕ get_or fs u 0 → Held u e t
      → raised (half_times (elements (take k (drop k (take (length x - u * k) (drop (u * k) x))))) r) t'
      ≡ raised (half_times (elements (take k (take (length x - u * k) (drop (u * k) x)))) f) t
      → Held (u + 1) r t'
  unfolding Held half_sum sum_below
  held_next k u e f r t t' g h i j =
      let p = elements (public_part w x u) in
      let a : raised (half_times p f) t ≡ raised (half_times p (get_or fs u 0)) (raised (half_sum w x fs u) t₀) =
      rw h (held_more p t e (get_or fs u 0) ∙ rw i) in
      rw (add-one) (rw (mine-is w x k u g, next-is w x k u g) at j ∙ a ∙ raised-twice (half_sum w x fs u) (half_times p (get_or fs u 0)) t₀)

  pub held-end : (u q e : ℕ) (t : List ℕ) → u ≡ q → e ≡ 0 → Held u e t → t ≡ raised (half_sum w x fs q) t₀
  unfolding Held
  held-end u q e t a b h = sym (nothing-held (elements (public_part w x u)) t e b) ∙ h ∙ rw a

-- ---- the fold is that of the public columns that the words hold
pub halves_are : (q w : ℕ) (x p : List ℕ) → q ≡ 2 ^ length p → tabulate (half_sum w x (eq_table p) q) w ≡ public_folded q w (public_of q w x) p
unfolding public_folded public_folded_at half_sum half_times
halves_are q w x p e =
    tabulate-ext (half_sum w x (eq_table p) q) (public_folded_at q (public_of q w x) p) w
    (λ y g. sum-ext q (λ u. half_times (elements (public_part w x u)) (get_or (eq_table p) u 0) y)
    (λ u. eq_at p u ⊗ get_or (public_half (public_of q w x) u) y 0)
    (λ u h. rw (eq_table-get p u (rw e at h), ← public-of q w x u h)))
