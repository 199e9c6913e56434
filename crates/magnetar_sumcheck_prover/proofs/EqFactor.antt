-- The eq factor's table over the variables that stay, made in place; and its value at the point that the challenges make.
-- Assumes nothing.
use mathlib.Core.Path.{◌≡◌, refl, sym, ap, ap₂, ◌∙◌}
use mathlib.Core.Bool.{Bool, true, false, cond}
use mathlib.Core.List.{List, [], ◌∷◌, ◌++◌, reverse, reverse-cons}
use Prim.Native.Nat.{ℕ, zero, suc, ◌+◌, ◌-◌, ◌*◌, ◌/◌, ◌^◌, ◌≤◌, ◌<◌}
use native.Mathlib.Omega.{arith}
use lib.Dec.{ltb}
use lib.ListN.{length, get_or, set, take, drop, length-append, length-reverse, length-take, length-drop, drop_of_length-le, get_or-append}
use lib.Seq.{drop-cons, get_or-append-add, get_or-take, get_or-drop, length-take-le}
use borrow.Author.Tests.{ltb-true, ltb-false}
use Rattle.magnetar_field.specs.Gf128.{◌⊕◌, ◌⊗◌}
use Rattle.magnetar_field.specs.Tabulate.{tabulate}
use Rattle.magnetar_multilinear.specs.Multilinear.{insert_zero}
use Rattle.magnetar_field.specs.Words.{elements, words}
use Rattle.magnetar_field.proofs.Elements.{elements-length, rejoin}
use Rattle.magnetar_field.proofs.Making.{Made, made-get, made_more}
use Rattle.magnetar_multilinear.proofs.Bound.{place-ge}
use Rattle.magnetar_sumcheck_verifier.specs.Order.{at₀, at₁, slope, point, place_of, eq_points}
use Rattle.magnetar_sumcheck_verifier.specs.Outer.{drop_var}
use Rattle.magnetar_sumcheck_prover.specs.Entries.{is_table, drop_refusal, drop_out}

-- ---- the table in place
pub dropped-more : (v i lo hi : ℕ) (t₀ t : List ℕ) → Made (slope v t₀) t₀ t i → i < length t₀ → lo ≡ insert_zero v i → hi
    ≡ insert_zero v i + 2 ^ v
    → Made (slope v t₀) t₀ (set t i (get_or t lo 0 ⊕ get_or t hi 0)) (i + 1)
dropped-more v i lo hi t₀ t m h l k = made_more (slope v t₀) t₀ t i (get_or t lo 0 ⊕ get_or t hi 0) m h
    (ap₂ ◌⊕◌ (made-get (slope v t₀) t₀ t i lo 0 m (rw l (low-ge i v)) ∙ ap (λ (j : ℕ). get_or t₀ j 0) l)
    (made-get (slope v t₀) t₀ t i hi 0 m (rw k (later i (insert_zero v i) (2 ^ v) (low-ge i v))) ∙ ap (λ (j : ℕ). get_or t₀ j 0) k)
    ∙ folded)
  where
    low-ge : (i v : ℕ) → i ≤ insert_zero v i
    low-ge i v = unfold insert_zero in place-ge i (2 ^ v)

    later : (i k b : ℕ) → i ≤ k → i ≤ k + b
    later i k b h = omega arith

    folded : get_or t₀ (insert_zero v i) 0 ⊕ get_or t₀ (insert_zero v i + 2 ^ v) 0 ≡ slope v t₀ i
    folded = unfold slope at₀ at₁ in refl

-- the words of a table whose first half is made
pub drop-out : (v : ℕ) (t last : List ℕ) → 4 * (length t / 4) ≡ length t → is_table v (length t) ≡ true → length last ≡ length t
    → ((i : ℕ) → get_or t i 0 < 2 ^ 64) → ((i : ℕ) → get_or last i 0 < 2 ^ 64)
    → elements last ≡ tabulate (slope v (elements t)) (length t / 4) ++ drop (length t / 4) (elements t) → last ≡ drop_out t v
unfolding drop_refusal drop_var
drop-out v t last q table same fit fit' e = rw table
    (rejoin t last (tabulate (slope v (elements t)) (length t / 4)) (length t / 4) (omega arith) same fit fit' e
    ∙ ap₂ (λ (n k : ℕ). words (tabulate (slope v (elements t)) n) ++ drop k t) pairs half)
  where
    pairs : length t / 4 ≡ length (elements t) / 2
    pairs = omega (arith, elements-length t)

    half : 2 * (length t / 4) ≡ length t / 2
    half = omega arith

-- ---- the point
get_d_reverse : (l : List ℕ) (i : ℕ) → i < length l → get_or (reverse l) i 0 ≡ get_or l (length l - 1 - i) 0
get_d_reverse [] i h = absurd (omega arith)
get_d_reverse (x ∷ l) i h = ap (λ (t : List ℕ). get_or t i 0) (reverse-cons x l) ∙ go (ltb i (length l)) refl (get_d_reverse l i)
  where
    go : (b : Bool) → ltb i (length l) ≡ b → (i < length l → get_or (reverse l) i 0 ≡ get_or l (length l - 1 - i) 0)
        → get_or (reverse l ++ (x ∷ [])) i 0 ≡ get_or (x ∷ l) (suc (length l) - 1 - i) 0
    go true e ih = get_or-append (reverse l) (x ∷ []) 0 i (rw length-reverse (ltb-true i (length l) e)) ∙ ih (ltb-true i (length l) e)
        ∙ ap (λ (k : ℕ). get_or (x ∷ l) k 0) (next (ltb-true i (length l) e))
      where
        next : i < length l → suc (length l - 1 - i) ≡ suc (length l) - 1 - i
        next h = omega arith
    go false e ih = ap (λ (k : ℕ). get_or (reverse l ++ (x ∷ [])) k 0) (at (ltb-false i (length l) e))
        ∙ get_or-append-add (reverse l) (x ∷ []) 0 0 ∙ ap (λ (k : ℕ). get_or (x ∷ l) k 0) (none (ltb-false i (length l) e))
      where
        at : length l ≤ i → i ≡ length (reverse l) + 0
        at k = omega (arith, length-reverse l)

        none : length l ≤ i → 0 ≡ suc (length l) - 1 - i
        none k = omega arith

pub point_at : (s n j : ℕ) (cs : List ℕ) → length cs ≡ n → s ≤ n → j < n → get_or (point s cs) j 0 ≡ get_or cs (place_of s n j) 0
unfolding point place_of
point_at s n j cs l h k = go (ltb j (n - s)) refl
  where
    low : length (drop s cs) ≡ n - s
    low = length-drop s cs ∙ ap (λ (m : ℕ). m - s) l

    high : length (take s cs) ≡ s
    high = length-take-le s cs (omega arith)

    go : (b : Bool) → ltb j (n - s) ≡ b → get_or (drop s cs ++ reverse (take s cs)) j 0 ≡ get_or cs (cond b (s + j) (n - 1 - j)) 0
    go true e = get_or-append (drop s cs) (reverse (take s cs)) 0 j (rw low (ltb-true j (n - s) e)) ∙ get_or-drop s cs j 0
    go false e = ap (λ (m : ℕ). get_or (drop s cs ++ reverse (take s cs)) m 0) (split (ltb-false j (n - s) e))
        ∙ get_or-append-add (drop s cs) (reverse (take s cs)) (j - (n - s)) 0
        ∙ get_d_reverse (take s cs) (j - (n - s)) (rw high (less (ltb-false j (n - s) e)))
        ∙ get_or-take s cs (length (take s cs) - 1 - (j - (n - s))) 0 (rw high (small (ltb-false j (n - s) e)))
        ∙ ap (λ (m : ℕ). get_or cs m 0) (ap (λ (m : ℕ). m - 1 - (j - (n - s))) high ∙ same (ltb-false j (n - s) e))
      where
        split : n - s ≤ j → j ≡ length (drop s cs) + (j - (n - s))
        split q = omega (arith, low)

        less : n - s ≤ j → j - (n - s) < s
        less q = omega arith

        small : n - s ≤ j → s - 1 - (j - (n - s)) < s
        small q = omega arith

        same : n - s ≤ j → s - 1 - (j - (n - s)) ≡ n - 1 - j
        same q = omega arith

pub length-point : (s : ℕ) (cs : List ℕ) → length (point s cs) ≡ length cs
unfolding point
length-point s cs = length-append (drop s cs) (reverse (take s cs))
    ∙ omega (arith, length-drop s cs, length-reverse (take s cs), length-take s cs)

-- ---- the product from factor j on
pub record Multiplied (ps qs : List ℕ) (j acc : ℕ) : Type 0 where
  pub within : j ≤ length ps
  pub is : acc ≡ eq_points (drop j ps) (drop j qs)

pub multiplied-start : (ps qs : List ℕ) (n : ℕ) → n ≡ length ps → Multiplied ps qs n 1
unfolding eq_points
multiplied-start ps qs n e = record {
  within = omega arith;
  is = ap (λ (l : List ℕ). eq_points l (drop n qs))
      (sym (drop_of_length-le ps {i = n} (omega arith)));
}

pub multiplied-more : (ps qs : List ℕ) (j acc p q y : ℕ) → Multiplied ps qs j acc → length qs ≡ length ps → 0 < j → p ≡ get_or ps (j - 1) 0
    → q ≡ get_or qs (j - 1) 0 → y ≡ (1 ⊕ p ⊕ q) ⊗ acc → Multiplied ps qs (j - 1) y
unfolding eq_points
multiplied-more ps qs j acc p q y m l h a b e = record {
  within = omega (arith, m.within);
  is = e ∙ (λ i. (1 ⊕ a i ⊕ b i) ⊗ m.is i) ∙ sym (ap₂ eq_points (next ps (omega (arith, m.within))) (next qs (omega (arith, m.within))));
}
  where
    next : (t : List ℕ) → j - 1 < length t → drop (j - 1) t ≡ get_or t (j - 1) 0 ∷ drop j t
    next t r = drop-cons t (j - 1) 0 r ∙ ap (λ (k : ℕ). get_or t (j - 1) 0 ∷ drop k t) back
      where
        back : suc (j - 1) ≡ j
        back = omega (arith, h)

pub multiplied-end : (ps qs : List ℕ) (j acc : ℕ) → Multiplied ps qs j acc → j ≤ 0 → acc ≡ eq_points ps qs
multiplied-end ps qs zero acc m h = m.is
multiplied-end ps qs (suc j) acc m h = absurd (omega arith)
