-- The roots of a polynomial over K, as a list.
-- Assumes nothing.
use Rattle.std.proofs.Common.{◌≡◌, ℕ, zero, suc, ◌^◌, ◌<◌, ◌≢◌, ◌⊎◌, List, [], ◌∷◌, length, subst, inl, inr, le_refl, le_of_suc-le-suc, not-suc-le-zero, eq-or-lt_of_le, lt_of_not-le, ne_of_lt}
use mathlib.Core.List.{Memᴰ}
use native.Mathlib.Nat.{le_step}
use native.Mathlib.Decide.{ℕ_discrete}
use Rattle.magnetar_field.specs.Gf128.{◌⊕◌}
use Rattle.magnetar_field.specs.Polynomial.{eval, AllZero, keep, roots_below, roots}
use Rattle.magnetar_field.proofs.Polynomial.{AllBelow, AllRoots, Apart, AllApart, all-zero}
use Rattle.magnetar_field.proofs.Inverse.{invertible}
use Rattle.magnetar_field.proofs.Xor.{⊕-lt, eq-of-⊕}

-- ---- different roots are fewer than the coefficients
abbrev pub Away : ℕ → List ℕ → Type 0
Away s [] = Unit {0}
Away s (r ∷ rs) = (r ≢ s) × Away s rs

abbrev pub Distinct : List ℕ → Type 0
Distinct [] = Unit {0}
Distinct (r ∷ rs) = Away r rs × Distinct rs

away-apart : (s : ℕ) (rs : List ℕ) → s < 2 ^ 128 → AllBelow (2 ^ 128) rs → Away s rs → Apart s rs
away-apart s [] h b d = tt
away-apart s (r ∷ rs) h b d =
    (invertible (r ⊕ s) (⊕-lt 128 r s b.0 h) (λ e. d.0 (eq-of-⊕ e)), away-apart s rs h b.1 d.1)

distinct_apart : (rs : List ℕ) → AllBelow (2 ^ 128) rs → Distinct rs → AllApart rs
distinct_apart [] b d = tt
distinct_apart (r ∷ rs) b d = (away-apart r rs b.0 b.1 d.0, distinct_apart rs b.1 d.1)

pub distinct-few : (cs rs : List ℕ) → AllBelow (2 ^ 128) cs → ¬ (AllZero cs) → AllBelow (2 ^ 128) rs → Distinct rs → AllRoots cs rs
    → length rs < length cs
distinct-few cs rs h n b d e = lt_of_not-le (λ l. n (all-zero rs cs h (distinct_apart rs b d) e l))

-- ---- the list of all roots

below_suc : (n : ℕ) (l : List ℕ) → AllBelow n l → AllBelow (suc n) l
below_suc n [] h = tt
below_suc n (x ∷ l) h = (le_step h.0, below_suc n l h.1)

keep-below : {A : Type 0} (d : Dec A) (n : ℕ) (l : List ℕ) → AllBelow n l → AllBelow (suc n) (keep d n l)
unfolding keep
keep-below (yes p) n l h = (le_refl (suc n), below_suc n l h)
keep-below (no p) n l h = below_suc n l h

roots-below : (cs : List ℕ) (n : ℕ) → AllBelow n (roots_below cs n)
unfolding roots_below
roots-below cs zero = tt
roots-below cs (suc n) = keep-below (ℕ_discrete (eval cs n) 0) n (roots_below cs n) (roots-below cs n)

away : (n : ℕ) (l : List ℕ) → AllBelow n l → Away n l
away n [] b = tt
away n (x ∷ l) b = (ne_of_lt b.0, away n l b.1)

keep-distinct : {A : Type 0} (d : Dec A) (n : ℕ) (l : List ℕ) → AllBelow n l → Distinct l → Distinct (keep d n l)
unfolding keep
keep-distinct (yes p) n l b e = (away n l b, e)
keep-distinct (no p) n l b e = e

roots-distinct : (cs : List ℕ) (n : ℕ) → Distinct (roots_below cs n)
unfolding roots_below
roots-distinct cs zero = tt
roots-distinct cs (suc n) = keep-distinct (ℕ_discrete (eval cs n) 0) n (roots_below cs n) (roots-below cs n) (roots-distinct cs n)

keep-roots : (cs : List ℕ) (n : ℕ) (d : Dec (eval cs n ≡ 0)) (l : List ℕ) → AllRoots cs l → AllRoots cs (keep d n l)
unfolding keep
keep-roots cs n (yes p) l h = (p, h)
keep-roots cs n (no p) l h = h

roots-roots : (cs : List ℕ) (n : ℕ) → AllRoots cs (roots_below cs n)
unfolding roots_below
roots-roots cs zero = tt
roots-roots cs (suc n) = keep-roots cs n (ℕ_discrete (eval cs n) 0) (roots_below cs n) (roots-roots cs n)

keep-old : {A : Type 0} (d : Dec A) (n r : ℕ) (l : List ℕ) → Memᴰ r l → Memᴰ r (keep d n l)
unfolding keep
keep-old (yes p) n r l m = Memᴰ.tail m
keep-old (no p) n r l m = m

keep-new : {A : Type 0} (d : Dec A) (n r : ℕ) (l : List ℕ) → A → r ≡ n → Memᴰ r (keep d n l)
unfolding keep
keep-new (yes p) n r l a e = Memᴰ.head e
keep-new (no p) n r l a e = absurd (p a)

roots-mem : (cs : List ℕ) (n r : ℕ) → r < n → eval cs r ≡ 0 → Memᴰ r (roots_below cs n)
unfolding roots_below
roots-mem cs zero r h e = absurd (not-suc-le-zero h)
roots-mem cs (suc n) r h e = go (λ k. roots-mem cs n r k e) (eq-or-lt_of_le (le_of_suc-le-suc h))
  where
    go : (r < n → Memᴰ r (roots_below cs n)) → (r ≡ n) ⊎ (r < n) → Memᴰ r (keep (ℕ_discrete (eval cs n) 0) n (roots_below cs n))
    go ih (inl p) = keep-new (ℕ_discrete (eval cs n) 0) n r (roots_below cs n) (subst (λ (x : ℕ). eval cs x ≡ 0) p e) p
    go ih (inr k) = keep-old (ℕ_discrete (eval cs n) 0) n r (roots_below cs n) (ih k)

-- each root is in the list
pub root_in : (cs : List ℕ) (r : ℕ) → r < 2 ^ 128 → eval cs r ≡ 0 → Memᴰ r (roots cs)
unfolding roots
root_in cs r h e = roots-mem cs (2 ^ 128) r h e

-- and the list is shorter than the list of coefficients
pub roots_few : (cs : List ℕ) → AllBelow (2 ^ 128) cs → ¬ (AllZero cs) → length (roots cs) < length cs
unfolding roots
roots_few cs h n =
    distinct-few cs (roots_below cs (2 ^ 128)) h n (roots-below cs (2 ^ 128)) (roots-distinct cs (2 ^ 128)) (roots-roots cs (2 ^ 128))
