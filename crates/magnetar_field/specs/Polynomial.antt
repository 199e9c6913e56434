-- Polynomials over GF(2^128) in one variable, as lists of coefficients, that of 1 first; and their roots, as a list.
-- Source: document 01, "The run" (a message is a polynomial; a list holds roots).
-- Assumes nothing.
use Rattle.std.specs.Prelude.{◌≡◌, ℕ, zero, suc, ◌^◌, List, [], ◌∷◌}
use Rattle.std.proofs.Math.Decide.{ℕ_discrete}
use Rattle.magnetar_field.specs.Gf128.{◌⊕◌, ◌⊗◌}

-- the value at r, by Horner's rule
unfoldable pub eval : List ℕ → ℕ → ℕ
eval [] r = 0
eval (c ∷ cs) r = c ⊕ r ⊗ eval cs r

-- every coefficient is 0
abbrev pub AllZero : List ℕ → Type 0
AllZero [] = Unit {0}
AllZero (c ∷ cs) = (c ≡ 0) × AllZero cs

-- n before l, where the answer is yes
unfoldable pub keep : {A : Type 0} → Dec A → ℕ → List ℕ → List ℕ
keep (yes p) n l = n ∷ l
keep (no p) n l = l

-- the roots below n
unfoldable pub roots_below : List ℕ → ℕ → List ℕ
roots_below cs zero = []
roots_below cs (suc n) = keep (ℕ_discrete (eval cs n) 0) n (roots_below cs n)

-- the roots among all elements
unfoldable pub roots : List ℕ → List ℕ
roots cs = roots_below cs (2 ^ 128)
