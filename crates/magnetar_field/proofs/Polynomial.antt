-- Polynomials over K, as lists of coefficients, that of 1 first. One that is not 0 has fewer roots than coefficients.
-- Assumes nothing.
use Rattle.std.proofs.Common.{◌≡◌, ℕ, suc, ◌^◌, ◌<◌, ◌≤◌, List, [], ◌∷◌, length, sym, refl, ap, ◌∙◌, ap₂, le_of_suc-le-suc, not-suc-le-zero, pow_pos}
use Rattle.magnetar_field.specs.Gf128.{◌⊕◌, ◌⊗◌}
use Rattle.magnetar_field.specs.Polynomial.{eval, AllZero}
use Rattle.magnetar_field.proofs.Xor.{xor, ⊕-self, ⊕-zero, ⊕-lt}
use Rattle.magnetar_field.proofs.Product.{⊗-assoc, one-⊗, ⊗-lt, ⊗-zero, ⊗-⊕, ⊕-⊗, ⊗-left-comm}

abbrev pub AllBelow : ℕ → List ℕ → Type 0
AllBelow n [] = Unit {0}
AllBelow n (c ∷ cs) = (c < n) × AllBelow n cs

abbrev pub AllRoots : List ℕ → List ℕ → Type 0
AllRoots cs [] = Unit {0}
AllRoots cs (r ∷ rs) = (eval cs r ≡ 0) × AllRoots cs rs

abbrev pub Invertible : ℕ → Type 0
Invertible d = (v : ℕ) × (v ⊗ d ≡ 1)

-- s differs from each of rs by an invertible element
abbrev pub Apart : ℕ → List ℕ → Type 0
Apart s [] = Unit {0}
Apart s (r ∷ rs) = Invertible (r ⊕ s) × Apart s rs

abbrev pub AllApart : List ℕ → Type 0
AllApart [] = Unit {0}
AllApart (r ∷ rs) = Apart r rs × AllApart rs

pub cancel-zero : (d b : ℕ) → b < 2 ^ 128 → Invertible d → d ⊗ b ≡ 0 → b ≡ 0
cancel-zero d b hb (v, p) e =
    sym (one-⊗ b hb) ∙ ap (λ (x : ℕ). x ⊗ b) (sym p) ∙ ⊗-assoc v d b ∙ ap (λ (x : ℕ). v ⊗ x) e ∙ ⊗-zero v

pub eval-lt : (cs : List ℕ) (r : ℕ) → AllBelow (2 ^ 128) cs → eval cs r < 2 ^ 128
unfolding eval
eval-lt [] r h = pow_pos 128
eval-lt (c ∷ cs) r h = ⊕-lt 128 c (r ⊗ eval cs r) h.0 (⊗-lt r (eval cs r))

eval-zero : (cs : List ℕ) (r : ℕ) → AllZero cs → eval cs r ≡ 0
unfolding eval
eval-zero [] r h = refl
eval-zero (c ∷ cs) r h = ap₂ (λ (x y : ℕ). x ⊕ r ⊗ y) h.0 (eval-zero cs r h.1) ∙ ap (λ (x : ℕ). 0 ⊕ x) (⊗-zero r) ∙ ⊕-self 0

-- (c + X p) divided by X - s, for p with the coefficients cs; the rest is its value at s
quot : List ℕ → ℕ → List ℕ
quot [] s = []
quot (c ∷ cs) s = eval (c ∷ cs) s ∷ quot cs s

quot-length : (cs : List ℕ) (s : ℕ) → length (quot cs s) ≡ length cs
unfolding quot
quot-length [] s = refl
quot-length (c ∷ cs) s = ap suc (quot-length cs s)

quot_below : (cs : List ℕ) (s : ℕ) → AllBelow (2 ^ 128) cs → AllBelow (2 ^ 128) (quot cs s)
unfolding quot
quot_below [] s h = tt
quot_below (c ∷ cs) s h = (eval-lt (c ∷ cs) s h, quot_below cs s h.1)

quot-step : (c r s u v w : ℕ) → r ⊗ u ⊕ s ⊗ v ≡ (r ⊕ s) ⊗ w
    → r ⊗ (c ⊕ r ⊗ u) ⊕ s ⊗ (c ⊕ s ⊗ v) ≡ (r ⊕ s) ⊗ (c ⊕ s ⊗ v ⊕ r ⊗ w)
quot-step c r s u v w e =
    let open_up : r ⊗ (c ⊕ r ⊗ u) ⊕ s ⊗ (c ⊕ s ⊗ v) ≡ (r ⊕ s) ⊗ (c ⊕ s ⊗ v) ⊕ r ⊗ (r ⊗ u ⊕ s ⊗ v) = simp (⊗-⊕, ⊕-⊗, xor) in
    open_up
    ∙ sym (⊗-⊕ (r ⊕ s) (c ⊕ s ⊗ v) (r ⊗ w)
    ∙ ap (λ (x : ℕ). (r ⊕ s) ⊗ (c ⊕ s ⊗ v) ⊕ x) (⊗-left-comm (r ⊕ s) r w ∙ ap (λ (x : ℕ). r ⊗ x) (sym e)))

quot-eval : (cs : List ℕ) (r s : ℕ) → r ⊗ eval cs r ⊕ s ⊗ eval cs s ≡ (r ⊕ s) ⊗ eval (quot cs s) r
unfolding quot eval
quot-eval [] r s = simp (⊗-zero, ⊕-self)
quot-eval (c ∷ cs) r s = quot-step c r s (eval cs r) (eval cs s) (eval (quot cs s) r) (quot-eval cs r s)

-- the value at r, less that at s, is r - s times the quotient's
eval-diff : (c : ℕ) (cs : List ℕ) (r s : ℕ) → eval (c ∷ cs) r ⊕ eval (c ∷ cs) s ≡ (r ⊕ s) ⊗ eval (quot cs s) r
unfolding eval
eval-diff c cs r s = simp xor (quot-eval cs r s)

-- so another root, apart from the first, is a root of the quotient
quot-root : (c : ℕ) (cs : List ℕ) (r s : ℕ) → AllBelow (2 ^ 128) cs → Invertible (r ⊕ s)
    → eval (c ∷ cs) s ≡ 0 → eval (c ∷ cs) r ≡ 0 → eval (quot cs s) r ≡ 0
quot-root c cs r s h n es er =
    cancel-zero (r ⊕ s) (eval (quot cs s) r) (eval-lt (quot cs s) r (quot_below cs s h)) n
    (sym (eval-diff c cs r s) ∙ ap₂ ◌⊕◌ er es ∙ ⊕-self 0)

quot-roots : (c : ℕ) (cs : List ℕ) (s : ℕ) (rs : List ℕ) → AllBelow (2 ^ 128) cs → Apart s rs
    → eval (c ∷ cs) s ≡ 0 → AllRoots (c ∷ cs) rs → AllRoots (quot cs s) rs
quot-roots c cs s [] h n es er = tt
quot-roots c cs s (r ∷ rs) h n es er = (quot-root c cs r s h n.0 es er.0, quot-roots c cs s rs h n.1 es er.1)

head-zero : (c : ℕ) (cs : List ℕ) (r : ℕ) → eval (c ∷ cs) r ≡ 0 → AllZero cs → c ≡ 0
unfolding eval
head-zero c cs r e h =
    sym (⊕-zero c) ∙ ap (λ (x : ℕ). c ⊕ x) (sym (⊗-zero r)) ∙ ap (λ (x : ℕ). c ⊕ r ⊗ x) (sym (eval-zero cs r h)) ∙ e

quot-zero : (cs : List ℕ) (s : ℕ) → AllZero (quot cs s) → AllZero cs
unfolding quot
quot-zero [] s h = tt
quot-zero (c ∷ cs) s h = (head-zero c cs s h.0 (quot-zero cs s h.1), quot-zero cs s h.1)

-- as many roots, apart from one another, as coefficients: each coefficient is 0
pub all-zero : (rs cs : List ℕ) → AllBelow (2 ^ 128) cs → AllApart rs → AllRoots cs rs → length cs ≤ length rs → AllZero cs
all-zero [] [] hc d e l = tt
all-zero (r ∷ rs) [] hc d e l = tt
all-zero [] (c ∷ cs) hc d e l = absurd (not-suc-le-zero l)
all-zero (r ∷ rs) (c ∷ cs) hc d e l =
    let zs : AllZero cs = quot-zero cs r (all-zero rs (quot cs r) (quot_below cs r hc.1) d.1
    (quot-roots c cs r rs hc.1 d.0 e.0 e.1) (rw quot-length (le_of_suc-le-suc l))) in
    (head-zero c cs r e.0 zs, zs)
