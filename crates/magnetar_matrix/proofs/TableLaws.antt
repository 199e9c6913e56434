-- Tables as lists of values, tables in words, and sums that are added to them.
-- Assumes nothing.
use mathlib.Core.Path.{◌≡◌, refl, sym, ap, ◌∙◌}
use mathlib.Core.List.{List, [], ◌∷◌, ◌++◌, append-nil}
use Prim.Native.Nat.{ℕ, zero, suc, ◌+◌, ◌-◌, ◌*◌, ◌/◌, ◌%◌, ◌^◌, ◌≤◌, ◌<◌}
use native.Mathlib.Numerals.{sub-one}
use native.Mathlib.Omega.{arith}
use borrow.Author.Tests.{lt-ltb, le-ltb}
use lib.ListN.{length, get_or, take, drop, replicate, length-set, length-replicate, get_or-replicate}
use lib.Seq.{set-get_or, get_or-set_same, get_or-set_other, length-take-le}
use lib.Pow.{split}
use Rattle.magnetar_field.specs.Gf128.{◌⊕◌, ◌⊗◌}
use Rattle.magnetar_field.specs.Tabulate.{tabulate}
use Rattle.magnetar_field.specs.Words.{elements, words}
use Rattle.magnetar_field.proofs.Xor.{⊕-zero, zero-⊕, ⊕-assoc}
use Rattle.magnetar_field.proofs.Elements.{words-elements, elements-stored}
use Rattle.magnetar_field.proofs.Tabulation.{tabulate-length, tabulate-get, tabulate-of}
use Rattle.magnetar_field.proofs.Product.{⊗-one}
use Rattle.magnetar_matrix.specs.Packed.{packed_bit}
use Rattle.magnetar_matrix.specs.Lent.{entry}
use Rattle.magnetar_matrix.specs.Table.{added_in, added_at, raised, public_share, bit_share}

-- ---- words
two-suc : (i : ℕ) → 2 * suc i ≡ suc (suc (2 * i))
two-suc i = omega arith

pub elements-zero : (n : ℕ) → elements (replicate (2 * n) 0) ≡ replicate n 0
unfolding elements
elements-zero zero = refl
elements-zero (suc n) = rw two-suc (ap (λ (l : List ℕ). 0 ∷ l) (elements-zero n))

pub elements-words : (vs : List ℕ) → elements (words vs) ≡ vs
unfolding elements words
elements-words [] = refl
elements-words (v ∷ vs) = rw (split v 64, elements-words vs)

pub elements-append : (vs ws : List ℕ) → elements (words vs ++ words ws) ≡ vs ++ ws
unfolding elements words
elements-append [] ws = elements-words ws
elements-append (v ∷ vs) ws = rw (split v 64, elements-append vs ws)

-- ---- amounts added
pub added-in : (s : List ℕ) (k v : ℕ) → elements (added_in s k v) ≡ added_at (elements s) k v
unfolding added_in added_at
added-in s k v = elements-stored s k (get_or (elements s) k 0 ⊕ v)

pub added-length : (t : List ℕ) (k v : ℕ) → length (added_at t k v) ≡ length t
unfolding added_at
added-length t k v = length-set t k (get_or t k 0 ⊕ v)

pub added-zero : (t : List ℕ) (k : ℕ) → added_at t k 0 ≡ t
unfolding added_at
added-zero t k = rw ⊕-zero (set-get_or t k 0)

pub added-here : (t : List ℕ) (k v : ℕ) → k < length t → get_or (added_at t k v) k 0 ≡ get_or t k 0 ⊕ v
unfolding added_at
added-here t k v h = get_or-set_same t k (get_or t k 0 ⊕ v) 0 h

pub added-there : (t : List ℕ) (k v i : ℕ) → (i ≡ k → ⊥) → get_or (added_at t k v) i 0 ≡ get_or t i 0
unfolding added_at
added-there t k v i h = get_or-set_other t k i (get_or t k 0 ⊕ v) 0 h

pub raised-length : (f : ℕ → ℕ) (t : List ℕ) → length (raised f t) ≡ length t
unfolding raised
raised-length f t = tabulate-length (λ i. get_or t i 0 ⊕ f i) (length t)

pub raised-get : (f : ℕ → ℕ) (t : List ℕ) (i : ℕ) → i < length t → get_or (raised f t) i 0 ≡ get_or t i 0 ⊕ f i
unfolding raised
raised-get f t i h = tabulate-get (λ i. get_or t i 0 ⊕ f i) (length t) i 0 h

pub raised_is : (f : ℕ → ℕ) (t u : List ℕ) → length u ≡ length t → ((i : ℕ) → i < length t → get_or u i 0 ≡ get_or t i 0 ⊕ f i) → u ≡ raised f t
unfolding raised
raised_is f t u l h = tabulate-of u (λ i. get_or t i 0 ⊕ f i) (length t) 0 l h

pub raised-ext : (f g : ℕ → ℕ) (t : List ℕ) → ((i : ℕ) → f i ≡ g i) → raised f t ≡ raised g t
raised-ext f g t h = raised_is g t (raised f t) (raised-length f t) (λ i b. raised-get f t i b ∙ rw (h i))

-- from 0 on
pub raised-zeros : (f : ℕ → ℕ) (n : ℕ) → raised f (replicate n 0) ≡ tabulate f n
raised-zeros f n =
    tabulate-of (raised f (replicate n 0)) f n 0 (raised-length f (replicate n 0) ∙ length-replicate n 0)
    (λ i h. raised-get f (replicate n 0) i (rw length-replicate h) ∙ rw (get_or-replicate {A = ℕ} n i 0 0 h) (zero-⊕ (f i)))

-- one after the other
pub raised-twice : (f g : ℕ → ℕ) (t : List ℕ) → raised g (raised f t) ≡ raised (λ i. f i ⊕ g i) t
raised-twice f g t =
    raised_is (λ i. f i ⊕ g i) t (raised g (raised f t)) (raised-length g (raised f t) ∙ raised-length f t)
    (λ i h. raised-get g (raised f t) i (rw raised-length h) ∙ rw (raised-get f t i h) (⊕-assoc (get_or t i 0) (f i) (g i)))

-- words that were cleared, and to which f was then added
pub cleared-raised : (f : ℕ → ℕ) (s₀ s t : List ℕ) → length s₀ % 2 ≡ 0 → length t ≡ length s₀ → s ≡ replicate (length s₀) 0
    → elements t ≡ raised f (elements s) → ((i : ℕ) → get_or t i 0 < 2 ^ 64) → t ≡ words (tabulate f (length s₀ / 2))
cleared-raised f s₀ s t even same cleared sum fit =
    let n : length s₀ ≡ 2 * (length s₀ / 2) = omega arith in
    let z : elements s ≡ replicate (length s₀ / 2) 0 = ap elements cleared ∙ (ap (λ (k : ℕ). elements (replicate k 0)) n ∙ elements-zero (length s₀ / 2)) in
    sym (words-elements t [] (omega arith) (rw append-nil fit)) ∙ ap words (sum ∙ rw z (raised-zeros f (length s₀ / 2)))

-- a table in front of the rest of what was lent
pub in-front : (f : ℕ → ℕ) (n : ℕ) (out t : List ℕ) → 2 * n ≤ length out → t ≡ words (tabulate f (length (take (2 * n) out) / 2))
    → t ++ drop (2 * n) out ≡ words (tabulate f n) ++ drop (2 * n) out
in-front f n out t h e =
    let l : length (take (2 * n) out) ≡ 2 * n = length-take-le (2 * n) out h in
    let k : length (take (2 * n) out) / 2 ≡ n = omega arith in
    rw (e, k)

-- ---- the share of an entry, by its column
module _ (w : ℕ) (x : List ℕ) (r c l h : ℕ) where
  pub public-one : c ≡ w → h * 2 ^ 64 + l < 2 ^ 128 → h * 2 ^ 64 + l ≡ public_share w x (entry r c l h)
  unfolding public_share
  public-one e b =
      let z : c - w ≡ 0 = omega arith in
      rw (le-ltb c w (omega arith), z) (sym (⊗-one (h * 2 ^ 64 + l) b))

  pub public-x : w < c → (h * 2 ^ 64 + l) ⊗ get_or x (c - w - 1) 0 ≡ public_share w x (entry r c l h)
  unfolding public_share
  public-x b =
      let z : c - w ≡ suc (c - w - 1) = omega arith in
      rw (le-ltb c w (omega arith), z, sub-one)

  pub public-none : c < w → 0 ≡ public_share w x (entry r c l h)
  unfolding public_share
  public-none b = rw (lt-ltb c w b)

  pub bit-some : c < w → (h * 2 ^ 64 + l) ⊗ packed_bit x c ≡ bit_share w x (entry r c l h)
  unfolding bit_share
  bit-some b = rw (lt-ltb c w b)

  pub bit-none : w ≤ c → 0 ≡ bit_share w x (entry r c l h)
  unfolding bit_share
  bit-none b = rw (le-ltb c w b)
