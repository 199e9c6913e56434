-- A table in front of other words: cleared, read, and with the amounts of entries added at their rows.
-- Assumes nothing.
use mathlib.Core.Path.{◌≡◌, refl, sym, ap, ◌∙◌}
use mathlib.Core.List.{List, [], ◌∷◌, ◌++◌}
use Prim.Native.Nat.{ℕ, ◌*◌, ◌^◌, ◌<◌, ◌≤◌}
use native.Mathlib.Omega.{arith}
use lib.ListN.{length, get_or, take, drop, replicate, length-append, length-replicate}
use lib.Seq.{take_at, drop_at, length-take-le}
use borrow.Author.Tests.{le-leb}
use Rattle.magnetar_field.specs.Gf128.{◌⊕◌}
use Rattle.magnetar_field.specs.Words.{elements, words}
use Rattle.magnetar_field.specs.Tabulate.{tabulate}
use Rattle.magnetar_field.proofs.Elements.{words-length, words-zero, words-elements}
use Rattle.magnetar_field.proofs.Xor.{⊕-zero, ⊕-assoc}
use Rattle.magnetar_matrix.specs.Matrix as matrix
use Rattle.magnetar_matrix.specs.Matrix.{row_total, sum_over}
use Rattle.magnetar_matrix.specs.Table.{added_at, raised}
use Rattle.magnetar_matrix.proofs.TableLaws.{elements-words, added-length, raised-length, raised-get, raised_is, raised-zeros}
use Rattle.magnetar_matrix.proofs.Walked.{walked_start, walked_more, walked_end}
use Rattle.magnetar_relation.specs.Steps.{cleared_to, added_to, added_all}

-- ---- the walk that adds
pub added_more : (n : ℕ) (f : matrix.Entry → ℕ) (e : matrix.Entry) (es : List matrix.Entry) (out out' : List ℕ) → out' ≡ added_to n e.row (f e) out
    → added_all n f es out' ≡ added_all n f (e ∷ es) out
unfolding added_all
added_more n f e es out out' q = ap (added_all n f es) q

pub added-end : (n : ℕ) (f : matrix.Entry → ℕ) (out : List ℕ) → out ≡ added_all n f [] out
unfolding added_all
added-end n f out = refl

-- words of which the first were cleared, or changed in one element
pub cleared-words : (n : ℕ) (out t : List ℕ) → 2 * n ≤ length out → t ≡ replicate (length (take (2 * n) out)) 0 → t ++ drop (2 * n) out ≡ cleared_to n out
unfolding cleared_to
cleared-words n out t h e = rw (le-leb _ _ h, e, length-take-le (2 * n) out h)

pub added-words : (n k v : ℕ) (out t : List ℕ) → 2 * n ≤ length out
    → length t ≡ length (take (2 * n) out) → elements t ≡ added_at (elements (take (2 * n) out)) k v
    → ((i : ℕ) → get_or (t ++ drop (2 * n) out) i 0 < 2 ^ 64) → t ++ drop (2 * n) out ≡ added_to n k v out
unfolding added_to
added-words n k v out t h same e fit =
    let l : length (take (2 * n) out) ≡ 2 * n = length-take-le (2 * n) out h in
    let w : words (elements t) ≡ t = words-elements t (drop (2 * n) out) (omega arith) fit in
    rw (le-leb _ _ h, ← e, w)

-- a table in front of other words is cleared
pub front-cleared : (n : ℕ) (t r : List ℕ) → length t ≡ n → cleared_to n (words t ++ r) ≡ replicate (2 * n) 0 ++ r
unfolding cleared_to
front-cleared n t r l =
    let w : length (words t) ≡ 2 * n = words-length t ∙ ap (λ (i : ℕ). 2 * i) l in
    let b : 2 * n ≤ length (words t ++ r) = rw length-append (omega (arith, w)) in
    rw (le-leb _ _ b, drop_at (words t) r (2 * n) w)

-- and read
pub front_read : (n : ℕ) (t r : List ℕ) → length t ≡ n → elements (take (2 * n) (words t ++ r)) ≡ t
front_read n t r l =
    let w : length (words t) ≡ 2 * n = words-length t ∙ ap (λ (i : ℕ). 2 * i) l in
    rw (take_at (words t) r (2 * n) w, elements-words t)

-- one entry, on a table in front of other words
pub one-added : (n k v : ℕ) (t r : List ℕ) → length t ≡ n → added_to n k v (words t ++ r) ≡ words (added_at t k v) ++ r
unfolding added_to
one-added n k v t r l =
    let w : length (words t) ≡ 2 * n = words-length t ∙ ap (λ (i : ℕ). 2 * i) l in
    let b : 2 * n ≤ length (words t ++ r) = rw length-append (omega (arith, w)) in
    rw (le-leb _ _ b, take_at (words t) r (2 * n) w, drop_at (words t) r (2 * n) w, elements-words t)

pub raised-none : (f : matrix.Entry → ℕ) (t : List ℕ) → t ≡ raised (row_total f []) t
raised-none f t = walked_end f [] t t 0 (walked_start f [] t) refl

pub raised-more : (f : matrix.Entry → ℕ) (e : matrix.Entry) (es : List matrix.Entry) (t : List ℕ)
    → raised (row_total f es) (added_at t e.row (f e)) ≡ raised (row_total f (e ∷ es)) t
raised-more f e es t =
    let k = walked_more f (e ∷ es) t t 0 (walked_start f (e ∷ es) t) e refl in
    let u = added_at t e.row (f e) in
    raised_is (row_total f (e ∷ es)) t (raised (row_total f es) u) (raised-length (row_total f es) u ∙ added-length t e.row (f e))
    (λ y h. raised-get (row_total f es) u y (rw added-length h) ∙ k.total y h)

pub added-all : (n : ℕ) (f : matrix.Entry → ℕ) (es : List matrix.Entry) (t r : List ℕ) → length t ≡ n
    → added_all n f es (words t ++ r) ≡ words (raised (row_total f es) t) ++ r
unfolding added_all
added-all n f [] t r l = ap (λ (u : List ℕ). words u ++ r) (raised-none f t)
added-all n f (e ∷ es) t r l =
    ap (added_all n f es) (one-added n e.row (f e) t r l)
    ∙ (added-all n f es (added_at t e.row (f e)) r (added-length t e.row (f e) ∙ l)
    ∙ ap (λ (u : List ℕ). words u ++ r) (raised-more f e es t))

-- cleared words are a table of zeros
pub zeros-cleared : (n : ℕ) (out : List ℕ) → 2 * n ≤ length out → cleared_to n out ≡ words (replicate n 0) ++ drop (2 * n) out
unfolding cleared_to
zeros-cleared n out h = rw (le-leb _ _ h, words-zero n)

-- all of them, on cleared words
pub cleared-added : (n : ℕ) (f : matrix.Entry → ℕ) (es : List matrix.Entry) (out : List ℕ) → 2 * n ≤ length out
    → added_all n f es (cleared_to n out) ≡ words (tabulate (row_total f es) n) ++ drop (2 * n) out
unfolding cleared_to
cleared-added n f es out h =
    rw (le-leb _ _ h, ← words-zero n, added-all n f es (replicate n 0) (drop (2 * n) out) (length-replicate n 0), raised-zeros (row_total f es) n)

-- ---- the walk that sums
module _ (f : matrix.Entry → ℕ) where
  pub summed-more : (e : matrix.Entry) (es : List matrix.Entry) (a b s : ℕ) → b ≡ a ⊕ f e → a ⊕ sum_over f (e ∷ es) ≡ s → b ⊕ sum_over f es ≡ s
  unfolding sum_over
  summed-more e es a b s q h = rw q (⊕-assoc a (f e) (sum_over f es) ∙ h)

  pub summed-end : (a s : ℕ) → a ⊕ sum_over f [] ≡ s → a ≡ s
  unfolding sum_over
  summed-end a s h = sym (⊕-zero a) ∙ h
