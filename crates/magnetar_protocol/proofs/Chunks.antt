-- Messages that stand one behind the other, or in turn, and taking them out again.
-- Assumes nothing.
use mathlib.Core.Path.{◌≡◌, refl, sym, ap, ap₂, ◌∙◌}
use mathlib.Core.List.{List, [], ◌∷◌, ◌++◌, append_assoc}
use Prim.Native.Nat.{ℕ, zero, suc, ◌+◌, ◌*◌}
use native.Mathlib.Nat.{mul-suc, mul-zero, add-zero}
use native.Mathlib.Omega.{arith}
use lib.ListN.{length, take, drop, length-append}
use lib.Seq.{drop-drop, take_at, drop_at}
use Rattle.magnetar_field.specs.Tabulate.{tabulate}
use Rattle.magnetar_protocol.specs.Prover.{joined, interleaved}

-- each message has n elements
abbrev pub Each : ℕ → List (List ℕ) → Type 0
Each n [] = Unit {0}
Each n (m ∷ ms) = (length m ≡ n) × Each n ms

pub each_take : (n k : ℕ) (ms : List (List ℕ)) → Each n ms → Each n (take k ms)
each_take n zero ms e = tt
each_take n (suc k) [] e = tt
each_take n (suc k) (m ∷ ms) e = (e.0, each_take n k ms e.1)

pub each-drop : (n k : ℕ) (ms : List (List ℕ)) → Each n ms → Each n (drop k ms)
each-drop n zero ms e = e
each-drop n (suc k) [] e = tt
each-drop n (suc k) (m ∷ ms) e = each-drop n k ms e.1

pub joined_length : (n : ℕ) (ms : List (List ℕ)) → Each n ms → length (joined ms) ≡ n * length ms
unfolding joined
joined_length n [] e = sym (mul-zero n)
joined_length n (m ∷ ms) e = length-append m (joined ms) ∙ ap₂ ◌+◌ e.0 (joined_length n ms e.1) ∙ omega (arith, mul-suc n (length ms))

pub interleaved-length : (ms ns : List (List ℕ)) → Each 4 ms → Each 4 ns → length ns ≡ length ms → length (interleaved ms ns) ≡ 8 * length ms
unfolding interleaved
interleaved-length [] ns e f h = refl
interleaved-length (m ∷ ms) [] e f h = absurd (omega arith)
interleaved-length (m ∷ ms) (n ∷ ns) e f h =
    length-append m (n ++ interleaved ms ns) ∙ ap₂ ◌+◌ e.0
    (length-append n (interleaved ms ns) ∙ ap₂ ◌+◌ f.0 (interleaved-length ms ns e.1 f.1 (omega arith))) ∙ omega arith

-- what stands behind a
pub past : (o k : ℕ) (w a post : List ℕ) → drop o w ≡ a ++ post → length a ≡ k → drop (o + k) w ≡ post
past o k w a post h l = sym (drop-drop k o w) ∙ ap (drop k) h ∙ drop_at a post k l

pub front : (o k : ℕ) (w a post : List ℕ) → drop o w ≡ a ++ post → length a ≡ k → take k (drop o w) ≡ a
front o k w a post h l = ap (take k) h ∙ take_at a post k l

pub chunks : (n o : ℕ) (w : List ℕ) (g : ℕ → ℕ) (ms : List (List ℕ)) (post : List ℕ) → Each n ms → drop o w ≡ joined ms ++ post
    → ((i : ℕ) → g i ≡ o + n * i) → tabulate (λ i. take n (drop (g i) w)) (length ms) ≡ ms
unfolding tabulate joined
chunks n o w g [] post e h p = refl
chunks n o w g (m ∷ ms) post e h p =
    ap₂ ◌∷◌ (ap (λ (k : ℕ). take n (drop k w)) (p 0 ∙ first n o)
    ∙ front o n w m (joined ms ++ post) (h ∙ append_assoc m (joined ms) post) e.0)
    (chunks n (o + n) w (λ i. g (suc i)) ms post e.1 (past o n w m (joined ms ++ post) (h ∙ append_assoc m (joined ms) post) e.0)
    (λ i. p (suc i) ∙ next n o i))
  where
    first : (n o : ℕ) → o + n * 0 ≡ o
    first n o = rw mul-zero (add-zero o)

    next : (n o i : ℕ) → o + n * suc i ≡ o + n + n * i
    next n o i = omega (arith, mul-suc n i)

-- m, n, and the rest
unturned : (m n rest post : List ℕ) → (m ++ (n ++ rest)) ++ post ≡ m ++ (n ++ (rest ++ post))
unturned m n rest post = append_assoc m (n ++ rest) post ∙ ap (λ (l : List ℕ). m ++ l) (append_assoc n rest post)

pub first-turns : (o : ℕ) (w : List ℕ) (g : ℕ → ℕ) (ms ns : List (List ℕ)) (post : List ℕ) → Each 4 ms → Each 4 ns → length ns ≡ length ms
    → drop o w ≡ interleaved ms ns ++ post → ((i : ℕ) → g i ≡ o + 8 * i) → tabulate (λ i. take 4 (drop (g i) w)) (length ms) ≡ ms
unfolding tabulate interleaved
first-turns o w g [] ns post e f l h p = refl
first-turns o w g (m ∷ ms) [] post e f l h p = absurd (omega arith)
first-turns o w g (m ∷ ms) (n ∷ ns) post e f l h p =
    let h₁ = h ∙ unturned m n (interleaved ms ns) post in
    let h₂ = past o 4 w m (n ++ (interleaved ms ns ++ post)) h₁ e.0 in
    ap₂ ◌∷◌ (ap (λ (k : ℕ). take 4 (drop k w)) (p 0 ∙ first o) ∙ front o 4 w m (n ++ (interleaved ms ns ++ post)) h₁ e.0)
    (first-turns (o + 4 + 4) w (λ i. g (suc i)) ms ns post e.1 f.1 (omega arith) (past (o + 4) 4 w n (interleaved ms ns ++ post) h₂ f.0)
    (λ i. p (suc i) ∙ next o i))
  where
    first : (o : ℕ) → o + 8 * 0 ≡ o
    first o = omega arith

    next : (o i : ℕ) → o + 8 * suc i ≡ o + 4 + 4 + 8 * i
    next o i = omega arith

pub second-turns : (o : ℕ) (w : List ℕ) (g : ℕ → ℕ) (ms ns : List (List ℕ)) (post : List ℕ) → Each 4 ms → Each 4 ns → length ns ≡ length ms
    → drop o w ≡ interleaved ms ns ++ post → ((i : ℕ) → g i ≡ o + 4 + 8 * i) → tabulate (λ i. take 4 (drop (g i) w)) (length ns) ≡ ns
unfolding tabulate interleaved
second-turns o w g [] [] post e f l h p = refl
second-turns o w g [] (n ∷ ns) post e f l h p = absurd (omega arith)
second-turns o w g (m ∷ ms) [] post e f l h p = absurd (omega arith)
second-turns o w g (m ∷ ms) (n ∷ ns) post e f l h p =
    let h₁ = h ∙ unturned m n (interleaved ms ns) post in
    let h₂ = past o 4 w m (n ++ (interleaved ms ns ++ post)) h₁ e.0 in
    ap₂ ◌∷◌ (ap (λ (k : ℕ). take 4 (drop k w)) (p 0 ∙ first o) ∙ front (o + 4) 4 w n (interleaved ms ns ++ post) h₂ f.0)
    (second-turns (o + 4 + 4) w (λ i. g (suc i)) ms ns post e.1 f.1 (omega arith)
    (past (o + 4) 4 w n (interleaved ms ns ++ post) h₂ f.0) (λ i. p (suc i) ∙ next o i))
  where
    first : (o : ℕ) → o + 4 + 8 * 0 ≡ o + 4
    first o = omega arith

    next : (o i : ℕ) → o + 4 + 8 * suc i ≡ o + 4 + 4 + 4 + 8 * i
    next o i = omega arith
