-- From the sums over the pairs to the message: the middle coefficient is the sum of all three (Karatsuba), the eq factor is
-- multiplied in, and the coefficients are stored at the front of the output.
-- Assumes nothing.
use mathlib.Core.Path.{◌≡◌, refl, sym, ap, ap₂, ◌∙◌}
use Rattle.std.proofs.Common.{map}
use Rattle.std.proofs.lemmas.List.{take_more, map-append}
use mathlib.Core.List.{List, [], ◌∷◌, ◌++◌}
use Prim.Native.Nat.{ℕ, suc, ◌+◌, ◌*◌, ◌/◌, ◌%◌, ◌^◌, ◌≤◌, ◌<◌}
use native.Mathlib.Omega.{arith}
use lib.ListN.{length, get_or, set, take, drop, length-append, length-drop, length-map}
use lib.Seq.{drop-cons, length-take-le}
use borrow.Author.Tests.{lt-ltb}
use Rattle.magnetar_field.specs.declared.gf128.Gf128.{Gf128}
use Rattle.magnetar_field.specs.Gf128.{value, ◌⊕◌, ◌⊗◌}
use Rattle.magnetar_field.specs.Words.{elements, words, stored}
use Rattle.magnetar_field.proofs.Elements.{elements-length, words-length}
use Rattle.magnetar_field.proofs.Xor.{xor}
use Rattle.magnetar_field.proofs.Product.{⊗-⊕, ⊕-⊗, ⊗-assoc}
use Rattle.magnetar_sumcheck_prover.specs.declared.engine.Sums.{Sums}
use Rattle.magnetar_sumcheck_verifier.specs.Sum.{sum_below}
use Rattle.magnetar_sumcheck_verifier.specs.Order.{at₀, at₁, slope}
use Rattle.magnetar_sumcheck_verifier.specs.Outer.{coefficient₀, coefficient₁, coefficient₂, at_one, weighted, times_eq, outer_message}
use Rattle.magnetar_sumcheck_verifier.specs.Inner.{inner_sums, inner_message}
use Rattle.magnetar_sumcheck_prover.specs.Sums.{sums, summed, outer_summand, outer_sums, inner_summand, inner_sums_at}
use Rattle.magnetar_sumcheck_prover.specs.Entries.{outer_refusal, outer_out, inner_refusal, inner_out}
use Rattle.magnetar_sumcheck_prover.proofs.Steps.{sum-add, sum_same}

-- ---- the middle coefficient
karatsuba : (a₀ a₁ b₀ b₁ c₀ c₁ : ℕ) → a₀ ⊗ (b₀ ⊕ b₁) ⊕ (a₀ ⊕ a₁) ⊗ b₀ ⊕ (c₀ ⊕ c₁) ≡ (a₀ ⊗ b₀ ⊕ c₀) ⊕ (a₁ ⊗ b₁ ⊕ c₁) ⊕ (a₀ ⊕ a₁) ⊗ (b₀ ⊕ b₁)
karatsuba a₀ a₁ b₀ b₁ c₀ c₁ = simp (xor, ⊗-⊕, ⊕-⊗)

sum-three : (f g h m : ℕ → ℕ) (n : ℕ) → ((i : ℕ) → m i ≡ f i ⊕ g i ⊕ h i) → sum_below n m ≡ sum_below n f ⊕ sum_below n g ⊕ sum_below n h
sum-three f g h m n e =
    sum_same m (λ i. f i ⊕ g i ⊕ h i) n e ∙ sum-add (λ i. f i ⊕ g i) h n ∙ ap (λ (x : ℕ). x ⊕ sum_below n h) (sum-add f g n)

outer-middle : (v n : ℕ) (e a b c : List ℕ) → weighted e (coefficient₁ v a b c) n
    ≡ weighted e (coefficient₀ v a b c) n ⊕ weighted e (at_one v a b c) n ⊕ weighted e (coefficient₂ v a b) n
unfolding weighted
outer-middle v n e a b c = sum-three _ _ _ _ n one
  where
    spread : (e x y z : ℕ) → e ⊗ (x ⊕ y ⊕ z) ≡ e ⊗ x ⊕ e ⊗ y ⊕ e ⊗ z
    spread e x y z = simp (⊗-⊕)

    middle : (i : ℕ) → coefficient₁ v a b c i ≡ coefficient₀ v a b c i ⊕ at_one v a b c i ⊕ coefficient₂ v a b i
    middle i = unfold coefficient₀ coefficient₁ coefficient₂ at_one slope in karatsuba (at₀ v a i) (at₁ v a i) (at₀ v b i) (at₁ v b i)
        (at₀ v c i) (at₁ v c i)

    one : (i : ℕ) → get_or e i 0 ⊗ coefficient₁ v a b c i
        ≡ get_or e i 0 ⊗ coefficient₀ v a b c i ⊕ get_or e i 0 ⊗ at_one v a b c i ⊕ get_or e i 0 ⊗ coefficient₂ v a b i
    one i = ap (λ (x : ℕ). get_or e i 0 ⊗ x) (middle i)
        ∙ spread (get_or e i 0) (coefficient₀ v a b c i) (at_one v a b c i) (coefficient₂ v a b i)

-- the sums of the pass, as those of the polynomials' coefficients
outer-summed : (v n : ℕ) (e a b c : List ℕ) → summed v (outer_summand e a b c) n ≡ outer_sums v e a b c n
unfolding summed outer_summand outer_sums weighted coefficient₀ at_one coefficient₂ slope at₀ at₁
outer-summed v n e a b c = refl

inner-summed : (v n : ℕ) (t z : List ℕ) → summed v (inner_summand t z) n ≡ inner_sums_at v t z n
unfolding summed inner_summand inner_sums_at slope at₀ at₁
inner-summed v n t z = refl

pub outer-message-is : (v k t n : ℕ) (e a b c : List ℕ) (s : Sums) → n ≡ length e → sums s ≡ outer_sums v e a b c n
    → times_eq k t (value s.zero) (value s.zero ⊕ value s.one ⊕ value s.top) (value s.top) ≡ outer_message v k t e a b c
unfolding sums outer_sums outer_message
outer-message-is v k t n e a b c s l h = go
  where
    q₀ : value s.zero ≡ weighted e (coefficient₀ v a b c) (length e)
    q₀ = ap (λ (m : List ℕ). get_or m 0 0) h ∙ ap (weighted e (coefficient₀ v a b c)) l

    at_one_lem : value s.one ≡ weighted e (at_one v a b c) (length e)
    at_one_lem = ap (λ (m : List ℕ). get_or m 1 0) h ∙ ap (weighted e (at_one v a b c)) l

    q₂ : value s.top ≡ weighted e (coefficient₂ v a b) (length e)
    q₂ = ap (λ (m : List ℕ). get_or m 2 0) h ∙ ap (weighted e (coefficient₂ v a b)) l

    q₁ : value s.zero ⊕ value s.one ⊕ value s.top ≡ weighted e (coefficient₁ v a b c) (length e)
    q₁ = (λ i. q₀ i ⊕ at_one_lem i ⊕ q₂ i) ∙ sym (outer-middle v (length e) e a b c)

    go : times_eq k t (value s.zero) (value s.zero ⊕ value s.one ⊕ value s.top) (value s.top)
        ≡ times_eq k t (weighted e (coefficient₀ v a b c) (length e)) (weighted e (coefficient₁ v a b c) (length e))
        (weighted e (coefficient₂ v a b) (length e))
    go = λ i. times_eq k t (q₀ i) (q₁ i) (q₂ i)

inner-middle : (t₀ t₁ z₀ z₁ : ℕ) → t₀ ⊗ (z₀ ⊕ z₁) ⊕ (t₀ ⊕ t₁) ⊗ z₀ ≡ t₀ ⊗ z₀ ⊕ t₁ ⊗ z₁ ⊕ (t₀ ⊕ t₁) ⊗ (z₀ ⊕ z₁)
inner-middle t₀ t₁ z₀ z₁ = simp (xor, ⊗-⊕, ⊕-⊗)

pub inner-message-is : (v n : ℕ) (t z : List ℕ) (s : Sums) → n ≡ length t / 2 → sums s ≡ inner_sums_at v t z n
    → ◌≡◌ {A = List ℕ} (value s.zero ∷ (value s.zero ⊕ value s.one ⊕ value s.top) ∷ value s.top ∷ []) (inner_message v t z)
unfolding sums inner_sums_at inner_message inner_sums
inner-message-is v n t z s l h = go (length t / 2) l
  where
    q₀ : value s.zero ≡ sum_below n (λ i. at₀ v t i ⊗ at₀ v z i)
    q₀ = ap (λ (m : List ℕ). get_or m 0 0) h

    at_one_lem : value s.one ≡ sum_below n (λ i. at₁ v t i ⊗ at₁ v z i)
    at_one_lem = ap (λ (m : List ℕ). get_or m 1 0) h

    q₂ : value s.top ≡ sum_below n (λ i. slope v t i ⊗ slope v z i)
    q₂ = ap (λ (m : List ℕ). get_or m 2 0) h

    middle : (i : ℕ) → at₀ v t i ⊗ slope v z i ⊕ slope v t i ⊗ at₀ v z i
        ≡ at₀ v t i ⊗ at₀ v z i ⊕ at₁ v t i ⊗ at₁ v z i ⊕ slope v t i ⊗ slope v z i
    middle i = unfold slope in inner-middle (at₀ v t i) (at₁ v t i) (at₀ v z i) (at₁ v z i)

    q₁ : value s.zero ⊕ value s.one ⊕ value s.top ≡ sum_below n (λ i. at₀ v t i ⊗ slope v z i ⊕ slope v t i ⊗ at₀ v z i)
    q₁ = (λ i. q₀ i ⊕ at_one_lem i ⊕ q₂ i) ∙ sym (sum-three _ _ _ _ n middle)

    go : (m : ℕ) → n ≡ m → ◌≡◌ {A = List ℕ} (value s.zero ∷ (value s.zero ⊕ value s.one ⊕ value s.top) ∷ value
        s.top ∷ []) (inner_sums v t z m)
    go m e = (λ i. q₀ i ∷ q₁ i ∷ q₂ i ∷ []) ∙ ap (inner_sums v t z) e

-- ---- the eq factor
pub times_eq-first : (k t q : ℕ) → k ⊗ (1 ⊕ t) ⊗ q ≡ k ⊗ ((1 ⊕ t) ⊗ q)
times_eq-first k t q = ⊗-assoc k (1 ⊕ t) q

pub times_eq-next : (k t q p : ℕ) → k ⊗ (1 ⊕ t) ⊗ q ⊕ k ⊗ p ≡ k ⊗ ((1 ⊕ t) ⊗ q ⊕ p)
times_eq-next k t q p = ap (λ (x : ℕ). x ⊕ k ⊗ p) (⊗-assoc k (1 ⊕ t) q) ∙ sym (⊗-⊕ k ((1 ⊕ t) ⊗ q) p)

pub ruleset times_eq_parts = (times_eq-first, times_eq-next)

-- ---- elements stored one after the other
set_pair : (p : List ℕ) (x y : ℕ) (r : List ℕ) (a b : ℕ) → set (set (p ++ (x ∷ y ∷ r)) (length p) a) (suc (length p)) b ≡ p ++ (a ∷ b ∷ r)
set_pair [] x y r a b = refl
set_pair (z ∷ p) x y r a b = ap (λ (l : List ℕ). z ∷ l) (set_pair p x y r a b)

words_snoc : (xs : List ℕ) (v : ℕ) (r : List ℕ) → words xs ++ (v % 2 ^ 64 ∷ v / 2 ^ 64 ∷ r) ≡ words (xs ++ (v ∷ [])) ++ r
unfolding words
words_snoc [] v r = refl
words_snoc (x ∷ xs) v r = ap (λ (l : List ℕ). (x % 2 ^ 64) ∷ (x / 2 ^ 64) ∷ l) (words_snoc xs v r)

-- with n elements at the front already
pub stored_next : (n : ℕ) (xs out s : List ℕ) (v : ℕ) → length xs ≡ n → 2 * n + 2 ≤ length out → s ≡ words xs ++ drop (2 * n) out
    → stored s n v ≡ words (xs ++ (v ∷ [])) ++ drop (2 * n + 2) out
unfolding stored
stored_next n xs out s v l h e = rw e (rw (lt-ltb n (length (words xs ++ drop (2 * n) out) / 2) room)
    (ap (λ (r : List ℕ). set (set (words xs ++ r) (2 * n) (v % 2 ^ 64)) (2 * n + 1) (v / 2 ^ 64)) two ∙ places
    ∙ words_snoc xs v (drop (2 * n + 2) out)))
  where
    count : length (words xs) ≡ 2 * n
    count = words-length xs ∙ ap (λ (k : ℕ). 2 * k) l

    room : n < length (words xs ++ drop (2 * n) out) / 2
    room = omega (arith, length-append (words xs) (drop (2 * n) out), length-drop (2 * n) out, count)

    after : suc (suc (2 * n)) ≡ 2 * n + 2
    after = omega arith

    next : suc (2 * n) ≡ 2 * n + 1
    next = omega arith

    two : drop (2 * n) out ≡ get_or out (2 * n) 0 ∷ get_or out (suc (2 * n)) 0 ∷ drop (2 * n + 2) out
    two = drop-cons out (2 * n) 0 (omega arith) ∙ ap (λ (r : List ℕ). get_or out (2 * n) 0 ∷ r) (drop-cons out (suc (2 * n)) 0 (omega arith)
        ∙ ap (λ (k : ℕ). get_or out (suc (2 * n)) 0 ∷ drop k out) after)

    places : set (set (words xs ++ (get_or out (2 * n) 0 ∷ get_or out (suc (2 * n)) 0 ∷ drop (2 * n + 2) out)) (2 * n) (v % 2 ^ 64))
        (2 * n + 1) (v / 2 ^ 64)
        ≡ words xs ++ (v % 2 ^ 64 ∷ v / 2 ^ 64 ∷ drop (2 * n + 2) out)
    places = rw (← next, ← count) (set_pair (words xs) (get_or out (length (words xs)) 0) (get_or out (suc (length (words xs))) 0)
        (drop (length (words xs) + 2) out) (v % 2 ^ 64) (v / 2 ^ 64))

-- the first i of the elements es are stored; one more
pub stored-all : (out : List ℕ) (es : List Gf128) (i : ℕ) (d : Gf128) (s : List ℕ) → i < length es → 2 * length es ≤ length out
    → s ≡ words (map value (take i es)) ++ drop (2 * i) out
    → stored s i (value (get_or es i d)) ≡ words (map value (take (i + 1) es)) ++ drop (2 * (i + 1)) out
stored-all out es i d s h l q = stored_next i (map value (take i es)) out s (value (get_or es i d)) count (omega arith) q
    ∙ ap₂ (λ (xs : List ℕ) (k : ℕ). words xs ++ drop k out) more next
  where
    count : length (map value (take i es)) ≡ i
    count = length-map (take i es) value ∙ length-take-le i es (omega arith)

    more : map value (take i es) ++ (value (get_or es i d) ∷ []) ≡ map value (take (i + 1) es)
    more = sym (ap (map value) (take_more es i d h) ∙ map-append value (take i es) (get_or es i d ∷ []))

    next : 2 * i + 2 ≡ 2 * (i + 1)
    next = omega arith

-- ---- the whole outcome where no refusal applies
pub inner-out : (out t z last : List ℕ) (v : ℕ) (s : Sums) → inner_refusal (length out) (length t) (length z) v ≡ 0
    → sums s ≡ summed v (inner_summand (elements t) (elements z)) (length t / 4)
    → last ≡ words (value s.zero ∷ (value s.zero ⊕ value s.one ⊕ value s.top) ∷ value s.top ∷ []) ++ drop 6 out
    → last ≡ inner_out out t z v
inner-out out t z last v s e h p = rw e (p ∙ ap (λ (m : List ℕ). words m ++ drop 6 out) (inner-message-is v (length t / 4) (elements t)
    (elements z) s pairs (h ∙ inner-summed v _ (elements t) (elements z))))
  where
    pairs : length t / 4 ≡ length (elements t) / 2
    pairs = omega (arith, elements-length t)

pub outer-out : (out e a b c last : List ℕ) (v k t : ℕ) (s : Sums)
    → outer_refusal (length out) (length e) (length a) (length b) (length c) v ≡ 0
    → sums s ≡ summed v (outer_summand (elements e) (elements a) (elements b) (elements c)) (length e / 2)
    → last ≡ words (times_eq k t (value s.zero) (value s.zero ⊕ value s.one ⊕ value s.top) (value s.top)) ++ drop 8 out
    → last ≡ outer_out out e a b c v k t
outer-out out e a b c last v k t s r h p = rw r (p ∙ ap (λ (m : List ℕ). words m ++ drop 8 out)
    (outer-message-is v k t (length e / 2) (elements e) (elements a) (elements b) (elements c) s (sym (elements-length e))
    (h ∙ outer-summed v _ (elements e) (elements a) (elements b) (elements c))))
