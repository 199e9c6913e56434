-- Words and elements: an element read and stored, words taken and dropped, and the way back from elements to words.
-- Assumes nothing.
use Rattle.std.proofs.Common.{◌≡◌, ℕ, zero, suc, ◌+◌, ◌*◌, ◌/◌, ◌%◌, ◌^◌, ◌<◌, ◌≤◌, min, Bool, true, false, cond, ltb, leb, List, [], ◌∷◌, ◌++◌, length, get_or, take, drop, set, replicate, sym, refl, ap, ◌∙◌, append-nil, le_of_suc-le-suc, add-one, arith, length-drop, length-set, drop_of_length-le, get_or-drop, take_all, pow_pos, ltb-false, ltb-true, le-ltb, lt-ltb, leb-false, leb-true}
use lib.ListN.{get_or-eq_default}
use lib.Seq.{set_out, drop-nil}
use lib.Arith.{digits_lt}
use lib.Pow.{low, high, split}
use Rattle.magnetar_field.specs.Words.{elements, words, stored, overlaid}

two-suc : (i : ℕ) → 2 * suc i ≡ suc (suc (2 * i))
two-suc i = omega arith

two-suc-one : (i : ℕ) → 2 * suc i + 1 ≡ suc (suc (2 * i + 1))
two-suc-one i = omega arith

-- ---- lengths
pub elements-length : (s : List ℕ) → length (elements s) ≡ length s / 2
unfolding elements
elements-length [] = refl
elements-length (x ∷ []) = refl
elements-length (x ∷ (y ∷ s)) = omega (arith, elements-length s)

pub words-length : (vs : List ℕ) → length (words vs) ≡ 2 * length vs
unfolding words
words-length [] = refl
words-length (v ∷ vs) = omega (arith, words-length vs)

pub stored-length : (s : List ℕ) (i v : ℕ) → length (stored s i v) ≡ length s
unfolding stored
stored-length s i v = go (ltb i (length s / 2))
  where
    go : (b : Bool) → length (cond b (set (set s (2 * i) (v % 2 ^ 64)) (2 * i + 1) (v / 2 ^ 64)) s) ≡ length s
    go true = simp length-set
    go false = refl

-- ---- zeros
pub words-zero : (n : ℕ) → words (replicate n 0) ≡ replicate (2 * n) 0
unfolding words
words-zero zero = refl
words-zero (suc n) = rw (two-suc n, words-zero n)

-- ---- an element read
pub elements-get : (s : List ℕ) (i : ℕ) → i < length s / 2
    → get_or (elements s) i 0 ≡ get_or s (2 * i + 1) 0 * 2 ^ 64 + get_or s (2 * i) 0
unfolding elements
elements-get [] i h = absurd (omega arith)
elements-get (x ∷ []) i h = absurd (omega arith)
elements-get (x ∷ (y ∷ s)) zero h = refl
elements-get (x ∷ (y ∷ s)) (suc i) h = rw (two-suc-one, two-suc) (elements-get s i (omega arith))

pub elements-out : (s : List ℕ) (i : ℕ) → length s / 2 ≤ i → get_or (elements s) i 0 ≡ 0
elements-out s i h = get_or-eq_default (elements s) 0 (rw elements-length h)

-- ---- an element stored
elements-set : (s : List ℕ) (i lo hi : ℕ) → i < length s / 2
    → elements (set (set s (2 * i) lo) (2 * i + 1) hi) ≡ set (elements s) i (hi * 2 ^ 64 + lo)
unfolding elements
elements-set [] i lo hi h = absurd (omega arith)
elements-set (x ∷ []) i lo hi h = absurd (omega arith)
elements-set (x ∷ (y ∷ s)) zero lo hi h = refl
elements-set (x ∷ (y ∷ s)) (suc i) lo hi h =
    rw (two-suc-one, two-suc) (ap (λ (l : List ℕ). (y * 2 ^ 64 + x) ∷ l) (elements-set s i lo hi (omega arith)))

pub stored-in : (s : List ℕ) (i lo hi : ℕ) → i < length s / 2 → lo < 2 ^ 64
    → stored s i (hi * 2 ^ 64 + lo) ≡ set (set s (2 * i) lo) (2 * i + 1) hi
unfolding stored
stored-in s i lo hi h l = rw (lt-ltb i (length s / 2) h, low hi 64 l, high hi 64 l)

pub stored-out : (s : List ℕ) (i v : ℕ) → length s / 2 ≤ i → stored s i v ≡ s
unfolding stored
stored-out s i v h = rw (le-ltb i (length s / 2) h)

-- ---- words copied
copy-suc : (i : ℕ) (s d : List ℕ) → i < length s → i < length d → set (take i s ++ drop i d) i (get_or s i 0) ≡ take (suc i) s ++ drop (suc i) d
copy-suc i [] d hs hd = absurd (omega arith)
copy-suc i (x ∷ s) [] hs hd = absurd (omega arith)
copy-suc zero (x ∷ s) (y ∷ d) hs hd = refl
copy-suc (suc i) (x ∷ s) (y ∷ d) hs hd = ap (λ (l : List ℕ). x ∷ l) (copy-suc i s d (le_of_suc-le-suc hs) (le_of_suc-le-suc hd))

pub copy_more : (i : ℕ) (s d d' : List ℕ) → d' ≡ take i s ++ drop i d → i < length s → i < length d
    → set d' i (get_or s i 0) ≡ take (i + 1) s ++ drop (i + 1) d
copy_more i s d d' e hs hd = rw (e, add-one) (copy-suc i s d hs hd)

pub copy-all : (i : ℕ) (s d d' : List ℕ) → i ≡ min (length s) (length d) → d' ≡ take i s ++ drop i d → d' ≡ overlaid s d
unfolding overlaid
copy-all i s d d' h e = e ∙ go (leb (length s) (length d)) refl
  where
    go : (b : Bool) → leb (length s) (length d) ≡ b → take i s ++ drop i d ≡ take (length d) s ++ drop (length s) d
    go true t =
        let l : length s ≤ length d = leb-true _ _ t in
        let n : i ≡ length s = omega arith in
        rw (n, take_all (length s) s (omega arith), take_all (length d) s (omega arith))
    go false t =
        let l : length d < length s = leb-false _ _ t in
        let n : i ≡ length d = omega arith in
        rw (n, drop_of_length-le d {i = length d} (omega arith), drop_of_length-le d {i = length s} (omega arith))

-- ---- elements of stored words
pub elements-stored : (s : List ℕ) (i v : ℕ) → elements (stored s i v) ≡ set (elements s) i v
unfolding stored
elements-stored s i v = go (ltb i (length s / 2)) refl
  where
    go : (b : Bool) → ltb i (length s / 2) ≡ b → elements (cond b (set (set s (2 * i) (v % 2 ^ 64)) (2 * i + 1) (v / 2 ^ 64)) s) ≡ set (elements s) i v
    go true e = elements-set s i (v % 2 ^ 64) (v / 2 ^ 64) (ltb-true _ _ e) ∙ ap (set (elements s) i) (split v 64)
    go false e = sym (set_out (elements s) i v (rw elements-length (ltb-false i (length s / 2) e)))

-- an element is below 2^128
pub elements-below : (s : List ℕ) → ((i : ℕ) → get_or s i 0 < 2 ^ 64) → (i : ℕ) → get_or (elements s) i 0 < 2 ^ 128
unfolding elements
elements-below [] fit i = pow_pos 128
elements-below (x ∷ []) fit i = pow_pos 128
elements-below (x ∷ (y ∷ s)) fit zero = digits_lt (fit 1) (fit 0)
elements-below (x ∷ (y ∷ s)) fit (suc i) = elements-below s (λ j. fit (suc (suc j))) i

-- an even number of words, the front of a list of words, are those of their elements
pub words-elements : (s t : List ℕ) → length s % 2 ≡ 0 → ((i : ℕ) → get_or (s ++ t) i 0 < 2 ^ 64) → words (elements s) ≡ s
unfolding words elements
words-elements [] t even fit = refl
words-elements (x ∷ []) t even fit = absurd (omega arith)
words-elements (x ∷ (y ∷ s)) t even fit =
    rw (low y 64 (fit 0), high y 64 (fit 0), words-elements s t (omega arith) (λ i. fit (suc (suc i))))

pub words_append : (us vs : List ℕ) → words (us ++ vs) ≡ words us ++ words vs
unfolding words
words_append [] vs = refl
words_append (u ∷ us) vs = ap (λ (l : List ℕ). (u % 2 ^ 64) ∷ ((u / 2 ^ 64) ∷ l)) (words_append us vs)

pub elements-drop : (k : ℕ) (s : List ℕ) → drop k (elements s) ≡ elements (drop (2 * k) s)
unfolding elements
elements-drop zero s = refl
elements-drop (suc k) [] = rw two-suc
elements-drop (suc k) (x ∷ []) = rw two-suc (ap elements (sym (drop-nil {A = ℕ} (suc (2 * k)))))
elements-drop (suc k) (x ∷ (y ∷ s)) = rw two-suc (elements-drop k s)

drop-fits : (k : ℕ) (s : List ℕ) → ((i : ℕ) → get_or s i 0 < 2 ^ 64) → (i : ℕ) → get_or (drop k s ++ []) i 0 < 2 ^ 64
drop-fits k s fit i = rw (append-nil, get_or-drop k s i 0) (fit (k + i))

-- words whose elements are new ones and then, from element k on, those of s
pub rejoin : (s last front : List ℕ) (k : ℕ) → length s % 2 ≡ 0 → length last ≡ length s → ((i : ℕ) → get_or s i 0 < 2 ^ 64) → ((i : ℕ) → get_or last i 0 < 2 ^ 64)
    → elements last ≡ front ++ drop k (elements s) → last ≡ words front ++ drop (2 * k) s
rejoin s last front k even same fit fit' e =
    let rest : words (elements (drop (2 * k) s)) ≡ drop (2 * k) s = words-elements (drop (2 * k) s) [] (rw length-drop (omega arith)) (drop-fits (2 * k) s fit) in
    sym (words-elements last [] (omega arith) (drop-fits 0 last fit')) ∙ ap words e ∙ words_append front (drop k (elements s))
    ∙ ap (λ (l : List ℕ). words front ++ l) (ap words (elements-drop k s) ∙ rest)

-- as many words as there are
pub overlaid-same : (s d : List ℕ) → length d ≡ length s → overlaid s d ≡ s
unfolding overlaid
overlaid-same s d e = rw (take_all (length d) s (omega arith), drop_of_length-le d {i = length s} (omega arith), append-nil)
