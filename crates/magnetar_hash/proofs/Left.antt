-- A loop that takes bytes in: what is left to take, and one law for each kind of turn.
-- Assumes nothing.
use Rattle.std.proofs.Common.{◌≡◌, ℕ, zero, suc, ◌+◌, ◌*◌, ◌<◌, ◌≤◌, List, [], ◌∷◌, ◌++◌, length, get_or, take, drop, sym, refl, ap, ◌∙◌, subst, mod-eq_of_lt, zero-lt-suc, add-one, arith, length-drop, take-append-drop, drop_of_length-le, length-take-le, get_or-drop, drop-cons, drop-drop}
use Rattle.std.specs.Simd.{first_chunks}
use Rattle.magnetar_hash.specs.Bytes.{le_bytes, number, word_bytes}
use Rattle.magnetar_hash.specs.Sponge.{Sponge, sponge, fed, ValidFill, Fed}
use Rattle.magnetar_hash.proofs.Bytes.{le-number}
use Rattle.magnetar_hash.proofs.Stream.{fed-append, fed-nil}

-- with q taken in, s and n become what p makes of t and m
pub record Left (t : List ℕ) (m : ℕ) (p : List ℕ) (s : List ℕ) (n : ℕ) (q : List ℕ) : Type 0 where
  pub state : fed (sponge s n) q ≡ fed (sponge t m) p
  pub ready : ValidFill s n

pub left-all : {t : List ℕ} {m : ℕ} (p : List ℕ) → ValidFill t m → Left t m p t m p
left-all p r = record { state = refl; ready = r }

pub left-more : {t p s q r u : List ℕ} {m n k : ℕ} → Left t m p s n (q ++ r) → Fed s n q u k → Left t m p u k r
left-more {t} {p} {s} {q} {r} {u} {m} {n} {k} l f =
    record { state = ap (λ (x : Sponge). fed x r) f.state ∙ sym (fed-append (sponge s n) q r) ∙ l.state; ready = f.ready }

pub left-last : {t p s q u : List ℕ} {m n k : ℕ} → Left t m p s n q → Fed s n q u k → Fed t m p u k
left-last l f = record { state = f.state ∙ l.state; ready = f.ready }

pub left-none : {t p s : List ℕ} {m n : ℕ} → Left t m p s n [] → Fed t m p s n
left-none {s} {n} l = record { state = sym (fed-nil (sponge s n)) ∙ l.state; ready = l.ready }

-- ---- bytes

abbrev pub AreBytes : List ℕ → Type 0
AreBytes l = (i : ℕ) → get_or l i 0 < 256

bytes_take : (n : ℕ) (l : List ℕ) → AreBytes l → AreBytes (take n l)
bytes_take zero l h i = zero-lt-suc 255
bytes_take (suc n) [] h i = zero-lt-suc 255
bytes_take (suc n) (x ∷ l) h zero = h 0
bytes_take (suc n) (x ∷ l) h (suc i) = bytes_take n l (λ j. h (suc j)) i

bytes_drop : (n : ℕ) (l : List ℕ) → AreBytes l → AreBytes (drop n l)
bytes_drop n l h i = rw get_or-drop (h (n + i))

-- the word that the next 8 bytes make has these bytes
word-bytes : (b : List ℕ) (at : ℕ) → AreBytes b → at + 8 ≤ length b → le_bytes 8 (number (take 8 (drop at b))) ≡ take 8 (drop at b)
word-bytes b at h e =
    let l : length (take 8 (drop at b)) ≡ 8 = length-take-le 8 (drop at b) (omega (arith, length-drop at b)) in
    ap (λ (k : ℕ). le_bytes k (number (take 8 (drop at b)))) (sym l)
    ∙ le-number (take 8 (drop at b)) (bytes_take 8 (drop at b) (bytes_drop at b h))

eight-next : (b : List ℕ) (at : ℕ) → drop at b ≡ take 8 (drop at b) ++ drop (at + 8) b
eight-next b at = sym (take-append-drop 8 (drop at b)) ∙ ap (λ (r : List ℕ). take 8 (drop at b) ++ r) (drop-drop 8 at b)

pub left_word
    : {t p s u : List ℕ} {m n k w : ℕ} (b : List ℕ) (at : ℕ)
    → AreBytes b
    → at + 8 ≤ length b
    → w ≡ number (take 8 (drop at b))
    → Left t m p s n (drop at b)
    → Fed s n (le_bytes 8 w) u k
    → Left t m p u k (drop (at + 8) b)
left_word {t} {p} {s} {u} {m} {n} {k} {w} b at h e v l f =
    let g : Fed s n (take 8 (drop at b)) u k = subst (λ (x : List ℕ). Fed s n x u k) (ap (le_bytes 8) v ∙ word-bytes b at h e) f in
    left-more (subst (Left t m p s n) (eight-next b at) l) g

one_byte : (x : ℕ) → x < 256 → le_bytes 1 x ≡ x ∷ []
unfolding le_bytes
one_byte x h = ap (λ (y : ℕ). y ∷ []) (mod-eq_of_lt h)

one-next : (b : List ℕ) (at : ℕ) → at < length b → drop at b ≡ (get_or b at 0 ∷ []) ++ drop (at + 1) b
one-next b at h = rw (add-one) (drop-cons b at 0 h)

pub left-byte
    : {t p s u : List ℕ} {m n k w : ℕ} (b : List ℕ) (at : ℕ)
    → at < length b
    → w ≡ get_or b at 0
    → w < 256
    → Left t m p s n (drop at b)
    → Fed s n (le_bytes 1 w) u k
    → Left t m p u k (drop (at + 1) b)
left-byte {t} {p} {s} {u} {m} {n} {k} {w} b at e v h l f =
    let g : Fed s n (get_or b at 0 ∷ []) u k = subst (λ (x : List ℕ). Fed s n x u k) (one_byte w h ∙ ap (λ (x : ℕ). x ∷ []) v) f in
    left-more (subst (Left t m p s n) (one-next b at e) l) g

-- all of the bytes are taken
pub left_end : {t p s : List ℕ} {m n : ℕ} (b : List ℕ) (at : ℕ) → length b ≤ at → Left t m p s n (drop at b) → Fed t m p s n
left_end {t} {p} {s} {m} {n} b at h l = left-none (subst (Left t m p s n) (drop_of_length-le b {i = at} h) l)

-- a chunk of 8 bytes
pub chunk-at : (xs : List ℕ) (k i : ℕ) (d : List ℕ) → i < k → get_or (first_chunks 8 k xs) i d ≡ take 8 (drop (8 * i) xs)
chunk-at xs zero i d h = absurd (omega arith)
chunk-at xs (suc k) zero d h = refl
chunk-at xs (suc k) (suc i) d h =
    let e : 8 + 8 * i ≡ 8 * suc i = omega arith in
    chunk-at (drop 8 xs) k i d (omega arith) ∙ ap (take 8) (drop-drop (8 * i) 8 xs ∙ ap (λ (n : ℕ). drop n xs) e)

-- ---- words

words-next : (ws : List ℕ) (i : ℕ) → i < length ws → word_bytes (drop i ws) ≡ le_bytes 8 (get_or ws i 0) ++ word_bytes (drop (i + 1) ws)
unfolding word_bytes
words-next ws i h = rw (add-one, drop-cons ws i 0 h)

pub left-words
    : {t p s u : List ℕ} {m n k : ℕ} (ws : List ℕ) (i : ℕ)
    → i < length ws
    → Left t m p s n (word_bytes (drop i ws))
    → Fed s n (le_bytes 8 (get_or ws i 0)) u k
    → Left t m p u k (word_bytes (drop (i + 1) ws))
left-words {t} {p} {s} {u} {m} {n} ws i h l f = left-more (subst (Left t m p s n) (words-next ws i h) l) f

pub left-words-end
    : {t p s : List ℕ} {m n : ℕ} (ws : List ℕ) (i : ℕ) → length ws ≤ i → Left t m p s n (word_bytes (drop i ws)) → Fed t m p s n
unfolding word_bytes
left-words-end {t} {p} {s} {m} {n} ws i h l =
    left-none (subst (λ (r : List ℕ). Left t m p s n (word_bytes r)) (drop_of_length-le ws {i = i} h) l)
