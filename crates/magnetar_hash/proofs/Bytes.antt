-- Laws of numbers as bytes.
-- Assumes nothing.
use Rattle.std.proofs.Common.{◌≡◌, ℕ, zero, suc, ◌+◌, ◌*◌, ◌/◌, ◌%◌, ◌^◌, ◌<◌, List, [], ◌∷◌, ◌++◌, length, get_or, sym, refl, ap, ◌∙◌, ap₂, append-nil, le_of_suc-le-suc, not-suc-le-zero, suc-add, zero-add, div-one, arith, length-append, shr-shr}
use Rattle.std.specs.Int.{to_le_bytes}
use mir.Syntax.{w64}
use lib.Pow.{field, mod-mod-pow}
use Rattle.magnetar_hash.specs.Bytes.{le_bytes, number, word_bytes}

pub length-le : (n x : ℕ) → length (le_bytes n x) ≡ n
unfolding le_bytes
length-le zero x = refl
length-le (suc n) x = ap suc (length-le n (x / 256))

eight-suc : (n : ℕ) → 8 + 8 * n ≡ 8 * suc n
eight-suc n = omega arith

-- the bytes above the first n are those of the number without its n lowest bytes
shift_suc : (n x : ℕ) → x / 256 / 2 ^ (8 * n) ≡ x / 2 ^ (8 * suc n)
shift_suc n x = shr-shr x 8 (8 * n) ∙ ap (λ (k : ℕ). x / 2 ^ k) (eight-suc n)

pub le-append : (n m x : ℕ) → le_bytes (n + m) x ≡ le_bytes n x ++ le_bytes m (x / 2 ^ (8 * n))
unfolding le_bytes
le-append zero m x = ap₂ le_bytes (zero-add m) (sym (div-one x))
le-append (suc n) m x =
    ap (λ (k : ℕ). le_bytes k x) (suc-add n m)
    ∙ ap (λ (l : List ℕ). x % 256 ∷ l) (le-append n m (x / 256) ∙ ap (λ (y : ℕ). le_bytes n (x / 256) ++ le_bytes m y) (shift_suc n x))

-- byte j
pub get-le : (n x j : ℕ) → j < n → get_or (le_bytes n x) j 0 ≡ x / 2 ^ (8 * j) % 256
unfolding le_bytes
get-le zero x j h = absurd (not-suc-le-zero h)
get-le (suc n) x zero h = ap (λ (y : ℕ). y % 256) (sym (div-one x))
get-le (suc n) x (suc j) h = get-le n (x / 256) j (le_of_suc-le-suc h) ∙ ap (λ (y : ℕ). y % 256) (shift_suc j x)

mod-byte : (n x : ℕ) → x % 2 ^ (8 * suc n) % 256 ≡ x % 256
mod-byte n x =
    let e : 8 * suc n ≡ 8 * n + 8 = omega arith in
    rw e (mod-mod-pow x (8 * n) 8)

div-byte : (n x : ℕ) → x % 2 ^ (8 * suc n) / 256 ≡ x / 256 % 2 ^ (8 * n)
div-byte n x =
    let e : 8 * suc n ≡ 8 * n + 8 = omega arith in
    rw e (field x (8 * n) 8)

-- only the n lowest bytes count
pub le-mod : (n x : ℕ) → le_bytes n (x % 2 ^ (8 * n)) ≡ le_bytes n x
unfolding le_bytes
le-mod zero x = refl
le-mod (suc n) x = ap₂ (λ (b : ℕ) (l : List ℕ). b ∷ l) (mod-byte n x) (ap (le_bytes n) (div-byte n x) ∙ le-mod n (x / 256))

byte_low : (b q : ℕ) → b < 256 → (b + 256 * q) % 256 ≡ b
byte_low b q h = omega arith

byte_high : (b q : ℕ) → b < 256 → (b + 256 * q) / 256 ≡ q
byte_high b q h = omega arith

-- bytes of the number that bytes make
pub le-number : (bs : List ℕ) → ((i : ℕ) → get_or bs i 0 < 256) → le_bytes (length bs) (number bs) ≡ bs
unfolding le_bytes number
le-number [] h = refl
le-number (b ∷ bs) h =
    ap₂ (λ (c : ℕ) (l : List ℕ). c ∷ l) (byte_low b (number bs) (h 0))
    (ap (le_bytes (length bs)) (byte_high b (number bs) (h 0)) ∙ le-number bs (λ i. h (suc i)))

pub length-words : (ws : List ℕ) → length (word_bytes ws) ≡ 8 * length ws
unfolding word_bytes
length-words [] = refl
length-words (w ∷ ws) =
    length-append (le_bytes 8 w) (word_bytes ws) ∙ ap₂ (λ (x y : ℕ). x + y) (length-le 8 w) (length-words ws) ∙ eight-suc (length ws)

pub one_word : (w : ℕ) → word_bytes (w ∷ []) ≡ le_bytes 8 w
unfolding word_bytes
one_word w = append-nil (le_bytes 8 w)

-- the bytes of a word that std's method of this name gives
pub le-eight : (x : ℕ) → to_le_bytes w64 x ≡ le_bytes 8 x
unfolding le_bytes
le-eight x =
    let b : x / 256 / 256 ≡ x / 65536 = omega arith in
    let c : x / 65536 / 256 ≡ x / 16777216 = omega arith in
    let d : x / 16777216 / 256 ≡ x / 4294967296 = omega arith in
    let e : x / 4294967296 / 256 ≡ x / 1099511627776 = omega arith in
    let f : x / 1099511627776 / 256 ≡ x / 281474976710656 = omega arith in
    let g : x / 281474976710656 / 256 ≡ x / 72057594037927936 = omega arith in
    simp (b, c, d, e, f, g)

pub get-eight : (x j : ℕ) → j < 8 → get_or (to_le_bytes w64 x) j 0 ≡ x / 2 ^ (8 * j) % 256
get-eight x j h = ap (λ (l : List ℕ). get_or l j 0) (le-eight x) ∙ get-le 8 x j h
