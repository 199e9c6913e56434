-- Laws on what is written.
-- Assumes nothing.
use Rattle.std.proofs.Common.{◌≡◌, ℕ, ◌+◌, ◌-◌, ◌*◌, ◌/◌, ◌%◌, ◌^◌, ◌<◌, false, List, [], ◌∷◌, ◌++◌}
use Rattle.std.proofs.Common.{length, get_or, take, codes, refl, arith}
use Rattle.std.specs.Fmt.{digits, padded_integral, format_spec}
use Rattle.std.proofs.lemmas.Fmt.{hex_byte}
use Rattle.std.proofs.lemmas.List.{take_more, flat_map_more, append-nil}
use Rattle.magnetar_field.specs.Words.{words}
use Rattle.magnetar_replay.specs.Text.{words_text, byte_digits, bytes_text, element_text}

-- one more byte
pub byte_more : (bs : List ℕ) (i : ℕ) → i < length bs → get_or bs i 0 < 256
    → bytes_text (take i bs) ++ padded_integral (format_spec 32 0 4 2 (2 ^ 64 - 1)) false [] (digits 16 false (get_or bs i 0))
    ≡ bytes_text (take (i + 1) bs)
byte_more bs i l small = rw (hex_byte false (get_or bs i 0) small, take_more bs i 0 l) (flat_map_more byte_digits [] (take i bs) (get_or bs i 0))

-- two words
two_words : (lo hi : ℕ) → codes "2 0x" ++ (digits 16 false lo ++ (codes " 0x" ++ digits 16 false hi)) ≡ words_text (lo ∷ (hi ∷ []))
unfolding digits
two_words lo hi = rw append-nil refl

-- the two words of an element
pub element_written : (lo hi : ℕ) → lo < 2 ^ 64
    → codes "2 0x" ++ (digits 16 false lo ++ (codes " 0x" ++ digits 16 false hi)) ≡ element_text (hi * 2 ^ 64 + lo)
unfolding words
element_written lo hi l =
    let low : (hi * 2 ^ 64 + lo) % 2 ^ 64 ≡ lo = omega arith in
    let high : (hi * 2 ^ 64 + lo) / 2 ^ 64 ≡ hi = omega arith in
    rw (low, high) (two_words lo hi)
