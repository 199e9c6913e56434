-- SHA3-256 on bytes. Bit k of byte j of a string is its bit 8 * j + k, so byte j of a state is bits 8 * (j mod 8) and up of lane j / 8.
-- Source: FIPS 202, sections 4 (the sponge, Algorithm 8), 5.1 (its padding), 6.1 (SHA3-256), B.1 (bytes) and 3.1.2 (lanes).
-- Assumes nothing.
use Rattle.std.specs.Prelude.{ℕ, zero, suc, ◌-◌, ◌*◌, ◌/◌, ◌%◌, ◌^◌, List, [], ◌∷◌, ◌++◌, length, take, drop, replicate, slice_index, slice_index_or, slice_set}
use Rattle.magnetar_field.specs.Tabulate.{tabulate}
use Rattle.magnetar_keccak.specs.State.{◌⊕◌}
use Rattle.magnetar_keccak.specs.Keccak.{permuted}

-- the rate of 1088 bits, in bytes: 1600 - 2 * 256 bits (section 6.1)
abbrev pub rate : ℕ
rate = 136

-- a byte is added to byte j of a state
unfoldable pub add_byte : List ℕ → ℕ → ℕ → List ℕ
add_byte s j b = slice_set s (j / 8) (slice_index_or s (j / 8) 0 ⊕ b * 2 ^ (8 * (j % 8)))

-- bytes are added to a state, from its byte j on
unfoldable pub add_bytes : List ℕ → ℕ → List ℕ → List ℕ
add_bytes s j [] = s
add_bytes s j (b ∷ p) = add_bytes (add_byte s j b) (suc j) p

-- Algorithm 8, step 6: the state s after n blocks from the front of p, S = f (S ⊕ (P || 0^c)) for each
unfoldable pub absorb_blocks : ℕ → List ℕ → List ℕ → List ℕ
absorb_blocks zero s p = s
absorb_blocks (suc n) s p = absorb_blocks n (permuted (add_bytes s 0 (take rate p))) (drop rate p)

-- the suffix 01 of SHA-3 (section 6.1) and pad10*1 (section 5.1), as n bytes: the bits 011 first, a 1 last, and 0 between
unfoldable pub padding : ℕ → List ℕ
padding zero = []
padding (suc zero) = 0x86 ∷ []
padding (suc (suc n)) = 0x06 ∷ (replicate n 0 ++ 0x80 ∷ [])

-- Algorithm 8, step 1: a message, padded to a multiple of the rate
unfoldable pub padded : List ℕ → List ℕ
padded m = m ++ padding (rate - length m % rate)

-- byte j of a state
unfoldable pub state_byte : List ℕ → ℕ → ℕ
state_byte s j = slice_index s (j / 8) / 2 ^ (8 * (j % 8)) % 256

-- Algorithm 8, steps 7 to 9: the first 32 bytes of a state
unfoldable pub squeezed : List ℕ → List ℕ
squeezed s = tabulate (state_byte s) 32

-- SHA3-256 of a message (section 6.1)
unfoldable pub sha3 : List ℕ → List ℕ
sha3 m = squeezed (absorb_blocks (length (padded m) / rate) (replicate 25 0) (padded m))
