-- A sponge that takes its message byte by byte, as the code runs it. Of the public contracts only those of `hasher` cite it: that it gives
-- SHA3-256 (FIPS 202) is `sha3-fed` of the proofs, and that the three functions of `hasher` together do is `hashed-parts`.
-- Assumes nothing.
use Rattle.std.specs.Prelude.{◌≡◌, ℕ, ◌+◌, ◌-◌, ◌%◌, ◌<◌, cond, List, [], ◌∷◌, ◌++◌, length, replicate, nat_lt}
use Rattle.magnetar_keccak.specs.Keccak.{permuted}
use Rattle.magnetar_hash.specs.Bytes.{le_bytes}
use Rattle.magnetar_hash.specs.Sha3.{rate, add_byte, padding, squeezed}
use Rattle.magnetar_hash.specs.Parts.{framed}
-- a state, to which the first `fill` bytes of a block have been added
pub use Rattle.magnetar_hash.specs.declared.hasher.Sponge.{Sponge}

-- a sponge from its lanes and its fill
abbrev pub sponge : List ℕ → ℕ → Sponge
sponge s n = record { lanes = s; fill = n }

-- n bytes of the block are there: a whole block is permuted
unfoldable pub turned : List ℕ → ℕ → Sponge
turned s n = cond (nat_lt n rate) (sponge s n) (sponge (permuted s) 0)

-- the sponge that has taken in nothing
abbrev pub empty : Sponge
empty = sponge (replicate 25 0) 0

-- bytes are taken in
unfoldable pub fed : Sponge → List ℕ → Sponge
fed s [] = s
fed s (b ∷ p) = fed (turned (add_byte s.lanes s.fill b) (s.fill + 1)) p

-- the padding is taken in, and the hash put out
unfoldable pub finished : Sponge → List ℕ
finished s = squeezed (fed s (padding (rate - s.fill))).lanes

-- the sponge with its fill within a block
abbrev pub within : Sponge → Sponge
within s = sponge s.lanes (s.fill % rate)

-- an empty sponge has taken in the parts d and a second one of n bytes, up to the bytes of the second
unfoldable pub started : List ℕ → ℕ → Sponge
started d n = fed (sponge (replicate 25 0) 0) (le_bytes 8 2 ++ framed (d ∷ []) ++ le_bytes 8 n)

-- s has its 25 lanes, and a block has room for a byte after n
pub record ValidFill (s : List ℕ) (n : ℕ) : Type 0 where
  pub size : length s ≡ 25
  pub room : n < rate

-- s and n are what the bytes p make of t and m
pub record Fed (t : List ℕ) (m : ℕ) (p : List ℕ) (s : List ℕ) (n : ℕ) : Type 0 where
  pub state : sponge s n ≡ fed (sponge t m) p
  pub ready : ValidFill s n

-- the same of sponges
abbrev pub Ready : Sponge → Type 0
Ready s = ValidFill s.lanes s.fill

abbrev pub Takes : Sponge → List ℕ → Sponge → Type 0
Takes t p s = Fed t.lanes t.fill p s.lanes s.fill
