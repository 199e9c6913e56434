-- Parts as one byte string, and the hash of it.
-- Source: document 01, "Hash and transcript"; the Rust's `serialize_parts` and `sha3_domain`.
-- Assumes nothing.
use Rattle.std.specs.Prelude.{ℕ, ◌+◌, cond, Result, Ok, Err, List, [], ◌∷◌, ◌++◌, length, take, drop, replicate, ◌==◌}
use Rattle.magnetar_field.specs.declared.refusal.Refusal.{Refusal}
use Rattle.magnetar_field.specs.Number.{number}
use Rattle.magnetar_hash.specs.Bytes.{le_bytes}
use Rattle.magnetar_hash.specs.Sha3.{sha3}

-- the parts, each as its length in 8 bytes and then its bytes
unfoldable pub framed : List (List ℕ) → List ℕ
framed [] = []
framed (p ∷ ps) = le_bytes 8 (length p) ++ p ++ framed ps

-- the count of the parts as 8 bytes, then the parts
unfoldable pub serialize_parts : List (List ℕ) → List ℕ
serialize_parts ps = le_bytes 8 (length ps) ++ framed ps

-- SHA3-256 of the parts
unfoldable pub sha3_domain : List (List ℕ) → List ℕ
sha3_domain ps = sha3 (serialize_parts ps)

-- the parts of a byte string that have these lengths, one after the other
unfoldable pub parts : List ℕ → List ℕ → List (List ℕ)
parts [] bs = []
parts (n ∷ ns) bs = take n bs ∷ parts ns (drop n bs)

-- the sum of lengths
unfoldable pub total_length : List ℕ → ℕ
total_length [] = 0
total_length (n ∷ ns) = n + total_length ns

-- 32 bytes 0, in the place of a hash that is refused
abbrev pub no_digest : List ℕ
no_digest = replicate 32 0

-- the number of the refusal, 0 for none, and the hash, all 0 where the call is refused
pub record DigestAnswer : Type 0 where
  pub code : ℕ
  pub digest : List ℕ

-- what a call hands back, as such an answer
abbrev pub hash_answer_of : Result (List ℕ) Refusal → DigestAnswer
hash_answer_of (Ok d) = record { code = 0; digest = d }
hash_answer_of (Err r) = record { code = number r; digest = no_digest }

-- the answer of a hash of parts: 17 where the lengths don't add up to the bytes
unfoldable pub domain_answer : List ℕ → List ℕ → DigestAnswer
domain_answer bs ns =
    cond (total_length ns == length bs) (record { code = 0; digest = sha3_domain (parts ns bs) }) (record { code = 17; digest = no_digest })
