-- The digest's numbers as the code feeds them to the hash. Only the contracts of private functions cite these definitions.
-- Assumes nothing.
use Rattle.std.specs.Prelude.{ℕ, ◌+◌, ◌*◌, ◌%◌, ◌^◌, List, [], ◌∷◌, length}
use Rattle.magnetar_hash.specs.Bytes.{word_bytes}
use Rattle.magnetar_hash.specs.Sponge.{fed, within, started}
use Rattle.magnetar_hash.specs.declared.hasher.Sponge.{Sponge}
use Rattle.magnetar_relation.specs.declared.shapes.Shapes.{Shapes}
use Rattle.magnetar_digest.specs.Digest.{domain, head_numbers}

-- words are fed
unfoldable pub words_fed : Sponge → List ℕ → Sponge
words_fed s ws = fed (within s) (word_bytes ws)

-- the words that f makes of each of a list, one after the other
unfoldable pub each_fed : {A : Type 0} → (A → List ℕ) → List A → Sponge → Sponge
each_fed f [] s = s
each_fed f (x ∷ xs) s = each_fed f xs (words_fed s (f x))

-- how many bytes the numbers of l segments and n entries have, modulo 2^64
abbrev pub size_of : ℕ → ℕ → ℕ
size_of l n = 8 * (21 + l + 4 * n) % 2 ^ 64

-- the hash is started, for n entries, and fed the numbers in front of them
unfoldable pub head_fed : (m q : ℕ) → List ℕ → Shapes → ℕ → Sponge
head_fed m q ns s n = words_fed (started domain (size_of (length ns) n)) (head_numbers m q ns s)
