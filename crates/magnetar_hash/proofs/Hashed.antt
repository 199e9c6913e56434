-- A hash that is fed piece by piece: what its three functions give together.
-- Assumes nothing.
use Rattle.std.proofs.Common.{◌≡◌, ℕ, ◌+◌, ◌<◌, List, [], ◌∷◌, ◌++◌, length, replicate, sym, refl, ap, ◌∙◌, append_assoc, mod-lt, mod-eq_of_lt, zero-lt-suc}
use Rattle.magnetar_hash.specs.Bytes.{le_bytes, word_bytes}
use Rattle.magnetar_hash.specs.Sha3.{rate}
use Rattle.magnetar_hash.specs.Parts.{framed, serialize_parts, sha3_domain}
use Rattle.magnetar_hash.specs.Sponge.{Sponge, sponge, fed, finished, within, started}
use Rattle.magnetar_hash.proofs.Stream.{fed-append, fed-fill, sha3-fed}
use Rattle.magnetar_hash.proofs.Parts.{framed-one, framed-append}

-- ---- the fill stays within a block
in_block : (s : Sponge) → s.fill < rate → within s ≡ s
in_block s h = ap (sponge s.lanes) (mod-eq_of_lt h)

fed-room : (s : Sponge) (p : List ℕ) → s.fill < rate → (fed s p).fill < rate
fed-room s p h = rw (fed-fill s p h) (mod-lt (s.fill + length p) (zero-lt-suc 135))

within-room : (s : Sponge) → (within s).fill < rate
within-room s = mod-lt s.fill (zero-lt-suc 135)

pub within-started : (d : List ℕ) (n : ℕ) → within (started d n) ≡ started d n
unfolding started
within-started d n = in_block (started d n) (fed-room (sponge (replicate 25 0) 0) (le_bytes 8 2 ++ framed (d ∷ []) ++ le_bytes 8 n) (zero-lt-suc 135))

pub within-fed : (s : Sponge) (p : List ℕ) → within (fed (within s) p) ≡ fed (within s) p
within-fed s p = in_block (fed (within s) p) (fed-room (within s) p (within-room s))

-- ---- pieces
words_append : (a b : List ℕ) → word_bytes (a ++ b) ≡ word_bytes a ++ word_bytes b
unfolding word_bytes
words_append [] b = refl
words_append (w ∷ a) b =
    ap (λ (l : List ℕ). le_bytes 8 w ++ l) (words_append a b) ∙ sym (append_assoc (le_bytes 8 w) (word_bytes a) (word_bytes b))

-- two pieces of words are one
pub fed-twice
    : (s : Sponge) (a b : List ℕ)
    → fed (within (fed (within s) (word_bytes a))) (word_bytes b) ≡ fed (within s) (word_bytes (a ++ b))
fed-twice s a b =
    rw (within-fed s (word_bytes a), words_append a b) (sym (fed-append (within s) (word_bytes a) (word_bytes b)))

-- ---- the hash of a domain and one more part p, whose length the start was told
pub hashed-parts
    : (d p : List ℕ) (n : ℕ)
    → le_bytes 8 n ≡ le_bytes 8 (length p)
    → finished (within (fed (within (started d n)) p)) ≡ sha3_domain (d ∷ p ∷ [])
unfolding started serialize_parts sha3_domain
hashed-parts d p n e =
    let z : Sponge = sponge (replicate 25 0) 0 in
    let l : List ℕ = le_bytes 8 (length p) in
    let h : List ℕ = le_bytes 8 2 ++ framed (d ∷ []) in
    let f : h ++ l ++ p ≡ serialize_parts (d ∷ p ∷ []) =
    append_assoc h l p
    ∙ append_assoc (le_bytes 8 2) (framed (d ∷ [])) (l ++ p)
    ∙ ap (λ (r : List ℕ). le_bytes 8 2 ++ r) (ap (λ (r : List ℕ). framed (d ∷ []) ++ r) (framed-one p) ∙ sym (framed-append (d ∷ []) (p ∷ [])))
    in
    rw (within-fed (started d n) p, within-started d n, e)
    (ap finished (sym (fed-append z (h ++ l) p) ∙ ap (fed z) f) ∙ sha3-fed (serialize_parts (d ∷ p ∷ [])))
