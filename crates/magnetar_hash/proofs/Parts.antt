-- Parts that are taken in: one, one after the other, as many as there are lengths, and the hash of them all.
-- Assumes nothing.
use Rattle.std.proofs.Common.{◌≡◌, ℕ, suc, ◌+◌, ◌<◌, ◌≤◌, List, [], ◌∷◌, ◌++◌, length, get_or, take, drop, replicate, sym, refl, ap, ◌∙◌, subst, append_assoc, append-nil, add-one, drop_of_length-le, drop-cons}
use Rattle.magnetar_hash.specs.Bytes.{le_bytes}
use Rattle.magnetar_hash.specs.Parts.{framed, serialize_parts, sha3_domain, parts}
use Rattle.magnetar_hash.specs.Sponge.{Fed, sponge, finished}
use Rattle.magnetar_hash.proofs.Stream.{fed-join, sha3-of}
use Rattle.magnetar_hash.proofs.Left.{Left, left-more, left-none}

pub framed-one : (p : List ℕ) → le_bytes 8 (length p) ++ p ≡ framed (p ∷ [])
unfolding framed
framed-one p = sym (append-nil (le_bytes 8 (length p) ++ p))

pub framed-append : (ps qs : List (List ℕ)) → framed (ps ++ qs) ≡ framed ps ++ framed qs
unfolding framed
framed-append [] qs = refl
framed-append (p ∷ ps) qs =
    ap (λ (l : List ℕ). le_bytes 8 (length p) ++ p ++ l) (framed-append ps qs) ∙ sym (append_assoc (le_bytes 8 (length p) ++ p) (framed ps) (framed qs))

-- a part's length and the part are taken in
pub part-fed
    : {t s u : List ℕ} {m n k x : ℕ} (p : List ℕ) → x ≡ length p → Fed t m (le_bytes 8 x) s n → Fed s n p u k → Fed t m (framed (p ∷ [])) u k
part-fed {t} {s} {u} {m} {n} {k} p e f g =
    subst (λ (l : List ℕ). Fed t m l u k) (ap (λ (x : ℕ). le_bytes 8 x ++ p) e ∙ framed-one p) (fed-join f g)

pub parts_join
    : {t s u : List ℕ} {m n k : ℕ} (ps qs : List (List ℕ)) → Fed t m (framed ps) s n → Fed s n (framed qs) u k → Fed t m (framed (ps ++ qs)) u k
parts_join {t} {s} {u} {m} {n} {k} ps qs f g = subst (λ (l : List ℕ). Fed t m l u k) (sym (framed-append ps qs)) (fed-join f g)

-- ---- as many as there are lengths

pub length-parts : (ns bs : List ℕ) → length (parts ns bs) ≡ length ns
unfolding parts
length-parts [] bs = refl
length-parts (n ∷ ns) bs = ap suc (length-parts ns (drop n bs))

parts_next
    : (lens bytes : List ℕ) (i : ℕ)
    → i < length lens
    → framed (parts (drop i lens) bytes)
    ≡ framed (take (get_or lens i 0) bytes ∷ []) ++ framed (parts (drop (i + 1) lens) (drop (get_or lens i 0) bytes))
unfolding parts
parts_next lens bytes i h =
    let n : ℕ = get_or lens i 0 in
    rw (add-one, drop-cons lens i 0 h) (framed-append (take n bytes ∷ []) (parts (drop (suc i) lens) (drop n bytes)))

pub left-part
    : {t p s u : List ℕ} {m n k : ℕ} (lens bytes part rest : List ℕ) (i : ℕ)
    → i < length lens
    → part ≡ take (get_or lens i 0) bytes
    → rest ≡ drop (get_or lens i 0) bytes
    → Left t m p s n (framed (parts (drop i lens) bytes))
    → Fed s n (framed (part ∷ [])) u k
    → Left t m p u k (framed (parts (drop (i + 1) lens) rest))
left-part {t} {p} {s} {u} {m} {n} {k} lens bytes part rest i h e d l f =
    rw d (left-more (subst (Left t m p s n) (parts_next lens bytes i h) l) (rw e at f))

pub left-parts-end
    : {t p s : List ℕ} {m n : ℕ} (lens bytes : List ℕ) (i : ℕ)
    → length lens ≤ i
    → Left t m p s n (framed (parts (drop i lens) bytes))
    → Fed t m p s n
unfolding framed parts
left-parts-end {t} {p} {s} {m} {n} lens bytes i h l =
    left-none (subst (λ (r : List ℕ). Left t m p s n (framed (parts r bytes))) (drop_of_length-le lens {i = i} h) l)

-- ---- the hash

-- the count, then the parts
pub serialized
    : {t s u : List ℕ} {m n k x : ℕ} (ps : List (List ℕ))
    → x ≡ length ps
    → Fed t m (le_bytes 8 x) s n
    → Fed s n (framed ps) u k
    → Fed t m (serialize_parts ps) u k
unfolding serialize_parts
serialized {t} {s} {u} {m} {n} {k} ps e f g = subst (λ (y : ℕ). Fed t m (le_bytes 8 y ++ framed ps) u k) e (fed-join f g)

pub domain-of : {s : List ℕ} {n : ℕ} (ps : List (List ℕ)) → Fed (replicate 25 0) 0 (serialize_parts ps) s n → finished (sponge s n) ≡ sha3_domain ps
unfolding sha3_domain
domain-of ps f = sha3-of f

-- the four parts of an absorption or a draw
pub four-parts
    : {s u : List ℕ} {n k : ℕ} (a b c d : List ℕ)
    → Fed (replicate 25 0) 0 (le_bytes 8 4 ++ framed (a ∷ b ∷ c ∷ [])) s n
    → Fed s n (framed (d ∷ [])) u k
    → finished (sponge u k) ≡ sha3_domain (a ∷ b ∷ c ∷ d ∷ [])
unfolding serialize_parts
four-parts {s} {u} {n} {k} a b c d f g =
    let e : le_bytes 8 4 ++ framed (a ∷ b ∷ c ∷ []) ++ framed (d ∷ []) ≡ le_bytes 8 4 ++ framed (a ∷ b ∷ c ∷ d ∷ []) =
    append_assoc (le_bytes 8 4) (framed (a ∷ b ∷ c ∷ [])) (framed (d ∷ []))
    ∙ ap (λ (l : List ℕ). le_bytes 8 4 ++ l) (sym (framed-append (a ∷ b ∷ c ∷ []) (d ∷ [])))
    in
    domain-of (a ∷ b ∷ c ∷ d ∷ []) (subst (λ (l : List ℕ). Fed (replicate 25 0) 0 l u k) e (fed-join f g))
