-- The sponge that takes its message byte by byte gives SHA3-256.
-- Assumes nothing.
use Rattle.std.proofs.Common.{◌≡◌, ℕ, zero, suc, ◌+◌, ◌-◌, ◌*◌, ◌/◌, ◌%◌, ◌<◌, ◌≤◌, Bool, true, false, ltb, ◌⊎◌, List, [], ◌∷◌, ◌++◌, length, take, drop, replicate, sym, refl, ap, ◌∙◌, ap₂, inl, inr, ⊎_elim, add-zero, mod-lt, mod-eq_of_lt, zero-lt-suc, zero-add, zero-mul, add-one, arith, length-append, length-drop, length-set, take-append-drop, length-take-le, ltb-false, ltb-true, le-ltb, lt-ltb}
use lib.ListN.{length-replicate}
use lib.Seq.{set-get_or}
use Rattle.magnetar_keccak.specs.Keccak.{permuted}
use Rattle.magnetar_keccak.proofs.Xor.{⊕-zero}
use Rattle.magnetar_keccak.proofs.Lanes.{length-permuted}
use Rattle.magnetar_hash.specs.Sha3.{rate, add_byte, add_bytes, absorb_blocks, padding, padded, squeezed, sha3}
use Rattle.magnetar_hash.specs.Sponge.{Sponge, sponge, turned, fed, finished, ValidFill, Fed}

lt-or-ge : (n m : ℕ) → (n < m) ⊎ (m ≤ n)
lt-or-ge n m = go (ltb n m) refl
  where
    go : (b : Bool) → ltb n m ≡ b → (n < m) ⊎ (m ≤ n)
    go true e = inl (ltb-true n m e)
    go false e = inr (ltb-false n m e)

-- ---- one step

pub turned-part : (s : List ℕ) (n : ℕ) → n < rate → turned s n ≡ sponge s n
unfolding turned
turned-part s n h = rw (lt-ltb n 136 h)

pub turned-full : (s : List ℕ) (n : ℕ) → rate ≤ n → turned s n ≡ sponge (permuted s) 0
unfolding turned
turned-full s n h = rw (le-ltb n 136 h)

-- ---- runs of bytes

pub fed-nil : (s : Sponge) → fed s [] ≡ s
unfolding fed
fed-nil s = refl

pub fed-append : (s : Sponge) (p q : List ℕ) → fed s (p ++ q) ≡ fed (fed s p) q
unfolding fed
fed-append s [] q = refl
fed-append s (b ∷ p) q = fed-append (turned (add_byte s.lanes s.fill b) (s.fill + 1)) p q

-- less than a block
fed-part-step
    : (s : List ℕ) (j b : ℕ) (p : List ℕ)
    → j + suc (length p) < rate
    → fed (sponge s j) (b ∷ p) ≡ fed (sponge (add_byte s j b) (suc j)) p
unfolding fed
fed-part-step s j b p h = ap (λ (t : Sponge). fed t p) (turned-part (add_byte s j b) (j + 1) (omega arith) ∙ ap (sponge (add_byte s j b)) (add-one j))

pub fed-part : (s : List ℕ) (j : ℕ) (p : List ℕ) → j + length p < rate → fed (sponge s j) p ≡ sponge (add_bytes s j p) (j + length p)
unfolding add_bytes fed
fed-part s j [] h = ap (sponge s) (sym (add-zero j))
fed-part s j (b ∷ p) h =
    fed-part-step s j b p h
    ∙ fed-part (add_byte s j b) (suc j) p (omega arith)
    ∙ ap (sponge (add_bytes (add_byte s j b) (suc j) p)) (omega arith)

-- what a block lacks
pub fed-block : (s : List ℕ) (j : ℕ) (p : List ℕ) → j < rate → j + length p ≡ rate → fed (sponge s j) p ≡ sponge (permuted (add_bytes s j p)) 0
unfolding add_bytes fed
fed-block s j [] h e = absurd (omega arith)
fed-block s j (b ∷ []) h e = turned-full (add_byte s j b) (j + 1) (omega arith)
fed-block s j (b ∷ (c ∷ p)) h e =
    let n : j + 1 < rate = omega arith in
    ap (λ (t : Sponge). fed t (c ∷ p)) (turned-part (add_byte s j b) (j + 1) n ∙ ap (sponge (add_byte s j b)) (add-one j))
    ∙ fed-block (add_byte s j b) (suc j) (c ∷ p) (omega arith) (omega arith)

-- n blocks
Blocks-step
    : (n : ℕ) (s p : List ℕ)
    → length p ≡ suc n * rate
    → fed (sponge s 0) p ≡ fed (sponge (permuted (add_bytes s 0 (take rate p))) 0) (drop rate p)
Blocks-step n s p e =
    let l : length (take rate p) ≡ rate = length-take-le rate p (omega arith) in
    ap (fed (sponge s 0)) (sym (take-append-drop rate p))
    ∙ fed-append (sponge s 0) (take rate p) (drop rate p)
    ∙ ap (λ (t : Sponge). fed t (drop rate p)) (fed-block s 0 (take rate p) (omega arith) (omega arith))

pub fed-blocks : (n : ℕ) (s p : List ℕ) → length p ≡ n * rate → fed (sponge s 0) p ≡ sponge (absorb_blocks n s p) 0
unfolding absorb_blocks fed
fed-blocks zero s [] e = refl
fed-blocks zero s (b ∷ p) e = absurd (omega arith)
fed-blocks (suc n) s p e =
    Blocks-step n s p e
    ∙ fed-blocks n (permuted (add_bytes s 0 (take rate p))) (drop rate p) (length-drop rate p ∙ omega arith)

-- ---- the fill

fill_step : (s : List ℕ) (j n : ℕ) → j < rate → ((turned s (j + 1)).fill + n) % rate ≡ (j + suc n) % rate
fill_step s j n h =
    ⊎_elim
    (λ l. ap (λ (t : Sponge). (t.fill + n) % rate) (turned-part s (j + 1) l) ∙ ap (λ (k : ℕ). k % rate) (omega arith))
    (λ l. ap (λ (t : Sponge). (t.fill + n) % rate) (turned-full s (j + 1) l) ∙ omega arith)
    (lt-or-ge (j + 1) rate)

turned-room : (s : List ℕ) (n : ℕ) → (turned s n).fill < rate
turned-room s n =
    ⊎_elim (λ l. rw (turned-part s n l) l) (λ l. rw (turned-full s n l) (zero-lt-suc 135)) (lt-or-ge n rate)

pub fed-fill : (t : Sponge) (p : List ℕ) → t.fill < rate → (fed t p).fill ≡ (t.fill + length p) % rate
unfolding fed
fed-fill t [] h = sym (mod-eq_of_lt {n = t.fill + 0} {m = rate} (omega arith) ∙ add-zero t.fill)
fed-fill t (b ∷ p) h =
    fed-fill (turned (add_byte t.lanes t.fill b) (t.fill + 1)) p (turned-room (add_byte t.lanes t.fill b) (t.fill + 1))
    ∙ fill_step (add_byte t.lanes t.fill b) t.fill (length p) h

-- ---- the lanes

turned-size : (s : List ℕ) (n : ℕ) → length s ≡ 25 → length (turned s n).lanes ≡ 25
turned-size s n e =
    ⊎_elim (λ l. rw (turned-part s n l) e) (λ l. rw (turned-full s n l) (length-permuted s)) (lt-or-ge n rate)

add-size : (s : List ℕ) (j b : ℕ) → length s ≡ 25 → length (add_byte s j b) ≡ 25
unfolding add_byte
add-size s j b e = rw length-set e

pub fed-size : (t : Sponge) (p : List ℕ) → length t.lanes ≡ 25 → length (fed t p).lanes ≡ 25
unfolding fed
fed-size t [] e = e
fed-size t (b ∷ p) e =
    fed-size (turned (add_byte t.lanes t.fill b) (t.fill + 1)) p
    (turned-size (add_byte t.lanes t.fill b) (t.fill + 1) (add-size t.lanes t.fill b e))

-- ---- a run, as the functions say it

pub fed_by : {t p s : List ℕ} {m n : ℕ} → ValidFill t m → sponge s n ≡ fed (sponge t m) p → Fed t m p s n
fed_by {t} {p} {s} {m} {n} h e =
    record {
      state = e;
      ready =
          record {
            size = rw (ap (λ (u : Sponge). u.lanes) e) (fed-size (sponge t m) p h.size);
            room = rw (ap (λ (u : Sponge). u.fill) e ∙ fed-fill (sponge t m) p h.room) (mod-lt (m + length p) (zero-lt-suc 135));
          };
    }

pub fed-join : {t p s q u : List ℕ} {m n k : ℕ} → Fed t m p s n → Fed s n q u k → Fed t m (p ++ q) u k
fed-join {t} {p} {s} {q} {u} {m} {n} {k} f g =
    record { state = g.state ∙ ap (λ (x : Sponge). fed x q) f.state ∙ sym (fed-append (sponge t m) p q); ready = g.ready }

-- ---- SHA3-256

length-padding : (n : ℕ) → length (padding n) ≡ n
unfolding padding
length-padding zero = refl
length-padding (suc zero) = refl
length-padding (suc (suc n)) = ap suc (length-append (replicate n 0) (0x80 ∷ []) ∙ ap (λ (k : ℕ). k + 1) (length-replicate n 0) ∙ add-one n)

pub sha3-fed : (m : List ℕ) → finished (fed (sponge (replicate 25 0) 0) m) ≡ sha3 m
unfolding finished sha3 padded
sha3-fed m =
    let z : List ℕ = replicate 25 0 in
    let p : List ℕ = m ++ padding (rate - length m % rate) in
    let f : (fed (sponge z 0) m).fill ≡ length m % rate = fed-fill (sponge z 0) m (zero-lt-suc 135) ∙ ap (λ (k : ℕ). k % rate) (zero-add (length m)) in
    let n : ℕ = rate - length m % rate in
    let l : length p ≡ length m + n = length-append m (padding n) ∙ ap (λ (k : ℕ). length m + k) (length-padding n) in
    let b : length p ≡ length p / rate * rate = omega arith in
    ap (λ (k : ℕ). squeezed (fed (fed (sponge z 0) m) (padding (rate - k))).lanes) f
    ∙ ap (λ (t : Sponge). squeezed t.lanes) (sym (fed-append (sponge z 0) m (padding (rate - length m % rate))) ∙ fed-blocks (length p / rate) z p b)

pub sha3-of : {p s : List ℕ} {n : ℕ} → Fed (replicate 25 0) 0 p s n → finished (sponge s n) ≡ sha3 p
sha3-of {p} f = ap finished f.state ∙ sha3-fed p

-- ---- zeros

add-zero-byte : (s : List ℕ) (j : ℕ) → add_byte s j 0 ≡ s
unfolding add_byte
add-zero-byte s j = rw (zero-mul, ⊕-zero, set-get_or)

add-zeros : (n j : ℕ) (s : List ℕ) → add_bytes s j (replicate n 0) ≡ s
unfolding add_bytes
add-zeros zero j s = refl
add-zeros (suc n) j s = ap (λ (t : List ℕ). add_bytes t (suc j) (replicate n 0)) (add-zero-byte s j) ∙ add-zeros n (suc j) s

pub fed-zeros : (s : List ℕ) (j n : ℕ) → j + n < rate → fed (sponge s j) (replicate n 0) ≡ sponge s (j + n)
fed-zeros s j n h =
    let z : List ℕ = replicate n 0 in
    let l : length z ≡ n = length-replicate n 0 in
    fed-part s j z (omega arith) ∙ ap₂ sponge (add-zeros n j s) (ap (λ (k : ℕ). j + k) l)
