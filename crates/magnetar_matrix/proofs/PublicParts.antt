-- The public words of a login among those of a batch: where they stand, when the next login has the same, and the columns that they hold.
-- Assumes nothing.
use mathlib.Core.Path.{◌≡◌, refl, sym, ap, ◌∙◌}
use mathlib.Core.Bool.{Bool, true, false, ◌&&◌}
use mathlib.Core.List.{List, []}
use Prim.Native.Nat.{ℕ, zero, suc, ◌+◌, ◌-◌, ◌*◌, ◌^◌, ◌≤◌, ◌<◌}
use native.Mathlib.Nat.{mul-le-mul_left, mul-le-mul_right, le_trans}
use native.Mathlib.Omega.{arith}
use lib.Dec.{eqb, ltb, leb, lit<}
use lib.ListN.{length, get_or, take, drop, length-drop, length-take, get_or-eq_default}
use lib.Seq.{get_or-take, get_or-drop, length-take-le, ext_get_or, take_at}
use borrow.Author.Tests.{eqb-true, ne_eqb, eq-eqb, ltb-true, ltb-false, le-leb, lt-leb, leb-true}
use Rattle.std.specs.List.{starts_with}
use Rattle.std.proofs.lemmas.List.{take-append-drop}
use Rattle.std.proofs.lemmas.Bool.Decides.{Decides-eqb}
use Rattle.std.proofs.lemmas.Slice.Eq.{starts_is}
use Rattle.magnetar_field.specs.Words.{elements}
use Rattle.magnetar_field.proofs.Elements.{elements-length, elements-below}
use Rattle.magnetar_field.proofs.Tabulation.{tabulate-length, tabulate-get}
use Rattle.magnetar_layout.proofs.EveryLaws.{both}
use Rattle.magnetar_matrix.specs.Batch.{public_columns}
use Rattle.magnetar_matrix.specs.Packed.{public_words, public_part, public_of}
use Rattle.magnetar_matrix.specs.Table.{agree, repeated}
use Rattle.magnetar_matrix.proofs.LoginParts.{part-ends}

-- ---- words that are repeated
never : (a b : Bool) → a ≡ false → (a && b) ≡ false
never a b e = rw e

pub agree-start : (k : ℕ) (s : List ℕ) → agree k s 0 ≡ true
unfolding agree
agree-start k s = refl

pub agree-more : (k : ℕ) (s : List ℕ) (i : ℕ) → agree k s i ≡ true → get_or s i 0 ≡ get_or s (k + i) 0 → agree k s (suc i) ≡ true
unfolding agree
agree-more k s i a e = rw (a, eq-eqb (get_or s i 0) (get_or s (k + i) 0) e)

agree-not : (k : ℕ) (s : List ℕ) (i : ℕ) → (get_or s i 0 ≡ get_or s (k + i) 0 → ⊥) → (d : ℕ) → agree k s (suc i + d) ≡ false
unfolding agree
agree-not k s i h zero = let e : suc i + 0 ≡ suc i = omega arith in rw (e, ne_eqb (get_or s i 0) (get_or s (k + i) 0) h) (last (agree k s i))
  where
    last : (b : Bool) → (b && false) ≡ false
    last true = refl
    last false = refl
agree-not k s i h (suc d) =
    let e : suc i + suc d ≡ suc (suc i + d) = omega arith in
    rw e (never (agree k s (suc i + d)) _ (agree-not k s i h d))

pub repeated-some : (k : ℕ) (s : List ℕ) → 2 * k ≤ length s → agree k s k ≡ true → repeated k s ≡ true
unfolding repeated
repeated-some k s l a = rw (le-leb (2 * k) (length s) l, a)

pub repeated-short : (k : ℕ) (s : List ℕ) → length s < 2 * k → repeated k s ≡ false
unfolding repeated
repeated-short k s l = rw (lt-leb (2 * k) (length s) l)

pub repeated-not : (k : ℕ) (s : List ℕ) (i : ℕ) → 2 * k ≤ length s → i < k → (get_or s i 0 ≡ get_or s (k + i) 0 → ⊥) → repeated k s ≡ false
unfolding repeated
repeated-not k s i l b h =
    let e : suc i + (k - suc i) ≡ k = omega arith in
    rw (le-leb (2 * k) (length s) l) (rw e at (agree-not k s i h (k - suc i)))

agree_at : (k : ℕ) (s : List ℕ) (n : ℕ) → agree k s n ≡ true → (i : ℕ) → i < n → get_or s i 0 ≡ get_or s (k + i) 0
unfolding agree
agree_at k s zero a i l = absurd (omega arith)
agree_at k s (suc n) a i l = go (ltb i n) refl (λ h. agree_at k s n (both (agree k s n) _ a).0 i h)
  where
    go : (b : Bool) → ltb i n ≡ b → (i < n → get_or s i 0 ≡ get_or s (k + i) 0) → get_or s i 0 ≡ get_or s (k + i) 0
    go true t h = h (ltb-true i n t)
    go false t h =
        let e : i ≡ n = omega (arith, ltb-false i n t) in
        rw e (eqb-true (get_or s n 0) (get_or s (k + n) 0) (both (agree k s n) _ a).1)

-- the k words behind the first k are the first k
pub repeated-is : (k : ℕ) (s : List ℕ) → repeated k s ≡ true → take k (drop k s) ≡ take k s
unfolding repeated
repeated-is k s r =
    let b = both (leb (2 * k) (length s)) (agree k s k) r in
    let l : 2 * k ≤ length s = leb-true (2 * k) (length s) b.0 in
    let d : length (drop k s) ≡ length s - k = length-drop k s in
    let n : length (take k (drop k s)) ≡ k = length-take-le k (drop k s) (omega arith) in
    let m : length (take k s) ≡ k = length-take-le k s (omega arith) in
    ext_get_or 0 (take k (drop k s)) (take k s) (n ∙ sym m)
    (λ i h. let g : i < k = rw n at h in
    rw (get_or-take k (drop k s) i 0 g, get_or-drop k s i 0, get_or-take k s i 0 g) (sym (agree_at k s k b.1 i g)))

-- and where they are, the first k words are repeated
agree-same : (k : ℕ) (s : List ℕ) → take k (drop k s) ≡ take k s → (n : ℕ) → n ≤ k → agree k s n ≡ true
agree-same k s e zero l = agree-start k s
agree-same k s e (suc n) l =
    let h : n < k = omega arith in
    let same : get_or (take k (drop k s)) n 0 ≡ get_or (take k s) n 0 = ap (λ (t : List ℕ). get_or t n 0) e in
    agree-more k s n (agree-same k s e n (omega arith))
    (sym (get_or-take k s n 0 h) ∙ sym same ∙ get_or-take k (drop k s) n 0 h ∙ get_or-drop k s n 0)

-- so they are where what is behind the first k words starts with these
pub repeated-starts : (k : ℕ) (s : List ℕ) → 2 * k ≤ length s → (r : Bool) → r ≡ starts_with eqb (drop k s) (take k s) → r ≡ repeated k s
repeated-starts k s l true e =
    let d : length (take k s) ≡ k = length-take-le k s (omega arith) in
    let whole = (starts_is Decides-eqb (drop k s) (take k s) true e).0 refl in
    let same : take k (drop k s) ≡ take k s = rw whole (take_at (take k s) (drop (length (take k s)) (drop k s)) k d) in
    sym (repeated-some k s l (agree-same k s same k (omega arith)))
repeated-starts k s l false e = go (repeated k s) refl
  where
    go : (b : Bool) → repeated k s ≡ b → false ≡ repeated k s
    go false h = sym h
    go true h =
        let part = (starts_is Decides-eqb (drop k s) (take k s) false e).1 (drop k (drop k s)) in
        part (rw (← repeated-is k s h) (sym (take-append-drop k (drop k s)))) ∙ sym h

-- ---- the public words of a login are a part of those of the batch
pub public-most : (q w : ℕ) → q ≤ 4096 → w ≤ 32768 → q * public_words w ≤ 268435456
public-most q w h l =
    let a : public_words w ≤ 65536 = omega arith in
    le_trans (mul-le-mul_left q a) (mul-le-mul_right 65536 h)

-- the part of login u, among the public words of q logins with k words each
pub record PublicPart (n k u q : ℕ) : Type 0 where
  pub ends : u * k + k ≤ n
  pub small : n ≤ 268435456

pub public-part : (w n k u q : ℕ) → q ≤ 4096 → w ≤ 32768 → k ≡ public_words w → n ≡ q * public_words w → u < q → PublicPart n k u q
public-part w n k u q hq hw e l h =
    let m : n ≡ q * k = rw e l in
    record { ends = rw m (part-ends k q u h); small = rw l (public-most q w hq hw) }

-- ---- the public columns that the words hold
module _ (q w : ℕ) (x : List ℕ) where
  pub public-logins : length (public_of q w x) ≡ q
  unfolding public_of
  public-logins = tabulate-length (λ u. elements (public_part w x u)) q

  pub public-of : (u : ℕ) → u < q → public_columns (public_of q w x) u ≡ elements (public_part w x u)
  unfolding public_of
  public-of u h = tabulate-get (λ v. elements (public_part w x v)) q u [] h

  -- each login has as many as there are witness columns, with the column of 1
  pub public-count : (u : ℕ) → 1 ≤ w → length x ≡ q * public_words w → u < q → suc (length (public_columns (public_of q w x) u)) ≡ w
  unfolding public_part
  public-count u o l h =
      let p : u * public_words w + public_words w ≤ length x = rw l (part-ends (public_words w) q u h) in
      let d : length (drop (u * public_words w) x) ≡ length x - u * public_words w = length-drop (u * public_words w) x in
      let n : length (take (public_words w) (drop (u * public_words w) x)) ≡ public_words w = length-take-le _ _ (omega (arith, p, d)) in
      rw (public-of u h, elements-length, n) (omega arith)

  -- and they are elements
  pub public-below : ((i : ℕ) → get_or x i 0 < 2 ^ 64) → (u y : ℕ) → get_or (public_columns (public_of q w x) u) y 0 < 2 ^ 128
  unfolding public_part
  public-below b u y = go (ltb u q) refl
    where
      part : (i : ℕ) → get_or (take (public_words w) (drop (u * public_words w) x)) i 0 < 2 ^ 64
      part i = cut (ltb i (public_words w)) refl
        where
          cut : (c : Bool) → ltb i (public_words w) ≡ c → get_or (take (public_words w) (drop (u * public_words w) x)) i 0 < 2 ^ 64
          cut true t = rw (get_or-take _ (drop (u * public_words w) x) i 0 (ltb-true _ _ t), get_or-drop (u * public_words w) x i 0) (b (u * public_words w + i))
          cut false t =
              let g : public_words w ≤ i = ltb-false _ _ t in
              let k : length (take (public_words w) (drop (u * public_words w) x)) ≤ i = rw (length-take (public_words w) (drop (u * public_words w) x)) (omega arith) in
              rw (get_or-eq_default (take (public_words w) (drop (u * public_words w) x)) 0 {n = i} k) (lit< tt)

      go : (c : Bool) → ltb u q ≡ c → get_or (public_columns (public_of q w x) u) y 0 < 2 ^ 128
      go true t = rw (public-of u (ltb-true u q t)) (elements-below _ part y)
      go false t =
          let k : length (public_of q w x) ≤ u = rw public-logins (ltb-false u q t) in
          rw (get_or-eq_default (public_of q w x) [] {n = u} k) (lit< tt)
