-- The products of a batch's logins, block after block: a login's public part is laid into the next block before the bits are added to its
-- own, and is carried on where the next login has the same columns.
-- Assumes nothing.
use mathlib.Core.Path.{◌≡◌, refl, sym, ap, ◌∙◌}
use mathlib.Core.Bool.{Bool, true, false}
use mathlib.Core.List.{List, [], ◌++◌, append_assoc, append-nil}
use Prim.Native.Nat.{ℕ, suc, ◌+◌, ◌-◌, ◌*◌, ◌/◌, ◌%◌, ◌^◌, ◌≤◌, ◌<◌}
use native.Mathlib.Nat.{suc-mul, le_refl, zero-mul}
use native.Mathlib.Numerals.{add-one}
use native.Mathlib.Omega.{arith}
use Rattle.std.specs.List.{copy_within}
use Rattle.std.proofs.Math.Nat.{sub-zero}
use lib.ListN.{length, get_or, take, drop, length-append, length-drop, drop_of_length-le, take-append-drop}
use lib.Dec.{ltb}
use borrow.Author.Tests.{ltb-true, ltb-false, le-leb, lt-leb}
use lib.Seq.{take_at, drop_at, take_all, drop-drop, length-take-le}
use borrow.Rule.Slice.PartMut.{put_mid}
use Rattle.magnetar_field.specs.Gf128.{◌⊕◌}
use Rattle.magnetar_field.specs.Tabulate.{tabulate}
use Rattle.magnetar_field.specs.Words.{elements, words}
use Rattle.magnetar_field.proofs.Elements.{words-elements, words_append, words-length}
use Rattle.magnetar_field.proofs.Tabulation.{tabulate-length, tabulate-get, tabulate-of}
use Rattle.magnetar_matrix.specs.Matrix.{Entry, row_total}
use Rattle.magnetar_matrix.specs.Packed.{login_words, public_words, login_part, public_part}
use Rattle.magnetar_matrix.specs.Sum.{blocks}
use Rattle.magnetar_matrix.specs.Table.{raised, public_share, bit_share, login_total, login_block, public_rows, laid_behind}
use Rattle.magnetar_matrix.proofs.TableLaws.{elements-words, raised-length, raised-get}
use Rattle.magnetar_matrix.proofs.LoginParts.{part-ends, part-is}

-- ---- words by their elements
pub kept-words : (v s t : List ℕ) → length s % 2 ≡ 0 → length t ≡ length s → elements t ≡ v → ((i : ℕ) → get_or t i 0 < 2 ^ 64) → t ≡ words v
kept-words v s t even same e fit = sym (words-elements t [] (omega arith) (rw append-nil fit)) ∙ ap words e

-- ---- the part that was lent
-- the words p were laid behind the front of s, and g of the front put in its place
pub after-laid : (g : List ℕ → List ℕ) (p s r t : List ℕ) (m : ℕ) → m ≤ length s → r ≡ take m s ++ laid_behind m p s → t ≡ g (take m r)
    → t ++ drop m r ≡ g (take m s) ++ laid_behind m p s
after-laid g p s r t m l e h =
    let k : length (take m s) ≡ m = length-take-le m s l in
    rw (h, e, take_at (take m s) (laid_behind m p s) m k, drop_at (take m s) (laid_behind m p s) m k)

module _ (p s : List ℕ) (m : ℕ) where
  pub laid_none : length s < 2 * m → s ≡ take m s ++ laid_behind m p s
  unfolding laid_behind
  laid_none h = rw (lt-leb (2 * m) (length s) h) (sym (take-append-drop m s))

  pub laid-some : 2 * m ≤ length s → laid_behind m p s ≡ p ++ drop (2 * m) s
  unfolding laid_behind
  laid-some h = rw (le-leb (2 * m) (length s) h)

  -- the front itself, copied behind itself
  pub laid-copied : 2 * m ≤ length s → take m s ≡ p → copy_within s 0 m m ≡ take m s ++ laid_behind m p s
  laid-copied h e =
      let t : m + m ≡ 2 * m = omega arith in
      rw (laid-some h, sub-zero, append_assoc, t) (ap (λ (z : List ℕ). take m s ++ (z ++ drop (2 * m) s)) e)

  -- p itself, put in its place
  pub laid-put : (n : ℕ) → n ≡ 2 * m → 2 * m ≤ length s → (t : List ℕ) → t ≡ p → put_mid m (n - m) s t ≡ take m s ++ laid_behind m p s
  laid-put n f h t e =
      let k : n - m ≡ m = omega arith in
      let z : m + m ≡ 2 * m = omega arith in
      rw (laid-some h, e, k, drop-drop m m s, z)

-- ---- the blocks that are done, and the next login's public part in its block
pub record Filling (f p : ℕ → List ℕ) (q m : ℕ) (s : List ℕ) (u : ℕ) : Type 0 where
  pub done : take (u * m) s ≡ words (blocks f u)
  pub next : u < q → take m (drop (u * m) s) ≡ words (p u)

pub filling-start : (f p : ℕ → List ℕ) (q m : ℕ) (s t : List ℕ) → length t ≡ m → t ≡ words (p 0) → Filling f p q m (t ++ drop m s) 0
unfolding blocks words
filling-start f p q m s t l e = record { done = rw zero-mul; next = λ h. rw (zero-mul, take_at t (drop m s) m l) e }

-- the rest of s, from c on
rest-is : (s : List ℕ) (c : ℕ) → take (length s - c) (drop c s) ≡ drop c s
rest-is s c = take_all (length s - c) (drop c s) (rw length-drop (le_refl (length s - c)))

rest_back : (s t : List ℕ) (c : ℕ) → put_mid c (length s - c) s t ≡ take c s ++ t
rest_back s t c =
    let e : drop (length s - c) (drop c s) ≡ [] = drop_of_length-le (drop c s) {i = length s - c} (rw length-drop (le_refl (length s - c))) in
    rw (e, append-nil)

module _ (f p : ℕ → List ℕ) (q m : ℕ) (s : List ℕ) (u : ℕ) (k : Filling f p q m s u) (h : u < q) (l : length s ≡ q * m) where
  ends : u * m + m ≤ length s
  ends = rw l (part-ends m q u h)

  next-ends : suc u < q → u * m + m + m ≤ length s
  next-ends b = let g : suc u * m + m ≤ q * m = part-ends m q (suc u) b in omega (arith, suc-mul u m)

  more-done : (t o : List ℕ) → length t ≡ m → t ≡ words (f u) → take (u * m + m) (take (u * m) s ++ (t ++ o)) ≡ words (blocks f (suc u))
  unfolding blocks
  more-done t o lt e =
      let a : length (take (u * m) s) ≡ u * m = length-take-le (u * m) s (omega (arith, ends)) in
      let g : take (u * m + m) ((take (u * m) s ++ t) ++ o) ≡ take (u * m) s ++ t = take_at (take (u * m) s ++ t) o (u * m + m) (rw (length-append, a, lt)) in
      rw (← append_assoc (take (u * m) s) t o, g, k.done, e, words_append)

  more-next : (t o : List ℕ) → length t ≡ m → drop (u * m + m) (take (u * m) s ++ (t ++ o)) ≡ o
  more-next t o lt =
      let a : length (take (u * m) s) ≡ u * m = length-take-le (u * m) s (omega (arith, ends)) in
      rw (← append_assoc (take (u * m) s) t o) (drop_at (take (u * m) s ++ t) o (u * m + m) (rw (length-append, a, lt)))

  pub filling-more : (t v : List ℕ) → length t ≡ m → t ≡ words (f u) → length v ≡ m → (suc u < q → v ≡ words (p (suc u)))
      → Filling f p q m (put_mid (u * m) (length s - u * m) s (t ++ laid_behind m v (take (length s - u * m) (drop (u * m) s)))) (u + 1)
  filling-more t v lt e lv g =
      let o = laid_behind m v (take (length s - u * m) (drop (u * m) s)) in
      let c : suc u * m ≡ u * m + m = suc-mul u m in
      record {
        done = rw (rest_back s (t ++ o) (u * m), add-one, c) (more-done t o lt e);
        next = λ b. rw (rest_back s (t ++ o) (u * m), add-one, c, more-next t o lt) (front (rw add-one at b));
      }
    where
      front : suc u < q → take m (laid_behind m v (take (length s - u * m) (drop (u * m) s))) ≡ words (p (suc u))
      front b =
          let n = next-ends b in
          let d : length (drop (u * m) s) ≡ length s - u * m = length-drop (u * m) s in
          rw (rest-is s (u * m), laid-some v (drop (u * m) s) m (omega arith), take_at v (drop (2 * m) (drop (u * m) s)) m lv) (g b)

pub filling-end : (f p : ℕ → List ℕ) (q m : ℕ) (s : List ℕ) (u : ℕ) → Filling f p q m s u → u ≡ q → length s ≡ q * m → s ≡ words (blocks f q)
filling-end f p q m s u k e l = sym (take_all (q * m) s (omega arith)) ∙ (rw e at k.done)

-- ---- a login's block: its bits' part added to the public part
pub raised-tabulate : (f g : ℕ → ℕ) (n : ℕ) → raised f (tabulate g n) ≡ tabulate (λ i. g i ⊕ f i) n
raised-tabulate f g n =
    tabulate-of (raised f (tabulate g n)) (λ i. g i ⊕ f i) n 0 (raised-length f (tabulate g n) ∙ tabulate-length g n)
    (λ i h. raised-get f (tabulate g n) i (rw tabulate-length h) ∙ rw (tabulate-get g n i 0 h))

-- the public part of login u
abbrev pub public_block : ℕ → List ℕ → List Entry → ℕ → ℕ → List ℕ
public_block w x es n u = public_rows w (elements (public_part w x u)) es n

pub login-block : (w n k u : ℕ) (x ws r : List ℕ) (es : List Entry) → k ≡ login_words w → r ≡ words (public_block w x es n u)
    → words (raised (row_total (bit_share w (take (u * k + k - u * k) (drop (u * k) ws))) es) (elements r)) ≡ words (login_block w x ws es n u)
unfolding login_block login_total
login-block w n k u x ws r es e h =
    rw (h, elements-words, part-is w ws u k e)
    (ap words (raised-tabulate (row_total (bit_share w (login_part w ws u)) es) (row_total (public_share w (elements (public_part w x u))) es) n))

pub block-length : (w n u : ℕ) (x ws : List ℕ) (es : List Entry) → length (words (login_block w x ws es n u)) ≡ 2 * n
unfolding login_block
block-length w n u x ws es =
    words-length (tabulate (login_total w (elements (public_part w x u)) (login_part w ws u) es) n) ∙ rw tabulate-length

pub rows-length : (w n : ℕ) (x : List ℕ) (es : List Entry) → length (words (public_rows w x es n)) ≡ 2 * n
rows-length w n x es = words-length (public_rows w x es n) ∙ rw tabulate-length

pub rest-long : (s : List ℕ) (c m : ℕ) → c + m ≤ length s → m ≤ length (take (length s - c) (drop c s))
rest-long s c m h = rw (rest-is s c, length-drop c s) (omega arith)

-- the same in the place of the second n elements, from the second l public words
pub rows-put : (w n l : ℕ) (x s t : List ℕ) (es : List Entry) → 4 * n ≤ length s
    → t ≡ words (public_rows w (elements (take (2 * l - l) (drop l x))) es (length (take (4 * n - 2 * n) (drop (2 * n) s)) / 2))
    → t ≡ words (public_rows w (elements (take l (drop l x))) es n)
rows-put w n l x s t es h e =
    let a : 2 * l - l ≡ l = omega arith in
    let d : length (drop (2 * n) s) ≡ length s - 2 * n = length-drop (2 * n) s in
    let k : length (take (4 * n - 2 * n) (drop (2 * n) s)) ≡ 4 * n - 2 * n = length-take-le (4 * n - 2 * n) (drop (2 * n) s) (omega arith) in
    let b : length (take (4 * n - 2 * n) (drop (2 * n) s)) / 2 ≡ n = omega arith in
    rw (a, b) at e

-- ---- the public words of login u and of the next one, in front of the words from login u on
module _ (w : ℕ) (x : List ℕ) (l u : ℕ) (e : l ≡ public_words w) where
  pub mine-is : take l (take (length x - u * l) (drop (u * l) x)) ≡ public_part w x u
  unfolding public_part
  mine-is = rw (rest-is x (u * l), e)

  pub next-is : take l (drop l (take (length x - u * l) (drop (u * l) x))) ≡ public_part w x (suc u)
  unfolding public_part
  next-is = let c : u * l + l ≡ suc u * l = sym (suc-mul u l) in rw (rest-is x (u * l), drop-drop l (u * l) x, c, e)

-- that of the first login, once it is put in front of s
pub first_part : (w n l : ℕ) (x s t : List ℕ) (es : List Entry) → l ≡ public_words w → length (take (2 * n) s) ≡ 2 * n
    → t ≡ words (public_rows w (elements (take l x)) es (length (take (2 * n) s) / 2)) → t ≡ words (public_block w x es n 0)
unfolding public_part
first_part w n l x s t es e k h = let d : length (take (2 * n) s) / 2 ≡ n = omega arith in rw (zero-mul, ← e) (rw d at h)

-- where there is room for two logins' products there are two logins' public words
pub next_fits : (q n l u : ℕ) (s x : List ℕ) → 1 ≤ n → u < q → length s ≡ q * (2 * n) → length x ≡ q * l
    → 4 * n ≤ length (take (length s - u * (2 * n)) (drop (u * (2 * n)) s)) → 2 * l ≤ length (take (length x - u * l) (drop (u * l) x))
next_fits q n l u s x o h ls lx k = go (ltb (suc u) q) refl
  where
    room : 4 * n ≤ length s - u * (2 * n)
    room = rw (rest-is s (u * (2 * n)), length-drop (u * (2 * n)) s) at k

    go : (b : Bool) → ltb (suc u) q ≡ b → 2 * l ≤ length (take (length x - u * l) (drop (u * l) x))
    go true t =
        let g : suc u * l + l ≤ q * l = part-ends l q (suc u) (ltb-true (suc u) q t) in
        rw (rest-is x (u * l), length-drop (u * l) x) (omega (arith, g, suc-mul u l, lx))
    go false t =
        let f : q ≡ suc u = omega (arith, ltb-false (suc u) q t) in
        let g : q * (2 * n) ≡ u * (2 * n) + 2 * n = rw f (suc-mul u (2 * n)) in
        absurd (omega (arith, room, ls, g, o))

-- one login more
module _ (w n k l u q : ℕ) (x ws s t : List ℕ) (es : List Entry) where
  -- what was lent of s
  abbrev lent-part : List ℕ
  lent-part = take (length s - u * (2 * n)) (drop (u * (2 * n)) s)

  -- it holds the public part of login u
  pub lent-public : Filling (login_block w x ws es n) (public_block w x es n) q (2 * n) s u → u < q → l ≡ public_words w
      → take (2 * n) lent-part ≡ words (public_rows w (elements (take l (take (length x - u * l) (drop (u * l) x)))) es n)
  lent-public f h e = rw (rest-is s (u * (2 * n)), mine-is w x l u e) (f.next h)

  pub next-login : Filling (login_block w x ws es n) (public_block w x es n) q (2 * n) s u → u < q → length s ≡ q * (2 * n) → k ≡ login_words w
      → l ≡ public_words w
      → t ≡ words (raised (row_total (bit_share w (take (u * k + k - u * k) (drop (u * k) ws))) es) (elements (take (2 * n) lent-part)))
      ++ laid_behind (2 * n) (words (public_rows w (elements (take l (drop l (take (length x - u * l) (drop (u * l) x))))) es n)) lent-part
      → Filling (login_block w x ws es n) (public_block w x es n) q (2 * n) (put_mid (u * (2 * n)) (length s - u * (2 * n)) s t) (u + 1)
  next-login f h z e g r =
      let p : take (2 * n) lent-part ≡ words (public_block w x es n u) = rw (rest-is s (u * (2 * n))) (f.next h) in
      rw (r, login-block w n k u x ws (take (2 * n) lent-part) es e p, next-is w x l u g)
      (filling-more (login_block w x ws es n) (public_block w x es n) q (2 * n) s u f h z (words (login_block w x ws es n u))
      (words (public_block w x es n (suc u))) (block-length w n u x ws es) refl (rows-length w n (elements (public_part w x (suc u))) es) (λ b. refl))
