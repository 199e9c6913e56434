-- Two blocks in one list, and the words of two messages one behind the other.
-- Assumes nothing.
use mathlib.Core.Path.{◌≡◌, refl, sym, ap, ap₂, ◌∙◌}
use mathlib.Core.List.{List, [], ◌∷◌, ◌++◌, append_assoc}
use Prim.Native.Nat.{ℕ, ◌+◌, ◌-◌, ◌*◌, ◌/◌, ◌%◌, ◌^◌, ◌≤◌}
use native.Mathlib.Omega.{arith}
use lib.ListN.{length, take, drop, length-append, length-drop}
use lib.Seq.{length-take-le, take_all, drop_at}
use lib.Dec.{lit≤}
use borrow.Rule.Slice.PartMut.{put_mid}
use Rattle.magnetar_field.specs.Words.{elements, words}
use Rattle.magnetar_field.proofs.Elements.{words-length}
use Rattle.magnetar_prover.specs.Shared.{Dropped}
use Rattle.magnetar_prover.proofs.Slots.{take-of-drop, part-is, mid-length, mid-front, mid-upto, mid_at, fore-length, fore-in, fore-back}
use Rattle.magnetar_prover.proofs.Sent.{elements-take, elements-after}

-- what is lent of the second block
module _ (s t : List ℕ) (q n : ℕ) (size : length s ≡ q + n) (one : length t ≡ q) where
  pub lent-behind : take (q + n - q) (drop q (t ++ drop q s)) ≡ drop q s
  lent-behind =
      part-is (t ++ drop q s) q n
      ∙ (ap (take n) (fore-back s t q (omega (arith, size)) one) ∙ take_all n (drop q s) (omega (arith, length-drop q s, size)))

  pub first-length : length (t ++ drop q s) ≡ q + n
  first-length = fore-length s t q (omega (arith, size)) one ∙ size

  pub rest-length : length (drop q s) ≡ n
  rest-length = omega (arith, length-drop q s, size)

-- t in the place of the first q words, and then u in the place of the n behind them
module _ (s t u : List ℕ) (q n : ℕ) (size : length s ≡ q + n) (one : length t ≡ q) (two : length u ≡ n) where
  abbrev s₁ : List ℕ
  s₁ = t ++ drop q s

  abbrev s₂ : List ℕ
  s₂ = put_mid q (q + n - q) s₁ u

  l₁ : length s₁ ≡ q + n
  l₁ = fore-length s t q (omega (arith, size)) one ∙ size

  h₁ : q + n ≤ length s₁
  h₁ = omega (arith, l₁)

  pub both-length : length s₂ ≡ length s
  both-length = mid-length s₁ u q n h₁ two ∙ (l₁ ∙ sym size)

  pub both-front : take q s₂ ≡ t
  both-front = mid-front s₁ u q n h₁ two ∙ (fore-in s t q (omega (arith, size)) one q (omega arith) ∙ take_all q t (omega (arith, one)))

  pub both_behind : drop q s₂ ≡ u
  both_behind =
      sym (take_all n (drop q s₂) (omega (arith, length-drop q s₂, both-length, size)))
      ∙ mid_at s₁ u q n h₁ two

  pub front-dropped : {v w m : ℕ} → Dropped v w m (take q s) t → Dropped v w m (take q s) (take q s₂)
  front-dropped g = rw both-front g

  pub behind-dropped : {v w m : ℕ} → Dropped v w m (take (q + n - q) (drop q s₁)) u → Dropped v w m (drop q s) (drop q s₂)
  behind-dropped g = rw (both_behind, ← lent-behind s t q n size one) g

words-join : (v w : List ℕ) → words v ++ words w ≡ words (v ++ w)
unfolding words
words-join [] w = refl
words-join (x ∷ v) w = ap (λ (l : List ℕ). (x % 2 ^ 64) ∷ ((x / 2 ^ 64) ∷ l)) (words-join v w)

-- the words of two messages of four elements each
module _ (proof t u v w : List ℕ) (p : ℕ) (room : 2 * p + 16 ≤ length proof) (four : length v ≡ 4) (also : length w ≡ 4) (is : t ≡ words v) (so : u
    ≡ words w) where
  abbrev p₁ : List ℕ
  p₁ = put_mid (2 * p) (2 * p + 8 - 2 * p) proof t

  abbrev p₂ : List ℕ
  p₂ = put_mid (2 * p + 8) (2 * p + 8 + 8 - (2 * p + 8)) p₁ u

  tl : length t ≡ 8
  tl = rw is (words-length v ∙ omega (arith, four))

  ul : length u ≡ 8
  ul = rw so (words-length w ∙ omega (arith, also))

  pl : length p₁ ≡ length proof
  pl = mid-length proof t (2 * p) 8 (omega arith) tl

  upto : take (2 * p + 8 + 8) p₂ ≡ take (2 * p) proof ++ words (v ++ w)
  upto =
      mid-upto p₁ u (2 * p + 8) 8 (omega (arith, pl)) ul
      ∙ (ap (λ (l : List ℕ). l ++ u) (mid-upto proof t (2 * p) 8 (omega arith) tl)
      ∙ (append_assoc (take (2 * p) proof) t u
      ∙ ap (λ (l : List ℕ). take (2 * p) proof ++ l) (ap₂ (λ (x y : List ℕ). x ++ y) is so ∙ words-join v w)))

  pub both-sent : take (p + 8) (elements p₂) ≡ take p (elements proof) ++ (v ++ w)
  both-sent =
      let e : 2 * (p + 8) ≡ 2 * p + 8 + 8 = omega arith in
      elements-take (p + 8) p₂
      ∙ (ap (λ (i : ℕ). elements (take i p₂)) e
      ∙ (ap elements upto
      ∙ (elements-after p (take (2 * p) proof) (v ++ w) (length-take-le (2 * p) proof (omega arith))
      ∙ ap (λ (l : List ℕ). l ++ (v ++ w)) (sym (elements-take p proof)))))

  pub both-there : take 16 (drop (2 * p) p₂) ≡ words (v ++ w)
  both-there =
      sym (take-of-drop p₂ (2 * p) 16 (2 * p + 8 + 8) (omega arith))
      ∙ (ap (λ (l : List ℕ). take 16 (drop (2 * p) l)) upto
      ∙ (ap (take 16) (drop_at (take (2 * p) proof) (words (v ++ w)) (2 * p) (length-take-le (2 * p) proof (omega arith)))
      ∙ take_all 16 (words (v ++ w)) (rw (words-length, length-append, four, also) (lit≤ tt))))
