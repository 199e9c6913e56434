-- Tables bound in their places of one list.
-- Assumes nothing.
use mathlib.Core.Path.{◌≡◌, sym, ap, ◌∙◌}
use mathlib.Core.List.{List, ◌++◌}
use Prim.Native.Nat.{ℕ, ◌+◌, ◌-◌, ◌*◌, ◌/◌, ◌≤◌}
use native.Mathlib.Omega.{arith}
use lib.ListN.{length, take, drop}
use lib.Seq.{length-take-le, drop-drop}
use borrow.Rule.Slice.PartMut.{put_mid}
use Rattle.magnetar_field.specs.Words.{elements}
use Rattle.magnetar_multilinear.specs.Multilinear.{bind_var}
use Rattle.magnetar_multilinear.specs.Entries.{bind_out}
use Rattle.magnetar_sumcheck_prover.specs.Entries.{drop_out}
use Rattle.magnetar_sumcheck_verifier.specs.Outer.{drop_var}
use Rattle.magnetar_prover.specs.Entries.{table_at}
use Rattle.magnetar_prover.specs.InScratch.{Table}
use Rattle.magnetar_prover.proofs.Slots.{part-is, part-size, mid-length, mid-before, mid-behind, mid-in, fore-length, fore-in, fore-back, fore-behind}
use Rattle.magnetar_prover.proofs.Whole.{bound-in, bound-length, dropped-in, dropped-length}

half_le : (n : ℕ) → n / 2 ≤ n
half_le n = omega arith

-- the table of n words at a is bound
module _ (s : List ℕ) (a n v r : ℕ) (w : Table v n) (h : a + n ≤ length s) (t : List ℕ)
    (e : t ≡ bind_out (take (a + n - a) (drop a s)) v r) where
  abbrev new : List ℕ
  new = put_mid a (a + n - a) s t

  size : length (take (a + n - a) (drop a s)) ≡ n
  size = part-size s a n h

  pub at_length : length t ≡ n
  at_length = rw e (bound-length (take (a + n - a) (drop a s)) v w.vars (size ∙ w.size) w.var w.few r ∙ size)

  pub at_bound : table_at a (n / 2) new ≡ bind_var v r (table_at a n s)
  at_bound =
      ap elements (mid-in s t a n h at_length (n / 2) (half_le n))
      ∙ (ap (λ (x : List ℕ). elements (take (n / 2) x)) e
      ∙ (ap (λ (k : ℕ). elements (take (k / 2) (bind_out (take (a + n - a) (drop a s)) v r))) (sym size)
      ∙ (bound-in (take (a + n - a) (drop a s)) v w.vars (size ∙ w.size) w.var w.few r
      ∙ ap (λ (x : List ℕ). bind_var v r (elements x)) (part-is s a n))))

  pub at_before : (b k : ℕ) → b + k ≤ a → table_at b k new ≡ table_at b k s
  at_before b k l = ap elements (mid-before s t a n h at_length b k l)

  pub at-behind : (b k : ℕ) → a + n ≤ b → table_at b k new ≡ table_at b k s
  at-behind b k l = ap elements (mid-behind s t a n h at_length b k l)

  pub at_size : length new ≡ length s
  at_size = mid-length s t a n h at_length

-- the table of n words at the front is bound
module _ (s : List ℕ) (n v r : ℕ) (w : Table v n) (h : n ≤ length s) (t : List ℕ) (e : t ≡ bind_out (take n s) v r) where
  front-size : length (take n s) ≡ n
  front-size = length-take-le n s h

  pub front_length : length t ≡ n
  front_length = rw e (bound-length (take n s) v w.vars (front-size ∙ w.size) w.var w.few r ∙ front-size)

  pub front-bound : table_at 0 (n / 2) (t ++ drop n s) ≡ bind_var v r (table_at 0 n s)
  front-bound =
      ap elements (fore-in s t n h front_length (n / 2) (half_le n))
      ∙ (ap (λ (x : List ℕ). elements (take (n / 2) x)) e
      ∙ (ap (λ (k : ℕ). elements (take (k / 2) (bind_out (take n s) v r))) (sym front-size)
      ∙ bound-in (take n s) v w.vars (front-size ∙ w.size) w.var w.few r))

  pub front-behind : (b k : ℕ) → n ≤ b → table_at b k (t ++ drop n s) ≡ table_at b k s
  front-behind b k l = ap elements (fore-behind s t n h front_length b k l)

  pub front-whole : length (t ++ drop n s) ≡ length s
  front-whole = fore-length s t n h front_length

-- both tables are bound
pub two-bound : (s : List ℕ) (a n r : ℕ) (w : Table 0 n) (h : a + n ≤ length s) (g : n ≤ a) (t u : List ℕ)
    → t ≡ bind_out (take n s) 0 r → u ≡ bind_out (take (a + n - a) (drop a (t ++ drop n s))) 0 r
    → (table_at 0 (n / 2) (put_mid a (a + n - a) (t ++ drop n s) u) ≡ bind_var 0 r (table_at 0 n s))
    × (table_at a (n / 2) (put_mid a (a + n - a) (t ++ drop n s) u) ≡ bind_var 0 r (table_at a n s))
two-bound s a n r w h g t u e f =
    let k : n ≤ length s = omega arith in
    let l : a + n ≤ length (t ++ drop n s) = rw (front-whole s n 0 r w k t e) h in (
      at_before (t ++ drop n s) a n 0 r w l u f 0 (n / 2) (omega arith) ∙ front-bound s n 0 r w k t e,
      at_bound (t ++ drop n s) a n 0 r w l u f ∙ ap (bind_var 0 r) (front-behind s n 0 r w k t e a n g),
    )

-- ---- the tables of a block
-- variable v of the table of n words at the front is dropped
module _ (s : List ℕ) (n v : ℕ) (w : Table v n) (h : n ≤ length s) (t : List ℕ) (e : t ≡ drop_out (take n s) v) where
  eq-size : length (take n s) ≡ n
  eq-size = length-take-le n s h

  pub eq-length : length t ≡ n
  eq-length = rw e (dropped-length (take n s) v w.vars (eq-size ∙ w.size) w.var w.few ∙ eq-size)

  pub eq-dropped : table_at 0 (n / 2) (t ++ drop n s) ≡ drop_var v (table_at 0 n s)
  eq-dropped =
      ap elements (fore-in s t n h eq-length (n / 2) (half_le n))
      ∙ (ap (λ (x : List ℕ). elements (take (n / 2) x)) e
      ∙ (ap (λ (k : ℕ). elements (take (k / 2) (drop_out (take n s) v))) (sym eq-size)
      ∙ dropped-in (take n s) v w.vars (eq-size ∙ w.size) w.var w.few))

  pub eq-behind : (b k : ℕ) → n ≤ b → table_at b k (t ++ drop n s) ≡ table_at b k s
  eq-behind b k l = ap elements (fore-behind s t n h eq-length b k l)

  pub eq-rest : (b : ℕ) → n ≤ b → drop b (t ++ drop n s) ≡ drop b s
  eq-rest b l = from (t ++ drop n s) ∙ (ap (drop (b - n)) (fore-back s t n h eq-length) ∙ sym (from s))
    where
      from : (x : List ℕ) → drop b x ≡ drop (b - n) (drop n x)
      from x = let q : n + (b - n) ≡ b = omega arith in sym (drop-drop (b - n) n x ∙ ap (λ (i : ℕ). drop i x) q)

-- the three tables behind it are bound
module _ (s : List ℕ) (w n v r : ℕ) (k : Table v n) (size : length s ≡ 4 * w) (fits : n ≤ w) (t₁ t₂ t₃ : List ℕ)
    (e₁ : t₁ ≡ bind_out (take (w + n - w) (drop w s)) v r)
    (e₂ : t₂ ≡ bind_out (take (2 * w + n - 2 * w) (drop (2 * w) (put_mid w (w + n - w) s t₁))) v r)
    (e₃ : t₃ ≡ bind_out (take (3 * w + n - 3 * w) (drop (3 * w) (put_mid (2 * w) (2 * w + n - 2 * w) (put_mid w (w + n - w) s t₁) t₂))) v r) where
  abbrev s₁ : List ℕ
  s₁ = put_mid w (w + n - w) s t₁

  abbrev s₂ : List ℕ
  s₂ = put_mid (2 * w) (2 * w + n - 2 * w) s₁ t₂

  abbrev s₃ : List ℕ
  s₃ = put_mid (3 * w) (3 * w + n - 3 * w) s₂ t₃

  h₁ : w + n ≤ length s
  h₁ = omega (arith, size)

  l₁ : length s₁ ≡ 4 * w
  l₁ = at_size s w n v r k h₁ t₁ e₁ ∙ size

  h₂ : 2 * w + n ≤ length s₁
  h₂ = omega (arith, l₁)

  l₂ : length s₂ ≡ 4 * w
  l₂ = at_size s₁ (2 * w) n v r k h₂ t₂ e₂ ∙ l₁

  h₃ : 3 * w + n ≤ length s₂
  h₃ = omega (arith, l₂)

  pub three-a : table_at w (n / 2) s₃ ≡ bind_var v r (table_at w n s)
  three-a =
      at_before s₂ (3 * w) n v r k h₃ t₃ e₃ w (n / 2) (omega arith)
      ∙ (at_before s₁ (2 * w) n v r k h₂ t₂ e₂ w (n / 2) (omega arith) ∙ at_bound s w n v r k h₁ t₁ e₁)

  pub three-b : table_at (2 * w) (n / 2) s₃ ≡ bind_var v r (table_at (2 * w) n s)
  three-b =
      at_before s₂ (3 * w) n v r k h₃ t₃ e₃ (2 * w) (n / 2) (omega arith)
      ∙ (at_bound s₁ (2 * w) n v r k h₂ t₂ e₂ ∙ ap (bind_var v r) (at-behind s w n v r k h₁ t₁ e₁ (2 * w) n (omega arith)))

  pub three-c : table_at (3 * w) (n / 2) s₃ ≡ bind_var v r (table_at (3 * w) n s)
  three-c =
      at_bound s₂ (3 * w) n v r k h₃ t₃ e₃
      ∙ ap (bind_var v r) (at-behind s₁ (2 * w) n v r k h₂ t₂ e₂ (3 * w) n (omega arith) ∙ at-behind s w n v r k h₁ t₁ e₁ (3 * w) n (omega arith))

  pub three-e : take w s₃ ≡ take w s
  three-e =
      mid-before s₂ t₃ (3 * w) n h₃ (at_length s₂ (3 * w) n v r k h₃ t₃ e₃) 0 w (omega arith)
      ∙ (mid-before s₁ t₂ (2 * w) n h₂ (at_length s₁ (2 * w) n v r k h₂ t₂ e₂) 0 w (omega arith)
      ∙ mid-before s t₁ w n h₁ (at_length s w n v r k h₁ t₁ e₁) 0 w (omega arith))
