-- What is left of a table when all its variables are bound is its value at the point; and the value of a segment of the folded bits is
-- the sum that its claim is about.
-- Assumes nothing.
use mathlib.Core.Path.{◌≡◌, refl, sym, ap, ap₂, ◌∙◌}
use mathlib.Core.Bool.{Bool, true, false}
use mathlib.Core.List.{List, [], ◌∷◌, ◌++◌, reverse, reverse-cons, append-nil, append_assoc}
use mathlib.Core.Logic.{◌⊎◌, inl, inr}
use Prim.Native.Nat.{ℕ, zero, suc, ◌+◌, ◌-◌, ◌*◌, ◌/◌, ◌^◌, ◌≤◌, ◌<◌}
use native.Mathlib.Nat.{zero-add, two-pow-succ}
use native.Mathlib.Omega.{arith}
use borrow.Author.Tests.{ltb-true, ltb-false}
use lib.Dec.{ltb}
use lib.ListN.{length, get_or, take, drop, length-append, length-take, length-drop, length-reverse}
use lib.Pow.{pow_pos}
use lib.Seq.{length-take-le, get_or-take, get_or-drop}
use Rattle.magnetar_field.specs.Gf128.{◌⊕◌, ◌⊗◌}
use Rattle.magnetar_field.specs.Tabulate.{tabulate}
use Rattle.magnetar_multilinear.specs.Doubling.{doubled}
use Rattle.magnetar_multilinear.specs.EqTable.{eq_at, eq_table}
use Rattle.magnetar_multilinear.specs.Multilinear.{dot, mle, line, insert_zero, bind_var}
use Rattle.magnetar_field.proofs.Xor.{xor, ⊕-lt, ⊕-four, ⊕-zero, ⊕-comm, ⊕-assoc}
use Rattle.magnetar_field.proofs.Product.{⊗-comm, ⊗-left-comm, ⊗-⊕, ⊗-lt}
use Rattle.magnetar_field.proofs.Tabulation.{tabulate-length, tabulate-get, tabulate-out, tabulate-ext}
use Rattle.magnetar_multilinear.proofs.Extension.{mle-snoc, mle-nil, dot-nil}
use Rattle.magnetar_field.proofs.Polynomial.{AllBelow}
use Rattle.magnetar_multilinear.proofs.EqTables.{eq_table-length, eq_table-get, eq_table-cons}
use Rattle.magnetar_multilinear.proofs.Evaluating.{bind_var-length}
use Rattle.magnetar_sumcheck_verifier.specs.Order.{next_var, fewer}
use Rattle.magnetar_sumcheck_verifier.specs.Messages.{Outer, outer_start, outer_var, outer_fold}
use Rattle.magnetar_matrix.specs.Sum.{sum_below}
use Rattle.magnetar_matrix.specs.Batch.{Batch, PublicColumns, public_half, bit_of, folded_at, folded, public_folded_at, public_folded, claim_value}
use Rattle.magnetar_protocol.specs.RunSizes.{Elements}
use Rattle.magnetar_protocol.proofs.ClaimValues.{sum-times}
use Rattle.magnetar_protocol.proofs.HonestBelow.{tabulate-below, sum_lt}
use Rattle.magnetar_schedule.proofs.StepLaws.{folds, folds-append, binds}

-- ---- binding the lowest variable
insert-low : (i : ℕ) → insert_zero 0 i ≡ 2 * i
unfolding insert_zero
insert-low i = omega arith

-- the first pair of entries, and the others
bind-two : (r a b : ℕ) (t : List ℕ) → bind_var 0 r (a ∷ b ∷ t) ≡ line r a b ∷ bind_var 0 r t
unfolding bind_var tabulate
bind-two r a b t =
    ap (tabulate (λ i. line r (get_or (a ∷ b ∷ t) (insert_zero 0 i) 0) (get_or (a ∷ b ∷ t) (insert_zero 0 i + 1) 0))) (half (length t))
    ∙ ap₂ ◌∷◌ (ap (λ (k : ℕ). line r (get_or (a ∷ b ∷ t) k 0) (get_or (a ∷ b ∷ t) (k + 1) 0)) (insert-low 0))
    (tabulate-ext (λ i. line r (get_or (a ∷ b ∷ t) (insert_zero 0 (suc i)) 0) (get_or (a ∷ b ∷ t) (insert_zero 0 (suc i) + 1) 0))
    (λ i. line r (get_or t (insert_zero 0 i) 0) (get_or t (insert_zero 0 i + 1) 0)) (length t / 2)
    (λ i h. ap₂ (line r) (ap (λ (k : ℕ). get_or (a ∷ b ∷ t) k 0) (next i)) (ap (λ (k : ℕ). get_or (a ∷ b ∷ t) (k + 1) 0) (next i) ∙ after i)))
  where
    half : (n : ℕ) → suc (suc n) / 2 ≡ suc (n / 2)
    half n = omega arith

    next : (i : ℕ) → insert_zero 0 (suc i) ≡ suc (suc (insert_zero 0 i))
    next i = insert-low (suc i) ∙ omega (arith, insert-low i)

    after : (i : ℕ) → get_or (a ∷ b ∷ t) (suc (suc (insert_zero 0 i)) + 1) 0 ≡ get_or t (insert_zero 0 i + 1) 0
    after i = ap (λ (k : ℕ). get_or (a ∷ b ∷ t) k 0) (moved (insert_zero 0 i))
      where
        moved : (k : ℕ) → suc (suc k) + 1 ≡ suc (suc (k + 1))
        moved k = omega arith

dot-doubled : (r : ℕ) (e t : List ℕ) → length t ≡ 2 * length e → dot t (doubled r e) ≡ dot (bind_var 0 r t) e
unfolding dot doubled
dot-doubled r [] t h = dot-nil t ∙ sym (dot-nil (bind_var 0 r t))
dot-doubled r (v ∷ e) [] h = absurd (omega arith)
dot-doubled r (v ∷ e) (a ∷ []) h = absurd (omega arith)
dot-doubled r (v ∷ e) (a ∷ b ∷ t) h =
    pair r v a b (dot t (doubled r e)) ∙ ap (λ (s : ℕ). line r a b ⊗ v ⊕ s) (dot-doubled r e t (omega arith))
    ∙ ap (λ (l : List ℕ). dot l (v ∷ e)) (sym (bind-two r a b t))
  where
    pair : (r v a b s : ℕ) → a ⊗ (v ⊕ v ⊗ r) ⊕ (b ⊗ (v ⊗ r) ⊕ s) ≡ line r a b ⊗ v ⊕ s
    pair r v a b s = unfold line in simp (xor, ⊗-comm, ⊗-left-comm, ⊗-⊕)

pub mle-cons : (t p : List ℕ) (r : ℕ) → length t ≡ 2 * 2 ^ length p → mle t (r ∷ p) ≡ mle (bind_var 0 r t) p
unfolding mle
mle-cons t p r h = ap (dot t) (eq_table-cons r p) ∙ dot-doubled r (eq_table p) t (h ∙ ap (λ (k : ℕ). 2 * k) (sym (eq_table-length p)))

-- ---- binding all variables
bind-elements : (v r : ℕ) (t : List ℕ) → Elements t → Elements (bind_var v r t)
unfolding bind_var line
bind-elements v r t h i = go (ltb i (length t / 2)) refl
  where
    f : ℕ → ℕ
    f i = line r (get_or t (insert_zero v i) 0) (get_or t (insert_zero v i + 2 ^ v) 0)

    go : (b : Bool) → ltb i (length t / 2) ≡ b → get_or (bind_var v r t) i 0 < 2 ^ 128
    go true e = rw (tabulate-get f (length t / 2) i 0 (ltb-true _ _ e)) (⊕-lt 128 _ _ (h (insert_zero v i)) (⊗-lt r _))
    go false e = rw (tabulate-out f (length t / 2) i 0 (ltb-false i (length t / 2) e)) (pow_pos 128)

bind-size : (v r n : ℕ) (t : List ℕ) → length t ≡ 2 ^ suc n → length (bind_var v r t) ≡ 2 ^ n
bind-size v r n t h = bind_var-length v r t ∙ omega (arith, two-pow-succ n)

-- the lowest first
pub binds-left : (rs t : List ℕ) → length t ≡ 2 ^ length rs → Elements t → get_or (binds rs t) 0 0 ≡ mle t rs
binds-left [] t h e = sym (mle-nil t (e 0))
binds-left (r ∷ rs) t h e =
    binds-left rs (bind_var 0 r t) (bind-size 0 r (length rs) t h) (bind-elements 0 r t e)
    ∙ sym (mle-cons t rs r (twice (length rs) h))
  where
    twice : {m : ℕ} (n : ℕ) → m ≡ 2 ^ suc n → m ≡ 2 * 2 ^ n
    twice n e = omega (arith, two-pow-succ n)

-- s high ones, the highest first, then the others, of n in all
abbrev bind_all : (s n : ℕ) → List ℕ → List ℕ → List ℕ
bind_all s n [] t = t
bind_all s n (r ∷ rs) t = bind_all (fewer s) (n - 1) rs (bind_var (next_var s n) r t)

bind_all-low : (n : ℕ) (rs t : List ℕ) → bind_all 0 n rs t ≡ binds rs t
unfolding next_var
bind_all-low n [] t = refl
bind_all-low n (r ∷ rs) t = bind_all-low (n - 1) rs (bind_var 0 r t)

all_left : (sh rows t : List ℕ) (n : ℕ) → n ≡ length sh + length rows → length t ≡ 2 ^ n → Elements t
    → get_or (bind_all (length sh) n (sh ++ rows) t) 0 0 ≡ mle t (rows ++ reverse sh)
unfolding next_var
all_left [] rows t n k h e =
    ap (λ (l : List ℕ). get_or l 0 0) (bind_all-low n rows t)
    ∙ binds-left rows t (h ∙ ap (λ (m : ℕ). 2 ^ m) (k ∙ zero-add (length rows))) e
    ∙ ap (mle t) (sym (append-nil rows))
all_left (r ∷ sh) rows t zero k h e = absurd (omega arith)
all_left (r ∷ sh) rows t (suc n) k h e =
    ap (λ (m : ℕ). get_or (bind_all (length sh) m (sh ++ rows) (bind_var m r t)) 0 0) (one n)
    ∙ all_left sh rows (bind_var n r t) n (omega arith) (bind-size n r n t h) (bind-elements n r t e)
    ∙ ap (λ (m : ℕ). mle (bind_var m r t) (rows ++ reverse sh)) long
    ∙ sym (mle-snoc t (rows ++ reverse sh) r (h ∙ double n ∙ ap (λ (m : ℕ). 2 * 2 ^ m) long))
    ∙ ap (mle t) (append_assoc rows (reverse sh) (r ∷ []) ∙ ap (λ (l : List ℕ). rows ++ l) (sym (reverse-cons r sh)))
  where
    one : (n : ℕ) → suc n - 1 ≡ n
    one n = omega arith

    double : (n : ℕ) → 2 ^ suc n ≡ 2 * 2 ^ n
    double n = omega (arith, two-pow-succ n)

    long : n ≡ length (rows ++ reverse sh)
    long = sym (length-append rows (reverse sh) ∙ omega (arith, length-reverse sh))

-- one variable of tau fewer
without : (v : ℕ) (l : List ℕ) → (v ≡ 0) ⊎ (v ≡ length l - 1) → length (take v l ++ drop (suc v) l) ≡ length l - 1
without v l (inl e) = length-append (take v l) (drop (suc v) l) ∙ rw (length-take, length-drop, e) (omega arith)
without v l (inr e) = length-append (take v l) (drop (suc v) l) ∙ rw (length-take, length-drop, e) (omega arith)

next-cases : (s n : ℕ) → (next_var s n ≡ 0) ⊎ (next_var s n ≡ n - 1)
unfolding next_var
next-cases zero n = inl refl
next-cases (suc s) n = inr refl

fold-tau : (r : ℕ) (S : Outer) → length (outer_fold r S).tau ≡ length S.tau - 1
unfolding outer_fold
fold-tau r S = without (outer_var S) S.tau (next-cases S.high (length S.tau))

-- the tables of the prover after some rounds
fold-a : (rs : List ℕ) (S : Outer) → (folds rs S).a ≡ bind_all S.high (length S.tau) rs S.a
unfolding outer_fold
fold-a [] S = refl
fold-a (r ∷ rs) S = fold-a rs (outer_fold r S) ∙ ap (λ (n : ℕ). bind_all (fewer S.high) n rs (bind_var (outer_var S) r S.a)) (fold-tau r S)

fold-b : (rs : List ℕ) (S : Outer) → (folds rs S).b ≡ bind_all S.high (length S.tau) rs S.b
unfolding outer_fold
fold-b [] S = refl
fold-b (r ∷ rs) S = fold-b rs (outer_fold r S) ∙ ap (λ (n : ℕ). bind_all (fewer S.high) n rs (bind_var (outer_var S) r S.b)) (fold-tau r S)

fold-c : (rs : List ℕ) (S : Outer) → (folds rs S).c ≡ bind_all S.high (length S.tau) rs S.c
unfolding outer_fold
fold-c [] S = refl
fold-c (r ∷ rs) S = fold-c rs (outer_fold r S) ∙ ap (λ (n : ℕ). bind_all (fewer S.high) n rs (bind_var (outer_var S) r S.c)) (fold-tau r S)

-- what is left of them at the end
module _ (sh rows tau a b c : List ℕ) (s : ℕ) (hs : length sh ≡ s) (ht : length tau ≡ length sh + length rows) where
  left : (t : List ℕ) → length t ≡ 2 ^ length tau → Elements t
      → get_or (bind_all s (length tau) (sh ++ rows) t) 0 0 ≡ mle t (rows ++ reverse sh)
  left t h e =
      ap (λ (m : ℕ). get_or (bind_all m (length tau) (sh ++ rows) t) 0 0) (sym hs) ∙ all_left sh rows t (length tau) ht h e

  pub left-a : length a ≡ 2 ^ length tau → Elements a → get_or (folds rows (folds sh (outer_start s tau a b c))).a 0 0 ≡ mle a (rows ++ reverse sh)
  unfolding outer_start
  left-a h e = ap (λ (S : Outer). get_or S.a 0 0) (sym (folds-append sh rows (outer_start s tau a b c)))
      ∙ ap (λ (l : List ℕ). get_or l 0 0) (fold-a (sh ++ rows) (outer_start s tau a b c)) ∙ left a h e

  pub left-b : length b ≡ 2 ^ length tau → Elements b → get_or (folds rows (folds sh (outer_start s tau a b c))).b 0 0 ≡ mle b (rows ++ reverse sh)
  unfolding outer_start
  left-b h e = ap (λ (S : Outer). get_or S.b 0 0) (sym (folds-append sh rows (outer_start s tau a b c)))
      ∙ ap (λ (l : List ℕ). get_or l 0 0) (fold-b (sh ++ rows) (outer_start s tau a b c)) ∙ left b h e

  pub left-c : length c ≡ 2 ^ length tau → Elements c → get_or (folds rows (folds sh (outer_start s tau a b c))).c 0 0 ≡ mle c (rows ++ reverse sh)
  unfolding outer_start
  left-c h e = ap (λ (S : Outer). get_or S.c 0 0) (sym (folds-append sh rows (outer_start s tau a b c)))
      ∙ ap (λ (l : List ℕ). get_or l 0 0) (fold-c (sh ++ rows) (outer_start s tau a b c)) ∙ left c h e

-- ---- a segment of the folded bits
sum_same : (n : ℕ) (f g : ℕ → ℕ) → ((i : ℕ) → i < n → f i ≡ g i) → sum_below n f ≡ sum_below n g
unfolding sum_below
sum_same zero f g h = refl
sum_same (suc n) f g h = ap₂ ◌⊕◌ (sum_same n f g (λ i l. h i (omega arith))) (h n (omega arith))

sum-zero : (n : ℕ) → sum_below n (λ i. 0) ≡ 0
unfolding sum_below
sum-zero zero = refl
sum-zero (suc n) = ap (λ (v : ℕ). v ⊕ 0) (sum-zero n) ∙ ⊕-zero 0

sum_both : (n : ℕ) (f g : ℕ → ℕ) → sum_below n (λ i. f i ⊕ g i) ≡ sum_below n f ⊕ sum_below n g
unfolding sum_below
sum_both zero f g = sym (⊕-zero 0)
sum_both (suc n) f g = ap (λ (v : ℕ). v ⊕ (f n ⊕ g n)) (sum_both n f g) ∙ ⊕-four (sum_below n f) (sum_below n g) (f n) (g n)

sum-swap : (m n : ℕ) (f : ℕ → ℕ → ℕ) → sum_below m (λ u. sum_below n (λ k. f u k)) ≡ sum_below n (λ k. sum_below m (λ u. f u k))
unfolding sum_below
sum-swap zero n f = sym (sum-zero n)
sum-swap (suc m) n f = ap (λ (v : ℕ). v ⊕ sum_below n (f m)) (sum-swap m n f) ∙ sym (sum_both n (λ k. sum_below m (λ u. f u k)) (f m))

-- the first term apart
sum-front : (n : ℕ) (f : ℕ → ℕ) → sum_below (suc n) f ≡ f 0 ⊕ sum_below n (λ i. f (suc i))
unfolding sum_below
sum-front zero f = ⊕-comm 0 (f 0)
sum-front (suc n) f = ap (λ (v : ℕ). v ⊕ f (suc n)) (sum-front n f) ∙ ⊕-assoc (f 0) (sum_below n (λ i. f (suc i))) (f (suc n))

dot-sum : (s t : List ℕ) (n : ℕ) → length s ≡ n → length t ≡ n → dot s t ≡ sum_below n (λ i. get_or s i 0 ⊗ get_or t i 0)
unfolding dot
dot-sum [] t zero h k = unfold sum_below in refl
dot-sum [] t (suc n) h k = absurd (omega arith)
dot-sum (x ∷ s) [] zero h k = absurd (omega arith)
dot-sum (x ∷ s) [] (suc n) h k = absurd (omega arith)
dot-sum (x ∷ s) (y ∷ t) zero h k = absurd (omega arith)
dot-sum (x ∷ s) (y ∷ t) (suc n) h k =
    ap (λ (v : ℕ). x ⊗ y ⊕ v) (dot-sum s t n (omega arith) (omega arith)) ∙ sym (sum-front n (λ i. get_or (x ∷ s) i 0 ⊗ get_or (y ∷ t) i 0))

pub segment-is : (q w : ℕ) (b : Batch) (p l : List ℕ) (o n : ℕ) → n ≡ 2 ^ length l → o + n ≤ w
    → mle (take n (drop o (folded q w b p))) l ≡ claim_value q b p l o n
unfolding mle claim_value folded
segment-is q w b p l o n h k =
    dot-sum t (eq_table l) n size (eq_table-length l ∙ sym h)
    ∙ sum_same n (λ i. get_or t i 0 ⊗ get_or (eq_table l) i 0) (λ i. sum_below q (λ u. eq_at p u ⊗ (eq_at l i ⊗ bit_of b u (o + i)))) each
    ∙ sym (sum-swap q n (λ u i. eq_at p u ⊗ (eq_at l i ⊗ bit_of b u (o + i))))
  where
    t : List ℕ
    t = take n (drop o (tabulate (folded_at q b p) w))

    size : length t ≡ n
    size = length-take-le n (drop o (tabulate (folded_at q b p) w)) (rw (length-drop, tabulate-length) (omega arith))

    entry : (i : ℕ) → i < n → get_or t i 0 ≡ folded_at q b p (o + i)
    entry i l = get_or-take n (drop o (tabulate (folded_at q b p) w)) i 0 l ∙ get_or-drop o (tabulate (folded_at q b p) w) i 0
        ∙ tabulate-get (folded_at q b p) w (o + i) 0 (omega arith)

    column : (e i : ℕ) → folded_at q b p (o + i) ⊗ e ≡ sum_below q (λ u. eq_at p u ⊗ (e ⊗ bit_of b u (o + i)))
    column e i = unfold folded_at in
        (⊗-comm (sum_below q (λ u. eq_at p u ⊗ bit_of b u (o + i))) e
        ∙ sym (sum-times q e (λ u. eq_at p u ⊗ bit_of b u (o + i)))
        ∙ sum_same q (λ u. e ⊗ (eq_at p u ⊗ bit_of b u (o + i))) (λ u. eq_at p u ⊗ (e ⊗ bit_of b u (o + i)))
        (λ u g. ⊗-left-comm e (eq_at p u) (bit_of b u (o + i))))

    each : (i : ℕ) → i < n → get_or t i 0 ⊗ get_or (eq_table l) i 0 ≡ sum_below q (λ u. eq_at p u ⊗ (eq_at l i ⊗ bit_of b u (o + i)))
    each i g = ap₂ ◌⊗◌ (entry i g) (eq_table-get l i (rw h at g)) ∙ column (eq_at l i) i

-- ---- bounds of the tables
pub folded-elements : (q w : ℕ) (b : Batch) (p : List ℕ) → AllBelow (2 ^ 128) (folded q w b p)
unfolding folded folded_at
folded-elements q w b p = tabulate-below (folded_at q b p) w (λ y. sum_lt q (λ u. eq_at p u ⊗ bit_of b u y) (λ u. ⊗-lt (eq_at p u) (bit_of b u y)))

pub half-elements : (q w : ℕ) (x : PublicColumns) (p : List ℕ) → AllBelow (2 ^ 128) (public_folded q w x p)
unfolding public_folded public_folded_at
half-elements q w x p = tabulate-below (public_folded_at q x p) w (λ y. sum_lt q (λ u. eq_at p u ⊗ get_or (public_half x u) y 0) (λ u. ⊗-lt (eq_at p u) _))
