-- eq of a point and a number, bit by bit; the values of the segments, one after the other.
-- Assumes nothing.
use mathlib.Core.Path.{◌≡◌, refl, sym, ap, ap₂, subst, ◌∙◌}
use mathlib.Core.List.{List, [], ◌∷◌}
use Prim.Native.Nat.{ℕ, suc, ◌+◌, ◌-◌, ◌*◌, ◌/◌, ◌%◌, ◌^◌, ◌≤◌, ◌<◌}
use native.Mathlib.Nat.{le_trans, mul-div_cancel}
use native.Mathlib.Numerals.{add-one}
use native.Mathlib.Omega.{arith}
use lib.Dec.{eqb, lit<}
use lib.ListN.{length, get_or, take, drop, drop_of_length-le, length-drop}
use lib.Seq.{drop-cons, take_all}
use Rattle.magnetar_field.specs.Gf128.{◌⊕◌, ◌⊗◌}
use Rattle.magnetar_field.specs.Sizes.{log₂}
use Rattle.magnetar_field.specs.Words.{elements}
use Rattle.magnetar_multilinear.specs.EqTable.{eq_factor, eq_at}
use Rattle.magnetar_field.proofs.Elements.{elements-drop}
use Rattle.magnetar_field.proofs.Xor.{⊕-assoc, ⊕-zero, zero-⊕}
use Rattle.magnetar_field.proofs.Product.{⊗-lt, ⊗-one, one-⊗, ⊗-assoc}
use Rattle.magnetar_multilinear.proofs.EqTables.{eq_at-lt, eq_at-cons}
use Rattle.magnetar_layout.specs.Layout.{LayoutFits, next_multiple, local_vars, suffix}
use Rattle.std.specs.Int.{div_ceil}
use Rattle.magnetar_layout.proofs.Readings.{log-le}
use Rattle.magnetar_layout.proofs.Laid.{ceil-is, Laid, laid-start, laid_more, laid-offset, laid-within, offset-within, each-size}
use Rattle.magnetar_protocol.specs.Checks.{segment_sum}

-- ---- the factors of the first j elements are in acc, and the number halved j times is left
pub record Times (p : List ℕ) (k acc rest j : ℕ) : Type 0 where
  pub left : acc ⊗ eq_at (drop j p) rest ≡ eq_at p k
  pub small : acc < 2 ^ 128

pub times-start : (p : List ℕ) (k : ℕ) → Times p k 1 k 0
times-start p k = record { left = one-⊗ (eq_at p k) (eq_at-lt p k); small = lit< tt }

pub times_more : (p : List ℕ) (k acc rest j x acc' : ℕ) → Times p k acc rest j → j < length p → x ≡ eq_factor (get_or p j 0) (eqb (rest % 2) 1)
    → acc' ≡ acc ⊗ x → Times p k acc' (rest / 2) (j + 1)
times_more p k acc rest j x acc' t h ex e = rw (add-one j) (record {
  left =
      ap (λ (y : ℕ). y ⊗ eq_at (drop (suc j) p) (rest / 2)) (e ∙ ap (λ (y : ℕ). acc ⊗ y) ex)
      ∙ ⊗-assoc acc (eq_factor (get_or p j 0) (eqb (rest % 2) 1)) (eq_at (drop (suc j) p) (rest / 2))
      ∙ ap (λ (y : ℕ). acc ⊗ y) (sym (eq_at-cons (get_or p j 0) (drop (suc j) p) rest) ∙ ap (λ (l : List ℕ). eq_at l rest) (sym (drop-cons p j 0 h)))
      ∙ t.left;
  small = rw e (⊗-lt acc x);
})

eq_at-nil : (i : ℕ) → eq_at [] i ≡ 1
unfolding eq_at
eq_at-nil i = refl

pub times-end : (p : List ℕ) (k acc rest j : ℕ) → Times p k acc rest j → length p ≤ j → acc ≡ eq_at p k
times-end p k acc rest j t h =
    sym (⊗-one acc t.small) ∙ ap (λ (y : ℕ). acc ⊗ y) (sym (ap (λ (l : List ℕ). eq_at l rest) (drop_of_length-le p {i = j} h) ∙ eq_at-nil rest))
    ∙ t.left

-- ---- the segments: the first i values are in acc, and the walk over the layout stands at c
pub record Segments (ns low vs : List ℕ) (acc c i : ℕ) : Type 0 where
  pub laid : Laid ns c i
  pub left : acc ⊕ segment_sum ns low i (drop i vs) ≡ segment_sum ns low 0 vs

pub segments-start : (ns low vs : List ℕ) → Segments ns low vs 0 0 0
segments-start ns low vs = record { laid = laid-start ns; left = zero-⊕ (segment_sum ns low 0 vs) }

segments-cons : (ns low : List ℕ) (i v : ℕ) (vs : List ℕ)
    → segment_sum ns low i (v ∷ vs) ≡ eq_at (drop (local_vars ns i) low) (suffix ns i) ⊗ v ⊕ segment_sum ns low (suc i) vs
unfolding segment_sum
segments-cons ns low i v vs = refl

segments-nil : (ns low : List ℕ) (i : ℕ) → segment_sum ns low i [] ≡ 0
unfolding segment_sum
segments-nil ns low i = refl

-- what a segment of the walk is: its length is a power of two, and it lies within w
pub record Step (w c n k lw : ℕ) : Type 0 where
  pub first : 0 < n
  pub length_within : n ≤ w
  pub walk_within : c ≤ w
  pub small : w ≤ 32768
  pub end_within : k * n + n ≤ w
  pub vars : log₂ n ≤ lw

multiple-is : (c n : ℕ) → 0 < n → div_ceil c n * n ≡ next_multiple c n
unfolding next_multiple
multiple-is c n h = ap (λ (k : ℕ). k * n) (ceil-is c n h)

pub step_of : (w : ℕ) (ns low vs : List ℕ) (acc c i : ℕ) → LayoutFits w ns → Segments ns low vs acc c i → i < length ns
    → Step w c (get_or ns i 0) (div_ceil c (get_or ns i 0)) (log₂ w)
step_of w ns low vs acc c i S g h =
    let z = each-size w ns i S.lengths h in
    record {
      first = z.least;
      length_within = z.most;
      walk_within = le_trans (laid-within w ns c i g.laid S.lengths) S.ends;
      small = S.small;
      end_within = subst (λ (o : ℕ). o + get_or ns i 0 ≤ w) (sym (multiple-is c (get_or ns i 0) z.least ∙ laid-offset ns c i g.laid h))
          (offset-within w ns i S h);
      vars = log-le (get_or ns i 0) w z.power S.power z.most;
    }

place_is : (ns : List ℕ) (c i k : ℕ) → Laid ns c i → i < length ns → 0 < get_or ns i 0 → k ≡ div_ceil c (get_or ns i 0) → suffix ns i ≡ k
place_is ns c i k l h p e =
    ap (λ (o : ℕ). o / get_or ns i 0) (sym (laid-offset ns c i l h) ∙ sym (multiple-is c (get_or ns i 0) p) ∙ ap (λ (j : ℕ). j * get_or ns i 0) (sym e))
    ∙ mul-div_cancel k p

pub segments-more : (w : ℕ) (ns low vs : List ℕ) (acc c i k v acc' c' : ℕ) → LayoutFits w ns → Segments ns low vs acc c i → i < length ns
    → length vs ≡ length ns → k ≡ div_ceil c (get_or ns i 0) → v ≡ get_or vs i 0
    → acc' ≡ acc ⊕ eq_at (drop (log₂ (get_or ns i 0)) low) k ⊗ v → c' ≡ k * get_or ns i 0 + get_or ns i 0 → Segments ns low vs acc' c' (i + 1)
segments-more w ns low vs acc c i k v acc' c' S g h lv ek ev ea ec = record {
  laid = subst (λ (o : ℕ). Laid ns o (i + 1)) (sym walked) (laid_more ns c i g.laid h);
  left = rw (add-one i) (
      ap (λ (y : ℕ). y ⊕ segment_sum ns low (suc i) (drop (suc i) vs)) (ea ∙ ap₂ (λ (y z : ℕ). acc ⊕ eq_at (drop (log₂ (get_or ns i 0)) low) y ⊗ z)
      (sym (place_is ns c i k g.laid h (each-size w ns i S.lengths h).least ek)) ev)
      ∙ ⊕-assoc acc (eq_at (drop (local_vars ns i) low) (suffix ns i) ⊗ get_or vs i 0) (segment_sum ns low (suc i) (drop (suc i) vs))
      ∙ ap (λ (y : ℕ). acc ⊕ y) (sym (segments-cons ns low i (get_or vs i 0) (drop (suc i) vs))
      ∙ ap (segment_sum ns low i) (sym (drop-cons vs i 0 (rw lv h))))
      ∙ g.left);
}
  where
    walked : c' ≡ next_multiple c (get_or ns i 0) + get_or ns i 0
    walked = ec ∙ ap (λ (j : ℕ). j * get_or ns i 0 + get_or ns i 0) ek
        ∙ ap (λ (o : ℕ). o + get_or ns i 0) (multiple-is c (get_or ns i 0) (each-size w ns i S.lengths h).least)

pub segments-end : (ns low vs : List ℕ) (acc c i : ℕ) → Segments ns low vs acc c i → length vs ≤ i → acc ≡ segment_sum ns low 0 vs
segments-end ns low vs acc c i g h =
    sym (⊕-zero acc) ∙ ap (λ (y : ℕ). acc ⊕ y) (sym (ap (segment_sum ns low i) (drop_of_length-le vs {i = i} h) ∙ segments-nil ns low i)) ∙ g.left

-- the high part of the low point
pub behind : (a l : ℕ) (s : List ℕ) → a ≡ 2 * l → elements (take (length s - a) (drop a s)) ≡ drop l (elements s)
behind a l s e = ap elements (take_all (length s - a) (drop a s) (rw length-drop (omega arith))) ∙ rw e (sym (elements-drop l s))
