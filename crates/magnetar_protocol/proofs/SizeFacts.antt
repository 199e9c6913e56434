-- Sizes of a run: the halves of the columns, and the draws taken apart and put together again.
-- Assumes nothing.
use mathlib.Core.Path.{◌≡◌, sym, ap, ◌∙◌}
use mathlib.Core.List.{List, [], ◌∷◌, ◌++◌}
use Prim.Native.Nat.{ℕ, zero, suc, ◌+◌, ◌-◌, ◌/◌, ◌^◌, ◌≤◌}
use native.Mathlib.Nat.{two-pow-succ}
use native.Mathlib.Omega.{arith}
use lib.ListN.{length, get_or, take, drop, length-drop, take-append-drop}
use lib.Seq.{length-take-le, drop-drop, take_all, take-suc}
use Rattle.magnetar_field.specs.Sizes.{log₂}
use Rattle.magnetar_matrix.specs.Batch.{Relation}
use Rattle.magnetar_theory.specs.Lists.{drawn}
use Rattle.magnetar_theory.specs.Gf128.{element, gf128}
use Rattle.magnetar_protocol.specs.Shape.{log_logins, log_bin, log_fld, log_cols}
use Rattle.magnetar_protocol.specs.Draws.{Draws, draw_count, draws_of, low_point, top_element}
use Rattle.magnetar_protocol.specs.Theory.{els, log_half, draws_e}
use Rattle.magnetar_protocol.specs.RunSizes.{SizedRelation}
use Rattle.magnetar_protocol.proofs.Elements.{map-append}

-- ---- columns
pub cols-suc : (r : Relation) → SizedRelation r → log_cols r ≡ suc (log_half r)
cols-suc r R = go (log₂ r.m) R.columns.power
  where
    go : (k : ℕ) → r.m ≡ 2 ^ k → k ≡ suc (k - 1)
    go zero e = absurd (omega (arith, R.columns.low))
    go (suc k) e = omega arith

pub cols-pow : (r : Relation) → SizedRelation r → r.m ≡ 2 ^ suc (log_half r)
cols-pow r R = R.columns.power ∙ ap (λ (k : ℕ). 2 ^ k) (cols-suc r R)

pub half_pow : (r : Relation) → SizedRelation r → r.m / 2 ≡ 2 ^ log_half r
half_pow r R = omega (arith, cols-pow r R, two-pow-succ (log_half r))

-- ---- the draws
pub record Cut (r : Relation) (D : Draws) : Type 0 where
  pub tau_bin : length D.tau_bin ≡ log_logins r + log_bin r
  pub tau_fld : length D.tau_fld ≡ log_logins r + log_fld r
  pub shared : length D.shared ≡ log_logins r
  pub row_bin : length D.row_bin ≡ log_bin r
  pub row_fld : length D.row_fld ≡ log_fld r
  pub alphas : length D.alphas ≡ 6
  pub inner : length D.inner ≡ log_cols r

part_length : (d : List ℕ) (a n : ℕ) → a + n ≤ length d → length (take n (drop a d)) ≡ n
part_length d a n h = length-take-le n (drop a d) (rw length-drop (omega arith))

pub cut : (r : Relation) (d : List ℕ) → length d ≡ draw_count r → Cut r (draws_of r d)
unfolding draws_of
cut r d h = record {
  tau_bin = length-take-le (log_logins r + log_bin r) d (omega arith);
  tau_fld = part_length d (log_logins r + log_bin r) (log_logins r + log_fld r) (omega arith);
  shared = part_length d (log_logins r + log_bin r + (log_logins r + log_fld r)) (log_logins r) (omega arith);
  row_bin = part_length d (log_logins r + log_bin r + (log_logins r + log_fld r) + log_logins r) (log_bin r) (omega arith);
  row_fld = part_length d (log_logins r + log_bin r + (log_logins r + log_fld r) + log_logins r + log_bin r) (log_fld r) (omega arith);
  alphas = part_length d (log_logins r + log_bin r + (log_logins r + log_fld r) + log_logins r + log_bin r + log_fld r) 6 (omega arith);
  inner = part_length d (log_logins r + log_bin r + (log_logins r + log_fld r) + log_logins r + log_bin r + log_fld r + 6) (log_cols r)
      (omega arith);
}

-- n elements from a on, and the rest
split : (d : List ℕ) (a n : ℕ) → take n (drop a d) ++ drop (a + n) d ≡ drop a d
split d a n = ap (λ (l : List ℕ). take n (drop a d) ++ l) (sym (drop-drop n a d)) ∙ take-append-drop n (drop a d)

abbrev joined : Draws → List ℕ
joined D = D.tau_bin ++ (D.tau_fld ++ (D.shared ++ (D.row_bin ++ (D.row_fld ++ (D.alphas ++ D.inner)))))

pub join : (r : Relation) (d : List ℕ) → length d ≡ draw_count r → joined (draws_of r d) ≡ d
unfolding draws_of
join r d h = go (log_logins r) (log_bin r) (log_fld r) (log_cols r) h
  where
    go : (s b f c : ℕ) → length d ≡ (s + b) + ((s + f) + (s + (b + (f + (6 + c)))))
        → take (s + b) d ++ (take (s + f) (drop (s + b) d) ++ (take s (drop (s + b + (s + f)) d) ++ (take b (drop (s + b + (s + f) + s) d)
        ++ (take f (drop (s + b + (s + f) + s + b) d) ++ (take 6 (drop (s + b + (s + f) + s + b + f) d)
        ++ take c (drop (s + b + (s + f) + s + b + f + 6) d)))))) ≡ d
    go s b f c h =
        rw (
          take_all c (drop (s + b + (s + f) + s + b + f + 6) d) (rw length-drop (omega arith)),
          split d
              (s + b + (s + f) + s + b + f) 6,
          split d (s + b + (s + f) + s + b) f,
          split d (s + b + (s + f) + s) b,
          split d
              (s + b + (s + f)) s,
          split d (s + b) (s + f),
        )
        (take-append-drop (s + b) d)

module _ (r : Relation) (R : SizedRelation r) (D : Draws) (C : Cut r D) where
  -- the column point is its low part and its last element
  pub inner-is : els (low_point r D) ++ (element (top_element r D) ∷ []) ≡ els D.inner
  unfolding low_point top_element
  inner-is =
      sym (map-append element (take (log_half r) D.inner) (get_or D.inner (log_half r) 0 ∷ []))
      ∙ ap els (sym (take-suc D.inner (log_half r) 0 (omega (arith, C.inner, cols-suc r R)))
      ∙ take_all (suc (log_half r)) D.inner (omega (arith, C.inner, cols-suc r R)))

  pub low_size : length (low_point r D) ≡ log_half r
  unfolding low_point
  low_size = length-take-le (log_half r) D.inner (omega (arith, C.inner, cols-suc r R))

-- the draws of the theory in one list
pub flat : (r : Relation) (d : List ℕ) → SizedRelation r → length d ≡ draw_count r → drawn gf128 (draws_e r (draws_of r d)) ≡ els d
flat r d R h = parts (draws_of r d) (inner-is r R (draws_of r d) (cut r d h)) ∙ ap els (join r d h)
  where
    parts : (D : Draws) → els (low_point r D) ++ (element (top_element r D) ∷ []) ≡ els D.inner → drawn gf128 (draws_e r D) ≡ els (joined D)
    parts D e = rw (
      e,
      map-append element D.tau_bin,
      map-append element D.tau_fld,
      map-append element D.shared,
      map-append element
          D.row_bin,
      map-append element D.row_fld,
      map-append element D.alphas,
    )
