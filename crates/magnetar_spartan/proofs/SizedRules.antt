-- Where no test from 1 to 10 is bad, the relation has the sizes that the theorems ask for.
-- Assumes nothing.
use mathlib.Core.Path.{◌≡◌, refl, sym, ap, ◌∙◌}
use mathlib.Core.Bool.{true, false, not, ◌&&◌}
use mathlib.Core.List.{List, [], ◌∷◌, ◌++◌}
use Prim.Native.Nat.{ℕ, ◌*◌, ◌+◌, ◌-◌, ◌/◌, ◌≤◌}
use native.Mathlib.Omega.{arith}
use lib.Dec.{eqb, ltb}
use lib.ListN.{length, drop, length-take}
use borrow.Author.Tests.{ltb-false, eqb-true, not-false}
use Rattle.magnetar_layout.proofs.Laid.{half-power}
use Rattle.magnetar_layout.proofs.Laid.{even-size}
use Rattle.magnetar_layout.specs.Every.{every}
use Rattle.magnetar_layout.specs.Layout.{LayoutFits, is_length, layout_end}
use Rattle.magnetar_layout.specs.Tests.{Tests, Sized, most_segments, size_tests, rows_tests, layout_tests}
use Rattle.magnetar_layout.proofs.EveryLaws.{both}
use Rattle.magnetar_layout.proofs.FirstRefusal.{Clear, numbered}
use Rattle.magnetar_layout.proofs.SizeLaws.{not-bad}
use Rattle.magnetar_matrix.specs.Matrix.{Entry, System}
use Rattle.magnetar_matrix.specs.Packed.{public_words}
use Rattle.magnetar_matrix.proofs.PublicParts.{public-logins, public-count, public-below}
use Rattle.magnetar_protocol.specs.RunSizes.{SizedMatrix, SizedSystem, SizedPublic}
use Rattle.magnetar_relation.specs.declared.shapes.Shape.{Shape}
use Rattle.magnetar_relation.specs.declared.shapes.SystemShape.{SystemShape}
use Rattle.magnetar_relation.specs.Rules.{Rules, entries_in, matrix_at, system_at, relation_of, in_matrix, in_system, in_relation}
use Rattle.magnetar_relation.specs.RuleTests.{row_tests, col_tests, most_tests, number_tests, total, rule_tests_by, rule_tests}
use Rattle.magnetar_protocol.specs.RunTests.{run_tests, outline_tests}
use Rattle.magnetar_spartan.specs.Refusals.{rows_bin, rows_fld, rules_tests}
use Rattle.magnetar_spartan.specs.ValidRules.{ValidRules}
use Rattle.magnetar_spartan.specs.Outcome.{columns_of}
use Rattle.magnetar_spartan.specs.Theorems.{AreWords}
use Rattle.magnetar_spartan.proofs.PassedTests.{numbered-join, clear-front, clear-back, size-passes, most-passes, true-passes}

same : (a b : ℕ) → not (eqb a b) ≡ false → a ≡ b
same a b e = eqb-true a b (not-false (eqb a b) e)

sized-matrix : (n m k : ℕ) (h : Shape) (es : List Entry) → h.rows ≡ n → h.cols ≡ m → h.entries ≤ 1048576 → in_matrix (matrix_at h k es) ≡ true
    → SizedMatrix n m (matrix_at h k es)
sized-matrix n m k h es r c f i = record {
  rows = r;
  cols = c;
  few = rw (length-take h.entries (drop k es)) (omega arith);
  inside = rw (← r, ← c) i;
}

-- the three matrices of a system, whose entries start at place k
module _ (m q k : ℕ) (t : SystemShape) (es : List Entry) where
  abbrev S : System
  S = system_at t k es

  sized-system : Clear (row_tests q t) → Clear (col_tests m t) → Clear (most_tests t) → in_system S ≡ true → SizedSystem m q S
  sized-system r c f i =
      let p = both (in_matrix S.a) (in_matrix S.b && in_matrix S.c) i in
      let y = both (in_matrix S.b) (in_matrix S.c) p.1 in
      let few : (h : Shape) → ltb 1048576 h.entries ≡ false → h.entries ≤ 1048576 = λ h e. ltb-false 1048576 h.entries e in
      record {
        rows = not-bad r.0;
        total = ltb-false 1048576 (q * t.a.rows) r.1.1.1.0;
        a = sized-matrix t.a.rows m k t.a es refl (same _ _ c.0) (few t.a f.0) p.0;
        b = sized-matrix t.a.rows m (k + t.a.entries) t.b es (same _ _ r.1.0) (same _ _ c.1.0) (few t.b f.1.0) y.0;
        c = sized-matrix t.a.rows m (k + t.a.entries + t.b.entries) t.c es (same _ _ r.1.1.0) (same _ _ c.1.1.0) (few t.c f.1.1.0) y.1;
      }

-- 8 to 10
fits : (m : ℕ) (ns : List ℕ) → Sized 2 65536 m → Clear (layout_tests (m / 2) ns) → LayoutFits (m / 2) ns
fits m ns z c = record {
  small = omega (arith, z.high);
  power = half-power (m / 2) (omega (arith, z.low)) (omega (arith, z.high)) (rw (even-size m z) z.power);
  lengths = not-false (every (is_length (m / 2)) ns) c.0;
  ends = ltb-false (m / 2) (layout_end ns) c.1.0;
}

-- every test of the rules has a number
pub rule-numbered : (R : Rules) → numbered (rule_tests R) ≡ true
unfolding rule_tests_by
rule-numbered R = numbered-join (number_tests (total R.shapes) R.numbers) _ (each (total R.shapes) R.numbers) refl
  where
    each : (n : ℕ) (ks : List ℕ) → numbered (number_tests n ks) ≡ true
    each n [] = refl
    each n (k ∷ ks) = each n ks

pub rules-numbered : (R : Rules) (rest : Tests) → numbered rest ≡ true → numbered (rules_tests R ++ rest) ≡ true
rules-numbered R rest h =
    numbered-join (rules_tests R) rest (numbered-join (rule_tests R) (layout_tests (R.m / 2) R.lengths) (rule-numbered R) refl) h

-- both systems
pub record Systems (R : Rules) : Type 0 where
  pub bin : SizedSystem R.m R.q (relation_of R).bin
  pub fld : SizedSystem R.m R.q (relation_of R).fld

pub systems : (R : Rules) → Clear (rule_tests R) → Systems R
unfolding rule_tests_by in_relation
systems R b =
    let B = R.shapes.bin in
    let F = R.shapes.fld in
    let r = relation_of R in
    let numbers : Tests = number_tests (total R.shapes) R.numbers in
    let inside : Tests = (7, not (in_system r.bin && in_system r.fld)) ∷ [] in
    let p₁ : Tests = most_tests F ++ (numbers ++ inside) in
    let p₂ : Tests = most_tests B ++ p₁ in
    let p₃ : Tests = col_tests R.m F ++ p₂ in
    let p₄ : Tests = col_tests R.m B ++ p₃ in
    let p₅ : Tests = row_tests R.q F ++ p₄ in
    let c₅ = clear-back (row_tests R.q B) p₅ b in
    let c₄ = clear-back (row_tests R.q F) p₄ c₅ in
    let c₃ = clear-back (col_tests R.m B) p₃ c₄ in
    let c₂ = clear-back (col_tests R.m F) p₂ c₃ in
    let c₁ = clear-back (most_tests B) p₁ c₂ in
    let c₀ = clear-back numbers inside (clear-back (most_tests F) (numbers ++ inside) c₁) in
    let i = both (in_system r.bin) (in_system r.fld) (not-false _ c₀.0) in
    record {
      bin = sized-system R.m R.q 0 B R.entries (clear-front (row_tests R.q B) p₅ b) (clear-front (col_tests R.m B) p₃ c₄)
          (clear-front (most_tests B) p₁ c₂) i.0;
      fld = sized-system R.m R.q (entries_in B) F R.entries (clear-front (row_tests R.q F) p₄ c₅) (clear-front (col_tests R.m F) p₂ c₃)
          (clear-front (most_tests F) (numbers ++ inside) c₁) i.1;
    }

pub ready : (R : Rules) → Clear (size_tests R.m R.q) → Clear (rule_tests R) → Clear (layout_tests (R.m / 2) R.lengths) → ValidRules R
ready R a b c =
    let s = systems R b in record {
      columns = not-bad a.0;
      logins = not-bad a.1.0;
      bin = s.bin;
      fld = s.fld;
      layout = fits R.m R.lengths (not-bad a.0) c;
      segments = ltb-false 64 (length R.lengths) c.1.1.0;
    }

-- ---- no test of the sizes is bad
pub rows-passes : (m q : ℕ) (t : System) → SizedSystem m q t → (l : Tests) → Clear l → Clear (rows_tests q t.a.rows ++ l)
rows-passes m q t Z l k = (size-passes 1 65536 t.a.rows Z.rows, (most-passes 1048576 (q * t.a.rows) Z.total, k))

module _ (R : Rules) (P : ValidRules R) where
  pub both-rows-passes : (l : Tests) → Clear l → Clear (rows_tests R.q (rows_bin R) ++ (rows_tests R.q (rows_fld R) ++ l))
  both-rows-passes l k =
      rows-passes R.m R.q (relation_of R).bin P.bin (rows_tests R.q (rows_fld R) ++ l)
      (rows-passes R.m R.q (relation_of R).fld P.fld l k)

  pub sizes-passes : (l : Tests) → Clear l → Clear (run_tests R.m R.q (rows_bin R) (rows_fld R) ++ l)
  sizes-passes l k = (size-passes 2 65536 R.m P.columns, (size-passes 1 4096 R.q P.logins, both-rows-passes l k))

  pub layout-passes : (l : Tests) → Clear l → Clear (layout_tests (R.m / 2) R.lengths ++ l)
  layout-passes l k = (true-passes _ P.layout.lengths, (most-passes _ _ P.layout.ends, (most-passes most_segments (length R.lengths) P.segments, k)))

  pub outline-passes : (l : Tests) → Clear l → Clear (outline_tests R.m R.q (rows_bin R) (rows_fld R) R.lengths ++ l)
  outline-passes l k = sizes-passes (layout_tests (R.m / 2) R.lengths ++ l) (layout-passes l k)

-- the public columns that the public words hold, once refusal 3 does not apply
pub sized-columns : (R : Rules) → ValidRules R → (x : List ℕ) → length x ≡ R.q * (R.m - 2) → AreWords x → SizedPublic (relation_of R) (columns_of R x)
sized-columns R P x l h =
    let two : 2 * (R.m / 2) ≡ R.m = even-size R.m P.columns in
    let w = R.m / 2 in
    let k : length x ≡ R.q * public_words w = l ∙ ap (λ (i : ℕ). R.q * (i - 2)) (sym two) in
    record {
      logins = public-logins R.q w x;
      columns = λ u b. public-count R.q w x u (omega (arith, two, P.columns.low)) k b;
      elements = public-below R.q w x h;
    }
