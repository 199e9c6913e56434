-- The eq table of a tau in its place, and the terminals sent one at a time.
-- Assumes nothing.
use mathlib.Core.Path.{◌≡◌, refl, sym, ap, ap₂, ◌∙◌}
use mathlib.Core.List.{List, [], ◌∷◌, ◌++◌, append-nil}
use Prim.Native.Nat.{ℕ, suc, ◌+◌, ◌-◌, ◌*◌, ◌/◌, ◌%◌, ◌^◌, ◌≤◌}
use Prim.Native.String.{String}
use native.Mathlib.Omega.{arith}
use lib.ListN.{length, get_or, take, drop, drop_of_length-le}
use lib.Seq.{length-take-le, take_at, drop-drop}
use borrow.Rule.Slice.PartMut.{put_mid}
use Rattle.magnetar_field.specs.Words.{elements, words}
use Rattle.magnetar_multilinear.specs.EqTable.{eq_table}
use Rattle.magnetar_multilinear.specs.Entries.{eq_out, table_words}
use Rattle.magnetar_field.proofs.Elements.{elements-length, elements-drop, words-length}
use Rattle.magnetar_multilinear.proofs.EqTables.{eq_table-length, from_one}
use Rattle.magnetar_hash.specs.declared.transcript.Transcript.{Transcript}
use Rattle.magnetar_schedule.specs.Schedule.{numbered}
use Rattle.magnetar_matrix.specs.Table.{Point}
use Rattle.magnetar_multilinear.proofs.Refusals.{eq-none}
use Rattle.magnetar_matrix.proofs.TableLaws.{elements-words}
use Rattle.magnetar_sumcheck_verifier.specs.Messages.{outer_start}
use Rattle.magnetar_prover.specs.Entries.{table_at}
use Rattle.magnetar_prover.specs.InScratch.{outer_in, absorbed_one, Sent, sent_in, sent_each, three_in, EqTablePlaced}
use Rattle.magnetar_prover.proofs.Slots.{part-size, part-is, fore-back, fore-length}
use Rattle.magnetar_prover.proofs.Sent.{elements-take, table-first}

-- what `EqBits::build` leaves from 1, where the room is the table's own
pub eq-built : (p s : List ℕ) → Point p s → eq_out p 1 s ≡ words (eq_table (elements p))
eq-built p s h =
    rw (
      eq-none p s h.even h.short (omega (arith, h.room)),
      drop_of_length-le s {i = table_words p} (omega (arith, h.room)),
      append-nil,
      from_one,
    )

-- the eq table of x elements from o on, in the first w words of s
module _ (draws s last : List ℕ) (o x w : ℕ) (few : x ≤ 20) (room : 2 * (o + x) ≤ length draws) (fits : w ≤ length s) (size : w ≡ 2 * 2 ^ x) where
  abbrev part : List ℕ
  part = take (2 * o + 2 * x - 2 * o) (drop (2 * o) draws)

  long : length part ≡ 2 * x
  long = part-size draws (2 * o) (2 * x) (omega (arith, room))

  half : length part / 2 ≡ x
  half = omega (arith, long)

  first : length (take w s) ≡ w
  first = length-take-le w s fits

  pub tau-point : Point part (take w s)
  tau-point = record {
    even = omega (arith, long);
    short = omega (arith, long, few);
    room = first ∙ (size ∙ ap (λ (k : ℕ). 2 * 2 ^ k) (sym half));
  }

  tau-is : elements part ≡ take x (drop o (elements draws))
  tau-is = ap elements (part-is draws (2 * o) (2 * x)) ∙ (sym (elements-take x (drop (2 * o) draws)) ∙ ap (take x) (sym (elements-drop o draws)))

  module _ (e : last ≡ eq_out part 1 (take w s)) where
    built : last ≡ words (eq_table (take x (drop o (elements draws))))
    built = e ∙ (eq-built part (take w s) tau-point ∙ ap (λ (l : List ℕ). words (eq_table l)) tau-is)

    count : length (take x (drop o (elements draws))) ≡ x
    count = ap length (sym tau-is) ∙ (elements-length part ∙ half)

    pub built-size : length last ≡ w
    built-size =
        ap length built
        ∙ (words-length (eq_table (take x (drop o (elements draws))))
        ∙ (ap (λ (k : ℕ). 2 * k) (eq_table-length (take x (drop o (elements draws)))) ∙ (ap (λ (k : ℕ). 2 * 2 ^ k) count ∙ sym size)))

    pub eq-table-placed : EqTablePlaced w (take x (drop o (elements draws))) s (last ++ drop w s)
    eq-table-placed = record {
      table = ap elements (take_at last (drop w s) w built-size ∙ built) ∙ elements-words (eq_table (take x (drop o (elements draws))));
      rest = fore-back s last w fits built-size;
    }

-- in the blocks of one slice
placed-eq : (w : ℕ) (tau s₀ s₁ s t : List ℕ) → s₀ ≡ s₁ → s ≡ t → EqTablePlaced w tau s₀ s → EqTablePlaced w tau s₁ t
placed-eq w tau s₀ s₁ s t a b h = record {
  table = ap (table_at 0 w) (sym b) ∙ h.table;
  rest = ap (drop w) (sym b) ∙ (h.rest ∙ ap (drop w) a);
}

module _ (s one two : List ℕ) (b f : ℕ) (size : length s ≡ 4 * b + 4 * f) (l : length one ≡ 4 * b) where
  abbrev half-way : List ℕ
  half-way = one ++ drop (4 * b) s

  pub both-fit : length half-way ≡ 4 * b + 4 * f
  both-fit = fore-length s one (4 * b) (omega (arith, size)) l ∙ size

  module _ (m : length two ≡ 4 * f) where
    abbrev done : List ℕ
    done = put_mid (4 * b) (4 * b + 4 * f - 4 * b) half-way two

    room : 4 * b + 4 * f ≤ length half-way
    room = omega (arith, both-fit)

-- the tables behind the first
pub behind : (w b n : ℕ) (s₀ s : List ℕ) → drop w s ≡ drop w s₀ → w ≤ b → table_at b n s ≡ table_at b n s₀
behind w b n s₀ s e h = ap (λ (l : List ℕ). elements (take n l)) (from s ∙ (ap (drop (b - w)) e ∙ sym (from s₀)))
  where
    from : (l : List ℕ) → drop b l ≡ drop (b - w) (drop w l)
    from l = let q : w + (b - w) ≡ b = omega arith in sym (drop-drop (b - w) w l ∙ ap (λ (i : ℕ). drop i l) q)

-- what the prover of a system holds at the start
pub placed-outer : (high w : ℕ) (tau s₀ s : List ℕ) → EqTablePlaced w tau s₀ s
    → outer_in high tau 1 w w s ≡ outer_start high tau (table_at w w s₀) (table_at (2 * w) w s₀) (table_at (3 * w) w s₀)
unfolding outer_start
placed-outer high w tau s₀ s h =
    rw (
      h.table,
      behind w w w s₀ s h.rest (omega arith),
      behind w (2 * w) w s₀ s h.rest (omega arith),
      behind w (3 * w) w s₀ s h.rest (omega arith),
    ) refl

-- ---- the terminals
each-one : (label : String) (i j k m n x y : ℕ) (vs : List ℕ) (t u : Transcript) (proof p' : List ℕ) → j ≡ suc i → m ≡ n → x ≡ y
    → u ≡ absorbed_one t (numbered label i) x → take n (elements p') ≡ take k (elements proof) ++ (x ∷ [])
    → sent_each label j vs (sent_in m u p') ≡ sent_each label i (y ∷ vs) (sent_in k t proof)
unfolding sent_each
each-one label i j k m n x y vs t u proof p' a b c e f =
    ap₂ (λ (q : ℕ) (p : Sent). sent_each label q vs p) a
    (ap₂ (λ (v : Transcript) (l : List ℕ). record { transcript = v; sent = l })
    (e ∙ ap (absorbed_one t (numbered label i)) c) (ap (λ (q : ℕ). take q (elements p')) b ∙ (f ∙ ap (λ (v : ℕ). take k (elements proof) ++ (v ∷ [])) c)))

module _ (label : String) (i p w : ℕ) (s p₀ p₁ p₂ p₃ : List ℕ) (t u v r : Transcript) (even : w % 2 ≡ 0) where
  at_a : get_or (elements s) (w / 2) 0 ≡ get_or (table_at w 2 s) 0 0
  at_a = sym (table-first s w (w / 2) 2 (omega (arith, even)) (omega arith))

  at_b : get_or (elements s) w 0 ≡ get_or (table_at (2 * w) 2 s) 0 0
  at_b = sym (table-first s (2 * w) w 2 refl (omega arith))

  at_c : get_or (elements s) (w + w / 2) 0 ≡ get_or (table_at (3 * w) 2 s) 0 0
  at_c = sym (table-first s (3 * w) (w + w / 2) 2 (omega (arith, even)) (omega arith))

  none : (j : ℕ) (q : Sent) → sent_each label j [] q ≡ q
  unfolding sent_each
  none j q = refl

  pub three-sent : u ≡ absorbed_one t (numbered label i) (get_or (elements s) (w / 2) 0)
      → take (p + 1) (elements p₁) ≡ take p (elements p₀) ++ (get_or (elements s) (w / 2) 0 ∷ [])
      → v ≡ absorbed_one u (numbered label (i + 1)) (get_or (elements s) w 0)
      → take (p + 1 + 1) (elements p₂) ≡ take (p + 1) (elements p₁) ++ (get_or (elements s) w 0 ∷ [])
      → r ≡ absorbed_one v (numbered label (i + 2)) (get_or (elements s) (w + w / 2) 0)
      → take (p + 2 + 1) (elements p₃) ≡ take (p + 2) (elements p₂) ++ (get_or (elements s) (w + w / 2) 0 ∷ [])
      → sent_in (p + 3) r p₃ ≡ sent_each label i (three_in w s) (sent_in p t p₀)
  three-sent a b c d e f =
      sym (none (suc (i + 2)) (sent_in (p + 3) r p₃))
      ∙ (each-one label (i + 2) (suc (i + 2)) (p + 2) (p + 3) (p + 2 + 1) (get_or (elements s) (w + w / 2) 0) (get_or (table_at (3 * w) 2 s) 0 0) [] v
      r p₂ p₃ refl (omega arith) at_c e f
      ∙ (each-one label (i + 1) (i + 2) (p + 1) (p + 2) (p + 1 + 1) (get_or (elements s) w 0) (get_or (table_at (2 * w) 2 s) 0 0) (get_or (table_at (3 * w) 2
      s) 0 0 ∷ []) u v p₁ p₂ (omega arith) (omega arith) at_b c d
      ∙ each-one label i (i + 1) p (p + 1) (p + 1) (get_or (elements s) (w / 2) 0) (get_or (table_at w 2 s) 0 0) (get_or (table_at (2 * w) 2 s) 0 0 ∷ get_or
      (table_at (3 * w) 2 s) 0 0 ∷ []) t u p₀ p₁ (omega arith) refl at_a a b))

-- both blocks
pub six-sent : (label : String) (p b f : ℕ) (bin fld p₀ p₁ p₂ : List ℕ) (t u r : Transcript)
    → sent_in (p + 3) u p₁ ≡ sent_each label 0 (three_in b bin) (sent_in p t p₀)
    → sent_in (p + 3 + 3) r p₂ ≡ sent_each label 3 (three_in f fld) (sent_in (p + 3) u p₁)
    → sent_in (p + 6) r p₂ ≡ sent_each label 0 (three_in b bin ++ three_in f fld) (sent_in p t p₀)
unfolding sent_each
six-sent label p b f bin fld p₀ p₁ p₂ t u r e g =
    let q : p + 6 ≡ p + 3 + 3 = omega arith in
    ap (λ (k : ℕ). sent_in k r p₂) q ∙ (g ∙ ap (sent_each label 3 (three_in f fld)) e)
