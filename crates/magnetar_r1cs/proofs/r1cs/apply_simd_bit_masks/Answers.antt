use Rattle.std.specs.Prelude.{Result, Ok, Err}
use Rattle.std.proofs.Common.{if◌then◌else◌}
use Rattle.std.specs.Result.{IsErrAnd}
use mathlib.Core.Path.{◌≡◌, refl, sym, ap, ◌∙◌}
use mathlib.Core.Bool.{Bool, true, false}
use lib.Dec.{leb}
use mathlib.Core.List.{List, [], ◌++◌}
use Prim.Native.Nat.{ℕ, ◌-◌, ◌*◌, ◌/◌, ◌%◌, ◌^◌, ◌≤◌}
use native.Mathlib.Nat.{one-mul, mul-div_cancel_left}
use native.Mathlib.Omega.{arith}
use lib.Pow.{pow_pos}
use lib.ListN.{length}
use lib.Seq.{length-take-le}
use borrow.Author.Tests.{ltb-false, not-false, leb-true, leb-false}
use Rattle.magnetar_field.specs.declared.refusal.Refusal.{Refusal}
use Rattle.magnetar_field.specs.declared.refusal.Refusal.TheVariants.{Room}
use Rattle.magnetar_field.specs.Number.{number_of}
use Rattle.magnetar_field.specs.Refusal.{unless_refused}
use Rattle.magnetar_field.proofs.Handed.{handed}
use Rattle.magnetar_field.specs.Sizes.{log₂}
use Rattle.magnetar_field.proofs.Log2.{power-is}
use Rattle.magnetar_layout.specs.Tests.{Tests, first_refusal, room_test}
use Rattle.magnetar_layout.proofs.Passing.{out, out-front, late, cleared}
use Rattle.magnetar_layout.proofs.FirstRefusal.{turned, done}
use Rattle.magnetar_layout.proofs.Room.{room-short, room-enough}
use Rattle.magnetar_layout.proofs.Refused.{number-positive}
use Rattle.magnetar_matrix.specs.Matrix.{bit_valued}
use Rattle.magnetar_matrix.specs.Lent.{Lent, matrix_of}
use Rattle.magnetar_matrix.specs.Numbers.{lent_by}
use Rattle.magnetar_r1cs.specs.Entries.{matrix_tests, mask_tests, mask_count, masks_refusal}
use Rattle.magnetar_r1cs.proofs.Lone.{Batched, masked}
use Rattle.magnetar_matrix.proofs.Blocks.{product-fits}
use Rattle.magnetar_r1cs.proofs.Flipped.{Powers, powers-of, masks-in-front}
use Rattle.magnetar_r1cs.proofs.r1cs.apply_simd_bit_masks.Goals as goal

-- a matrix, logins and a number v that the tests let through
record Fits (m : Lent) (ws : List ℕ) (q w v : ℕ) : Type 0 where
  batched : Batched m ws [] q w
  bits : bit_valued w (matrix_of m) ≡ true
  powers : Powers q v
  lows : q / 2 ^ v ≡ 2 ^ (log₂ q - v)
  logins : 1 * 2 ^ v % 2 ^ 64 ≡ 2 ^ v
  few : q / 2 ^ v ≤ 4096

fits_of : (m : Lent) (ws : List ℕ) (q w v : ℕ) → 0 ≡ first_refusal 0 (matrix_tests m ws q w) → 0 ≡ first_refusal 0 (mask_tests m q w v) → Fits m ws q w v
fits_of m ws q w v eb em =
    let b = masked m ws q w (sym eb) in
    let k = cleared (mask_tests m q w v) refl em in
    let h = ltb-false _ _ k.1.0 in
    let p = powers-of q v b.logins h (ltb-false _ _ k.1.1.0) in
    let l : q / 2 ^ v ≡ 2 ^ (log₂ q - v) = ap (λ (n : ℕ). n / 2 ^ v) (sym p.all) ∙ mul-div_cancel_left (2 ^ (log₂ q - v)) (pow_pos v) in
    record {
      batched = b;
      bits = not-false _ k.0;
      powers = p;
      lows = l;
      logins = rw one-mul (power-is v (omega (arith, h, p.small)));
      few = rw l p.lows;
    }

-- what was lent stays as it was where a `?` met a refusal
kept : {A B : Type 0} {m : ℕ} (r : Result A Refusal) (e : Refusal) → IsErrAnd r (λ y. y ≡ e) → (new old : B) → number_of r ≡ m
    → old ≡ unless_refused m new old
kept r e h new old f = let p = number-positive e in turned new old f (λ z. let i = handed r e h in omega arith)

room-required : (n : ℕ) (s : List ℕ) (r : Result Unit Refusal) → r ≡ (if leb n (length s) then Ok tt else Err Room)
    → number_of r ≡ first_refusal 0 (room_test n s)
room-required n s r e = go (leb n (length s)) refl e
  where
    go : (b : Bool) → leb n (length s) ≡ b → r ≡ (if b then Ok tt else Err Room) → number_of r ≡ first_refusal 0 (room_test n s)
    go true t h = rw h (room-enough n s (leb-true n (length s) t))
    go false t h = rw h (room-short n s (leb-false n (length s) t))

pub returns-in_err-matrix_refusal : goal.returns-in_err-matrix_refusal
unfolding masks_refusal
returns-in_err-matrix_refusal g c =
    let x = c.args in
    let a : Lent = lent_by x.rows x.cols (g.E.Entries.numbers x.es.now) in
    let h = c.from_residual.ensures.1 in
    let e = out-front (matrix_tests a x.packed.now x.q x.w) (mask_tests a x.q x.w x.v ++ room_test (mask_count a x.q x.v) x.out.now) _ _
    h c.in_err-matrix_refusal.ensures in
    record { answer = e; written = kept _ _ h _ _ e }

pub returns-in_err-bits_refusal : goal.returns-in_err-bits_refusal
unfolding masks_refusal bit_valued matrix_of
returns-in_err-bits_refusal g c =
    let x = c.args in
    let a : Lent = lent_by x.rows x.cols (g.E.Entries.numbers x.es.now) in
    let k : Tests = mask_tests a x.q x.w x.v in
    let o : Tests = room_test (mask_count a x.q x.v) x.out.now in
    let h = c.from_residual-in_err-bits_refusal.ensures.1 in
    let e = late (matrix_tests a x.packed.now x.q x.w) (k ++ o) c.in_ok-matrix_refusal.ensures (out-front k o _ _ h c.in_err-bits_refusal.ensures) in
    record { answer = e; written = kept _ _ h _ _ e }

pub overflow_mul-end : goal.overflow_mul-end
unfolding bit_valued matrix_of
overflow_mul-end g c =
    let x = c.args in
    let a : Lent = lent_by x.rows x.cols (g.E.Entries.numbers x.es.now) in
    let f = fits_of a x.packed.now x.q x.w x.v c.in_ok-matrix_refusal.ensures c.in_ok-bits_refusal.ensures in
    omega (arith, product-fits (x.q / 2 ^ x.v) x.rows f.few (omega (arith, f.batched.rows_size.high)))

pub returns-in_err-require : goal.returns-in_err-require
unfolding masks_refusal bit_valued matrix_of
returns-in_err-require g c =
    let x = c.args in
    let a : Lent = lent_by x.rows x.cols (g.E.Entries.numbers x.es.now) in
    let f = fits_of a x.packed.now x.q x.w x.v c.in_ok-matrix_refusal.ensures c.in_ok-bits_refusal.ensures in
    let k : Tests = mask_tests a x.q x.w x.v in
    let o : Tests = room_test (mask_count a x.q x.v) x.out.now in
    let h = c.from_residual-in_err-require.ensures.1 in
    let e = late (matrix_tests a x.packed.now x.q x.w) (k ++ o) c.in_ok-matrix_refusal.ensures
    (late k o c.in_ok-bits_refusal.ensures (out o [] _ _ h (room-required (mask_count a x.q x.v) x.out.now _ (rw f.lows at c.in_err-require.ensures)))) in
    record { answer = e; written = kept _ _ h _ _ e }

pub mask_all-requires : goal.mask_all-requires
unfolding bit_valued matrix_of
mask_all-requires g c =
    let x = c.args in
    let a : Lent = lent_by x.rows x.cols (g.E.Entries.numbers x.es.now) in
    let f = fits_of a x.packed.now x.q x.w x.v c.in_ok-matrix_refusal.ensures c.in_ok-bits_refusal.ensures in
    let room : (x.q / 2 ^ x.v) * x.rows ≤ length x.out.now = grind arith in (
      f.batched.half,
      f.batched.logins.high,
      rw f.logins f.powers.logins,
      rw (f.lows, f.logins) f.powers.all,
      f.few,
      f.batched.rows_size.high,
      f.batched.packed,
      length-take-le _ _ room,
    )

pub returns : goal.returns
unfolding masks_refusal bit_valued matrix_of
returns g c =
    let x = c.args in
    let a : Lent = lent_by x.rows x.cols (g.E.Entries.numbers x.es.now) in
    let f = fits_of a x.packed.now x.q x.w x.v c.in_ok-matrix_refusal.ensures c.in_ok-bits_refusal.ensures in
    let room : (x.q / 2 ^ x.v) * x.rows ≤ length x.out.now = grind arith in
    let t : mask_count a x.q x.v ≤ length x.out.now = rw (← f.lows) room in
    let k : Tests = mask_tests a x.q x.w x.v in
    let o : Tests = room_test (mask_count a x.q x.v) x.out.now in
    let e : ◌≡◌ {A = ℕ} 0 (masks_refusal a x.packed.now x.q x.w x.v x.out.now) =
    late (matrix_tests a x.packed.now x.q x.w) (k ++ o) c.in_ok-matrix_refusal.ensures
    (late k o c.in_ok-bits_refusal.ensures (room-enough (mask_count a x.q x.v) x.out.now t)) in
    let m = masks-in-front a x.packed.now x.out.now _ x.q x.w x.v _ _ f.lows f.logins f.powers f.bits c.mask_all.ensures in
    record { answer = e; written = m ∙ done _ _ e refl }
