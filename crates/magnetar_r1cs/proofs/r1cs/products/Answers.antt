use mathlib.Core.Path.{◌≡◌, refl, ◌∙◌}
use Prim.Native.Nat.{ℕ, ◌*◌, ◌≤◌, ◌-◌}
use native.Mathlib.Nat.{zero-mul, zero-add}
use native.Mathlib.Omega.{arith}
use lib.ListN.{length}
use lib.Seq.{length-take-le, length_front}
use Rattle.magnetar_matrix.specs.Numbers.{entries_by}
use Rattle.magnetar_matrix.proofs.LoginParts.{part-ends}
use Rattle.magnetar_matrix.proofs.Blocks.{block_of}
use Rattle.magnetar_matrix.proofs.Carried.{filling-start, rest-long, next_fits, lent-public, next-login, first_part}
use Rattle.magnetar_r1cs.proofs.r1cs.products.Goals as goal

-- there is room for a login
front : (q m n : ℕ) → 1 ≤ q → n ≡ q * m → m ≤ n
front q m n h e = rw e (rw (zero-mul, zero-add) at (part-ends m q 0 h))

pub loop-u-init : goal.loop-u-init
loop-u-init g c =
    let x = c.args in
    let l = length-take-le (2 * x.n) x.out.now (front x.q (2 * x.n) (length x.out.now) c.requires.le_w.2 c.requires.packed_len.2) in
    let r = c.public_part in
    let t = r.new.out in
    filling-start _ _ x.q (2 * x.n) x.out.now t (r.auto.out ∙ l) (first_part x.w x.n (2 * x.w - 2) x.x.now x.out.now t _ refl l r.ensures)

pub login_product-requires : goal.login_product-requires
login_product-requires g c =
    let x = c.args in
    let l = c.loop-u in
    let long : length l.out ≡ x.q * (2 * x.n) =
    l.auto.out ∙ (length_front x.out.now c.public_part.new.out (2 * x.n) c.public_part.auto.out ∙ c.requires.packed_len.2) in
    let p = block_of (length l.out) x.q (2 * x.n) l.u long c.requires.le_w.3 (omega (arith, c.requires.le_w.5)) c.loop-u-test.true in
    record {
      within_value = c.all_columns_up_to-within.ensures;
      n_bound = (
        c.requires.le_w.5,
        omega (arith, c.requires.le_w.1),
        rest-long l.out _ _ p.ends,
        next_fits x.q x.n (2 * x.w - 2) l.u l.out x.x.now c.requires.le_w.4 c.loop-u-test.true long c.requires.packed_len.1,
      );
      out_value = lent-public x.w x.n c.login_words-k.result (2 * x.w - 2) l.u x.q x.x.now x.packed.now l.out l.out _ l.invariant c.loop-u-test.true refl;
    }

pub loop-u-preserved : goal.loop-u-preserved
loop-u-preserved g c =
    let x = c.args in
    let l = c.loop-u in
    let long : length l.out ≡ x.q * (2 * x.n) =
    l.auto.out ∙ (length_front x.out.now c.public_part.new.out (2 * x.n) c.public_part.auto.out ∙ c.requires.packed_len.2) in
    let r = c.login_product in
    next-login x.w x.n c.login_words-k.result (2 * x.w - 2) l.u x.q x.x.now x.packed.now l.out r.new.out (entries_by (g.E.Entries.numbers x.es.now))
    l.invariant c.loop-u-test.true long c.login_words-k.ensures refl r.ensures
