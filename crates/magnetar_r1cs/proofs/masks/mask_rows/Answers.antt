use mathlib.Core.Path.{◌≡◌, sym, ap, ◌∙◌}
use Prim.Native.Nat.{ℕ, ◌+◌, ◌*◌, ◌<◌, ◌≤◌}
use Rattle.magnetar_matrix.specs.Packed.{login_words}
use native.Mathlib.Omega.{arith}
use lib.ListN.{length, replicate}
use Rattle.magnetar_matrix.specs.Numbers.{entries_by}
use Rattle.magnetar_r1cs.specs.Flips.{flip_block}
use Rattle.magnetar_matrix.proofs.LoginParts.{Part, part-of, words-most}
use Rattle.magnetar_r1cs.proofs.Flipped.{rows_start, rows_more, login-below}
use Rattle.magnetar_r1cs.proofs.masks.mask_rows.Goals as goal

pub loop-t-init : goal.loop-t-init
loop-t-init g c =
    let r = c.clear in
    r.ensures ∙ ap (λ (n : ℕ). replicate n 0) (sym r.auto.s) ∙ rows_start _ _ _ _ _ (length r.new.s)

-- the words of a login
login : (w q d n low t k p : ℕ) → (w ≤ 32768) × (q ≤ 4096) × (n ≤ 64) × (n * d ≡ q) × (low < d) × (p ≡ q * login_words w) → k ≡ login_words w → t < n
    → Part p k (t * d + low) q
login w q d n low t k p b e h =
    part-of w p k (t * d + low) q b.1 (rw e (words-most w b.0)) e b.5 (login-below t d low n q h b.4 b.3)

pub overflow_mul-a : goal.overflow_mul-a
overflow_mul-a g c =
    let x = c.args in
    let p = login x.w x.q x.d x.n x.low c.loop-t.t c.login_words-k.result (length x.packed.now) c.requires c.login_words-k.ensures c.loop-t-test.true in
    omega (arith, p.ends, p.small)

pub overflow_add-b : goal.overflow_add-b
overflow_add-b g c =
    let x = c.args in
    let p = login x.w x.q x.d x.n x.low c.loop-t.t c.login_words-k.result (length x.packed.now) c.requires c.login_words-k.ensures c.loop-t-test.true in
    omega (arith, p.ends, p.small)

pub offset_bounds-packed-a : goal.offset_bounds-packed-a
offset_bounds-packed-a g c =
    let x = c.args in
    let p = login x.w x.q x.d x.n x.low c.loop-t.t c.login_words-k.result (length x.packed.now) c.requires c.login_words-k.ensures c.loop-t-test.true in
    omega (arith, p.ends, p.small)

pub slice_bounds-add_flips-end : goal.slice_bounds-add_flips-end
slice_bounds-add_flips-end g c =
    let x = c.args in
    let p = login x.w x.q x.d x.n x.low c.loop-t.t c.login_words-k.result (length x.packed.now) c.requires c.login_words-k.ensures c.loop-t-test.true in
    omega (arith, p.ends, p.small)

pub loop-t-preserved : goal.loop-t-preserved
loop-t-preserved g c =
    let x = c.args in
    rows_more x.w x.packed.now (entries_by (g.E.Entries.numbers x.es.now)) x.d x.low _ c.loop-t.t _ c.loop-t.out _
    c.login_words-k.ensures c.loop-t.invariant c.add_flips.ensures

pub returns : goal.returns
unfolding flip_block
returns g c =
    let l = c.loop-t in
    let e : l.t ≡ c.args.n = omega arith in
    rw (← e, ← c.clear.auto.s) l.invariant
