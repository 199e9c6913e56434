use Rattle.std.specs.Prelude.{◌≡◌, max, [], Ok, Err}
use native.Mathlib.Omega.{arith}
use Rattle.magnetar_field.specs.declared.refusal.Refusal.TheVariants.{Size}
use Rattle.magnetar_layout.proofs.Passing.{required}
use Rattle.magnetar_relation.specs.Rules.{Rules, rules_by}
use Rattle.magnetar_batch.proofs.Chains.{room-required}
use Rattle.magnetar_batch.proofs.ValueEnds.{size-turned, rules-turned, room-turned, all-passed, value-done}
use Rattle.magnetar_batch.proofs.eval.eval_m_combo.Goals as goal

pub returns-in_err-require : goal.returns-in_err-require
returns-in_err-require g c =
    let x = c.args in
    let R : Rules = rules_by x.m 1 [] x.sh (g.E.Entries.numbers x.es.now) in
    size-turned R x.al x.pb x.pf x.c x.s.now _ _ c.from_residual.ensures.1
    (rw c.is_size.ensures at (required (Err _) c.is_size.result Size c.in_err-require.ensures))

pub returns-in_err-refusal : goal.returns-in_err-refusal
returns-in_err-refusal g c =
    let x = c.args in
    let R : Rules = rules_by x.m 1 [] x.sh (g.E.Entries.numbers x.es.now) in
    rules-turned R x.al x.pb x.pf x.c x.s.now _ _ c.from_residual-in_err-refusal.ensures.1
    (rw c.is_size.ensures at (required (Ok _) c.is_size.result Size c.in_ok-require.ensures))
    (rw c.counts.ensures at c.in_err-refusal.ensures)

pub returns-in_err-require-2 : goal.returns-in_err-require-2
returns-in_err-require-2 g c =
    let x = c.args in
    let R : Rules = rules_by x.m 1 [] x.sh (g.E.Entries.numbers x.es.now) in
    let larger : c.max-k.result ≡ max x.sh.bin.a.rows x.sh.fld.a.rows = omega arith in
    room-turned R x.al x.pb x.pf x.c x.s.now _ _ c.from_residual-in_err-require-2.ensures.1
    (rw c.is_size.ensures at (required (Ok _) c.is_size.result Size c.in_ok-require.ensures)) (rw c.counts.ensures at c.in_ok-refusal.ensures)
    (rw (c.is_over.ensures, larger) at (room-required (Err _) c.is_over.result c.in_err-require-2.ensures))

pub returns : goal.returns
returns g c =
    let x = c.args in
    let R : Rules = rules_by x.m 1 [] x.sh (g.E.Entries.numbers x.es.now) in
    let larger : c.max-k.result ≡ max x.sh.bin.a.rows x.sh.fld.a.rows = omega arith in
    value-done R x.al x.pb x.pf x.c x.s.now (omega arith) (omega arith)
    (all-passed R x.al x.pb x.pf x.c x.s.now
    (rw c.is_size.ensures at (required (Ok _) c.is_size.result Size c.in_ok-require.ensures)) (rw c.counts.ensures at c.in_ok-refusal.ensures)
    (rw (c.is_over.ensures, larger) at (room-required (Ok _) c.is_over.result c.in_ok-require-2.ensures))) _ _ c.six_value.ensures
