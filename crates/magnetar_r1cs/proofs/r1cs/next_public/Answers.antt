use mathlib.Core.Path.{◌≡◌, sym, ◌∙◌}
use Prim.Native.Nat.{◌*◌, ◌≤◌}
use native.Mathlib.Omega.{arith}
use lib.ListN.{length, take, drop}
use Rattle.magnetar_field.specs.Words.{elements, words}
use Rattle.magnetar_matrix.specs.Numbers.{entries_by}
use Rattle.magnetar_matrix.specs.Table.{public_rows}
use Rattle.magnetar_matrix.proofs.PublicParts.{repeated-is}
use Rattle.magnetar_r1cs.proofs.Unread.{rows-unread}
use Rattle.magnetar_matrix.proofs.Carried.{laid_none, laid-copied, laid-put, rows-put}
use Rattle.magnetar_r1cs.proofs.r1cs.next_public.Goals as goal
use Rattle.magnetar_r1cs.proofs.r1cs.next_public.Goals.{then-within-via-then-within, then-within-via-else-within+then-repeats}

pub returns-then-out-e : goal.returns-then-out-e
returns-then-out-e g c = laid_none _ c.args.out.now (2 * c.args.n) (omega arith)

pub returns-then-within : goal.returns-then-within
returns-then-within g c =
    let x = c.args in
    let es = entries_by (g.E.Entries.numbers x.es.now) in
    let next = words (public_rows x.w (elements (take x.l (drop x.l x.x.now))) es x.n) in
    let same : take (2 * x.n) x.out.now ≡ next =
    elim c.then-within.branch [
      | then-within-via-then-within w ↦
          c.requires.out_value ∙ rows-unread x.w x.n (elements (take x.l x.x.now)) (elements (take x.l (drop x.l x.x.now))) es
          (sym c.requires.within_value ∙ w.if-within.true)
      | then-within-via-else-within+then-repeats w ↦
          let e : take x.l (drop x.l x.x.now) ≡ take x.l x.x.now = repeated-is x.l x.x.now (sym w.repeats.ensures ∙ w.if-repeats.true) in
          rw e c.requires.out_value
    ] in
    c.copy_within.ensures.after ∙ laid-copied next x.out.now (2 * x.n) (omega arith) same

pub returns : goal.returns
returns g c =
    let x = c.args in
    let h : 4 * x.n ≤ length x.out.now = omega arith in
    laid-put _ x.out.now (2 * x.n) (4 * x.n) (omega arith) (omega arith) _
    (rows-put x.w x.n x.l x.x.now x.out.now _ (entries_by (g.E.Entries.numbers x.es.now)) h c.public_part.ensures)
