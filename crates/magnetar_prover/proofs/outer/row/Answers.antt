use Prim.Native.Nat.{◌*◌, ◌≤◌}
use Rattle.magnetar_field.proofs.Elements.{elements-length}
use Rattle.magnetar_field.specs.Gf128.{value}
use Rattle.magnetar_field.specs.Words.{elements}
use Rattle.magnetar_prover.proofs.RowSteps.{outer-four, row_done}
use Rattle.magnetar_prover.proofs.Sent.{sent-more, sent-there}
use Rattle.magnetar_prover.specs.Entries.{table_at}
use Rattle.magnetar_sumcheck_verifier.specs.Outer.{drop_var, outer_message}
use Rattle.magnetar_prover.specs.Labels.{row_label}
use lib.ListN.{length}
use mathlib.Core.Path.{◌∙◌, refl}
use native.Mathlib.Omega.{arith}
use Rattle.magnetar_prover.proofs.outer.row.Goals as goal

pub returns : goal.returns
returns c = let x = c.args in
    let p = c.requires in
    let m = outer_message 0 (value x.at.k) (value c.get.result) (drop_var 0 (table_at 0 x.at.n x.s.now)) (table_at x.at.w x.at.n x.s.now)
    (table_at (2 * x.at.w) x.at.n x.s.now) (table_at (3 * x.at.w) x.at.n x.s.now) in
    let g = c.message.ensures in
    let h = c.end-k.ensures in
    let there = sent-there x.proof.now c.message.new.out m (2 * x.p) 8 x.p 4 refl refl p.s_len.4 (outer-four 0 _ _ _ _ _ _) g.written in
    let l : x.d ≤ length (elements x.draws.now) = rw elements-length (omega (arith, p.s_len.5)) in
    row_done (row_label x.of) x.i x.p x.d x.o (value x.at.k) (value c.end-k.result) (value c.get.result) x.at.w x.at.n x.t
    c.row_round-transcript.result x.proof.now _ x.draws.now c.end-k.new.draws x.s.now c.message.new.s c.end-k.new.s
    p.rows p.s_len.2 l c.get.ensures (c.row_round-transcript.ensures ∙ rw there)
    (sent-more x.proof.now c.message.new.out m (2 * x.p) 8 x.p 4 refl refl p.s_len.4 (outer-four 0 _ _ _ _ _ _) g.written)
    h.drawn h.k g.dropped.dropped g.dropped.kept h.folded.e h.folded.a h.folded.b h.folded.c
