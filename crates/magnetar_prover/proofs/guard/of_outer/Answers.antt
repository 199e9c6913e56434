use Rattle.magnetar_layout.proofs.Passing.{out-front, late}
use Rattle.magnetar_prover.specs.Entries.{outer_rounds_refusal}
use Rattle.magnetar_prover.proofs.OuterGuard.{totals-of, of_totals, of_room}
use Rattle.magnetar_prover.proofs.guard.of_outer.Goals as goal

pub returns-in_err-of_counts : goal.returns-in_err-of_counts
unfolding outer_rounds_refusal
returns-in_err-of_counts c =
    let x = c.args in
    out-front (of_totals x.q x.rb x.rf) (of_room x.q x.rb x.rf x.proof.now x.draws.now x.s.now x.t) _ _ c.from_residual.ensures.1
    c.in_err-of_counts.ensures

pub block_words-room-requires : goal.block_words-room-requires
block_words-room-requires c = let z = totals-of c.args.q c.args.rb c.args.rf c.in_ok-of_counts.ensures in (z.bin, z.fld)

pub returns : goal.returns
unfolding outer_rounds_refusal
returns c =
    let x = c.args in
    late (of_totals x.q x.rb x.rf) (of_room x.q x.rb x.rf x.proof.now x.draws.now x.s.now x.t) c.in_ok-of_counts.ensures
    (rw (
      c.of_room.ensures,
      c.drawn_words-drawn.ensures,
      c.sent_words-sent.ensures,
      c.block_words-room.ensures,
      c.log2-l.ensures.0,
      c.log2-b.ensures.0,
      c.log2-f.ensures.0,
    ))
