use Rattle.magnetar_protocol.specs.Scratch.{prover_scratch, prover_scratch_words}
use Rattle.magnetar_protocol.proofs.Guards.{counts-given, asked-out, asked-words}
use Rattle.magnetar_protocol.proofs.scratch.prover_scratch.Goals as goal

pub returns-in_err-run_refusal : goal.returns-in_err-run_refusal
unfolding prover_scratch_words
returns-in_err-run_refusal c =
    let x = c.args in
    asked-out _ _ (prover_scratch x.m x.q x.rb x.rf) c.from_residual.ensures.1 c.in_err-run_refusal.ensures

pub prover_words-requires : goal.prover_words-requires
prover_words-requires c =
    let g = counts-given c.args.m c.args.q c.args.rb c.args.rf c.in_ok-run_refusal.ensures in
    (g.columns.high, g.logins.high, g.bin.high, g.fld.high)

pub returns : goal.returns
unfolding prover_scratch_words
returns c =
    let x = c.args in
    asked-words (prover_scratch x.m x.q x.rb x.rf) _ c.in_ok-run_refusal.ensures c.prover_words.ensures
