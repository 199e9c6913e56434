use Rattle.magnetar_protocol.specs.Scratch.{verifier_scratch, verifier_scratch_words}
use Rattle.magnetar_protocol.proofs.Guards.{counts-given, asked-out, asked-words}
use Rattle.magnetar_protocol.proofs.scratch.verifier_scratch.Goals as goal

pub returns-in_err-run_refusal : goal.returns-in_err-run_refusal
unfolding verifier_scratch_words
returns-in_err-run_refusal c =
    let x = c.args in
    asked-out _ _ (verifier_scratch x.m x.q x.rb x.rf) c.from_residual.ensures.1 c.in_err-run_refusal.ensures

pub verifier_words-requires : goal.verifier_words-requires
verifier_words-requires c =
    let g = counts-given c.args.m c.args.q c.args.rb c.args.rf c.in_ok-run_refusal.ensures in
    (g.columns.high, g.logins.high, g.bin.high, g.fld.high)

pub returns : goal.returns
unfolding verifier_scratch_words
returns c =
    let x = c.args in
    asked-words (verifier_scratch x.m x.q x.rb x.rf) _ c.in_ok-run_refusal.ensures c.verifier_words.ensures
