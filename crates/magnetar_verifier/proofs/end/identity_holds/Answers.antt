use mathlib.Core.Path.{◌∙◌}
use Rattle.magnetar_verifier.proofs.EndPhases.{cols}
use Rattle.magnetar_verifier.proofs.end.identity_holds.Goals as goal

pub segment_sum-a-requires-clause-low_len : goal.segment_sum-a-requires-clause-low_len
segment_sum-a-requires-clause-low_len c =
    let k = cols c.args.m c.args.r.inner c.requires.fits.columns c.requires.fits.cols in
    (c.piece-low.ensures.size ∙ rw k.half, c.piece-values.ensures.size)
