use Rattle.std.proofs.Common.{[], ◌∷◌, arith, drop_of_length-le}
use Rattle.magnetar_digest.proofs.FedLaws.{each_more, each-end, next-number}
use Rattle.magnetar_digest.proofs.steps.feed_numbers.Goals as goal

pub loop-n-preserved : goal.loop-n-preserved
loop-n-preserved c =
    let l = c.loop-n in
    each_more (λ n. n ∷ []) _ _ _ _ l.acc _ (next-number c.args.ns.now l.n-index (omega arith)) c.feed_number-acc.ensures l.invariant

pub returns : goal.returns
returns c =
    let l = c.loop-n in
    each-end (λ n. n ∷ []) _ _ l.acc (drop_of_length-le c.args.ns.now {i = l.n-index} (omega arith)) l.invariant
