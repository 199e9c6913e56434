use Rattle.std.proofs.Common.{◌∙◌, arith}
use Rattle.magnetar_replay.proofs.WordLaws.{push-more, push-end}
use Rattle.magnetar_replay.proofs.line.push_spelled.Goals as goal

pub loop-pair-preserved : goal.loop-pair-preserved
loop-pair-preserved c =
    let cut = c.in-Some.ensures.steps in
    record {
      pairs = cut.0 ∙ c.loop-pair.invariant.pairs;
      so_far =
          push-more c.loop-pair.bytes.items _ _ _ c.in-Some.pair.now _ c.byte.result c.loop-pair.invariant.so_far cut.1.0
          (cut.1.1 ∙ c.loop-pair.invariant.pairs) c.byte.ensures c.in_ok-push.ensures.items;
    }

pub returns : goal.returns
returns c = push-end _ _ _ c.loop-pair.invariant.so_far (omega (arith, c.in-None.ensures.steps.1.0))
