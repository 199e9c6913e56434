use Rattle.magnetar_hash.specs.Bytes.{ascii}
use Rattle.magnetar_digest.specs.Feeding.{words_fed}
use Rattle.magnetar_digest.proofs.FedLaws.{head-ends}
use Rattle.magnetar_digest.proofs.steps.head.Goals as goal

pub returns : goal.returns
unfolding words_fed ascii
returns c =
    let a = c.args in
    head-ends a.m a.q a.lens.now a.sh a.n _ _ _ _ _ _ c.size-k.ensures c.start-s.ensures c.feed-s.ensures
    c.feed_numbers-s.ensures c.feed_system-s.ensures c.feed_system.ensures
