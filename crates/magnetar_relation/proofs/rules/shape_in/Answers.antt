use borrow.Author.Tests.{lt-ltb, le-ltb}
use Rattle.magnetar_relation.specs.EntryWalks.{shape_in}
use Rattle.magnetar_relation.proofs.rules.shape_in.Goals as goal

pub returns-then-i-t : goal.returns-then-i-t
unfolding shape_in
returns-then-i-t c = rw (lt-ltb _ _ c.if-i-t.true)

pub returns-then-k-t : goal.returns-then-k-t
unfolding shape_in
returns-then-k-t c = rw (le-ltb _ _ c.if-i-t.false, lt-ltb _ _ c.if-k-t.true)

pub returns : goal.returns
unfolding shape_in
returns c = rw (le-ltb _ _ c.if-i-t.false, le-ltb _ _ c.if-k-t.false)
