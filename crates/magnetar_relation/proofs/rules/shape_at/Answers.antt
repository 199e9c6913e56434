use borrow.Author.Tests.{lt-ltb, le-ltb}
use Rattle.magnetar_relation.specs.EntryWalks.{shape_at}
use Rattle.magnetar_relation.proofs.rules.shape_at.Goals as goal

pub returns-then-i-t : goal.returns-then-i-t
unfolding shape_at
returns-then-i-t c = rw (lt-ltb _ _ c.if-i-t.true)

pub returns-then-j-t : goal.returns-then-j-t
unfolding shape_at
returns-then-j-t c = rw (le-ltb _ _ c.if-i-t.false, lt-ltb _ _ c.if-j-t.true)

pub returns-then-k-t : goal.returns-then-k-t
unfolding shape_at
returns-then-k-t c = rw (le-ltb _ _ c.if-i-t.false, le-ltb _ _ c.if-j-t.false, lt-ltb _ _ c.if-k-t.true)

pub returns : goal.returns
unfolding shape_at
returns c = rw (
  le-ltb _ _ c.if-i-t.false,
  le-ltb _ _ c.if-j-t.false,
  le-ltb _ _ c.if-k-t.false,
) c.shape_in.ensures
