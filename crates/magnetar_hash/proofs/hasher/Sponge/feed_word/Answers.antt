use Rattle.std.proofs.Common.{◌*◌, ◌/◌, ◌%◌, ◌^◌, refl, arith, rules}
use Rattle.magnetar_hash.proofs.Stream.{fed-join}
use Rattle.magnetar_hash.proofs.Word.{low-lt, high_lt, split-word, lane-end}
use Rattle.magnetar_hash.proofs.hasher.Sponge.feed_word.Goals as goal

pub feed_lane-requires-else-o-eq0 : goal.feed_lane-requires-else-o-eq0
feed_lane-requires-else-o-eq0 c =
    let o = c.args.self.now.fill % 8 in
    (c.requires, search rules, search rules, low-lt c.args.w o (search rules))

pub feed_lane-requires-else-o-eq0-2 : goal.feed_lane-requires-else-o-eq0-2
feed_lane-requires-else-o-eq0-2 c =
    let w = c.args.w in
    let o = c.args.self.now.fill % 8 in
    let f = c.feed_lane-else-o-eq0.ensures in
    let e = lane-end (w * 2 ^ (8 * o) % 2 ^ 64 / 2 ^ (8 * o)) o c.requires.room f refl in
    (f.ready, search rules, omega arith, high_lt w o (search rules) (search rules))

pub returns-else-o-eq0 : goal.returns-else-o-eq0
returns-else-o-eq0 c =
    rw (← split-word c.args.w (c.args.self.now.fill % 8) (search rules)) (fed-join c.feed_lane-else-o-eq0.ensures c.feed_lane-else-o-eq0-2.ensures)
