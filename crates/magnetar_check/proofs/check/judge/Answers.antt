use mathlib.Core.Path.{◌≡◌}
use mathlib.Core.List.{[]}
use Prim.Native.Nat.{min}
use native.Mathlib.Omega.{arith}
use lib.ListN.{length, get_or}
use Rattle.magnetar_matrix.specs.Numbers.{entries_by}
use Rattle.magnetar_relation.specs.Rules.{rules_by, relation_of, entries_in}
use Rattle.magnetar_relation.proofs.RangeLaws.{system-cut}
use Rattle.magnetar_check.proofs.RowWalk.{judge-stray, judge-bin, judge-fld, judge-good}
use Rattle.magnetar_check.proofs.check.judge.Goals as goal

pub returns-in-Some : goal.returns-in-Some
returns-in-Some g c =
    let x = c.args in
    let R = relation_of (rules_by 0 x.q [] x.sh (g.E.Entries.numbers x.es.now)) in
    rw c.in-Some.is (judge-stray R x.of.w x.of.packed.now x.of.x.now x.s.now c.in-Some.bit.login c.in-Some.bit.column)

pub returns-in-Some-first_failing : goal.returns-in-Some-first_failing
returns-in-Some-first_failing g c =
    let x = c.args in
    let R = relation_of (rules_by 0 x.q [] x.sh (g.E.Entries.numbers x.es.now)) in
    let f = c.in-Some-first_failing.f in
    rw c.in_default.is
    (judge-bin R x.of.w x.of.packed.now x.of.x.now x.s.now c.first_failing.new.s f.login f.row (c.in-Some-first_failing.ensures 1 (omega arith)))

pub returns-in-Some-first_failing-2 : goal.returns-in-Some-first_failing-2
returns-in-Some-first_failing-2 g c =
    let x = c.args in
    let es = entries_by (g.E.Entries.numbers x.es.now) in
    let R = relation_of (rules_by 0 x.q [] x.sh (g.E.Entries.numbers x.es.now)) in
    let f = c.in-Some-first_failing-2.g in
    let start : get_or c.ends_of-ends.result 2 0 ≡ min (entries_in x.sh.bin) (length es) = rw (c.ends_of-ends.ensures, c.len.ensures) in
    rw c.in_default.is
    (judge-fld R x.of.w x.of.packed.now x.of.x.now x.s.now c.first_failing.new.s (c.in_default-first_failing.ensures 1 (omega arith))
    _ (system-cut x.sh.fld (entries_in x.sh.bin) _ es start) c.first_failing-2.new.s f.login f.row (c.in-Some-first_failing-2.ensures 2 (omega arith)))

pub returns : goal.returns
returns g c =
    let x = c.args in
    let es = entries_by (g.E.Entries.numbers x.es.now) in
    let R = relation_of (rules_by 0 x.q [] x.sh (g.E.Entries.numbers x.es.now)) in
    let start : get_or c.ends_of-ends.result 2 0 ≡ min (entries_in x.sh.bin) (length es) = rw (c.ends_of-ends.ensures, c.len.ensures) in
    rw c.in_default.is
    (judge-good R x.of.w x.of.packed.now x.of.x.now x.s.now c.first_failing.new.s (c.in_default-first_failing.ensures 1 (omega arith))
    _ (system-cut x.sh.fld (entries_in x.sh.bin) _ es start) c.first_failing-2.new.s (c.in_default-first_failing-2.ensures 2 (omega arith)))
