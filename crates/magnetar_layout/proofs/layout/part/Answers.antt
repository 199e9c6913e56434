use Rattle.std.proofs.Common.{◌≡◌, ◌+◌, ◌-◌, ◌*◌, get_or, arith}
use Rattle.magnetar_layout.proofs.Laid.{offset-within}
use Rattle.magnetar_layout.proofs.layout.part.Goals as goal

pub overflow_mul-a : goal.overflow_mul-a
overflow_mul-a c = omega (arith, offset-within _ _ c.args.i c.requires.layout_fits c.requires.i_in_bounds)

pub overflow_mul-result : goal.overflow_mul-result
overflow_mul-result c = omega (arith, offset-within _ _ c.args.i c.requires.layout_fits c.requires.i_in_bounds)

pub overflow_add-result : goal.overflow_add-result
overflow_add-result c = omega (arith, offset-within _ _ c.args.i c.requires.layout_fits c.requires.i_in_bounds)

pub offset_bounds-folded-a : goal.offset_bounds-folded-a
offset_bounds-folded-a c = omega (arith, offset-within _ _ c.args.i c.requires.layout_fits c.requires.i_in_bounds)

pub slice_bounds-result-end : goal.slice_bounds-result-end
slice_bounds-result-end c = omega (arith, offset-within _ _ c.args.i c.requires.layout_fits c.requires.i_in_bounds)

pub returns : goal.returns
returns c =
    let o = c.place-a.result in
    let n = get_or c.args.lens.now c.args.i 0 in
    let d : 2 * o + 2 * n - 2 * o ≡ 2 * n = omega arith in
    rw (d, c.place-a.ensures)
