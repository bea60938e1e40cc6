-- `value::store::put_value` meets its contract: the 32 bytes, then the content right behind them. Assumes nothing.
use native.Mathlib.Omega.{arith}
use Rattle.value.proofs.FormLaws.{ready, there-end, there-long, value_written}
use Rattle.value.proofs.store.put_value.Goals as goal

pub read_cell-c-requires : goal.read_cell-c-requires
read_cell-c-requires c = (ready c.args.m.now c.args.p c.requires.p_value).room

pub put_cell-requires : goal.put_cell-requires
put_cell-requires c =
    omega (arith, c.requires.p_in_bounds, (ready c.args.m.now c.args.p c.requires.p_value).long)

pub copy_part-requires : goal.copy_part-requires
copy_part-requires c = record { n_in_bounds = there-end c.args.m.now c.args.p c.requires.p_value _ _ c.read_cell-c.ensures c.decode-v.ensures _ c.content_span-s.ensures; n_in_bounds_2 = omega (arith, c.requires.p_in_bounds, there-long c.args.m.now c.args.p c.requires.p_value _ _ c.read_cell-c.ensures c.decode-v.ensures _ c.content_span-s.ensures) }

pub returns : goal.returns
returns c =
    value_written c.args.m.now c.args.p c.requires.p_value _ _ c.read_cell-c.ensures c.decode-v.ensures _ _ _ _ _ _
    c.stored_cell-d.ensures c.put_cell.ensures c.content_span-s.ensures c.copy_part.ensures
