-- `lay_first` meets its contract: the area has the records passed, and their words are words. Assumes nothing.
use Rattle.std.proofs.Common.{◌≡◌, ◌≤◌, ◌+◌, ◌*◌, ap, arith, length}
use Rattle.records.specs.Laid.{laid_count, laid_fits, laid_there, laid_length, laid_records}
use Rattle.records.proofs.lay_first.Goals as goal

pub offset_bounds-records-i : goal.offset_bounds-records-i
offset_bounds-records-i c =
    record { fits = omega (arith, c.laid_count-i-end.ensures, (laid_fits c.args.n (length c.args.area.now)).2) }

pub bounds-records-i : goal.bounds-records-i
bounds-records-i c =
    let a = c.args in
    omega (arith, c.laid_count-i-end.ensures, laid_there a.n (length a.area.now) a.records.now c.requires)

pub put_datom-requires : goal.put_datom-requires
put_datom-requires c =
    let a = c.args in
    let f = (laid_fits a.n (length a.area.now)).1 in
    let room : 32 * c.loop-i.i + 32 ≤ length a.area.now = omega (arith, f, c.laid_count-i-end.ensures) in
    rw (ap length c.loop-i.invariant.0, laid_length a.records.now a.area.now c.loop-i.i (omega arith)) room

pub returns : goal.returns
returns c =
    let a = c.args in
    let all : c.loop-i.i ≡ laid_count a.n (length a.area.now) = omega (arith, c.laid_count-i-end.ensures) in
    rw (c.loop-i.invariant.0, all) (laid_records a.n a.records.now a.area.now c.requires (rw all at c.loop-i.invariant.1))
