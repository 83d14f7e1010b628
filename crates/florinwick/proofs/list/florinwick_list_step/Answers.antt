-- `florinwick_list_step` meets its contract on every input. Assumes nothing.
use Rattle.std.proofs.Common.{◌≡◌, length, rules}
use Rattle.florinwick.specs.Listing.{step_no_cursor, step_no_datom, step_kept}
use Rattle.florinwick.proofs.list.florinwick_list_step.Goals as goal

pub returns-in_default-as_mut_array : goal.returns-in_default-as_mut_array
returns-in_default-as_mut_array c =
    let t = c.refuse.ensures in
    let long : length c.args.area.now ≡ 32 = search rules in
    let short : length c.args.cursor.now ≡ 264 → ⊥ = search rules in
    step_no_cursor _ _ _ _ _ _ _ _ long short t.0 t.1

pub returns-in_default-as_mut_array-2 : goal.returns-in_default-as_mut_array-2
returns-in_default-as_mut_array-2 c =
    let t = c.refuse-in_default-as_mut_array-2.ensures in
    let long : length c.args.area.now ≡ 32 = search rules in
    let whole : length c.args.cursor.now ≡ 264 = search rules in
    let short : length c.args.datom.now ≡ 32 → ⊥ = search rules in
    let same : c.in-Some-as_mut_array.cursor.now ≡ c.args.cursor.now = search rules in
    rw same (step_no_datom _ _ _ _ _ _ _ _ long whole short t.0 t.1)

pub returns : goal.returns
returns c =
    let t = c.keep_step.ensures in
    let long : length c.args.area.now ≡ 32 = search rules in
    let whole : length c.args.cursor.now ≡ 264 = search rules in
    let full : length c.args.datom.now ≡ 32 = search rules in
    let cursor : c.in-Some-as_mut_array.cursor.now ≡ c.args.cursor.now = search rules in
    let datom : c.in-Some-as_mut_array-2.datom.now ≡ c.args.datom.now = search rules in
    step_kept _ _ _ _ _ _ _ _ _ _ _ long whole full (rw (c.record_in-stored.ensures, c.cursor_in-given.ensures, cursor) at c.step-stepped.ensures) t.0.0 t.0.1 (rw cursor at t.1.0)
    (rw datom at t.1.1)
