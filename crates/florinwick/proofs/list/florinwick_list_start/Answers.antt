-- `florinwick_list_start` meets its contract on every input. Assumes nothing.
use Rattle.std.proofs.Common.{◌≡◌, length, rules}
use Rattle.florinwick.specs.Listing.{start_unkept, start_kept}
use Rattle.florinwick.proofs.list.florinwick_list_start.Goals as goal

pub returns-in_default-as_mut_array : goal.returns-in_default-as_mut_array
returns-in_default-as_mut_array c =
    let t = c.refuse.ensures in
    let long : length c.args.area.now ≡ 32 = search rules in
    let short : length c.args.cursor.now ≡ 264 → ⊥ = search rules in
    start_unkept _ _ _ _ _ _ _ _ _ _ long short t.0 t.1

pub returns : goal.returns
returns c =
    let t = c.keep_start.ensures in
    let long : length c.args.area.now ≡ 32 = search rules in
    let whole : length c.args.cursor.now ≡ 264 = search rules in
    let same : c.in-Some-as_mut_array.cursor.now ≡ c.args.cursor.now = search rules in
    start_kept _ _ _ _ _ _ _ _ _ _ _ _ long whole (rw c.record_in-stored.ensures at c.start_between-started.ensures) t.0.0 t.0.1 (rw same at t.1)
