-- `split_part` meets its contract: the page as `put_part` leaves it, then two stores into the area. Assumes nothing.
use mathlib.Core.Path.{◌≡◌}
use Rattle.std.proofs.lemmas.Result.{err_from_is_err_and}
use Rattle.store.specs.Laws.{apart}
use Rattle.htree.proofs.place.split_part.Goals as goal

pub returns : goal.returns
returns c = record {
  page = c.in_ok-id.ensures;
  area = λ id q. let same : c.in_ok-id.id ≡ id = cc in rw (c.put_child.ensures, c.put_midpoint.ensures, same);
}

pub returns-in_err-id : goal.returns-in_err-id
returns-in_err-id c =
    let p = err_from_is_err_and c.from_residual.result c.from_residual.ensures.1 in
    rw (p.1, p.2)
    (record { page = c.in_err-id.ensures; area = λ id q. absurd (apart (cc)) })
