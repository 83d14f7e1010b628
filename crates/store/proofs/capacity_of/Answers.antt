-- `store::capacity_of` meets its contract: an arm for each row of the table, and one for all other sizes. Assumes nothing.
use borrow.Author.Tests.{ne_eqb}
use Rattle.store.specs.Size.{capacity_in, capacity}
use Rattle.store.proofs.capacity_of.Goals as goal

pub returns-in-256 : goal.returns-in-256
unfolding capacity capacity_in
returns-in-256 c = rw c.in-256.is

pub returns-in-568 : goal.returns-in-568
unfolding capacity capacity_in
returns-in-568 c = rw c.in-568.is

pub returns-in-4096 : goal.returns-in-4096
unfolding capacity capacity_in
returns-in-4096 c = rw c.in-4096.is

pub returns-in-8192 : goal.returns-in-8192
unfolding capacity capacity_in
returns-in-8192 c = rw c.in-8192.is

pub returns-in_default : goal.returns-in_default
unfolding capacity capacity_in
returns-in_default c =
    let r = c.in_default.in_default-own.rest in
    rw (ne_eqb _ _ r.0.0.0.1, ne_eqb _ _ r.0.0.1, ne_eqb _ _ r.0.1, ne_eqb _ _ r.1)
