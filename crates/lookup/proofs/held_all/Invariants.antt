use Rattle.std.specs.Prelude.{◌≡◌, drop}
use Rattle.datom.specs.Datom.{datoms_of}
use Rattle.memory_store.specs.Pages.{order_of, fetched_from, read_from}
use Rattle.rules.specs.Held.{held_all}
use Rattle.lookup.specs.Path.{Kept}
use Rattle.lookup.proofs.held_all.Given as goal

abbrev pub invariant-loop-i : goal.invariant-loop-i
invariant-loop-i l =
    (held_all (read_from l.pages) l.level l.root (fetched_from l.pages l.root) l.i (drop l.i (datoms_of l.n l.b))
    ≡ held_all (read_from l.pages) l.level l.root (fetched_from l.pages l.root) 0 (datoms_of l.n l.b))
    × Kept (order_of l.pages) l.pages.extent l.pages.store.now l.path
