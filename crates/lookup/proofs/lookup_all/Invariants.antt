use Prim.Native.Nat.{◌-◌, ◌≤◌}
use mathlib.Core.Path.{◌≡◌}
use lib.ListN.{drop}
use Rattle.datom.specs.Datom.{datoms_of}
use Rattle.memory_store.specs.Pages.{order_of, fetched_from, read_from}
use Rattle.rules.specs.Lookup.{lookup_all}
use Rattle.lookup.specs.Path.{Kept}
use Rattle.lookup.proofs.lookup_all.Given as goal

abbrev pub invariant-loop-i : goal.invariant-loop-i
invariant-loop-i l = (l.i ≤ l.n) × (lookup_all (read_from l.pages) l.level l.root (fetched_from l.pages l.root) l.i (drop l.i (datoms_of l.n l.b)) ≡ lookup_all (read_from l.pages) l.level l.root (fetched_from l.pages l.root) 0 (datoms_of l.n l.b)) × Kept (order_of l.pages) l.pages.extent l.pages.store.now l.path

abbrev pub decreases-loop-i : goal.decreases-loop-i
decreases-loop-i l = l.n - l.i
