use Rattle.std.proofs.Common.{ℕ, ◌-◌, ◌≤◌, true}
use Rattle.index.specs.Order.{DatomOrd}
use Rattle.memory_store.specs.Fours.{LetsPlain, FourIntegers, FourRise, SameFrom}
use Rattle.memory_store.proofs.reader.plain_fours.Given as goal

abbrev pub invariant-loop-i : goal.invariant-loop-i
invariant-loop-i g l =
    (l.i ≤ l.k)
    × ((t : DatomOrd) → LetsPlain t → ((at : ℕ) → FourIntegers l.s at → goal.F-post g l.rise at true → FourRise t l.s at) → SameFrom t l.k l.s 0 l.i)

abbrev pub decreases-loop-i : goal.decreases-loop-i
decreases-loop-i g l = l.k - l.i
