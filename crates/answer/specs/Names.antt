-- Document 02, One: "tell us which rule the page broke". The names of what stands behind 7 and Unsound, by their numbers.
use Rattle.std.specs.Prelude.{ℕ, List, [], ◌∷◌}
use Rattle.answer.specs.declared.Rule.{Rule}
use Rattle.answer.specs.declared.Rule.TheVariants.{Level, Count, Form, Order, LeafChild, LastChild, ChildId}
use Rattle.answer.specs.declared.Fault.{Fault}
use Rattle.answer.specs.declared.Fault.TheVariants.{Breaks, Missing, WrongLevel, EqualDatoms, OutOfBounds, PastCount, TooHigh, NothingLeft}
use Rattle.answer.specs.declared.Refusal.{Refusal}
use Rattle.answer.specs.declared.Refusal.TheVariants.{BadStore, TooMany, BadDatom, OutOfOrder, NoPage, Repeated, Damaged, TooTall, NoRoom, BadBound, BadConstant, HeapFull, BadOrder, NotHeld}

-- "the first broken rule in 01's order (level, count, datom form, datom order, children at level 0, last child, child id)"
abbrev pub rule_number : Rule → ℕ
rule_number Level = 1
rule_number Count = 2
rule_number Form = 3
rule_number Order = 4
rule_number LeafChild = 5
rule_number LastChild = 6
rule_number ChildId = 7

-- "A missing page, a wrong level, equal datoms met, broken bounds, a step's index past the count and the two cases with id none get names
-- too": a height over 8, and no candidate left
abbrev pub fault_number : Fault → ℕ
fault_number (Breaks r) = rule_number r
fault_number Missing = 8
fault_number WrongLevel = 9
fault_number EqualDatoms = 10
fault_number OutOfBounds = 11
fault_number PastCount = 12
fault_number TooHigh = 13
fault_number NothingLeft = 14

-- all names, in the order of their numbers
abbrev pub faults : List Fault
faults =
    Breaks Level ∷ Breaks Count ∷ Breaks Form ∷ Breaks Order ∷ Breaks LeafChild ∷ Breaks LastChild ∷ Breaks ChildId ∷ Missing ∷ WrongLevel
    ∷ EqualDatoms ∷ OutOfBounds ∷ PastCount ∷ TooHigh ∷ NothingLeft ∷ []

-- the number of the fault that a refusal names, 0 where it names none: "7 .. carr[ies] page and rule"
abbrev pub fault_in : Refusal → ℕ
fault_in (Damaged p f) = fault_number f
fault_in BadStore = 0
fault_in TooMany = 0
fault_in (BadDatom i) = 0
fault_in (OutOfOrder i) = 0
fault_in NoPage = 0
fault_in (Repeated i) = 0
fault_in TooTall = 0
fault_in NoRoom = 0
fault_in BadBound = 0
fault_in (BadConstant i) = 0
fault_in HeapFull = 0
fault_in BadOrder = 0
fault_in (NotHeld i) = 0
