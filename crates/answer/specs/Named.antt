-- What a number in the third word says: a fault is named exactly with 7, every fault has a number of its own, and without a name the words
-- are the ones that a call always had.
use Rattle.std.specs.Prelude.{ℕ, ◌-◌, ◌<◌, ◌↔◌, ◌≡◌, refl, get_or}
use Rattle.std.proofs.Common.{arith, sym, ◌∙◌, ap}
use Rattle.store.specs.declared.PageId.{PageId}
use Rattle.answer.specs.declared.Rule.{Rule}
use Rattle.answer.specs.declared.Rule.TheVariants.{Level, Count, Form, Order, LeafChild, LastChild, ChildId}
use Rattle.answer.specs.declared.Fault.{Fault}
use Rattle.answer.specs.declared.Fault.TheVariants.{Breaks, Missing, WrongLevel, EqualDatoms, OutOfBounds, PastCount, TooHigh, NothingLeft}
use Rattle.answer.specs.declared.Refusal.{Refusal}
use Rattle.answer.specs.declared.Refusal.TheVariants.{BadStore, TooMany, BadDatom, OutOfOrder, NoPage, Repeated, Damaged, TooTall, NoRoom, BadBound, BadConstant, HeapFull, BadOrder, NotHeld}
use Rattle.answer.specs.Names.{fault_number, faults, fault_in}
use Rattle.answer.specs.Table.{number_of, refused_words, named_words}

-- a fault stands in the list at its number
numbered : (f d : Fault) → get_or faults (fault_number f - 1) d ≡ f
numbered (Breaks Level) d = refl
numbered (Breaks Count) d = refl
numbered (Breaks Form) d = refl
numbered (Breaks Order) d = refl
numbered (Breaks LeafChild) d = refl
numbered (Breaks LastChild) d = refl
numbered (Breaks ChildId) d = refl
numbered Missing d = refl
numbered WrongLevel d = refl
numbered EqualDatoms d = refl
numbered OutOfBounds d = refl
numbered PastCount d = refl
numbered TooHigh d = refl
numbered NothingLeft d = refl

-- so no two faults have one number
pub fault_same : (f g : Fault) → fault_number f ≡ fault_number g → f ≡ g
fault_same f g e = sym (numbered f f) ∙ ap (λ (n : ℕ). get_or faults (n - 1) f) e ∙ numbered g f

rule_some : (r : Rule) → 0 < fault_number (Breaks r)
rule_some Level = omega arith
rule_some Count = omega arith
rule_some Form = omega arith
rule_some Order = omega arith
rule_some LeafChild = omega arith
rule_some LastChild = omega arith
rule_some ChildId = omega arith

-- and none has 0
pub fault_some : (f : Fault) → 0 < fault_number f
fault_some (Breaks r) = rule_some r
fault_some Missing = omega arith
fault_some WrongLevel = omega arith
fault_some EqualDatoms = omega arith
fault_some OutOfBounds = omega arith
fault_some PastCount = omega arith
fault_some TooHigh = omega arith
fault_some NothingLeft = omega arith

-- a fault is named with 7 and with no other number
pub named_at_seven : (r : Refusal) → (number_of r ≡ 7) ↔ (0 < fault_in r)
named_at_seven (Damaged p f) = (λ e. fault_some f, λ h. refl)
named_at_seven BadStore = (λ e. absurd (omega arith), λ h. absurd (omega arith))
named_at_seven TooMany = (λ e. absurd (omega arith), λ h. absurd (omega arith))
named_at_seven (BadDatom i) = (λ e. absurd (omega arith), λ h. absurd (omega arith))
named_at_seven (OutOfOrder i) = (λ e. absurd (omega arith), λ h. absurd (omega arith))
named_at_seven NoPage = (λ e. absurd (omega arith), λ h. absurd (omega arith))
named_at_seven (Repeated i) = (λ e. absurd (omega arith), λ h. absurd (omega arith))
named_at_seven TooTall = (λ e. absurd (omega arith), λ h. absurd (omega arith))
named_at_seven NoRoom = (λ e. absurd (omega arith), λ h. absurd (omega arith))
named_at_seven BadBound = (λ e. absurd (omega arith), λ h. absurd (omega arith))
named_at_seven (BadConstant i) = (λ e. absurd (omega arith), λ h. absurd (omega arith))
named_at_seven HeapFull = (λ e. absurd (omega arith), λ h. absurd (omega arith))
named_at_seven BadOrder = (λ e. absurd (omega arith), λ h. absurd (omega arith))
named_at_seven (NotHeld i) = (λ e. absurd (omega arith), λ h. absurd (omega arith))

-- without a name they are the very words, and with one they differ in the third alone
pub unnamed_words : (root : ℕ) (r : Refusal) → fault_in r ≡ 0 → named_words root r ≡ refused_words root r
unnamed_words root r e = rw e

-- numbers and details ignore the name
pub name_ignored : (p : PageId) (f g : Fault) (root : ℕ) → refused_words root (Damaged p f) ≡ refused_words root (Damaged p g)
name_ignored p f g root = refl
