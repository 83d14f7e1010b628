-- "Numbers the caller may get": for every case of every answer its number and its four words.
use Rattle.std.specs.Prelude.{Some, None}
use Rattle.answer.specs.declared.Flaw.TheVariants.{Unsound, Refused}
use Rattle.std.specs.Prelude.{Err, Ok}
use Rattle.answer.specs.Answers.{Answer, Append, Check, Fetch, Held, Start, Step}
use Rattle.std.specs.Prelude.{ℕ}
use Rattle.store.specs.declared.PageId.{PageId}
use Rattle.answer.specs.declared.Refusal.{Refusal}
use Rattle.answer.specs.declared.Refusal.TheVariants.{BadStore, TooMany, BadDatom, OutOfOrder, NoPage, Repeated, Damaged, TooTall, NoRoom, BadBound, BadConstant, HeapFull, BadOrder, NotHeld}
use Rattle.answer.specs.Names.{fault_number, fault_in}

-- the column "No"
abbrev pub number_of : Refusal → ℕ
number_of BadStore = 1
number_of TooMany = 2
number_of (BadDatom i) = 3
number_of (OutOfOrder i) = 4
number_of NoPage = 5
number_of (Repeated i) = 6
number_of (Damaged p f) = 7
number_of TooTall = 8
number_of NoRoom = 9
number_of BadBound = 10
-- document 02, Two: "11 BadConstant(i) .. 12 HeapFull"
number_of (BadConstant i) = 11
number_of HeapFull = 12
-- document 02, Three: "13 BadOrder"
number_of BadOrder = 13
-- document 02, Ten: "16 NotHeld(i)"
number_of (NotHeld i) = 16

-- "index or page (0 if neither)"
abbrev pub detail_of : Refusal → ℕ
detail_of BadStore = 0
detail_of TooMany = 0
detail_of (BadDatom i) = i
detail_of (OutOfOrder i) = i
detail_of NoPage = 0
detail_of (Repeated i) = i
detail_of (Damaged p f) = p.0
detail_of TooTall = 0
detail_of NoRoom = 0
detail_of BadBound = 0
detail_of (BadConstant i) = i
detail_of HeapFull = 0
detail_of BadOrder = 0
detail_of (NotHeld i) = i

-- the four words; the third is also a fault's number
pub record Words : Type 0 where
  pub number : ℕ
  pub root : ℕ
  pub pages : ℕ
  pub detail : ℕ

-- "number from the table .., root (the given one if refused), pages written (0 if refused), index or page (0 if neither)"
abbrev pub refused_words : ℕ → Refusal → Words
refused_words root r = record { number = number_of r; root = root; pages = 0; detail = detail_of r }

-- document 02, One: "7 and Unsound carry page and rule"; the same words, with the fault's number where pages written would stand
abbrev pub named_words : ℕ → Refusal → Words
named_words root r = record { number = number_of r; root = root; pages = fault_in r; detail = detail_of r }

abbrev pub done_words : PageId → ℕ → Words
done_words root pages = record { number = 0; root = root.0; pages = pages; detail = 0 }

-- "0 for Done"; document 02, One: "the replicator's four words stay"
abbrev pub answer_words : PageId → Answer → Words
answer_words given (Ok d) = done_words d.root d.pages
answer_words given (Err r) = refused_words given.0 r

-- the same answer, with the fault
abbrev pub named_answer : PageId → Answer → Words
named_answer given (Ok d) = done_words d.root d.pages
named_answer given (Err r) = named_words given.0 r

-- a call that is given no root has 0 there, and so has one with nothing to say
abbrev pub plain : ℕ → Words
plain number = record { number = number; root = 0; pages = 0; detail = 0 }

-- "0 where the tree holds all its datoms"
abbrev pub held_words : PageId → Held → Words
held_words given (Ok u) = plain 0
held_words given (Err r) = named_words given.0 r

-- document 02, Two: the value "names an offset", and the caller's heap length grows by the bytes appended; both 0 if refused
abbrev pub append_words : Append → Words
append_words (Ok s) = record { number = 0; root = s.value.0; pages = s.bytes; detail = 0 }
append_words (Err r) = refused_words 0 r

abbrev pub fetch_words : Fetch → Words
fetch_words (Ok u) = plain 0
fetch_words (Err r) = refused_words 0 r

abbrev pub start_words : PageId → Start → Words
start_words given (Ok u) = plain 0
start_words given (Err r) = named_words given.0 r

-- a step that yields is 0, one that has ended 32
abbrev pub step_words : Step → Words
step_words (Ok (Some d)) = plain 0
step_words (Ok None) = plain 32
step_words (Err r) = named_words 0 r

-- Sound is 0, Unsound 33 with its page and its fault
abbrev pub check_words : PageId → Check → Words
check_words given (Ok u) = plain 0
check_words given (Err (Unsound p f)) = record { number = 33; root = 0; pages = fault_number f; detail = p.0 }
check_words given (Err (Refused r)) = refused_words given.0 r
