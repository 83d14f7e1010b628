-- A page and what is wrong with it, as the refusal that names both.
use Rattle.answer.specs.declared.Damage.{Damage}
use Rattle.answer.specs.declared.Refusal.{Refusal}
use Rattle.answer.specs.declared.Refusal.TheVariants.{Damaged}

abbrev pub damaged : Damage → Refusal
damaged d = Damaged d.page d.fault
