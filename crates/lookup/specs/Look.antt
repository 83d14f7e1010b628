-- What a datom's path tells.
use Rattle.std.specs.Prelude.{ℕ, List, Bool, true, false, Result, Ok, Err}
use Rattle.store.specs.declared.PageId.{PageId}
use Rattle.store.specs.declared.Extent.{Extent}
use Rattle.datom.specs.declared.Datom.{Datom}
use Rattle.index.specs.Order.{DatomOrd}
use Rattle.answer.specs.declared.Fault.{Fault}
use Rattle.answer.specs.declared.Damage.{Damage}
use Rattle.rules.specs.Lookup as rules
use Rattle.rules.specs.Store.{fetch_page, env_of}
use Rattle.lookup.specs.declared.Looked.{Looked}

-- where a path ends, to the code: whether at an equal datom, or the page that cannot be read
abbrev pub Look : Type 0
Look = Result Bool Damage

abbrev pub damage : PageId → Fault → Damage
damage p f = record { page = p; fault = f }

abbrev pub lost_at : PageId → Fault → Look
lost_at p f = Err (damage p f)

-- the code's name of where a path ends
unfoldable pub look_of : rules.Look → Look
look_of (rules.met p i) = Ok true
look_of (rules.absent p) = Ok false
look_of (rules.lost p f) = lost_at p f

-- that, of what a look tells
abbrev pub end_of : Result Looked Damage → Look
end_of (Ok looked) = Ok looked.met
end_of (Err damage) = Err damage

-- the path of d from page p, which is to be of level l
abbrev pub path_of : DatomOrd → Extent → List ℕ → Datom → ℕ → PageId → rules.Look
path_of t x s d l p = rules.lookup (env_of t x s) d l p (fetch_page t x s p)
