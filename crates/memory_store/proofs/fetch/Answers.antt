-- `fetch` meets its contract: a page that is given lies in the store. Assumes nothing.
use Rattle.std.proofs.Common.{sym, ◌∙◌}
use Rattle.memory_store.specs.FetchLaws.{given, given_fetched, refused_fetched}
use Rattle.memory_store.proofs.fetch.Goals as goal

pub returns-in_default : goal.returns-in_default
returns-in_default c = sym (refused_fetched _ _ _ _ (sym c.fetch_refusal.ensures ∙ c.in_default.is))

pub part_of-requires : goal.part_of-requires
part_of-requires c = given _ _ _ (sym c.fetch_refusal.ensures ∙ c.in-Ok.is)

pub returns : goal.returns
returns c = rw (given_fetched _ _ _ (sym c.fetch_refusal.ensures ∙ c.in-Ok.is)) c.part_of.ensures
