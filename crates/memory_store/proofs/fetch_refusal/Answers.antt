-- `fetch_refusal` meets its contract: the tests in their order. Assumes nothing.
use Rattle.std.proofs.Common.{sym, ◌∙◌}
use Rattle.memory_store.specs.FetchLaws.{fetch_bad, fetch_past, fetch_given}
use Rattle.memory_store.proofs.fetch_refusal.Goals as goal

pub returns-then-is_bad : goal.returns-then-is_bad
returns-then-is_bad c = sym (fetch_bad _ _ _ (sym c.is_bad.ensures ∙ c.if-is_bad.true))

pub returns-then-extent-page : goal.returns-then-extent-page
returns-then-extent-page c = sym (fetch_past _ _ _ (sym c.is_bad.ensures ∙ c.if-is_bad.false) c.if-extent-page.true)

pub returns : goal.returns
returns c = sym (fetch_given _ _ _ (sym c.is_bad.ensures ∙ c.if-is_bad.false) c.if-extent-page.false)
