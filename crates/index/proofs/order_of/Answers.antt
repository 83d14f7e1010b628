-- `index::order_of` meets its contract: one law for each word that tells, and the values where none does. Assumes nothing.
use native.Mathlib.Omega.{arith}
use mathlib.Core.Logic.{inl, inr}
use mathlib.Core.Path.{sym, ◌∙◌}
use Rattle.index.specs.declared.Index.TheVariants.{Eavt, Aevt, Avet}
use Rattle.index.specs.Front.{both_small, the_eavt, the_aevt, the_avet}
use Rattle.index.specs.Parts.{attribute_first}
use Rattle.index.proofs.Ways.{less_first, greater_first, less_two, greater_two, behind_attribute}
use Rattle.index.proofs.order_of.Goals as goal

pub returns-then-a-b : goal.returns-then-a-b
returns-then-a-b c =
    let a = c.args in
    let is = the_eavt a.by (sym c.is_by_entity.ensures ∙ c.if-is_by_entity.true) in
    rw is (less_first Eavt a.heap.now a.a a.b (omega arith))

pub returns-then-b-a : goal.returns-then-b-a
returns-then-b-a c =
    let a = c.args in
    let is = the_eavt a.by (sym c.is_by_entity.ensures ∙ c.if-is_by_entity.true) in
    rw is (greater_first Eavt a.heap.now a.a a.b (omega arith))

pub returns-then-a-b-2 : goal.returns-then-a-b-2
returns-then-a-b-2 c =
    let a = c.args in
    elim c.if-is_by_entity.branch [
      | goal.then-is_by_entity+else-a-b+else-b-a w ↦
          let is = the_eavt a.by (sym c.is_by_entity.ensures ∙ w.if-is_by_entity.true) in
          rw is (less_two Eavt a.heap.now a.a a.b tt (omega arith) (omega arith))
      | goal.else-is_by_entity w ↦
          let by-attribute = sym c.is_by_entity.ensures ∙ w.if-is_by_entity.false in
          less_first a.by a.heap.now a.a a.b (rw (attribute_first a.by a.a by-attribute, attribute_first a.by a.b by-attribute) (omega arith))
    ]

pub returns-then-b-a-2 : goal.returns-then-b-a-2
returns-then-b-a-2 c =
    let a = c.args in
    elim c.if-is_by_entity.branch [
      | goal.then-is_by_entity+else-a-b+else-b-a w ↦
          let is = the_eavt a.by (sym c.is_by_entity.ensures ∙ w.if-is_by_entity.true) in
          rw is (greater_two Eavt a.heap.now a.a a.b tt (omega arith) (omega arith))
      | goal.else-is_by_entity w ↦
          let by-attribute = sym c.is_by_entity.ensures ∙ w.if-is_by_entity.false in
          greater_first a.by a.heap.now a.a a.b (rw (attribute_first a.by a.a by-attribute, attribute_first a.by a.b by-attribute) (omega arith))
    ]

pub returns-then-a-b-3 : goal.returns-then-a-b-3
returns-then-a-b-3 c =
    let a = c.args in
    let is = the_avet a.by (sym c.is_by_value.ensures ∙ c.if-is_by_value.true) in
    let small = both_small a.a.value a.b.value (sym c.are_integers.ensures ∙ c.if-are_integers.true) in
    rw is (less_two Avet a.heap.now a.a a.b small (omega arith) (omega arith))

pub returns-then-b-a-3 : goal.returns-then-b-a-3
returns-then-b-a-3 c =
    let a = c.args in
    let is = the_avet a.by (sym c.is_by_value.ensures ∙ c.if-is_by_value.true) in
    let small = both_small a.a.value a.b.value (sym c.are_integers.ensures ∙ c.if-are_integers.true) in
    rw is (greater_two Avet a.heap.now a.a a.b small (omega arith) (omega arith))

pub returns-then-a-b-4 : goal.returns-then-a-b-4
returns-then-a-b-4 c =
    let a = c.args in
    elim c.if-is_by_entity.branch [
      | goal.then-is_by_entity+else-a-b+else-b-a w ↦ absurd (omega arith)
      | goal.else-is_by_entity w ↦
          let is = the_aevt a.by (sym c.is_by_entity.ensures ∙ w.if-is_by_entity.false) (sym c.is_by_value.ensures ∙ c.if-is_by_value.false) in
          rw is (less_two Aevt a.heap.now a.a a.b tt (omega arith) (omega arith))
    ]

pub returns-then-b-a-4 : goal.returns-then-b-a-4
returns-then-b-a-4 c =
    let a = c.args in
    elim c.if-is_by_entity.branch [
      | goal.then-is_by_entity+else-a-b+else-b-a w ↦ absurd (omega arith)
      | goal.else-is_by_entity w ↦
          let is = the_aevt a.by (sym c.is_by_entity.ensures ∙ w.if-is_by_entity.false) (sym c.is_by_value.ensures ∙ c.if-is_by_value.false) in
          rw is (greater_two Aevt a.heap.now a.a a.b tt (omega arith) (omega arith))
    ]

pub returns : goal.returns
returns c =
    let a = c.args in
    c.order_of_behind.ensures
    ∙ behind_attribute a.heap.now a.a a.b a.by (omega arith)
    (elim c.if-is_by_value.branch [
      | goal.then-is_by_value+then-are_integers+else-a-b-3+else-b-a-3 w ↦ inl (sym c.is_by_value.ensures ∙ w.if-is_by_value.true)
      | goal.then-is_by_value+else-are_integers w ↦ inl (sym c.is_by_value.ensures ∙ w.if-is_by_value.true)
      | goal.else-is_by_value+else-a-b-4+else-b-a-4 w ↦ inr (omega arith)
    ])
