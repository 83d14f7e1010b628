-- `content::order_of_kinds` meets its contract: by the kinds, and by what is of one kind. Assumes nothing.
use Rattle.std.proofs.Common.{◌≡◌, refl, arith, ap, ◌∙◌, true, false, Less, Equal, Greater}
use Rattle.store.specs.Laws.{apart}
use Rattle.datom.specs.Value.{content}
use Rattle.index.specs.declared.content.Kind.{Kind}
use Rattle.index.specs.declared.content.Kind.TheVariants.{Integer, Text, Top}
use Rattle.index.specs.Order.{cmp_value, cmp_content, named}
use Rattle.index.specs.Named.{numbers_named}
use Rattle.index.specs.Kinds.{rank, integers, kind_less, kind_greater, kind_top}
use Rattle.index.proofs.content.order_of_kinds.Goals as goal

pub returns-then-ne : goal.returns-then-ne
unfolding cmp_value
returns-then-ne c = ranked c.kind_of-v.result c.kind_of-w.result refl refl
  where
    ranked :
        (v w : Kind) → c.kind_of-v.result ≡ v → c.kind_of-w.result ≡ w →
        c.cmp.result ≡ named (cmp_content (content c.args.heap.now c.args.a) (content c.args.heap.now c.args.b))
    ranked Integer Integer e f = let k : c.ne.result ≡ false = rw (e, f) at c.ne.ensures in absurd (apart (cc))
    ranked Integer Text e f = let k : c.cmp.result ≡ Less = rw (e, f) at c.cmp.ensures in k ∙ kind_less _ _ (omega (arith, ap rank e, ap rank f, c.kind_of-v.ensures, c.kind_of-w.ensures))
    ranked Integer Top e f = let k : c.cmp.result ≡ Less = rw (e, f) at c.cmp.ensures in k ∙ kind_less _ _ (omega (arith, ap rank e, ap rank f, c.kind_of-v.ensures, c.kind_of-w.ensures))
    ranked Text Integer e f = let k : c.cmp.result ≡ Greater = rw (e, f) at c.cmp.ensures in k ∙ kind_greater _ _ (omega (arith, ap rank e, ap rank f, c.kind_of-v.ensures, c.kind_of-w.ensures))
    ranked Text Text e f = let k : c.ne.result ≡ false = rw (e, f) at c.ne.ensures in absurd (apart (cc))
    ranked Text Top e f = let k : c.cmp.result ≡ Less = rw (e, f) at c.cmp.ensures in k ∙ kind_less _ _ (omega (arith, ap rank e, ap rank f, c.kind_of-v.ensures, c.kind_of-w.ensures))
    ranked Top Integer e f = let k : c.cmp.result ≡ Greater = rw (e, f) at c.cmp.ensures in k ∙ kind_greater _ _ (omega (arith, ap rank e, ap rank f, c.kind_of-v.ensures, c.kind_of-w.ensures))
    ranked Top Text e f = let k : c.cmp.result ≡ Greater = rw (e, f) at c.cmp.ensures in k ∙ kind_greater _ _ (omega (arith, ap rank e, ap rank f, c.kind_of-v.ensures, c.kind_of-w.ensures))
    ranked Top Top e f = let k : c.ne.result ≡ false = rw (e, f) at c.ne.ensures in absurd (apart (cc))

pub returns-in-Integer : goal.returns-in-Integer
unfolding cmp_value
returns-in-Integer c = c.cmp-in-Integer.ensures ∙ numbers_named c.integer_of.result c.integer_of-in-Integer.result ∙ integers c.integer_of.ensures c.integer_of-in-Integer.ensures

pub returns-in-Text : goal.returns-in-Text
unfolding cmp_value
returns-in-Text c = c.order_of_texts.ensures

pub returns-in-Top : goal.returns-in-Top
unfolding cmp_value
returns-in-Top c = topped c.kind_of-w.result refl
  where
    topped : (w : Kind) → c.kind_of-w.result ≡ w → Equal ≡ named (cmp_content (content c.args.heap.now c.args.a) (content c.args.heap.now c.args.b))
    topped Integer f = let k : c.ne.result ≡ true = rw (c.in-Top.is, f) at c.ne.ensures in absurd (apart (cc))
    topped Text f = let k : c.ne.result ≡ true = rw (c.in-Top.is, f) at c.ne.ensures in absurd (apart (cc))
    topped Top f =
        let top : rank c.kind_of-v.result ≡ 2 = ap rank c.in-Top.is in
        kind_top _ _ (omega (arith, top, ap rank f, c.kind_of-v.ensures, c.kind_of-w.ensures))
        (λ z. absurd (omega (arith, top, z, c.kind_of-v.ensures)))
        (λ z. absurd (omega (arith, top, z, c.kind_of-v.ensures)))
