-- `host::pairs::apart_but` meets its contract. Assumes nothing.
use Rattle.lists.proofs.Kit.{◌≡◌, refl, sym, ap, ◌∙◌, true, length}
use Rattle.std.proofs.Common.{rules, tests}
use Rattle.std.proofs.lemmas.Iterator.{YieldsList-from_slice}
use Rattle.lists.proofs.Laws.Library.{any-some}
use Rattle.lists.specs.Tests.{apart}
use Rattle.host.proofs.Laws.Chains.{some-none, apart-found, apart-past, apart-none}
use Rattle.host.proofs.pairs.apart_but.Goals.{else-not-alone-via-then-not-alone+else-any, else-not-alone-via-else-not-alone}
use Rattle.host.proofs.pairs.apart_but.Goals as goal

pub returns-then-any : goal.returns-then-any
returns-then-any g c = λ a e q h k.
    let x = c.in-Some.x in
    let ys = c.in-Some.others.now in
    let found = any-some (e x.now) _ _ c.any.result c.any.ensures.ran (YieldsList-from_slice ys cc)
    (λ y b p m. (search (rules, tests), h x.now y.now b record { first = x; second = y; shows = (refl, refl); says = record { met = search rules } })) in
    apart-found e x.now ys (sym found ∙ c.if-any.true)
    ∙ ap (apart e) (sym c.in-Some.ensures.cases.0) ∙ sym (c.loop-x.invariant.1.1 a e q h k)

pub loop-x-preserved : goal.loop-x-preserved
loop-x-preserved g c = elim c.else-not-alone.branch [
  | else-not-alone-via-then-not-alone+else-any w ↦ (
    c.loop-x.invariant.0,
    (
      c.loop-x.invariant.1.0,
      λ a e q h k.
          let x = c.in-Some.x in
          let ys = c.in-Some.others.now in
          let found = any-some (e x.now) _ _ w.any.result w.any.ensures.ran (YieldsList-from_slice ys cc)
          (λ y b p m. (search (rules, tests), h x.now y.now b record { first = x; second = y; shows = (refl, refl); says = record { met = search rules } })) in
          c.loop-x.invariant.1.1 a e q h k ∙ ap (apart e) c.in-Some.ensures.cases.0
          ∙ apart-past e x.now ys (sym found ∙ w.if-any.false),
    ),
  )
  | else-not-alone-via-else-not-alone w ↦ (
    c.loop-x.invariant.0,
    (
      c.loop-x.invariant.1.0,
      λ a e q h k.
          let x = c.in-Some.x in
          let ys = c.in-Some.others.now in
          let met = q x.now true record { shown = x; shows = refl; says = record { met = w.if-not-alone.ensures } } in
          c.loop-x.invariant.1.1 a e q h k ∙ ap (apart e) c.in-Some.ensures.cases.0
          ∙ apart-past e x.now ys (some-none (e x.now) ys (λ y. k x.now y (sym met))),
    ),
  )
]

pub returns : goal.returns
returns g c = λ a e q h k. let none : length c.loop-x.rest.now ≡ 0 = search rules in apart-none e _ none ∙ sym (c.loop-x.invariant.1.1 a e q h k)
