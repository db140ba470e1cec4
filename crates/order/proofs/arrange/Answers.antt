-- `order::arrange`: after k rounds the first k coefficients stand.
use Rattle.std.proofs.Common.{◌≡◌, ℕ, ◌^◌, List, map, refl, ap, ◌∙◌, arith, get_or}
use Rattle.words.specs.Word.{nega}
use Rattle.params.specs.Choices.{dimension_number}
use Rattle.order.specs.Order.{reorder}
use Rattle.order.proofs.Orders.{table, table-inside}
use Rattle.order.proofs.Filling.{fill_more, gathered}
use Rattle.order.proofs.arrange.Goals as goal

pub bounds-words-from : goal.bounds-words-from
bounds-words-from g c =
    let low = table-inside c.args.dimension _ c.places-place-items.ensures.places c.loop-k.k in
    omega (arith, low)

pub loop-k-preserved : goal.loop-k-preserved
loop-k-preserved g c =
    let l = c.loop-k in
    let read = λ (i : ℕ). nega g.F.Size.SIZE (get_or c.args.words.now i 0) in
    fill_more _ _ l.cs l.k l.k c.nega.result refl (c.nega.ensures ∙ ap read c.from.ensures)
    (omega arith) (λ i h e. omega arith) l.invariant

pub returns : goal.returns
returns g c =
    let p = c.places-place-items in
    let t = table c.args.dimension _ p.ensures.places in
    let w = g.F.Size.SIZE in
    let ws = c.args.words.now in
    let e : c.loop-k.k ≡ 4 ^ dimension_number c.args.dimension = omega arith in
    gathered (nega w) _ p.result.now t ws c.loop-k.cs (omega arith) (rw e at c.loop-k.invariant)
    ∙ ap (λ (t : List ℕ). map (nega w) (reorder t ws)) p.ensures.places
