-- `order::put_back`: after k rounds the words of the first k coefficients stand at their places,
-- and no two share one.
use Rattle.std.proofs.Common.{◌≡◌, ℕ, ◌^◌, List, map, ap, ◌∙◌, arith}
use Rattle.words.specs.Word.{unnega}
use Rattle.params.specs.Choices.{dimension_number}
use Rattle.order.specs.Order.{restore}
use Rattle.order.proofs.Orders.{table, table-inside}
use Rattle.order.proofs.Filling.{fill_more, entries_apart, scattered}
use Rattle.order.proofs.put_back.Goals as goal

pub bounds-words-from : goal.bounds-words-from
bounds-words-from g c =
    let low = table-inside c.args.dimension _ c.places-place-items.ensures.places c.loop-k.k in
    omega (arith, low)

pub loop-k-preserved : goal.loop-k-preserved
loop-k-preserved g c =
    let l = c.loop-k in
    let p = c.places-place-items in
    let t = table c.args.dimension _ p.ensures.places in
    let low = table-inside c.args.dimension _ p.ensures.places l.k in
    fill_more _ _ l.words l.k c.from.result c.unnega.result c.from.ensures c.unnega.ensures (omega (arith, low))
    (λ i h e. entries_apart _ p.result.now t i l.k h (omega arith) (e ∙ c.from.ensures)) l.invariant

pub returns : goal.returns
returns g c =
    let p = c.places-place-items in
    let t = table c.args.dimension _ p.ensures.places in
    let w = g.F.Size.SIZE in
    let cs = c.args.cs.now in
    let e : c.loop-k.k ≡ 4 ^ dimension_number c.args.dimension = omega arith in
    scattered (unnega w) _ p.result.now t cs c.loop-k.words (omega arith) c.requires.coefficients (rw e at c.loop-k.invariant)
    ∙ ap (λ (t : List ℕ). restore t (map (unnega w) cs)) p.ensures.places
