use Rattle.std.proofs.Common.{◌≡◌, ℕ, ◌≤◌, List, length, take, nat_eq, sym, ap, ◌∙◌, subst, subst₂, arith}
use Rattle.std.proofs.lemmas.List.{length-take-le, get_or-take}
use Rattle.finite.specs.Injections.{inverse}
use Rattle.finite.proofs.Searches.{first_same}
use Rattle.arrangement.specs.Arrangements.{at}
use Rattle.normal.specs.Seatings.{group_number, SeatsAlong}
use Rattle.normal.proofs.seats.SeatsOf.along.Goals as goal

-- the seats along the first k of an order, whose length is then k
along_front :
    (n k : ℕ) (leaders order seats : List ℕ) → k ≤ length order → SeatsAlong n leaders (length (take k order)) (take k order) seats → SeatsAlong n leaders k order seats
along_front n k leaders order seats few h = λ p l.
    let group = group_number leaders (at leaders p) in
    h p l
    ∙ ap (λ (j : ℕ). inverse (at (take k order)) j group) (length-take-le k order few)
    ∙ first_same k _ _ (λ i j. ap (λ (x : ℕ). nat_eq x group) (get_or-take k order i 0 j))

pub returns : goal.returns
returns g c =
    let n = g.K.Node.count (g.N.Net.model c.args.net.now) in
    let order = c.args.order.now in
    let front = take c.from.result order in
    let leaders = c.args.groups.now.leaders in
    let seats = c.from-2.result.seats in
    let along : SeatsAlong n leaders (length front) front seats =
    subst₂ (λ (ls s : List ℕ). SeatsAlong n ls (length front) front s) c.leaders-leaders.ensures.same (sym c.from-2.ensures)
    (λ p l. c.loop-p.invariant.along p (omega (arith, c.count-p-end.ensures, c.loop-p-test.false))) in
    let whole : c.from.result ≡ c.args.count = omega arith in
    subst (λ (k : ℕ). SeatsAlong n leaders k order seats) whole (along_front n c.from.result leaders order seats (omega arith) along)
