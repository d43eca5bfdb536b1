use Rattle.std.proofs.Common.{◌≡◌, ℕ, ◌<◌, Bool, true, false, MatchOption, rules}
use Rattle.std.proofs.iter.runs.Sources.{ranges}
use Rattle.play.specs.Moves.{numbers}
use Rattle.play.specs.Calls.{accepted, reply_says}
use Rattle.table.specs.Views.{net_of, seated_of, held}
use Rattle.table.proofs.Suggestions.{suggested}
use Rattle.table.proofs.game.Game.suggest.Goals as goal

pub returns : goal.returns
returns c =
    let d = c.in_ok-lead.lead in
    let h = c.half-half.result.now in
    let n = numbers (net_of h) d.sort in
    let f : ℕ → Bool = λ j. accepted (reply_says (seated_of h) (held h) d.sort d.seat.0 j) in
    let found : MatchOption c.find.result ((j : ℕ) → j < n → f j ≡ false) (λ i. (i < n) × (f i ≡ true) × ((j : ℕ) → j < i → f j ≡ false)) = search (rules, ranges) in
    suggested c.args.self.now d c.in_ok-lead.was c.other.result c.other.ensures h c.half-half.ensures c.find.result found
