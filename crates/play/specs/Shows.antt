-- What a table shows of a side, and what it suggests. Assumes nothing.
use Rattle.std.specs.Prelude.{ℕ, Bool, cond, ◌&&◌, List, Some, None, Ok, Err, Option, Result, ◌==◌}
use Rattle.finite.specs.Below.{sum_below, any_below, first_below}
use Rattle.net.specs.Model.{Model}
use Rattle.arrangement.specs.Arrangements.{at}
use Rattle.play.specs.declared.kinds.Side.{Side}
use Rattle.play.specs.declared.kinds.Sort.TheVariants.{Fire}
use Rattle.play.specs.declared.kinds.Lead.{Lead}
use Rattle.play.specs.declared.refusals.show.ShowRefusal.{ShowRefusal}
use Rattle.play.specs.declared.refusals.show.ShowRefusal.TheVariants.{Closed}
use Rattle.play.specs.Kinds.{across}
use Rattle.play.specs.Moves.{numbers, covers}
use Rattle.play.specs.States.{Sides, Board, State, closed, opened, seated, marking}
use Rattle.play.specs.Calls.{accepted, answer_says}

-- the tokens on places with the label
unfoldable pub label_tokens : Model → List ℕ → ℕ → ℕ
label_tokens m tokens label = sum_below m.places (λ p. cond (m.place_label p == label) (at tokens p) 0)

-- whether a transition with the label can fire: the marking has its cause
unfoldable pub can_fire : Model → List ℕ → ℕ → Bool
can_fire m tokens label = any_below m.transitions (λ t. (m.transition_label t == label) && covers m tokens Fire t)

abbrev pub tokens_says : State → Side → ℕ → Result ℕ ShowRefusal
tokens_says closed w label = Err Closed
tokens_says (opened sides b) w label = Ok (label_tokens (seated sides w).net (marking b w) label)

abbrev pub fires_says : State → Side → ℕ → Result Bool ShowRefusal
fires_says closed w label = Err Closed
fires_says (opened sides b) w label = Ok (can_fire (seated sides w).net (marking b w) label)

-- the lowest number that an answer to what is owed would be accepted with; none when nothing is owed
abbrev pub suggestion_for : Sides → Board → Option Lead → Option ℕ
suggestion_for sides b None = None
suggestion_for sides b (Some d) = Some (first_below (numbers (seated sides (across d.side)).net d.sort) (λ i. accepted (answer_says (opened sides b) d i)))

abbrev pub suggest_says : State → Result (Option ℕ) ShowRefusal
suggest_says closed = Err Closed
suggest_says (opened sides b) = Ok (suggestion_for sides b b.owed)
