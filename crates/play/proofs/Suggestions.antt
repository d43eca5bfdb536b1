-- What is suggested is accepted as an answer to what is owed.
use Rattle.std.proofs.Common.{◌≡◌, ℕ, ◌<◌, Some, Ok, ap}
use Rattle.finite.specs.Below.{first_below}
use Rattle.finite.proofs.Given.{given}
use Rattle.finite.proofs.Searches.{Found, first_finds}
use Rattle.play.specs.declared.kinds.Lead.{Lead}
use Rattle.play.specs.Kinds.{across}
use Rattle.play.specs.Moves.{numbers}
use Rattle.play.specs.States.{Sides, Board, opened, seated, marking}
use Rattle.play.specs.Calls.{accepted, answer_says}
use Rattle.play.specs.Invariant.{Kept}
use Rattle.play.proofs.Says.{owed_ok, reply_ok}
use Rattle.play.proofs.Fair.{kept_answers}

-- an accepted answer's number is a number of the answering side
pub answer_there : (sides : Sides) (b : Board) (d : Lead) (i : ℕ) → answer_says (opened sides b) d i ≡ Ok tt → i < numbers (seated sides (across d.side)).net d.sort
answer_there sides b d i e =
    (reply_ok (seated sides (across d.side)) (marking b (across d.side)) d.sort d.seat.0 i (owed_ok b.owed d _ _ e).1).0

-- with an answer owed, the search for a suggestion finds the lowest number that is accepted
pub kept_suggests : (sides : Sides) (b : Board) (d : Lead) → Kept sides b → b.owed ≡ Some d →
    Found (numbers (seated sides (across d.side)).net d.sort) (λ i. accepted (answer_says (opened sides b) d i))
    (first_below (numbers (seated sides (across d.side)).net d.sort) (λ i. accepted (answer_says (opened sides b) d i)))
kept_suggests sides b d h e =
    given (kept_answers sides b d h e) λ a.
    first_finds _ _ a.0 (answer_there sides b d a.0 a.1) (ap accepted a.1)
