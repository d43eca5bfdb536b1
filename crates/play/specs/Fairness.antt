-- What holds of a table after any calls. Assumes nothing.
use Rattle.std.specs.Prelude.{◌≡◌, ℕ, ◌≤◌, List, Some, None, Ok, Option}
use Rattle.play.specs.declared.kinds.Side.{Side}
use Rattle.play.specs.declared.kinds.Side.TheVariants.{Left, Right}
use Rattle.play.specs.declared.kinds.Sort.{Sort}
use Rattle.play.specs.declared.kinds.Lead.{Lead}
use Rattle.play.specs.Moves.{most_tokens, total}
use Rattle.play.specs.States.{State, closed, opened}
use Rattle.play.specs.Calls.{Call, lead_says, led, answer_says, withdraw_says, withdrawn, run}
use Rattle.play.specs.Shows.{tokens_says, fires_says}

-- both sides show the same: as many tokens for every place label, and for every transition label the same answer on whether a
-- transition with it can fire
pub record Level (s : State) : Type 0 where
  pub tokens : (label : ℕ) → tokens_says s Left label ≡ tokens_says s Right label
  pub fires : (label : ℕ) → fires_says s Left label ≡ fires_says s Right label

-- with nothing owed both sides show the same; with an answer owed, some number answers
abbrev pub FairWith : State → Option Lead → Type 0
FairWith s None = Level s
FairWith s (Some d) = (i : ℕ) × (answer_says s d i ≡ Ok tt)

-- the table is open, and fair
abbrev pub Fair : State → Type 0
Fair closed = ⊥
Fair (opened sides b) = FairWith (opened sides b) b.owed

-- so it is after every list of calls, refused ones and the empty list included
abbrev pub StaysFair : State → Type 0
StaysFair s = (cs : List Call) → Fair (run s cs)

-- neither side passes the limit
abbrev pub Within : State → Type 0
Within closed = ⊥
Within (opened sides b) = (total sides.left.net b.left ≤ most_tokens) × (total sides.right.net b.right ≤ most_tokens)

abbrev pub StaysWithin : State → Type 0
StaysWithin s = (cs : List Call) → Within (run s cs)

-- the due of a lead is accepted by withdraw, which leaves the table as it was before the lead
abbrev pub Withdraws : State → Type 0
Withdraws s = (w : Side) (k : Sort) (i : ℕ) (d : Lead) → lead_says s w k i ≡ Ok d → (withdraw_says (led s w k i) d ≡ Ok tt) × (withdrawn (led s w k i) d ≡ s)

abbrev pub StaysWithdrawable : State → Type 0
StaysWithdrawable s = (cs : List Call) → Withdraws (run s cs)
