-- What a move comes to on a side. Assumes nothing.
use Rattle.std.specs.Prelude.{◌≡◌, ℕ, List, Ok, Err, Result, MatchResult}
use Rattle.net.specs.declared.bag.Bag.{Bag}
use Rattle.net.specs.declared.bag.Bag.TheVariants.{Cause}
use Rattle.play.specs.declared.kinds.Move.{Move}
use Rattle.table.specs.Views.{net_of, held, shifted}
use Rattle.table.specs.declared.half.Half.{Half}
use Rattle.table.specs.declared.half.shift.Shift.{Shift}

-- s is the shift of the move d on the side h, which takes this bag of it off
pub record IsShift (s : Shift) (h : Half) (d : Move) (bag : Bag) : Type 0 where
  pub half : s.half.now ≡ h
  pub step : s.step ≡ d
  pub off : s.off ≡ bag

-- the tokens of the side once the shift is made
abbrev pub held_after : Shift → List ℕ
held_after s = shifted (net_of s.half.now) (held s.half.now) s.off s.step.sort s.step.number

-- a result that is as `says` says: accepted at x, with the shift of the move d, or refused
abbrev pub Allows : {T E : Type 0} → Result Shift E → Half → Move → T → Result T E → Type 0
Allows r h d x says = MatchResult r (λ s. IsShift s h d Cause × (says ≡ Ok x)) (λ e. says ≡ Err e)
