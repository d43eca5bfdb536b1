-- What a reduction says, by the room of the buffer and the number of arrangements.
use Rattle.std.proofs.Common.{◌≡◌, ℕ, ◌<◌, ◌≤◌, List, length, Result, IsErrAnd, Ok, Err, ◌∙◌}
use Rattle.std.proofs.lemmas.Bool.{cond-true, cond-false, lt-ltb, le-ltb}
use Rattle.net.specs.Model.{Model}
use Rattle.format.specs.Sheets.{longest_sheet}
use Rattle.bisimulation.specs.Rounds.{rest}
use Rattle.arrangement.specs.EndSheets.{end_sheet, arrangements}
use Rattle.normal.specs.declared.refusal.ReduceRefusal.TheVariants.{ShortBuffer, TooManyArrangements}
use Rattle.normal.specs.declared.reduction.Reduction.{Reduction}
use Rattle.normal.specs.Counts.{most_arrangements}
use Rattle.normal.specs.Reductions.{reduction_of, reduce_says}

-- a `?` passes on the error of what it stands at
pub passed_on : {X Y E : Type 0} (r : Result X E) (z : Result Y E) (e f : E) → r ≡ Err f → r ≡ Err e → IsErrAnd z (λ x. x ≡ f) → z ≡ Err e
passed_on r (Ok y) e f left given h = absurd h
passed_on r (Err x) e f left given h = cc

module _ (m : Model) (buffer : List ℕ) where
  pub says_short : length buffer < longest_sheet → reduce_says m buffer ≡ Err ShortBuffer
  says_short l = cond-true _ _ _ (lt-ltb _ _ l)

  pub says_many : longest_sheet ≤ length buffer → most_arrangements < arrangements m → reduce_says m buffer ≡ Err TooManyArrangements
  says_many l k = cond-false _ _ _ (le-ltb _ _ l) ∙ cond-true _ _ _ (lt-ltb _ _ k)

  pub says_reduced : longest_sheet ≤ length buffer → arrangements m ≤ most_arrangements → reduce_says m buffer ≡ Ok (reduction_of m)
  says_reduced l k = cond-false _ _ _ (le-ltb _ _ l) ∙ cond-false _ _ _ (le-ltb _ _ k)

  -- the report of a reduction, number by number
  pub reported : (n k a : ℕ) → n ≡ length (end_sheet m) → k ≡ rest m → a ≡ arrangements m → ◌≡◌ {A = Reduction} (record { length = n; rounds = k; arrangements = a }) (reduction_of m)
  reported n k a x y z = λ i. record { length = x i; rounds = y i; arrangements = z i }
