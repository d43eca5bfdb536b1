-- What a table keeps makes it fair: even sides show the same, and what is owed can be answered.
use Rattle.std.proofs.Common.{◌≡◌, ℕ, List, Some, None, Ok, Option, sym, ◌∙◌, subst}
use Rattle.std.proofs.lemmas.Bool.{cond-true}
use Rattle.finite.proofs.Given.{given}
use Rattle.net.specs.Model.{Model}
use Rattle.arrangement.specs.Seats.{Sits}
use Rattle.play.specs.declared.kinds.Side.{Side}
use Rattle.play.specs.declared.kinds.Side.TheVariants.{Left, Right}
use Rattle.play.specs.declared.kinds.Sort.{Sort}
use Rattle.play.specs.declared.kinds.Lead.{Lead}
use Rattle.play.specs.Kinds.{lead_of}
use Rattle.play.specs.States.{Sides, Board, opened}
use Rattle.play.specs.Calls.{answer_says}
use Rattle.play.specs.Fairness.{FairWith, Fair}
use Rattle.play.specs.Invariant.{AheadOn, SoundWith, Kept}
use Rattle.play.proofs.Leads.{same_lead_self}
use Rattle.play.proofs.Says.{reply_goes}
use Rattle.play.proofs.Answering.{answering}
use Rattle.play.proofs.Level.{even_level}
use Rattle.play.proofs.Kept.{board_of}

-- a lead that is owed an answer has one
ahead_answers : (e : Model) (sides : Sides) → Sits e sides.left → Sits e sides.right → (l r : List ℕ) (w : Side) (k : Sort) (i seat : ℕ) →
    AheadOn sides l r w k i seat → (j : ℕ) × (answer_says (opened sides (board_of l r (Some (lead_of w k i seat)))) (lead_of w k i seat) j ≡ Ok tt)
ahead_answers e sides x y l r Left k i seat h =
    given (answering e sides.left sides.right x y h.before r h.even.tokens k i h.there h.covered) λ a.
    (a.0, cond-true _ _ _ (same_lead_self (lead_of Left k i seat)) ∙ reply_goes sides.right r k seat a.0 a.1 (a.2 ∙ sym h.its_seat) a.3)
ahead_answers e sides x y l r Right k i seat h =
    given (answering e sides.right sides.left y x h.before l h.even.tokens k i h.there h.covered) λ a.
    (a.0, cond-true _ _ _ (same_lead_self (lead_of Right k i seat)) ∙ reply_goes sides.left l k seat a.0 a.1 (a.2 ∙ sym h.its_seat) a.3)

-- a sound table is fair
sound_fair : (e : Model) (sides : Sides) → Sits e sides.left → Sits e sides.right → (l r : List ℕ) (o : Option Lead) → SoundWith sides l r o →
    FairWith (opened sides (board_of l r o)) o
sound_fair e sides x y l r None h = even_level e sides x y (board_of l r None) h
sound_fair e sides x y l r (Some d) h = ahead_answers e sides x y l r d.side d.sort d.number d.seat.0 h

-- so a table is fair
pub kept_fair : (sides : Sides) (b : Board) → Kept sides b → Fair (opened sides b)
kept_fair sides b h = sound_fair h.net sides h.left h.right b.left b.right b.owed h.sound

-- some number answers what is owed
pub kept_answers : (sides : Sides) (b : Board) (d : Lead) → Kept sides b → b.owed ≡ Some d → (i : ℕ) × (answer_says (opened sides b) d i ≡ Ok tt)
kept_answers sides b d h e = subst (FairWith (opened sides b)) e (kept_fair sides b h)
