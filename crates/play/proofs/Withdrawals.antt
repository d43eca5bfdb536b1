-- An accepted lead can be withdrawn, and the table is then as before.
use Rattle.std.proofs.Common.{◌≡◌, ℕ, List, Some, None, Ok, Err, Option, Result, refl, ap, ◌∙◌, subst}
use Rattle.std.proofs.lemmas.Bool.{cond-true}
use Rattle.finite.proofs.Given.{given}
use Rattle.play.specs.declared.kinds.Side.{Side}
use Rattle.play.specs.declared.kinds.Side.TheVariants.{Left, Right}
use Rattle.play.specs.declared.kinds.Sort.{Sort}
use Rattle.play.specs.declared.kinds.Lead.{Lead}
use Rattle.play.specs.declared.refusals.lead.LeadRefusal.{LeadRefusal}
use Rattle.play.specs.declared.refusals.withdraw.WithdrawRefusal.{WithdrawRefusal}
use Rattle.play.specs.Kinds.{lead_of}
use Rattle.play.specs.Moves.{moved, undone}
use Rattle.play.specs.States.{Sides, Board, opened, seated, marking, with_marking}
use Rattle.play.specs.Calls.{if_ok, move_says, lead_by, led_to, withdraw_says, withdrawn}
use Rattle.play.specs.Fairness.{Withdraws}
use Rattle.play.specs.Invariant.{Even, SoundWith, Kept}
use Rattle.play.proofs.Markings.{undone_moved}
use Rattle.play.proofs.Leads.{same_lead_self}
use Rattle.play.proofs.Says.{err_not_ok, move_ok}
use Rattle.play.proofs.Kept.{board_of}

-- what withdrawing a lead comes to, from the board after it
abbrev TakenBack : Sides → Board → Board → Lead → Type 0
TakenBack sides c b d = (withdraw_says (opened sides c) d ≡ Ok tt) × (withdrawn (opened sides c) d ≡ opened sides b)

-- the lead that was accepted is taken back
taken_back : (sides : Sides) (l r : List ℕ) (w : Side) (k : Sort) (i seat : ℕ) → Even sides.left sides.right l r →
    move_says (seated sides w) (marking (board_of l r None) w) k i ≡ Ok seat →
    TakenBack sides (with_marking (board_of l r None) w (moved (seated sides w).net (marking (board_of l r None) w) k i) (Some (lead_of w k i seat))) (board_of l r None) (lead_of w k i seat)
taken_back sides l r Left k i seat h e =
    given (cond-true _ _ _ (same_lead_self (lead_of Left k i seat))) λ t.
    let m = sides.left.net in (
      t,
      ap (λ x. opened sides (if_ok {E = WithdrawRefusal} x (board_of (undone m (moved m l k i) k i) r None) (board_of (moved m l k i) r (Some (lead_of Left k i seat))))) t
          ∙ ap (λ x. opened sides (board_of x r None)) (undone_moved m l k i h.long (move_ok sides.left l k i seat e).1),
    )
taken_back sides l r Right k i seat h e =
    given (cond-true _ _ _ (same_lead_self (lead_of Right k i seat))) λ t.
    let m = sides.right.net in (
      t,
      ap (λ x. opened sides (if_ok {E = WithdrawRefusal} x (board_of l (undone m (moved m r k i) k i) None) (board_of l (moved m r k i) (Some (lead_of Right k i seat))))) t
          ∙ ap (λ x. opened sides (board_of l x None)) (undone_moved m r k i h.other_long (move_ok sides.right r k i seat e).1),
    )

-- so is whatever lead was recorded
lead_back : (sides : Sides) (l r : List ℕ) (o : Option Lead) (w : Side) (k : Sort) (i : ℕ) (d : Lead) (v : Result ℕ LeadRefusal) → SoundWith sides l r o →
    move_says (seated sides w) (marking (board_of l r o) w) k i ≡ v → lead_by o v w k i ≡ Ok d →
    TakenBack sides (led_to sides (board_of l r o) w k i (lead_by o v w k i)) (board_of l r o) d
lead_back sides l r (Some c) w k i d v h e z = err_not_ok _ d z
lead_back sides l r None w k i d (Err f) h e z = err_not_ok f d z
lead_back sides l r None w k i d (Ok seat) h e z =
    subst (TakenBack sides (led_to sides (board_of l r None) w k i (Ok (lead_of w k i seat))) (board_of l r None))
    (let same : lead_of w k i seat ≡ d = cc in same) (taken_back sides l r w k i seat h e)

-- an accepted lead can be withdrawn, and the table is then as before
pub kept_withdraws : (sides : Sides) (b : Board) → Kept sides b → Withdraws (opened sides b)
kept_withdraws sides b h w k i d e = lead_back sides b.left b.right b.owed w k i d (move_says (seated sides w) (marking b w) k i) h.sound refl e
