-- A table keeps what it keeps: it does when newly opened, and after each call.
use Rattle.std.proofs.Common.{◌≡◌, ℕ, true, List, Some, None, Ok, Err, Option, Result, sym, refl, ◌∙◌, subst, ap₂, arith}
use Rattle.std.proofs.lemmas.List.FromFn.{length-map-range_with_len}
use Rattle.std.proofs.lemmas.Bool.{cond-true}
use Rattle.finite.proofs.Sums.{sum_zero}
use Rattle.net.specs.Model.{Model}
use Rattle.arrangement.specs.Arrangements.{at}
use Rattle.arrangement.specs.Seats.{Seated, seat_tokens, Sits}
use Rattle.play.specs.declared.kinds.Side.{Side}
use Rattle.play.specs.declared.kinds.Side.TheVariants.{Left, Right}
use Rattle.play.specs.declared.kinds.Sort.{Sort}
use Rattle.play.specs.declared.kinds.Lead.{Lead}
use Rattle.play.specs.declared.refusals.lead.LeadRefusal.{LeadRefusal}
use Rattle.play.specs.declared.refusals.answer.AnswerRefusal.{AnswerRefusal}
use Rattle.play.specs.declared.refusals.withdraw.WithdrawRefusal.{WithdrawRefusal}
use Rattle.play.specs.Kinds.{across, lead_of}
use Rattle.play.specs.Moves.{moved, undone, total, bare}
use Rattle.play.specs.States.{Sides, Board, opened, bare_board, seated, marking, with_marking, owes}
use Rattle.play.specs.Calls.{if_ok, move_says, reply_says, lead_by, lead_says, led_to, answer_says, withdraw_says}
use Rattle.play.specs.Invariant.{Even, SoundWith, Sound, Kept}
use Rattle.play.proofs.Markings.{at_tabulate}
use Rattle.play.proofs.Seats.{empty_seat}
use Rattle.play.proofs.Even.{even_turned, ahead_answered, ahead_undone}
use Rattle.play.proofs.Says.{move_ok, reply_ok, owed_ok}

-- a board of its three parts
abbrev pub board_of : List ℕ → List ℕ → Option Lead → Board
board_of l r o = record { left = l; right = r; owed = o }

-- the board after an answer
abbrev pub answered_to : Sides → Board → Lead → ℕ → Board
answered_to sides b d i =
    if_ok (answer_says (opened sides b) d i)
    (with_marking b (across d.side) (moved (seated sides (across d.side)).net (marking b (across d.side)) d.sort i) None) b

-- the board after a withdrawal
abbrev pub withdrawn_to : Sides → Board → Lead → Board
withdrawn_to sides b d =
    if_ok (withdraw_says (opened sides b) d)
    (with_marking b d.side (undone (seated sides d.side).net (marking b d.side) d.sort d.number) None) b

-- a bare marking has no tokens at all
bare_total : (m : Model) → total m (bare m) ≡ 0
bare_total m = sum_zero m.places (at (bare m)) (λ x l. at_tabulate (λ _. 0) m.places x l)

-- and none on a seat
bare_seat : (s : Seated) (k : ℕ) → seat_tokens s (at (bare s.net)) k ≡ 0
bare_seat s k = empty_seat s (at (bare s.net)) k (λ x l. at_tabulate (λ _. 0) s.net.places x l)

-- bare sides are even
bare_even : (s u : Seated) → Even s u (bare s.net) (bare u.net)
bare_even s u =
    record {
      long = length-map-range_with_len (λ _. 0) 0 s.net.places;
      other_long = length-map-range_with_len (λ _. 0) 0 u.net.places;
      room = omega (arith, bare_total s.net);
      other_room = omega (arith, bare_total u.net);
      tokens = λ k. bare_seat s k ∙ sym (bare_seat u k);
    }

-- a lead leaves the table sound
led_sound : (sides : Sides) (l r : List ℕ) (o : Option Lead) (w : Side) (k : Sort) (i : ℕ) (v : Result ℕ LeadRefusal) → SoundWith sides l r o →
    move_says (seated sides w) (marking (board_of l r o) w) k i ≡ v → Sound sides (led_to sides (board_of l r o) w k i (lead_by o v w k i))
led_sound sides l r (Some d) w k i v h e = h
led_sound sides l r None w k i (Err f) h e = h
led_sound sides l r None Left k i (Ok seat) h e =
    let f = move_ok sides.left l k i seat e in
    record { before = l; even = h; there = f.0; its_seat = f.3; covered = f.1; after = refl; room = f.2 }
led_sound sides l r None Right k i (Ok seat) h e =
    let f = move_ok sides.right r k i seat e in
    record { before = r; even = even_turned _ _ _ _ h; there = f.0; its_seat = f.3; covered = f.1; after = refl; room = f.2 }

-- so does an accepted answer
answered_sound : (e : Model) (sides : Sides) → Sits e sides.left → Sits e sides.right → (l r : List ℕ) (o : Option Lead) (w : Side) (k : Sort) (i seat j : ℕ) →
    SoundWith sides l r o → answer_says (opened sides (board_of l r o)) (lead_of w k i seat) j ≡ Ok tt →
    Sound sides (with_marking (board_of l r o) (across w) (moved (seated sides (across w)).net (marking (board_of l r o) (across w)) k j) None)
answered_sound e sides x y l r o Left k i seat j h z =
    let f = owed_ok o _ _ _ z in
    let g = reply_ok sides.right r k seat j f.1 in
    ahead_answered e sides.left sides.right x y l r k i seat j (subst (SoundWith sides l r) f.0 h) g.0 g.1 g.2
answered_sound e sides x y l r o Right k i seat j h z =
    let f = owed_ok o _ _ _ z in
    let g = reply_ok sides.left l k seat j f.1 in
    even_turned _ _ _ _ (ahead_answered e sides.right sides.left y x r l k i seat j (subst (SoundWith sides l r) f.0 h) g.0 g.1 g.2)

-- and an accepted withdrawal
withdrawn_sound : (sides : Sides) (l r : List ℕ) (o : Option Lead) (w : Side) (k : Sort) (i seat : ℕ) →
    SoundWith sides l r o → withdraw_says (opened sides (board_of l r o)) (lead_of w k i seat) ≡ Ok tt →
    Sound sides (with_marking (board_of l r o) w (undone (seated sides w).net (marking (board_of l r o) w) k i) None)
withdrawn_sound sides l r o Left k i seat h e =
    ahead_undone sides.left sides.right l r k i seat (subst (SoundWith sides l r) (owed_ok o _ _ _ e).0 h)
withdrawn_sound sides l r o Right k i seat h e =
    even_turned _ _ _ _ (ahead_undone sides.right sides.left r l k i seat (subst (SoundWith sides l r) (owed_ok o _ _ _ e).0 h))

-- what holds of the old, and of the new where the call is accepted, holds of what the call leaves
by_ok : {F : Type 0} (P : Board → Type 0) (x : Result (Unit {0}) F) (new old : Board) → (x ≡ Ok tt → P new) → P old → P (if_ok x new old)
by_ok P (Ok u) new old f g = f refl
by_ok P (Err e) new old f g = g

-- the same sides with another sound board
still : (sides : Sides) (b c : Board) → Kept sides b → Sound sides c → Kept sides c
still sides b c h s = record { net = h.net; left = h.left; right = h.right; sound = s }

-- a newly opened table
pub kept_bare : (e : Model) (sides : Sides) → Sits e sides.left → Sits e sides.right → Kept sides (bare_board sides)
kept_bare e sides x y = record { net = e; left = x; right = y; sound = bare_even sides.left sides.right }

-- a table after a lead
pub kept_led : (sides : Sides) (b : Board) (w : Side) (k : Sort) (i : ℕ) → Kept sides b → Kept sides (led_to sides b w k i (lead_says (opened sides b) w k i))
kept_led sides b w k i h = still sides b _ h (led_sound sides b.left b.right b.owed w k i (move_says (seated sides w) (marking b w) k i) h.sound refl)

-- a table after an answer
pub kept_answered : (sides : Sides) (b : Board) (d : Lead) (i : ℕ) → Kept sides b → Kept sides (answered_to sides b d i)
kept_answered sides b d i h = by_ok (Kept sides) (answer_says (opened sides b) d i) _ b (λ e. still sides b _ h
    (answered_sound h.net sides h.left h.right b.left b.right b.owed d.side d.sort d.number d.seat.0 i h.sound e)) h

-- a table after a withdrawal
pub kept_withdrawn : (sides : Sides) (b : Board) (d : Lead) → Kept sides b → Kept sides (withdrawn_to sides b d)
kept_withdrawn sides b d h = by_ok (Kept sides) (withdraw_says (opened sides b) d) _ b (λ e. still sides b _ h
    (withdrawn_sound sides b.left b.right b.owed d.side d.sort d.number d.seat.0 h.sound e)) h

-- the same, in the words of code: the board after a move that was accepted as a lead
pub kept_lead : (sides : Sides) (b : Board) (w : Side) (k : Sort) (i seat : ℕ) → Kept sides b → b.owed ≡ None →
    move_says (seated sides w) (marking b w) k i ≡ Ok seat →
    Kept sides (with_marking b w (moved (seated sides w).net (marking b w) k i) (Some (lead_of w k i seat)))
kept_lead sides b w k i seat h none e =
    subst (λ v. Kept sides (led_to sides b w k i v)) (ap₂ (λ (o : Option Lead) (v : Result ℕ LeadRefusal). lead_by o v w k i) none e) (kept_led sides b w k i h)

-- after a move that was accepted as the answer that is owed
pub kept_answer : (sides : Sides) (b : Board) (d : Lead) (i : ℕ) → Kept sides b → owes b.owed d ≡ true →
    reply_says (seated sides (across d.side)) (marking b (across d.side)) d.sort d.seat.0 i ≡ Ok tt →
    Kept sides (with_marking b (across d.side) (moved (seated sides (across d.side)).net (marking b (across d.side)) d.sort i) None)
kept_answer sides b d i h is e =
    subst (λ (v : Result (Unit {0}) AnswerRefusal). Kept sides (if_ok v (with_marking b (across d.side) (moved (seated sides (across d.side)).net (marking b (across d.side)) d.sort i) None) b))
    (cond-true _ _ _ is ∙ e) (kept_answered sides b d i h)

-- and after the lead that is owed an answer was undone
pub kept_withdraw : (sides : Sides) (b : Board) (d : Lead) → Kept sides b → owes b.owed d ≡ true →
    Kept sides (with_marking b d.side (undone (seated sides d.side).net (marking b d.side) d.sort d.number) None)
kept_withdraw sides b d h is =
    subst (λ (v : Result (Unit {0}) WithdrawRefusal). Kept sides (if_ok v (with_marking b d.side (undone (seated sides d.side).net (marking b d.side) d.sort d.number) None) b))
    (cond-true _ _ _ is) (kept_withdrawn sides b d h)
