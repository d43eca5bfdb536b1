-- What it takes for a move to be accepted, as a lead and as an answer.
use Rattle.std.proofs.Common.{◌≡◌, ℕ, ◌<◌, ◌≤◌, true, cond, eqb, ltb, List, Some, Ok, Err, Option, Result, sym, ◌∙◌, ⊎_elim}
use Rattle.std.proofs.lemmas.Bool.{cases_Bool, eqb-true, eq-eqb, ltb-true, ltb-false, lt-ltb, cond-true, cond-false, cond_both}
use Rattle.arrangement.specs.Seats.{Seated}
use Rattle.play.specs.declared.kinds.Sort.{Sort}
use Rattle.play.specs.declared.kinds.Lead.{Lead}
use Rattle.play.specs.declared.refusals.lead.LeadRefusal.{LeadRefusal}
use Rattle.play.specs.declared.refusals.answer.AnswerRefusal.{AnswerRefusal}
use Rattle.play.specs.Moves.{most_tokens, numbers, seat_of, covers, moved, total}
use Rattle.play.specs.States.{owes}
use Rattle.play.specs.Calls.{move_says, reply_says}
use Rattle.play.proofs.Leads.{owes_is}

-- a refusal is no acceptance
pub err_not_ok : {T F X : Type 0} (f : F) (v : T) → ◌≡◌ {A = Result T F} (Err f) (Ok v) → X
err_not_ok f v e = cc

-- two acceptances that are equal accept with the same
ok_same : (a b : ℕ) → ◌≡◌ {A = Result ℕ LeadRefusal} (Ok a) (Ok b) → a ≡ b
ok_same a b e = cc

-- what an accepted move of a lead is
pub move_ok : (s : Seated) (m : List ℕ) (k : Sort) (i seat : ℕ) → move_says s m k i ≡ Ok seat →
    (i < numbers s.net k) × (covers s.net m k i ≡ true) × (total s.net (moved s.net m k i) ≤ most_tokens) × (seat ≡ seat_of s k i)
move_ok s m k i seat =
    let G : Type 0 = (i < numbers s.net k) × (covers s.net m k i ≡ true) × (total s.net (moved s.net m k i) ≤ most_tokens) × (seat ≡ seat_of s k i) in
    let P : Result ℕ LeadRefusal → Type 0 = λ v. v ≡ Ok seat → G in
    cond_both (ltb i (numbers s.net k)) _ _ P
    (λ a. cond_both (covers s.net m k i) _ _ P
    (λ c. cond_both (ltb most_tokens (total s.net (moved s.net m k i))) _ _ P
    (λ _ h. err_not_ok _ seat h)
    (λ r h. (ltb-true _ _ a, c, ltb-false _ _ r, sym (ok_same _ _ h))))
    (λ _ h. err_not_ok _ seat h))
    (λ _ h. err_not_ok _ seat h)

-- an answer's move is accepted where there is such a number, it has the seat and it is covered
pub reply_goes : (s : Seated) (m : List ℕ) (k : Sort) (seat i : ℕ) → i < numbers s.net k → seat_of s k i ≡ seat → covers s.net m k i ≡ true →
    reply_says s m k seat i ≡ Ok tt
reply_goes s m k seat i a e c = cond-true _ _ _ (lt-ltb _ _ a) ∙ cond-true _ _ _ (eq-eqb _ _ e) ∙ cond-true _ _ _ c

-- what an accepted answer's move is
pub reply_ok : (s : Seated) (m : List ℕ) (k : Sort) (seat i : ℕ) → reply_says s m k seat i ≡ Ok tt →
    (i < numbers s.net k) × (seat_of s k i ≡ seat) × (covers s.net m k i ≡ true)
reply_ok s m k seat i =
    let G : Type 0 = (i < numbers s.net k) × (seat_of s k i ≡ seat) × (covers s.net m k i ≡ true) in
    let P : Result (Unit {0}) AnswerRefusal → Type 0 = λ v. v ≡ Ok tt → G in
    cond_both (ltb i (numbers s.net k)) _ _ P
    (λ a. cond_both (eqb (seat_of s k i) seat) _ _ P
    (λ e. cond_both (covers s.net m k i) _ _ P (λ c h. (ltb-true _ _ a, eqb-true _ _ e, c)) (λ _ h. err_not_ok _ tt h))
    (λ _ h. err_not_ok _ tt h))
    (λ _ h. err_not_ok _ tt h)

-- what is accepted names what is owed
pub owed_ok : {F : Type 0} (o : Option Lead) (d : Lead) (v : Result (Unit {0}) F) (f : F) → cond (owes o d) v (Err f) ≡ Ok tt → (o ≡ Some d) × (v ≡ Ok tt)
owed_ok o d v f e = ⊎_elim
    (λ t. (owes_is o d t, sym (cond-true _ _ _ t) ∙ e))
    (λ n. err_not_ok f tt (sym (cond-false _ _ _ n) ∙ e))
    (cases_Bool (owes o d))
