-- Opening a table: the order of its refusals, the sheets in the buffers, and the table between two seated nets with one end sheet.
use Rattle.std.proofs.Common.{◌≡◌, ℕ, ◌≤◌, Bool, true, false, cond, ltb, List, ◌++◌, length, take, drop, IsErrAnd, None, Ok, Err, Result, sym, refl, ap, ◌∙◌, subst, ap₂, subst₂, inl, inr, arith, MatchResult}
use Rattle.std.specs.Str.{bytes_eq}
use Rattle.std.proofs.lemmas.List.{take_at, length-append}
use Rattle.std.proofs.lemmas.Bool.{cases_lt}
use Rattle.net.specs.Model.{Model, Lawful}
use Rattle.format.specs.Sheets.{longest_sheet}
use Rattle.format.specs.Sheets as sheets
use Rattle.arrangement.specs.EndSheets.{end_sheet, arrangements}
use Rattle.arrangement.specs.Seats.{Seating, Sits}
use Rattle.arrangement.proofs.Laws.{arrangement_law}
use Rattle.normal.specs.declared.refusal.ReduceRefusal.{ReduceRefusal}
use Rattle.normal.specs.declared.refusal.ReduceRefusal.TheVariants.{ShortBuffer, TooManyArrangements}
use Rattle.normal.specs.declared.reduction.Reduction.{Reduction}
use Rattle.normal.specs.declared.seats.Seats.{Seats}
use Rattle.normal.specs.Seatings.{seated_by}
use Rattle.normal.specs.Counts.{most_arrangements}
use Rattle.normal.specs.Reductions.{reduction_of, reduce_says, filled, reduced_buffer}
use Rattle.normal.proofs.Says.{says_many, says_reduced}
use Rattle.play.specs.Moves.{bare}
use Rattle.play.specs.declared.kinds.Side.TheVariants.{Left, Right}
use Rattle.play.specs.States.{Sides, opened, bare_board}
use Rattle.play.specs.Fairness.{StaysFair}
use Rattle.play.specs.Invariant.{Kept}
use Rattle.play.proofs.Kept.{kept_bare}
use Rattle.play.proofs.Laws.{stays_fair}
use Rattle.play.proofs.Says.{err_not_ok}
use Rattle.table.specs.declared.refusal.OpenRefusal.{OpenRefusal}
use Rattle.table.specs.declared.refusal.OpenRefusal.TheVariants.{Differ}
use Rattle.table.specs.Opening.{refused_on, both_reduced, open_says, OpenedOn, AfterOpen, SheetsDecide}
use Rattle.table.specs.Views.{seated_of, held, sides_of, board_of}
use Rattle.table.specs.declared.half.Half.{Half}
use Rattle.table.specs.declared.table.Table.{Table}

-- ---- the order of the refusals

-- the first refusal of two reductions, or what comes after them
abbrev then_says : Result (Reduction × Reduction) OpenRefusal → Result (Unit {0}) OpenRefusal → Result (Unit {0}) OpenRefusal
then_says (Ok _) last = last
then_says (Err e) last = Err e

-- what a reduction says, by its two tests
abbrev says_by : Bool → Bool → Reduction → Result Reduction ReduceRefusal
says_by short many x = cond short (Err ShortBuffer) (cond many (Err TooManyArrangements) (Ok x))

in_order : (a b c d : Bool) (x y : Reduction) (last : Result (Unit {0}) OpenRefusal) →
    cond a (Err (refused_on Left ShortBuffer)) (cond b (Err (refused_on Right ShortBuffer)) (cond c (Err (refused_on Left TooManyArrangements)) (cond d (Err (refused_on Right TooManyArrangements)) last)))
    ≡ then_says (both_reduced (says_by a c x) (says_by b d y)) last
in_order true b c d x y last = refl
in_order false true true d x y last = refl
in_order false true false d x y last = refl
in_order false false true true x y last = refl
in_order false false true false x y last = refl
in_order false false false true x y last = refl
in_order false false false false x y last = refl

both_ok : (a b : Result Reduction ReduceRefusal) (p : Reduction × Reduction) → both_reduced a b ≡ Ok p → (a ≡ Ok p.0) × (b ≡ Ok p.1)
both_ok (Err ShortBuffer) b p e = absurd (err_not_ok _ _ e)
both_ok (Err TooManyArrangements) (Err ShortBuffer) p e = absurd (err_not_ok _ _ e)
both_ok (Err TooManyArrangements) (Err TooManyArrangements) p e = absurd (err_not_ok _ _ e)
both_ok (Err TooManyArrangements) (Ok y) p e = absurd (err_not_ok _ _ e)
both_ok (Ok x) (Err ShortBuffer) p e = absurd (err_not_ok _ _ e)
both_ok (Ok x) (Err TooManyArrangements) p e = absurd (err_not_ok _ _ e)
both_ok (Ok x) (Ok y) p e = let h : (x, y) ≡ p = cc in (ap (λ (q : Reduction × Reduction). Ok q.0) h, ap (λ (q : Reduction × Reduction). Ok q.1) h)

says_is : (short many : Bool) (x y : Reduction) → says_by short many x ≡ Ok y → y ≡ x
says_is true many x y e = absurd (err_not_ok _ _ e)
says_is false true x y e = absurd (err_not_ok _ _ e)
says_is false false x y e = cc

-- an error that is passed on
pub passed_on : {T E : Type 0} (z : Result T E) (e : E) → IsErrAnd z (λ x. x ≡ e) → z ≡ Err e
passed_on (Ok x) e h = absurd h
passed_on (Err x) e h = ap Err h

-- a refused opening leaves the table
pub left_alone : (l r : Model) (t : Table) (z : Result (Unit {0}) OpenRefusal) (e : OpenRefusal) → z ≡ Err e → AfterOpen z l r t t
left_alone l r t (Ok x) e h = err_not_ok e x (sym h)
left_alone l r t (Err f) e h = refl

-- ---- one reduction that was accepted

module _ (m : Model) (buffer : List ℕ) (x : Reduction) (ok : reduce_says m buffer ≡ Ok x) where
  pub accepted_is : x ≡ reduction_of m
  accepted_is = says_is (ltb (length buffer) longest_sheet) (ltb most_arrangements (arrangements m)) (reduction_of m) x ok

  -- the end sheet stands at the front of the buffer
  module _ (after : List ℕ) (fills : after ≡ reduced_buffer m buffer) where
    filled_is : after ≡ end_sheet m ++ drop (length (end_sheet m)) buffer
    filled_is = fills ∙ ap (λ r. filled r m buffer) ok

    pub sheet_inside : x.length ≤ length after
    sheet_inside = omega (arith, ap (λ (r : Reduction). r.length) accepted_is, ap length filled_is, length-append (end_sheet m) (drop (length (end_sheet m)) buffer))

    pub sheet_front : take x.length after ≡ end_sheet m
    sheet_front =
        ap₂ take (ap (λ (r : Reduction). r.length) accepted_is) filled_is
        ∙ take_at (end_sheet m) (drop (length (end_sheet m)) buffer) (length (end_sheet m)) refl

-- ---- two reductions

module _ (l r : Model) (left right : List ℕ) where
  -- what opening says once both reductions are done
  abbrev last_says : Result (Unit {0}) OpenRefusal
  last_says = cond (bytes_eq (end_sheet l) (end_sheet r)) (Ok tt) (Err Differ)

  open_in_order : open_says l r left right ≡ then_says (both_reduced (reduce_says l left) (reduce_says r right)) last_says
  open_in_order = in_order (ltb (length left) longest_sheet) (ltb (length right) longest_sheet) (ltb most_arrangements (arrangements l)) (ltb most_arrangements (arrangements r)) (reduction_of l) (reduction_of r) last_says

  -- the reductions said a and b, and z is what both came to
  module _ {a b : Result Reduction ReduceRefusal} {z : Result (Reduction × Reduction) OpenRefusal} (x : a ≡ reduce_says l left) (y : b ≡ reduce_says r right) (both : z ≡ both_reduced a b) where
    said : z ≡ both_reduced (reduce_says l left) (reduce_says r right)
    said = both ∙ ap₂ both_reduced x y

    pub open_refused : (e : OpenRefusal) → z ≡ Err e → open_says l r left right ≡ Err e
    open_refused e h = open_in_order ∙ ap (λ w. then_says w last_says) (sym said ∙ h)

    -- both were accepted
    module _ {p : Reduction × Reduction} (h : z ≡ Ok p) where
      pub open_reduced : open_says l r left right ≡ last_says
      open_reduced = open_in_order ∙ ap (λ w. then_says w last_says) (sym said ∙ h)

      pub both_accepted : (reduce_says l left ≡ Ok p.0) × (reduce_says r right ≡ Ok p.1)
      both_accepted = both_ok (reduce_says l left) (reduce_says r right) p (sym said ∙ h)

  -- end sheets decide likeness, and alike nets are reduced together
  pub sheets_decide : Lawful l → Lawful r → SheetsDecide l r left right
  sheets_decide v w =
      let decides = arrangement_law.decides l r v w in
      record {
        same = decides.sheets;
        together = λ alike x y. elim (cases_lt most_arrangements (arrangements l)) [
          | inl k ↦ inr (says_many l left x k, says_many r right y (omega (arith, decides.counts alike)))
          | inr k ↦ inl (says_reduced l left x k, says_reduced r right y (omega (arith, decides.counts alike)))
        ];
      }

-- ---- two seated nets with one end sheet

-- what an accepted call ensures
pub given_ok : {T E : Type 0} (P : Type 0) (Q : E → Type 0) (z : Result T E) (x : T) → z ≡ Ok x → MatchResult z (λ _. P) Q → P
given_ok P Q (Ok y) x e h = h
given_ok P Q (Err f) x e h = err_not_ok f x e

-- a half that holds a copy of the net m, its seats, and no tokens
pub record Bare (h : Half) (m : Model) (seats : Seats) : Type 0 where
  pub seated : seated_of h ≡ seated_by m seats
  pub tokens : held h ≡ bare m

-- of a net that is that of a drawing
pub bare_copy : (h : Half) (m n : Model) (seats : Seats) → seated_of h ≡ seated_by n seats → held h ≡ bare n → n ≡ m → Bare h m seats
bare_copy h m n seats s b e = record { seated = s ∙ ap (λ (m : Model). seated_by m seats) e; tokens = b ∙ ap bare e }

module _ (l r : Model) (v : Lawful l) (w : Lawful r) (left right : Seats) (x : Seating (seated_by l left)) (y : Seating (seated_by r right)) (e : end_sheet l ≡ end_sheet r) (lh rh : Half) (a : Bare lh l left) (b : Bare rh r right) where
  abbrev between : Sides
  between = record { left = seated_by l left; right = seated_by r right }

  between_kept : Kept between (bare_board between)
  between_kept = kept_bare (sheets.net_of (end_sheet l)) between (arrangement_law.seated (seated_by l left) v x)
      (subst (λ (z : List ℕ). Sits (sheets.net_of z) (seated_by r right)) (sym e) (arrangement_law.seated (seated_by r right) w y))

  same_sides : sides_of lh rh ≡ between
  same_sides = λ i. record { left = a.seated i; right = b.seated i }

  same_board : board_of lh rh None ≡ bare_board between
  same_board = λ i. record { left = a.tokens i; right = b.tokens i; owed = None }

  pub opened_kept : ∥ Kept (sides_of lh rh) (board_of lh rh None) ∥₁
  opened_kept = ∣ subst₂ Kept (sym same_sides) (sym same_board) between_kept ∣₁

  pub opened_on : OpenedOn l r (opened (sides_of lh rh) (board_of lh rh None))
  opened_on =
      let same = ap₂ opened same_sides same_board in
      record {
        sides = between;
        left = refl;
        right = refl;
        left_seats = x;
        right_seats = y;
        bare = same;
        fair = subst StaysFair (sym same) (stays_fair between (bare_board between) between_kept);
      }
