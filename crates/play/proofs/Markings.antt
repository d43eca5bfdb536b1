-- Moves on one side: what a marking has at each place before and after a move.
use Rattle.std.proofs.Common.{◌≡◌, ℕ, ◌+◌, ◌-◌, ◌<◌, ◌≤◌, true, List, length, sym, ◌∙◌, arith}
use Rattle.std.proofs.lemmas.List.{ext_get_or}
use Rattle.std.proofs.lemmas.List.FromFn.{length-map-range_with_len, get_or-map-range_with_len}
use Rattle.std.proofs.lemmas.Bool.{leb-true, le-leb}
use Rattle.finite.specs.Injections.{tabulate}
use Rattle.finite.proofs.Tests.{all_at, all_from}
use Rattle.net.specs.Model.{Model}
use Rattle.arrangement.specs.Arrangements.{at}
use Rattle.play.specs.declared.kinds.Sort.{Sort}
use Rattle.play.specs.Moves.{takes, gives, covers, moved, undone}

-- the value at a place of a list of values
pub at_tabulate : (f : ℕ → ℕ) (n x : ℕ) → x < n → at (tabulate f n) x ≡ f x
at_tabulate f n x l = get_or-map-range_with_len f 0 n x x 0 l (omega arith)

-- the tokens on a place after a move
pub at_moved : (m : Model) (marking : List ℕ) (k : Sort) (i x : ℕ) → x < m.places →
    at (moved m marking k i) x ≡ at marking x - takes m k i x + gives m k i x
unfolding moved
at_moved m marking k i x l = at_tabulate (λ x. at marking x - takes m k i x + gives m k i x) m.places x l

-- the tokens on a place after a move is undone
pub at_undone : (m : Model) (marking : List ℕ) (k : Sort) (i x : ℕ) → x < m.places →
    at (undone m marking k i) x ≡ at marking x - gives m k i x + takes m k i x
unfolding undone
at_undone m marking k i x l = at_tabulate (λ x. at marking x - gives m k i x + takes m k i x) m.places x l

-- there is a number of tokens for each place after a move
pub moved_long : (m : Model) (marking : List ℕ) (k : Sort) (i : ℕ) → length (moved m marking k i) ≡ m.places
unfolding moved
moved_long m marking k i = length-map-range_with_len _ 0 m.places

-- and after a move is undone
pub undone_long : (m : Model) (marking : List ℕ) (k : Sort) (i : ℕ) → length (undone m marking k i) ≡ m.places
unfolding undone
undone_long m marking k i = length-map-range_with_len _ 0 m.places

-- a marking that covers a move has at each place what the move takes
pub covers_at : (m : Model) (marking : List ℕ) (k : Sort) (i : ℕ) → covers m marking k i ≡ true → (x : ℕ) → x < m.places → takes m k i x ≤ at marking x
unfolding covers
covers_at m marking k i h x l = leb-true _ _ (all_at m.places _ h x l)

-- a marking that has at each place what the move takes covers it
pub covers_from : (m : Model) (marking : List ℕ) (k : Sort) (i : ℕ) → ((x : ℕ) → x < m.places → takes m k i x ≤ at marking x) → covers m marking k i ≡ true
unfolding covers
covers_from m marking k i h = all_from m.places _ (λ x l. le-leb _ _ (h x l))

-- what was given is there to be taken back
pub moved_gives : (m : Model) (marking : List ℕ) (k : Sort) (i x : ℕ) → x < m.places → gives m k i x ≤ at (moved m marking k i) x
moved_gives m marking k i x l = omega (arith, at_moved m marking k i x l)

-- a move that is undone leaves the marking as it was
pub undone_moved : (m : Model) (marking : List ℕ) (k : Sort) (i : ℕ) → length marking ≡ m.places → covers m marking k i ≡ true →
    undone m (moved m marking k i) k i ≡ marking
undone_moved m marking k i long c =
    ext_get_or 0 (undone m (moved m marking k i) k i) marking (undone_long m (moved m marking k i) k i ∙ sym long) (λ x l.
    let j : x < m.places = omega (arith, undone_long m (moved m marking k i) k i) in
    omega (arith, at_undone m (moved m marking k i) k i x j, at_moved m marking k i x j, covers_at m marking k i c x j))
