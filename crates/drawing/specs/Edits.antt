-- What the edits of a drawing make of its net. Assumes nothing.
use Rattle.std.specs.Prelude.{ℕ, ◌+◌, cond, ◌&&◌, ◌==◌}
use Rattle.net.specs.Model.{Model}
use Rattle.net.specs.declared.bag.Bag.{Bag}
use Rattle.net.specs.declared.bag.Bag.TheVariants.{Cause, Effect}

-- f, with the value v at k
abbrev pub replaced : (ℕ → ℕ) → ℕ → ℕ → ℕ → ℕ
replaced f k v i = cond (i == k) v (f i)

-- one more place, with no tokens taken from it or put there
abbrev pub with_place : Model → ℕ → Model
with_place m label = record m { places = m.places + 1; place_label = replaced m.place_label m.places label }

-- one more transition, that takes nothing and puts nothing
abbrev pub with_transition : Model → ℕ → Model
with_transition m label = record m { transitions = m.transitions + 1; transition_label = replaced m.transition_label m.transitions label }

-- the weights, with w of transition t at place p
abbrev pub reweighed : (ℕ → ℕ → ℕ) → ℕ → ℕ → ℕ → ℕ → ℕ → ℕ
reweighed f t p w u q = cond (u == t && q == p) w (f u q)

-- one weight replaced
abbrev pub with_weight : Bag → Model → ℕ → ℕ → ℕ → Model
with_weight Cause m t p w = record m { cause = reweighed m.cause t p w }
with_weight Effect m t p w = record m { effect = reweighed m.effect t p w }
