-- All arrangements of a net in one list, and their number. Assumes nothing.
use Rattle.std.specs.Prelude.{ℕ, zero, suc, cond, List, [], ◌∷◌, ◌++◌, map, nat_eq, nat_le}
use Rattle.std.specs.List.{flat_map}
use Rattle.finite.specs.Below.{count_below}
use Rattle.finite.specs.Products.{product_below, factorial}
use Rattle.net.specs.Model.{Model, highest_label}

-- the lists with p put into xs at a position where f still does not fall
unfoldable pub inserted : (ℕ → ℕ) → ℕ → List ℕ → List (List ℕ)
inserted f p [] = (p ∷ []) ∷ []
inserted f p (x ∷ xs) = cond (nat_le (f p) (f x)) ((p ∷ (x ∷ xs)) ∷ []) [] ++ cond (nat_le (f x) (f p)) (map (◌∷◌ x) (inserted f p xs)) []

-- the numbers below n in each order along which f does not fall
unfoldable pub orders_below : ℕ → (ℕ → ℕ) → List (List ℕ)
orders_below zero f = [] ∷ []
orders_below (suc n) f = flat_map (inserted f n) (orders_below n f)

-- all arrangements of a net
abbrev pub all_arrangements : Model → List (List ℕ)
all_arrangements m = orders_below m.places m.place_label

-- how many places have the label l
abbrev pub labelled : Model → ℕ → ℕ
labelled m l = count_below m.places (λ p. nat_eq (m.place_label p) l)

-- the number of arrangements: the product, over the labels, of the factorials of how many places have the label
unfoldable pub arrangement_count : Model → ℕ
arrangement_count m = product_below (suc highest_label) (λ l. factorial (labelled m l))
