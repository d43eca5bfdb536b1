-- `given e λ x. t` is `let x = e in t` with x a variable, of which only the type is known.

pub given : {A B : Type 0} → A → (A → B) → B
given a f = f a
