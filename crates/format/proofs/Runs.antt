-- Runs of fields: their size and the number that they spell.
use Rattle.std.proofs.Common.{◌≡◌, ℕ, zero, suc, ◌+◌, ◌*◌, ◌^◌, ◌<◌, List, [], ◌∷◌, ◌++◌, refl, ap, ◌∙◌, mul_assoc, mul_comm, add-mul, add-one, arith}
use Rattle.std.proofs.lemmas.Nat.{pow-add, mul-add-lt}
use Rattle.format.specs.Fields.{Field, Fit, size, spelt, number, each}

pub size_append : (fs gs : List Field) → size (fs ++ gs) ≡ size fs + size gs
unfolding size
size_append [] gs = omega arith
size_append (f ∷ fs) gs = omega (arith, size_append fs gs)

pub spelt_append : (a : ℕ) (fs gs : List Field) → spelt a (fs ++ gs) ≡ spelt (spelt a fs) gs
unfolding spelt
spelt_append a [] gs = refl
spelt_append a (f ∷ fs) gs = spelt_append (a * 2 ^ f.0 + f.1) fs gs

pub spelt_push : (a : ℕ) (fs : List Field) (w v : ℕ) → spelt a (fs ++ (w, v) ∷ []) ≡ spelt a fs * 2 ^ w + v
unfolding spelt
spelt_push a fs w v = spelt_append a fs ((w, v) ∷ [])

pub spelt_from : (a : ℕ) (fs : List Field) → spelt a fs ≡ a * 2 ^ size fs + number fs
unfolding spelt size
spelt_from a [] = omega arith
spelt_from a (f ∷ fs) =
    let x : spelt (a * 2 ^ f.0 + f.1) fs ≡ (a * 2 ^ f.0 + f.1) * 2 ^ size fs + number fs = spelt_from (a * 2 ^ f.0 + f.1) fs in
    let y : spelt (0 * 2 ^ f.0 + f.1) fs ≡ (0 * 2 ^ f.0 + f.1) * 2 ^ size fs + number fs = spelt_from (0 * 2 ^ f.0 + f.1) fs in
    let z : (a * 2 ^ f.0 + f.1) * 2 ^ size fs ≡ a * 2 ^ f.0 * 2 ^ size fs + f.1 * 2 ^ size fs = add-mul (a * 2 ^ f.0) f.1 (2 ^ size fs) in
    let u : a * 2 ^ f.0 * 2 ^ size fs ≡ a * (2 ^ f.0 * 2 ^ size fs) = mul_assoc a (2 ^ f.0) (2 ^ size fs) in
    let v : (0 * 2 ^ f.0 + f.1) * 2 ^ size fs ≡ f.1 * 2 ^ size fs = ap (λ (k : ℕ). k * 2 ^ size fs) (omega arith) in
    let p : a * 2 ^ (f.0 + size fs) ≡ a * (2 ^ f.0 * 2 ^ size fs) = ap (λ (k : ℕ). a * k) (pow-add 2 f.0 (size fs)) in
    omega arith

pub number_cons : (w v : ℕ) (fs : List Field) → number ((w, v) ∷ fs) ≡ v * 2 ^ size fs + number fs
unfolding spelt
number_cons w v fs = spelt_from (0 * 2 ^ w + v) fs ∙ ap (λ (k : ℕ). k * 2 ^ size fs + number fs) (omega arith)

pub number_below : (fs : List Field) → Fit fs → number fs < 2 ^ size fs
unfolding size spelt
number_below [] h = omega arith
number_below (f ∷ fs) h =
    let ih : number fs < 2 ^ size fs = number_below fs h.1 in
    let e : number (f ∷ fs) ≡ f.1 * 2 ^ size fs + number fs = number_cons f.0 f.1 fs in
    let b : f.1 * 2 ^ size fs + number fs < 2 ^ size fs * 2 ^ f.0 = mul-add-lt f.1 (2 ^ size fs) (number fs) (2 ^ f.0) h.0 ih in
    let p : 2 ^ (f.0 + size fs) ≡ 2 ^ f.0 * 2 ^ size fs = pow-add 2 f.0 (size fs) in
    let q : 2 ^ size fs * 2 ^ f.0 ≡ 2 ^ f.0 * 2 ^ size fs = mul_comm (2 ^ size fs) (2 ^ f.0) in
    omega arith

-- runs made of a part for each number below n
pub each_more : {X : Type 0} (f : ℕ → List X) (n : ℕ) → each f (n + 1) ≡ each f n ++ f n
unfolding each
each_more f n = rw add-one refl

pub fit_append : (fs gs : List Field) → Fit fs → Fit gs → Fit (fs ++ gs)
fit_append [] gs x y = y
fit_append (f ∷ fs) gs x y = (x.0, fit_append fs gs x.1 y)

pub fit_each : (f : ℕ → List Field) (n : ℕ) → ((i : ℕ) → i < n → Fit (f i)) → Fit (each f n)
unfolding each
fit_each f zero h = tt
fit_each f (suc n) h = fit_append (each f n) (f n) (fit_each f n (λ i l. h i (omega arith))) (h n (omega arith))

pub size_each : (f : ℕ → List Field) (k n : ℕ) → ((i : ℕ) → i < n → size (f i) ≡ k) → size (each f n) ≡ n * k
unfolding each size
size_each f k zero h = omega arith
size_each f k (suc n) h = size_append (each f n) (f n) ∙ omega (arith, size_each f k n (λ i l. h i (omega arith)), h n (omega arith))
