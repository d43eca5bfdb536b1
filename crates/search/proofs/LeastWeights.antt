-- The least weights over the orders by given labels, and the orders that have them.
use Rattle.std.proofs.Common.{◌≡◌, ℕ, zero, suc, ◌<◌, ◌≤◌, Bool, true, false, ◌&&◌, ◌||◌, eqb, ltb, leb, ◌⊎◌, List, sym, refl, ap, ◌∙◌, subst, ap₂, inl, inr, arith}
use Rattle.std.proofs.lemmas.Bool.{cases_eq, cases_lt, cases_order, both_ways}
use Rattle.std.proofs.lemmas.Bool.Decides.{nat_tests}
use Rattle.finite.specs.Below.{count_below}
use Rattle.finite.specs.Lexicographic.{at_most}
use Rattle.finite.specs.Injections.{Injects, inverse, tabulate}
use Rattle.finite.proofs.Counts.{count_lt}
use Rattle.finite.proofs.Injections.{inverse_lands, inverse_right, injects_le, injects_bijects, count_bijects}
use Rattle.finite.proofs.Lexicographic.{at_most_self}
use Rattle.finite.proofs.Tables.{tabulate_cong, tabulate_same}
use Rattle.search.specs.Cells.{OrderedBy, Finer}
use Rattle.search.proofs.Comparing.{lower_at_most, tabulate_lower}

-- the first number where f and g differ, or that none is
first_difference : (f g : ℕ → ℕ) (n : ℕ) → ((k : ℕ) × (k < n) × ((x : ℕ) → x < k → f x ≡ g x) × (f k ≡ g k → ⊥)) ⊎ ((x : ℕ) → x < n → f x ≡ g x)
first_difference f g zero = inr (λ x l. absurd (omega arith))
first_difference f g (suc n) = elim (first_difference f g n) [
  | inl r ↦ inl (r.0, omega (arith, r.1), r.2, r.3)
  | inr all ↦
      elim (cases_eq (f n) (g n)) [
        | inl e ↦
            inr (λ x l. elim (cases_eq x n) [
              | inl z ↦ subst (λ (y : ℕ). f y ≡ g y) (sym z) e
              | inr z ↦ all x (omega arith)
            ])
        | inr ne ↦ inl (n, omega arith, all, ne)
      ]
]

-- no order by the labels has a lower label at some number than another
not_lower_label : (n : ℕ) (c a b : ℕ → ℕ) → OrderedBy n c a → OrderedBy n c b → (i : ℕ) → i < n → c (a i) < c (b i) → ⊥
not_lower_label n c a b oa ob i l h =
    let back : ℕ → ℕ = λ k. inverse b n (a k) in
    let place : (k : ℕ) → k < suc i → b (back k) ≡ a k = λ k m. inverse_right b n ob.permutes (a k) (oa.permutes.lands k (omega arith)) in
    let inside : (k : ℕ) → k < suc i → back k < n = λ k m. inverse_lands b n ob.permutes (a k) (oa.permutes.lands k (omega arith)) in
    let inj : Injects back (suc i) i = record {
      lands = λ k m. elim (cases_lt (back k) i) [
        | inl z ↦ z
        | inr z ↦
            let one : c (b i) ≤ c (b (back k)) = ob.ascends i (back k) z (inside k m) in
            let two : c (a k) ≤ c (a i) = oa.ascends k i (omega arith) l in
            let three : c (b (back k)) ≡ c (a k) = ap c (place k m) in
            absurd (omega arith)
      ];
      apart = λ j k x y e. oa.permutes.apart j k (omega arith) (omega arith) (sym (place j x) ∙ ap b e ∙ place k y);
    } in
    let r : suc i ≤ i = injects_le back (suc i) i inj in
    omega arith

-- each order by the labels has them at the same numbers
pub same_labels : (n : ℕ) (c a b : ℕ → ℕ) → OrderedBy n c a → OrderedBy n c b → (i : ℕ) → i < n → c (a i) ≡ c (b i)
same_labels n c a b oa ob i l = elim (cases_order (c (a i)) (c (b i))) [
  | inl e ↦ e
  | inr (inl h) ↦ absurd (not_lower_label n c a b oa ob i l h)
  | inr (inr h) ↦ absurd (not_lower_label n c b a ob oa i l h)
]

-- an order by finer labels is an order by the labels
pub coarse : (n : ℕ) (c w d : ℕ → ℕ) → Finer n c w d → (a : ℕ → ℕ) → OrderedBy n d a → OrderedBy n c a
coarse n c w d fine a o = record {
  permutes = o.permutes;
  ascends = λ i j l m.
      elim (fine.parts (a i) (a j) (o.permutes.lands i (omega arith)) (o.permutes.lands j m) (o.ascends i j l m)) [
        | inl z ↦ omega arith
        | inr z ↦ omega (arith, z.0)
      ];
}

module _ (n : ℕ) (c w d : ℕ → ℕ) (fine : Finer n c w d) (a b : ℕ → ℕ) (oa : OrderedBy n d a) (ob : OrderedBy n c b) where
  -- the weights along b are not lower at the first difference
  not_first : (k : ℕ) → k < n → ((x : ℕ) → x < k → w (a x) ≡ w (b x)) → w (b k) < w (a k) → ⊥
  not_first k l same less =
      let C = c (b k) in
      let V = w (b k) in
      let q : ℕ → Bool = λ p. ltb (c p) C || (eqb (c p) C && leb (w p) V) in
      let keys : (x : ℕ) → x < n → c (a x) ≡ c (b x) = same_labels n c a b (coarse n c w d fine a oa) ob in
      let late : (x : ℕ) → k ≤ x → x < n → q (a x) ≡ false = λ x m h.
      elim (fine.parts (a k) (a x) (oa.permutes.lands k l) (oa.permutes.lands x h) (oa.ascends k x m h)) [
        | inl z ↦ let e : c (a k) ≡ C = keys k l in grind (arith, nat_tests)
        | inr z ↦ let e : c (a k) ≡ C = keys k l in let y : c (a k) ≡ c (a x) = z.0 in let v : w (a k) ≤ w (a x) = z.1 in grind (arith, nat_tests)
      ] in
      let early : (x : ℕ) → x < n → q (a x) ≡ true → q (b x) ≡ true = λ x h y. elim (cases_lt x k) [
        | inl z ↦ ap₂ (λ (s t : ℕ). ltb s C || (eqb s C && leb t V)) (sym (keys x h)) (sym (same x z)) ∙ y
        | inr z ↦ absurd (both_ways (q (a x)) (late x z h) y)
      ] in
      let here : q (b k) ≡ true = grind (arith, nat_tests) in
      let more : count_below n (λ x. q (a x)) < count_below n (λ x. q (b x)) = count_lt n (λ x. q (a x)) (λ x. q (b x)) early k l (late k (omega arith) l) here in
      let one : count_below n (λ x. q (a x)) ≡ count_below n q = count_bijects a (inverse a n) n n (injects_bijects a n oa.permutes) (λ x. q (a x)) q (λ i m. refl) in
      let two : count_below n (λ x. q (b x)) ≡ count_below n q = count_bijects b (inverse b n) n n (injects_bijects b n ob.permutes) (λ x. q (b x)) q (λ i m. refl) in
      omega arith

  -- an order by the finer labels has the least weights
  pub least_weights : at_most (tabulate (λ i. w (a i)) n) (tabulate (λ i. w (b i)) n) ≡ true
  least_weights = elim (first_difference (λ i. w (a i)) (λ i. w (b i)) n) [
    | inl r ↦
        elim (cases_order (w (a r.0)) (w (b r.0))) [
          | inl z ↦ absurd (r.3 z)
          | inr (inl z) ↦ lower_at_most _ _ (tabulate_lower (λ i. w (a i)) (λ i. w (b i)) n r.0 r.1 r.2 z)
          | inr (inr z) ↦ absurd (not_first r.0 r.1 r.2 z)
        ]
    | inr all ↦ subst (λ (z : List ℕ). at_most (tabulate (λ i. w (a i)) n) z ≡ true) (tabulate_cong _ _ n n refl all) (at_most_self (tabulate (λ i. w (a i)) n))
  ]

  -- an order with the least weights is by the finer labels
  pub least_finer : tabulate (λ i. w (a i)) n ≡ tabulate (λ i. w (b i)) n → OrderedBy n d b
  least_finer e = record {
    permutes = ob.permutes;
    ascends = λ i j l m.
        let keys : (x : ℕ) → x < n → c (a x) ≡ c (b x) = same_labels n c a b (coarse n c w d fine a oa) ob in
        let same : (x : ℕ) → x < n → w (a x) ≡ w (b x) = λ x h. tabulate_same (λ i. w (a i)) (λ i. w (b i)) n x h e in
        let in-n : i < n = omega arith in
        let ki = keys i in-n in let kj = keys j m in let si = same i in-n in let sj = same j m in
        fine.joins (b i) (b j) (ob.permutes.lands i in-n) (ob.permutes.lands j m)
        (elim (fine.parts (a i) (a j) (oa.permutes.lands i in-n) (oa.permutes.lands j m) (oa.ascends i j l m)) [
          | inl z ↦ inl (omega arith)
          | inr z ↦ inr (omega (arith, z.0), omega (arith, z.1))
        ]);
  }
