-- Records of leads: the test of agreement, and what is owed.
use Rattle.std.proofs.Common.{◌≡◌, true, Some, None, Option, refl, ap, ◌∙◌}
use Rattle.std.proofs.lemmas.Bool.{and_parts, and_from, false≢true, eqb-true, eq-eqb}
use Rattle.play.specs.declared.kinds.Side.{Side}
use Rattle.play.specs.declared.kinds.Side.TheVariants.{Left, Right}
use Rattle.play.specs.declared.kinds.Sort.{Sort}
use Rattle.play.specs.declared.kinds.Sort.TheVariants.{Put, Take, Fire}
use Rattle.play.specs.declared.kinds.Lead.{Lead}
use Rattle.play.specs.Kinds.{same_side, same_sort, same_lead}
use Rattle.play.specs.States.{owes}

-- sides that pass the test are one
same_sides : (a b : Side) → same_side a b ≡ true → a ≡ b
same_sides Left Left e = refl
same_sides Left Right e = absurd (false≢true e)
same_sides Right Left e = absurd (false≢true e)
same_sides Right Right e = refl

-- sorts that pass the test are one
same_sorts : (a b : Sort) → same_sort a b ≡ true → a ≡ b
same_sorts Put Put e = refl
same_sorts Put Take e = absurd (false≢true e)
same_sorts Put Fire e = absurd (false≢true e)
same_sorts Take Put e = absurd (false≢true e)
same_sorts Take Take e = refl
same_sorts Take Fire e = absurd (false≢true e)
same_sorts Fire Put e = absurd (false≢true e)
same_sorts Fire Take e = absurd (false≢true e)
same_sorts Fire Fire e = refl

-- records that agree in all are one
pub same_leads : (a b : Lead) → same_lead a b ≡ true → a ≡ b
same_leads a b e =
    let x = and_parts _ _ e in
    let y = and_parts _ _ x.1 in
    let z = and_parts _ _ y.1 in
    let side = same_sides _ _ x.0 in
    let sort = same_sorts _ _ y.0 in
    let number = eqb-true _ _ z.0 in
    let seat = eqb-true _ _ z.1 in
    λ i. record { side = side i; sort = sort i; number = number i; seat = record { 0 = seat i } }

-- a record agrees with itself
pub same_lead_self : (d : Lead) → same_lead d d ≡ true
same_lead_self d = and_from _ _ (side d.side) (and_from _ _ (sort d.sort) (and_from _ _ (eq-eqb d.number _ refl) (eq-eqb d.seat.0 _ refl)))
  where
    side : (w : Side) → same_side w w ≡ true
    side Left = refl
    side Right = refl

    sort : (k : Sort) → same_sort k k ≡ true
    sort Put = refl
    sort Take = refl
    sort Fire = refl

-- what the test finds owed is what is owed
pub owes_is : (o : Option Lead) (d : Lead) → owes o d ≡ true → o ≡ Some d
owes_is None d e = absurd (false≢true e)
owes_is (Some x) d e = ap Some (same_leads x d e)

-- what is owed is found owed
pub is_owed : (o : Option Lead) (d : Lead) → o ≡ Some d → owes o d ≡ true
is_owed o d e = ap (λ (x : Option Lead). owes x d) e ∙ same_lead_self d
