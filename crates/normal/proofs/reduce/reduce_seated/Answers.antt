use Rattle.std.proofs.Common.{rules, ◌≡◌, ℕ, ◌<◌, Option, Some, None, Err, ◌++◌, length, drop, Ok, sym, ap, ◌∙◌, subst, subst₂, ap₂, arith}
use Rattle.std.specs.Option.{ok_or}
use Rattle.std.specs.Result.{result_ok}
use Rattle.net.specs.Model.{Model}
use Rattle.bisimulation.specs.Folding.{folded}
use Rattle.bisimulation.proofs.Folded.{folded_lawful_lem}
use Rattle.arrangement.specs.Arrangements.{Distinct}
use Rattle.arrangement.specs.EndSheets.{least_sheet, arrangements}
use Rattle.arrangement.proofs.Folds.{folded_distinct}
use Rattle.search.specs.Ranked.{Ranked}
use Rattle.normal.specs.Seatings.{SeatsAlong}
use Rattle.normal.specs.Reductions.{filled}
use Rattle.normal.specs.declared.refusal.ReduceRefusal.TheVariants.{TooManyArrangements}
use Rattle.normal.specs.Counts.{most_arrangements}
use Rattle.normal.proofs.Reducing.{Counted, choices_count}
use Rattle.normal.proofs.Seating.{seating}
use Rattle.normal.proofs.Says.{passed_on, says_many, says_reduced, reported}
use Rattle.normal.proofs.reduce.reduce_seated.Goals as goal

pub returns-in_err-arrangements : goal.returns-in_err-arrangements
returns-in_err-arrangements g c =
    let m = g.N.Net.model c.args.net.now in
    let e = c.arrays.ensures ∙ c.draw_folded-folded.ensures in
    let counted = choices_count (folded m) c.arrays.result.now.place_labels c.arrays.result.now.places (folded_lawful_lem m (g.N.Net.lawful c.args.net.now)) (ap (λ (x : Model). x.places) e) (λ p. ap (λ (x : Model). x.place_label p) e) in
    let none : c.count_arrangements-counted.result ≡ None = c.ok_or.ensures.ok_part ∙ ap result_ok c.in_err-arrangements.was in
    let many : most_arrangements < arrangements m = subst₂ Counted none counted c.count_arrangements-counted.ensures in
    let given : c.ok_or.result ≡ Err TooManyArrangements = c.ok_or.ensures.value ∙ ap (λ (o : Option ℕ). ok_or o TooManyArrangements) none in
    let refused : c.from_residual.result ≡ Err TooManyArrangements = passed_on _ _ _ _ c.in_err-arrangements.was given c.from_residual.ensures.1 in
    let says = says_many m c.args.buffer.now (omega arith) many in
    record { says = refused ∙ sym says; after = sym (ap (λ r. filled r m c.args.buffer.now) says); seats = search rules }

pub least_arrangement-ranking-requires : goal.least_arrangement-ranking-requires
least_arrangement-ranking-requires g c =
    subst Distinct (sym (c.arrays-2.ensures ∙ c.draw_folded-folded.ensures)) (folded_distinct (g.N.Net.model c.args.net.now))

pub write_ranked-requires-clause-distinct : goal.write_ranked-requires-clause-distinct
write_ranked-requires-clause-distinct g c = subst Distinct (sym c.draw_folded-folded.ensures) (folded_distinct (g.N.Net.model c.args.net.now))

pub returns : goal.returns
returns g c =
    let m = g.N.Net.model c.args.net.now in
    let w = g.N.Net.lawful c.args.net.now in
    let e = c.draw_folded-folded.ensures in
    let counted = choices_count (folded m) c.arrays.result.now.place_labels c.arrays.result.now.places (folded_lawful_lem m w) (ap (λ (x : Model). x.places) (c.arrays.ensures ∙ e)) (λ p. ap (λ (x : Model). x.place_label p) (c.arrays.ensures ∙ e)) in
    let some : Counted (Some c.in_ok-arrangements.arrangements) (arrangements m) = subst₂ Counted (c.ok_or.ensures.ok_part ∙ ap result_ok c.in_ok-arrangements.was) counted c.count_arrangements-counted.ensures in
    let wrote = c.in_ok-length.ensures.after in
    let long : c.in_ok-length.length ≡ length (least_sheet (folded m)) = wrote.0 ∙ ap (λ (x : Model). length (least_sheet x)) e in
    let says = says_reduced m c.args.buffer.now (omega arith) (omega (arith, some)) in
    record {
      says = ap Ok (reported m c.args.buffer.now _ _ _ long c.fold-places.ensures.rounds some.0) ∙ sym says;
      after =
          wrote.1
          ∙ ap₂ (λ (x : Model) (n : ℕ). least_sheet x ++ drop n c.args.buffer.now) e long
          ∙ sym (ap (λ r. filled r m c.args.buffer.now) says);
      seats = seating m c.fold-places.new.groups c.least_arrangement-ranking.result c.seats_along.result w c.fold-places.ensures.groups
          (subst (λ (x : Model). Ranked x c.least_arrangement-ranking.result) (c.arrays-2.ensures ∙ e) c.least_arrangement-ranking.ensures)
          (subst (λ (n : ℕ). SeatsAlong m.places c.fold-places.new.groups.places.leaders n c.least_arrangement-ranking.result.places c.seats_along.result.places.seats) c.fold-places.ensures.places c.seats_along.ensures.places)
          (subst (λ (n : ℕ). SeatsAlong m.transitions c.fold-places.new.groups.transitions.leaders n c.least_arrangement-ranking.result.transitions c.seats_along.result.transitions.seats) c.fold-places.ensures.transitions c.seats_along.ensures.transitions);
    }
