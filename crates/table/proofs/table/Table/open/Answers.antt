use Rattle.std.proofs.Common.{sym, ◌∙◌, ap₂}
use Rattle.std.specs.Str.{bytes_eq}
use Rattle.std.proofs.lemmas.Slice.Eq.{bytes_eq-Decides}
use Rattle.std.proofs.lemmas.Bool.{cond-true, cond-false}
use Rattle.table.proofs.Opening.{passed_on, left_alone, sheet_inside, sheet_front, open_refused, open_reduced, both_accepted, sheets_decide, given_ok}
use Rattle.table.proofs.table.Table.open.Goals as goal

pub returns-in_err-left_reduction-clause-says : goal.returns-in_err-left_reduction-clause-says
returns-in_err-left_reduction-clause-says g c =
    let l = g.L.Net.model c.args.left.now in
    let r = g.R.Net.model c.args.right.now in
    let refused = passed_on c.from_residual.result c.in_err-left_reduction.field-0.0 c.from_residual.ensures.1 in
    refused ∙ sym (open_refused l r c.args.left_buffer.now c.args.right_buffer.now c.reduce_seated-on_left.ensures.says c.reduce_seated-on_right.ensures.says c.both_reduced.ensures _ c.in_err-left_reduction.was)

pub returns-in_err-left_reduction-clause-after : goal.returns-in_err-left_reduction-clause-after
returns-in_err-left_reduction-clause-after g c =
    left_alone _ _ c.args.self.now c.from_residual.result _ (passed_on c.from_residual.result c.in_err-left_reduction.field-0.0 c.from_residual.ensures.1)

pub returns-in_err-left_reduction-clause-decides : goal.returns-in_err-left_reduction-clause-decides
returns-in_err-left_reduction-clause-decides g c =
    let l = g.L.Net.model c.args.left.now in
    let r = g.R.Net.model c.args.right.now in
    sheets_decide l r c.args.left_buffer.now c.args.right_buffer.now (g.L.Net.lawful c.args.left.now) (g.R.Net.lawful c.args.right.now)

pub slice_bounds-left_sheet-end : goal.slice_bounds-left_sheet-end
slice_bounds-left_sheet-end g c =
    let l = g.L.Net.model c.args.left.now in
    let r = g.R.Net.model c.args.right.now in
    let ok = both_accepted l r c.args.left_buffer.now c.args.right_buffer.now c.reduce_seated-on_left.ensures.says c.reduce_seated-on_right.ensures.says c.both_reduced.ensures c.in_ok-left_reduction.was in
    sheet_inside l c.args.left_buffer.now _ ok.0 _ c.reduce_seated-on_left.ensures.after

pub slice_bounds-right_sheet-end : goal.slice_bounds-right_sheet-end
slice_bounds-right_sheet-end g c =
    let l = g.L.Net.model c.args.left.now in
    let r = g.R.Net.model c.args.right.now in
    let ok = both_accepted l r c.args.left_buffer.now c.args.right_buffer.now c.reduce_seated-on_left.ensures.says c.reduce_seated-on_right.ensures.says c.both_reduced.ensures c.in_ok-left_reduction.was in
    sheet_inside r c.args.right_buffer.now _ ok.1 _ c.reduce_seated-on_right.ensures.after

pub returns-then-not-same_sheet-clause-says : goal.returns-then-not-same_sheet-clause-says
returns-then-not-same_sheet-clause-says g c =
    let l = g.L.Net.model c.args.left.now in
    let r = g.R.Net.model c.args.right.now in
    let ok = both_accepted l r c.args.left_buffer.now c.args.right_buffer.now c.reduce_seated-on_left.ensures.says c.reduce_seated-on_right.ensures.says c.both_reduced.ensures c.in_ok-left_reduction.was in
    let front = sheet_front l c.args.left_buffer.now _ ok.0 _ c.reduce_seated-on_left.ensures.after in
    let other = sheet_front r c.args.right_buffer.now _ ok.1 _ c.reduce_seated-on_right.ensures.after in
    let test = sym (c.same_sheet.ensures ∙ ap₂ bytes_eq front other) ∙ c.if-not-same_sheet.true in
    sym (open_reduced l r c.args.left_buffer.now c.args.right_buffer.now c.reduce_seated-on_left.ensures.says c.reduce_seated-on_right.ensures.says c.both_reduced.ensures c.in_ok-left_reduction.was ∙ cond-false _ _ _ test)

pub returns-then-not-same_sheet-clause-decides : goal.returns-then-not-same_sheet-clause-decides
returns-then-not-same_sheet-clause-decides g c =
    let l = g.L.Net.model c.args.left.now in
    let r = g.R.Net.model c.args.right.now in
    sheets_decide l r c.args.left_buffer.now c.args.right_buffer.now (g.L.Net.lawful c.args.left.now) (g.R.Net.lawful c.args.right.now)

pub between-requires-clause-left_seated : goal.between-requires-clause-left_seated
between-requires-clause-left_seated g c =
    let l = g.L.Net.model c.args.left.now in
    let r = g.R.Net.model c.args.right.now in
    let ok = both_accepted l r c.args.left_buffer.now c.args.right_buffer.now c.reduce_seated-on_left.ensures.says c.reduce_seated-on_right.ensures.says c.both_reduced.ensures c.in_ok-left_reduction.was in
    given_ok _ _ _ _ (c.reduce_seated-on_left.ensures.says ∙ ok.0) c.reduce_seated-on_left.ensures.seats

pub between-requires-clause-right_seated : goal.between-requires-clause-right_seated
between-requires-clause-right_seated g c =
    let l = g.L.Net.model c.args.left.now in
    let r = g.R.Net.model c.args.right.now in
    let ok = both_accepted l r c.args.left_buffer.now c.args.right_buffer.now c.reduce_seated-on_left.ensures.says c.reduce_seated-on_right.ensures.says c.both_reduced.ensures c.in_ok-left_reduction.was in
    given_ok _ _ _ _ (c.reduce_seated-on_right.ensures.says ∙ ok.1) c.reduce_seated-on_right.ensures.seats

pub between-requires-clause-one_sheet : goal.between-requires-clause-one_sheet
between-requires-clause-one_sheet g c =
    let l = g.L.Net.model c.args.left.now in
    let r = g.R.Net.model c.args.right.now in
    let ok = both_accepted l r c.args.left_buffer.now c.args.right_buffer.now c.reduce_seated-on_left.ensures.says c.reduce_seated-on_right.ensures.says c.both_reduced.ensures c.in_ok-left_reduction.was in
    let front = sheet_front l c.args.left_buffer.now _ ok.0 _ c.reduce_seated-on_left.ensures.after in
    let other = sheet_front r c.args.right_buffer.now _ ok.1 _ c.reduce_seated-on_right.ensures.after in
    let test = sym (c.same_sheet.ensures ∙ ap₂ bytes_eq front other) ∙ c.if-not-same_sheet.false in
    (bytes_eq-Decides _ _).0 test

pub returns-clause-says : goal.returns-clause-says
returns-clause-says g c =
    let l = g.L.Net.model c.args.left.now in
    let r = g.R.Net.model c.args.right.now in
    let ok = both_accepted l r c.args.left_buffer.now c.args.right_buffer.now c.reduce_seated-on_left.ensures.says c.reduce_seated-on_right.ensures.says c.both_reduced.ensures c.in_ok-left_reduction.was in
    let front = sheet_front l c.args.left_buffer.now _ ok.0 _ c.reduce_seated-on_left.ensures.after in
    let other = sheet_front r c.args.right_buffer.now _ ok.1 _ c.reduce_seated-on_right.ensures.after in
    let test = sym (c.same_sheet.ensures ∙ ap₂ bytes_eq front other) ∙ c.if-not-same_sheet.false in
    sym (open_reduced l r c.args.left_buffer.now c.args.right_buffer.now c.reduce_seated-on_left.ensures.says c.reduce_seated-on_right.ensures.says c.both_reduced.ensures c.in_ok-left_reduction.was ∙ cond-true _ _ _ test)

pub returns-clause-decides : goal.returns-clause-decides
returns-clause-decides g c =
    let l = g.L.Net.model c.args.left.now in
    let r = g.R.Net.model c.args.right.now in
    sheets_decide l r c.args.left_buffer.now c.args.right_buffer.now (g.L.Net.lawful c.args.left.now) (g.R.Net.lawful c.args.right.now)
