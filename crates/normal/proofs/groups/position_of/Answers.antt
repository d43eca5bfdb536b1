use Rattle.std.proofs.Common.{rules, tests, ◌≡◌, nat_eq, sym, ◌∙◌}
use Rattle.std.specs.List.{position}
use Rattle.std.proofs.lemmas.Iterator.{YieldsList-from_slice}
use Rattle.std.proofs.lemmas.Iterator.Search.{position_from_yields_List}
use Rattle.normal.proofs.Chains.{first_found, none_found}
use Rattle.normal.proofs.groups.position_of.Goals as goal

pub returns-in_err-position : goal.returns-in_err-position
returns-in_err-position c =
    let order = c.args.order.now in
    let e : c.position.result ≡ position (λ y. nat_eq y c.args.x) order = position_from_yields_List (λ y. nat_eq y c.args.x) _ _ c.position.result c.position.ensures.ran (YieldsList-from_slice order (cc)) (λ x b q k. search (rules, tests)) in
    let none = none_found (λ y. nat_eq y c.args.x) order (sym e ∙ c.in_err-position.was) in
    search (rules, none)

pub returns : goal.returns
returns c =
    let order = c.args.order.now in
    let e : c.position.result ≡ position (λ y. nat_eq y c.args.x) order = position_from_yields_List (λ y. nat_eq y c.args.x) _ _ c.position.result c.position.ensures.ran (YieldsList-from_slice order (cc)) (λ x b q k. search (rules, tests)) in
    first_found (λ y. nat_eq y c.args.x) order _ (sym e ∙ c.in_ok-position.was)
