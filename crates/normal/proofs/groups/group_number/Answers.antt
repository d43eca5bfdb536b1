use Rattle.std.proofs.Common.{rules, tests, ℕ, ◌∙◌, nat_eq, refl, arith}
use Rattle.std.proofs.lemmas.Iterator.{YieldsList-from_range}
use Rattle.std.proofs.lemmas.Iterator.Consumers.{YieldsList-at, YieldsList-from_filter, count_from_yields_List}
use Rattle.finite.proofs.Counts.{count_most}
use Rattle.arrangement.specs.Arrangements.{at}
use Rattle.normal.proofs.Chains.{count_range}
use Rattle.normal.proofs.groups.group_number.Goals as goal

pub returns : goal.returns
returns c =
    let leader = c.args.leader in
    let leads = λ (q : ℕ). nat_eq (at c.args.leaders.now q) q in
    let e = count_from_yields_List _ _ c.count.ensures.ran (YieldsList-from_filter _ leads (YieldsList-at c.filter.ensures.source (YieldsList-from_range 0 leader leader refl (omega arith))) c.filter.ensures.closure (λ x r q k. search (rules, tests))) in
    omega (arith, e ∙ count_range leads leader, count_most leader leads)
