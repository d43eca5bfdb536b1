use Rattle.std.proofs.Common.{◌≡◌, ℕ, List, Ok, Err, Result, MatchResult, sym, ap, ◌∙◌, arith, rules}
use Rattle.format.specs.Sheets.{sheet_refusal, sheet_of, net_of, SheetOfNet}
use Rattle.format.proofs.Refusals.{lawful_sheet, unrefused}
use Rattle.format.proofs.Nets.{sheet_lawful}
use Rattle.format.proofs.Reading.{sheet_whole}
use Rattle.format.proofs.Writing.{sheet_taken}
use Rattle.reader.specs.Refusals.{refusal_of}
use Rattle.reader.specs.declared.refusal.SheetRefusal.{SheetRefusal}
use Rattle.reader.proofs.Numbers.{sheet_numbered}
use Rattle.reader.proofs.sheet.SheetReader.open.Goals as goal

-- what holds of the unrefused alone does not hold of the refused
refused : {X : Type 0} (r : Result X SheetRefusal) (bs : List ℕ) (P : Type 0) → refusal_of r ≡ sheet_refusal bs → (sheet_refusal bs ≡ 0 → P) → (P → sheet_refusal bs ≡ 0) → MatchResult r (λ _. P) (λ _. P → ⊥)
refused (Ok _) bs P e taken whole = taken (sym e)
refused (Err x) bs P e taken whole = λ h. omega (arith, sheet_numbered x, whole h)

of_net : (bs : List ℕ) → SheetOfNet bs → sheet_refusal bs ≡ 0
of_net bs s = ap sheet_refusal (sym s.1.1) ∙ sheet_taken s.0 s.1.0

pub returns-in_err-fields-clause-lawful : goal.returns-in_err-fields-clause-lawful
returns-in_err-fields-clause-lawful c = let bs = c.args.bytes.now in refused c.from_residual.result bs _ (search rules) (lawful_sheet bs) (unrefused bs)

pub returns-in_err-fields-clause-exact : goal.returns-in_err-fields-clause-exact
returns-in_err-fields-clause-exact c =
    let bs = c.args.bytes.now in
    refused c.from_residual.result bs _ (search rules) (λ z. (net_of bs, (sheet_lawful bs z, sheet_whole bs (λ i. (c.type_inv.bytes i).fits) z))) (of_net bs)

pub returns-clause-after : goal.returns-clause-after
returns-clause-after c =
    let bs = c.args.bytes.now in
    let same = c.in_ok-fields.ensures.whole in
    (ap net_of same, ap (λ (k : List ℕ). sheet_of (net_of k)) same ∙ sheet_whole bs (λ i. (c.type_inv.bytes i).fits) (sym c.in_ok-fields.ensures.refusal))

pub returns-clause-lawful : goal.returns-clause-lawful
returns-clause-lawful c = lawful_sheet c.args.bytes.now (sym c.in_ok-fields.ensures.refusal)

pub returns-clause-exact : goal.returns-clause-exact
returns-clause-exact c =
    let bs = c.args.bytes.now in
    let z = sym c.in_ok-fields.ensures.refusal in
    (net_of bs, (sheet_lawful bs z, sheet_whole bs (λ i. (c.type_inv.bytes i).fits) z))
