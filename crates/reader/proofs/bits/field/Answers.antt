use Rattle.std.proofs.Common.{◌≡◌, ℕ, ◌+◌, ◌-◌, ◌*◌, ◌/◌, ◌%◌, ◌^◌, ◌≤◌, get_or, ap₂, ◌∙◌, arith}
use Rattle.std.proofs.Math.Nat.{pow-le-pow_right}
use Rattle.std.proofs.lemmas.Nat.{one_shl, mod_below, pow_pos}
use Rattle.reader.proofs.Windows.{from_two, from_three}
use Rattle.reader.proofs.bits.field.Goals as goal

pub returns-then-this-le8-clause-value : goal.returns-then-this-le8-clause-value
returns-then-this-le8-clause-value g c =
    let w = g.row.WIDTH in
    let bs = c.args.bytes.now in
    let at = c.args.at in
    let two : c.from.result * 256 + c.from-then-this-le8.result ≡ get_or bs (at / 8) 0 * 256 + get_or bs (at / 8 + 1) 0 = omega arith in
    ap₂ (λ (x k : ℕ). x / 2 ^ (16 - w - at % 8) % k) two (one_shl w 16 (omega arith))
    ∙ from_two bs (λ k. (c.type_inv.bytes k).fits) at w (omega arith) c.requires.inside

pub overflow_cast-result-4 : goal.overflow_cast-result-4
overflow_cast-result-4 g c =
    let w = g.row.WIDTH in
    let three = (c.from-2.result * 256 + c.from-3.result) * 256 + c.from-4.result in
    let few : 2 ^ w ≤ 2 ^ 16 = pow-le-pow_right (omega arith) c.requires.narrow in
    rw (one_shl w 32 (omega arith)) (omega (arith, mod_below (three / 2 ^ (24 - w - c.args.at % 8)) (2 ^ w) (pow_pos w)))

pub returns-clause-value : goal.returns-clause-value
returns-clause-value g c =
    let w = g.row.WIDTH in
    let bs = c.args.bytes.now in
    let at = c.args.at in
    let three : (c.from-2.result * 256 + c.from-3.result) * 256 + c.from-4.result ≡ (get_or bs (at / 8) 0 * 256 + get_or bs (at / 8 + 1) 0) * 256 + get_or bs (at / 8 + 2) 0 = omega arith in
    ap₂ (λ (x k : ℕ). x / 2 ^ (24 - w - at % 8) % k) three (one_shl w 32 (omega arith))
    ∙ from_three bs (λ k. (c.type_inv.bytes k).fits) at w c.requires.narrow c.requires.inside
