-- Where the bags of a transition begin, in bits. Assumes nothing.
use Rattle.std.specs.Prelude.{ℕ, ◌+◌, ◌*◌}
use Rattle.net.specs.declared.bag.Bag.{Bag}
use Rattle.net.specs.declared.bag.Bag.TheVariants.{Cause, Effect}
use Rattle.format.specs.Sheets.{row_at, label_width, weight_width}

-- how many bits after its transition's label a bag begins, over n places
abbrev pub skip_of : Bag → ℕ → ℕ
skip_of Cause n = 0
skip_of Effect n = weight_width * n

-- the bit at which a bag of transition t begins
abbrev pub bag_at : Bag → ℕ → ℕ → ℕ
bag_at bag n t = row_at n t + label_width + skip_of bag n
