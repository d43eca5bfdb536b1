use Rattle.std.proofs.Common.{◌≡◌, ℕ, List, ◌++◌, length, drop, subst, MatchResult}
use Rattle.drawing.specs.Drawn.{drawn, drawn_lawful}
use Rattle.normal.proofs.Reducing.{ranked_sheet}
use Rattle.normal.proofs.reduce.write_ranked.Goals as goal

pub returns-clause-after : goal.returns-clause-after
returns-clause-after c = subst
    (λ (s : List ℕ). MatchResult c.write.result (λ n. (n ≡ length s) × (c.write.new.buffer ≡ s ++ drop n c.args.buffer.now)) (λ _. c.write.new.buffer ≡ c.args.buffer.now))
    (ranked_sheet (drawn c.args.net.now) (drawn_lawful c.args.net.now) c.requires.distinct c.args.ranking c.requires.ranked)
    c.write.ensures.after
