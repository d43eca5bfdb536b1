use Rattle.bisimulation.proofs.rounds_stand.Goals as goal
use Rattle.bisimulation.specs.Rounds.{final}
use Rattle.bisimulation.specs.Bisimulation.{Holds}
use Rattle.bisimulation.proofs.Equivalences.{rounds_equivalences, final_equivalences}
use Rattle.bisimulation.proofs.Rest.{rest_stable, rest_least, final_stable}
use Rattle.bisimulation.proofs.Largest.{final_congruence}
use Rattle.bisimulation.proofs.Coarsest.{final_contains}
use Rattle.bisimulation.proofs.Agreement.{rounds_agree, rest_same}
use Rattle.bisimulation.proofs.Exchange.{iterated_exchange, sub_bag}
use Rattle.bisimulation.proofs.Folded.{folded_lawful_lem}
use Rattle.bisimulation.proofs.Alike.{folded_alike_lem}
use Rattle.bisimulation.proofs.Correspond.{corresponding_alike, alike_corresponding}

pub returns : goal.returns
returns c =
    record {
      equivalences = rounds_equivalences;
      rests = rest_stable;
      least = rest_least;
      congruence = final_congruence;
      largest = final_contains;
      carried = λ m n place transition. rounds_agree m n (Holds place) (Holds transition);
      same_rest = λ m n a. rest_same m n (Holds a.0) (Holds a.1.0) a.1.1;
      corresponds = λ m n. (corresponding_alike m n, alike_corresponding m n);
      exchange = λ m. iterated_exchange m (final m) (final_equivalences m) (final_stable m);
      within = sub_bag;
      folded_lawful = folded_lawful_lem;
      folded_alike = folded_alike_lem;
    }
