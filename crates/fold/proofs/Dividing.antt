-- A grouping that divides a net stands for the groups that it divides by.
use Rattle.std.proofs.Common.{◌≡◌, ℕ, ◌<◌, Bool, ◌∙◌}
use Rattle.net.specs.Model.{Model}
use Rattle.bisimulation.specs.Groups.{Groups, Equivalence, Equivalences}
use Rattle.bisimulation.proofs.Ranges.{SameGroups, lowest_like, groups_like}
use Rattle.fold.specs.declared.division.Division.{Division}
use Rattle.fold.specs.declared.grouping.Grouping.{Grouping}
use Rattle.fold.specs.Together.{together}
use Rattle.fold.specs.Grouped.{groups_of}
use Rattle.fold.specs.Divides.{Divided, Divides}
use Rattle.fold.proofs.Formed.{leaders_tell}

module _ {K : _} {MOST : _} (n : ℕ) (d : Division K MOST) where
  -- a division by an equivalence keeps together what the equivalence does
  divided_same : (same : ℕ → ℕ → Bool) → Equivalence n same → Divided n same d → (p q : ℕ) → p < n → q < n → together d.leaders p q ≡ same p q
  divided_same same E h = leaders_tell n same E d.leaders h.leaders

  -- and divides as any test that agrees below n
  divided_like : (old new : ℕ → ℕ → Bool) → ((p q : ℕ) → p < n → q < n → old p q ≡ new p q) → Divided n old d → Divided n new d
  divided_like old new e h = record {
    members = h.members;
    number = h.number ∙ groups_like n old new e;
    leaders = λ p l. h.leaders p l ∙ lowest_like n old new e p l;
  }

module _ (m : Model) where
  abbrev pub DividesNet : Groups → Grouping → Type 0
  DividesNet r g = Divides m.places m.transitions r g

  -- a grouping that divides as r does stands for r
  pub divides_same : (r : Groups) (g : Grouping) → Equivalences m r → DividesNet r g → SameGroups m (groups_of g) r
  divides_same r g E d = record {
    on_places = divided_same m.places g.places r.same_place E.on_places d.on_places;
    on_transitions = divided_same m.transitions g.transitions r.same_transition E.on_transitions d.on_transitions;
  }

  -- and as any groups that agree with r in range
  pub divides_like : (r s : Groups) (g : Grouping) → SameGroups m r s → DividesNet r g → DividesNet s g
  divides_like r s g h d = record {
    on_places = divided_like m.places g.places r.same_place s.same_place h.on_places d.on_places;
    on_transitions = divided_like m.transitions g.transitions r.same_transition s.same_transition h.on_transitions d.on_transitions;
  }
