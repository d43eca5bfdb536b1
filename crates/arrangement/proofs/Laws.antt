-- The law of arrangements, put together.
use Rattle.std.proofs.Common.{◌≡◌, sym, subst}
use Rattle.finite.proofs.Given.{given}
use Rattle.net.specs.Model.{Model, Lawful}
use Rattle.bisimulation.specs.Folding.{folded}
use Rattle.bisimulation.specs.Bisimulation.{Alike}
use Rattle.bisimulation.proofs.Folded.{folded_lawful_lem}
use Rattle.format.specs.Sheets.{LawfulSheet, net_of}
use Rattle.format.proofs.Nets.{lawful_net}
use Rattle.format.proofs.Writing.{sheet_reads_lawful}
use Rattle.arrangement.specs.EndSheets.{Least, end_sheet}
use Rattle.arrangement.specs.Seats.{Seated, Sits}
use Rattle.arrangement.specs.Laws.{ArrangementLaw}
use Rattle.arrangement.proofs.Lawfulness.{arranged_lawful}
use Rattle.arrangement.proofs.Counting.{count_carried}
use Rattle.arrangement.proofs.Canonical.{least_one, least_reached, least_carried}
use Rattle.arrangement.proofs.Enumeration.{enumerated}
use Rattle.arrangement.proofs.Folds.{folded_distinct, folded_isomorphic}
use Rattle.arrangement.proofs.Alikeness.{sits_alike, by_self, sits_itself}
use Rattle.arrangement.proofs.Seating.{seated, seated_along, seating_along}

-- the end sheet is the least sheet of an arrangement of the folded net
end_least : (m : Model) → Lawful m → Least (folded m) (end_sheet m)
end_least m w = least_reached (folded m) (folded_lawful_lem m w) (folded_distinct m)

-- and so the sheet of a lawful net
end_lawful : (m : Model) → Lawful m → LawfulSheet (end_sheet m)
end_lawful m w =
    given (end_least m w) λ h.
    subst LawfulSheet h.reached (sheet_reads_lawful _ (arranged_lawful (folded m) h.arrangement (folded_lawful_lem m w) (folded_distinct m) h.arranges))

-- the net, with its seats along the arrangement of the end sheet
abbrev end_seated : (m : Model) → Lawful m → Seated
end_seated m w = seated_along m (end_least m w).arrangement

-- so seated, the net sits on the net of its end sheet, and is alike to it
end_sits : (m : Model) (w : Lawful m) → Sits (net_of (end_sheet m)) (end_seated m w)
end_sits m w = seated (end_seated m w) w (seating_along m _ (end_least m w).arranges (end_least m w).reached)

end_alike : (m : Model) → Lawful m → Alike m (net_of (end_sheet m))
end_alike m w = sits_alike (net_of (end_sheet m)) (end_seated m w) (by_self (net_of (end_sheet m))) (end_sits m w) (sits_itself (net_of (end_sheet m)))

-- alike nets have one end sheet
alike_ends : (l r : Model) → Lawful l → Lawful r → Alike l r → end_sheet l ≡ end_sheet r
alike_ends l r v w a =
    least_carried (folded l) (folded r) (folded_lawful_lem l v) (folded_lawful_lem r w) (folded_distinct l) (folded_isomorphic l r a)

-- nets with one end sheet sit on one net
ends_alike : (l r : Model) → Lawful l → Lawful r → end_sheet l ≡ end_sheet r → Alike l r
ends_alike l r v w e =
    sits_alike (net_of (end_sheet r)) (end_seated l v) (end_seated r w) (subst (λ x. Sits (net_of x) (end_seated l v)) e (end_sits l v)) (end_sits r w)

-- what is proved of arrangements, end sheets and seats
pub arrangement_law : ArrangementLaw
arrangement_law =
    record {
      enumerated = enumerated;
      one = least_one;
      distinct = folded_distinct;
      normal =
          λ m w.
          record {
            least = end_least m w;
            lawful = end_lawful m w;
            alike = end_alike m w;
            itself = sym (alike_ends m (net_of (end_sheet m)) w (lawful_net (end_sheet m) (end_lawful m w)) (end_alike m w));
          };
      decides =
          λ l r v w.
          record {
            sheets = (ends_alike l r v w, alike_ends l r v w);
            counts = λ a. count_carried (folded l) (folded r) (folded_isomorphic l r a);
          };
      seated = seated;
    }
