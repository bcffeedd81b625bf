-- The map that is kept for a name of a log is the one that the name has.
use Rattle.std.proofs.Common.{◌≡◌, sym, Some, ℕ, Bool, true, false, cond, List, subst, refl}
use Rattle.smap_system.specs.Held.{Held}
use Rattle.smap_map_choice.specs.declared.picks.Found.{Found}
use Rattle.smap_map_choice.specs.declared.picks.Found.TheVariants.{Given, ByEnd, Unclear, Missing}
use Rattle.smap_record.specs.Record.{ReadMap}
use Rattle.smap_map_finder.proofs.ChoiceLemmas.{one_of}
use Rattle.smap_map_finder.specs.Choice.{IsChoice, IsMapOf, IsOpenedFor, IsPicked, may_end_alike, within_ends}
use Rattle.smap_map_finder.specs.ChosenView.{AreChosen, Choices, IsFor, IsServedBy, IsTried, Serves, map_in}
use Rattle.smap_map_finder.specs.declared.chosen.Opening.{Opening}
use Rattle.smap_map_files.specs.declared.wanted.Wanted.{Wanted}

none_given : (t : Bool) (found : Found) (i : ℕ) → Given i ≡ cond t found Missing → found ≡ Given i
none_given true found i e = sym e
none_given false found i e = absurd cc

none_ended : (t : Bool) (found : Found) (i : ℕ) → ByEnd i ≡ cond t found Missing → found ≡ ByEnd i
none_ended true found i e = sym e
none_ended false found i e = absurd cc

within_given : (name : List ℕ) (in_frames : Bool) (choice : Found) (i : ℕ)
    → Given i ≡ within_ends name in_frames choice → choice ≡ Given i
within_given name in_frames (Given j) i e = sym e
within_given name in_frames (ByEnd j) i e = none_given (may_end_alike name in_frames) (ByEnd j) i e
within_given name in_frames (Unclear j k) i e = none_given (may_end_alike name in_frames) (Unclear j k) i e
within_given name in_frames Missing i e = sym e

within_ended : (name : List ℕ) (in_frames : Bool) (choice : Found) (i : ℕ)
    → ByEnd i ≡ within_ends name in_frames choice → choice ≡ ByEnd i
within_ended name in_frames (Given j) i e = sym e
within_ended name in_frames (ByEnd j) i e = none_ended (may_end_alike name in_frames) (ByEnd j) i e
within_ended name in_frames (Unclear j k) i e = none_ended (may_end_alike name in_frames) (Unclear j k) i e
within_ended name in_frames Missing i e = sym e

given_choice : (held : Held) (w : Wanted) (in_frames : Bool) (name : List ℕ) (i : ℕ)
    → IsPicked held w in_frames name (Given i) → IsChoice held w name (Given i)
given_choice held w in_frames name i p =
    subst (IsChoice held w name) (within_given name in_frames p.choice i p.found_is) p.is_choice

end_choice : (held : Held) (w : Wanted) (in_frames : Bool) (name : List ℕ) (i : ℕ)
    → IsPicked held w in_frames name (ByEnd i) → IsChoice held w name (ByEnd i)
end_choice held w in_frames name i p =
    subst (IsChoice held w name) (within_ended name in_frames p.choice i p.found_is) p.is_choice

-- one that was opened for a name serves another
served_map : (held : Held) (w : Wanted) (in_frames : Bool) (opened : List ℕ) (opened_for : Found)
    (name : List ℕ)
    (found : Found) (m : ReadMap) → Serves opened opened_for name found → IsPicked held w in_frames name found
    → IsOpenedFor held w opened opened_for m → IsMapOf held w name m
served_map held w in_frames opened (Given i) name (Given j) m s p o =
    let own = subst (λ (k : ℕ). IsOpenedFor held w opened (Given k) m) s o in record {
      found = Given j;
      is_choice = given_choice held w in_frames name j p;
      other = name;
      alike = refl;
      opened = record {
        place = own.place;
        is_place = own.is_place;
        first = own.first;
        opened = own.opened;
        followed = own.followed;
      };
    }
served_map held w in_frames opened (ByEnd i) name (ByEnd j) m s p o = record {
  found = ByEnd j;
  is_choice = end_choice held w in_frames name j p;
  other = opened;
  alike = s.1;
  opened = subst (λ (k : ℕ). IsOpenedFor held w opened (ByEnd k) m) s.0 o;
}
served_map held w in_frames opened (Given i) name (ByEnd j) m s p o = elim s [ ]
served_map held w in_frames opened (Given i) name (Unclear j _) m s p o = elim s [ ]
served_map held w in_frames opened (Given i) name Missing m s p o = elim s [ ]
served_map held w in_frames opened (ByEnd i) name (Given j) m s p o = elim s [ ]
served_map held w in_frames opened (ByEnd i) name (Unclear j _) m s p o = elim s [ ]
served_map held w in_frames opened (ByEnd i) name Missing m s p o = elim s [ ]
served_map held w in_frames opened (Unclear i _) name (Given j) m s p o = elim s [ ]
served_map held w in_frames opened (Unclear i _) name (ByEnd j) m s p o = elim s [ ]
served_map held w in_frames opened (Unclear i _) name (Unclear j _) m s p o = elim s [ ]
served_map held w in_frames opened (Unclear i _) name Missing m s p o = elim s [ ]
served_map held w in_frames opened Missing name (Given j) m s p o = elim s [ ]
served_map held w in_frames opened Missing name (ByEnd j) m s p o = elim s [ ]
served_map held w in_frames opened Missing name (Unclear j _) m s p o = elim s [ ]
served_map held w in_frames opened Missing name Missing m s p o = elim s [ ]

-- the map of an opening that serves a name
pub opened_map : (held : Held) (w : Wanted) (in_frames : Bool) (c : Choices) (number : ℕ) (name : List ℕ)
    (found : Found) (o : Opening) (m : ReadMap) → AreChosen held w c → IsPicked held w in_frames name found
    → IsServedBy c number name found o → map_in o ≡ Some m → IsMapOf held w name m
opened_map held w in_frames c number name found o m chosen picked served is =
    let tried = one_of (IsFor held w c.worst) c.openings o number chosen.openings served.0 in
    served_map held w in_frames o.name.items o.found name found m served.1 picked
    (subst (IsTried held w c.worst o.name.items o.found) is tried)
