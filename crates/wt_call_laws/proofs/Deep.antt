-- What was changed in a node at any depth has a place.
use Rattle.std.proofs.Common.{◌≡◌, ℕ, Bool, true, false, Some, List, [], ◌∷◌, ◌++◌, refl, sym, subst, inl}
use Rattle.std.specs.Prelude.{if◌then◌else◌, slice_get}
use Rattle.wt_tree.specs.Kinds.{showing}
use Rattle.wt_tree.specs.Tree.{Tree, Trees, label, listed}
use Rattle.wt_checks.specs.Places.{Page, page_of}
use Rattle.wt_checks.specs.PutBack.{IsOneBody}
use Rattle.wt_checks.specs.Unmarked.{is_compared}
use Rattle.wt_difference.specs.Difference.{same_inside}
use Rattle.wt_difference.specs.Insides.{behind_inside, held, is_block_part}
use Rattle.wt_places.specs.declared.slot.Slot.{Slot}
use Rattle.wt_places.specs.Places.{along, begun, if_in_turn, inside_place, partner, places, places_in}
use Rattle.wt_places.specs.Turns.{turns}
use Rattle.wt_places.proofs.Walking.{places_out}
use Rattle.wt_call_laws.specs.Changed.{HasPlaceIn, IsAmong, LeadsTo, StaysChild, inside_of}
use Rattle.wt_call_laws.specs.Untouched.{IsWholePage}
use Rattle.wt_call_laws.proofs.Alone.{Around, Child, Has, Later, around, child, later, own_of, root_begins}
use Rattle.wt_call_laws.proofs.Standing.{Sound, sound}
use Rattle.wt_call_laws.proofs.Touching.{ComesAt, comes_at, in_front, in_rest}

-- the page's node of a child that stays in its turn
next_has : (page : Page) → Sound page → (t u : Tree) (i : ℕ) (w : Tree) → Has page t → StaysChild page t u i w → Has page (partner page w)
next_has page s t u i w has turn =
    let l : Later page (label t).id 0 w = later page (label t).id 0 (behind_inside u) i w turn.is turn.turn in
    let c : Child page t w (partner page w) = child page s t w has l.stays in
    c.itself

-- all its places are places of the node that holds it
own_there : (page : Page) → Sound page → (t u : Tree) (i : ℕ) (w : Tree) → Has page t → StaysChild page t u i w → is_block_part (label w).kind ≡ true
    → (x : Slot) → IsAmong x (places_in page (partner page w) w) → IsAmong x (places_in page t u)
own_there page s t u i w has turn k x h =
    let us : Trees = behind_inside u in
    let a : Around (partner page w) (own_of page w) (along page t false (begun t) (held t) us) =
    around page s t us (held t) (begun t) i w has turn.is turn.turn in
    let own : IsAmong x (own_of page w) = subst (λ (c : Bool). IsAmong x (if_in_turn c (places_in page (partner page w) w))) (sym k) h in
    subst (IsAmong x) (sym (places_out page t u))
    (in_rest x (inside_place t u) (along page t false (begun t) (held t) us)
    (subst (IsAmong x) (sym a.is) (in_rest x a.before (own_of page w ++ a.after) (in_front x (own_of page w) a.after own))))

-- where the way leads there is a node of the page, and its places are places of the node where the way begins
record Reaches (page : Page) (t u p v : Tree) : Type 0 where
  has : Has page p
  there : (x : Slot) → IsAmong x (places_in page p v) → IsAmong x (places_in page t u)

reaches : (page : Page) → Sound page → (way : List ℕ) (t u p v : Tree) → Has page t → LeadsTo page t u way p v → Reaches page t u p v
reaches page s [] t u p v has at = record {
  has = subst (Has page) at.0 has;
  there = λ x h. subst (λ (r : Tree). IsAmong x (places_in page r u)) (sym at.0) (subst (λ (r : Tree). IsAmong x (places_in page p r)) (sym at.1) h);
}
reaches page s (i ∷ way) t u p v has at =
    let w : Tree = at.0 in
    let turn : StaysChild page t u i w = at.1 in
    let r : Reaches page (partner page w) w p v = reaches page s way (partner page w) w p v (next_has page s t u i w has turn) at.3 in
    record { has = r.has; there = λ x h. own_there page s t u i w has turn at.2 x (r.there x h) }

from_root : (t u : Tree) → IsWholePage t → IsOneBody u → (way : List ℕ) (p v : Tree) → LeadsTo (page_of t) t u way p v → Reaches (page_of t) t u p v
from_root t u w o way p v at = reaches (page_of t) (sound t w) way t u p v (root_begins t u w o).has at

-- ---- of a page

pub inside_there : (t u : Tree) → IsWholePage t → IsOneBody u → (way : List ℕ) (p v : Tree) → LeadsTo (page_of t) t u way p v → same_inside p v ≡ false
    → IsAmong (inside_of p) (places t u)
inside_there t u w o way p v at d =
    let page : Page = page_of t in
    let r : Reaches page t u p v = from_root t u w o way p v at in
    let x : Slot = inside_of p in
    let first : IsAmong x (inside_place p v) = subst (λ (c : Bool). IsAmong x (if c then [] else x ∷ [])) (sym d) (inl refl) in
    r.there x (subst (IsAmong x) (sym (places_out page p v)) (in_front x (inside_place p v) (along page p false (begun p) (held p) (behind_inside v)) first))

pub come_there : (t u : Tree) → IsWholePage t → IsOneBody u → (way : List ℕ) (p v : Tree) → LeadsTo (page_of t) t u way p v → (i : ℕ) (c : Tree)
    → slice_get (listed (behind_inside v)) i ≡ Some c → slice_get (turns (page_of t) (label p).id 0 (behind_inside v)) i ≡ Some false
    → is_compared (showing (label c).kind) ≡ true → HasPlaceIn (page_of t) p v i (places t u)
come_there t u w o way p v at i c e f shows =
    let page : Page = page_of t in
    let r : Reaches page t u p v = from_root t u w o way p v at in
    let us : Trees = behind_inside v in
    let k : ComesAt page (label p).id 0 us i (along page p false (begun p) (held p) us) =
    comes_at page (sound t w) us (held p) p (begun p) i c r.has e f shows in
    record {
      place = k.place;
      is =
          r.there k.place
          (subst (IsAmong k.place) (sym (places_out page p v)) (in_rest k.place (inside_place p v) (along page p false (begun p) (held p) us) k.is));
      behind = λ j x lt h. k.behind j x lt (h.is, h.turn);
      before = λ j x lt h. k.before j x lt (h.is, h.turn);
    }
