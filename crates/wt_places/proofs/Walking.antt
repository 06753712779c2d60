-- The walk along the edited children of a node, child by child.
use Rattle.std.proofs.Common.{◌≡◌, ◌≤◌, ◌<◌, ℕ, ◌+◌, ◌-◌, not, Bool, true, false, List, [], ◌∷◌, ◌++◌, length, take, drop, get_or, refl, sym, ap, ◌∙◌, arith, append_assoc, ◌||◌}
use Rattle.std.specs.Prelude.{if◌then◌else◌}
use Rattle.std.proofs.lemmas.List.{drop_all, take_all, drop-drop, length-drop}
use Rattle.wt_tree.specs.declared.node.Node.{Node, out-Node}
use Rattle.wt_tree.specs.Tree.{Tree, tree, Trees, none, more, label}
use Rattle.wt_tree.specs.View.{view, views}
use Rattle.wt_tree.proofs.Views.{view_out}
use Rattle.wt_checks.specs.Places.{Page}
use Rattle.wt_checks.proofs.Firsts.{if_true, if_false}
use Rattle.wt_difference.specs.Insides.{behind_inside, ends_inside, from_blocks, has_inside, held, is_block_part}
use Rattle.wt_difference.specs.declared.insides.Child.{Child}
use Rattle.wt_difference.specs.Views.{child_views}
use Rattle.wt_places.specs.declared.reached.Reached.{Reached}
use Rattle.wt_places.specs.declared.slot.Slot.{Slot}
use Rattle.wt_places.specs.Places.{along, begun, gap, gap_before, if_in_turn, inside_place, inside_stop, partner, places_in, arrived, rest_behind, some_count}
use Rattle.wt_places.specs.Turns.{is_in_turn, turns}
use Rattle.wt_places.proofs.Passing.{from_place}

pub ranges_seen : (n : Node) → (label (view n)).ranges ≡ (out-Node n).ranges
ranges_seen n = rw (view_out n)

-- ---- one child

abbrev along_by : Page → Tree → Reached → Trees → Tree → Trees → Bool → List Slot
along_by page t r ts u us b =
    if_in_turn b (gap_before r ts (partner page u) u ++ if_in_turn (is_block_part (label u).kind) (places_in page (partner page u) u))
    ++ along page t false (arrived b (partner page u) r u) (rest_behind b u ts) us

by_turn : (page : Page) (t : Tree) (r : Reached) (ts : Trees) (u : Tree) (us : Trees) (b : Bool)
    → is_in_turn page (label t).id r.number u us ≡ b → along page t false r ts (more u us) ≡ along_by page t r ts u us b
by_turn page t r ts u us b turn = ap (along_by page t r ts u us) turn

pub turn_taken : (page : Page) (t : Tree) (r s : Reached) (ts rest : Trees) (u : Tree) (us : Trees) (gs ws : List Slot)
    → is_in_turn page (label t).id r.number u us ≡ true → gs ≡ gap_before r ts (partner page u) u
    → ws ≡ if_in_turn (is_block_part (label u).kind) (places_in page (partner page u) u) → s ≡ arrived true (partner page u) r u
    → rest ≡ rest_behind true u ts → gs ++ (ws ++ along page t false s rest us) ≡ along page t false r ts (more u us)
turn_taken page t r s ts rest u us gs ws turn g w to behind =
    let gap_slots : List Slot = gap_before r ts (partner page u) u in
    let within : List Slot = if_in_turn (is_block_part (label u).kind) (places_in page (partner page u) u) in
    let next : Reached = arrived true (partner page u) r u in
    ap (λ (x : List Slot). x ++ (ws ++ along page t false s rest us)) g
    ∙ ap (λ (x : List Slot). gap_slots ++ (x ++ along page t false s rest us)) w
    ∙ ap (λ (x : Reached). gap_slots ++ (within ++ along page t false x rest us)) to
    ∙ ap (λ (x : Trees). gap_slots ++ (within ++ along page t false next x us)) behind
    ∙ sym (append_assoc gap_slots within (along page t false next (rest_behind true u ts) us))
    ∙ sym (by_turn page t r ts u us true turn)

pub turn_passed : (page : Page) (t : Tree) (r s : Reached) (ts : Trees) (u : Tree) (us : Trees)
    → is_in_turn page (label t).id r.number u us ≡ false → s ≡ arrived false (partner page u) r u
    → along page t false s ts us ≡ along page t false r ts (more u us)
turn_passed page t r s ts u us turn to = ap (λ (x : Reached). along page t false x ts us) to ∙ sym (by_turn page t r ts u us false turn)

-- ---- all of them

rest_of : {X : Type 0} (xs : List X) (from : ℕ) → from ≤ length xs → take (length xs - from) (drop from xs) ≡ drop from xs
rest_of xs from f =
    let width : length (drop from xs) ≡ length xs - from = length-drop from xs in
    take_all (length xs - from) (drop from xs) (omega (arith, width))

-- `bs` says of each edited child from the first one on whether it stays in its turn
pub record HasCome (page : Page) (t : Tree) (cs : List Child) (ns : List Node) (first : ℕ) (bs : List Bool) (r : Reached) (from i : ℕ)
    (xs zs : List Slot) : Type 0 where
  pub fits : from ≤ length cs
  pub begins : first ≤ i
  pub turned : drop (i - first) bs ≡ turns page (label t).id r.number (views (drop i ns))
  pub comes : xs ++ along page t false r (child_views (drop from cs)) (views (drop i ns)) ≡ zs

abbrev first_turn : List Bool → Bool
first_turn [] = false
first_turn (b ∷ bs) = b

abbrev later_turns : List Bool → List Bool
later_turns [] = []
later_turns (b ∷ bs) = bs

pub step_taken : (page : Page) (t : Tree) (cs : List Child) (ns : List Node) (first : ℕ) (bs : List Bool) (r s : Reached) (from n i : ℕ) (u : Node)
    (b : Bool) (xs ys zs gs ws : List Slot)
    → HasCome page t cs ns first bs r from i xs zs → n ≤ length (take (length cs - from) (drop from cs)) → i < length ns → length bs ≡ length ns - first
    → u ≡ get_or ns i u → b ≡ get_or bs (i - first) b → ys ≡ (xs ++ gs) ++ ws → s.number ≡ (if b then (label (view u)).id else r.number)
    → ((us : Trees) → b ≡ is_in_turn page (label t).id r.number (view u) us
    → gs ++ (ws ++ along page t false s (child_views (drop n (take (length cs - from) (drop from cs)))) us)
    ≡ along page t false r (child_views (take (length cs - from) (drop from cs))) (more (view u) us))
    → HasCome page t cs ns first bs s (from + n) (i + 1) ys zs
step_taken page t cs ns first bs r s from n i u b xs ys zs gs ws inv l lt long is turn_is e number_is goes =
    let f = inv.fits in
    let rest = rest_of cs from f in
    let width : length (drop from cs) ≡ length cs - from = length-drop from cs in
    let same : length (take (length cs - from) (drop from cs)) ≡ length (drop from cs) = ap length rest in
    let later : Trees = views (drop (i + 1) ns) in
    let on : List Slot = along page t false s (child_views (drop (from + n) cs)) later in
    let within : from + n ≤ length cs = omega (arith, f, l, width, same) in
    let here : drop i ns ≡ u ∷ drop (i + 1) ns = from_place ns i u lt is in
    let there : drop (i - first) bs ≡ b ∷ drop (i - first + 1) bs = from_place bs (i - first) b (omega (arith, lt, long, inv.begins)) turn_is in
    let next : i - first + 1 ≡ i + 1 - first = omega (arith, inv.begins) in
    let both : b ∷ drop (i - first + 1) bs ≡ turns page (label t).id r.number (more (view u) later) =
    sym there ∙ inv.turned ∙ ap (λ (ms : List Node). turns page (label t).id r.number (views ms)) here in
    let turn : b ≡ is_in_turn page (label t).id r.number (view u) later = ap first_turn both in
    record {
      fits = within;
      begins = omega (arith, inv.begins);
      turned =
          ap (λ (k : ℕ). drop k bs) (sym next) ∙ ap later_turns both
          ∙ ap (λ (c : Bool). turns page (label t).id (if c then (label (view u)).id else r.number) later) (sym turn)
          ∙ ap (λ (k : ℕ). turns page (label t).id k later) (sym number_is);
      comes =
          ap (λ (x : List Slot). x ++ on) e ∙ append_assoc (xs ++ gs) ws on ∙ append_assoc xs gs (ws ++ on)
          ∙ ap (λ (ds : List Child). xs ++ (gs ++ (ws ++ along page t false s (child_views ds) later))) (sym (drop-drop n from cs) ∙ ap (drop n) (sym rest))
          ∙ ap (λ (x : List Slot). xs ++ x) (goes later turn)
          ∙ ap (λ (ds : List Child). xs ++ along page t false r (child_views ds) (more (view u) later)) rest
          ∙ sym (ap (λ (ms : List Node). xs ++ along page t false r (child_views (drop from cs)) (views ms)) here)
          ∙ inv.comes;
    }

pub all_taken : (page : Page) (t : Tree) (cs : List Child) (ns : List Node) (first : ℕ) (bs : List Bool) (r : Reached) (from i stop : ℕ)
    (xs ys zs : List Slot)
    → HasCome page t cs ns first bs r from i xs zs → length ns ≤ i → stop ≡ inside_stop (label t).ranges
    → ys ≡ xs ++ gap (r.came || some_count (child_views (take (length cs - from) (drop from cs)))) r.end stop → ys ≡ zs
all_taken page t cs ns first bs r from i stop xs ys zs inv l at e =
    e ∙ ap (λ (ds : List Child). xs ++ gap (r.came || some_count (child_views ds)) r.end stop) (rest_of cs from inv.fits)
    ∙ ap (λ (k : ℕ). xs ++ gap (r.came || some_count (child_views (drop from cs))) r.end k) at
    ∙ sym (ap (λ (ms : List Node). xs ++ along page t false r (child_views (drop from cs)) (views ms)) (drop_all i ns l)) ∙ inv.comes

-- ---- behind the inside

-- while the inside goes on, nothing is in its turn
along_behind : (page : Page) (t : Tree) (r : Reached) (ts us : Trees) → along page t true r ts us ≡ along page t false r ts (from_blocks us)
along_behind page t r ts none = refl
along_behind page t r ts (more u us) = by (ends_inside u) refl (along_behind page t r ts us)
  where
    by : (b : Bool) → ends_inside u ≡ b → along page t true r ts us ≡ along page t false r ts (from_blocks us)
        → along page t true r ts (more u us) ≡ along page t false r ts (from_blocks (more u us))
    by true e rest =
        if_false (not (ends_inside u)) (along page t true r ts us) (along page t false r ts (more u us)) (ap not e)
        ∙ ap (along page t false r ts) (sym (if_true (ends_inside u) (more u us) (from_blocks us) e))
    by false e rest =
        if_true (not (ends_inside u)) (along page t true r ts us) (along page t false r ts (more u us)) (ap not e)
        ∙ rest ∙ ap (along page t false r ts) (sym (if_false (ends_inside u) (more u us) (from_blocks us) e))

along_by_inside : (page : Page) (t : Tree) (r : Reached) (ts us : Trees) (b : Bool)
    → along page t b r ts us ≡ along page t false r ts (if b then from_blocks us else us)
along_by_inside page t r ts us true = along_behind page t r ts us
along_by_inside page t r ts us false = refl

-- a node's own inside, and what stands behind it
pub places_out : (page : Page) (t u : Tree)
    → places_in page t u ≡ inside_place t u ++ along page t false (begun t) (held t) (behind_inside u)
places_out page t (tree m us) = ap (λ (x : List Slot). inside_place t (tree m us) ++ x) (along_by_inside page t (begun t) (held t) us (has_inside m.kind))

pub places_pushed : (page : Page) (t : Tree) (n : Node) (cs : List Child) (xs ys zs : List Slot) → child_views cs ≡ held t
    → ys ≡ xs ++ inside_place t (view n) → zs ≡ ys ++ along page t false (begun t) (child_views cs) (behind_inside (view n))
    → zs ≡ xs ++ places_in page t (view n)
places_pushed page t n cs xs ys zs h e f =
    let on : List Slot = along page t false (begun t) (held t) (behind_inside (view n)) in
    f ∙ ap (λ (ts : Trees). ys ++ along page t false (begun t) ts (behind_inside (view n))) h
    ∙ ap (λ (x : List Slot). x ++ on) e ∙ append_assoc xs (inside_place t (view n)) on
    ∙ ap (λ (x : List Slot). xs ++ x) (sym (places_out page t (view n)))
