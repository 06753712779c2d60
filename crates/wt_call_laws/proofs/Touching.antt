-- Where something was changed there is a place.
use Rattle.std.proofs.Common.{◌≡◌, ◌≤◌, ◌<◌, ℕ, zero, suc, Bool, true, false, Some, List, [], ◌∷◌, ◌++◌, refl, sym, ap, ap₂, ◌∙◌, subst, inl, inr, arith, true≢false}
use Rattle.std.specs.Prelude.{◌||◌, if◌then◌else◌, slice_get}
use Rattle.std.specs.List.{AllByRecursion}
use Rattle.wt_tree.specs.Kinds.{showing}
use Rattle.wt_tree.specs.Tree.{Tree, Trees, none, more, label, listed}
use Rattle.wt_checks.specs.Kept.{children}
use Rattle.wt_checks.specs.Places.{Page, page_of}
use Rattle.wt_checks.specs.PutBack.{IsOneBody}
use Rattle.wt_checks.specs.Unmarked.{is_compared}
use Rattle.wt_difference.specs.Difference.{same_inside}
use Rattle.wt_difference.specs.Insides.{behind_inside, held, is_block_part}
use Rattle.wt_places.specs.declared.reached.Reached.{Reached}
use Rattle.wt_places.specs.declared.slot.Slot.{Slot}
use Rattle.wt_places.specs.Places.{along, arrived, before_number, begun, gap, gap_before, gap_end, if_in_turn, inside_place, inside_stop, partner, places, places_in, rest_behind, slot, some_count}
use Rattle.wt_places.specs.Turns.{is_in_turn, turns}
use Rattle.wt_places.proofs.Walking.{places_out}
use Rattle.wt_call_laws.specs.Changed.{HasPlaceAt, IsAmong, StaysBlock, inside_of}
use Rattle.wt_call_laws.specs.Untouched.{IsWholePage}
use Rattle.wt_call_laws.proofs.Alone.{Around, Child, Has, Later, along_by, along_within, around, body_behind, child, child_after, first_is, later, own_of, partner_of, root_begins}
use Rattle.wt_call_laws.proofs.Choosing.{InTurn, in_turn}
use Rattle.wt_call_laws.proofs.Fitting.{end_at, start_at}
use Rattle.wt_call_laws.proofs.Standing.{Sound, root_number, sound}

-- ---- one of several places

pub in_front : (s : Slot) (xs ys : List Slot) → IsAmong s xs → IsAmong s (xs ++ ys)
in_front s [] ys h = absurd h
in_front s (x ∷ xs) ys (inl e) = inl e
in_front s (x ∷ xs) ys (inr h) = inr (in_front s xs ys h)

pub in_rest : (s : Slot) (xs ys : List Slot) → IsAmong s ys → IsAmong s (xs ++ ys)
in_rest s [] ys h = h
in_rest s (x ∷ xs) ys h = inr (in_rest s xs ys h)

of_all : (P : Slot → Type 0) (s : Slot) (xs : List Slot) → AllByRecursion P xs → IsAmong s xs → P s
of_all P s [] h a = absurd a
of_all P s (x ∷ xs) h (inl e) = subst P (sym e) h.0
of_all P s (x ∷ xs) h (inr a) = of_all P s xs h.1 a

pub gap_there : (b : Bool) (x y : ℕ) → b ≡ true → IsAmong (slot x y) (gap b x y)
gap_there true x y e = inl refl
gap_there false x y e = absurd (true≢false (sym e))

either_came : (a b : Bool) → a ≡ true → (a || b) ≡ true
either_came true b e = refl
either_came false b e = absurd (true≢false (sym e))

came_now : (a b : Bool) → b ≡ true → (a || b) ≡ true
came_now true b e = refl
came_now false b e = e

-- ---- where something has come

abbrev pub InTurnAt : Page → ℕ → ℕ → Trees → ℕ → Tree → Type 0
InTurnAt page holder n us j w = (slice_get (listed us) j ≡ Some w) × (slice_get (turns page holder n us) j ≡ Some true)

-- a place that begins here, and ends before all that stay
record Comes (page : Page) (holder n : ℕ) (us : Trees) (from : ℕ) (ss : List Slot) : Type 0 where
  place : Slot
  is : IsAmong place ss
  start : place.start ≡ from
  before : (j : ℕ) (w : Tree) → InTurnAt page holder n us j w → place.end ≤ gap_end (partner page w)

gap_first : (page : Page) → Sound page → (t u : Tree) (us : Trees) (n : ℕ) → Has page t → InTurn page (label t).id n u us → (j : ℕ) (w : Tree)
    → slice_get (listed (more u us)) j ≡ Some w → slice_get (true ∷ turns page (label t).id (label u).id us) j ≡ Some true
    → gap_end (partner page u) ≤ gap_end (partner page w)
gap_first page s t u us n has turn zero w e f = subst (λ (x : Tree). gap_end (partner page u) ≤ gap_end (partner page x)) (first_is u w e) (omega arith)
gap_first page s t u us n has turn (suc j) w e f =
    let l : Later page (label t).id (label u).id w = later page (label t).id (label u).id us j w e f in
    let c : Child page t u (partner page u) = child page s t u has turn.stays in
    let d : Child page t w (partner page w) = child page s t w has l.stays in
    let after = child_after page s t u w turn.stays l.stays l.greater in
    let ends = c.fitting.gap_ends in
    let sign = d.fitting.before_gap in omega (arith, after, ends, sign)

comes_past : (page : Page) (holder n : ℕ) (u : Tree) (us : Trees) (from : ℕ) (ss : List Slot) → (c : Comes page holder n us from ss) → (j : ℕ) (w : Tree)
    → slice_get (listed (more u us)) j ≡ Some w → slice_get (false ∷ turns page holder n us) j ≡ Some true → c.place.end ≤ gap_end (partner page w)
comes_past page holder n u us from ss c zero w a f = absurd (true≢false (sym (first_is false true f)))
comes_past page holder n u us from ss c (suc j) w a f = c.before j w (a, f)

comes : (page : Page) → Sound page → (us ts : Trees) (t : Tree) (r : Reached) → Has page t → r.came ≡ true
    → Comes page (label t).id r.number us r.end (along page t false r ts us)
comes page s none ts t r has c = record {
  place = slot r.end (inside_stop (label t).ranges);
  is = gap_there (r.came || some_count ts) r.end (inside_stop (label t).ranges) (either_came r.came (some_count ts) c);
  start = refl;
  before = λ j w h. absurd (nothing j w h.0);
}
  where
    nothing : (j : ℕ) (w : Tree) → slice_get (listed none) j ≡ Some w → ⊥
    nothing j w e = cc
comes page s (more u us) ts t r has c =
    by (is_in_turn page (label t).id r.number u us) refl
    (comes page s us ts t (arrived false (partner page u) r u) has (either_came r.came (is_compared (showing (label u).kind)) c))
  where
    out : (b : Bool) → is_in_turn page (label t).id r.number u us ≡ b → (x : Slot) → IsAmong x (along_by page t r ts u us b)
        → IsAmong x (along page t false r ts (more u us))
    out b e x h = subst (IsAmong x) (sym (ap (along_by page t r ts u us) e)) h

    turned : (b : Bool) → is_in_turn page (label t).id r.number u us ≡ b → (j : ℕ)
        → slice_get (turns page (label t).id r.number (more u us)) j ≡ Some true
        → slice_get (b ∷ turns page (label t).id (if b then (label u).id else r.number) us) j ≡ Some true
    turned b e j f = subst (λ (v : Bool). slice_get (v ∷ turns page (label t).id (if v then (label u).id else r.number) us) j ≡ Some true) e f

    by : (b : Bool) → is_in_turn page (label t).id r.number u us ≡ b
        → Comes page (label t).id r.number us r.end (along page t false (arrived false (partner page u) r u) ts us)
        → Comes page (label t).id r.number (more u us) r.end (along page t false r ts (more u us))
    by true e rest =
        let turn : InTurn page (label t).id r.number u us = in_turn page (label t).id r.number u us e in
        record {
          place = slot r.end (gap_end (partner page u));
          is =
              out true e (slot r.end (gap_end (partner page u)))
              (in_front (slot r.end (gap_end (partner page u))) (gap_before r ts (partner page u) u ++ own_of page u)
              (along page t false (arrived true (partner page u) r u) (rest_behind true u ts) us)
              (in_front (slot r.end (gap_end (partner page u))) (gap_before r ts (partner page u) u) (own_of page u)
              (gap_there (r.came || some_count (before_number (label u).id ts)) r.end (gap_end (partner page u))
              (either_came r.came (some_count (before_number (label u).id ts)) c))));
          start = refl;
          before = λ j w h. gap_first page s t u us r.number has turn j w h.0 (turned true e j h.1);
        }
    by false e rest = record {
      place = rest.place;
      is = out false e rest.place rest.is;
      start = rest.start;
      before = λ j w h. comes_past page (label t).id r.number u us r.end (along page t false (arrived false (partner page u) r u) ts us) rest j w h.0
          (turned false e j h.1);
    }

-- ---- where it comes

pub record ComesAt (page : Page) (holder n : ℕ) (us : Trees) (i : ℕ) (ss : List Slot) : Type 0 where
  pub place : Slot
  pub is : IsAmong place ss
  pub behind : (j : ℕ) (w : Tree) → j < i → InTurnAt page holder n us j w → end_at (partner page w) ≤ place.start
  pub before : (j : ℕ) (w : Tree) → i < j → InTurnAt page holder n us j w → place.end ≤ gap_end (partner page w)

-- all that comes after a child that stays begins where it ends, or after
after_it : (page : Page) → Sound page → (t u : Tree) (us ts : Trees) (r : Reached) → Has page t → InTurn page (label t).id r.number u us
    → AllByRecursion (λ (x : Slot). (end_at (partner page u) ≤ x.start) × (x.end ≤ inside_stop (label t).ranges))
    (along page t false (arrived true (partner page u) r u) (rest_behind true u ts) us)
after_it page s t u us ts r has turn =
    let c = partner_of page (label t).id u turn.stays in
    along_within page s us (rest_behind true u ts) t (end_at (partner page u)) (inside_stop (label t).ranges) has false (arrived true (partner page u) r u)
    (omega arith) (omega arith)
    (λ k q lt f p. subst (λ (x : Tree). end_at x ≤ start_at q.node) (sym c.is) (s.ordered (label u).id k c.place q c.numbered lt c.found f (c.under ∙ sym p)))

-- one child before it, which stays or doesn't
later_true : (page : Page) → Sound page → (t u : Tree) (us ts : Trees) (r : Reached) (i : ℕ) → Has page t → InTurn page (label t).id r.number u us
    → (c : ComesAt page (label t).id (label u).id us i (along page t false (arrived true (partner page u) r u) (rest_behind true u ts) us))
    → (j : ℕ) (w : Tree) → j < suc i → slice_get (listed (more u us)) j ≡ Some w → slice_get (true ∷ turns page (label t).id (label u).id us) j ≡ Some true
    → end_at (partner page w) ≤ c.place.start
later_true page s t u us ts r i has turn c zero w lt a f =
    let b = of_all (λ (x : Slot). (end_at (partner page u) ≤ x.start) × (x.end ≤ inside_stop (label t).ranges)) c.place
    (along page t false (arrived true (partner page u) r u) (rest_behind true u ts) us) (after_it page s t u us ts r has turn) c.is in
    subst (λ (x : Tree). end_at (partner page x) ≤ c.place.start) (first_is u w a) b.0
later_true page s t u us ts r i has turn c (suc j) w lt a f = c.behind j w (omega (arith, lt)) (a, f)

later_false : (page : Page) (holder n : ℕ) (u : Tree) (us : Trees) (i : ℕ) (ss : List Slot) (c : ComesAt page holder n us i ss) (j : ℕ) (w : Tree) → j < suc i
    → slice_get (listed (more u us)) j ≡ Some w → slice_get (false ∷ turns page holder n us) j ≡ Some true → end_at (partner page w) ≤ c.place.start
later_false page holder n u us i ss c zero w lt a f = absurd (true≢false (sym (first_is false true f)))
later_false page holder n u us i ss c (suc j) w lt a f = c.behind j w (omega (arith, lt)) (a, f)

-- those after it
before_all : (page : Page) (holder n m : ℕ) (b : Bool) (u : Tree) (us : Trees) (i : ℕ) (ss : List Slot) (c : ComesAt page holder m us i ss) (j : ℕ) (w : Tree)
    → suc i < j → slice_get (listed (more u us)) j ≡ Some w → slice_get (b ∷ turns page holder m us) j ≡ Some true → c.place.end ≤ gap_end (partner page w)
before_all page holder n m b u us i ss c zero w lt a f = absurd (omega (arith, lt))
before_all page holder n m b u us i ss c (suc j) w lt a f = c.before j w (omega (arith, lt)) (a, f)

first_before : (page : Page) (holder n : ℕ) (u : Tree) (us : Trees) (from : ℕ) (ss : List Slot) (c : Comes page holder n us from ss) (b : Bool) (j : ℕ) (w : Tree)
    → zero < j → slice_get (listed (more u us)) j ≡ Some w → slice_get (b ∷ turns page holder n us) j ≡ Some true → c.place.end ≤ gap_end (partner page w)
first_before page holder n u us from ss c b zero w lt a f = absurd (omega (arith, lt))
first_before page holder n u us from ss c b (suc j) w lt a f = c.before j w (a, f)

pub turned : (page : Page) (holder n : ℕ) (u : Tree) (us : Trees) (b : Bool) → is_in_turn page holder n u us ≡ b → (j : ℕ) (c : Bool)
    → slice_get (turns page holder n (more u us)) j ≡ Some c → slice_get (b ∷ turns page holder (if b then (label u).id else n) us) j ≡ Some c
turned page holder n u us b e j c f =
    subst (λ (v : Bool). slice_get (v ∷ turns page holder (if v then (label u).id else n) us) j ≡ Some c) e f

pub out : (page : Page) (t u : Tree) (us ts : Trees) (r : Reached) (b : Bool) → is_in_turn page (label t).id r.number u us ≡ b → (x : Slot)
    → IsAmong x (along_by page t r ts u us b) → IsAmong x (along page t false r ts (more u us))
out page t u us ts r b e x h = subst (IsAmong x) (sym (ap (along_by page t r ts u us) e)) h

pub comes_at : (page : Page) → Sound page → (us ts : Trees) (t : Tree) (r : Reached) (i : ℕ) (v : Tree) → Has page t → slice_get (listed us) i ≡ Some v
    → slice_get (turns page (label t).id r.number us) i ≡ Some false → is_compared (showing (label v).kind) ≡ true
    → ComesAt page (label t).id r.number us i (along page t false r ts us)
comes_at page s none ts t r i v has e f c = absurd (cc)
comes_at page s (more u us) ts t r zero v has e f c =
    let out_of_turn : is_in_turn page (label t).id r.number u us ≡ false = first_is (is_in_turn page (label t).id r.number u us) false f in
    let shows : is_compared (showing (label u).kind) ≡ true = ap (λ (x : Tree). is_compared (showing (label x).kind)) (first_is u v e) ∙ c in
    let p : Reached = arrived false (partner page u) r u in
    let k : Comes page (label t).id r.number us r.end (along page t false p ts us) = comes page s us ts t p has (came_now r.came (is_compared (showing (label u).kind)) shows) in
    record {
      place = k.place;
      is = out page t u us ts r false out_of_turn k.place k.is;
      behind = λ j w lt h. absurd (omega (arith, lt));
      before = λ j w lt h. first_before page (label t).id r.number u us r.end (along page t false p ts us) k false j w lt h.0
          (turned page (label t).id r.number u us false out_of_turn j true h.1);
    }
comes_at page s (more u us) ts t r (suc i) v has e f c =
    by (is_in_turn page (label t).id r.number u us) refl (λ p rest g. comes_at page s us rest t p i v has e g c)
  where
    by : (b : Bool) → is_in_turn page (label t).id r.number u us ≡ b
        → ((p : Reached) (rest : Trees) → slice_get (turns page (label t).id p.number us) i ≡ Some false
        → ComesAt page (label t).id p.number us i (along page t false p rest us))
        → ComesAt page (label t).id r.number (more u us) (suc i) (along page t false r ts (more u us))
    by true a next =
        let turn : InTurn page (label t).id r.number u us = in_turn page (label t).id r.number u us a in
        let p : Reached = arrived true (partner page u) r u in
        let rest : List Slot = along page t false p (rest_behind true u ts) us in
        let k : ComesAt page (label t).id (label u).id us i rest = next p (rest_behind true u ts) (turned page (label t).id r.number u us true a (suc i) false f) in
        record {
          place = k.place;
          is = out page t u us ts r true a k.place (in_rest k.place (gap_before r ts (partner page u) u ++ own_of page u) rest k.is);
          behind = λ j w lt h. later_true page s t u us ts r i has turn k j w lt h.0 (turned page (label t).id r.number u us true a j true h.1);
          before = λ j w lt h. before_all page (label t).id r.number (label u).id true u us i rest k j w lt h.0
              (turned page (label t).id r.number u us true a j true h.1);
        }
    by false a next =
        let p : Reached = arrived false (partner page u) r u in
        let rest : List Slot = along page t false p ts us in
        let k : ComesAt page (label t).id r.number us i rest = next p ts (turned page (label t).id r.number u us false a (suc i) false f) in
        record {
          place = k.place;
          is = out page t u us ts r false a k.place k.is;
          behind = λ j w lt h. later_false page (label t).id r.number u us i rest k j w lt h.0 (turned page (label t).id r.number u us false a j true h.1);
          before = λ j w lt h. before_all page (label t).id r.number r.number false u us i rest k j w lt h.0
              (turned page (label t).id r.number u us false a j true h.1);
        }

-- ---- a page

pub changed_inside : (t u : Tree) → IsWholePage t → IsOneBody u → (i : ℕ) (v : Tree) → StaysBlock (page_of t) u i v → is_block_part (label v).kind ≡ true
    → same_inside (partner (page_of t) v) v ≡ false → IsAmong (inside_of (partner (page_of t) v)) (places t u)
changed_inside t u w o i v b k d =
    let page : Page = page_of t in
    let p : Tree = partner page v in
    let us : Trees = behind_inside u in
    let whole : us ≡ children u = body_behind u o.root in
    let z : (label t).id ≡ 0 = root_number t w in
    let here : slice_get (listed us) i ≡ Some v = ap (λ (vs : Trees). slice_get (listed vs) i) whole ∙ b.is in
    let turn : slice_get (turns page (label t).id 0 us) i ≡ Some true = ap₂ (λ n (vs : Trees). slice_get (turns page n 0 vs) i) z whole ∙ b.turn in
    let a : Around p (own_of page v) (along page t false (begun t) (held t) us) =
    around page (sound t w) t us (held t) (begun t) i v (root_begins t u w o).has here turn in
    let x : Slot = inside_of p in
    let first : IsAmong x (inside_place p v) = subst (λ (c : Bool). IsAmong x (if c then [] else x ∷ [])) (sym d) (inl refl) in
    let inner : IsAmong x (places_in page p v) =
    subst (IsAmong x) (sym (places_out page p v)) (in_front x (inside_place p v) (along page p false (begun p) (held p) (behind_inside v)) first) in
    let own : IsAmong x (own_of page v) = subst (λ (c : Bool). IsAmong x (if_in_turn c (places_in page p v))) (sym k) inner in
    subst (IsAmong x) (sym (places_out page t u))
    (in_rest x (inside_place t u) (along page t false (begun t) (held t) us)
    (subst (IsAmong x) (sym a.is) (in_rest x a.before (own_of page v ++ a.after) (in_front x (own_of page v) a.after own))))

pub come_places : (t u : Tree) → IsWholePage t → IsOneBody u → (i : ℕ) (v : Tree) → slice_get (listed (children u)) i ≡ Some v
    → slice_get (turns (page_of t) 0 0 (children u)) i ≡ Some false → is_compared (showing (label v).kind) ≡ true → HasPlaceAt (page_of t) u i (places t u)
come_places t u w o i v e f c =
    let page : Page = page_of t in
    let us : Trees = behind_inside u in
    let whole : us ≡ children u = body_behind u o.root in
    let z : (label t).id ≡ 0 = root_number t w in
    let here : slice_get (listed us) i ≡ Some v = ap (λ (vs : Trees). slice_get (listed vs) i) whole ∙ e in
    let turn : slice_get (turns page (label t).id 0 us) i ≡ Some false = ap₂ (λ n (vs : Trees). slice_get (turns page n 0 vs) i) z whole ∙ f in
    let k : ComesAt page (label t).id 0 us i (along page t false (begun t) (held t) us) =
    comes_at page (sound t w) us (held t) t (begun t) i v (root_begins t u w o).has here turn c in
    let at = λ (j : ℕ) (x : Tree) (h : StaysBlock page u j x). back page t u us whole z j x h in
    record {
      place = k.place;
      is = subst (IsAmong k.place) (sym (places_out page t u)) (in_rest k.place (inside_place t u) (along page t false (begun t) (held t) us) k.is);
      behind = λ j x lt h. k.behind j x lt (at j x h);
      before = λ j x lt h. k.before j x lt (at j x h);
    }
  where
    back : (page : Page) (s b : Tree) (us : Trees) → us ≡ children b → (label s).id ≡ 0 → (j : ℕ) (x : Tree) → StaysBlock page b j x
        → InTurnAt page (label s).id 0 us j x
    back page s b us whole z j x h =
        (ap (λ (vs : Trees). slice_get (listed vs) j) whole ∙ h.is, ap₂ (λ n (vs : Trees). slice_get (turns page n 0 vs) j) z whole ∙ h.turn)
