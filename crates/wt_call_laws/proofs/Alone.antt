-- Of a node that stays in its turn no place but its own has a byte.
use Rattle.std.proofs.Common.{◌≡◌, ◌≢◌, ◌≤◌, ◌<◌, ◌⊎◌, ℕ, zero, suc, Bool, true, false, Some, None, List, [], ◌∷◌, ◌++◌, refl, sym, ap, ap₂, ◌∙◌, subst, inl, inr, arith, true≢false, append_assoc}
use Rattle.std.specs.Prelude.{◌==◌, ◌&&◌, ◌||◌, not, if◌then◌else◌, slice_get, Option}
use Rattle.std.specs.List.{AllByRecursion}
use Rattle.wt_tree.specs.declared.kind.Kind.{Kind}
use Rattle.wt_tree.specs.declared.kind.Kind.TheVariants as kind
use Rattle.wt_tree.specs.Kinds.{showing}
use Rattle.wt_tree.specs.Tree.{Tree, tree, Trees, none, more, label, listed}
use Rattle.wt_checks.specs.Alike.{same_kind}
use Rattle.wt_checks.specs.Kept.{children}
use Rattle.wt_checks.specs.Places.{Page, Place, is_body, page_of}
use Rattle.wt_checks.specs.PutBack.{IsOneBody, has_frame, have_frame}
use Rattle.wt_checks.specs.Unmarked.{is_compared}
use Rattle.wt_checks.proofs.Compares.{kinds_decide}
use Rattle.wt_checks.proofs.Found.{found_root}
use Rattle.wt_checks.proofs.InOrder.{kept_not_zero, same_by}
use Rattle.wt_checks.proofs.Lookups.{each_join}
use Rattle.wt_checks.proofs.Repeated.{or_false}
use Rattle.wt_difference.specs.Difference.{is_partner, same_inside, stays_in}
use Rattle.wt_difference.specs.Insides.{before_blocks, behind_inside, ends_inside, from_blocks, has_inside, held, is_block_part}
use Rattle.wt_difference.specs.Tokens.{all_tokens, same_tokens}
use Rattle.wt_difference.specs.Unedited.{IsUnedited}
use Rattle.wt_places.specs.declared.reached.Reached.{Reached}
use Rattle.wt_places.specs.declared.slot.Slot.{Slot}
use Rattle.wt_places.specs.Places.{along, arrived, before_number, begun, end_behind, gap, gap_before, gap_end, if_in_turn, inside_end, inside_place, inside_start, inside_stop, node_or, partner, places, places_in, rest_behind, slot, some_count}
use Rattle.wt_places.specs.Turns.{is_in_turn, may_stay, turns}
use Rattle.wt_places.proofs.Walking.{places_out}
use Rattle.wt_call_laws.specs.Untouched.{IsBeside, IsNumberedBehind, IsUntouched, IsWholePage, StaysAt, StaysInTurn, is_looked_into}
use Rattle.wt_call_laws.proofs.Choosing.{InTurn, both, in_turn}
use Rattle.wt_call_laws.proofs.Fitting.{Fits, closes_before, end_at, fits, opens_behind, start_at}
use Rattle.wt_call_laws.proofs.Standing.{Known, Sound, Stands, Within, root_holds, root_number, sound}
use Rattle.wt_call_laws.proofs.TurnsUnedited.{holds, looked_block, no_frames, none_in}

each_map : {X : Type 0} (P Q : X → Type 0) (xs : List X) → ((x : X) → P x → Q x) → AllByRecursion P xs → AllByRecursion Q xs
each_map P Q [] f h = tt
each_map P Q (x ∷ xs) f h = (f x h.0, each_map P Q xs f h.1)

-- ---- the page's node of a child that may stay

pub record Partner (page : Page) (holder : ℕ) (v : Tree) : Type 0 where
  pub place : Place
  pub found : page (label v).id ≡ Some place
  pub numbered : (label v).id ≢ 0
  pub under : place.parent ≡ holder
  pub kind : (label place.node).kind ≡ (label v).kind
  pub is : partner page v ≡ place.node

partner_by : (page : Page) (holder : ℕ) (v : Tree) (o : Option Place) → page (label v).id ≡ o → is_partner holder v o ≡ true → Partner page holder v
partner_by page holder v None f e = absurd (true≢false (sym e))
partner_by page holder v (Some q) f e =
    let a = both (not ((label v).id == 0)) _ e in
    let b = both (q.parent == holder) _ a.1 in
    let c = both (same_kind (label q.node).kind (label v).kind) _ b.1 in
    record {
      place = q;
      found = f;
      numbered = kept_not_zero (label v).id a.0;
      under = same_by q.parent holder b.0;
      kind = (kinds_decide (label q.node).kind (label v).kind).0 c.0;
      is = ap (node_or v) f;
    }

pub partner_of : (page : Page) (holder : ℕ) (v : Tree) → may_stay page holder v ≡ true → Partner page holder v
partner_of page holder v e =
    partner_by page holder v (page (label v).id) refl (both (is_compared (showing (label v).kind)) (stays_in page holder v) e).1

-- a node of the page
pub record Has (page : Page) (t : Tree) : Type 0 where
  pub place : Place
  pub found : page (label t).id ≡ Some place
  pub is : place.node ≡ t

-- the page's node of a child that may stay, in the node that holds it
pub record Child (page : Page) (t v p : Tree) : Type 0 where
  pub least : inside_start (label t).ranges ≤ start_at p
  pub most : end_at p ≤ inside_stop (label t).ranges
  pub fitting : Fits p
  pub itself : Has page p
  pub kind : (label p).kind ≡ (label v).kind
  pub number : (label p).id ≡ (label v).id
  pub known : (q : Place) × (Known page q × ((q.node ≡ p) × ((label v).id ≢ 0)))

child_by : (page : Page) → Sound page → (t v : Tree) → Has page t → (c : Partner page (label t).id v) → Child page t v c.place.node
child_by page s t v has c =
    let n : (label c.place.node).id ≡ (label v).id = s.itself (label v).id c.place c.found in
    let i : Within has.place.node c.place.node =
    s.lies (label v).id c.place has.place c.numbered c.found (ap page c.under ∙ has.found) in
    let k : Known page c.place = s.known (label v).id c.place c.numbered c.found in
    let w : Within t c.place.node = subst (λ (x : Tree). Within x c.place.node) has.is i in
    record {
      least = w.least;
      most = w.most;
      fitting = fits c.place.node k.tiled;
      itself = record { place = c.place; found = ap page n ∙ c.found; is = refl };
      kind = c.kind;
      number = n;
      known = (c.place, (k, (refl, c.numbered)));
    }

pub child : (page : Page) → Sound page → (t v : Tree) → Has page t → may_stay page (label t).id v ≡ true → Child page t v (partner page v)
child page s t v has e =
    let c = partner_of page (label t).id v e in subst (Child page t v) (sym c.is) (child_by page s t v has c)

-- ---- places between two bytes

abbrev InRange : ℕ → ℕ → Slot → Type 0
InRange a b s = (a ≤ s.start) × (s.end ≤ b)

in_gap : (b : Bool) (a c x y : ℕ) → a ≤ x → y ≤ c → AllByRecursion (InRange a c) (gap b x y)
in_gap true a c x y least most = ((least, most), tt)
in_gap false a c x y least most = tt

in_either : (P : Slot → Type 0) (b : Bool) (xs ys : List Slot) → AllByRecursion P xs → AllByRecursion P ys → AllByRecursion P (if b then xs else ys)
in_either P true xs ys h k = h
in_either P false xs ys h k = k

in_if : (P : Slot → Type 0) (b : Bool) (xs : List Slot) → (b ≡ true → AllByRecursion P xs) → AllByRecursion P (if_in_turn b xs)
in_if P true xs f = f refl
in_if P false xs f = tt

wider : (a b c d : ℕ) (ss : List Slot) → c ≤ a → b ≤ d → AllByRecursion (InRange a b) ss → AllByRecursion (InRange c d) ss
wider a b c d ss least most h =
    each_map (InRange a b) (InRange c d) ss (λ s k. let x = k.0 in let y = k.1 in (omega (arith, least, x), omega (arith, most, y))) h

-- the inside that was changed
no_inside : (t u : Tree) → (label t).kind ≡ (label u).kind → has_inside (label t).kind ≡ false → same_inside t u ≡ true
no_inside (tree l ts) (tree m us) same e =
    ap₂ (λ c d. same_tokens (all_tokens (if c then before_blocks ts else none)) (all_tokens (if d then before_blocks us else none))) e
    (ap has_inside (sym same) ∙ e)

inside_in : (t u : Tree) → Fits t → (label t).kind ≡ (label u).kind → AllByRecursion (InRange (start_at t) (inside_end t)) (inside_place t u)
inside_in t u f same =
    let opens = opens_behind (label t).ranges in
    in_either (InRange (start_at t) (inside_end t)) (same_inside t u) [] (slot (inside_start (label t).ranges) (inside_end t) ∷ []) tt
    ((omega (arith, opens), omega arith), tt)

inside_within : (t u : Tree) → Fits t → (label t).kind ≡ (label u).kind → AllByRecursion (InRange (start_at t) (end_at t)) (inside_place t u)
inside_within t u f same = by (has_inside (label t).kind) refl
  where
    by : (v : Bool) → has_inside (label t).kind ≡ v → AllByRecursion (InRange (start_at t) (end_at t)) (inside_place t u)
    by true e =
        let most = f.inside_ends e in wider (start_at t) (inside_end t) (start_at t) (end_at t) (inside_place t u) (omega arith) most (inside_in t u f same)
    by false e =
        subst (λ (b : Bool). AllByRecursion (InRange (start_at t) (end_at t)) (if b then [] else slot (inside_start (label t).ranges) (inside_end t) ∷ []))
        (sym (no_inside t u same e)) tt

-- each node of the page that this one holds and that has a greater number begins there or after it
abbrev Lower : Page → Tree → ℕ → ℕ → Type 0
Lower page t least n = (k : ℕ) (q : Place) → n < k → page k ≡ Some q → q.parent ≡ (label t).id → least ≤ start_at q.node

lower_child : (page : Page) (t v : Tree) (least n : ℕ) → Lower page t least n → n < (label v).id → may_stay page (label t).id v ≡ true
    → least ≤ start_at (partner page v)
lower_child page t v least n low lt e =
    let c = partner_of page (label t).id v e in
    subst (λ (x : Tree). least ≤ start_at x) (sym c.is) (low (label v).id c.place lt c.found c.under)

all_lower : (page : Page) → Sound page → (t : Tree) → Has page t → Lower page t (start_at t) 0
all_lower page s t has k q lt e p =
    let w = s.lies k q has.place (λ x. omega (arith, lt, x)) e (ap page p ∙ has.found) in
    let least = w.least in
    let opens = opens_behind (label t).ranges in
    let same = ap (λ (x : Tree). inside_start (label x).ranges) has.is in omega (arith, least, opens, same)

-- one child, by whether it stays in its turn
child_within : (page : Page) → Sound page → (u : Tree) (us ts : Trees) (t : Tree) (least most : ℕ) → Has page t → (r : Reached)
    → inside_stop (label t).ranges ≤ most → least ≤ r.end → Lower page t least r.number
    → (b : Bool) → is_in_turn page (label t).id r.number u us ≡ b
    → (Child page t u (partner page u) → AllByRecursion (InRange (start_at (partner page u)) (end_at (partner page u))) (places_in page (partner page u) u))
    → ((p : Reached) (rest : Trees) → least ≤ p.end → Lower page t least p.number → AllByRecursion (InRange least most) (along page t false p rest us))
    → AllByRecursion (InRange least most) (if_in_turn b
    (gap_before r ts (partner page u) u ++ if_in_turn (is_block_part (label u).kind) (places_in page (partner page u) u))
    ++ along page t false (arrived b (partner page u) r u) (rest_behind b u ts) us)
child_within page s u us ts t least most has r top bottom low true e inner next =
    let turn : InTurn page (label t).id r.number u us = in_turn page (label t).id r.number u us e in
    let c : Child page t u (partner page u) = child page s t u has turn.stays in
    let lower : least ≤ start_at (partner page u) = lower_child page t u least r.number low turn.greater turn.stays in
    let upper = c.most in
    let ends = c.fitting.gap_ends in
    let whole = c.fitting.whole in
    let greater = turn.greater in
    each_join (InRange least most) (gap_before r ts (partner page u) u ++ if_in_turn (is_block_part (label u).kind) (places_in page (partner page u) u))
    (along page t false (arrived true (partner page u) r u) (rest_behind true u ts) us)
    (each_join (InRange least most) (gap_before r ts (partner page u) u) (if_in_turn (is_block_part (label u).kind) (places_in page (partner page u) u))
    (in_gap (r.came || some_count (before_number (label u).id ts)) least most r.end (gap_end (partner page u)) bottom (omega (arith, ends, upper, top)))
    (in_if (InRange least most) (is_block_part (label u).kind) (places_in page (partner page u) u)
    (λ b. wider (start_at (partner page u)) (end_at (partner page u)) least most (places_in page (partner page u) u) lower (omega (arith, upper, top)) (inner c))))
    (next (arrived true (partner page u) r u) (rest_behind true u ts) (omega (arith, lower, whole)) (λ k q lt. low k q (omega (arith, greater, lt))))
child_within page s u us ts t least most has r top bottom low false e inner next = next (arrived false (partner page u) r u) ts bottom low

mutual
  places_within : (page : Page) → Sound page → (u t : Tree) → Has page t → Fits t → (label t).kind ≡ (label u).kind
      → AllByRecursion (InRange (start_at t) (end_at t)) (places_in page t u)
  places_within page s (tree m us) t has f same =
      let least = f.inside_begins in
      let opens = opens_behind (label t).ranges in
      each_join (InRange (start_at t) (end_at t)) (inside_place t (tree m us)) (along page t (has_inside m.kind) (begun t) (held t) us)
      (inside_within t (tree m us) f same)
      (along_within page s us (held t) t (start_at t) (end_at t) has (has_inside m.kind) (begun t) (closes_before (label t).ranges) (omega (arith, least, opens))
      (all_lower page s t has))

  pub along_within : (page : Page) → Sound page → (us ts : Trees) (t : Tree) (least most : ℕ) → Has page t → (within : Bool) (r : Reached)
      → inside_stop (label t).ranges ≤ most → least ≤ r.end → Lower page t least r.number → AllByRecursion (InRange least most) (along page t within r ts us)
  along_within page s none ts t least most has within r top bottom low =
      in_gap (r.came || some_count ts) least most r.end (inside_stop (label t).ranges) bottom top
  along_within page s (more u us) ts t least most has within r top bottom low =
      in_either (InRange least most) (within && not (ends_inside u)) (along page t true r ts us)
      (if_in_turn (is_in_turn page (label t).id r.number u us)
      (gap_before r ts (partner page u) u ++ if_in_turn (is_block_part (label u).kind) (places_in page (partner page u) u))
      ++ along page t false (arrived (is_in_turn page (label t).id r.number u us) (partner page u) r u)
      (rest_behind (is_in_turn page (label t).id r.number u us) u ts) us)
      (along_within page s us ts t least most has true r top bottom low)
      (child_within page s u us ts t least most has r top bottom low (is_in_turn page (label t).id r.number u us) refl
      (λ c. places_within page s u (partner page u) c.itself c.fitting c.kind)
      (λ p rest x y. along_within page s us rest t least most has false p top x y))

-- ---- around a child that stays in its turn

beside_range : (p : Tree) (a b : ℕ) (ss : List Slot) → (b ≤ gap_end p) ⊎ (end_at p ≤ a) → AllByRecursion (InRange a b) ss → IsUntouched ss p
beside_range p a b ss (inl le) h =
    each_map (InRange a b) (IsBeside (gap_end p) (end_at p)) ss (λ s k. let most = k.1 in inl (omega (arith, le, most))) h
beside_range p a b ss (inr le) h =
    each_map (InRange a b) (IsBeside (gap_end p) (end_at p)) ss (λ s k. let least = k.0 in inr (omega (arith, le, least))) h

-- places of which all but these lie beside a node
pub record Around (p : Tree) (own ss : List Slot) : Type 0 where
  pub before : List Slot
  pub after : List Slot
  pub is : ss ≡ before ++ (own ++ after)
  pub beside : IsUntouched before p
  pub beside_after : IsUntouched after p

-- a child that stays in its turn has a greater number, and may stay
pub record Later (page : Page) (holder n : ℕ) (v : Tree) : Type 0 where
  pub stays : may_stay page holder v ≡ true
  pub greater : n < (label v).id

pub first_is : {X : Type 0} (x y : X) → Some x ≡ Some y → x ≡ y
first_is x y e = cc

pub later : (page : Page) (holder n : ℕ) (us : Trees) (i : ℕ) (v : Tree) → slice_get (listed us) i ≡ Some v → slice_get (turns page holder n us) i ≡ Some true
    → Later page holder n v
later page holder n none i v e f = absurd (cc)
later page holder n (more u us) zero v e f =
    let t : InTurn page holder n u us = in_turn page holder n u us (first_is (is_in_turn page holder n u us) true f) in
    subst (Later page holder n) (first_is u v e) (record { stays = t.stays; greater = t.greater })
later page holder n (more u us) (suc i) v e f =
    by (is_in_turn page holder n u us) refl (later page holder (if is_in_turn page holder n u us then (label u).id else n) us i v e f)
  where
    by : (b : Bool) → is_in_turn page holder n u us ≡ b → Later page holder (if b then (label u).id else n) v → Later page holder n v
    by true t l =
        let w = (in_turn page holder n u us t).greater in let g = l.greater in record { stays = l.stays; greater = omega (arith, w, g) }
    by false t l = l

-- two children that stay in their turn, one after the other
pub child_after : (page : Page) → Sound page → (t u v : Tree) → may_stay page (label t).id u ≡ true → may_stay page (label t).id v ≡ true
    → (label u).id < (label v).id → end_at (partner page u) ≤ start_at (partner page v)
child_after page s t u v e f lt =
    let c = partner_of page (label t).id u e in
    let d = partner_of page (label t).id v f in
    subst (λ (x : Tree). end_at x ≤ start_at (partner page v)) (sym c.is)
    (subst (λ (x : Tree). end_at c.place.node ≤ start_at x) (sym d.is)
    (s.ordered (label u).id (label v).id c.place d.place c.numbered lt c.found d.found (c.under ∙ sym d.under)))

abbrev pub along_by : Page → Tree → Reached → Trees → Tree → Trees → Bool → List Slot
along_by page t r ts u us b =
    if_in_turn b (gap_before r ts (partner page u) u ++ if_in_turn (is_block_part (label u).kind) (places_in page (partner page u) u))
    ++ along page t false (arrived b (partner page u) r u) (rest_behind b u ts) us

abbrev pub own_of : Page → Tree → List Slot
own_of page v = if_in_turn (is_block_part (label v).kind) (places_in page (partner page v) v)

-- the gap before a child ends with its sign
gap_beside : (b : Bool) (x : ℕ) (p : Tree) → IsUntouched (gap b x (gap_end p)) p
gap_beside true x p = (inl (omega arith), tt)
gap_beside false x p = tt

own_beside : (page : Page) → Sound page → (t u v : Tree) → Has page t → may_stay page (label t).id u ≡ true → may_stay page (label t).id v ≡ true
    → (label u).id < (label v).id → IsUntouched (own_of page u) (partner page v)
own_beside page s t u v has e f lt =
    let c : Child page t u (partner page u) = child page s t u has e in
    let d : Child page t v (partner page v) = child page s t v has f in
    let after = child_after page s t u v e f lt in
    let sign = d.fitting.before_gap in
    in_if (IsBeside (gap_end (partner page v)) (end_at (partner page v))) (is_block_part (label u).kind) (places_in page (partner page u) u)
    (λ b. beside_range (partner page v) (start_at (partner page u)) (end_at (partner page u)) (places_in page (partner page u) u) (inl (omega (arith, after, sign)))
    (places_within page s u (partner page u) c.itself c.fitting c.kind))

gap_before_later : (page : Page) → Sound page → (t u v : Tree) → Has page t → may_stay page (label t).id u ≡ true → may_stay page (label t).id v ≡ true
    → (label u).id < (label v).id → (b : Bool) (x : ℕ) → IsUntouched (gap b x (gap_end (partner page u))) (partner page v)
gap_before_later page s t u v has e f lt false x = tt
gap_before_later page s t u v has e f lt true x =
    let c : Child page t u (partner page u) = child page s t u has e in
    let d : Child page t v (partner page v) = child page s t v has f in
    let after = child_after page s t u v e f lt in
    let sign = d.fitting.before_gap in
    let ends = c.fitting.gap_ends in (inl (omega (arith, after, sign, ends)), tt)

around_later : (page : Page) → Sound page → (t u v : Tree) (us ts : Trees) (r : Reached) → Has page t → (b : Bool)
    → is_in_turn page (label t).id r.number u us ≡ b → Later page (label t).id (if b then (label u).id else r.number) v
    → Around (partner page v) (own_of page v) (along page t false (arrived b (partner page u) r u) (rest_behind b u ts) us)
    → Around (partner page v) (own_of page v) (along_by page t r ts u us b)
around_later page s t u v us ts r has false e l a = a
around_later page s t u v us ts r has true e l a =
    let turn : InTurn page (label t).id r.number u us = in_turn page (label t).id r.number u us e in
    let front : List Slot = gap_before r ts (partner page u) u ++ own_of page u in
    record {
      before = front ++ a.before;
      after = a.after;
      is = ap (λ (x : List Slot). front ++ x) a.is ∙ sym (append_assoc front a.before (own_of page v ++ a.after));
      beside =
          each_join (IsBeside (gap_end (partner page v)) (end_at (partner page v))) front a.before
          (each_join (IsBeside (gap_end (partner page v)) (end_at (partner page v))) (gap_before r ts (partner page u) u) (own_of page u)
          (gap_before_later page s t u v has turn.stays l.stays l.greater (r.came || some_count (before_number (label u).id ts)) r.end)
          (own_beside page s t u v has turn.stays l.stays l.greater))
          a.beside;
      beside_after = a.beside_after;
    }

around_first : (page : Page) → Sound page → (t u : Tree) (us ts : Trees) (r : Reached) → Has page t → is_in_turn page (label t).id r.number u us ≡ true
    → Around (partner page u) (own_of page u) (along_by page t r ts u us true)
around_first page s t u us ts r has e =
    let turn : InTurn page (label t).id r.number u us = in_turn page (label t).id r.number u us e in
    let c = partner_of page (label t).id u turn.stays in
    let rest : List Slot = along page t false (arrived true (partner page u) r u) (rest_behind true u ts) us in
    record {
      before = gap_before r ts (partner page u) u;
      after = rest;
      is = append_assoc (gap_before r ts (partner page u) u) (own_of page u) rest;
      beside = gap_beside (r.came || some_count (before_number (label u).id ts)) r.end (partner page u);
      beside_after =
          beside_range (partner page u) (end_at (partner page u)) (inside_stop (label t).ranges) rest (inr (omega arith))
          (along_within page s us (rest_behind true u ts) t (end_at (partner page u)) (inside_stop (label t).ranges) has false (arrived true (partner page u) r u)
          (omega arith) (omega arith)
          (λ k q lt f p. subst (λ (x : Tree). end_at x ≤ start_at q.node) (sym c.is)
          (s.ordered (label u).id k c.place q c.numbered lt c.found f (c.under ∙ sym p))));
    }

pub around : (page : Page) → Sound page → (t : Tree) (us ts : Trees) (r : Reached) (i : ℕ) (v : Tree) → Has page t → slice_get (listed us) i ≡ Some v
    → slice_get (turns page (label t).id r.number us) i ≡ Some true → Around (partner page v) (own_of page v) (along page t false r ts us)
around page s t none ts r i v has e f = absurd (cc)
around page s t (more u us) ts r zero v has e f =
    let turn : is_in_turn page (label t).id r.number u us ≡ true = first_is (is_in_turn page (label t).id r.number u us) true f in
    subst (λ (x : Tree). Around (partner page x) (own_of page x) (along page t false r ts (more u us))) (first_is u v e)
    (subst (Around (partner page u) (own_of page u)) (sym (ap (along_by page t r ts u us) turn)) (around_first page s t u us ts r has turn))
around page s t (more u us) ts r (suc i) v has e f =
    by (is_in_turn page (label t).id r.number u us) refl f (λ p rest g. around page s t us rest p i v has e g)
  where
    by : (b : Bool) → is_in_turn page (label t).id r.number u us ≡ b → slice_get (turns page (label t).id (if b then (label u).id else r.number) us) i ≡ Some true
        → ((p : Reached) (rest : Trees) → slice_get (turns page (label t).id p.number us) i ≡ Some true
        → Around (partner page v) (own_of page v) (along page t false p rest us))
        → Around (partner page v) (own_of page v) (along page t false r ts (more u us))
    by true turn g next =
        subst (Around (partner page v) (own_of page v)) (sym (ap (along_by page t r ts u us) turn))
        (around_later page s t u v us ts r has true turn (later page (label t).id (label u).id us i v e g)
        (next (arrived true (partner page u) r u) (rest_behind true u ts) g))
    by false turn g next =
        subst (Around (partner page v) (own_of page v)) (sym (ap (along_by page t r ts u us) turn))
        (around_later page s t u v us ts r has false turn (later page (label t).id r.number us i v e g) (next (arrived false (partner page u) r u) ts g))

-- ---- on the way to a node

-- what lies beside a node lies beside what it holds behind its inside
far : (page : Page) → Sound page → (way : List ℕ) (ss : List Slot) (t u p v : Tree) → Has page t → Fits t → IsUntouched ss t → StaysAt page t u way p v
    → IsUntouched ss p
far page s [] ss t u p v has f h at = subst (IsUntouched ss) at.0 h
far page s (i ∷ way) ss t u p v has f h at =
    let w : Tree = at.0 in
    let turn : StaysInTurn page t u i w = at.1 in
    let l = later page (label t).id 0 (behind_inside u) i w turn.is turn.turn in
    let c : Child page t w (partner page w) = child page s t w has l.stays in
    let sign = f.gap_inside in
    let opens = f.inside_begins in
    let behind = turn.behind.from in
    let gap = c.fitting.before_gap in
    let upper = c.most in
    let closes = closes_before (label t).ranges in
    far page s way ss (partner page w) w p v c.itself c.fitting
    (each_map (IsBeside (gap_end t) (end_at t)) (IsBeside (gap_end (partner page w)) (end_at (partner page w))) ss
    (λ x k. nearer (gap_end t) (end_at t) (gap_end (partner page w)) (end_at (partner page w)) x (omega (arith, sign, opens, behind, gap)) (omega (arith, upper, closes)) k) h)
    at.2
  where
    nearer : (a b c d : ℕ) (x : Slot) → a ≤ c → d ≤ b → IsBeside a b x → IsBeside c d x
    nearer a b c d x least most (inl le) = inl (omega (arith, least, le))
    nearer a b c d x least most (inr le) = inr (omega (arith, most, le))

frame_at : (us : Trees) (i : ℕ) (v : Tree) → have_frame us ≡ false → slice_get (listed us) i ≡ Some v → has_frame v ≡ false
frame_at none i v f e = absurd (cc)
frame_at (more u us) zero v f e = ap has_frame (sym (first_is u v e)) ∙ (or_false (has_frame u) (have_frame us) f).0
frame_at (more u us) (suc i) v f e = frame_at us i v (or_false (has_frame u) (have_frame us) f).1 e

frames_behind : (us : Trees) → have_frame us ≡ false → have_frame (from_blocks us) ≡ false
frames_behind none f = refl
frames_behind (more u us) f = by (ends_inside u) (frames_behind us (or_false (has_frame u) (have_frame us) f).1)
  where
    by : (b : Bool) → have_frame (from_blocks us) ≡ false → have_frame (if b then more u us else from_blocks us) ≡ false
    by true g = f
    by false g = g

behind_frames : (u : Tree) → have_frame (children u) ≡ false → have_frame (behind_inside u) ≡ false
behind_frames (tree m us) f = by (has_inside m.kind)
  where
    by : (b : Bool) → have_frame (if b then from_blocks us else us) ≡ false
    by true = frames_behind us f
    by false = f

-- what is asked of the node where the way begins
pub record Begins (page : Page) (t u : Tree) : Type 0 where
  pub has : Has page t
  pub fitting : Fits t
  pub kind : (label t).kind ≡ (label u).kind
  pub unframed : have_frame (children u) ≡ false
  pub none : IsNumberedBehind t → is_looked_into (label u).kind ≡ true → IsUnedited t u → places_in page t u ≡ []

begins : (page : Page) → Sound page → (t u : Tree) (i : ℕ) (w : Tree) → Begins page t u → StaysInTurn page t u i w → Begins page (partner page w) w
begins page s t u i w b turn =
    let l = later page (label t).id 0 (behind_inside u) i w turn.is turn.turn in
    let c : Child page t w (partner page w) = child page s t w b.has l.stays in
    let free : have_frame (children w) ≡ false = no_frames w (frame_at (behind_inside u) i w (behind_frames u b.unframed) turn.is) in
    let q : Place = c.known.0 in
    let k : Known page q = c.known.1.0 in
    let is : q.node ≡ partner page w = c.known.1.1.0 in
    let stands : Stands page q.parent (partner page w) = subst (Stands page q.parent) is k.stands in
    let h = holds page q.parent (partner page w) (λ z. c.known.1.1.1 (sym c.number ∙ z)) stands in
    record {
      has = c.itself;
      fitting = c.fitting;
      kind = c.kind;
      unframed = free;
      none = λ n g e. none_in page (partner page w) w h.1 h.0 n (ap is_looked_into c.kind ∙ g) e free;
    }

untouched : (page : Page) → Sound page → (way : List ℕ) (t u p v : Tree) → Begins page t u → is_looked_into (label u).kind ≡ true → StaysAt page t u way p v
    → IsNumberedBehind p → IsUnedited p v → IsUntouched (places_in page t u) p
untouched page s [] t u p v b g at n e =
    let w : IsUnedited t u = subst (λ (x : Tree). IsUnedited x u) (sym at.0) (subst (IsUnedited p) (sym at.1) e) in
    subst (λ (ss : List Slot). IsUntouched ss p) (sym (b.none (subst IsNumberedBehind (sym at.0) n) g w)) tt
untouched page s (i ∷ way) t u p v b g at n e =
    let w : Tree = at.0 in
    let turn : StaysInTurn page t u i w = at.1 in
    let l = later page (label t).id 0 (behind_inside u) i w turn.is turn.turn in
    let c : Child page t w (partner page w) = child page s t w b.has l.stays in
    let a : Around (partner page w) (own_of page w) (along page t false (begun t) (held t) (behind_inside u)) =
    around page s t (behind_inside u) (held t) (begun t) i w b.has turn.is turn.turn in
    let behind = turn.behind.from in
    let gap = c.fitting.before_gap in
    let inside : IsUntouched (inside_place t u) (partner page w) =
    beside_range (partner page w) (start_at t) (inside_end t) (inside_place t u) (inl (omega (arith, behind, gap))) (inside_in t u b.fitting b.kind) in
    let from_here = λ (ss : List Slot) (h : IsUntouched ss (partner page w)). far page s way ss (partner page w) w p v c.itself c.fitting h at.2 in
    let near = IsBeside (gap_end p) (end_at p) in
    let own : IsUntouched (own_of page w) p = in_if (IsBeside (gap_end p) (end_at p)) (is_block_part (label w).kind) (places_in page (partner page w) w)
    (λ x. untouched page s way (partner page w) w p v (begins page s t u i w b turn) (looked_block (label w).kind x) at.2 n e) in
    subst (λ (ss : List Slot). IsUntouched ss p)
    (sym (places_out page t u ∙ ap (λ (ss : List Slot). inside_place t u ++ ss) a.is))
    (each_join near (inside_place t u) (a.before ++ (own_of page w ++ a.after)) (from_here (inside_place t u) inside)
    (each_join near a.before (own_of page w ++ a.after) (from_here a.before a.beside)
    (each_join near (own_of page w) a.after own (from_here a.after a.beside_after))))

-- ---- a page

pub body_is : (k : Kind) → is_body k ≡ true → k ≡ kind.Body
body_is kind.Body e = refl
body_is k e = absurd (cc)

pub root_begins : (t u : Tree) → IsWholePage t → IsOneBody u → Begins (page_of t) t u
root_begins t u w o =
    let z : (label t).id ≡ 0 = root_number t w in
    let h = root_holds t w in
    record {
      has = record { place = record { node = t; parent = 0; in_content = false }; found = ap (page_of t) z ∙ found_root t z; is = refl };
      fitting = fits t w.tiled;
      kind = w.body ∙ sym (body_is (label u).kind o.root);
      unframed = o.alone;
      none = λ n g e. none_in (page_of t) t u h.1 h.0 n (ap is_looked_into w.body) e o.alone;
    }

pub unedited_untouched : (t u : Tree) → IsWholePage t → IsOneBody u → (way : List ℕ) (p v : Tree) → StaysAt (page_of t) t u way p v → IsNumberedBehind p
    → IsUnedited p v → IsUntouched (places t u) p
unedited_untouched t u w o way p v at n e =
    untouched (page_of t) (sound t w) way t u p v (root_begins t u w o) (ap is_looked_into (body_is (label u).kind o.root)) at n e

-- ---- its blocks

pub body_behind : (u : Tree) → is_body (label u).kind ≡ true → behind_inside u ≡ children u
body_behind (tree m us) e = ap (λ (k : Kind). if has_inside k then from_blocks us else us) (body_is m.kind e)

pub body_inside : (t : Tree) → (label t).kind ≡ kind.Body → inside_end t ≡ inside_start (label t).ranges
body_inside (tree l ts) e = ap (λ (k : Kind). end_behind (inside_start l.ranges) (if has_inside k then before_blocks ts else none)) e

pub blocks_untouched : (t u : Tree) → IsWholePage t → IsOneBody u → (i : ℕ) (v : Tree) → slice_get (listed (children u)) i ≡ Some v
    → slice_get (turns (page_of t) 0 0 (children u)) i ≡ Some true → IsNumberedBehind (partner (page_of t) v) → IsUnedited (partner (page_of t) v) v
    → IsUntouched (places t u) (partner (page_of t) v)
blocks_untouched t u w o i v is turn n e =
    let z : (label t).id ≡ 0 = root_number t w in
    let b : behind_inside u ≡ children u = body_behind u o.root in
    let own : slice_get (turns (page_of t) (label t).id 0 (behind_inside u)) i ≡ Some true =
    ap₂ (λ n (us : Trees). slice_get (turns (page_of t) n 0 us) i) z b ∙ turn in
    let here : slice_get (listed (behind_inside u)) i ≡ Some v = ap (λ (us : Trees). slice_get (listed us) i) b ∙ is in
    let l = later (page_of t) (label t).id 0 (behind_inside u) i v here own in
    let c : Child (page_of t) t v (partner (page_of t) v) = child (page_of t) (sound t w) t v (root_begins t u w o).has l.stays in
    let least = c.least in
    let begin = body_inside t w.body in
    unedited_untouched t u w o (i ∷ []) (partner (page_of t) v) v
    (v, (record { is = here; turn = own; behind = record { from = omega (arith, least, begin); to = c.most } }), (refl, refl)) n e
