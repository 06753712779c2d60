-- What fits where no group is open goes on with none: its first element stands by itself or begins a group,
-- whatever group is open before it, so it fits there to the same.
use Rattle.std.proofs.Common.{◌≡◌, ℕ, suc, ◌+◌, Bool, true, false, Option, Some, None, Result, Ok, Err, List, refl, sym, ap, subst, codes}
use Rattle.std.specs.Prelude.{◌||◌, if◌then◌else◌, IfOk}
use Rattle.std.specs.Option.{option_map}
use Rattle.std.proofs.lemmas.Bool.{and_right}
use Rattle.wt_tree.specs.declared.kind.Kind.{Kind}
use Rattle.wt_tree.specs.Tree.{Tree, none as no_trees}
use Rattle.wt_html_grammar.specs.Markup.{Pair, Markups, text, node, empty, more}
use Rattle.wt_schema.specs.declared.why.FitWhy.TheVariants as why
use Rattle.wt_schema.specs.declared.standing.Standing.{Standing}
use Rattle.wt_schema.specs.declared.standing.Standing.TheVariants as stands
use Rattle.wt_schema.specs.Attributes.{value_of, has}
use Rattle.wt_schema.specs.Data.{Data, data_for}
use Rattle.wt_schema.specs.Fit.{Misfit, leaf_in, label_as, elements_of_all, texts_in, onto_told, with_children, one_piece, text_fits, within, is_block_row, row_as, fits_place, fit_told, fit_as, fit_row, fit_nodes}
use Rattle.wt_schema.specs.Groups.{standing_by, open_by, is_further, is_grouped, is_gap, goes_on, Piece, single, begun, further, furthers}
use Rattle.wt_page_round_trip.proofs.Numbers.{SameOk, same_self, spot}

-- where no group is open none goes on
pub none_goes_on : (ts : Markups) → goes_on None ts ≡ false
none_goes_on empty = refl
none_goes_on (more (text bs) ts) = and_right (is_gap bs) (goes_on None ts) (none_goes_on ts)
none_goes_on (more (node name ps c) ts) = by_about (value_of (codes "about") ps) (has (codes "data-mw") ps)
  where
    by_about : (about : Option (List ℕ)) (data_there : Bool) → is_further (standing_by None about data_there) ≡ false
    by_about None b = refl
    by_about (Some a) true = refl
    by_about (Some a) false = refl

-- ---- pieces that are no further element of a group

abbrev IsFront : Option Piece → Type 0
IsFront None = ⊥
IsFront (Some (single t)) = Unit
IsFront (Some (begun l t)) = Unit
IsFront (Some (further t)) = ⊥

one_front : (w : Standing) (ps : List Pair) (d : Data) (r : Result Tree Misfit) → is_further w ≡ false → IfOk (one_piece w ps d r) IsFront
one_front stands.Alone ps d (Ok t) h = tt
one_front stands.First ps d (Ok t) h = tt
one_front stands.Further ps d (Ok t) h = absurd (cc h)
one_front stands.Astray ps d (Ok t) h = tt
one_front w ps d (Err e) h = tt

data_front : (n : ℕ) (i : Bool) (w : Standing) (k : Kind) (ps : List Pair) (o : Option Data) (c : Markups) (r : Result (List Piece) Misfit)
    → is_further w ≡ false → IfOk (fit_told n i w k ps o c r) IsFront
data_front n i w k ps None c r h = tt
data_front n i w k ps (Some d) c r h = by_test (text_fits k c)
  where
    by_test : (b : Bool) → IfOk (if b then one_piece w ps d (with_children i k (label_as w k ps d (texts_in c)) r) else Err (n, why.Text)) IsFront
    by_test true = one_front w ps d (with_children i k (label_as w k ps d (texts_in c)) r) h
    by_test false = tt

row_front : (n : ℕ) (p : Kind) (i b : Bool) (g : Option (List ℕ)) (w : Standing) (j : Option Kind) (ps : List Pair) (c : Markups)
    (held : Kind → Result (List Piece) Misfit) → is_further w ≡ false → IfOk (fit_row n (spot p i b g) w j ps c held) IsFront
row_front n p i b g w None ps c held h = tt
row_front n p i b g w (Some k) ps c held h = by_test (fits_place p b w k c)
  where
    by_test : (a : Bool) → IfOk (if a then fit_as n (spot p i b g) w k ps c (held k) else Err (n, why.Place)) IsFront
    by_test true = data_front n (i || is_grouped w) w k ps (data_for i w k ps) c (held k) h
    by_test false = tt

-- an element with an `about` that is no group's doesn't fit
astray_misfit : (n : ℕ) (p : Kind) (i b : Bool) (g : Option (List ℕ)) (j : Option Kind) (ps : List Pair) (c : Markups)
    (held : Kind → Result (List Piece) Misfit) → IfOk (fit_row n (spot p i b g) stands.Astray j ps c held) (λ o. ⊥)
astray_misfit n p i b g None ps c held = tt
astray_misfit n p i b g (Some k) ps c held = by_test (fits_place p b stands.Astray k c)
  where
    by_test : (a : Bool) → IfOk (if a then fit_as n (spot p i b g) stands.Astray k ps c (held k) else Err (n, why.Place)) (λ o. ⊥)
    by_test true = tt
    by_test false = tt

with_front : (o : Result (Option Piece) Misfit) (r : Result (List Piece) Misfit) (Q : Type 0) → IfOk o IsFront → Q
    → IfOk (onto_told o r) (λ ws. (furthers ws ≡ no_trees) × Q)
with_front (Ok None) r Q h q = absurd h
with_front (Ok (Some (single t))) (Ok ws) Q h q = (refl, q)
with_front (Ok (Some (single t))) (Err e) Q h q = tt
with_front (Ok (Some (begun l t))) (Ok ws) Q h q = (refl, q)
with_front (Ok (Some (begun l t))) (Err e) Q h q = tt
with_front (Ok (Some (further t))) r Q h q = absurd h
with_front (Err e) r Q h q = tt

from_misfit : (o : Result (Option Piece) Misfit) (r : Result (List Piece) Misfit) (Q : List Piece → Type 0) → IfOk o (λ p. ⊥) → IfOk (onto_told o r) Q
from_misfit (Ok p) r Q h = absurd h
from_misfit (Err e) r Q h = tt

same_misfit : (o : Result (Option Piece) Misfit) (r s : Result (List Piece) Misfit) → IfOk o (λ p. ⊥) → SameOk (onto_told o r) s
same_misfit (Ok p) r s h = absurd h
same_misfit (Err e) r s h = tt

-- ---- no group goes on

abbrev pub GoesOnAlone : Markups → List Piece → Type 0
GoesOnAlone ts ws = (furthers ws ≡ no_trees) × ((g : Option (List ℕ)) → goes_on g ts ≡ false)

text_alone : (o : Option Tree) (bs : List ℕ) (ts : Markups) (r : Result (List Piece) Misfit) → IfOk r (GoesOnAlone ts)
    → IfOk (onto_told (Ok (option_map single o)) r) (GoesOnAlone (more (text bs) ts))
text_alone None bs ts (Ok ws) h = (h.0, λ g. and_right (is_gap bs) (goes_on g ts) (h.1 g))
text_alone (Some t) bs ts (Ok ws) h = (refl, λ g. and_right (is_gap bs) (goes_on g ts) (h.1 g))
text_alone None bs ts (Err e) h = tt
text_alone (Some t) bs ts (Err e) h = tt

-- an element, by its `about` and whether it has data of a group
node_alone : (about : Option (List ℕ)) (data_there : Bool) (n : ℕ) (p : Kind) (i b : Bool) (j : Standing → Option Kind) (ps : List Pair) (c : Markups)
    (held : Standing → Kind → Result (List Piece) Misfit) (r : Standing → Result (List Piece) Misfit)
    → let w = standing_by None about data_there in
    IfOk (onto_told (fit_row n (spot p i b None) w (j w) ps c (held w)) (r w))
    (λ ws. (furthers ws ≡ no_trees) × ((g : Option (List ℕ)) → is_further (standing_by g about data_there) ≡ false))
node_alone None d n p i b j ps c held r =
    with_front (fit_row n (spot p i b None) stands.Alone (j stands.Alone) ps c (held stands.Alone)) (r stands.Alone) _
    (row_front n p i b None stands.Alone (j stands.Alone) ps c (held stands.Alone) refl) (λ g. refl)
node_alone (Some a) true n p i b j ps c held r =
    with_front (fit_row n (spot p i b None) stands.First (j stands.First) ps c (held stands.First)) (r stands.First) _
    (row_front n p i b None stands.First (j stands.First) ps c (held stands.First) refl) (λ g. refl)
node_alone (Some a) false n p i b j ps c held r =
    from_misfit (fit_row n (spot p i b None) stands.Astray (j stands.Astray) ps c (held stands.Astray)) (r stands.Astray) _
    (astray_misfit n p i b None (j stands.Astray) ps c (held stands.Astray))

pub alone : (ts : Markups) (n : ℕ) (p : Kind) (i b : Bool) → IfOk (fit_nodes n (spot p i b None) ts) (GoesOnAlone ts)
alone empty n p i b = (refl, λ g. refl)
alone (more (text bs) ts) n p i b =
    subst (λ (d : Bool). IfOk (onto_told (Ok (if d then None else option_map single (leaf_in p bs)))
    (fit_nodes (n + 0) (spot p i (b || false) (if d then None else None)) ts)) (GoesOnAlone (more (text bs) ts)))
    (sym (and_right (is_gap bs) (goes_on None ts) (none_goes_on ts)))
    (text_alone (leaf_in p bs) bs ts (fit_nodes (n + 0) (spot p i (b || false) None) ts) (alone ts (n + 0) p i (b || false)))
alone (more (node name ps c) ts) n p i b =
    node_alone (value_of (codes "about") ps) (has (codes "data-mw") ps) n p i b (λ w. row_as w name ps) ps c
    (λ w k. fit_nodes (suc n) (within k (i || is_grouped w)) c)
    (λ w. fit_nodes (n + suc (elements_of_all c)) (spot p i (b || is_block_row (row_as w name ps)) (open_by w None (value_of (codes "about") ps))) ts)

-- ---- and so the open group counts for nothing

text_group : (o : Option Tree) (r s : Result (List Piece) Misfit) → IfOk r (λ ws. s ≡ onto_told (Ok (option_map single o)) r)
    → SameOk (onto_told (Ok (option_map single o)) r) s
text_group None (Ok ws) s h = h
text_group (Some t) (Ok ws) s h = h
text_group None (Err e) s h = tt
text_group (Some t) (Err e) s h = tt

if_ok : (r : Result (List Piece) Misfit) (P Q : List Piece → Type 0) → ((ws : List Piece) → P ws → Q ws) → IfOk r P → IfOk r Q
if_ok (Ok ws) P Q f h = f ws h
if_ok (Err e) P Q f h = tt

node_group : (about : Option (List ℕ)) (data_there : Bool) (g : Option (List ℕ)) (n : ℕ) (p : Kind) (i b : Bool) (j : Standing → Option Kind)
    (ps : List Pair) (c : Markups) (held : Standing → Kind → Result (List Piece) Misfit) (r : Standing → Option (List ℕ) → Result (List Piece) Misfit)
    → let v = standing_by None about data_there in
    let w = standing_by g about data_there in
    SameOk (onto_told (fit_row n (spot p i b None) v (j v) ps c (held v)) (r v (open_by v None about)))
    (onto_told (fit_row n (spot p i b g) w (j w) ps c (held w)) (r w (open_by w g about)))
node_group None d g n p i b j ps c held r = same_self (onto_told (fit_row n (spot p i b None) stands.Alone (j stands.Alone) ps c (held stands.Alone)) (r stands.Alone None))
node_group (Some a) true g n p i b j ps c held r =
    same_self (onto_told (fit_row n (spot p i b None) stands.First (j stands.First) ps c (held stands.First)) (r stands.First (Some a)))
node_group (Some a) false g n p i b j ps c held r =
    same_misfit (fit_row n (spot p i b None) stands.Astray (j stands.Astray) ps c (held stands.Astray)) (r stands.Astray None) _
    (astray_misfit n p i b None (j stands.Astray) ps c (held stands.Astray))

pub same_group : (ts : Markups) (n : ℕ) (p : Kind) (i b : Bool) (g : Option (List ℕ))
    → SameOk (fit_nodes n (spot p i b None) ts) (fit_nodes n (spot p i b g) ts)
same_group empty n p i b g = refl
same_group (more (text bs) ts) n p i b g =
    let o = leaf_in p bs in
    let r = fit_nodes (n + 0) (spot p i (b || false) None) ts in
    subst (λ (d : Bool). SameOk (onto_told (Ok (if d then None else option_map single o)) (fit_nodes (n + 0) (spot p i (b || false) (if d then None else None)) ts))
    (fit_nodes n (spot p i b g) (more (text bs) ts)))
    (sym (and_right (is_gap bs) (goes_on None ts) (none_goes_on ts)))
    (text_group o r (fit_nodes n (spot p i b g) (more (text bs) ts))
    (if_ok r (GoesOnAlone ts) _ (λ ws h. ap (λ (d : Bool). onto_told (Ok (if d then None else option_map single o))
    (fit_nodes (n + 0) (spot p i (b || false) (if d then g else None)) ts)) (and_right (is_gap bs) (goes_on g ts) (h.1 g)))
    (alone ts (n + 0) p i (b || false))))
same_group (more (node name ps c) ts) n p i b g =
    node_group (value_of (codes "about") ps) (has (codes "data-mw") ps) g n p i b (λ w. row_as w name ps) ps c
    (λ w k. fit_nodes (suc n) (within k (i || is_grouped w)) c)
    (λ w h. fit_nodes (n + suc (elements_of_all c)) (spot p i (b || is_block_row (row_as w name ps)) h) ts)
