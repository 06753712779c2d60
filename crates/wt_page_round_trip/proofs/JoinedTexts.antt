-- A body in which texts side by side are one fits to what shows the same and has the same source.
use Rattle.std.proofs.Common.{◌≡◌, ℕ, suc, ◌+◌, ◌++◌, Bool, true, false, Option, Some, None, Result, Ok, List, [], ◌∷◌, refl, sym, ap, ◌∙◌, subst, codes}
use Rattle.std.specs.Prelude.{◌==◌, ◌&&◌, ◌||◌, if◌then◌else◌}
use Rattle.std.specs.List.{list_all}
use Rattle.std.specs.Option.{option_map}
use Rattle.std.proofs.lemmas.List.{append_assoc}
use Rattle.std.proofs.lemmas.Bool.{and_parts, and_right}
use Rattle.wt_tree.specs.declared.kind.Kind.TheVariants as kind
use Rattle.wt_tree.specs.Kinds.{is_section}
use Rattle.wt_tree.specs.Opened.{opened_before, all_opened_before, opened}
use Rattle.wt_tree.specs.Plain.{Plains, plain_before, plains_before}
use Rattle.wt_tree.specs.Leaves.{sep_leaf}
use Rattle.wt_recut.specs.Recut.{is_white, is_blank}
use Rattle.wt_tree.specs.Source.{flat, flat_of_all}
use Rattle.wt_tree.specs.Tree.{Tree, tree, Trees, none as no_trees, more as one_more}
use Rattle.wt_html_grammar.specs.Markup.{Markups, text, node, empty, more}
use Rattle.wt_schema.specs.Attributes.{value_of}
use Rattle.wt_schema.specs.Fit.{Misfit, leaf_in, elements_of_all, are_blank, onto, onto_told, within, is_block_row, row_as, fit_row, fit_nodes}
use Rattle.wt_schema.specs.Groups.{standing, open_by, is_grouped, is_gap, goes_on, is_dropped, Piece, single, begun, further, furthers, gathered}
use Rattle.wt_page_round_trip.specs.JoinedTexts.{text_before, texts_joined}
use Rattle.wt_page_round_trip.proofs.Numbers.{spot, same_ok, nodes_same}
use Rattle.wt_page_round_trip.proofs.Alone.{none_goes_on}
use Rattle.wt_page_round_trip.proofs.Openings.{IsMadeOf, made_of, onto_if, onto_pieces, first_of}

-- ---- trees that show the same and have the same source

abbrev pub AreAlike : Trees → Trees → Type 0
AreAlike ts us = (flat_of_all ts ≡ flat_of_all us) × ((rest : Plains) → plains_before ts rest ≡ plains_before us rest)

also_alike : (t : Tree) (ts us : Trees) → AreAlike ts us → AreAlike (one_more t ts) (one_more t us)
also_alike t ts us h = (ap (λ bs. flat t ++ bs) h.0, λ rest. ap (plain_before t) (h.1 rest))

mutual
  before_alike : (t : Tree) (ts us : Trees) → AreAlike ts us → AreAlike (opened_before t ts) (opened_before t us)
  before_alike (tree l vs) ts us h = by_kind (is_section l.kind) (all_before_alike vs ts us h)
    where
      by_kind : (b : Bool) → AreAlike (all_opened_before vs ts) (all_opened_before vs us)
          → AreAlike (if b then all_opened_before vs ts else one_more (tree l vs) ts) (if b then all_opened_before vs us else one_more (tree l vs) us)
      by_kind true g = g
      by_kind false g = also_alike (tree l vs) ts us h

  all_before_alike : (vs ts us : Trees) → AreAlike ts us → AreAlike (all_opened_before vs ts) (all_opened_before vs us)
  all_before_alike no_trees ts us h = h
  all_before_alike (one_more t vs) ts us h = before_alike t (all_opened_before vs ts) (all_opened_before vs us) (all_before_alike vs ts us h)

abbrev trees_of : List Piece → Trees
trees_of xs = opened (gathered xs)

piece_alike : (q : Option Piece) (ws xs : List Piece) → AreAlike (trees_of ws) (trees_of xs) → furthers ws ≡ furthers xs
    → AreAlike (trees_of (onto_if q ws)) (trees_of (onto_if q xs))
piece_alike None ws xs h f = h
piece_alike (Some (single t)) ws xs h f = before_alike t (trees_of ws) (trees_of xs) h
piece_alike (Some (begun l t)) ws xs h f =
    subst (λ (v : Trees). AreAlike (opened_before (tree l (one_more t v)) (trees_of ws)) (opened_before (tree l (one_more t (furthers xs))) (trees_of xs)))
    (sym f) (before_alike (tree l (one_more t (furthers xs))) (trees_of ws) (trees_of xs) h)
piece_alike (Some (further t)) ws xs h f = h

further_alike : (q : Option Piece) (ws xs : List Piece) → furthers ws ≡ furthers xs → furthers (onto_if q ws) ≡ furthers (onto_if q xs)
further_alike None ws xs f = f
further_alike (Some (single t)) ws xs f = refl
further_alike (Some (begun l t)) ws xs f = refl
further_alike (Some (further t)) ws xs f = ap (one_more t) f

-- two separators and the one that is both
seps_alike : (bs cs : List ℕ) (ts us : Trees) → AreAlike (one_more (sep_leaf None cs) ts) us
    → AreAlike (one_more (sep_leaf None (bs ++ cs)) ts) (one_more (sep_leaf None bs) us)
seps_alike bs cs ts us h = (append_assoc bs cs (flat_of_all ts) ∙ ap (λ w. bs ++ w) h.0, h.1)

-- ---- texts

all_both : (p : ℕ → Bool) (bs cs : List ℕ) → list_all p (bs ++ cs) ≡ (list_all p bs && list_all p cs)
all_both p [] cs = refl
all_both p (b ∷ bs) cs = by_first (p b) (all_both p bs cs)
  where
    by_first : (x : Bool) → list_all p (bs ++ cs) ≡ (list_all p bs && list_all p cs) → (x && list_all p (bs ++ cs)) ≡ ((x && list_all p bs) && list_all p cs)
    by_first true h = h
    by_first false h = refl

and_again : (a b c : Bool) → ((a && b) && c) ≡ (a && (b && c))
and_again true b c = refl
and_again false b c = refl

gap_both : (bs cs : List ℕ) (b : Bool) → (is_gap (bs ++ cs) && b) ≡ (is_gap bs && (is_gap cs && b))
gap_both bs cs b = ap (λ a. a && b) (all_both (λ c. is_white c || c == 13) bs cs) ∙ and_again (is_gap bs) (is_gap cs) b

pub blank_joined : (ts : Markups) → are_blank (texts_joined ts) ≡ are_blank ts
blank_joined empty = refl
blank_joined (more (text bs) ts) = by_next (texts_joined ts) ∙ ap (λ b. is_blank bs && b) (blank_joined ts)
  where
    by_next : (us : Markups) → are_blank (text_before bs us) ≡ (is_blank bs && are_blank us)
    by_next empty = refl
    by_next (more (text cs) us) = ap (λ a. a && are_blank us) (all_both is_white bs cs) ∙ and_again (is_blank bs) (is_blank cs) (are_blank us)
    by_next (more (node name ps c) us) = refl
blank_joined (more (node name ps c) ts) = blank_joined ts

goes_joined : (h : Option (List ℕ)) (ts : Markups) → goes_on h (texts_joined ts) ≡ goes_on h ts
goes_joined h empty = refl
goes_joined h (more (text bs) ts) = by_next (texts_joined ts) ∙ ap (λ b. is_gap bs && b) (goes_joined h ts)
  where
    by_next : (us : Markups) → goes_on h (text_before bs us) ≡ (is_gap bs && goes_on h us)
    by_next empty = refl
    by_next (more (text cs) us) = gap_both bs cs (goes_on h us)
    by_next (more (node name ps c) us) = refl
goes_joined h (more (node name ps c) ts) = refl

-- ---- what the joined ones fit to

pub record Joins (ts : Markups) (n : ℕ) (b : Bool) (g : Option (List ℕ)) (xs : List Piece) : Type 0 where
  pub pieces : List Piece
  pub fits : fit_nodes n (spot kind.Body false b g) ts ≡ Ok pieces
  pub alike : AreAlike (trees_of pieces) (trees_of xs)
  further_ones : furthers pieces ≡ furthers xs

-- a text in the body that is nothing in a group, or a separator
abbrev text_piece : Bool → List ℕ → Option Piece
text_piece d bs = if d then None else Some (single (sep_leaf None bs))

abbrev behind_text : Bool → Option (List ℕ) → Option (List ℕ)
behind_text d g = if d then g else None

-- a text before what is behind it, by whether it is nothing
text_fit : (bs : List ℕ) (us : Markups) (n : ℕ) (b : Bool) (g : Option (List ℕ)) (d : Bool) (ws : List Piece) → is_dropped g bs us ≡ d
    → fit_nodes (n + 0) (spot kind.Body false (b || false) (behind_text d g)) us ≡ Ok ws
    → fit_nodes n (spot kind.Body false b g) (more (text bs) us) ≡ Ok (onto_if (text_piece d bs) ws)
text_fit bs us n b g d ws e f =
    ap (λ a. onto_told (Ok (if a then None else option_map single (leaf_in kind.Body bs))) (fit_nodes (n + 0) (spot kind.Body false (b || false) (behind_text a g)) us)) e
    ∙ by_piece d f
  where
    by_piece : (a : Bool) → fit_nodes (n + 0) (spot kind.Body false (b || false) (behind_text a g)) us ≡ Ok ws
        → onto_told (Ok (if a then None else option_map single (leaf_in kind.Body bs))) (fit_nodes (n + 0) (spot kind.Body false (b || false) (behind_text a g)) us)
        ≡ Ok (onto_if (text_piece a bs) ws)
    by_piece true h = h
    by_piece false h = ap (onto (single (sep_leaf None bs))) h

or_none_again : (b : Bool) → ((b || false) || false) ≡ (b || false)
or_none_again true = refl
or_none_again false = refl

-- what a text that fits is made of
record IsTextOf (bs : List ℕ) (us : Markups) (n : ℕ) (b : Bool) (g : Option (List ℕ)) (d : Bool) (ws : List Piece) : Type 0 where
  others : List Piece
  others_fit : fit_nodes (n + 0) (spot kind.Body false (b || false) (behind_text d g)) us ≡ Ok others
  all : onto_if (text_piece d bs) others ≡ ws

text_made : (bs : List ℕ) (us : Markups) (n : ℕ) (b : Bool) (g : Option (List ℕ)) (d : Bool) (ws : List Piece) → is_dropped g bs us ≡ d
    → fit_nodes n (spot kind.Body false b g) (more (text bs) us) ≡ Ok ws → IsTextOf bs us n b g d ws
text_made bs us n b g d ws e f =
    by_piece d (sym (ap (λ a. onto_told (Ok (if a then None else option_map single (leaf_in kind.Body bs)))
    (fit_nodes (n + 0) (spot kind.Body false (b || false) (behind_text a g)) us)) e) ∙ f)
  where
    by_made : (a : Bool) (r : Result (List Piece) Misfit) → IsMadeOf (Ok (text_piece a bs)) r ws → (q : Option Piece) (vs : List Piece) → r ≡ Ok vs → onto_if q vs ≡ ws
        → Path (Result (Option Piece) Misfit) (Ok (text_piece a bs)) (Ok q) → onto_if (text_piece a bs) vs ≡ ws
    by_made a r m q vs h all p = subst (λ (x : Option Piece). onto_if x vs ≡ ws) (sym (first_of (text_piece a bs) q p)) all

    from_parts : (a : Bool) → IsMadeOf (Ok (text_piece a bs)) (fit_nodes (n + 0) (spot kind.Body false (b || false) (behind_text a g)) us) ws → IsTextOf bs us n b g a ws
    from_parts a m = record {
      others = m.others;
      others_fit = m.others_fit;
      all = by_made a (fit_nodes (n + 0) (spot kind.Body false (b || false) (behind_text a g)) us) m m.first m.others m.others_fit m.all m.first_fits;
    }

    by_piece : (a : Bool) → onto_told (Ok (if a then None else option_map single (leaf_in kind.Body bs)))
        (fit_nodes (n + 0) (spot kind.Body false (b || false) (behind_text a g)) us) ≡ Ok ws → IsTextOf bs us n b g a ws
    by_piece true h = from_parts true (made_of (Ok None) (fit_nodes (n + 0) (spot kind.Body false (b || false) g) us) ws h)
    by_piece false h = from_parts false (made_of (Ok (Some (single (sep_leaf None bs)))) (fit_nodes (n + 0) (spot kind.Body false (b || false) None) us) ws h)

-- two texts as one, before these: the second is nothing only where the first is
two_fit : (bs cs : List ℕ) (us : Markups) (n : ℕ) (b : Bool) (g : Option (List ℕ)) (xs ws : List Piece) (d : Bool)
    → is_dropped g bs (more (text cs) us) ≡ d
    → fit_nodes (n + 0) (spot kind.Body false (b || false) (behind_text d g)) (more (text cs) us) ≡ Ok ws
    → AreAlike (trees_of ws) (trees_of xs) → furthers ws ≡ furthers xs
    → Joins (more (text (bs ++ cs)) us) n b g (onto_if (text_piece d bs) xs)
two_fit bs cs us n b g xs ws true e f h k =
    let inner : is_dropped g cs us ≡ true = (and_parts (is_gap bs) (is_gap cs && goes_on g us) e).1 in
    let t = text_made cs us (n + 0) (b || false) g true ws inner f in
    let moved = same_ok (fit_nodes (n + 0 + 0) (spot kind.Body false ((b || false) || false) g) us) (fit_nodes (n + 0) (spot kind.Body false ((b || false) || false) g) us)
    t.others (nodes_same us (n + 0 + 0) (n + 0) (spot kind.Body false ((b || false) || false) g)) t.others_fit in
    let fit_to = subst (λ (v : List Piece). fit_nodes (n + 0) (spot kind.Body false ((b || false) || false) g) us ≡ Ok v) t.all moved in
    record {
      pieces = ws;
      fits = text_fit (bs ++ cs) us n b g true ws (gap_both bs cs (goes_on g us) ∙ e)
          (subst (λ (v : Bool). fit_nodes (n + 0) (spot kind.Body false v g) us ≡ Ok ws) (or_none_again b) fit_to);
      alike = h;
      further_ones = k;
    }
two_fit bs cs us n b g xs ws false e f h k =
    let inner : is_dropped None cs us ≡ false = and_right (is_gap cs) (goes_on None us) (none_goes_on us) in
    let t = text_made cs us (n + 0) (b || false) None false ws inner f in
    let moved = same_ok (fit_nodes (n + 0 + 0) (spot kind.Body false ((b || false) || false) None) us)
    (fit_nodes (n + 0) (spot kind.Body false ((b || false) || false) None) us) t.others
    (nodes_same us (n + 0 + 0) (n + 0) (spot kind.Body false ((b || false) || false) None)) t.others_fit in
    record {
      pieces = single (sep_leaf None (bs ++ cs)) ∷ t.others;
      fits = text_fit (bs ++ cs) us n b g false t.others (gap_both bs cs (goes_on g us) ∙ e)
          (subst (λ (v : Bool). fit_nodes (n + 0) (spot kind.Body false v None) us ≡ Ok t.others) (or_none_again b) moved);
      alike = seps_alike bs cs (trees_of t.others) (trees_of xs) (subst (λ (v : List Piece). AreAlike (trees_of v) (trees_of xs)) (sym t.all) h);
      further_ones = refl;
    }

text_joins : (bs : List ℕ) (us : Markups) (n : ℕ) (b : Bool) (g : Option (List ℕ)) (xs ws : List Piece) (d : Bool) → is_dropped g bs us ≡ d
    → fit_nodes (n + 0) (spot kind.Body false (b || false) (behind_text d g)) us ≡ Ok ws → AreAlike (trees_of ws) (trees_of xs)
    → furthers ws ≡ furthers xs → Joins (text_before bs us) n b g (onto_if (text_piece d bs) xs)
text_joins bs empty n b g xs ws d e f h k = record {
  pieces = onto_if (text_piece d bs) ws;
  fits = text_fit bs empty n b g d ws e f;
  alike = piece_alike (text_piece d bs) ws xs h k;
  further_ones = further_alike (text_piece d bs) ws xs k;
}
text_joins bs (more (text cs) us) n b g xs ws d e f h k = two_fit bs cs us n b g xs ws d e f h k
text_joins bs (more (node name ps c) us) n b g xs ws d e f h k = record {
  pieces = onto_if (text_piece d bs) ws;
  fits = text_fit bs (more (node name ps c) us) n b g d ws e f;
  alike = piece_alike (text_piece d bs) ws xs h k;
  further_ones = further_alike (text_piece d bs) ws xs k;
}

pub joins : (ts : Markups) (n : ℕ) (b : Bool) (g : Option (List ℕ)) (xs : List Piece) → fit_nodes n (spot kind.Body false b g) ts ≡ Ok xs
    → Joins (texts_joined ts) n b g xs
joins empty n b g xs e = record { pieces = xs; fits = e; alike = (refl, λ rest. refl); further_ones = refl }
joins (more (text bs) ts) n b g xs e =
    let d = is_dropped g bs ts in
    let t = text_made bs ts n b g d xs refl e in
    let o = joins ts (n + 0) (b || false) (behind_text d g) t.others t.others_fit in
    subst (λ (v : List Piece). Joins (text_before bs (texts_joined ts)) n b g v) t.all
    (text_joins bs (texts_joined ts) n b g t.others o.pieces d (ap (λ w. is_gap bs && w) (goes_joined g ts)) o.fits o.alike o.further_ones)
joins (more (node name ps c) ts) n b g xs e =
    let w = standing g ps in
    let j = row_as w name ps in
    let here = fit_row n (spot kind.Body false b g) w j ps c (λ k. fit_nodes (suc n) (within k (false || is_grouped w)) c) in
    let after = n + suc (elements_of_all c) in
    let open_behind = open_by w g (value_of (codes "about") ps) in
    let parts = made_of here (fit_nodes after (spot kind.Body false (b || is_block_row j) open_behind) ts) xs e in
    let o = joins ts after (b || is_block_row j) open_behind parts.others parts.others_fit in
    subst (λ (v : List Piece). Joins (more (node name ps c) (texts_joined ts)) n b g v) parts.all
    (record {
      pieces = onto_if parts.first o.pieces;
      fits = ap (λ (q : Result (Option Piece) Misfit). onto_told q (fit_nodes after (spot kind.Body false (b || is_block_row j) open_behind) (texts_joined ts)))
          parts.first_fits ∙ onto_pieces parts.first o.pieces _ o.fits;
      alike = piece_alike parts.first o.pieces parts.others o.alike o.further_ones;
      further_ones = further_alike parts.first o.pieces parts.others o.further_ones;
    })
